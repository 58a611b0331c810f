use Rattle.std.proofs.Common.{◌∙◌, map, string_bytes, subst}
use Rattle.std.specs.Prelude.{Option}
use Rattle.clap.specs.declared.parser.matches.ArgMatches.{ArgMatches}
use Rattle.command_words.specs.Arguments.{arguments}
use Rattle.command_words.specs.ClapCommand.{AreMatchesOf}
use Rattle.command_words.specs.Tasks.{run_options}
use Rattle.command_words.proofs.Said.{run_none, run_said}
use Rattle.command_words.proofs.tasks.run_command.Goals as goal

pub returns-in-Some-clause-task : goal.returns-in-Some-clause-task
returns-in-Some-clause-task c =
    c.run_in.ensures.task
    ∙ run_said c.in-Some.matches _
    (subst (λ (m : Option ArgMatches). AreMatchesOf run_options (arguments run_options (map string_bytes c.args.words.now)) m) c.in-Some.is c.in_ok-matches.ensures)

pub returns-in-None-clause-task : goal.returns-in-None-clause-task
returns-in-None-clause-task c =
    run_none _ (subst (λ (m : Option ArgMatches). AreMatchesOf run_options (arguments run_options (map string_bytes c.args.words.now)) m) c.in-None.is c.in_ok-matches.ensures)
