-- What the matches of a command say is its task.
use Rattle.std.proofs.Common.{◌≡◌, ◌-◌, ◌^◌, List, refl, codes}
use Rattle.std.specs.Prelude.{Option, Some, None}
use Rattle.clap.specs.declared.parser.matches.ArgMatches.{ArgMatches}
use Rattle.command_words.specs.Arguments.{Argument}
use Rattle.command_words.specs.ClapCommand.{AreMatchesOf, value_said, words_said}
use Rattle.command_words.specs.Tasks.{given_or, only, run_options, run_task, run_with, shape_of, shape_said}

-- what the matches of `run` say
pub run_said : (matches : ArgMatches) (said : Option (List Argument)) → AreMatchesOf run_options said (Some matches)
    → run_with (only (words_said matches)) (shape_said (value_said matches)) (given_or 10000000000 0 (2 ^ 64 - 1) (value_said matches (codes "budget"))) ≡ run_task said
run_said matches None h = absurd h
run_said matches (Some arguments) h = λ i.
    run_with (only (h.words i))
    (shape_of (given_or 2 1 16 (h.value (codes "loaders") refl refl i)) (given_or 2 1 16 (h.value (codes "searchers") refl refl i))
    (given_or 1048576 16 4194304 (h.value (codes "pages") refl refl i)) (given_or 4194304 10 16777216 (h.value (codes "room") refl refl i))
    (given_or 1048576 1 1048576 (h.value (codes "log") refl refl i)) (given_or 65535 2 65535 (h.value (codes "chain") refl refl i)))
    (given_or 10000000000 0 (2 ^ 64 - 1) (h.value (codes "budget") refl refl i))

pub run_none : (said : Option (List Argument)) → AreMatchesOf run_options said None → None ≡ run_task said
run_none None h = refl
run_none (Some arguments) h = absurd h
