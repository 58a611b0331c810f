use Rattle.std.proofs.Common.{◌≡◌, List, ℕ, [], rules, ap₂, sym, ◌∙◌, slice_index_or}
use Rattle.std.specs.Borrow.{Bor}
use Rattle.clap.specs.Walk.{rule_of}
use Rattle.clap.specs.Simple.{with_rule}
use Rattle.command_words.specs.ClapCommand.{flag_argument}
use Rattle.command_words.proofs.ClapReading.{more_names}
use Rattle.command_words.proofs.parse.with_flags.Goals as goal

pub loop-name-preserved : goal.loop-name-preserved
loop-name-preserved c =
    let none : Bor (List ℕ) = record { ref_ptr = (0, 0); now = [] } in
    let rule : rule_of c.action-flag.result ≡ flag_argument (slice_index_or c.args.flags.now c.loop-name.name-index none).now = search rules in
    c.in_ok-command.ensures.shape (search rules) ∙ ap₂ with_rule c.loop-name.invariant rule
    ∙ sym (more_names (λ a name. with_rule a (flag_argument name)) _ c.args.flags.now c.loop-name.name-index none c.loop-name-test.true)
