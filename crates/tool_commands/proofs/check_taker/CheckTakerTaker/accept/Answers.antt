use Rattle.std.proofs.Common.{length, ◌+◌, refl, ap, sym, ◌∙◌}
use Rattle.tool_commands.proofs.Taken.{CheckHolds-accepted}
use Rattle.tool_commands.proofs.Unmarked.{same-atoms, same-bonds}
use Rattle.tool_commands.proofs.check_taker.CheckTakerTaker.accept.Goals as goal

pub returns-clause-holds : goal.returns-clause-holds
returns-clause-holds c = λ outcomes long marked is same holds.
    CheckHolds-accepted _ _ _ _ _ c.args.place (length c.atoms-atoms.result.now) (length c.bonds-bonds.result.now) _ c.args.name.now marked outcomes holds (c.requires.next ∙ ap (λ n. n + 1) (sym long)) c.in_ok-push_ok.ensures.ok
    (ap length c.atoms-atoms.ensures.items ∙ same-atoms _ _ same) (ap length c.bonds-bonds.ensures.items ∙ same-bonds _ _ same) c.bytes.ensures.items refl
