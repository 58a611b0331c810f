use Rattle.std.proofs.Common.{◌++◌, ◌∷◌, [], sym, subst}
use Rattle.std.proofs.lemmas.Result.{on_ok_weaker}
use Rattle.mol_section.specs.SectionRecord.{accepted}
use Rattle.command_ends.specs.RecordTexts.{accepted_records}
use Rattle.tool_commands.specs.Takers.{FindHolds}
use Rattle.tool_commands.proofs.Taken.{FindHolds-accepted}
use Rattle.tool_commands.proofs.find_taker.FindTakerTaker.accept.Goals as goal

pub returns-clause-holds : goal.returns-clause-holds
returns-clause-holds c =
    let t = c.args.self.now.search in
    let n = c.take.new.self in
    let refused_text = c.args.self.now.refused.items in
    on_ok_weaker c.take.result
    (λ more. λ outcomes long marked is same holds.
    subst (λ q. FindHolds q n.budget refused_text n.left n.lines.items n.count n.number (outcomes ++ accepted c.args.name.now marked ∷ [])) (sym c.take.ensures.asked)
    (subst (λ b. FindHolds t.matcher b refused_text n.left n.lines.items n.count n.number (outcomes ++ accepted c.args.name.now marked ∷ [])) (sym c.take.ensures.budget)
    (FindHolds-accepted t.matcher t.budget refused_text t.left n.left t.lines.items n.lines.items t.count n.count t.number n.number c.args.name.now marked outcomes holds
    (more (accepted_records outcomes) (sym holds.number_is) marked is same holds.search) c.take.ensures.number)))
    c.take.ensures.holds
