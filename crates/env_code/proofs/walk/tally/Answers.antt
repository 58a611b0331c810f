use Rattle.std.proofs.Common.{◌+◌, min, false, get_or, set, refl, ap, ◌∙◌, arith}
use Rattle.env_code.proofs.Lanes.{AreDone-raised, bool_byte-one}
use Rattle.env_code.proofs.walk.tally.Goals as goal

pub loop-lane-init : goal.loop-lane-init
loop-lane-init c = record { size = omega arith; done = λ i less. absurd (omega arith); rest = λ i low. refl }

pub loop-lane-preserved : goal.loop-lane-preserved
loop-lane-preserved c =
    let raised = c.saturating_add.result in
    AreDone-raised c.args.lanes c.args.counts.now c.loop-lane.counts (set c.loop-lane.counts c.loop-lane.lane raised) c.loop-lane.lane raised c.loop-lane.invariant c.loop-lane-test.true
    (c.saturating_add.ensures ∙ ap (λ n. min (get_or c.loop-lane.counts c.loop-lane.lane 0 + n) 255) (c.from.ensures ∙ bool_byte-one (get_or c.args.lanes c.loop-lane.lane false))) refl

pub returns : goal.returns
returns c = record { size = c.loop-lane.invariant.size; at = λ i less. c.loop-lane.invariant.done i (omega arith) }
