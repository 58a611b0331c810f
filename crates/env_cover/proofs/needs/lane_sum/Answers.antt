use Rattle.std.proofs.Common.{◌+◌, ◌<◌, ◌≤◌, List, ℕ, length, take, sum, rules, ap, sym, ◌∙◌, arith}
use Rattle.std.proofs.lemmas.List.Sums.{sum_by_more}
use Rattle.env_cover.proofs.Pivots.{take-eight}
use Rattle.env_cover.proofs.needs.lane_sum.Goals as goal

pub overflow_add-sum : goal.overflow_add-sum
overflow_add-sum c =
    let small : c.loop-lane.sum ≤ 2040 = omega (arith, c.loop-lane.invariant.few, c.loop-lane.auto.lane-index-end) in
    let byte : c.from-sum.result < 256 = omega (arith, c.from-sum.ensures, c.loop-lane-test.element_fits.fits) in
    search rules

pub loop-lane-preserved : goal.loop-lane-preserved
loop-lane-preserved c =
    let byte : c.from-sum.result < 256 = omega (arith, c.from-sum.ensures, c.loop-lane-test.element_fits.fits) in
    record {
      is = ap (λ n. n + c.from-sum.result) c.loop-lane.invariant.is ∙ ap (λ n. sum (take c.loop-lane.lane-index c.to_le_bytes-lane-items.result) + n) c.from-sum.ensures
          ∙ sym (sum_by_more (λ x. x) c.to_le_bytes-lane-items.result c.loop-lane.lane-index 0 (omega (arith, ap length c.to_le_bytes-lane-items.ensures)));
      few = omega (arith, c.loop-lane.invariant.few);
    }

pub returns : goal.returns
returns c = c.loop-lane.invariant.is ∙ ap (λ (xs : List ℕ). sum (take c.loop-lane.lane-index xs)) c.to_le_bytes-lane-items.ensures ∙ take-eight c.args.word c.loop-lane.lane-index (omega arith)
