use Rattle.std.proofs.Common.{List, length, ap, arith}
use Rattle.board.specs.Seated.{Seated}
use Rattle.tree_tests.specs.Ready.{IsResting}
use Rattle.tree_tests.proofs.Callers.{one_out}
use Rattle.tree_tests.proofs.boards.sorted.Goals as goal

pub loop-caller-preserved : goal.loop-caller-preserved
loop-caller-preserved c =
    let step = c.in-Some.ensures.steps.0 in
    let out = one_out (IsResting c.args.board.now) c.loop-caller.caller-iterator.rest.items c.next.new.self.rest.items c.in-Some.caller step c.loop-caller.invariant.callers in
    let long = ap (λ (l : List Seated). length l) step in
    let before = c.loop-caller.invariant.count in
    let count = c.in_ok-sort_in.ensures.count in
    record {
      callers = out.1;
      loadings = c.in_ok-sort_in.ensures.loadings;
      searchers = c.in_ok-sort_in.ensures.searchers;
      count = omega (arith, long, before, count);
    }
