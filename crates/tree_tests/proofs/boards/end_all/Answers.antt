use Rattle.std.proofs.Common.{List, length, ap, arith}
use Rattle.tree_tests.specs.declared.loads.Loading.{Loading}
use Rattle.tree_tests.specs.Ready.{IsLoading}
use Rattle.tree_tests.proofs.Callers.{one_out}
use Rattle.tree_tests.proofs.boards.end_all.Goals as goal

pub loop-loading-preserved : goal.loop-loading-preserved
loop-loading-preserved c =
    let step = c.in-Some.ensures.steps.0 in
    let out = one_out (λ (l : Loading). IsLoading c.args.board.now l.caller) c.loop-loading.loading-iterator.rest.items c.next.new.self.rest.items c.in-Some.loading step c.loop-loading.invariant.loadings in
    let long = ap (λ (l : List Loading). length l) step in
    let before = c.loop-loading.invariant.count in
    let count = c.in_ok-end_one.ensures.count in
    record {
      loadings = out.1;
      callers = c.in_ok-end_one.ensures.callers;
      count = omega (arith, long, before, count);
    }
