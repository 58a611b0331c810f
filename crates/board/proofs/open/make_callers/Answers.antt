use Rattle.std.proofs.Common.{rules, subst, sym}
use Rattle.board.specs.Seated.{AreNew}
use Rattle.board.proofs.News.{new_snoc}
use Rattle.board.proofs.open.make_callers.Goals as goal

pub loop-made-preserved : goal.loop-made-preserved
loop-made-preserved c = record {
  table = c.make_caller.ensures.table;
  opener = c.make_caller.ensures.opener;
  count = search rules;
  new = subst (AreNew c.args.board.now) (sym c.in_ok-push.ensures.items) (new_snoc _ _ _ _ c.loop-made.invariant.count c.make_caller.ensures.new c.loop-made.invariant.new);
}
