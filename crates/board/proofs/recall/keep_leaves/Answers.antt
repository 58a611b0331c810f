use Rattle.std.proofs.Common.{sym, subst, ap}
use Rattle.board_core.specs.Passing.{AreKeptOf}
use Rattle.board_core.specs.After.{visited}
use Rattle.board.specs.Seated.{Seated}
use Rattle.board.proofs.TailWords.{pair_kept}
use Rattle.board.proofs.recall.keep_leaves.Goals as goal

pub remember-requires-clause-kept : goal.remember-requires-clause-kept
remember-requires-clause-kept c = subst (λ (x : Seated). AreKeptOf x.account.tree.lasting c.args.first c.args.page) (sym c.keep_of.ensures)
    (pair_kept c.args.caller.now.account.tree.lasting (visited c.args.caller.now.account.tree.reached c.args.first_number) (visited c.args.caller.now.account.tree.reached c.args.number) c.args.first c.args.page c.requires.first_page c.requires.page c.requires.path)
