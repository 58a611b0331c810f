use Rattle.std.proofs.Common.{subst, arith}
use Rattle.htss_defs.specs.declared.shape.Field.TheVariants.{Chain}
use Rattle.board_core.specs.Loaded.{IsPage}
use Rattle.board_core.specs.After.{visited}
use Rattle.board_core.specs.Passing.{kept_at}
use Rattle.board.proofs.TailWords.{may_recall, rank_in}
use Rattle.board.proofs.recall.recall_leaf.Goals as goal

pub recall_of-header-requires-clause-may : goal.recall_of-header-requires-clause-may
recall_of-header-requires-clause-may c = (may_recall _ _ _ c.args.number c.args.page c.tail_of-last.result c.requires.may c.requires.page c.requires.fits.shape (c.tail_of-last.ensures c.if-last-eq0.false)).0

pub recall_of-header-requires-clause-page : goal.recall_of-header-requires-clause-page
recall_of-header-requires-clause-page c = (may_recall _ _ _ c.args.number c.args.page c.tail_of-last.result c.requires.may c.requires.page c.requires.fits.shape (c.tail_of-last.ensures c.if-last-eq0.false)).1

pub overflow_cast-result : goal.overflow_cast-result
overflow_cast-result c =
    let rank = rank_in (visited c.args.caller.now.account.tree.reached c.args.number) (kept_at c.args.caller.now.account.tree.lasting c.tail_of-last.result) c.recall_of-header.result c.requires.depth c.recall_of-header.ensures.header in
    let less = c.recall_of-header.ensures.rank in
    let most = (c.shape-limits.ensures.limits Chain).1 in omega arith

pub returns-clause-rank : goal.returns-clause-rank
returns-clause-rank c = rank_in (visited c.args.caller.now.account.tree.reached c.args.number) (kept_at c.args.caller.now.account.tree.lasting c.tail_of-last.result) c.recall_of-header.result c.requires.depth c.recall_of-header.ensures.header

pub returns-clause-page : goal.returns-clause-page
returns-clause-page c = (may_recall _ _ _ c.args.number c.args.page c.tail_of-last.result c.requires.may c.requires.page c.requires.fits.shape (c.tail_of-last.ensures c.if-last-eq0.false)).1

pub returns-clause-inside : goal.returns-clause-inside
returns-clause-inside c =
    let rank = rank_in (visited c.args.caller.now.account.tree.reached c.args.number) (kept_at c.args.caller.now.account.tree.lasting c.tail_of-last.result) c.recall_of-header.result c.requires.depth c.recall_of-header.ensures.header in
    let less = c.recall_of-header.ensures.rank in
    (subst (λ k. IsPage k c.tail_of-last.result) c.requires.fits.shape (c.tail_of-last.ensures c.if-last-eq0.false).1, omega arith)
