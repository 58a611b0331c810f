use Rattle.std.proofs.Common.{refl, sym}
use Rattle.board.proofs.TreeWords.{let_go_kept}
use Rattle.board.proofs.tree.link_leaf.Goals as goal

pub claim_of-requires-clause-may : goal.claim_of-requires-clause-may
claim_of-requires-clause-may c = (c.requires.may, c.requires.small, record { page_is = sym c.requires.page; place_is = refl; word_is = refl })

pub claim_of-requires-clause-stock : goal.claim_of-requires-clause-stock
claim_of-requires-clause-stock c = let_go_kept c.args.caller.now.account.pool.own c.args.new c.args.caller.now.stock c.requires.free
