use Rattle.std.proofs.Common.{refl, sym}
use Rattle.board.proofs.TreeWords.{inner_kept}
use Rattle.board.proofs.tree.link_next_inner.Goals as goal

pub claim_of-requires-clause-may : goal.claim_of-requires-clause-may
claim_of-requires-clause-may c = (c.requires.may, record { page_is = sym c.requires.page; place_is = refl; word_is = refl })

pub claim_of-requires-clause-stock : goal.claim_of-requires-clause-stock
claim_of-requires-clause-stock c = inner_kept c.args.caller.now.account c.args.number c.args.new c.args.code c.args.caller.now.stock c.requires.free
