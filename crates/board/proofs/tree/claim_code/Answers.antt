use Rattle.std.proofs.Common.{refl, sym, arith}
use Rattle.board.proofs.tree.claim_code.Goals as goal

pub claim_of-requires-clause-may : goal.claim_of-requires-clause-may
claim_of-requires-clause-may c = (c.requires.may, record { page_is = sym c.requires.page; place_is = sym c.requires.place; word_is = refl })

pub claim_of-requires-clause-stock : goal.claim_of-requires-clause-stock
claim_of-requires-clause-stock c = λ p among. omega arith
