use Rattle.std.proofs.Common.{◌≡◌, ap, sym, ◌∙◌, subst, arith}
use Rattle.htss_defs.specs.declared.shape.Shape.{Shape}
use Rattle.board_core.specs.declared.account.Account.{Account}
use Rattle.board_core.specs.Loaded.{IsPage, page_word}
use Rattle.board_core.specs.Passing.{MayPassLeaf}
use Rattle.board_core.proofs.PassLeaf.{keep_allowed}
use Rattle.board.proofs.Tied.{same_table, of_both, some_page}
use Rattle.board.proofs.TreeWords.{page_fits}
use Rattle.board.proofs.TailWords.{keep_seat}
use Rattle.board.proofs.recall.keep_of.Goals as goal

pub load-requires : goal.load-requires
load-requires g c =
    let first = of_both (λ (k : Shape) (a : Account). MayPassLeaf k a g.P.Pairs.first) _ _ _ _ _ _ _ _ _ _ c.board.view_is c.caller.view_is c.board.invariant.0 c.requires.first in
    let last = of_both (λ (k : Shape) (a : Account). MayPassLeaf k a g.P.Pairs.last) _ _ _ _ _ _ _ _ _ _ c.board.view_is c.caller.view_is c.board.invariant.0 c.requires.last in (
      same_table _ _ _ _ _ _ _ _ _ c.board.view_is c.caller.view_is c.requires.fits,
      page_fits _ _ _ _ _ _ _ 1 (0) c.board.invariant.1 c.page_place-at.ensures (omega arith) (some_page _ c.board.invariant.2) (omega arith),
      keep_allowed _ _ _ g.P.Pairs.first g.P.Pairs.last _ _ first last,
    )

pub invariant_of-caller : goal.invariant_of-caller
invariant_of-caller g c = (keep_seat c.caller.inside.seen c.caller.inside.used c.caller.inside.loader c.caller.inside.number c.caller.inside.stock.items c.caller.inside.tails c.caller.inside.next g.P.Pairs.first g.P.Pairs.last _ _ c.load.ensures.2 record { facts = c.caller.invariant }).facts
