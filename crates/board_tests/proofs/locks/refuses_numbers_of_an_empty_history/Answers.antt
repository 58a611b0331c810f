use Rattle.std.proofs.Common.{refl, sym, ap, subst}
use Rattle.board_core.specs.After.{after_front, fronted}
use Rattle.board.specs.Seated.{Seated, IsAtRest}
use Rattle.board_tests.proofs.Stays.{loads_with}
use Rattle.board_tests.proofs.locks.refuses_numbers_of_an_empty_history.Goals as goal

pub loop-number-init : goal.loop-number-init
loop-number-init g c =
    let rest = c.in_ok-board.ensures.loader.0 in
    let caller = c.in_ok-board.caller in record {
      rest = subst (λ (x : Seated). IsAtRest c.in_ok-board.board x) (sym c.front.ensures.account)
          record { of = record { table = rest.of.table; shape = rest.of.shape }; free = ap fronted rest.free; unpinned = rest.unpinned };
      loader = loads_with caller c.front.new.caller (after_front caller.account c.front.result) c.front.ensures.account refl refl c.in_ok-board.ensures.loader.1;
    }
