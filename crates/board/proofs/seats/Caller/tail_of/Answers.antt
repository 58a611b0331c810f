use Rattle.std.proofs.Common.{ℕ, subst, slice_index_or}
use Rattle.board_core.specs.Loaded.{IsPage}
use Rattle.board_core.specs.Passing.{AreKeptOf}
use Rattle.board.specs.Seated.{Seated}
use Rattle.board.proofs.Tied.{of_seated}
use Rattle.board.proofs.TailWords.{tail_known}
use Rattle.board.proofs.seats.Caller.tail_of.Goals as goal

pub returns-then-tail-page : goal.returns-then-tail-page
returns-then-tail-page c some_last =
    let page = of_seated (λ (x : Seated). IsPage x.shape c.args.page) _ _ _ _ _ _ c.self.view_is c.requires in
    let found = tail_known c.self.inside.seat.me.0.shape c.self.inside.seat.me.0.me.tree.lasting c.self.inside.tails c.tail_place.result c.args.page c.self.invariant.8 c.if-tail-page.true page.0 in
    let last : ℕ = (slice_index_or c.self.inside.tails c.tail_place.result (record { first = 0; last = 0 })).last in
    subst (λ (x : Seated). AreKeptOf x.account.tree.lasting c.args.page last × IsPage x.shape last) c.self.view_is found
