use Rattle.std.proofs.Common.{◌≡◌, ◌++◌, ◌∷◌, [], subst}
use Rattle.std.specs.Prelude.{IfSome}
use Rattle.board_core.specs.MarkRule.{IsAmong}
use Rattle.board_core.specs.Loaded.{IsPage, HasOwn}
use Rattle.board.specs.Seated.{Seated, with_stock}
use Rattle.board.proofs.Stocks.{stock_popped, popped}
use Rattle.board.proofs.seats.Caller.kept_page.Goals as goal

pub invariant_of-self : goal.invariant_of-self
invariant_of-self c =
    let (seen, who, kept, none, used, limits, stock, next, tails) = c.self.invariant in
    (seen, who, kept, none, used, limits, stock_popped _ _ _ _ c.pop.result c.pop.ensures.items stock, next, tails)

pub returns-clause-some : goal.returns-clause-some
returns-clause-some c =
    let new = c.pop.new.self.items in
    subst (λ (x : Seated). IfSome c.pop.result (λ page. (record { table = c.self.inside.seat.table_id; shape = c.self.inside.seat.me.0.shape; account = c.self.inside.seat.me.0.me; stock = new; next = c.self.inside.next } ≡ with_stock x new)
    × (x.stock ≡ new ++ page ∷ []) × IsPage x.shape page × HasOwn x.account page × ¬ (IsAmong new page)))
    c.self.view_is (popped _ _ _ _ _ _ c.pop.result c.pop.ensures.items c.self.invariant.6)
