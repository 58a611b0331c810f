use Rattle.board_core.specs.MarkRule.{IsAmong}
use Rattle.board_core.specs.Loaded.{IsPage, HasOwn}
use Rattle.board.specs.Seated.{Seated}
use Rattle.board.proofs.Tied.{of_seated}
use Rattle.board.proofs.Stocks.{stock_pushed}
use Rattle.board.proofs.seats.Caller.keep_page.Goals as goal

pub invariant_of-self : goal.invariant_of-self
invariant_of-self c =
    let (seen, who, kept, none, used, limits, stock, next, tails) = c.self.invariant in
    let page = of_seated (λ (x : Seated). IsPage x.shape c.args.page) _ _ _ _ _ _ c.self.view_is c.requires.page in
    let own = of_seated (λ (x : Seated). HasOwn x.account c.args.page) _ _ _ _ _ _ c.self.view_is c.requires.own in
    let apart = of_seated (λ (x : Seated). ¬ (IsAmong x.stock c.args.page)) _ _ _ _ _ _ c.self.view_is c.requires.apart in
    (seen, who, kept, none, used, limits, stock_pushed _ _ c.args.page _ _ c.push.ensures.items page own apart stock, next, tails)
