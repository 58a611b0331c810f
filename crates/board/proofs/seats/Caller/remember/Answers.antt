use Rattle.board_core.specs.Loaded.{IsPage}
use Rattle.board_core.specs.Passing.{AreKeptOf}
use Rattle.board.specs.Seated.{Seated}
use Rattle.board.proofs.Tied.{of_seated}
use Rattle.board.proofs.TailWords.{tails_set}
use Rattle.board.proofs.seats.Caller.remember.Goals as goal

pub invariant_of-self : goal.invariant_of-self
invariant_of-self c =
    let (seen, who, kept, none, used, limits, stock, next, tails) = c.self.invariant in
    let both = of_seated (λ (x : Seated). AreKeptOf x.account.tree.lasting c.args.first c.args.last) _ _ _ _ _ _ c.self.view_is c.requires.kept in
    let page = of_seated (λ (x : Seated). IsPage x.shape c.args.last) _ _ _ _ _ _ c.self.view_is c.requires.page in
    (seen, who, kept, none, used, limits, stock, next, tails_set _ _ _ _ (record { first = c.args.first; last = c.args.last }) both page tails)
