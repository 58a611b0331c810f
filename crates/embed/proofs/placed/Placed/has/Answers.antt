use Rattle.std.proofs.Common.{◌≡◌, ℕ, List, false, nat_lt, eqb, sym, ap, ◌∙◌, rules}
use Rattle.std.specs.List.{list_any}
use Rattle.embed.proofs.Sets.{none-outside}
use Rattle.embed.proofs.placed.Placed.has.Goals as goal

pub returns-else-p-lt1024 : goal.returns-else-p-lt1024
returns-else-p-lt1024 c =
    let above : nat_lt c.args.p 1024 ≡ false = search rules in
    above ∙ sym (none-outside _ _ c.args.p c.self.invariant c.if-p-lt1024.false)
    ∙ ap (λ (f : List ℕ). list_any (λ x. eqb x c.args.p) f) c.self.view_is
