-- Seats: what a step by one seat leaves of them.
use Rattle.std.proofs.Common.{◌≡◌, ◌≢◌, ℕ, List, set, sym, ap, ◌∙◌, subst, arith}
use mathlib.Core.Option.{some}
use lib.ListN.{get_elem?}
use Rattle.htss_defs.specs.declared.shape.Shape.{Shape}
use Rattle.board_core.specs.declared.account.Account.{Account}
use Rattle.board_core.specs.declared.account.View.{View}
use Rattle.board_core.specs.declared.account.Who.{Who}
use Rattle.board_core.specs.declared.account.Who.TheVariants.{Gone}
use Rattle.board_core.specs.Accounts.{with_me, total}
use Rattle.board_core.specs.Accounts.{made_by, is_opener, is_seat}
use Rattle.board_core.specs.SeatRule.{SeatRule, WhoFits, made}
use Rattle.board_core.proofs.Lists.{each_kept}
use Rattle.board_core.proofs.Everyone.{mine, changed, total_same}

-- a step that doesn't change whose the account is
pub seats_same : (k : Shape) (vs : List View) (id : ℕ) (v : View) (a : Account) → SeatRule k vs → get_elem? vs id ≡ some v → a.who ≡ v.me.who → SeatRule k (set vs id (with_me v a))
seats_same k vs id v a r at who =
    let count : (f : Who → ℕ) → total (λ x. f x.who) (set vs id (with_me v a)) ≡ total (λ x. f x.who) vs = λ f. total_same (λ x. f x.who) vs id v a at (ap f who) in
    let as_many : made (set vs id (with_me v a)) ≡ made vs = count made_by in record {
      shapes = each_kept (λ (u : View). u.me.who ≢ Gone → u.shape ≡ k) vs id (with_me v a) (λ here. r.shapes id v at (λ e. here (who ∙ e))) r.shapes;
      limits = changed (λ x. WhoFits k x.who) vs id v a at (subst (WhoFits k) (sym who) (mine (λ x. WhoFits k x.who) vs id v at r.limits)) r.limits;
      one_opener = count is_opener ∙ r.one_opener;
      callers = λ c some_c within. count (is_seat k c) ∙ r.callers c some_c (omega arith);
      none_past = λ c past. count (is_seat k c) ∙ r.none_past c (omega arith);
    }
