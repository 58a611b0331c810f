-- Callers in their order: the next one, and how seats are counted.
use Rattle.std.proofs.Common.{◌≡◌, ◌≢◌, ℕ, ◌+◌, ◌-◌, ◌<◌, ◌≤◌, ◌==◌, Bool, true, false, cond, List, [], refl, ap, ◌∙◌, arith, eq-eqb, ne_eqb}
use mathlib.Core.Option.{some}
use lib.ListN.{get_elem?}
use Rattle.htss_defs.specs.declared.shape.Shape.{Shape}
use Rattle.htss_defs.specs.declared.history.Event.{Event}
use Rattle.board_core.specs.declared.account.View.{View}
use Rattle.board_core.specs.declared.account.Who.{Who}
use Rattle.board_core.specs.declared.account.Who.TheVariants.{Opener, Loader, Searcher, Note, Gone}
use Rattle.board_core.specs.Accounts.{total}
use Rattle.board_core.specs.SeatRule.{SeatRule, WhoFits, made}
use Rattle.board_core.specs.Truths.{own_events}
use Rattle.board_core.proofs.Everyone.{total_only}
use Rattle.std.proofs.Common.{ltb, ltb-false, ltb-true}
use Rattle.board_core.specs.Accounts.{made_by, is_opener, is_seat, seat_of, caller_after}
use Rattle.board_core.specs.Histories.{events_by}

pub seat_none : (k : Shape) (c : ℕ) (who : Who) → seat_of k who ≡ 0 → 0 < c → is_seat k c who ≡ 0
seat_none k c who is above = ap (λ n. cond (n == c) 1 0) is ∙ ap (λ b. cond b 1 0) (ne_eqb 0 c (λ e. omega arith))

pub seat_this : (k : Shape) (c : ℕ) (who : Who) → seat_of k who ≡ c → is_seat k c who ≡ 1
seat_this k c who is = ap (λ b. cond b 1 0) (eq-eqb (seat_of k who) c is)

pub seat_that : (k : Shape) (c : ℕ) (who : Who) → seat_of k who ≢ c → is_seat k c who ≡ 0
seat_that k c who other = ap (λ b. cond b 1 0) (ne_eqb (seat_of k who) c other)

abbrev chosen : Shape → ℕ → Bool → Who
chosen k m b = cond b (Loader (m + 1)) (Searcher (m + 1 - k.loaders))

seat_chosen : (k : Shape) (m : ℕ) (b : Bool) → ltb m k.loaders ≡ b → seat_of k (chosen k m b) ≡ m + 1
seat_chosen k m true e = refl
seat_chosen k m false e = let past = ltb-false m k.loaders e in omega arith

pub seat_after : (k : Shape) (m : ℕ) → seat_of k (caller_after k m) ≡ m + 1
seat_after k m = seat_chosen k m (ltb m k.loaders) refl

fits_chosen : (k : Shape) (m : ℕ) (b : Bool) → ltb m k.loaders ≡ b → m < k.loaders + k.searchers → WhoFits k (chosen k m b)
fits_chosen k m true e room = let below = ltb-true m k.loaders e in (omega arith, omega arith)
fits_chosen k m false e room = let past = ltb-false m k.loaders e in (omega arith, omega arith)

pub fits_after : (k : Shape) (m : ℕ) → m < k.loaders + k.searchers → WhoFits k (caller_after k m)
fits_after k m room = fits_chosen k m (ltb m k.loaders) refl room

none_chosen : (k : Shape) (m : ℕ) (b : Bool) → (is_opener (chosen k m b) ≡ 0) × (made_by (chosen k m b) ≡ 0)
none_chosen k m true = (refl, refl)
none_chosen k m false = (refl, refl)

pub none_after : (k : Shape) (m : ℕ) → (is_opener (caller_after k m) ≡ 0) × (made_by (caller_after k m) ≡ 0)
none_after k m = none_chosen k m (ltb m k.loaders)

own_chosen : (k : Shape) (m : ℕ) (h : List Event) (b : Bool) → events_by (m + 1) h ≡ [] → own_events h (chosen k m b) ≡ []
own_chosen k m h true none_before = none_before
own_chosen k m h false none_before = refl

pub own_after : (k : Shape) (m : ℕ) (h : List Event) → events_by (m + 1) h ≡ [] → own_events h (caller_after k m) ≡ []
own_after k m h none_before = own_chosen k m h (ltb m k.loaders) none_before

-- the callers made are as many as the one opener says
not_opener : (who : Who) → is_opener who ≡ 0 → made_by who ≡ 0
not_opener (Opener n) e = absurd (omega arith)
not_opener (Loader n) e = refl
not_opener (Searcher n) e = refl
not_opener Note e = refl
not_opener Gone e = refl

pub made_is : (k : Shape) (vs : List View) (id m : ℕ) (v : View) → SeatRule k vs → get_elem? vs id ≡ some v → v.me.who ≡ Opener m → made vs ≡ m
made_is k vs id m v r at is = total_only (λ x. WhoFits k x.who) (λ x. made_by x.who) vs id v at refl
    (λ x other _. not_opener x.who (
    let sum : is_opener x.who + is_opener v.me.who ≤ total (λ y. is_opener y.who) vs = other (λ y. is_opener y.who) in
    let one : is_opener v.me.who ≡ 1 = ap is_opener is in
    let all = r.one_opener in omega arith
    ))
    r.limits ∙ ap made_by is
