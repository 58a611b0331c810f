-- Own pages are let go and one linked page is unlinked: which pages are linked then.
use Rattle.std.proofs.Common.{◌≡◌, ◌≢◌, ℕ, zero, suc, ◌+◌, ◌<◌, ◌≤◌, List, [], ◌∷◌, length, set, sym, refl, ap, ◌∙◌, subst, arith, inl, inr, ⊎_elim}
use mathlib.Core.Option.{some, some-injective, some-ne-none}
use mathlib.Core.Logic.{dite}
use native.Mathlib.Decide.{ℕ_discrete}
use lib.ListN.{get_elem?}
use Rattle.htss_defs.specs.declared.shape.Shape.{Shape}
use Rattle.board_core.specs.declared.account.Account.{Account}
use Rattle.board_core.specs.declared.account.View.{View}
use Rattle.board_core.specs.declared.pool.Own.{Own}
use Rattle.board_core.specs.Each.{Each}
use Rattle.board_core.specs.Words.{PoolWords}
use Rattle.board_core.specs.Accounts.{with_me}
use Rattle.board_core.specs.Sheets.{Sheet, sheet_of, IsLinked, owns, parts}
use Rattle.board_core.specs.PoolRule.{PoolRule}
use Rattle.board_core.specs.MarkRule.{IsAmong}
use Rattle.board_core.specs.OwnRule.{OwnFits}
use Rattle.board_core.specs.Turns.{Turns}
use Rattle.board_core.specs.After.{let_go, let_go_all}
use Rattle.board_core.proofs.Everyone.{at_most, total_changed}
use Rattle.board_core.proofs.PageSums.{where_same, where_other, without_here, without_else}
use Rattle.board_core.proofs.OwnFrame.{each_without}
use Rattle.board_core.proofs.Linked.{Left}
use Rattle.board_core.proofs.Claimed.{go_less}
use Rattle.board_core.proofs.CountFrame.{as_many}

-- ---- the own pages that are left

pub all_less : (ns : List ℕ) (os : List Own) (q : ℕ) → owns q (let_go_all ns os) ≤ owns q os
all_less [] os q = omega arith
all_less (n ∷ ns) os q = let one = go_less n (let_go_all ns os) q in let rest = all_less ns os q in omega arith

-- no more go than there are numbers, where each page is there once
pub all_short : (ns : List ℕ) (os : List Own) → length (let_go_all ns os) ≤ length os
all_short [] os = omega arith
all_short (n ∷ ns) os = let one = as_many n (let_go_all ns os) in let rest = all_short ns os in omega arith

pub all_few : (ns : List ℕ) (os : List Own) → ((q : ℕ) → owns q os ≤ 1) → length os ≤ length (let_go_all ns os) + length ns
all_few [] os once = omega arith
all_few (n ∷ ns) os once = let one = as_many n (let_go_all ns os) in let less = all_less ns os n in let most = once n in let rest = all_few ns os once in omega arith

-- and as many go, where the numbers differ and each is an own page's
all_still : (ns : List ℕ) (os : List Own) (q : ℕ) → (IsAmong ns q → ⊥) → owns q (let_go_all ns os) ≡ owns q os
all_still [] os q none = refl
all_still (n ∷ ns) os q none = without_else (λ o. o.page) (λ _. 1) n q (λ e. none (zero, ap some e)) (let_go_all ns os) ∙ all_still ns os q (λ h. none (suc h.0, h.1))

pub all_many : (ns : List ℕ) (os : List Own) → ((i j n : ℕ) → get_elem? ns i ≡ some n → get_elem? ns j ≡ some n → i ≡ j) → Each (λ n. 0 < owns n os) ns → length (let_go_all ns os) + length ns ≤ length os
all_many [] os apart mine = omega arith
all_many (n ∷ ns) os apart mine =
    let rest = all_many ns os (λ i j q a b. let e = apart (suc i) (suc j) q a b in omega arith) (λ j. mine (suc j)) in
    let still = all_still ns os n (λ h. let e = apart zero (suc h.0) n refl h.1 in absurd (omega arith)) in
    let one = as_many n (let_go_all ns os) in let first = mine zero n refl in omega arith

pub all_among : (ns : List ℕ) (os : List Own) (q : ℕ) → Left os (let_go_all ns os) q → IsAmong ns q
all_among [] os q left = absurd (omega arith)
all_among (n ∷ ns) os q left = dite (ℕ_discrete n q)
    (λ y. (zero, ap some y))
    (λ y. let same : owns q (let_go n (let_go_all ns os)) ≡ owns q (let_go_all ns os) = without_else (λ o. o.page) (λ _. 1) n q y (let_go_all ns os) in let h = all_among ns os q (omega arith) in (suc h.0, h.1))

pub all_gone : (ns : List ℕ) (os : List Own) (q : ℕ) → IsAmong ns q → owns q (let_go_all ns os) ≡ 0
all_gone [] os q (j, there) = absurd (some-ne-none q (sym there))
all_gone (n ∷ ns) os q (zero, there) = subst (λ (z : ℕ). owns z (let_go_all (n ∷ ns) os) ≡ 0) (some-injective n q there) (without_here (λ o. o.page) n (let_go_all ns os))
all_gone (n ∷ ns) os q (suc j, there) = let rest = all_gone ns os q (j, there) in let less = go_less n (let_go_all ns os) q in omega arith

pub all_fit : (w : ℕ → ℕ → ℕ) (ns : List ℕ) (os : List Own) → Each (OwnFits w) os → Each (OwnFits w) (let_go_all ns os)
all_fit w [] os all = all
all_fit w (n ∷ ns) os all = each_without (OwnFits w) (λ o. o.page) n (let_go_all ns os) (all_fit w ns os all)

-- ---- the pages of the tree

module _ (k : Shape) (w : PoolWords) (vs : List View) (id : ℕ) (v : View) (b : Account) (x : ℕ) (r : PoolRule k w vs) (at : get_elem? vs id ≡ some v) (l : IsLinked (sheet_of w.states vs) x)
    (parted : b.pool.parted ≡ record { page = x; stamp = 0 } ∷ v.me.pool.parted) (less : (q : ℕ) → owns q b.pool.own ≤ owns q v.me.pool.own) where
  abbrev s : Sheet
  s = sheet_of w.states vs

  abbrev z : Sheet
  z = sheet_of w.states (set vs id (with_me v b))

  own_sum : (p : ℕ) → z.owned p + owns p v.me.pool.own ≡ s.owned p + owns p b.pool.own
  own_sum p = total_changed (λ y. owns p y.pool.own) vs id v b at

  own_part : (p : ℕ) → owns p v.me.pool.own ≤ s.owned p
  own_part p = at_most (λ y. owns p y.pool.own) vs id v at

  part_sum : (p : ℕ) → z.parted p + parts p v.me.pool.parted ≡ s.parted p + parts p (record { page = x; stamp = 0 } ∷ v.me.pool.parted)
  part_sum p = total_changed (λ y. parts p y.pool.parted) vs id v b at ∙ ap (λ us. s.parted p + parts p us) parted

  part_same : (p : ℕ) → p ≢ x → z.parted p ≡ s.parted p
  part_same p n = let h = part_sum p in let none = where_other p x 1 n in omega arith

  part_x : 0 < z.parted x
  part_x = let h = part_sum x in let one = where_same x x 1 refl in omega arith

  other : (p : ℕ) → Left v.me.pool.own b.pool.own p → p ≢ x
  other p n y = let o = own_part p in let none : s.owned p ≡ 0 = ap s.owned y ∙ l.owned in omega arith

  turned_out : Turns s z (Left v.me.pool.own b.pool.own) x
  turned_out = record {
    own = λ p n. let o = own_part p in omega arith;
    stays = λ p h n. let o = own_sum p in let le = less p in let c = part_same p n in let none = h.owned in let none2 = h.parted in record { busy = h.busy; owned = omega arith; parted = omega arith };
    comes = λ p n. let o = own_sum p in let one = own_part p in let c = part_same p (other p n) in let fits = r.pages p in let once = fits.once in
        record { busy = fits.busy (omega arith); owned = omega arith; parted = omega arith };
    either = λ p h. let none = h.owned in let none2 = h.parted in
        let n : p ≢ x = λ y. let some_x = part_x in let zero_x : z.parted x ≡ 0 = ap z.parted (sym y) ∙ none2 in omega arith in
        let c = part_same p n in let o = own_sum p in let le = less p in
        dite (ℕ_discrete (s.owned p) 0)
        (λ y. inl (record { busy = h.busy; owned = y; parted = omega arith }, n))
        (λ y. inr (omega arith));
  }

  -- where the pages that go are these
  pub turned_all : (ns : List ℕ) → b.pool.own ≡ let_go_all ns v.me.pool.own → Each (λ n. 0 < owns n v.me.pool.own) ns → Turns s z (IsAmong ns) x
  turned_all ns own mine =
      let left : (p : ℕ) → IsAmong ns p → Left v.me.pool.own b.pool.own p = λ p n. let some_own = mine n.0 p n.1 in let none = all_gone ns v.me.pool.own p n in let e : owns p b.pool.own ≡ owns p (let_go_all ns v.me.pool.own) = ap (owns p) own in omega arith in record {
        own = λ p n. turned_out.own p (left p n);
        stays = turned_out.stays;
        comes = λ p n. turned_out.comes p (left p n);
        either = λ p h. ⊎_elim (λ (y : IsLinked s p × (p ≢ x)). inl y) (λ (y : Left v.me.pool.own b.pool.own p). inr (all_among ns v.me.pool.own p (subst (λ (os : List Own). Left v.me.pool.own os p) own y))) (turned_out.either p h);
      }
