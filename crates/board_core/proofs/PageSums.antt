-- How often accounts have a page, and the stamps loaded for it, where a list or a sum of one account changed.
use Rattle.std.proofs.Common.{◌≡◌, ◌≢◌, ℕ, zero, suc, ◌+◌, ◌<◌, ◌≤◌, cond, List, [], ◌∷◌, sym, refl, ap, ◌∙◌, arith, ◌⊎◌, ⊎_elim, inl, inr, eq-eqb, ne_eqb, eqb}
use mathlib.Core.Option.{some, some-injective, some-ne-none}
use mathlib.Core.Logic.{dite}
use native.Mathlib.Decide.{ℕ_discrete}
use lib.ListN.{get_elem?}
use Rattle.board_core.specs.declared.pool.Parted.{Parted}
use Rattle.board_core.specs.declared.account.Account.{Account}
use Rattle.board_core.specs.declared.account.View.{View}
use Rattle.board_core.specs.declared.account.Who.TheVariants.{Gone}
use Rattle.board_core.specs.Each.{sum_of}
use Rattle.board_core.specs.Accounts.{account, accounts_in, total}
use Rattle.board_core.specs.Sheets.{where_page, parts, stamps}
use Rattle.board_core.specs.After.{stamp, stamp_all, without}
use Rattle.board_core.proofs.Lists.{one_of}
use Rattle.board_core.proofs.Everyone.{total_only}

pub where_same : (p q n : ℕ) → p ≡ q → where_page p q n ≡ n
where_same p q n e = ap (λ b. cond b n 0) (eq-eqb p q e)

pub where_other : (p q n : ℕ) → p ≢ q → where_page p q n ≡ 0
where_other p q n e = ap (λ b. cond b n 0) (ne_eqb p q e)

-- ---- sums that are 0 together

module _ {A : Type 0} where
  pub none_of : (f g : A → ℕ) → ((a : A) → f a ≡ 0 → g a ≡ 0) → (xs : List A) → sum_of f xs ≡ 0 → sum_of g xs ≡ 0
  none_of f g h [] e = refl
  none_of f g h (x ∷ xs) e = let here = h x (omega arith) in let rest = none_of f g h xs (omega arith) in omega arith

  -- where one part takes the whole of a sum, another sum that is 0 with it has no other part
  pub only_of : (f g : A → ℕ) → ((a : A) → f a ≡ 0 → g a ≡ 0) → (xs : List A) (i : ℕ) (a : A) → get_elem? xs i ≡ some a → sum_of f xs ≤ f a → sum_of g xs ≡ g a
  only_of f g h [] i a at most = absurd (some-ne-none a (sym at))
  only_of f g h (x ∷ xs) zero a at most = let e : f x ≡ f a = ap f (some-injective x a at) in let d : g x ≡ g a = ap g (some-injective x a at) in let rest = none_of f g h xs (omega arith) in omega arith
  only_of f g h (x ∷ xs) (suc i) a at most = let some_there = one_of f xs i a at in let here = h x (omega arith) in let rest = only_of f g h xs i a at (omega arith) in omega arith

pub none_total : (f g : Account → ℕ) → ((a : Account) → f a ≡ 0 → g a ≡ 0) → (vs : List View) → total f vs ≡ 0 → total g vs ≡ 0
none_total f g h vs e = none_of (λ v. sum_of f (accounts_in v)) (λ v. sum_of g (accounts_in v)) (λ v. none_of f g h (accounts_in v)) vs e

pub only_total : (f g : Account → ℕ) → ((a : Account) → f a ≡ 0 → g a ≡ 0) → g (account Gone 0) ≡ 0 → (vs : List View) (id : ℕ) (v : View) → get_elem? vs id ≡ some v → total f vs ≤ f v.me → total g vs ≡ g v.me
only_total f g h blank vs id v at most = total_only (λ _. Unit {0}) g vs id v at blank (λ x other _. let both : f x + f v.me ≤ total f vs = other f in h x (omega arith)) (λ _ _ _ _ _ _. tt)

-- ---- unlinked pages

unstamped : (p : ℕ) (u : Parted) → where_page p u.page 1 ≡ 0 → where_page p u.page u.stamp ≡ 0
unstamped p u e = dite (ℕ_discrete p u.page) (λ y. let one = where_same p u.page 1 y in absurd (omega arith)) (λ n. where_other p u.page u.stamp n)

-- a page that is in no list has no stamp there
pub no_stamp : (p : ℕ) (us : List Parted) → parts p us ≡ 0 → stamps p us ≡ 0
no_stamp p us e = none_of (λ u. where_page p u.page 1) (λ u. where_page p u.page u.stamp) (unstamped p) us e

pub no_stamps : (vs : List View) (p : ℕ) → total (λ a. parts p a.pool.parted) vs ≡ 0 → total (λ a. stamps p a.pool.parted) vs ≡ 0
no_stamps vs p e = none_total (λ a. parts p a.pool.parted) (λ a. stamps p a.pool.parted) (λ a. no_stamp p a.pool.parted) vs e

-- ---- a page leaves a list

module _ {A : Type 0} (page : A → ℕ) where
  pub without_here : (p : ℕ) (xs : List A) → sum_of (λ x. where_page p (page x) 1) (without page p xs) ≡ 0
  without_here p [] = refl
  without_here p (x ∷ xs) = let rest = without_here p xs in dite (ℕ_discrete p (page x))
      (λ e. ap (λ b. sum_of (λ y. where_page p (page y) 1) (cond b (without page p xs) (x ∷ without page p xs))) (eq-eqb p (page x) e) ∙ rest)
      (λ n. let zero_here = where_other p (page x) 1 n in ap (λ b. sum_of (λ y. where_page p (page y) 1) (cond b (without page p xs) (x ∷ without page p xs))) (ne_eqb p (page x) n) ∙ omega arith)

  -- all other pages keep their numbers
  pub without_else : (f : A → ℕ) (p q : ℕ) → p ≢ q → (xs : List A) → sum_of (λ x. where_page q (page x) (f x)) (without page p xs) ≡ sum_of (λ x. where_page q (page x) (f x)) xs
  without_else f p q other [] = refl
  without_else f p q other (x ∷ xs) = let rest = without_else f p q other xs in dite (ℕ_discrete p (page x))
      (λ e. let none = where_other q (page x) (f x) (λ y. other (e ∙ sym y)) in ap (λ b. sum_of (λ y. where_page q (page y) (f y)) (cond b (without page p xs) (x ∷ without page p xs))) (eq-eqb p (page x) e) ∙ omega arith)
      (λ n. ap (λ b. sum_of (λ y. where_page q (page y) (f y)) (cond b (without page p xs) (x ∷ without page p xs))) (ne_eqb p (page x) n) ∙ omega arith)

-- ---- stamps are given to those without one

pub parts_stamped : (e p : ℕ) (us : List Parted) → parts p (stamp_all e us) ≡ parts p us
parts_stamped e p [] = refl
parts_stamped e p (u ∷ us) = ap (λ n. where_page p u.page 1 + n) (parts_stamped e p us)

-- the stamp of a page that had none
pub stamp_given : (e p : ℕ) (us : List Parted) → parts p us ≡ 1 → stamps p us ≡ 0 → stamps p (stamp_all e us) ≡ e
stamp_given e p [] one bare = absurd (omega arith)
stamp_given e p (u ∷ us) one bare = dite (ℕ_discrete p u.page)
    (λ y. let here = where_same p u.page 1 y in
    let none : parts p us ≡ 0 = omega arith in
    let rest = no_stamp p (stamp_all e us) (parts_stamped e p us ∙ none) in
    let old = where_same p u.page u.stamp y in
    let new = where_same p u.page (stamp e u).stamp y in
    let blank : u.stamp ≡ 0 = omega arith in
    let given : (stamp e u).stamp ≡ e = ap (λ b. cond b e u.stamp) (eq-eqb u.stamp 0 blank) in omega arith)
    (λ n. let away = where_other p u.page 1 n in
    let old = where_other p u.page u.stamp n in
    let new = where_other p u.page (stamp e u).stamp n in
    let rest = stamp_given e p us (omega arith) (omega arith) in omega arith)

head_stamped : (e p n : ℕ) → (n ≡ 0) ⊎ (n ≢ 0) → (cond (eqb n 0) e n ≡ n) ⊎ ((n ≡ 0) × (cond (eqb n 0) e n ≡ e))
head_stamped e p n c = ⊎_elim (λ (z : n ≡ 0). inr (z, ap (λ b. cond b e n) (eq-eqb n 0 z))) (λ (z : n ≢ 0). inl (ap (λ b. cond b e n) (ne_eqb n 0 z))) c

-- a page's stamp after an epoch was loaded: as it was, or this epoch where there was none
pub stamped_all : (e p : ℕ) (us : List Parted) → parts p us ≤ 1
    → (stamps p (stamp_all e us) ≡ stamps p us) ⊎ ((stamps p us ≡ 0) × (stamps p (stamp_all e us) ≡ e) × (0 < parts p us))
stamped_all e p [] most = inl refl
stamped_all e p (u ∷ us) most = dite (ℕ_discrete p u.page)
    (λ y. let one = where_same p u.page 1 y in
    let none : parts p us ≡ 0 = omega arith in
    let rest = no_stamp p us none in
    let rest2 = no_stamp p (stamp_all e us) (parts_stamped e p us ∙ none) in
    let old = where_same p u.page u.stamp y in
    let new = where_same p u.page (stamp e u).stamp y in
    ⊎_elim (λ (t : (stamp e u).stamp ≡ u.stamp). inl (omega arith)) (λ (t : (u.stamp ≡ 0) × ((stamp e u).stamp ≡ e)). let t0 = t.0 in let t1 = t.1 in inr (omega arith, omega arith, omega arith))
    (head_stamped e p u.stamp (dite (ℕ_discrete u.stamp 0) (λ z. inl z) (λ z. inr z))))
    (λ n. let zero_here = where_other p u.page 1 n in
    let old = where_other p u.page u.stamp n in
    let new = where_other p u.page (stamp e u).stamp n in
    ⊎_elim (λ (t : stamps p (stamp_all e us) ≡ stamps p us). inl (omega arith)) (λ (t : (stamps p us ≡ 0) × (stamps p (stamp_all e us) ≡ e) × (0 < parts p us)). let t0 = t.0 in let t1 = t.1 in let t2 = t.2 in inr (omega arith, omega arith, omega arith))
    (stamped_all e p us (omega arith)))
