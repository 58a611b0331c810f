-- An account of some view is still there after a step, a split or a join.
use Rattle.std.proofs.Common.{◌≡◌, ℕ, zero, suc, List, [], ◌∷◌, ◌++◌, set, sym, refl, ap, ◌∙◌, subst}
use mathlib.Core.Option.{some, some-injective}
use mathlib.Core.Logic.{dite}
use native.Mathlib.Decide.{ℕ_discrete}
use lib.ListN.{get_elem?}
use Rattle.atomic_table.proofs.Lists.{at_longer, set_here, set_else}
use Rattle.board_core.specs.declared.account.Account.{Account}
use Rattle.board_core.specs.declared.account.View.{View}
use Rattle.board_core.specs.Accounts.{with_me, keeping, gone, accounts_in}
use Rattle.board_core.specs.RoomRule.{SomeAccount}
use Rattle.board_core.proofs.Lists.{inside}

-- in a list
abbrev SomeIn : (Account → Type 0) → List Account → Type 0
SomeIn F l = (i : ℕ) × (a : Account) × (get_elem? l i ≡ some a) × F a

some_behind : (F : Account → Type 0) (xs ys : List Account) → SomeIn F ys → SomeIn F (xs ++ ys)
some_behind F [] ys t = t
some_behind F (x ∷ xs) ys t = let r = some_behind F xs ys t in (suc r.0, r.1, r.2, r.3)

some_before : (F : Account → Type 0) (xs ys : List Account) → SomeIn F xs → SomeIn F (xs ++ ys)
some_before F xs ys t = (t.0, t.1, at_longer xs ys t.0 t.1 t.2, t.3)

-- the accounts of a view that was changed
same_view : (vs : List View) (j id : ℕ) (u v : View) → j ≡ id → get_elem? vs j ≡ some u → get_elem? vs id ≡ some v → u ≡ v
same_view vs j id u v same there at = some-injective u v (sym there ∙ (ap (get_elem? vs) same ∙ at))

-- in a view that was put at this place, where each account of the old one that has the fact gives one of the new
pub some_put : (F : Account → Type 0) (vs : List View) (id : ℕ) (v w : View) → get_elem? vs id ≡ some v → (SomeIn F (accounts_in v) → SomeIn F (accounts_in w)) → SomeAccount F vs → SomeAccount F (set vs id w)
some_put F vs id v w at gives t = dite (ℕ_discrete t.0 id)
    (λ same. let is = same_view vs t.0 id t.1 v same t.2 at in
    let old : SomeIn F (accounts_in v) = subst (λ (u : View). SomeIn F (accounts_in u)) is (t.3, t.4, t.5, t.6) in
    let new = gives old in
    (id, w, set_here vs id w (inside vs id v at), new.0, new.1, new.2, new.3))
    (λ other. (t.0, t.1, set_else vs id t.0 w other ∙ t.2, t.3, t.4, t.5, t.6))

own_changed : (F : Account → Type 0) (v : View) (a : Account) → (F v.me → F a) → SomeIn F (accounts_in v) → SomeIn F (accounts_in (with_me v a))
own_changed F v a keeps (zero, x, there, f) = (zero, a, refl, keeps (subst F (sym (some-injective v.me x there)) f))
own_changed F v a keeps (suc i, x, there, f) = (suc i, x, there, f)

pub some_changed : (F : Account → Type 0) (vs : List View) (id : ℕ) (v : View) (a : Account) → get_elem? vs id ≡ some v → (F v.me → F a) → SomeAccount F vs → SomeAccount F (set vs id (with_me v a))
some_changed F vs id v a at keeps t = some_put F vs id v (with_me v a) at (own_changed F v a keeps) t

pub some_more : (F : Account → Type 0) (vs : List View) (n : View) → SomeAccount F vs → SomeAccount F (vs ++ n ∷ [])
some_more F vs n t = (t.0, t.1, at_longer vs (n ∷ []) t.0 t.1 t.2, t.3, t.4, t.5, t.6)

-- a seat goes of which no account has the fact
pub some_left : (F : Account → Type 0) (vs : List View) (other : ℕ) (w : View) → get_elem? vs other ≡ some w → (SomeIn F (accounts_in w) → ⊥) → SomeAccount F vs → SomeAccount F (set vs other gone)
some_left F vs other w there none t = some_put F vs other w gone there (λ s. absurd (none s)) t

-- the accounts of a seat that goes are kept
pub some_gathered : (F : Account → Type 0) (vs : List View) (id other : ℕ) (v w : View) → get_elem? vs id ≡ some v → ¬ (other ≡ id) → get_elem? vs other ≡ some w → SomeAccount F vs → SomeAccount F (set (set vs id (keeping v w)) other gone)
some_gathered F vs id other v w at apart there t =
    let mid : List View = set vs id (keeping v w) in
    let here : get_elem? mid id ≡ some (keeping v w) = set_here vs id (keeping v w) (inside vs id v at) in
    let place : SomeIn F (accounts_in (keeping v w)) → SomeAccount F (set mid other gone) = λ s. (id, keeping v w, set_else mid other id gone (λ e. apart (sym e)) ∙ here, s.0, s.1, s.2, s.3) in
    dite (ℕ_discrete t.0 other)
    (λ same. let is = same_view vs t.0 other t.1 w same t.2 there in
    place (some_behind F (accounts_in v) (accounts_in w) (subst (λ (u : View). SomeIn F (accounts_in u)) is (t.3, t.4, t.5, t.6))))
    (λ far. dite (ℕ_discrete t.0 id)
    (λ same. let is = same_view vs t.0 id t.1 v same t.2 at in
    place (some_before F (accounts_in v) (accounts_in w) (subst (λ (u : View). SomeIn F (accounts_in u)) is (t.3, t.4, t.5, t.6))))
    (λ neither. (t.0, t.1, set_else mid other t.0 gone far ∙ (set_else vs id t.0 (keeping v w) neither ∙ t.2), t.3, t.4, t.5, t.6)))
