-- Own pages: what a step, a split or a join leaves of what was stored in them.
use Rattle.std.proofs.Common.{◌≡◌, ℕ, zero, suc, Bool, true, false, cond, eqb, List, [], ◌∷◌, ◌++◌, set, sym, refl, subst}
use mathlib.Core.Option.{some, some-ne-none}
use lib.ListN.{get_elem?}
use Rattle.htss_defs.specs.declared.shape.Shape.{Shape}
use Rattle.board_core.specs.declared.account.Account.{Account}
use Rattle.board_core.specs.declared.account.View.{View}
use Rattle.board_core.specs.declared.account.Who.TheVariants.{Opener, Note}
use Rattle.board_core.specs.declared.pool.Own.{Own}
use Rattle.board_core.specs.Each.{Each}
use Rattle.board_core.specs.Accounts.{account, opener, with_me, keeping, gone, view, accounts_in, caller_after}
use Rattle.board_core.specs.OwnRule.{OwnFits, OwnRule}
use Rattle.board_core.specs.After.{after_made, after_page, without}
use Rattle.board_core.proofs.Lists.{each_none, each_cons}
use Rattle.board_core.proofs.Everyone.{mine, changed, each_more, each_left, each_gathered}

abbrev OwnFit : (ℕ → ℕ → ℕ) → Account → Type 0
OwnFit pages a = Each (OwnFits pages) a.pool.own

pub own_same : (pages : ℕ → ℕ → ℕ) (vs : List View) (id : ℕ) (v : View) (a : Account) → OwnRule pages vs → get_elem? vs id ≡ some v → a.pool.own ≡ v.me.pool.own → OwnRule pages (set vs id (with_me v a))
own_same pages vs id v a r at same = changed (OwnFit pages) vs id v a at (subst (λ (os : List Own). Each (OwnFits pages) os) (sym same) (mine (OwnFit pages) vs id v at r)) r

-- a page in which nothing was stored yet
pub own_taken : (pages : ℕ → ℕ → ℕ) (vs : List View) (id p : ℕ) (v : View) → OwnRule pages vs → get_elem? vs id ≡ some v → OwnRule pages (set vs id (with_me v (after_page v.me p)))
own_taken pages vs id p v r at = changed (OwnFit pages) vs id v (after_page v.me p) at
    (each_cons (OwnFits pages) (record { page = p; words = [] }) v.me.pool.own record { words = λ i n there. absurd (some-ne-none n (sym there)) } (mine (OwnFit pages) vs id v at r)) r

each_kept_or : {A : Type 0} (F : A → Type 0) (x : A) (xs : List A) (b : Bool) → F x → Each F xs → Each F (cond b xs (x ∷ xs))
each_kept_or F x xs true first rest = rest
each_kept_or F x xs false first rest = each_cons F x xs first rest

pub each_without : {A : Type 0} (F : A → Type 0) (page : A → ℕ) (p : ℕ) (xs : List A) → Each F xs → Each F (without page p xs)
each_without F page p [] all = all
each_without F page p (x ∷ xs) all = each_kept_or F x (without page p xs) (eqb p (page x)) (all zero x refl) (each_without F page p xs (λ j. all (suc j)))

-- ---- splits, joins and the opening

pub own_note : (pages : ℕ → ℕ → ℕ) (vs : List View) (shape : Shape) (front : ℕ) → OwnRule pages vs → OwnRule pages (vs ++ view shape (account Note front) ∷ [])
own_note pages vs shape front r = each_more (OwnFit pages) vs (account Note front) (view shape (account Note front)) refl refl (each_none (OwnFits pages)) r

pub own_caller : (pages : ℕ → ℕ → ℕ) (k : Shape) (vs : List View) (id m : ℕ) (v : View) → OwnRule pages vs → get_elem? vs id ≡ some v → OwnRule pages (set vs id (with_me v (after_made v.me)) ++ view k (account (caller_after k m) 0) ∷ [])
own_caller pages k vs id m v r at = each_more (OwnFit pages) (set vs id (with_me v (after_made v.me))) (account (caller_after k m) 0) (view k (account (caller_after k m) 0)) refl refl (each_none (OwnFits pages)) (own_same pages vs id v (after_made v.me) r at refl)

pub own_left : (pages : ℕ → ℕ → ℕ) (vs : List View) (other : ℕ) → OwnRule pages vs → OwnRule pages (set vs other gone)
own_left pages vs other r = each_left (OwnFit pages) vs other (each_none (OwnFits pages)) r

pub own_gather : (pages : ℕ → ℕ → ℕ) (vs : List View) (id other : ℕ) (v w : View) → OwnRule pages vs → get_elem? vs id ≡ some v → get_elem? vs other ≡ some w → OwnRule pages (set (set vs id (keeping v w)) other gone)
own_gather pages vs id other v w r at there = each_gathered (OwnFit pages) vs id other v w at there (each_none (OwnFits pages)) r

pub own_open : (pages : ℕ → ℕ → ℕ) (k : Shape) → OwnRule pages (opener k ∷ [])
own_open pages k = each_cons (λ (u : View). Each (OwnFit pages) (accounts_in u)) (opener k) [] (each_cons (OwnFit pages) (account (Opener 0) 0) [] (each_none (OwnFits pages)) (each_none (OwnFit pages))) (each_none (λ (u : View). Each (OwnFit pages) (accounts_in u)))
