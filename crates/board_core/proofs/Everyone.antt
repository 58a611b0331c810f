-- Facts of all accounts and sums over them, where one account was changed, or views were split or joined.
use Rattle.std.proofs.Common.{◌≡◌, ◌≢◌, ℕ, suc, ◌+◌, ◌≤◌, List, [], ◌∷◌, ◌++◌, set, sym, refl, ap, ◌∙◌, subst, arith}
use mathlib.Core.Option.{some}
use lib.ListN.{get_elem?}
use Rattle.atomic_table.proofs.Lists.{set_else}
use Rattle.board_core.specs.declared.account.Account.{Account}
use Rattle.board_core.specs.declared.account.View.{View}
use Rattle.board_core.specs.declared.account.Who.TheVariants.{Gone}
use Rattle.board_core.specs.Each.{Each, sum_of}
use Rattle.board_core.specs.Accounts.{account, with_me, keeping, gone, accounts_in, EachAccount, total, IsOther}
use Rattle.board_core.proofs.Lists.{each_none, each_cons, each_set, each_kept, each_snoc, each_append, sum-append, sum_set, one_of, two_of, sum_zero}

-- the sum over one view's accounts
abbrev here : (Account → ℕ) → View → ℕ
here f v = sum_of f (accounts_in v)

pub mine : (F : Account → Type 0) (vs : List View) (id : ℕ) (v : View) → get_elem? vs id ≡ some v → EachAccount F vs → F v.me
mine F vs id v at all = all id v at 0 v.me refl

pub at_most : (f : Account → ℕ) (vs : List View) (id : ℕ) (v : View) → get_elem? vs id ≡ some v → f v.me ≤ total f vs
at_most f vs id v at = let sum : f v.me + sum_of f v.kept ≤ total f vs = one_of (here f) vs id v at in omega arith

pub total_changed : (f : Account → ℕ) (vs : List View) (id : ℕ) (v : View) (a : Account) → get_elem? vs id ≡ some v → total f (set vs id (with_me v a)) + f v.me ≡ total f vs + f a
total_changed f vs id v a at =
    let sum : total f (set vs id (with_me v a)) + (f v.me + sum_of f v.kept) ≡ total f vs + (f a + sum_of f v.kept) = sum_set (here f) vs id v (with_me v a) at in omega arith

pub total_same : (f : Account → ℕ) (vs : List View) (id : ℕ) (v : View) (a : Account) → get_elem? vs id ≡ some v → f a ≡ f v.me → total f (set vs id (with_me v a)) ≡ total f vs
total_same f vs id v a at same = let h = total_changed f vs id v a at in omega arith

kept_other : (vs : List View) (id : ℕ) (v : View) → get_elem? vs id ≡ some v → (j : ℕ) (x : Account) → get_elem? v.kept j ≡ some x → IsOther vs v.me x
kept_other vs id v at j x there f = let one = one_of f v.kept j x there in let sum : f v.me + sum_of f v.kept ≤ total f vs = one_of (here f) vs id v at in omega arith

far_other : (vs : List View) (id j : ℕ) (v u : View) → j ≢ id → get_elem? vs id ≡ some v → get_elem? vs j ≡ some u → (i : ℕ) (x : Account) → get_elem? (accounts_in u) i ≡ some x → IsOther vs v.me x
far_other vs id j v u apart at there i x here_x f =
    let one = one_of f (accounts_in u) i x here_x in
    let sum : sum_of f (accounts_in u) + (f v.me + sum_of f v.kept) ≤ total f vs = two_of (here f) vs j id u v apart there at in omega arith

-- a fact of all accounts, where one was changed
pub moved : (F G : Account → Type 0) (vs : List View) (id : ℕ) (v : View) (a : Account) → get_elem? vs id ≡ some v → G a → ((x : Account) → IsOther vs v.me x → F x → G x) → EachAccount F vs → EachAccount G (set vs id (with_me v a))
moved F G vs id v a at own others all = each_set (λ (u : View). Each G (accounts_in u)) vs id (with_me v a)
    (each_cons G a v.kept own (λ j x there. others x (kept_other vs id v at j x there) (all id v at (suc j) x there)))
    (λ j u apart there i x here_x. others x (far_other vs id j v u apart at there i x here_x) (all j u there i x here_x))

-- the same, of a fact that the step changes for nobody else
pub changed : (F : Account → Type 0) (vs : List View) (id : ℕ) (v : View) (a : Account) → get_elem? vs id ≡ some v → F a → EachAccount F vs → EachAccount F (set vs id (with_me v a))
changed F vs id v a at own all = moved F F vs id v a at own (λ x _ f. f) all

-- where all other accounts count 0, the sum is this one's
pub total_only : (F : Account → Type 0) (f : Account → ℕ) (vs : List View) (id : ℕ) (v : View) → get_elem? vs id ≡ some v → f (account Gone 0) ≡ 0 → ((x : Account) → IsOther vs v.me x → F x → f x ≡ 0) → EachAccount F vs → total f vs ≡ f v.me
total_only F f vs id v at blank others all =
    let none = moved F (λ x. f x ≡ 0) vs id v (account Gone 0) at blank others all in
    let zero_sum : total f (set vs id (with_me v (account Gone 0))) ≡ 0 = sum_zero (here f) (set vs id (with_me v (account Gone 0))) (λ j u there. sum_zero f (accounts_in u) (none j u there)) in
    let h = total_changed f vs id v (account Gone 0) at in omega arith

-- ---- a seat is split: a view was added

pub each_more : (F : Account → Type 0) (vs : List View) (a : Account) (n : View) → n.me ≡ a → n.kept ≡ [] → F a → EachAccount F vs → EachAccount F (vs ++ n ∷ [])
each_more F vs a n is none new all = each_snoc (λ (u : View). Each F (accounts_in u)) vs n
    (subst (λ (l : List Account). Each F l) (λ i. sym is i ∷ sym none i) (each_cons F a [] new (each_none F))) all

pub total_more : (f : Account → ℕ) (vs : List View) (n : View) → n.kept ≡ [] → total f (vs ++ n ∷ []) ≡ total f vs + f n.me
total_more f vs n none =
    let sum = sum-append (here f) vs (n ∷ []) in
    let last : sum_of f n.kept ≡ 0 = ap (sum_of f) none in
    let sum' : total f (vs ++ n ∷ []) ≡ total f vs + (f n.me + sum_of f n.kept + 0) = sum in omega arith

-- ---- a seat is joined away: a view became gone

pub each_left : (F : Account → Type 0) (vs : List View) (other : ℕ) → F (account Gone 0) → EachAccount F vs → EachAccount F (set vs other gone)
each_left F vs other blank all = each_kept (λ (u : View). Each F (accounts_in u)) vs other gone (each_cons F (account Gone 0) [] blank (each_none F)) all

pub total_left : (f : Account → ℕ) (vs : List View) (other : ℕ) (w : View) → get_elem? vs other ≡ some w → f (account Gone 0) ≡ 0 → total f (set vs other gone) + sum_of f (accounts_in w) ≡ total f vs
total_left f vs other w there blank = let sum : total f (set vs other gone) + sum_of f (accounts_in w) ≡ total f vs + (f (account Gone 0) + 0) = sum_set (here f) vs other w gone there in omega arith

-- the accounts of the view that goes are kept
pub each_gathered : (F : Account → Type 0) (vs : List View) (id other : ℕ) (v w : View) → get_elem? vs id ≡ some v → get_elem? vs other ≡ some w → F (account Gone 0) → EachAccount F vs → EachAccount F (set (set vs id (keeping v w)) other gone)
each_gathered F vs id other v w at there blank all = each_left F (set vs id (keeping v w)) other blank
    (each_kept (λ (u : View). Each F (accounts_in u)) vs id (keeping v w) (each_append F (accounts_in v) (accounts_in w) (all id v at) (all other w there)) all)

pub total_gathered : (f : Account → ℕ) (vs : List View) (id other : ℕ) (v w : View) → get_elem? vs id ≡ some v → ¬ (other ≡ id) → get_elem? vs other ≡ some w → f (account Gone 0) ≡ 0 → total f (set (set vs id (keeping v w)) other gone) ≡ total f vs
total_gathered f vs id other v w at apart there blank =
    let mid : List View = set vs id (keeping v w) in
    let both : sum_of f (accounts_in (keeping v w)) ≡ sum_of f (accounts_in v) + sum_of f (accounts_in w) = sum-append f (accounts_in v) (accounts_in w) in
    let first : total f mid + sum_of f (accounts_in v) ≡ total f vs + sum_of f (accounts_in (keeping v w)) = sum_set (here f) vs id v (keeping v w) at in
    let last = total_left f mid other w (set_else vs id other (keeping v w) apart ∙ there) blank in omega arith
