-- Page counts under each kind of step: what a step owes, and a step that takes and links no page.
use Rattle.std.proofs.Common.{◌≡◌, ◌≢◌, ℕ, zero, suc, ◌+◌, ◌*◌, ◌<◌, ◌≤◌, cond, List, [], ◌∷◌, ◌++◌, length, set, sym, refl, ap, ◌∙◌, subst, arith, eq-eqb, ne_eqb}
use mathlib.Core.Option.{some}
use mathlib.Core.Logic.{dite}
use native.Mathlib.Decide.{ℕ_discrete}
use lib.ListN.{get_elem?}
use Rattle.htss_defs.specs.declared.shape.Shape.{Shape}
use Rattle.board_core.specs.declared.account.Account.{Account}
use Rattle.board_core.specs.declared.account.View.{View}
use Rattle.board_core.specs.declared.account.Who.{Who}
use Rattle.board_core.specs.declared.account.Who.TheVariants.{Opener, Note, Gone}
use Rattle.board_core.specs.declared.pool.Own.{Own}
use Rattle.board_core.specs.Each.{Each, sum_of}
use Rattle.board_core.specs.Words.{stored}
use Rattle.board_core.specs.Accounts.{account, with_me, keeping, gone, view, opener, accounts_in, caller_after, total, is_loader}
use Rattle.board_core.specs.Sheets.{owns}
use Rattle.board_core.specs.After.{after_made, let_go}
use Rattle.board_core.specs.CountRule.{most_linked, most_own, busy, busy_up_to, insertions_of, pages_of, CountFits, CountRule}
use Rattle.board_core.proofs.Lists.{each_none, each_cons}
use Rattle.board_core.proofs.Everyone.{mine, changed, total_changed, each_more, total_more, each_left, total_left, each_gathered, total_gathered}
use Rattle.board_core.proofs.PageSums.{where_same, where_other}
use Rattle.board_core.proofs.Stored.{stored_else}

-- ---- pages that are not free

busy_less : (n : ℕ) → busy n ≤ 1
busy_less zero = omega arith
busy_less (suc n) = omega arith

pub busy_some : (n : ℕ) → n ≢ 0 → busy n ≡ 1
busy_some zero some_n = absurd (some_n refl)
busy_some (suc n) some_n = refl

pub all_free : (f : ℕ → ℕ) → ((p : ℕ) → f p ≡ 0) → (p : ℕ) → busy_up_to f p ≡ 0
all_free f none zero = refl
all_free f none (suc p) = let rest = all_free f none p in let here : busy (f (suc p)) ≡ 0 = ap busy (none (suc p)) in omega arith

pub all_busy : (f : ℕ → ℕ) (p : ℕ) → ((q : ℕ) → 0 < q → q ≤ p → f q ≢ 0) → busy_up_to f p ≡ p
all_busy f zero some_all = refl
all_busy f (suc p) some_all = let rest = all_busy f p (λ q above within. some_all q above (omega arith)) in let here = busy_some (f (suc p)) (some_all (suc p) (omega arith) (omega arith)) in omega arith

pub no_busier : (f g : ℕ → ℕ) → ((q : ℕ) → busy (g q) ≤ busy (f q)) → (p : ℕ) → busy_up_to g p ≤ busy_up_to f p
no_busier f g less zero = omega arith
no_busier f g less (suc p) = let here = less (suc p) in let rest = no_busier f g less p in omega arith

-- where one page's state is another
busy_before : (f g : ℕ → ℕ) (q : ℕ) → ((x : ℕ) → x ≢ q → g x ≡ f x) → (p : ℕ) → p < q → busy_up_to g p ≡ busy_up_to f p
busy_before f g q same zero less = refl
busy_before f g q same (suc p) less = let rest = busy_before f g q same p (omega arith) in let here : busy (g (suc p)) ≡ busy (f (suc p)) = ap busy (same (suc p) (λ e. omega arith)) in omega arith

pub one_busier : (f g : ℕ → ℕ) (q : ℕ) → ((x : ℕ) → x ≢ q → g x ≡ f x) → (p : ℕ) → busy_up_to g p ≤ busy_up_to f p + 1
one_busier f g q same zero = omega arith
one_busier f g q same (suc p) = let most = busy_less (g (suc p)) in dite (ℕ_discrete (suc p) q)
    (λ e. let before = busy_before f g q same p (omega arith) in omega arith)
    (λ n. let here : busy (g (suc p)) ≡ busy (f (suc p)) = ap busy (same (suc p) n) in let rest = one_busier f g q same p in omega arith)

pub stored_busier : (f : ℕ → ℕ) (q n p : ℕ) → busy_up_to (stored f q n) p ≤ busy_up_to f p + 1
stored_busier f q n = one_busier f (stored f q n) q (stored_else f q n)

-- ---- own pages that go

pub as_many : (n : ℕ) (os : List Own) → length os ≡ length (let_go n os) + owns n os
as_many n [] = refl
as_many n (o ∷ os) = let rest = as_many n os in dite (ℕ_discrete n o.page)
    (λ e. let one = where_same n o.page 1 e in let here : length (let_go n (o ∷ os)) ≡ length (let_go n os) = ap (λ b. length (cond b (let_go n os) (o ∷ let_go n os))) (eq-eqb n o.page e) in omega arith)
    (λ e. let none = where_other n o.page 1 e in let here : length (let_go n (o ∷ os)) ≡ suc (length (let_go n os)) = ap (λ b. length (cond b (let_go n os) (o ∷ let_go n os))) (ne_eqb n o.page e) in omega arith)

-- ---- one step

pub counts_moved : (k : Shape) (f g : ℕ → ℕ) (vs : List View) (id : ℕ) (v : View) (b : Account) → CountRule k f vs → get_elem? vs id ≡ some v → CountFits b
    → busy_up_to g k.pages + pages_of v.me ≤ busy_up_to f k.pages + pages_of b → CountRule k g (set vs id (with_me v b))
counts_moved k f g vs id v b r at fits more = record {
  fits = changed CountFits vs id v b at fits r.fits;
  taken = let sum = total_changed pages_of vs id v b at in let old = r.taken in omega arith;
}

-- no page is taken or linked, and no insertion is forgotten
pub record SameCounts (a b : Account) : Type 0 where
  pub own : length b.pool.own ≡ length a.pool.own
  pub linked : b.counts.linked ≡ a.counts.linked
  pub begun : insertions_of a ≤ insertions_of b

pub same_fits : (a b : Account) → b.who ≡ a.who → SameCounts a b → CountFits a → CountFits b
same_fits a b who same fits =
    let own = same.own in let linked = same.linked in let begun = same.begun in let old = fits.linked in let few = fits.own in
    let alike : is_loader b.who ≡ is_loader a.who = ap is_loader who in record { linked = omega arith; own = omega arith }

-- ---- splits, joins and the opening

blank_fits : (who : Who) (front : ℕ) → CountFits (account who front)
blank_fits who front = record { linked = omega arith; own = omega arith }

pub counts_note : (k : Shape) (f : ℕ → ℕ) (vs : List View) (shape : Shape) (front : ℕ) → CountRule k f vs → CountRule k f (vs ++ view shape (account Note front) ∷ [])
counts_note k f vs shape front r = record {
  fits = each_more CountFits vs (account Note front) (view shape (account Note front)) refl refl (blank_fits Note front) r.fits;
  taken = let sum = total_more pages_of vs (view shape (account Note front)) refl in let old = r.taken in omega arith;
}

pub counts_caller : (k : Shape) (f : ℕ → ℕ) (vs : List View) (id m : ℕ) (v : View) → CountRule k f vs → get_elem? vs id ≡ some v → is_loader v.me.who ≡ 0
    → CountRule k f (set vs id (with_me v (after_made v.me)) ++ view k (account (caller_after k m) 0) ∷ [])
counts_caller k f vs id m v r at none =
    let mid : List View = set vs id (with_me v (after_made v.me)) in
    let fits = mine CountFits vs id v at r.fits in
    let own = fits.own in record {
      fits = each_more CountFits mid (account (caller_after k m) 0) (view k (account (caller_after k m) 0)) refl refl (blank_fits (caller_after k m) 0)
          (changed CountFits vs id v (after_made v.me) at record { linked = fits.linked; own = omega arith } r.fits);
      taken = let sum = total_more pages_of mid (view k (account (caller_after k m) 0)) refl in let first = total_changed pages_of vs id v (after_made v.me) at in let old = r.taken in omega arith;
    }

-- a view that counts nothing goes
pub counts_left : (k : Shape) (f : ℕ → ℕ) (vs : List View) (other : ℕ) (u : View) → CountRule k f vs → get_elem? vs other ≡ some u → sum_of pages_of (accounts_in u) ≡ 0 → CountRule k f (set vs other gone)
counts_left k f vs other u r there none = record {
  fits = each_left CountFits vs other (blank_fits Gone 0) r.fits;
  taken = let sum = total_left pages_of vs other u there refl in let old = r.taken in omega arith;
}

pub counts_gather : (k : Shape) (f : ℕ → ℕ) (vs : List View) (id other : ℕ) (v u : View) → CountRule k f vs → get_elem? vs id ≡ some v → ¬ (other ≡ id) → get_elem? vs other ≡ some u → CountRule k f (set (set vs id (keeping v u)) other gone)
counts_gather k f vs id other v u r at apart there = record {
  fits = each_gathered CountFits vs id other v u at there (blank_fits Gone 0) r.fits;
  taken = let sum = total_gathered pages_of vs id other v u at apart there refl in let old = r.taken in omega arith;
}

only : (F : Account → Type 0) (k : Shape) (a : Account) → F a → Each (λ v. Each F (accounts_in v)) (view k a ∷ [])
only F k a f = each_cons (λ (u : View). Each F (accounts_in u)) (view k a) [] (each_cons F a [] f (each_none F)) (each_none (λ (u : View). Each F (accounts_in u)))

pub counts_open : (k : Shape) (f : ℕ → ℕ) → ((p : ℕ) → p ≢ 1 → f p ≡ 0) → CountRule k f (opener k ∷ [])
counts_open k f free = record {
  fits = only CountFits k (account (Opener 0) 0) (blank_fits (Opener 0) 0);
  taken = let one = one_busier (λ _. 0) f 1 free k.pages in let none = all_free (λ _. 0) (λ _. refl) k.pages in omega arith;
}
