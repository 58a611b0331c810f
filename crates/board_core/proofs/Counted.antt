-- A list of different rows that callers have begun is no longer than all rows that they have begun together.
use Rattle.std.proofs.Common.{◌≡◌, ℕ, zero, suc, ◌+◌, ◌<◌, ◌≤◌, List, [], ◌∷◌, ◌++◌, length, length-append, sym, refl, ap, ◌∙◌, subst, ⊎_elim, arith}
use mathlib.Core.Option.{some, some-ne-none}
use mathlib.Core.Logic.{dite}
use native.Mathlib.Decide.{ℕ_discrete}
use lib.ListN.{get_elem?}
use Rattle.board_core.specs.declared.account.Account.{Account}
use Rattle.board_core.specs.declared.account.View.{View}
use Rattle.board_core.specs.declared.room.Row.{Row}
use Rattle.board_core.specs.Each.{Each, sum_of}
use Rattle.board_core.specs.Accounts.{accounts_in, total}
use Rattle.board_core.specs.Sheets.{where_page}
use Rattle.board_core.specs.Rows.{entry_word, IsBegun}
use Rattle.board_core.specs.CountRule.{insertions_of}
use Rattle.board_core.proofs.Lists.{at_end, one_of, sum_zero}
use Rattle.board_core.proofs.PageSums.{where_same, where_other}
use Rattle.board_core.proofs.FewPages.{sum_plus, sum_same, total_most, total_plus}

-- no number stands twice in the list
abbrev pub AreApart : List ℕ → Type 0
AreApart rows = (i j r : ℕ) → get_elem? rows i ≡ some r → get_elem? rows j ≡ some r → i ≡ j

apart_rest : (r : ℕ) (rows : List ℕ) → AreApart (r ∷ rows) → AreApart rows
apart_rest r rows apart i j n a b = let e = apart (suc i) (suc j) n a b in omega arith

-- 1 where the word names the row, and how often one of the list does
abbrev names : ℕ → Row → ℕ
names n row = where_page n (entry_word row) 1

abbrev among : List ℕ → Row → ℕ
among rows row = sum_of (λ n. names n row) rows

abbrev held : List ℕ → Account → ℕ
held rows a = sum_of (among rows) a.tree.begun

among_one : (rows : List ℕ) (row : Row) → AreApart rows → among rows row ≤ 1
among_one [] row apart = omega arith
among_one (r ∷ rows) row apart = dite (ℕ_discrete r (entry_word row))
    (λ e. let here = where_same r (entry_word row) 1 e in
    let none : among rows row ≡ 0 = sum_zero (λ n. names n row) rows (λ j n there. where_other n (entry_word row) 1
    (λ same. let twice = apart zero (suc j) n (ap some (e ∙ sym same)) there in omega arith)) in omega arith)
    (λ other. let here = where_other r (entry_word row) 1 other in let rest = among_one rows row (apart_rest r rows apart) in omega arith)

sum_ones : (f : Row → ℕ) (xs : List Row) → ((x : Row) → f x ≤ 1) → sum_of f xs ≤ length xs
sum_ones f [] small = omega arith
sum_ones f (x ∷ xs) small = let here = small x in let rest = sum_ones f xs small in omega arith

total_same : (f g : Account → ℕ) (vs : List View) → ((a : Account) → f a ≡ g a) → total f vs ≡ total g vs
total_same f g vs same = sum_same (λ v. sum_of f (accounts_in v)) (λ v. sum_of g (accounts_in v)) vs (λ v. sum_same f g (accounts_in v) same)

-- a row that was begun counts
begun_counts : (vs : List View) (n : ℕ) → IsBegun vs n → 1 ≤ total (λ a. sum_of (names n) a.tree.begun) vs
begun_counts vs n (j, v, at, i, a, there, (row, (q, spot), is)) =
    let one = where_same n (entry_word row) 1 (sym is) in
    let in_list = one_of (names n) a.tree.begun q row spot in
    let in_view = one_of (λ (x : Account). sum_of (names n) x.tree.begun) (accounts_in v) i a there in
    let in_all = one_of (λ (u : View). sum_of (λ (x : Account). sum_of (names n) x.tree.begun) (accounts_in u)) vs j v at in omega arith

all_held : (vs : List View) (rows : List ℕ) → Each (IsBegun vs) rows → length rows ≤ total (held rows) vs
all_held vs [] all = omega arith
all_held vs (r ∷ rows) all =
    let here = begun_counts vs r (all zero r refl) in
    let rest = all_held vs rows (λ j. all (suc j)) in
    let parts : total (held (r ∷ rows)) vs ≡ total (λ a. sum_of (names r) a.tree.begun) vs + total (held rows) vs =
    total_same (held (r ∷ rows)) (λ a. sum_of (names r) a.tree.begun + held rows a) vs (λ a. sum_plus (names r) (among rows) a.tree.begun)
    ∙ total_plus (λ a. sum_of (names r) a.tree.begun) (held rows) vs in omega arith

-- rows that were begun, none twice, are no more than the insertions begun
pub few_apart : (vs : List View) (rows : List ℕ) → Each (IsBegun vs) rows → AreApart rows → length rows ≤ total insertions_of vs
few_apart vs rows all apart =
    let each_held = all_held vs rows all in
    let most = total_most (held rows) insertions_of vs (λ j v at i a there. sum_ones (among rows) a.tree.begun (λ x. among_one rows x apart)) in omega arith

-- a list of so many numbers, each of which has a fact of its place
pub listed : (R : ℕ → ℕ → Type 0) (n : ℕ) → ((c : ℕ) → c < n → (r : ℕ) × R c r) → (rows : List ℕ) × (length rows ≡ n) × ((c r : ℕ) → get_elem? rows c ≡ some r → R c r)
listed R zero each = ([], refl, λ c r there. absurd (some-ne-none r (sym there)))
listed R (suc n) each =
    let before = listed R n (λ c less. each c (omega arith)) in
    let last = each n (omega arith) in
    let long = length-append before.0 (last.0 ∷ []) in
    let was = before.1 in (
      before.0 ++ last.0 ∷ [],
      omega arith,
      λ c r there. ⊎_elim (λ (t : get_elem? before.0 c ≡ some r). before.2 c r t)
          (λ (t : (c ≡ length before.0) × (last.0 ≡ r)). subst (R c) t.1 (subst (λ (z : ℕ). R z last.0) (sym (t.0 ∙ before.1)) last.1)) (at_end before.0 last.0 r c there),
    )
