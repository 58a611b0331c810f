-- The words that an account stored in an own page are the page's words.
use Rattle.std.proofs.Common.{◌≡◌, ℕ, zero, suc, ◌-◌, ◌<◌, ◌≤◌, Bool, cond, List, [], ◌∷◌, length, sym, refl, ap, ◌∙◌, arith, slice_index, eq-eqb, ne_eqb}
use mathlib.Core.Option.{some, some-injective}
use mathlib.Core.Logic.{dite}
use native.Mathlib.Decide.{ℕ_discrete}
use lib.ListN.{get_elem?}
use Rattle.board_core.specs.declared.account.Account.{Account}
use Rattle.board_core.specs.declared.pool.Own.{Own}
use Rattle.board_core.specs.Each.{Each, In}
use Rattle.board_core.specs.Sheets.{owns}
use Rattle.board_core.specs.OwnRule.{OwnFits}
use Rattle.board_core.specs.Plan.{words_at, own_word, IsWhole}
use Rattle.board_core.proofs.PageSums.{where_other}
use Rattle.board_core.proofs.Seen.{has_at}

-- ---- lists

index_is : (ws : List ℕ) (i n : ℕ) → get_elem? ws i ≡ some n → slice_index ws i ≡ n
index_is [] i n e = absurd (let clash : get_elem? {A = ℕ} [] i ≡ some n = e in cc)
index_is (x ∷ ws) zero n e = some-injective x n e
index_is (x ∷ ws) (suc i) n e = index_is ws i n e

index_past : (ws : List ℕ) (i : ℕ) → length ws ≤ i → slice_index ws i ≡ 0
index_past [] i past = refl
index_past (x ∷ ws) zero past = absurd (omega arith)
index_past (x ∷ ws) (suc i) past = index_past ws i (omega arith)

-- ---- the page's entry among the own pages

-- words of this page, as it stands among the own pages
abbrev IsEntry : List Own → ℕ → List ℕ → Type 0
IsEntry os q ws = (o : Own) × In o os × (o.page ≡ q) × (o.words ≡ ws)

entry_at : (os : List Own) (q : ℕ) → 0 < owns q os → IsEntry os q (words_at os q)
entry_at [] q some_o = absurd (omega arith)
entry_at (o ∷ os) q some_o = dite (ℕ_discrete q o.page)
    (λ y. (o, (zero, refl), sym y, ap (λ (b : Bool). cond b o.words (words_at os q)) (sym (eq-eqb q o.page y))))
    (λ y. let away = where_other q o.page 1 y in let h = entry_at os q (omega arith) in
    (h.0, (suc h.1.0, h.1.1), h.2, h.3 ∙ ap (λ (b : Bool). cond b o.words (words_at os q)) (sym (ne_eqb q o.page y))))

pub whole_words : (w : ℕ → ℕ → ℕ) (a : Account) (q : ℕ) → Each (OwnFits w) a.pool.own → IsWhole a q → ((i : ℕ) → 16 ≤ i → w q i ≡ 0) → own_word a.pool.own q ≡ w q
whole_words w a q fits whole past =
    let ws : List ℕ = words_at a.pool.own q in
    let (o, in_list, page, words) = entry_at a.pool.own q whole.own in
    let size : length ws ≡ 16 = whole.size in
    let word : (i : ℕ) → slice_index ws i ≡ w q i = λ i. dite (ℕ_discrete (i - 15) 0)
    (λ low. let (n, there) = has_at ws i (omega arith) in
    index_is ws i n there ∙ (sym ((fits in_list.0 o in_list.1).words i n (ap (λ (l : List ℕ). get_elem? l i) words ∙ there)) ∙ ap (λ (z : ℕ). w z i) page))
    (λ high. index_past ws i (omega arith) ∙ sym (past i (omega arith))) in
    λ t i. word i t
