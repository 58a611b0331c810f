-- One word is stored: what it is at its place and elsewhere, and each part of the table's words after it.
use Rattle.std.proofs.Common.{◌≡◌, ◌≢◌, ℕ, zero, suc, ◌+◌, ◌*◌, ◌-◌, ◌<◌, ◌≤◌, Bool, true, false, ltb, cond, List, length, take, drop, get_or, set, sym, refl, ap, ◌∙◌, arith, eq-eqb, ne_eqb, lt-ltb, ltb-true, get_or-set_same, get_or-set_other, length-take}
use Rattle.std.proofs.lemmas.List.{drop-set-lt, drop-set-add, take-set-le, length-drop}
use Rattle.std.proofs.Math.Seq.{take-set-lt}
use mathlib.Core.Logic.{dite}
use native.Mathlib.Decide.{ℕ_discrete}
use lib.Seq.{get_or-take, get_or-drop}
use Rattle.board_core.specs.Words.{part, from_one, sixteen, stored, stored_page}

pub stored_here : (f : ℕ → ℕ) (i n : ℕ) → stored f i n i ≡ n
stored_here f i n = ap (λ b. cond b n (f i)) (eq-eqb i i refl)

pub stored_else : (f : ℕ → ℕ) (i n j : ℕ) → j ≢ i → stored f i n j ≡ f j
stored_else f i n j other = ap (λ b. cond b n (f j)) (ne_eqb j i other)

-- ---- a part of the table's words

in_part : (l : List ℕ) (i n j : ℕ) → i < length l → get_or (set l i n) j 0 ≡ stored (λ t. get_or l t 0) i n j
in_part l i n j inside = dite (ℕ_discrete j i)
    (λ same. ap (λ t. get_or (set l i n) t 0) same ∙ (get_or-set_same l i n 0 inside ∙ (sym (stored_here (λ t. get_or l t 0) i n) ∙ ap (stored (λ t. get_or l t 0) i n) (sym same))))
    (λ other. get_or-set_other l i j n 0 other ∙ sym (stored_else (λ t. get_or l t 0) i n j other))

pub stored_part : (from size : ℕ) (ws : List ℕ) (i n : ℕ) → i < size → from + size ≤ length ws → part from size (set ws (from + i) n) ≡ stored (part from size ws) i n
stored_part from size ws i n inside room =
    let l : List ℕ = take size (drop from ws) in
    let e : (j : ℕ) → part from size (set ws (from + i) n) j ≡ stored (part from size ws) i n j = λ j.
    ap (λ (m : List ℕ). get_or m j 0) (ap (take size) (drop-set-add from ws i n) ∙ take-set-lt size (drop from ws) i n inside) ∙ in_part l i n j (omega (arith, length-take size (drop from ws), length-drop from ws))
    in λ t j. e j t

pub part_past : (from size : ℕ) (ws : List ℕ) (at n : ℕ) → at < from → part from size (set ws at n) ≡ part from size ws
part_past from size ws at n before = ap (λ (m : List ℕ). λ (j : ℕ). get_or (take size m) j 0) (drop-set-lt from ws at n before)

pub part_before : (from size : ℕ) (ws : List ℕ) (at n : ℕ) → from + size ≤ at → part from size (set ws at n) ≡ part from size ws
part_before from size ws at n past = let back : at ≡ from + (at - from) = omega arith in
    ap (λ (t : ℕ). part from size (set ws t n)) back
    ∙ ap (λ (m : List ℕ). λ (j : ℕ). get_or m j 0) (ap (take size) (drop-set-add from ws (at - from) n) ∙ take-set-le size (drop from ws) (at - from) n (omega arith))

-- what a part has at a place within it
pub part_at : (from size : ℕ) (ws : List ℕ) (i : ℕ) → i < size → part from size ws i ≡ get_or ws (from + i) 0
part_at from size ws i inside = get_or-take size (drop from ws) i 0 inside ∙ get_or-drop from ws i 0

-- ---- counted from 1

pub stored_from_one : (f : ℕ → ℕ) (i n : ℕ) → from_one (stored f i n) ≡ stored (from_one f) (suc i) n
stored_from_one f i n = let e : (j : ℕ) → from_one (stored f i n) j ≡ stored (from_one f) (suc i) n j = one_later f i n in λ t j. e j t
  where
    one_later : (f : ℕ → ℕ) (i n j : ℕ) → from_one (stored f i n) j ≡ stored (from_one f) (suc i) n j
    one_later f i n zero = sym (stored_else (from_one f) (suc i) n zero (λ e. omega arith))
    one_later f i n (suc j) = dite (ℕ_discrete j i)
        (λ same. ap (stored f i n) same ∙ (stored_here f i n ∙ (sym (stored_here (from_one f) (suc i) n) ∙ ap (stored (from_one f) (suc i) n) (ap suc (sym same)))))
        (λ other. stored_else f i n j other ∙ sym (stored_else (from_one f) (suc i) n (suc j) (λ e. other (omega arith))))

-- ---- the words of pages

pub page_here : (f : ℕ → ℕ → ℕ) (p i n j : ℕ) → stored_page f p i n p j ≡ stored (f p) i n j
page_here f p i n j = ap (λ b. cond b (stored (f p) i n j) (f p j)) (eq-eqb p p refl)

pub page_else : (f : ℕ → ℕ → ℕ) (p i n q j : ℕ) → q ≢ p → stored_page f p i n q j ≡ f q j
page_else f p i n q j other = ap (λ b. cond b (stored (f p) i n j) (f q j)) (ne_eqb q p other)

where_less : (b : Bool) (x y : ℕ) → (b ≡ true → x ≡ y) → cond b x 0 ≡ cond b y 0
where_less true x y same = same refl
where_less false x y same = refl

same_page : (f : ℕ → ℕ) (p i n j : ℕ) → i < 16 → sixteen (stored f (16 * p + i) n) (suc p) j ≡ stored (sixteen f (suc p)) i n j
same_page f p i n j small = dite (ℕ_discrete j i)
    (λ same. ap (sixteen (stored f (16 * p + i) n) (suc p)) same
    ∙ (ap (λ b. cond b (stored f (16 * p + i) n (16 * p + i)) 0) (lt-ltb i 16 small) ∙ (stored_here f (16 * p + i) n ∙ (sym (stored_here (sixteen f (suc p)) i n) ∙ ap (stored (sixteen f (suc p)) i n) (sym same)))))
    (λ other. where_less (ltb j 16) (stored f (16 * p + i) n (16 * p + j)) (f (16 * p + j)) (λ _. stored_else f (16 * p + i) n (16 * p + j) (λ e. other (omega arith)))
    ∙ sym (stored_else (sixteen f (suc p)) i n j other))

one_page : (f : ℕ → ℕ) (p i n q j : ℕ) → i < 16 → sixteen (stored f (16 * p + i) n) q j ≡ stored_page (sixteen f) (suc p) i n q j
one_page f p i n zero j small = sym (page_else (sixteen f) (suc p) i n zero j (λ e. omega arith))
one_page f p i n (suc q) j small = dite (ℕ_discrete q p)
    (λ same. ap (λ t. sixteen (stored f (16 * p + i) n) (suc t) j) same ∙ (same_page f p i n j small ∙ (sym (page_here (sixteen f) (suc p) i n j) ∙ ap (λ t. stored_page (sixteen f) (suc p) i n (suc t) j) (sym same))))
    (λ other. where_less (ltb j 16) (stored f (16 * p + i) n (16 * q + j)) (f (16 * q + j)) (λ less. let low = ltb-true j 16 less in stored_else f (16 * p + i) n (16 * q + j) (λ e. other (omega arith)))
    ∙ sym (page_else (sixteen f) (suc p) i n (suc q) j (λ e. other (omega arith))))

pub stored_sixteen : (f : ℕ → ℕ) (p i n : ℕ) → i < 16 → sixteen (stored f (16 * p + i) n) ≡ stored_page (sixteen f) (suc p) i n
stored_sixteen f p i n small = λ t q j. one_page f p i n q j small t
