-- Codes that cover, and rows that are dropped at a path.
use Rattle.std.proofs.Common.{◌≡◌, ◌≢◌, ℕ, zero, suc, ◌+◌, ◌-◌, ◌<◌, ◌≤◌, ◌⊎◌, List, [], ◌∷◌, ◌++◌, length, sym, refl, ap, ◌∙◌, subst, ⊎_elim, arith, inl, inr, length-append, append_assoc}
use mathlib.Core.Option.{some, some-injective, some-ne-none}
use mathlib.Core.Logic.{dite}
use native.Mathlib.Decide.{ℕ_discrete}
use lib.ListN.{get_elem?}
use Rattle.board_core.specs.ClassTree.{IsBelow}
use Rattle.descent.specs.Sweep.{AllCover}
use Rattle.board_core.proofs.Seen.{has_at}
use Rattle.descent.specs.Pruned.{IsDropped}
use Rattle.descent.proofs.Lists.{at_left}

at_middle : (xs ys : List ℕ) (c : ℕ) → get_elem? (xs ++ c ∷ ys) (length xs) ≡ some c
at_middle [] ys c = refl
at_middle (x ∷ xs) ys c = at_middle xs ys c

-- the code after the path
pub code_after : (path codes : List ℕ) (c : ℕ) → IsBelow (path ++ c ∷ []) codes → get_elem? codes (length path) ≡ some c
code_after path codes c below = ap (λ l. get_elem? l (length path)) (below.1 ∙ append_assoc path (c ∷ []) below.0) ∙ at_middle path below.0 c

-- a row is below one code of a chain
pub one_code : (path codes : List ℕ) (c d : ℕ) → IsBelow (path ++ c ∷ []) codes → IsBelow (path ++ d ∷ []) codes → c ≡ d
one_code path codes c d x y = some-injective c d (sym (code_after path codes c x) ∙ code_after path codes d y)

pub below_less : (path codes : List ℕ) (c : ℕ) → IsBelow (path ++ c ∷ []) codes → IsBelow path codes
below_less path codes c below = (c ∷ below.0, below.1 ∙ append_assoc path (c ∷ []) below.0)

module _ (covers : ℕ → ℕ → Type 0) where
  pub cover_at : (cs : List ℕ) (d i c : ℕ) → AllCover covers d cs → get_elem? cs i ≡ some c → covers (d + i) c
  cover_at [] d i c all e = absurd (some-ne-none c (sym e))
  cover_at (x ∷ cs) d zero c all e = subst (λ (z : ℕ × ℕ). covers z.0 z.1) (λ k. ((let t : d ≡ d + 0 = omega arith in t) k, some-injective x c e k)) all.0
  cover_at (x ∷ cs) d (suc i) c all e = subst (λ (n : ℕ). covers n c) (omega arith) (cover_at cs (d + 1) i c all.1 e)

  pub cover_all : (cs : List ℕ) (d : ℕ) → ((i c : ℕ) → get_elem? cs i ≡ some c → covers (d + i) c) → AllCover covers d cs
  cover_all [] d each = tt
  cover_all (x ∷ cs) d each = (subst (λ (n : ℕ). covers n x) (omega arith) (each 0 x refl), cover_all cs (d + 1) (λ i c e. subst (λ (n : ℕ). covers n c) (omega arith) (each (suc i) c e)))

  cover_from : (path : List ℕ) (d c : ℕ) → AllCover covers d path → covers (d + length path) c → AllCover covers d (path ++ c ∷ [])
  cover_from [] d c all last = (subst (λ (n : ℕ). covers n c) (omega arith) last, tt)
  cover_from (x ∷ path) d c all last = (all.0, cover_from path (d + 1) c all.1 (subst (λ (n : ℕ). covers n c) (omega arith) last))

  pub cover_snoc : (path : List ℕ) (c : ℕ) → AllCover covers 0 path → covers (length path) c → AllCover covers 0 (path ++ c ∷ [])
  cover_snoc path c all last = cover_from path 0 c all (subst (λ (n : ℕ). covers n c) (omega arith) last)

  module _ (codes : ℕ → List ℕ) (r : ℕ) where
    -- the code at which a row is dropped is no code that covers
    pub dropped_past : (path q : List ℕ) → AllCover covers 0 path → IsBelow path (codes r) → IsDropped codes covers q r → length path ≤ length q
    dropped_past path q all below dropped = ⊎_elim (λ (h : length path ≤ length q). h)
        (λ (h : length q < length path).
        let a = has_at path (length q) h in
        let here : get_elem? (codes r) (length q) ≡ some a.0 = ap (λ l. get_elem? l (length q)) below.1 ∙ at_left path below.0 (length q) a.0 a.1 in
        let there : get_elem? (codes r) (length q) ≡ some dropped.0 = ap (λ l. get_elem? l (length q)) dropped.2 ∙ at_middle q dropped.1 dropped.0 in
        let same : a.0 ≡ dropped.0 = some-injective a.0 dropped.0 (sym here ∙ there) in
        absurd (dropped.3 (subst (λ (z : ℕ × ℕ). covers z.0 z.1) (λ k. ((let t : 0 + length q ≡ length q = omega arith in t) k, same k)) (cover_at path 0 (length q) a.0 all a.1))))
        (cases (length path) (length q))
      where
        cases : (m n : ℕ) → (m ≤ n) ⊎ (n < m)
        cases m n = dite (ℕ_discrete (m - n) 0) (λ (e : m - n ≡ 0). inl (omega arith)) (λ (e : m - n ≢ 0). inr (omega arith))

    -- so the path at which it is dropped goes through each code that it is below and that covers
    pub dropped_code : (path q : List ℕ) (c : ℕ) → AllCover covers 0 (path ++ c ∷ []) → IsBelow (path ++ c ∷ []) (codes r) → IsDropped codes covers q r → get_elem? q (length path) ≡ some c
    dropped_code path q c all below dropped =
        let past = dropped_past (path ++ c ∷ []) q all below dropped in
        let long = length-append path (c ∷ []) in
        let a = has_at q (length path) (omega arith) in
        let here : get_elem? (codes r) (length path) ≡ some a.0 = ap (λ l. get_elem? l (length path)) dropped.2 ∙ at_left q (dropped.0 ∷ dropped.1) (length path) a.0 a.1 in
        a.1 ∙ (sym here ∙ code_after path (codes r) c below)

    -- a row of five codes, below five that cover, is not dropped
    pub deep_stays : (path q : List ℕ) → 5 ≤ length path → length (codes r) ≡ 5 → AllCover covers 0 path → IsBelow path (codes r) → IsDropped codes covers q r → ⊥
    deep_stays path q deep five all below dropped =
        let past = dropped_past path q all below dropped in
        let whole : length (codes r) ≡ length q + length (dropped.0 ∷ dropped.1) = ap length dropped.2 ∙ length-append q (dropped.0 ∷ dropped.1) in
        absurd (omega arith)
