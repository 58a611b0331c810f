-- A row's codes are told by its loads: whatever five codes the rows have that agree with the code words loaded, the loads are pruned.
use Rattle.std.proofs.Common.{◌≡◌, ◌≢◌, ℕ, suc, ◌+◌, ◌-◌, ◌≤◌, List, [], ◌∷◌, ◌++◌, length, sym, refl, ap, ◌∙◌, subst, ⊎_elim, arith, length-append}
use mathlib.Core.Option.{some, some-injective, some-ne-none}
use mathlib.Core.Logic.{dite}
use native.Mathlib.Decide.{ℕ_discrete}
use lib.ListN.{get_elem?}
use Rattle.board_core.specs.Each.{Each, In}
use Rattle.descent.specs.Sweep.{AllCover}
use Rattle.board_core.proofs.Lists.{inside}
use Rattle.board_core.proofs.Seen.{has_at}
use Rattle.descent.specs.Seats.{CodeLoad, load}
use Rattle.descent.specs.Pruned.{IsPruned, IsLoaded, IsDropped}
use Rattle.descent.specs.Walks.{IsTold, IsSifted, Gained}
use Rattle.descent.proofs.Lists.{at_left}
use Rattle.descent.proofs.Covers.{cover_at}

at_first : (xs : List ℕ) (c : ℕ) → get_elem? xs 0 ≡ some c → (rest : List ℕ) × (xs ≡ c ∷ rest)
at_first [] c e = absurd (some-ne-none c (sym e))
at_first (x ∷ xs) c e = (xs, λ k. some-injective x c e k ∷ xs)

-- a list that has these at its front
begins_with : (path : List ℕ) (c : ℕ) (xs : List ℕ) → ((i d : ℕ) → get_elem? (path ++ c ∷ []) i ≡ some d → get_elem? xs i ≡ some d) → (rest : List ℕ) × (xs ≡ path ++ c ∷ rest)
begins_with [] c xs each = at_first xs c (each 0 c refl)
begins_with (p ∷ path) c [] each = absurd (some-ne-none p (sym (each 0 p refl)))
begins_with (p ∷ path) c (x ∷ xs) each =
    let same : x ≡ p = some-injective x p (each 0 p refl) in
    let t = begins_with path c xs (λ i d e. each (suc i) d e) in
    (t.0, λ k. same k ∷ t.1 k)

at_middle : (xs ys : List ℕ) (c : ℕ) → get_elem? (xs ++ c ∷ ys) (length xs) ≡ some c
at_middle [] ys c = refl
at_middle (x ∷ xs) ys c = at_middle xs ys c

module _ (codes any : ℕ → List ℕ) (covers : ℕ → ℕ → Type 0) (rows : List ℕ) (ls : List CodeLoad) (gs : List ℕ) (g : Gained covers rows ls gs) (told : Each (IsTold codes) ls)
    (of_row : (r : ℕ) → IsLoaded ls r → In r rows) (p : IsPruned codes covers ls) (five : (r : ℕ) → IsLoaded ls r → length (any r) ≡ 5) (agrees : Each (IsTold any) ls) where
  sifted : (r : ℕ) → IsLoaded ls r → IsSifted covers ls r
  sifted r h = let t = of_row r h in g.whole t.0 r t.1

  -- the code of a level that was loaded, by both
  both : (r i c : ℕ) → In (load r i c) ls → (get_elem? (codes r) i ≡ some c) × (get_elem? (any r) i ≡ some c)
  both r i c h = (told h.0 (load r i c) h.1, agrees h.0 (load r i c) h.1)

  first : (r : ℕ) → IsLoaded ls r → (c : ℕ) × (rest : List ℕ) × (any r ≡ c ∷ rest) × covers 0 c
  first r h =
      let l = (sifted r h).loaded 0 (omega arith) in
      let b = both r 0 l.0 l.1 in
      let own = p.first r h in
      let same : own.0 ≡ l.0 = some-injective own.0 l.0 (sym (ap (λ xs. get_elem? xs 0) own.2) ∙ b.0) in
      let t = at_first (any r) l.0 b.1 in
      (l.0, t.0, t.1, subst (λ (c : ℕ). covers 0 c) same own.3)

  dropped : (r : ℕ) → IsLoaded ls r → (path : List ℕ) → AllCover covers 0 path → IsDropped any covers path r → IsDropped codes covers path r
  dropped r h path cover d =
      let s = sifted r h in
      let most = s.most in
      let whole : length (any r) ≡ length path + length (d.0 ∷ d.1) = ap length d.2 ∙ length-append path (d.0 ∷ d.1) in
      let size = five r h in
      let within : length path ≤ s.last = dite (ℕ_discrete (length path - s.last) 0) (λ (e : length path - s.last ≡ 0). omega arith)
      (λ (e : length path - s.last ≢ 0).
      let l = s.loaded s.last (omega arith) in
      let b = both r s.last l.0 l.1 in
      let a = has_at path s.last (omega arith) in
      let here : get_elem? (any r) s.last ≡ some a.0 = ap (λ xs. get_elem? xs s.last) d.2 ∙ at_left path (d.0 ∷ d.1) s.last a.0 a.1 in
      let same : a.0 ≡ l.0 = some-injective a.0 l.0 (sym here ∙ b.1) in
      let ok : covers s.last l.0 = subst (λ (z : ℕ × ℕ). covers z.0 z.1) (λ k. ((let n : 0 + s.last ≡ s.last = omega arith in n) k, same k)) (cover_at covers path 0 s.last a.0 cover a.1) in
      ⊎_elim (λ (u : s.last ≡ 4). absurd (omega arith)) (λ (u : covers s.last l.0 → ⊥). absurd (u ok)) (l.3 refl)) in
      let t = begins_with path d.0 (codes r) (λ i x e.
      let less = inside (path ++ d.0 ∷ []) i x e in
      let long = length-append path (d.0 ∷ []) in
      let l = s.loaded i (omega arith) in
      let b = both r i l.0 l.1 in
      let whole_path : any r ≡ (path ++ d.0 ∷ []) ++ d.1 = d.2 ∙ sym (assoc path d.0 d.1) in
      let here : get_elem? (any r) i ≡ some x = ap (λ xs. get_elem? xs i) whole_path ∙ at_left (path ++ d.0 ∷ []) d.1 i x e in
      b.0 ∙ (sym b.1 ∙ here)) in
      (d.0, t.0, t.1, d.3)
    where
      assoc : (xs : List ℕ) (c : ℕ) (ys : List ℕ) → (xs ++ c ∷ []) ++ ys ≡ xs ++ c ∷ ys
      assoc [] c ys = refl
      assoc (x ∷ xs) c ys = ap (λ l. x ∷ l) (assoc xs c ys)

  pub pruned_anyway : IsPruned any covers ls
  pruned_anyway = record {
    once = p.once;
    first = first;
    few = λ path cover ds differ each. p.few path cover ds differ (λ j r e. let t = each j r e in (t.0, dropped r t.0 path cover t.1));
  }
