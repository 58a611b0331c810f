-- A descent that is done has read each old row whose codes all cover.
use Rattle.std.proofs.Common.{◌≡◌, ℕ, zero, suc, ◌+◌, ◌<◌, Bool, true, false, List, [], ◌∷◌, ◌++◌, length, sym, refl, ap, ◌∙◌, subst, arith, ⊎_elim, append_assoc, length-append}
use mathlib.Core.Option.{some}
use lib.ListN.{get_elem?}
use Rattle.board_core.specs.declared.tree.Link.TheVariants.{Absent}
use Rattle.board_core.specs.declared.tree.Reached.{Reached}
use Rattle.board_core.specs.Sheets.{Sheet}
use Rattle.board_core.specs.ClassTree.{Place, Tree}
use Rattle.board_core.specs.KnownPages.{IsEnd, EndTells, IsRead, KnowsPages}
use Rattle.descent.specs.Sweep.{AllCover, IsWhole, IsSwept}

non_empty : (xs : List ℕ) → 0 < length xs → (c : ℕ) × (rest : List ℕ) × (xs ≡ c ∷ rest)
non_empty [] h = absurd (omega arith)
non_empty (x ∷ xs) h = (x, xs, refl)

module _ (w : ℕ → ℕ → ℕ) (s : Sheet) (m : ℕ → Place) (codes : ℕ → List ℕ) (put old : ℕ → Type 0) (t : Tree w s m codes put) (rs : List Reached) (k : KnowsPages w s m codes old rs)
    (covers : ℕ → ℕ → Type 0) (sw : IsSwept covers rs) (r : ℕ) (o : old r) (five : length (codes r) ≡ 5) where
  tells_at : (b : Bool) (x : Reached) (path : List ℕ) → IsWhole rs path b x → EndTells codes rs b x r
  tells_at b x path h = subst (λ (c : Bool). EndTells codes rs c x r) h.mate.kind
      (k.ends h.mate.there.0 x h.mate.there.1 (subst (λ (c : Bool). IsEnd c x) (sym h.mate.kind) h.end) r o)

  -- n: how many codes are left
  pub swept_from : (n : ℕ) (b : Bool) (x : Reached) (path rest : List ℕ) → IsWhole rs path b x → codes r ≡ path ++ rest → length rest ≡ n → AllCover covers (length path) rest
      → (on : List ℕ) × IsRead rs on true r
  swept_from n true x path rest h below long all = (x.path, tells_at true x path h (rest, below ∙ ap (λ l. l ++ rest) (sym h.mate.path)))
  swept_from zero false x path rest h below long all =
      let f = k.fits h.mate.there.0 x h.mate.there.1 in
      let l = f.inner h.mate.kind in
      let place = f.place l in
      let shallow : length x.path < 5 = subst (λ (P : Place). length P.path < 5) place ((t.pages x.page l).shallow (ap (λ (P : Place). P.leaf) place ∙ h.mate.kind)) in
      let depth : length x.path ≡ length path = ap length h.mate.path in
      let whole : length (codes r) ≡ length path + length rest = ap length below ∙ length-append path rest in
      absurd (omega arith)
  swept_from (suc n) false x path rest h below long all =
      let e = non_empty rest (omega arith) in
      let c : ℕ = e.0 in
      let cover : AllCover covers (length path) (c ∷ e.1) = subst (AllCover covers (length path)) e.2 all in
      let found = tells_at false x path h c e.1 (below ∙ (λ i. sym h.mate.path i ++ e.2 i)) in
      let y : Reached = found.0 in
      let mate = found.1 in
      let on_path : y.path ≡ path = mate.path ∙ h.mate.path in
      let next : codes r ≡ (y.path ++ c ∷ []) ++ e.1 = below ∙ ((λ i. sym on_path i ++ e.2 i) ∙ sym (append_assoc y.path (c ∷ []) e.1)) in
      let deeper : length (y.path ++ c ∷ []) ≡ length path + 1 = length-append y.path (c ∷ []) ∙ ap (λ l. length l + 1) on_path in
      let less : length rest ≡ suc (length e.1) = ap length e.2 in
      ⊎_elim
      (λ (a : get_elem? y.links found.2.0 ≡ some Absent). absurd (k.absent mate.there.0 y mate.there.1 found.2.0 c a found.2.1 r o (e.1, next)))
      (λ (a : (leaf : Bool) × (z : Reached) × IsWhole rs (y.path ++ c ∷ []) leaf z).
      swept_from n a.0 a.1 (y.path ++ c ∷ []) e.1 a.2 next (omega arith) (subst (λ (d : ℕ). AllCover covers d e.1) (sym deeper) cover.1))
      (sw.down y mate.there mate.kind found.2.0 c found.2.1 (subst (λ (l : List ℕ). covers (length l) c) (sym on_path) cover.0))

  -- an old row all of whose codes cover was read in a leaf
  pub swept : AllCover covers 0 (codes r) → (on : List ℕ) × IsRead rs on true r
  swept all = swept_from 5 false sw.root.0 [] (codes r) sw.root.1 refl five all
