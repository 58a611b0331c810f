-- The descent as a whole.
use Rattle.std.proofs.Common.{◌≡◌, ℕ, ◌+◌, ◌≤◌, ◌⊎◌, Bool, false, List, [], ◌∷◌, ◌++◌, length, sym, refl, ap, ◌∙◌, subst, ⊎_elim, arith, inl, inr, length-append}
use mathlib.Core.Option.{some, some-injective}
use mathlib.Core.Logic.{dite}
use native.Mathlib.Decide.{ℕ_discrete}
use lib.ListN.{get_elem?}
use Rattle.board_core.specs.declared.tree.Link.TheVariants.{Absent}
use Rattle.board_core.specs.declared.tree.Reached.{Reached}
use Rattle.board_core.specs.Each.{Each, In}
use Rattle.board_core.specs.ClassTree.{IsBelow}
use Rattle.board_core.specs.declared.room.Row.{Row}
use Rattle.descent.specs.Sweep.{AllCover, IsWhole, IsSwept}
use Rattle.board_core.proofs.Lists.{inside}
use Rattle.descent.proofs.Swept.{swept}
use Rattle.descent.specs.Seats.{CodeLoad, Seat, load}
use Rattle.descent.specs.Visits.{visited, root}
use Rattle.descent.specs.Pruned.{IsPruned, IsLoaded, Few}
use Rattle.descent.specs.Walks.{Met, rows_of, IsMet, IsGood, IsBad, IsTold, ChainRead, IsBegun}
use Rattle.descent.specs.Descended.{IsDescended, MayBe}
use Rattle.descent.proofs.Lists.{in_right, visit_at}
use Rattle.descent.proofs.Gains.{met_of}
use Rattle.descent.proofs.Staying.{below_trans, met_below}
use Rattle.descent.proofs.Covers.{cover_at, cover_all, dropped_past}
use Rattle.descent.proofs.Anyway.{pruned_anyway}

-- of two beginnings of one list the shorter begins the longer
begins : (xs ys zs ws : List ℕ) → xs ++ zs ≡ ys ++ ws → length xs ≤ length ys → IsBelow xs ys
begins [] ys zs ws e h = (ys, refl)
begins (x ∷ xs) [] zs ws e h = absurd (omega arith)
begins (x ∷ xs) (y ∷ ys) zs ws e h =
    let head : x ≡ y = (let t : x ∷ (xs ++ zs) ≡ y ∷ (ys ++ ws) = e in cc) in
    let tail : xs ++ zs ≡ ys ++ ws = (let t : x ∷ (xs ++ zs) ≡ y ∷ (ys ++ ws) = e in cc) in
    let t = begins xs ys zs ws tail (omega arith) in
    (t.0, λ k. sym head k ∷ t.1 k)

pub root_begun : (covers : ℕ → ℕ → Type 0) (a : Seat) → a.reached ≡ root ∷ [] → IsBegun covers a.reached 0 1 false 0
root_begun covers a begun = subst (λ (rs : List Reached). IsBegun covers rs 0 1 false 0) (sym begun)
    record { inside = omega arith; is_page = refl; fresh = record { slots = refl; links = refl; zero = refl; more = refl }; kind = refl; is_depth = refl; cover = tt }

module _ (chain : ℕ) (codes : ℕ → List ℕ) (put old : ℕ → Type 0) (covers : ℕ → ℕ → Type 0) (a : Seat) (pinned : a.reached ≡ root ∷ [])
    (b : Seat) (gs hs : List Row) (count : ℕ) (q : ChainRead chain covers 0 false a b gs hs count) (may : MayBe chain codes put old b) where
  one : length a.reached ≡ 1
  one = ap length pinned

  mine : (i : ℕ) → (i ≡ 0) ⊎ (length a.reached ≤ i)
  mine i = let size = one in dite (ℕ_discrete i 0) (λ e. inl e) (λ e. inr (omega arith))

  path : (visited a.reached 0).path ≡ []
  path = ap (λ (x : Reached). x.path) (let t : visited a.reached 0 ≡ root = ap (λ rs. visited rs 0) pinned in t)

  is_swept : IsSwept covers b.reached
  is_swept = record {
    root = (q.end.0, subst (λ (l : List ℕ). IsWhole b.reached l false q.end.0) path q.end.1);
    down = λ y h inner i c at cover.
        let same : visited b.reached h.0 ≡ y = visit_at b.reached h.0 y h.1 in
        let d = q.done h.0 (mine h.0) (inside b.reached h.0 y h.1) in
        subst (λ (z : Reached). (z.leaf ≡ false) → get_elem? z.slots i ≡ some c → covers (length z.path) c → (get_elem? z.links i ≡ some Absent) ⊎ ((leaf : Bool) × (x : Reached) × IsWhole b.reached (z.path ++ c ∷ []) leaf x))
        same (λ kind there ok. d.followed kind i c there ok) inner at cover;
  }

  -- the loads agree with the codes of this board
  told : Each (IsTold codes) q.parts.loads
  told i l e = let h = subst (λ (ls : List CodeLoad). In l ls) (sym q.parts.loads_are) (in_right a.loads q.parts.loads l (i, e)) in may.told h.0 l h.1

  -- each row that was met, on this board
  row_of : (r : ℕ) → In r (rows_of q.parts.mets) → (m : Met) × IsMet covers b.reached m × (m.row ≡ r) × IsBelow m.path (codes r) × (length (codes r) ≡ 5) × In m q.parts.mets
  row_of r h =
      let t = met_of q.parts.mets r h in
      let is = q.parts.are_met t.1.0 t.0 t.1.1 in
      let w = met_below chain codes put old covers b.reached may.moment t.0 is in
      (t.0, is, t.2, subst (λ (n : ℕ). IsBelow t.0.path (codes n)) t.2 w.0, subst (λ (n : ℕ). length (codes n) ≡ 5) t.2 w.1, t.1)

  good_covers : (r : ℕ) → In r (rows_of q.parts.mets) → IsGood covers q.parts.loads r → AllCover covers 0 (codes r)
  good_covers r h good = cover_all covers (codes r) 0 (λ i c e.
      let five = (row_of r h).4 in
      let within = inside (codes r) i c e in
      let t = good i (omega arith) in
      let same : t.0 ≡ c = some-injective t.0 c (sym (told t.1.0 (load r i t.0) t.1.1) ∙ e) in
      subst (λ (z : ℕ × ℕ). covers z.0 z.1) (λ k. ((let n : i ≡ 0 + i = omega arith in n) k, same k)) t.2)

  bad_covers : (r : ℕ) → IsBad covers q.parts.loads r → AllCover covers 0 (codes r) → ⊥
  bad_covers r t all = t.3 (subst (λ (n : ℕ). covers n t.1) (omega arith) (cover_at covers (codes r) 0 t.0 t.1 all (told t.2.0 (load r t.0 t.1) t.2.1)))

  of_row : (r : ℕ) → IsLoaded q.parts.loads r → In r (rows_of q.parts.mets)
  of_row r h = subst (λ (n : ℕ). In n (rows_of q.parts.mets)) h.2 (q.parts.gained.only h.1.0 h.0 h.1.1)

  few : Few codes covers (IsLoaded q.parts.loads)
  few p all [] differ each = omega arith
  few p all (d ∷ ds) differ each =
      let first = each 0 d refl in
      let w = row_of d (of_row d first.0) in
      let five = w.4 in
      let whole : length (codes d) ≡ length p + length (first.1.0 ∷ first.1.1) = ap length first.1.2 ∙ length-append p (first.1.0 ∷ first.1.1) in
      q.parts.few p (omega arith) (d ∷ ds) differ (λ j r e.
      let t = each j r e in
      let v = row_of r (of_row r t.0) in
      let short = dropped_past covers codes r v.0.path p v.1.cover v.3 t.1 in
      (v.0, v.5, v.2, begins v.0.path p v.3.0 (t.1.0 ∷ t.1.1) (sym v.3.1 ∙ t.1.2) short))

  is_pruned : IsPruned codes covers q.parts.loads
  is_pruned = record {
    once = q.parts.gained.once;
    first = λ r h.
        let w = row_of r (of_row r h) in
        let v = subst (λ (l : List ℕ). (c : ℕ) × covers (length l) c × IsBelow (l ++ c ∷ []) w.0.path) path (q.come w.5.0 w.0 w.5.1) in
        let t = below_trans (v.0 ∷ []) w.0.path (codes r) v.2 w.3 in
        (v.0, t.0, t.1, v.1);
    few = few;
  }

  pub descended : IsDescended codes put old covers a.loads b gs hs count
  descended = record {
    swept = is_swept;
    given = q.parts.given;
    given_are = q.parts.given_are;
    differ = q.parts.gained.differ;
    placed = λ i r e. let t = q.parts.gained.picked i r e in let m = met_of q.parts.mets r t.0 in subst put m.2 (met_below chain codes put old covers b.reached may.moment m.0 (q.parts.are_met m.1.0 m.0 m.1.1)).2;
    loaded = λ i r e. let t = (q.parts.gained.picked i r e).1 0 (omega arith) in (load r 0 t.0, t.1, refl);
    covering = λ i r e. let t = q.parts.gained.picked i r e in good_covers r t.0 t.1;
    all_old = λ r o cover.
        let m = may.moment in
        let s = swept m.words m.sheet m.place codes put old m.tree b.reached m.known covers is_swept r o (m.five r (m.olds r o).0) cover in
        let y : Reached = s.1.0 in
        let mate = s.1.1 in
        let same : visited b.reached mate.there.0 ≡ y = visit_at b.reached mate.there.0 y mate.there.1 in
        let d = q.done mate.there.0 (mine mate.there.0) (inside b.reached mate.there.0 y mate.there.1) in
        let there : get_elem? (visited b.reached mate.there.0).slots s.1.2.0 ≡ some r = ap (λ (z : Reached). get_elem? z.slots s.1.2.0) same ∙ s.1.2.1 in
        ⊎_elim (λ (g : In r q.parts.given). g) (λ (t : IsBad covers q.parts.loads r). absurd (bad_covers r t cover))
        (q.parts.gained.all r (d.read (ap (λ (z : Reached). z.leaf) same ∙ mate.kind) s.1.2.0 r there));
    loads = q.parts.loads;
    loads_are = q.parts.loads_are;
    told = told;
    pruned = is_pruned;
    pruned_anyway = λ any five agrees. pruned_anyway codes any covers (rows_of q.parts.mets) q.parts.loads q.parts.given q.parts.gained told of_row is_pruned five agrees;
    rows = record {
      rows = rows_of q.parts.mets;
      different = q.parts.gained.different;
      each = λ i r e. let w = q.parts.gained.whole i r e in let f = w.loaded 0 (omega arith) in (load r 0 f.0, f.1, refl);
      all = of_row;
      count = q.counts;
    };
  }
