-- The law of cover: what an embedding does to needs.
use Rattle.std.proofs.Common.{◌≡◌, ℕ, zero, suc, ◌-◌, ◌<◌, ◌≤◌, Bool, true, false, not, ◌||◌, cond, eqb, leb, List, length, get_or, sym, ap, ◌∙◌, inl, inr, arith}
use Rattle.std.specs.List.{list_all, range_with_len}
use Rattle.std.proofs.lemmas.Bool.{cases_Bool, and_parts, or_cases, eqb-true, leb-true, le-leb, both_ways}
use Rattle.std.proofs.lemmas.List.Folds.{list_all_at}
use Rattle.std.proofs.lemmas.List.FromFn.{length-range_with_len, get_or-range_with_len}
use Rattle.std.proofs.lemmas.Option.{get_or_from_slice_get, slice_get_within}
use Rattle.htss_defs.specs.declared.mol.Atom.{Atom}
use Rattle.htss_defs.specs.declared.query.AtomTest.{AtomTest}
use Rattle.htss_defs.specs.Graph.{IsRingBond}
use Rattle.htss_defs.specs.Molecule.{Molecule, IsMolecule, IsAtom, molecule_graph}
use Rattle.htss_defs.specs.QueryGraph.{QueryGraph, IsQuery, query_shape}
use Rattle.htss_defs.specs.Marked.{IsMarked, IsMarkedQuery}
use Rattle.htss_defs.specs.Passes.{allows, kind_passes}
use Rattle.htss_defs.specs.Embedding.{IsEmbedding, place_of}
use Rattle.htss_defs.specs.Distances.{degree}
use Rattle.htss_defs.specs.Codes.{lane, word_of, is_of_kind, no_atom, element_at, bonds_at, own_lane, counts_in, near_lane, code_at, codes_at}
use Rattle.htss_defs.specs.Needs.{test_at, surely_of_kind, query_bonds_at, own_need, surely_in, near_need, need_word, need_at}
use Rattle.env_cover.specs.Law.{LawOfCover, LawOfScreening}
use Rattle.env_cover.proofs.Embeddings.{IsImage, atom-lands, count-bonds, count-near, degree-bond, ring-image, place-within}
use Rattle.env_cover.proofs.LaneWords.{lane-word}

-- ---- elements

-- the element of the atom at the place of u is one that the test of u allows
record IsAllowed (q : QueryGraph) (m : Molecule) (f : List ℕ) (u : ℕ) : Type 0 where
  low : 1 ≤ element_at m (place_of f u)
  high : element_at m (place_of f u) ≤ 118
  allowed : allows (test_at q u) (element_at m (place_of f u)) ≡ true

IsAllowed-of : (q : QueryGraph) (m : Molecule) (f : List ℕ) (u : ℕ) → IsMolecule m → IsEmbedding q m f → 1 ≤ u → u ≤ length q.atoms → IsAllowed q m f u
IsAllowed-of q m f u valid e low high =
    let lands = atom-lands q m f u e low high in
    let p : ℕ = place_of f u in
    let there : get_or m.atoms (p - 1) no_atom ≡ lands.atom = get_or_from_slice_get m.atoms (p - 1) lands.atom no_atom lands.here.1 in
    let atom : IsAtom (get_or m.atoms (p - 1) no_atom) = valid.each_atom (p - 1) no_atom (slice_get_within m.atoms (p - 1) lands.atom lands.here.1) in
    let passes : allows (test_at q u) lands.atom.element ≡ true = (and_parts (allows (test_at q u) lands.atom.element) _ (and_parts _ _ lands.passes).0).0 in
    record {
      low = atom.element.0;
      high = atom.element.1;
      allowed = ap (λ (a : Atom). allows (test_at q u) a.element) there ∙ passes;
    }

-- an element that the test allows is of the kind
sure-kind : (test : AtomTest) (i element : ℕ) → surely_of_kind test i ≡ true → 1 ≤ element → element ≤ 118 → allows test element ≡ true → is_of_kind i element ≡ true
unfolding surely_of_kind
sure-kind test i element sure low high allowed = elim (cases_Bool (is_of_kind i element)) [
  | inl is ↦ is
  | inr other ↦
      let p : ℕ → Bool = λ x. not (allows test x) || is_of_kind i x in
      let fails : p element ≡ false = ap (λ b. not b || is_of_kind i element) allowed ∙ other in
      let here : get_or (range_with_len 1 118) (element - 1) 0 ≡ element = get_or-range_with_len 1 118 (element - 1) 0 (omega arith) ∙ omega arith in
      absurd (both_ways (list_all p (range_with_len 1 118)) (list_all_at p (range_with_len 1 118) (element - 1) 0 (omega (arith, length-range_with_len 1 118)) (ap p here ∙ fails)) sure)
]

-- ---- code 0

ring-sure : (q : QueryGraph) (m : Molecule) (f : List ℕ) → IsQuery q → IsMarkedQuery q → IsMarked m → IsEmbedding q m f → (k j : ℕ) → (i : IsImage q m f k j) → (eqb i.asked.topology 1 || i.asked.ring) ≡ true → i.bond.ring ≡ true
ring-sure q m f query marked_query marked e k j i sure =
    let ring : IsRingBond (molecule_graph m) j = elim (or_cases (eqb i.asked.topology 1) i.asked.ring sure) [
      | inl asks ↦ i.topology.ring (eqb-true i.asked.topology 1 asks)
      | inr flag ↦ ring-image q m f k j query e i ((marked_query k i.asked i.there).0 flag)
    ] in
    (marked j i.bond i.here).1 ring

-- an exact type lands on the same
kind-2 : (asked kind : ℕ) → kind_passes asked kind ≡ true → eqb asked 2 ≡ true → eqb kind 2 ≡ true
kind-2 asked kind passes is = ap (λ n. kind_passes n kind) (sym (eqb-true asked 2 is)) ∙ passes

kind-3 : (asked kind : ℕ) → kind_passes asked kind ≡ true → eqb asked 3 ≡ true → eqb kind 3 ≡ true
kind-3 asked kind passes is = ap (λ n. kind_passes n kind) (sym (eqb-true asked 3 is)) ∙ passes

kind-4 : (asked kind : ℕ) → kind_passes asked kind ≡ true → eqb asked 4 ≡ true → eqb kind 4 ≡ true
kind-4 asked kind passes is = ap (λ n. kind_passes n kind) (sym (eqb-true asked 4 is)) ∙ passes

own-covers : (q : QueryGraph) (m : Molecule) (f : List ℕ) (u : ℕ) → IsQuery q → IsMarkedQuery q → IsMarked m → IsEmbedding q m f → (i : ℕ) → i < 8 → own_need q u i ≤ own_lane m (place_of f u) i
unfolding query_bonds_at bonds_at
own-covers q m f u query mq mm e zero lt = omega arith
own-covers q m f u query mq mm e (suc zero) lt = degree-bond q m f u query e
own-covers q m f u query mq mm e (suc (suc zero)) lt = count-bonds q m f u (λ b. eqb b.kind 2) (λ b. eqb b.kind 2) query e (λ k j i is. kind-2 i.asked.kind i.bond.kind i.kind is)
own-covers q m f u query mq mm e (suc (suc (suc zero))) lt = count-bonds q m f u (λ b. eqb b.kind 3) (λ b. eqb b.kind 3) query e (λ k j i is. kind-3 i.asked.kind i.bond.kind i.kind is)
own-covers q m f u query mq mm e (suc (suc (suc (suc zero)))) lt = count-bonds q m f u (λ b. eqb b.kind 4) (λ b. eqb b.kind 4) query e (λ k j i is. kind-4 i.asked.kind i.bond.kind i.kind is)
own-covers q m f u query mq mm e (suc (suc (suc (suc (suc zero))))) lt = count-bonds q m f u (λ b. eqb b.topology 1 || b.ring) (λ b. b.ring) query e (ring-sure q m f query mq mm e)
own-covers q m f u query mq mm e (suc (suc (suc (suc (suc (suc zero)))))) lt = omega arith
own-covers q m f u query mq mm e (suc (suc (suc (suc (suc (suc (suc zero))))))) lt = omega arith
own-covers q m f u query mq mm e (suc (suc (suc (suc (suc (suc (suc (suc n)))))))) lt = absurd (omega arith)

-- ---- codes 1 to 4

-- what is sure of an atom holds of the one at its place
sure-counts : (q : QueryGraph) (m : Molecule) (f : List ℕ) (i v : ℕ) → IsQuery q → IsMolecule m → IsEmbedding q m f → 1 ≤ v → v ≤ length q.atoms → surely_in q i v ≡ true → counts_in m i (place_of f v) ≡ true
sure-counts q m f i v query valid e low high sure = elim (cases_Bool (eqb i 0)) [
  | inl first ↦ ap (λ b. cond b true (cond (eqb i 7) (leb 3 (degree (molecule_graph m) (place_of f v))) (is_of_kind i (element_at m (place_of f v))))) first
  | inr later ↦
      let now : cond (eqb i 7) (leb 3 (degree (query_shape q) v)) (surely_of_kind (test_at q v) i) ≡ true =
      sym (ap (λ b. cond b true (cond (eqb i 7) (leb 3 (degree (query_shape q) v)) (surely_of_kind (test_at q v) i))) later) ∙ sure in
      let then : cond (eqb i 7) (leb 3 (degree (molecule_graph m) (place_of f v))) (is_of_kind i (element_at m (place_of f v))) ≡ true = elim (cases_Bool (eqb i 7)) [
        | inl last ↦
            let branched : leb 3 (degree (query_shape q) v) ≡ true = sym (ap (λ b. cond b (leb 3 (degree (query_shape q) v)) (surely_of_kind (test_at q v) i)) last) ∙ now in
            let more : 3 ≤ degree (molecule_graph m) (place_of f v) = omega (arith, leb-true 3 (degree (query_shape q) v) branched, degree-bond q m f v query e) in
            ap (λ b. cond b (leb 3 (degree (molecule_graph m) (place_of f v))) (is_of_kind i (element_at m (place_of f v)))) last ∙ le-leb 3 (degree (molecule_graph m) (place_of f v)) more
        | inr middle ↦
            let kind : surely_of_kind (test_at q v) i ≡ true = sym (ap (λ b. cond b (leb 3 (degree (query_shape q) v)) (surely_of_kind (test_at q v) i)) middle) ∙ now in
            let a : IsAllowed q m f v = IsAllowed-of q m f v valid e low high in
            ap (λ b. cond b (leb 3 (degree (molecule_graph m) (place_of f v))) (is_of_kind i (element_at m (place_of f v)))) middle ∙ sure-kind (test_at q v) i (element_at m (place_of f v)) kind a.low a.high a.allowed
      ] in
      ap (λ b. cond b true (cond (eqb i 7) (leb 3 (degree (molecule_graph m) (place_of f v))) (is_of_kind i (element_at m (place_of f v))))) later ∙ then
]

near-covers : (q : QueryGraph) (m : Molecule) (f : List ℕ) (k u i : ℕ) → IsQuery q → IsMolecule m → IsEmbedding q m f → near_need q k u i ≤ near_lane m k (place_of f u) i
near-covers q m f k u i query valid e = count-near q m f k u (surely_in q i) (counts_in m i) e (λ v low high sure. sure-counts q m f i v query valid e low high sure)

-- ---- the law

lanes-cover : (need code : ℕ → ℕ) (i : ℕ) → i < 8 → need i ≤ code i → lane (word_of need) i ≤ lane (word_of code) i
lanes-cover need code i lt le = omega (arith, lane-word need i lt, lane-word code i lt)

word-covers : (q : QueryGraph) (m : Molecule) (f : List ℕ) (u : ℕ) → IsQuery q → IsMarkedQuery q → IsMolecule m → IsMarked m → IsEmbedding q m f → (k i : ℕ) → k < 5 → i < 8 → lane (get_or (need_at q u).words k 0) i ≤ lane (get_or (codes_at m (place_of f u)).words k 0) i
unfolding need_word code_at
word-covers q m f u query mq valid mm e zero i few lt = lanes-cover (own_need q u) (own_lane m (place_of f u)) i lt (own-covers q m f u query mq mm e i lt)
word-covers q m f u query mq valid mm e (suc zero) i few lt = lanes-cover (near_need q 1 u) (near_lane m 1 (place_of f u)) i lt (near-covers q m f 1 u i query valid e)
word-covers q m f u query mq valid mm e (suc (suc zero)) i few lt = lanes-cover (near_need q 2 u) (near_lane m 2 (place_of f u)) i lt (near-covers q m f 2 u i query valid e)
word-covers q m f u query mq valid mm e (suc (suc (suc zero))) i few lt = lanes-cover (near_need q 3 u) (near_lane m 3 (place_of f u)) i lt (near-covers q m f 3 u i query valid e)
word-covers q m f u query mq valid mm e (suc (suc (suc (suc zero)))) i few lt = lanes-cover (near_need q 4 u) (near_lane m 4 (place_of f u)) i lt (near-covers q m f 4 u i query valid e)
word-covers q m f u query mq valid mm e (suc (suc (suc (suc (suc n))))) i few lt = absurd (omega arith)

pub element-lane : (m : Molecule) (v : ℕ) → element_at m v ≤ 118 → lane (code_at m 0 v) 0 ≡ element_at m v
unfolding code_at
element-lane m v high = lane-word (own_lane m v) 0 (omega arith) ∙ omega arith

pub law : LawOfCover
law q m f u all low high =
    let e : IsEmbedding q m f = all.embedding in
    let a : IsAllowed q m f u = IsAllowed-of q m f u all.molecule e low high in
    record {
      element = ap (allows (test_at q u)) (element-lane m (place_of f u) a.high) ∙ a.allowed;
      lanes = λ k i few lt. word-covers q m f u all.query all.marked_query all.molecule all.marked e k i few lt;
    }

pub screening : LawOfScreening
screening q m f pivot all is = record {
  pivot = pivot;
  is_pivot = is;
  place = place_of f pivot;
  within = place-within q m f pivot all.embedding is.place.0 is.place.1;
  covers = law q m f pivot all is.place.0 is.place.1;
}
