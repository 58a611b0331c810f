-- The tests of a whole list of places, and the test of one more place.
use Rattle.std.proofs.Common.{◌≡◌, ◌≢◌, ℕ, zero, suc, ◌<◌, ◌≤◌, Bool, true, not, eqb, max, List, [], ◌∷◌, ◌++◌, length, get_or, AllPairs, ◌↔◌, IsTrue, refl, sym, ◌∙◌, subst, inl, inr, arith, zero-add}
use Rattle.std.specs.Prelude.{leb}
use Rattle.std.specs.List.{list_any, range_with_len}
use Rattle.std.proofs.lemmas.Bool.{and_parts, and_from, not-true, not_from_false, or_cases, or_left, or_right, le-leb, leb-true, ne_eqb, cases_Bool, false_from_ne_true}
use Rattle.std.proofs.lemmas.List.{length_push, take_all}
use Rattle.std.proofs.lemmas.List.Sums.{AllPass-from_list_all, list_all-from_AllPass}
use Rattle.std.proofs.lemmas.List.Folds.{list_any_none}
use Rattle.std.proofs.lemmas.List.FromFn.{length-range_with_len, get_or-range_with_len}
use Rattle.htss_defs.specs.declared.query.QueryBond.{QueryBond}
use Rattle.htss_defs.specs.Molecule.{Molecule}
use Rattle.htss_defs.specs.QueryGraph.{QueryGraph, IsQuery}
use Rattle.htss_defs.specs.Marked.{IsMarked}
use Rattle.htss_defs.specs.Embedding.{place_of, IsEmbedding}
use Rattle.htss_defs.specs.Cost.{all_differ, atom_lands, bond_lands, bond_stays, keeps_tests}
use Rattle.htss_defs.proofs.Chains.{both}
use Rattle.embed.specs.Tests.{may_extend}
use Rattle.embed.specs.Partial.{IsPartial}
use Rattle.embed.proofs.Maps.{not_there, may-from_partial, IsPartial-push, IsPartial-taken, IsFirstFrom-whole}
use Rattle.embed.proofs.Bridge.{IsEmbedding-of, PassesAll-of}

-- ---- no place twice

all_differ-of : (g : List ℕ) → AllPairs (λ x y. x ≢ y) g → all_differ g ≡ true
all_differ-of [] pairs = refl
all_differ-of (p ∷ g) pairs = and_from (not (list_any (λ x. eqb x p) g)) (all_differ g)
    (not_from_false _ (list_any_none (λ x. eqb x p) g (λ k d within. ne_eqb (get_or g k d) p
    (λ same. pairs 0 (suc k) d (omega arith) (omega arith) (sym same)))))
    (all_differ-of g (λ i j d lt within. pairs (suc i) (suc j) d (omega arith) (omega arith)))

pairs-of : (g : List ℕ) → all_differ g ≡ true → (i j d : ℕ) → i < j → j < length g → get_or g i d ≢ get_or g j d
pairs-of [] differ i j d lt within = absurd (omega arith)
pairs-of (p ∷ g) differ i zero d lt within = absurd (omega arith)
pairs-of (p ∷ g) differ zero (suc j) d lt within = λ same.
    let parts = and_parts (not (list_any (λ x. eqb x p) g)) (all_differ g) differ in
    not_there g p j d (omega arith) (not-true _ parts.0) (sym same)
pairs-of (p ∷ g) differ (suc i) (suc j) d lt within =
    let parts = and_parts (not (list_any (λ x. eqb x p) g)) (all_differ g) differ in
    pairs-of g parts.1 i j d (omega arith) (omega arith)

-- ---- a whole list

keeps_tests-of : (q : QueryGraph) (m : Molecule) (g : List ℕ) → IsPartial q m g → keeps_tests q m g ≡ true
keeps_tests-of q m g partial =
    let len : length (range_with_len 0 (length g)) ≡ length g = length-range_with_len 0 (length g) in
    and_from _ _ (and_from _ _ (all_differ-of g partial.apart)
    (list_all-from_AllPass (atom_lands q m g) (range_with_len 0 (length g)) (λ i d within.
    let in_g : i < length g = omega arith in
    let is : get_or (range_with_len 0 (length g)) i d ≡ i = get_or-range_with_len 0 (length g) i d in_g
    ∙ zero-add i in
    subst (λ (x : ℕ). IsTrue (atom_lands q m g x)) (sym is) (partial.atoms i in_g))))
    (list_all-from_AllPass (bond_stays m g) q.bonds (λ k d within.
    let b : QueryBond = get_or q.bonds k d in
    let lands : Bool = bond_lands m b (place_of g b.first) (place_of g b.second) in
    elim (cases_Bool (leb (max b.first b.second) (length g))) [
      | inl inside ↦
          let le : max b.first b.second ≤ length g = leb-true _ _ inside in
          or_right (not (leb (max b.first b.second) (length g))) lands
          (partial.bonds k d within (omega arith) (omega arith))
      | inr outside ↦ or_left (not (leb (max b.first b.second) (length g))) lands (not_from_false _ outside)
    ]))

IsPartial-of : (q : QueryGraph) (m : Molecule) (g : List ℕ) → length g ≤ length q.atoms
    → keeps_tests q m g ≡ true → IsPartial q m g
IsPartial-of q m g fits keeps =
    let outer = and_parts _ _ keeps in
    let inner = and_parts _ _ outer.0 in
    record {
      fits = fits;
      apart = pairs-of g inner.0;
      atoms = λ i within.
          let in_range : i < length (range_with_len 0 (length g)) = omega
          (arith, length-range_with_len 0 (length g)) in
          subst (λ (x : ℕ). IsTrue (atom_lands q m g x))
          (get_or-range_with_len 0 (length g) i 0 within ∙ zero-add i)
          (AllPass-from_list_all (atom_lands q m g) (range_with_len 0 (length g)) inner.1 i 0 in_range);
      bonds = λ k d within first second.
          let b : QueryBond = get_or q.bonds k d in
          let inside : leb (max b.first b.second) (length g) ≡ true = le-leb _ _ (omega arith) in
          elim (or_cases _ _ (AllPass-from_list_all (bond_stays m g) q.bonds outer.1 k d within)) [
            | inl outside ↦ absurd (both inside (not-true _ outside))
            | inr lands ↦ lands
          ];
    }

-- ---- the law: after a map that keeps all tests, the test of one more place is the test of the whole list

pub keeps_tests-push : (q : QueryGraph) (m : Molecule) (f : List ℕ) (p : ℕ) → IsQuery q → IsPartial q m f
    → length f < length q.atoms → keeps_tests q m (f ++ p ∷ []) ≡ may_extend q m f p
keeps_tests-push q m f p query partial more = elim (cases_Bool (may_extend q m f p)) [
  | inl may ↦ keeps_tests-of q m (f ++ p ∷ []) (IsPartial-push q m f p query partial more may) ∙ sym may
  | inr refused ↦
      let fits : length (f ++ p ∷ []) ≤ length q.atoms = omega (arith, length_push f p) in
      false_from_ne_true (keeps_tests q m (f ++ p ∷ []))
      (λ keeps. both (may-from_partial q m f p (IsPartial-of q m (f ++ p ∷ []) fits keeps)) refused) ∙ sym refused
]

-- ---- in a marked molecule a list of a place for each atom keeps all tests exactly if it is an embedding

pub keeps_tests-embedding : (q : QueryGraph) (m : Molecule) (g : List ℕ) → IsQuery q → IsMarked m
    → length g ≡ length q.atoms → (keeps_tests q m g ≡ true) ↔ IsEmbedding q m g
keeps_tests-embedding q m g query marked all = (
  λ keeps.
      let partial : IsPartial q m g = IsPartial-of q m g (omega arith) keeps in
      IsEmbedding-of q m g marked (IsFirstFrom-whole q m g query partial all).goes_on.embeds,
  λ e. keeps_tests-of q m g (subst (λ (h : List ℕ). IsPartial q m h) (take_all (length g) g (omega arith))
      (IsPartial-taken q m g (length g) query (PassesAll-of q m g marked e) (omega arith))),
)
