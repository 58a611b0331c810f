-- At most one bond of a molecule joins two places, so the bond that is found decides.
use Rattle.std.proofs.Common.{◌≡◌, ℕ, ◌<◌, Bool, true, false, ◌&&◌, eqb, List, length, get_or, All, AllPairs, sym, ap, ◌∙◌, inl, inr, arith}
use Rattle.std.proofs.lemmas.Bool.{and_parts, and_from, and_left, or_cases, eqb-true, cases_order, cases_Bool, false_from_ne_true}
use Rattle.std.proofs.lemmas.List.{get_or-map, length-map, get_or_default}
use Rattle.std.proofs.lemmas.List.Folds.{list_any_at, list_any_none}
use Rattle.std.proofs.lemmas.Option.{slice_get_within, get_or_from_slice_get}
use Rattle.htss_defs.specs.declared.graph.Ends.{Ends}
use Rattle.htss_defs.specs.declared.mol.Bond.{Bond}
use Rattle.htss_defs.specs.declared.query.QueryBond.{QueryBond}
use Rattle.htss_defs.specs.Graph.{Graph, joins}
use Rattle.htss_defs.specs.Adjacency.{JoinsAt}
use Rattle.htss_defs.specs.Molecule.{Molecule, IsMolecule, AreBondsApart, bond_ends, molecule_graph}
use Rattle.htss_defs.specs.Cost.{bond_passes, bond_lands}
use Rattle.htss_defs.proofs.Chains.{joins-sym, both}

-- where b joins x and y, another bond joins these two exactly if it joins the places of b
joins-through : (e b : Ends) (x y : ℕ) → joins b x y ≡ true → joins e b.first b.second ≡ joins e x y
joins-through e b x y joined =
    elim (or_cases (eqb b.first x && eqb b.second y) (eqb b.first y && eqb b.second x) joined) [
      | inl straight ↦
          let parts = and_parts _ _ straight in
          ap (λ (u : ℕ). joins e u b.second) (eqb-true _ _ parts.0) ∙ ap (joins e x) (eqb-true _ _ parts.1)
      | inr crossed ↦
          let parts = and_parts _ _ crossed in
          ap (λ (u : ℕ). joins e u b.second) (eqb-true _ _ parts.0) ∙ ap (joins e y) (eqb-true _ _ parts.1)
          ∙ joins-sym e y x
    ]

clash : (bonds : List Bond) (j k x y : ℕ) (d : Bond) → AllPairs AreBondsApart bonds → j < k → k < length bonds
    → joins (bond_ends (get_or bonds j d)) x y ≡ true → joins (bond_ends (get_or bonds k d)) x y ≡ true → ⊥
clash bonds j k x y d pairs lt within first second =
    both (joins-through (bond_ends (get_or bonds j d)) (bond_ends (get_or bonds k d)) x y second ∙ first)
    (pairs j k d lt within)

joins-once : (bonds : List Bond) (j k x y : ℕ) (d : Bond) → AllPairs AreBondsApart bonds → j < length bonds
    → k < length bonds → joins (bond_ends (get_or bonds j d)) x y ≡ true
    → joins (bond_ends (get_or bonds k d)) x y ≡ true → j ≡ k
joins-once bonds j k x y d pairs in_j in_k first second = elim (cases_order j k) [
  | inl same ↦ same
  | inr (inl below) ↦ absurd (clash bonds j k x y d pairs (omega arith) in_k first second)
  | inr (inr above) ↦ absurd (clash bonds k j x y d pairs (omega arith) in_j second first)
]

-- the bonds of the molecule, as its graph has them
ends-at : (m : Molecule) (g : Graph) (k : ℕ) (d : Bond) (e : Ends) → g ≡ molecule_graph m → k < length m.bonds
    → get_or g.bonds k e ≡ bond_ends (get_or m.bonds k d)
ends-at m g k d e is within = ap (λ (h : Graph). get_or h.bonds k e) is ∙ get_or-map bond_ends m.bonds k d e within

pub within-JoinsAt : (m : Molecule) (g : Graph) (k x y : ℕ) → g ≡ molecule_graph m → JoinsAt g k x y
    → k < length m.bonds
within-JoinsAt m g k x y is j = omega (
  arith,
  slice_get_within g.bonds k j.ends j.here,
  ap
      (λ (h : Graph). length h.bonds) is,
  length-map m.bonds bond_ends,
)

pub bond_lands-none : (m : Molecule) (g : Graph) (asked : QueryBond) (x y : ℕ) → g ≡ molecule_graph m
    → All (λ e. joins e x y ≡ false) g.bonds → bond_lands m asked x y ≡ false
bond_lands-none m g asked x y is none = list_any_none _ m.bonds (λ k d within.
    let in_graph : k < length g.bonds = omega
    (arith, ap (λ (h : Graph). length h.bonds) is, length-map m.bonds bond_ends) in
    let e : Ends = bond_ends d in
    and_left _ _ (ap (λ (b : Ends). joins b x y) (sym (ends-at m g k d e is within)) ∙ none k e in_graph))

pub bond_lands-at : (m : Molecule) (g : Graph) (asked : QueryBond) (x y k : ℕ) (d : Bond) → IsMolecule m
    → g ≡ molecule_graph m → JoinsAt g k x y → bond_lands m asked x y ≡ bond_passes asked (get_or m.bonds k d)
bond_lands-at m g asked x y k d valid is j =
    let within : k < length m.bonds = within-JoinsAt m g k x y is j in
    let test : Bond → Bool = λ b. joins (bond_ends b) x y && bond_passes asked b in
    let here : j.ends ≡ bond_ends (get_or m.bonds k d) = sym
    (get_or_from_slice_get g.bonds k j.ends j.ends j.here) ∙ ends-at m g k d j.ends is within in
    let joined : joins (bond_ends (get_or m.bonds k d)) x y ≡ true = ap (λ (b : Ends). joins b x y) (sym here)
    ∙ j.joined in
    elim (cases_Bool (bond_passes asked (get_or m.bonds k d))) [
      | inl passed ↦ list_any_at test m.bonds k d within (and_from _ _ joined passed) ∙ sym passed
      | inr failed ↦ list_any_none test m.bonds (λ i c in_i. false_from_ne_true (test (get_or m.bonds i c)) (λ t.
          let parts = and_parts _ _ t in
          let same : get_or m.bonds i c ≡ get_or m.bonds i d = get_or_default m.bonds i c d in_i in
          let once : i ≡ k = joins-once m.bonds i k x y d valid.no_pair_twice in_i within
          (ap (λ (b : Bond). joins (bond_ends b) x y) (sym same) ∙ parts.0) joined in
          both parts.1 (ap (λ (b : Bond). bond_passes asked b)
          (same ∙ ap (λ (n : ℕ). get_or m.bonds n d) once) ∙ failed))) ∙ sym failed
    ]

-- what the code answers

abbrev pub no_bond : Bond
no_bond = record { first = 0; second = 0; kind = 0; ring = false }

pub bond_lands-found : (m : Molecule) (g : Graph) (asked : QueryBond) (x y k : ℕ) (d : Bond)
    (bonds : List Bond) (answer : Bool) → IsMolecule m → g ≡ molecule_graph m → JoinsAt g k x y → bonds ≡ m.bonds
    → answer ≡ bond_passes asked (get_or bonds k d) → answer ≡ bond_lands m asked x y
bond_lands-found m g asked x y k d bonds answer valid is j same answered =
    answered ∙ ap (λ (bs : List Bond). bond_passes asked (get_or bs k d)) same
    ∙ sym (bond_lands-at m g asked x y k d valid is j)
