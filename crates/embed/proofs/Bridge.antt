-- In a marked molecule the tests into Bool say the same as the relations.
use Rattle.std.proofs.Common.{◌≡◌, ℕ, ◌-◌, ◌<◌, ◌≤◌, Bool, true, ◌&&◌, not, ◌↔◌, IsTrue, eqb, List, [], length, get_or, refl, sym, ap, ◌∙◌, subst, inl, inr, arith}
use Rattle.std.specs.Prelude.{slice_get, slice_index, Some, None, Option, pos}
use Rattle.std.proofs.lemmas.Bool.{and_parts, and_from, not-true, not_from_false, false_from_ne_true, cases_eq, eq-eqb, ne_eqb, cond-false, cond-true}
use Rattle.std.proofs.lemmas.List.Folds.{list_any_at, Any-from_list_any}
use Rattle.std.proofs.lemmas.Option.{slice_get-get_or, slice_get_within, get_or_from_slice_get, slice_get_read}
use Rattle.htss_defs.specs.declared.mol.Atom.{Atom}
use Rattle.htss_defs.specs.declared.mol.Bond.{Bond}
use Rattle.htss_defs.specs.declared.query.AtomTest.TheVariants.{Any}
use Rattle.htss_defs.specs.declared.query.QueryAtom.{QueryAtom}
use Rattle.htss_defs.specs.declared.query.QueryBond.{QueryBond}
use Rattle.htss_defs.specs.Graph.{Graph, IsRingBond, joins}
use Rattle.htss_defs.specs.Molecule.{Molecule, bond_ends, molecule_graph}
use Rattle.htss_defs.specs.Marked.{IsMarked}
use Rattle.htss_defs.specs.QueryGraph.{QueryGraph}
use Rattle.htss_defs.specs.Passes.{MeetsTopology}
use Rattle.htss_defs.specs.Embedding.{AtomLands, BondLands, IsEmbedding, IsLeastEmbedding, NoEmbedding}
use Rattle.htss_defs.proofs.Chains.{both}
use Rattle.htss_defs.specs.Cost.{at_place, passes, flag_passes, bond_passes, bond_lands}
use Rattle.embed.specs.Tests.{PassesAll}
use Rattle.embed.specs.Partial.{GoesOn, IsFirstFrom, IsStuck}

-- ---- atoms

at_place-some : {X : Type 0} (xs : List X) (p : ℕ) → 1 ≤ p → at_place xs p ≡ slice_get xs (p - 1)
at_place-some xs p low = cond-false (eqb p 0) None (slice_get xs (p - 1)) (ne_eqb p 0 (λ e. omega arith))

AtomLands-of : (asked : QueryAtom) (m : Molecule) (p : ℕ) (there : Option Atom) → at_place m.atoms p ≡ there
    → passes (Some asked) there ≡ true → AtomLands asked m p
AtomLands-of asked m p None is passed = absurd cc
AtomLands-of asked m p (Some atom) is passed = elim (cases_eq p 0) [
  | inl none ↦ absurd (let e = cond-true (eqb p 0) None (slice_get m.atoms (p - 1)) (eq-eqb p 0 none) in cc)
  | inr some ↦
      let low : 1 ≤ p = omega arith in
      record { atom = atom; here = (low, sym (at_place-some m.atoms p low) ∙ is); passes = passed }
]

passes-AtomLands : (asked : QueryAtom) (m : Molecule) (p : ℕ) → AtomLands asked m p
    → passes (Some asked) (at_place m.atoms p) ≡ true
passes-AtomLands asked m p lands = ap (passes (Some asked))
    (at_place-some m.atoms p lands.here.0 ∙ lands.here.1) ∙ lands.passes

-- ---- bonds

-- the flag answers the topology that is asked
flag_passes-MeetsTopology : (asked : ℕ) (ring : Bool) (g : Graph) (k : ℕ) → (IsTrue ring ↔ IsRingBond g k)
    → MeetsTopology asked g k → flag_passes asked ring ≡ true
flag_passes-MeetsTopology asked ring g k marked meets = elim (cases_eq asked 1) [
  | inl one ↦ ap (λ (a : ℕ). flag_passes a ring) one ∙ marked.1 (meets.ring one)
  | inr other ↦ elim (cases_eq asked 2) [
    | inl two ↦ ap (λ (a : ℕ). flag_passes a ring) two
        ∙ not_from_false ring (false_from_ne_true ring (λ is. meets.chain two (marked.0 is)))
    | inr any ↦ cond-false (eqb asked 1) ring _ (ne_eqb asked 1 other)
        ∙ cond-false (eqb asked 2) (not ring) true (ne_eqb asked 2 any)
  ]
]

MeetsTopology-of : (asked : ℕ) (ring : Bool) (g : Graph) (k : ℕ) → (IsTrue ring ↔ IsRingBond g k)
    → flag_passes asked ring ≡ true → MeetsTopology asked g k
MeetsTopology-of asked ring g k marked passed = record {
  ring = λ one. marked.0 (ap (λ (a : ℕ). flag_passes a ring) (sym one) ∙ passed);
  chain = λ two is.
      let none : not ring ≡ true = ap (λ (a : ℕ). flag_passes a ring) (sym two) ∙ passed in
      both (marked.1 is) (not-true ring none);
}

bond_lands-BondLands : (asked : QueryBond) (m : Molecule) (x y : ℕ) → IsMarked m → BondLands asked m x y
    → bond_lands m asked x y ≡ true
bond_lands-BondLands asked m x y marked lands =
    let test : Bond → Bool = λ b. joins (bond_ends b) x y && bond_passes asked b in
    let there : get_or m.bonds lands.index lands.bond ≡ lands.bond = get_or_from_slice_get m.bonds lands.index
    lands.bond lands.bond lands.here in
    let flag : flag_passes asked.topology lands.bond.ring ≡ true = flag_passes-MeetsTopology asked.topology
    lands.bond.ring (molecule_graph m) lands.index (marked lands.index lands.bond lands.here) lands.topology in
    list_any_at test m.bonds lands.index lands.bond
    (slice_get_within m.bonds lands.index lands.bond lands.here)
    (ap test there ∙ and_from _ _ lands.joined (and_from _ _ lands.kind flag))

BondLands-of : (asked : QueryBond) (m : Molecule) (x y : ℕ) → IsMarked m
    → bond_lands m asked x y ≡ true → BondLands asked m x y
BondLands-of asked m x y marked lands =
    let found = Any-from_list_any (λ b. joins (bond_ends b) x y && bond_passes asked b) m.bonds lands in
    let here : slice_get m.bonds found.0 ≡ Some found.1 = slice_get_read m.bonds (length m.bonds) found.0 found.1
    refl found.2 (sym found.3) in
    let parts = and_parts _ _ found.4 in
    let passed = and_parts _ _ parts.1 in
    record {
      index = found.0;
      bond = found.1;
      here = here;
      joined = parts.0;
      kind = passed.0;
      topology = MeetsTopology-of asked.topology found.1.ring (molecule_graph m) found.0
          (marked found.0 found.1 here) passed.1;
    }

-- ---- the law

pub IsEmbedding-of : (q : QueryGraph) (m : Molecule) (map : List ℕ) → IsMarked m → PassesAll q m map
    → IsEmbedding q m map
IsEmbedding-of q m map marked all = record {
  one_each = all.one_each;
  apart = all.apart;
  atoms = λ i asked there.
      let within : i < length map = omega (arith, all.one_each, slice_get_within q.atoms i asked there) in
      AtomLands-of asked m (slice_index map i) (at_place m.atoms (slice_index map i)) refl
      (subst (λ (o : Option QueryAtom). passes o (at_place m.atoms (slice_index map i)) ≡ true) there
      (all.atoms i within));
  bonds = λ k d within. BondLands-of (get_or q.bonds k d) m _ _ marked (all.bonds k d within);
}

some_atom : QueryAtom
some_atom = record { test = Any; charge = pos 0; mass = 0 }

pub PassesAll-of : (q : QueryGraph) (m : Molecule) (map : List ℕ) → IsMarked m → IsEmbedding q m map
    → PassesAll q m map
PassesAll-of q m map marked e = record {
  one_each = e.one_each;
  apart = e.apart;
  atoms = λ i within.
      let asked : QueryAtom = get_or q.atoms i some_atom in
      let there : slice_get q.atoms i ≡ Some asked = slice_get-get_or q.atoms i some_atom (omega (arith, e.one_each)) in
      subst (λ (o : Option QueryAtom). passes o (at_place m.atoms (slice_index map i)) ≡ true) (sym there)
      (passes-AtomLands asked m (slice_index map i) (e.atoms i asked there));
  bonds = λ k d within. bond_lands-BondLands (get_or q.bonds k d) m _ _ marked (e.bonds k d within);
}

-- each embedding goes on from the empty map
goes-on : (q : QueryGraph) (m : Molecule) (map : List ℕ) → IsMarked m → IsEmbedding q m map → GoesOn q m [] map
goes-on q m map marked e = record { embeds = PassesAll-of q m map marked e; begins = refl }

pub IsLeastEmbedding-from : (q query : QueryGraph) (m : Molecule) (f map : List ℕ) → q ≡ query → IsMarked m
    → f ≡ [] → IsFirstFrom q m f map → IsLeastEmbedding query m map
IsLeastEmbedding-from q query m f map same marked empty from =
    let first : IsFirstFrom query m [] map = subst (λ (g : List ℕ). IsFirstFrom query m g map) empty
    (subst (λ (r : QueryGraph). IsFirstFrom r m f map) same from) in
    record {
      embeds = IsEmbedding-of query m map marked first.goes_on.embeds;
      least = λ other e. first.first other (goes-on query m other marked e);
    }

pub NoEmbedding-from : (q query : QueryGraph) (m : Molecule) (f : List ℕ) → q ≡ query → IsMarked m → f ≡ []
    → IsStuck q m f → NoEmbedding query m
NoEmbedding-from q query m f same marked empty stuck =
    let none : NoEmbedding q m = λ map e. stuck map
    (subst (λ (g : List ℕ). GoesOn q m g map) (sym empty) (goes-on q m map marked e)) in
    subst (λ (r : QueryGraph). NoEmbedding r m) same none
