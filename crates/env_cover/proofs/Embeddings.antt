-- What an embedding does to the atoms, the bonds and the walks of a query.
use Rattle.std.proofs.Common.{◌≡◌, ◌≢◌, ℕ, zero, suc, ◌+◌, ◌-◌, ◌<◌, ◌≤◌, Bool, true, false, ◌&&◌, eqb, List, length, get_or, add-one, refl, sym, ap, subst, ◌∙◌, inl, inr, arith}
use Rattle.std.specs.Prelude.{slice_get, Some}
use Rattle.std.specs.List.{count_by}
use Rattle.std.proofs.lemmas.Bool.{cases_order, and_from, and_parts, or_cases, or_left, or_right, eq-eqb, eqb-true, both_ways}
use Rattle.std.proofs.lemmas.List.{get_or-map, length-map}
use Rattle.std.proofs.lemmas.List.Folds.{list_any_at}
use Rattle.std.proofs.lemmas.Option.{slice_get-get_or, slice_get_within, get_or_from_slice_get}
use Rattle.htss_defs.specs.declared.graph.Ends.{Ends}
use Rattle.htss_defs.specs.declared.mol.Bond.{Bond}
use Rattle.htss_defs.specs.declared.query.QueryBond.{QueryBond}
use Rattle.htss_defs.specs.Graph.{Graph, IsRingBond, WalksWithout, joins}
use Rattle.htss_defs.specs.Adjacency.{JoinsAt, no_ends}
use Rattle.htss_defs.specs.Molecule.{Molecule, bond_ends, molecule_graph}
use Rattle.htss_defs.specs.QueryGraph.{QueryGraph, IsQuery, IsQueryBond, query_bond_ends, query_shape}
use Rattle.htss_defs.specs.Marked.{no_bond}
use Rattle.htss_defs.specs.Passes.{MeetsTopology, kind_passes}
use Rattle.htss_defs.specs.Embedding.{IsEmbedding, AtomLands, BondLands, place_of}
use Rattle.htss_defs.specs.Distances.{are_bonded, count_within, degree, is_end, is_within}
use Rattle.htss_defs.specs.Needs.{no_query_atom}
use Rattle.htss_defs.proofs.Chains.{joins-sym}
use Rattle.ring_bonds.proofs.Walks.{Reach, Reach-stay, Reach-step, IsRingBond-of, joins-ends}
use Rattle.env_code.proofs.Counts.{ends-map, list_any-at}
use Rattle.env_code.proofs.Within.{within-none, within-itself, within-more, within-step, within-cases}
use Rattle.env_cover.proofs.Injections.{count-inject, count-indexed}

-- ---- atoms

pub atom-lands : (q : QueryGraph) (m : Molecule) (f : List ℕ) (u : ℕ) → IsEmbedding q m f → 1 ≤ u → u ≤ length q.atoms → AtomLands (get_or q.atoms (u - 1) no_query_atom) m (place_of f u)
atom-lands q m f u e low high = e.atoms (u - 1) (get_or q.atoms (u - 1) no_query_atom) (slice_get-get_or q.atoms (u - 1) no_query_atom (omega arith))

pub place-within : (q : QueryGraph) (m : Molecule) (f : List ℕ) (u : ℕ) → IsEmbedding q m f → 1 ≤ u → u ≤ length q.atoms → (1 ≤ place_of f u) × (place_of f u ≤ length m.atoms)
place-within q m f u e low high =
    let lands = atom-lands q m f u e low high in
    let within : place_of f u - 1 < length m.atoms = slice_get_within m.atoms (place_of f u - 1) lands.atom lands.here.1 in
    (lands.here.0, omega (arith, lands.here.0))

place-apart : (q : QueryGraph) (m : Molecule) (f : List ℕ) (u v : ℕ) → IsEmbedding q m f → 1 ≤ u → u ≤ length q.atoms → 1 ≤ v → v ≤ length q.atoms → place_of f u ≡ place_of f v → u ≡ v
place-apart q m f u v e ul uh vl vh same = elim (cases_order u v) [
  | inl is ↦ is
  | inr other ↦ elim other [
    | inl less ↦ absurd (e.apart (u - 1) (v - 1) 0 (omega arith) (omega (arith, e.one_each)) same)
    | inr more ↦ absurd (e.apart (v - 1) (u - 1) 0 (omega arith) (omega (arith, e.one_each)) (sym same))
  ]
]

-- ---- bonds

-- bond k of the query lands on bond j of the molecule
pub record IsImage (q : QueryGraph) (m : Molecule) (f : List ℕ) (k j : ℕ) : Type 0 where
  pub asked : QueryBond
  pub there : slice_get q.bonds k ≡ Some asked
  pub bond : Bond
  pub here : slice_get m.bonds j ≡ Some bond
  pub joined : joins (bond_ends bond) (place_of f asked.first) (place_of f asked.second) ≡ true
  pub kind : kind_passes asked.kind bond.kind ≡ true
  pub topology : MeetsTopology asked.topology (molecule_graph m) j

pub no_query_bond : QueryBond
no_query_bond = record { first = 0; second = 0; kind = 0; topology = 0; ring = false }

-- where a bond of the query lands
pub record HasImage (q : QueryGraph) (m : Molecule) (f : List ℕ) (k : ℕ) : Type 0 where
  pub index : ℕ
  pub image : IsImage q m f k index

pub HasImage-of : (q : QueryGraph) (m : Molecule) (f : List ℕ) (k : ℕ) → IsEmbedding q m f → k < length q.bonds → HasImage q m f k
HasImage-of q m f k e within =
    let asked : QueryBond = get_or q.bonds k no_query_bond in
    let lands : BondLands asked m (place_of f asked.first) (place_of f asked.second) = e.bonds k no_query_bond within in
    record {
      index = lands.index;
      image = record {
        asked = asked;
        there = slice_get-get_or q.bonds k no_query_bond within;
        bond = lands.bond;
        here = lands.here;
        joined = lands.joined;
        kind = lands.kind;
        topology = lands.topology;
      };
    }

asked-valid : (q : QueryGraph) (k : ℕ) (b : QueryBond) → IsQuery q → slice_get q.bonds k ≡ Some b → IsQueryBond (length q.atoms) b
asked-valid q k b query here = subst (λ (c : QueryBond). IsQueryBond (length q.atoms) c) (get_or_from_slice_get q.bonds k b b here) (query.each_bond k b (slice_get_within q.bonds k b here))

straight : (e : Ends) (x y : ℕ) → e.first ≡ x → e.second ≡ y → joins e x y ≡ true
straight e x y first second = or_left (eqb e.first x && eqb e.second y) (eqb e.first y && eqb e.second x) (and_from (eqb e.first x) (eqb e.second y) (eq-eqb e.first x first) (eq-eqb e.second y second))

-- two bonds that land on one join the same places
same-pair : (q : QueryGraph) (m : Molecule) (f : List ℕ) (k l j : ℕ) → IsQuery q → IsEmbedding q m f → (a : IsImage q m f k j) → (b : IsImage q m f l j) → joins (query_bond_ends a.asked) b.asked.first b.asked.second ≡ true
same-pair q m f k l j query e a b =
    let same : b.bond ≡ a.bond = cc (a.here, b.here) in
    let av : IsQueryBond (length q.atoms) a.asked = asked-valid q k a.asked query a.there in
    let bv : IsQueryBond (length q.atoms) b.asked = asked-valid q l b.asked query b.there in
    let ends : Ends = query_bond_ends a.asked in
    let x : ℕ = b.asked.first in
    let y : ℕ = b.asked.second in
    let bj : joins (bond_ends a.bond) (place_of f x) (place_of f y) ≡ true = subst (λ (c : Bond). joins (bond_ends c) (place_of f x) (place_of f y) ≡ true) same b.joined in
    let is : (u v : ℕ) → 1 ≤ u → u ≤ length q.atoms → 1 ≤ v → v ≤ length q.atoms → (p : ℕ) → p ≡ place_of f u → p ≡ place_of f v → u ≡ v =
    λ u v ul uh vl vh p pu pv. place-apart q m f u v e ul uh vl vh (sym pu ∙ pv) in
    elim (joins-ends (bond_ends a.bond) (place_of f a.asked.first) (place_of f a.asked.second) a.joined) [
      | inl s ↦ elim (joins-ends (bond_ends a.bond) (place_of f x) (place_of f y) bj) [
        | inl t ↦ straight ends x y (is a.asked.first x av.ends.first.0 av.ends.first.1 bv.ends.first.0 bv.ends.first.1 a.bond.first s.0 t.0) (is a.asked.second y av.ends.second.0 av.ends.second.1 bv.ends.second.0 bv.ends.second.1 a.bond.second s.1 t.1)
        | inr t ↦ joins-sym ends x y ∙ straight ends y x (is a.asked.first y av.ends.first.0 av.ends.first.1 bv.ends.second.0 bv.ends.second.1 a.bond.first s.0 t.0) (is a.asked.second x av.ends.second.0 av.ends.second.1 bv.ends.first.0 bv.ends.first.1 a.bond.second s.1 t.1)
      ]
      | inr s ↦ elim (joins-ends (bond_ends a.bond) (place_of f x) (place_of f y) bj) [
        | inl t ↦ joins-sym ends x y ∙ straight ends y x (is a.asked.first y av.ends.first.0 av.ends.first.1 bv.ends.second.0 bv.ends.second.1 a.bond.second s.1 t.1) (is a.asked.second x av.ends.second.0 av.ends.second.1 bv.ends.first.0 bv.ends.first.1 a.bond.first s.0 t.0)
        | inr t ↦ straight ends x y (is a.asked.first x av.ends.first.0 av.ends.first.1 bv.ends.first.0 bv.ends.first.1 a.bond.second s.1 t.1) (is a.asked.second y av.ends.second.0 av.ends.second.1 bv.ends.second.0 bv.ends.second.1 a.bond.first s.0 t.0)
      ]
    ]

not-twice : (q : QueryGraph) (k l : ℕ) (a b : QueryBond) → IsQuery q → slice_get q.bonds k ≡ Some a → slice_get q.bonds l ≡ Some b → k < l → joins (query_bond_ends a) b.first b.second ≡ true → ⊥
not-twice q k l a b query here there less joined =
    let first : get_or q.bonds k no_query_bond ≡ a = get_or_from_slice_get q.bonds k a no_query_bond here in
    let second : get_or q.bonds l no_query_bond ≡ b = get_or_from_slice_get q.bonds l b no_query_bond there in
    let apart = query.no_pair_twice k l no_query_bond less (slice_get_within q.bonds l b there) in
    let no_join : joins (query_bond_ends a) b.first b.second ≡ false = subst (λ (c : QueryBond). joins (query_bond_ends a) c.first c.second ≡ false) second
    (subst (λ (c : QueryBond). joins (query_bond_ends c) (get_or q.bonds l no_query_bond).first (get_or q.bonds l no_query_bond).second ≡ false) first apart) in
    both_ways (joins (query_bond_ends a) b.first b.second) no_join joined

-- no two bonds land on one
image-apart : (q : QueryGraph) (m : Molecule) (f : List ℕ) (k l j : ℕ) → IsQuery q → IsEmbedding q m f → IsImage q m f k j → IsImage q m f l j → k ≡ l
image-apart q m f k l j query e a b = elim (cases_order k l) [
  | inl is ↦ is
  | inr other ↦ elim other [
    | inl less ↦ absurd (not-twice q k l a.asked b.asked query a.there b.there less (same-pair q m f k l j query e a b))
    | inr more ↦ absurd (not-twice q l k b.asked a.asked query b.there a.there more (same-pair q m f l k j query e b a))
  ]
]

-- an end of a bond goes to an end
end-image : (q : QueryGraph) (m : Molecule) (f : List ℕ) (k j u : ℕ) → (i : IsImage q m f k j) → is_end (query_bond_ends i.asked) u ≡ true → is_end (bond_ends i.bond) (place_of f u) ≡ true
end-image q m f k j u i end =
    let v : ℕ = place_of f u in
    let first : i.bond.first ≡ v → is_end (bond_ends i.bond) v ≡ true = λ is. or_left (eqb i.bond.first v) (eqb i.bond.second v) (eq-eqb i.bond.first v is) in
    let second : i.bond.second ≡ v → is_end (bond_ends i.bond) v ≡ true = λ is. or_right (eqb i.bond.first v) (eqb i.bond.second v) (eq-eqb i.bond.second v is) in
    elim (or_cases (eqb i.asked.first u) (eqb i.asked.second u) end) [
      | inl at ↦
          let is : place_of f i.asked.first ≡ v = ap (place_of f) (eqb-true i.asked.first u at) in
          elim (joins-ends (bond_ends i.bond) (place_of f i.asked.first) (place_of f i.asked.second) i.joined) [
            | inl s ↦ first (s.0 ∙ is)
            | inr s ↦ second (s.1 ∙ is)
          ]
      | inr at ↦
          let is : place_of f i.asked.second ≡ v = ap (place_of f) (eqb-true i.asked.second u at) in
          elim (joins-ends (bond_ends i.bond) (place_of f i.asked.first) (place_of f i.asked.second) i.joined) [
            | inl s ↦ second (s.1 ∙ is)
            | inr s ↦ first (s.0 ∙ is)
          ]
    ]

-- the bonds of an atom that pass a test are no more than those of its place that pass what follows from it
pub count-bonds : (q : QueryGraph) (m : Molecule) (f : List ℕ) (u : ℕ) (asks : QueryBond → Bool) (has : Bond → Bool) → IsQuery q → IsEmbedding q m f
    → ((k j : ℕ) → (i : IsImage q m f k j) → asks i.asked ≡ true → has i.bond ≡ true)
    → count_by (λ b. is_end (query_bond_ends b) u && asks b) q.bonds ≤ count_by (λ b. is_end (bond_ends b) (place_of f u) && has b) m.bonds
count-bonds q m f u asks has query e follows =
    let v : ℕ = place_of f u in
    let p : QueryBond → Bool = λ b. is_end (query_bond_ends b) u && asks b in
    let r : Bond → Bool = λ b. is_end (bond_ends b) v && has b in
    let less = count-inject (length q.bonds) (λ k. p (get_or q.bonds k no_query_bond)) (λ j. r (get_or m.bonds j no_bond)) 0 0 (length m.bonds) (IsImage q m f)
    (λ k low high pass.
    let h : HasImage q m f k = HasImage-of q m f k e (omega arith) in
    let i : IsImage q m f k h.index = h.image in
    let there : get_or q.bonds k no_query_bond ≡ i.asked = get_or_from_slice_get q.bonds k i.asked no_query_bond i.there in
    let here : get_or m.bonds h.index no_bond ≡ i.bond = get_or_from_slice_get m.bonds h.index i.bond no_bond i.here in
    let parts = and_parts (is_end (query_bond_ends i.asked) u) (asks i.asked) (ap p (sym there) ∙ pass) in
    record {
      place = h.index;
      low = omega arith;
      high = omega (arith, slice_get_within m.bonds h.index i.bond i.here);
      passed = ap r here ∙ and_from (is_end (bond_ends i.bond) v) (has i.bond) (end-image q m f k h.index u i parts.0) (follows k h.index i parts.1);
      related = i;
    })
    (λ k l j kl kh ll lh a b. image-apart q m f k l j query e a b) in
    omega (arith, less, count-indexed p q.bonds no_query_bond, count-indexed r m.bonds no_bond)

pub degree-bond : (q : QueryGraph) (m : Molecule) (f : List ℕ) (u : ℕ) → IsQuery q → IsEmbedding q m f → degree (query_shape q) u ≤ degree (molecule_graph m) (place_of f u)
unfolding degree
degree-bond q m f u query e =
    let less = count-bonds q m f u (λ b. true) (λ b. true) query e (λ k j i pass. refl) in
    omega (arith, less, ends-map query_bond_ends q.bonds u, ends-map bond_ends m.bonds (place_of f u))

-- ---- walks

bonded-image : (q : QueryGraph) (m : Molecule) (f : List ℕ) (x y : ℕ) → IsEmbedding q m f → are_bonded (query_shape q) x y ≡ true → are_bonded (molecule_graph m) (place_of f x) (place_of f y) ≡ true
bonded-image q m f x y e bonded =
    let at = list_any-at (λ d. joins d x y) (query_shape q).bonds no_ends bonded in
    let k : ℕ = at.0 in
    let within : k < length q.bonds = omega (arith, at.1, length-map q.bonds query_bond_ends) in
    let h : HasImage q m f k = HasImage-of q m f k e within in
    let i : IsImage q m f k h.index = h.image in
    let asked : get_or (query_shape q).bonds k no_ends ≡ query_bond_ends i.asked = get_or-map query_bond_ends q.bonds k no_query_bond no_ends within ∙ ap query_bond_ends (get_or_from_slice_get q.bonds k i.asked no_query_bond i.there) in
    let joined : joins (query_bond_ends i.asked) x y ≡ true = ap (λ (d : Ends). joins d x y) (sym asked) ∙ at.2 in
    let there : h.index < length m.bonds = slice_get_within m.bonds h.index i.bond i.here in
    let bond : get_or (molecule_graph m).bonds h.index no_ends ≡ bond_ends i.bond = get_or-map bond_ends m.bonds h.index no_bond no_ends there ∙ ap bond_ends (get_or_from_slice_get m.bonds h.index i.bond no_bond i.here) in
    let lands : joins (bond_ends i.bond) (place_of f x) (place_of f y) ≡ true = elim (joins-ends (query_bond_ends i.asked) x y joined) [
      | inl s ↦ ap (λ u. joins (bond_ends i.bond) (place_of f u) (place_of f y)) (sym s.0) ∙ ap (λ v. joins (bond_ends i.bond) (place_of f i.asked.first) (place_of f v)) (sym s.1) ∙ i.joined
      | inr s ↦ joins-sym (bond_ends i.bond) (place_of f x) (place_of f y) ∙ ap (λ u. joins (bond_ends i.bond) (place_of f u) (place_of f x)) (sym s.0) ∙ ap (λ v. joins (bond_ends i.bond) (place_of f i.asked.first) (place_of f v)) (sym s.1) ∙ i.joined
    ] in
    list_any_at (λ d. joins d (place_of f x) (place_of f y)) (molecule_graph m).bonds h.index no_ends (omega (arith, there, length-map m.bonds bond_ends)) (ap (λ (d : Ends). joins d (place_of f x) (place_of f y)) bond ∙ lands)

within-image : (k : ℕ) (q : QueryGraph) (m : Molecule) (f : List ℕ) (x y : ℕ) → IsEmbedding q m f → is_within (query_shape q) k x y ≡ true → is_within (molecule_graph m) k (place_of f x) (place_of f y) ≡ true
within-image zero q m f x y e near =
    let same : x ≡ y = within-none (query_shape q) x y near in
    ap (λ z. is_within (molecule_graph m) 0 (place_of f x) (place_of f z)) (sym same) ∙ within-itself (molecule_graph m) 0 (place_of f x)
within-image (suc k) q m f x y e near =
    let g : Graph = query_shape q in
    let h : Graph = molecule_graph m in
    let more : k + 1 ≡ suc k = add-one k in
    let there : is_within h (k + 1) (place_of f x) (place_of f y) ≡ true = elim (within-cases g k x y (ap (λ n. is_within g n x y) more ∙ near)) [
      | inl nearer ↦ within-more h k (place_of f x) (place_of f y) (within-image k q m f x y e nearer)
      | inr b ↦
          let at = place-within q m f b.place e b.low b.high in
          within-step h k (place_of f x) (place_of f b.place) (place_of f y) (within-image k q m f x b.place e b.within) (bonded-image q m f b.place y e b.bonded) at.0 at.1
    ] in
    ap (λ n. is_within h n (place_of f x) (place_of f y)) (sym more) ∙ there

-- the places near an atom that pass a test are no more than those near its place that pass what follows from it
pub count-near : (q : QueryGraph) (m : Molecule) (f : List ℕ) (k u : ℕ) (asks has : ℕ → Bool) → IsEmbedding q m f → ((v : ℕ) → 1 ≤ v → v ≤ length q.atoms → asks v ≡ true → has (place_of f v) ≡ true)
    → count_within (query_shape q) k u asks ≤ count_within (molecule_graph m) k (place_of f u) has
unfolding count_within
count-near q m f k u asks has e follows =
    let g : Graph = query_shape q in
    let h : Graph = molecule_graph m in
    count-inject (length q.atoms) (λ y. is_within g k u y && asks y) (λ z. is_within h k (place_of f u) z && has z) 1 1 (length m.atoms) (λ y z. place_of f y ≡ z)
    (λ y low high pass.
    let at = place-within q m f y e low (omega arith) in
    let parts = and_parts (is_within g k u y) (asks y) pass in
    record {
      place = place_of f y;
      low = at.0;
      high = omega (arith, at.1);
      passed = and_from (is_within h k (place_of f u) (place_of f y)) (has (place_of f y)) (within-image k q m f u y e parts.0) (follows y low (omega arith) parts.1);
      related = refl;
    })
    (λ y z x yl yh zl zh r s. place-apart q m f y z e yl (omega arith) zl (omega arith) (r ∙ sym s))

-- ---- rings

query-ends : (q : QueryGraph) (k : ℕ) (d : Ends) → slice_get (query_shape q).bonds k ≡ Some d → (k < length q.bonds) × (d ≡ query_bond_ends (get_or q.bonds k no_query_bond))
query-ends q k d here =
    let within : k < length q.bonds = omega (arith, slice_get_within (query_shape q).bonds k d here, length-map q.bonds query_bond_ends) in
    (within, sym (get_or_from_slice_get (query_shape q).bonds k d d here) ∙ get_or-map query_bond_ends q.bonds k no_query_bond d within)

JoinsAt-image : (q : QueryGraph) (m : Molecule) (f : List ℕ) (k j x y : ℕ) → (i : IsImage q m f k j) → joins (query_bond_ends i.asked) x y ≡ true → JoinsAt (molecule_graph m) j (place_of f x) (place_of f y)
JoinsAt-image q m f k j x y i joined =
    let within : j < length m.bonds = slice_get_within m.bonds j i.bond i.here in
    let bond : get_or (molecule_graph m).bonds j no_ends ≡ bond_ends i.bond = get_or-map bond_ends m.bonds j no_bond no_ends within ∙ ap bond_ends (get_or_from_slice_get m.bonds j i.bond no_bond i.here) in
    record {
      ends = bond_ends i.bond;
      here = slice_get-get_or (molecule_graph m).bonds j no_ends (omega (arith, within, length-map m.bonds bond_ends)) ∙ ap (λ (d : Ends). Some d) bond;
      joined = elim (joins-ends (query_bond_ends i.asked) x y joined) [
        | inl s ↦ ap (λ u. joins (bond_ends i.bond) (place_of f u) (place_of f y)) (sym s.0) ∙ ap (λ v. joins (bond_ends i.bond) (place_of f i.asked.first) (place_of f v)) (sym s.1) ∙ i.joined
        | inr s ↦ joins-sym (bond_ends i.bond) (place_of f x) (place_of f y) ∙ ap (λ u. joins (bond_ends i.bond) (place_of f u) (place_of f x)) (sym s.0) ∙ ap (λ v. joins (bond_ends i.bond) (place_of f i.asked.first) (place_of f v)) (sym s.1) ∙ i.joined
      ];
    }

-- a walk of other bonds goes to a walk of other bonds
walk-image : (n : ℕ) (q : QueryGraph) (m : Molecule) (f : List ℕ) (k j x y : ℕ) → IsQuery q → IsEmbedding q m f → IsImage q m f k j → WalksWithout (query_shape q) k x y n → Reach (molecule_graph m) j (place_of f x) (place_of f y)
walk-image zero q m f k j x y query e i walk = subst (λ (z : ℕ). Reach (molecule_graph m) j (place_of f x) (place_of f z)) walk (Reach-stay (molecule_graph m) j (place_of f x))
walk-image (suc n) q m f k j x y query e i walk =
    let z : ℕ = walk.0 in
    let l : ℕ = walk.2 in
    let d = query-ends q l walk.3 walk.5 in
    let h : HasImage q m f l = HasImage-of q m f l e d.0 in
    let same : walk.3 ≡ query_bond_ends h.image.asked = d.1 ∙ ap query_bond_ends (get_or_from_slice_get q.bonds l h.image.asked no_query_bond h.image.there) in
    let joined : joins (query_bond_ends h.image.asked) z y ≡ true = ap (λ (b : Ends). joins b z y) (sym same) ∙ walk.6 in
    let other : h.index ≢ j = λ is. walk.4 (image-apart q m f l k j query e (subst (λ (p : ℕ). IsImage q m f l p) is h.image) i) in
    Reach-step (molecule_graph m) j (place_of f x) (place_of f z) (place_of f y) h.index (walk-image n q m f k j x z query e i walk.1) (JoinsAt-image q m f l h.index z y h.image joined) other

pub ring-image : (q : QueryGraph) (m : Molecule) (f : List ℕ) (k j : ℕ) → IsQuery q → IsEmbedding q m f → IsImage q m f k j → IsRingBond (query_shape q) k → IsRingBond (molecule_graph m) j
ring-image q m f k j query e i ring =
    let d = query-ends q k ring.ends ring.bond in
    let same : ring.ends ≡ query_bond_ends i.asked = d.1 ∙ ap query_bond_ends (get_or_from_slice_get q.bonds k i.asked no_query_bond i.there) in
    let walk : WalksWithout (query_shape q) k i.asked.first i.asked.second ring.bonds = subst (λ (b : Ends). WalksWithout (query_shape q) k b.first b.second ring.bonds) same ring.walk in
    let x : ℕ = i.asked.first in
    let y : ℕ = i.asked.second in
    IsRingBond-of (molecule_graph m) j (place_of f x) (place_of f y) (JoinsAt-image q m f k j x y i (straight (query_bond_ends i.asked) x y refl refl)) (walk-image ring.bonds q m f k j x y query e i walk)
