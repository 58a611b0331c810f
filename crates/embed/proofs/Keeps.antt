-- The bonds of the query at its next atom are all that have to be tested.
use Rattle.std.proofs.Common.{◌≡◌, ℕ, ◌+◌, ◌-◌, ◌/◌, ◌<◌, ◌≤◌, ◌⊎◌, Bool, true, false, not, max, List, length, get_or, map, eqb, sym, ap, ◌∙◌, subst, inl, inr, arith}
use Rattle.std.specs.List.{list_all}
use Rattle.std.proofs.lemmas.Bool.{cases_eq, cases_lt, ne_eqb, not_from_false, or_left}
use Rattle.std.proofs.lemmas.List.{get_or-map, length-map, get_or_default}
use Rattle.std.proofs.lemmas.List.Folds.{list_all_at}
use Rattle.std.proofs.lemmas.List.Sums.{list_all-from_AllPass}
use Rattle.htss_defs.specs.declared.graph.Ends.{Ends}
use Rattle.htss_defs.specs.declared.query.QueryBond.{QueryBond}
use Rattle.htss_defs.specs.Graph.{Graph}
use Rattle.htss_defs.specs.Adjacency.{IsLinkBefore, place_of_end}
use Rattle.htss_defs.specs.Molecule.{Molecule}
use Rattle.htss_defs.specs.QueryGraph.{QueryGraph, query_bond_ends, query_shape}
use Rattle.htss_defs.proofs.Chains.{Walked, Walked-all}
use Rattle.embed.specs.Tests.{bond_keeps, bonds_keep}
use Rattle.embed.specs.Anchors.{IsLinkOfNext, KeepsBelow}

abbrev pub no_bond : QueryBond
no_bond = record { first = 0; second = 0; kind = 0; topology = 0; ring = false }

-- bond k of the query keeps its test where the next atom stands at p
abbrev pub KeepsAt : Molecule → List ℕ → ℕ → List QueryBond → ℕ → Type 0
KeepsAt m map p bonds k = (d : QueryBond) → bond_keeps m map p (get_or bonds k d) ≡ true

pub KeepsAt-of : (m : Molecule) (f : List ℕ) (p : ℕ) (bonds here : List QueryBond) (k : ℕ) (d : QueryBond)
    (answer : Bool) → here ≡ bonds → k < length bonds
    → answer ≡ bond_keeps m f p (get_or here k d) → answer ≡ true → KeepsAt m f p bonds k
KeepsAt-of m f p bonds here k d answer same within answered kept e =
    let test : QueryBond → Bool = bond_keeps m f p in
    ap test (get_or_default bonds k e d within)
    ∙ ap (λ (bs : List QueryBond). test (get_or bs k d)) (sym same) ∙ sym answered ∙ kept

pub one-fails : (m : Molecule) (f : List ℕ) (p : ℕ) (bonds here : List QueryBond) (k : ℕ) (d : QueryBond)
    (answer : Bool) → here ≡ bonds → k < length bonds
    → answer ≡ bond_keeps m f p (get_or here k d) → answer ≡ false → list_all (bond_keeps m f p) bonds ≡ false
one-fails m f p bonds here k d answer same within answered failed =
    let test : QueryBond → Bool = bond_keeps m f p in
    list_all_at test bonds k d within
    (ap (λ (bs : List QueryBond). test (get_or bs k d)) (sym same) ∙ sym answered ∙ failed)

pub length-shape : (q : QueryGraph) (g : Graph) → g ≡ query_shape q → length g.bonds ≡ length q.bonds
length-shape q g is = ap (λ (h : Graph). length h.bonds) is ∙ length-map q.bonds query_bond_ends

pub larger : (a b n : ℕ) → max a b ≡ n → (a ≡ n) ⊎ (b ≡ n)
larger a b n is = elim (cases_eq a n) [
  | inl first ↦ inl first
  | inr other ↦ inr (omega arith)
]

-- at the chain's end it is known of each bond of the query whose later end is atom n
pub Walked-last : (q : QueryGraph) (g : Graph) (n link k : ℕ) (d : QueryBond) (P : ℕ → Type 0) → g ≡ query_shape q
    → Walked g.bonds n link P → link ≡ 0 → k < length q.bonds
    → max (get_or q.bonds k d).first (get_or q.bonds k d).second ≡ n → P k
Walked-last q g n link k d P is walked end within last =
    let b : QueryBond = get_or q.bonds k d in
    let e : Ends = query_bond_ends d in
    let there : get_or g.bonds k e ≡ query_bond_ends b = ap (λ (h : Graph). get_or h.bonds k e) is
    ∙ get_or-map query_bond_ends q.bonds k d e within in
    let in_graph : k < length g.bonds = omega (arith, length-shape q g is) in
    elim (larger b.first b.second n last) [
      | inl first ↦ Walked-all g.bonds n link k e P walked end in_graph
          (inl (ap (λ (x : Ends). x.first) there ∙ first))
      | inr second ↦ Walked-all g.bonds n link k e P walked end in_graph
          (inr (ap (λ (x : Ends). x.second) there ∙ second))
    ]

pub all-keep : (q : QueryGraph) (m : Molecule) (g : Graph) (f : List ℕ) (p link : ℕ) → g ≡ query_shape q
    → Walked g.bonds (length f + 1) link (KeepsAt m f p q.bonds) → link ≡ 0
    → bonds_keep q m f p ≡ true
all-keep q m g f p link is walked end = list_all-from_AllPass (bond_keeps m f p) q.bonds (λ k d within.
    let b : QueryBond = get_or q.bonds k d in
    elim (cases_eq (max b.first b.second) (length f + 1)) [
      | inl last ↦ Walked-last q g (length f + 1) link k d (KeepsAt m f p q.bonds) is walked end within last d
      | inr before ↦ or_left (not (eqb (max b.first b.second) (length f + 1))) _
          (not_from_false _ (ne_eqb (max b.first b.second) (length f + 1) before))
    ])

-- ---- along a part of the chain

-- the bonds of the query at its next atom keep their tests, those of the ends from `link` on and below `from`
pub record KeptFrom (q : QueryGraph) (g : Graph) (m : Molecule) (f : List ℕ) (p from link : ℕ) : Type 0 where
  pub at : IsLinkOfNext g f link
  pub known : (h : ℕ) → link ≤ h → h < from → place_of_end g.bonds h ≡ length f + 1 → KeepsAt m f p q.bonds (h / 2)

pub KeptFrom-start : (q : QueryGraph) (g : Graph) (m : Molecule) (f : List ℕ) (p from : ℕ) → IsLinkOfNext g f from
    → KeptFrom q g m f p from from
KeptFrom-start q g m f p from at = record { at = at; known = λ h le lt same. absurd (omega arith) }

pub KeptFrom-more : (q : QueryGraph) (g : Graph) (m : Molecule) (f : List ℕ) (p from link next : ℕ)
    → KeptFrom q g m f p from link → 0 < link → KeepsAt m f p q.bonds ((link - 1) / 2)
    → IsLinkBefore g.bonds link next → KeptFrom q g m f p from next
KeptFrom-more q g m f p from link next k some now l =
    let at : place_of_end g.bonds (link - 1) ≡ length f + 1 = k.at.here some in
    record {
      at = record { within = omega (arith, k.at.within, l.within); here = λ more. l.here more ∙ at };
      known = λ h le lt same. elim (cases_lt h link) [
        | inl before ↦ elim (cases_eq h (link - 1)) [
          | inl last ↦ subst (λ (n : ℕ). KeepsAt m f p q.bonds (n / 2)) (sym last) now
          | inr earlier ↦ absurd (l.none h le (omega arith) (same ∙ sym at))
        ]
        | inr after ↦ k.known h after lt same
      ];
    }

pub KeptFrom-end : (q : QueryGraph) (g : Graph) (m : Molecule) (f : List ℕ) (p from link : ℕ)
    → KeptFrom q g m f p from link → link ≡ 0 → KeepsBelow q g m f p from
KeptFrom-end q g m f p from link k end h lt at = k.known h (omega arith) lt at
