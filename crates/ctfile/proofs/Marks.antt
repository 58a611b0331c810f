-- Each molecule can be marked: of each bond it can be told whether it is a ring bond.
use Rattle.std.proofs.Common.{◌≡◌, ◌≢◌, ℕ, zero, suc, ◌+◌, ◌<◌, ◌≤◌, ◌⊎◌, ◌↔◌, inl, inr, Bool, true, false, cond, eqb, IsTrue, List, [], ◌∷◌, ◌++◌, length, get_or, refl, sym, ap, subst, ◌∙◌, arith}
use Rattle.std.specs.Prelude.{Some, slice_get}
use Rattle.std.proofs.lemmas.Bool.{false≢true, cases_lt, cases_eq, eqb-true, eq-eqb}
use Rattle.std.proofs.lemmas.List.{length_push, length-map, get_or_push, get_or_append_left, get_or_past}
use Rattle.std.proofs.lemmas.Option.{slice_get-get_or, slice_get_within}
use Rattle.htss_defs.specs.declared.graph.Ends.{Ends}
use Rattle.htss_defs.specs.Graph.{Graph, WalksWithout, IsRingBond}
use Rattle.htss_defs.specs.Adjacency.{JoinsAt, no_ends}
use Rattle.htss_defs.specs.Molecule.{Molecule, IsMolecule, molecule_graph, bond_ends}
use Rattle.htss_defs.specs.Marked.{IsMarked, unmarked_molecule, with_ring}
use Rattle.htss_defs.proofs.Flags.{IsMolecule-with_ring}
use Rattle.ring_bonds.proofs.Walks.{Reach, Reach-stay, Reach-step, Reach-trans, Reach-ring, JoinsAt-sym, IsRingBond-of, joins-ends}
use Rattle.ring_bonds.proofs.Visits.{straight}
use Rattle.ring_bonds.proofs.Molecules.{AreSet, AreSet-none, AreSet-more, AreSet-length, IsMarked-of}
use Rattle.ctfile.specs.Stream.{HasMarks}
use Rattle.ctfile.proofs.MarkedOnes.{one_molecule}

-- ---- a label for each place: one label for places that walks without bond k join

-- places of one label are joined, and so are the labels of those that the first n bonds but for k join
record AreLabels (g : Graph) (k n : ℕ) (label : ℕ → ℕ) : Type 0 where
  joined : (x y : ℕ) → label x ≡ label y → Reach g k x y
  bonded : (j : ℕ) (e : Ends) → j < n → j ≢ k → slice_get g.bonds j ≡ Some e → label e.first ≡ label e.second

labels-none : (g : Graph) (k : ℕ) → AreLabels g k 0 (λ x. x)
labels-none g k = record {
  joined = λ x y same. subst (λ (v : ℕ). Reach g k x v) same (Reach-stay g k x);
  bonded = λ j e low other is. absurd (omega (arith, low));
}

-- one label in place of another
abbrev renamed : ℕ → ℕ → ℕ → ℕ
renamed from to v = cond (eqb v from) to v

renamed-cases : (from to v : ℕ) → ((v ≡ from) × (renamed from to v ≡ to)) ⊎ (renamed from to v ≡ v)
renamed-cases from to v = cases (eqb v from) refl
  where
    cases : (b : Bool) → eqb v from ≡ b → ((v ≡ from) × (renamed from to v ≡ to)) ⊎ (renamed from to v ≡ v)
    cases true is = inl (eqb-true v from is, ap (λ (t : Bool). cond t to v) is)
    cases false is = inr (ap (λ (t : Bool). cond t to v) is)

renamed-from : (from to : ℕ) → renamed from to from ≡ to
renamed-from from to = ap (λ (t : Bool). cond t to from) (eq-eqb from from refl)

renamed-to : (from to : ℕ) → renamed from to to ≡ to
renamed-to from to = elim (renamed-cases from to to) [ inl a ↦ a.1 | inr b ↦ b ]

-- the next bond joins two labels
labels-more : (g : Graph) (k n : ℕ) (label : ℕ → ℕ) (e : Ends) → AreLabels g k n label → slice_get g.bonds n ≡ Some e → n ≢ k
    → AreLabels g k (n + 1) (λ x. renamed (label e.second) (label e.first) (label x))
labels-more g k n label e l is other = record { joined = joined; bonded = bonded }
  where
    joins : JoinsAt g n e.first e.second
    joins = record { ends = e; here = is; joined = straight e }

    new : ℕ → ℕ
    new x = renamed (label e.second) (label e.first) (label x)

    there : (x y : ℕ) → label x ≡ label e.first → label e.second ≡ label y → Reach g k x y
    there x y first second = Reach-trans g k x e.second y (Reach-step g k x e.first e.second n (l.joined x e.first first) joins other) (l.joined e.second y second)

    back : (x y : ℕ) → label x ≡ label e.second → label e.first ≡ label y → Reach g k x y
    back x y second first = Reach-trans g k x e.first y (Reach-step g k x e.second e.first n (l.joined x e.second second) (JoinsAt-sym g n e.first e.second joins) other) (l.joined e.first y first)

    joined : (x y : ℕ) → new x ≡ new y → Reach g k x y
    joined x y same = cases (renamed-cases (label e.second) (label e.first) (label x)) (renamed-cases (label e.second) (label e.first) (label y))
      where
        cases : ((label x ≡ label e.second) × (new x ≡ label e.first)) ⊎ (new x ≡ label x) → ((label y ≡ label e.second) × (new y ≡ label e.first)) ⊎ (new y ≡ label y) → Reach g k x y
        cases (inl a) (inl b) = l.joined x y (a.0 ∙ sym b.0)
        cases (inl a) (inr b) = back x y a.0 (sym a.1 ∙ same ∙ b)
        cases (inr a) (inl b) = there x y (sym a ∙ same ∙ b.1) (sym b.0)
        cases (inr a) (inr b) = l.joined x y (sym a ∙ same ∙ b)

    last : (j : ℕ) (d : Ends) → j ≡ n → slice_get g.bonds j ≡ Some d → new d.first ≡ new d.second
    last j d at here =
        let ends : e ≡ d = cc (is, here, at) in
        subst (λ (x : Ends). new x.first ≡ new x.second) ends (renamed-to (label e.second) (label e.first) ∙ sym (renamed-from (label e.second) (label e.first)))

    bonded : (j : ℕ) (d : Ends) → j < n + 1 → j ≢ k → slice_get g.bonds j ≡ Some d → new d.first ≡ new d.second
    bonded j d low apart here = elim (cases_lt j n) [
      | inl lt ↦ ap (renamed (label e.second) (label e.first)) (l.bonded j d lt apart here)
      | inr ge ↦ last j d (omega (arith, low, ge)) here
    ]

-- bond k itself joins none
labels-same : (g : Graph) (k n : ℕ) (label : ℕ → ℕ) → AreLabels g k n label → n ≡ k → AreLabels g k (n + 1) label
labels-same g k n label l is = record {
  joined = l.joined;
  bonded = λ j e low apart here. elim (cases_lt j n) [
    | inl lt ↦ l.bonded j e lt apart here
    | inr ge ↦ absurd (apart (omega (arith, low, ge, is)))
  ];
}

labels : (g : Graph) (k n : ℕ) → n ≤ length g.bonds → (label : ℕ → ℕ) × AreLabels g k n label
labels g k zero within = (λ x. x, labels-none g k)
labels g k (suc n) within =
    let before = labels g k n (omega (arith, within)) in
    let e : Ends = get_or g.bonds n no_ends in
    elim (cases_eq n k) [
      | inl same ↦ (before.0, subst (λ (i : ℕ). AreLabels g k i before.0) (omega arith) (labels-same g k n before.0 before.1 same))
      | inr other ↦ (
        λ x. renamed (before.0 e.second) (before.0 e.first) (before.0 x),
        subst (λ (i : ℕ). AreLabels g k i (λ x. renamed (before.0 e.second) (before.0 e.first) (before.0 x))) (omega arith)
            (labels-more g k n before.0 e before.1 (slice_get-get_or g.bonds n no_ends (omega (arith, within))) other),
      )
    ]

-- a walk without bond k stays with one label
walk-label : (g : Graph) (k : ℕ) (label : ℕ → ℕ) → AreLabels g k (length g.bonds) label → (x y n : ℕ) → WalksWithout g k x y n → label x ≡ label y
walk-label g k label l x y zero w = ap label w
walk-label g k label l x y (suc n) w =
    let same : label w.3.first ≡ label w.3.second = l.bonded w.2 w.3 (slice_get_within g.bonds w.2 w.3 w.5) w.4 w.5 in
    walk-label g k label l x w.0 n w.1 ∙ elim (joins-ends w.3 w.0 y w.6) [
      | inl s ↦ ap label (sym s.0) ∙ same ∙ ap label s.1
      | inr s ↦ ap label (sym s.1) ∙ sym same ∙ ap label s.0
    ]

-- ---- whether a bond is a ring bond

ring_flag : (g : Graph) (k : ℕ) → (flag : Bool) × (IsTrue flag ↔ IsRingBond g k)
ring_flag g k = elim (cases_lt k (length g.bonds)) [
  | inl low ↦
      let l = labels g k (length g.bonds) (omega arith) in
      let e : Ends = get_or g.bonds k no_ends in
      let j : JoinsAt g k e.first e.second = record { ends = e; here = slice_get-get_or g.bonds k no_ends low; joined = straight e } in (
        eqb (l.0 e.first) (l.0 e.second),
        (
          λ is. IsRingBond-of g k e.first e.second j (l.1.joined e.first e.second (eqb-true _ _ is)),
          λ ring. let r = Reach-ring g k e.first e.second ring j in
              eq-eqb _ _ (walk-label g k l.0 l.1 e.first e.second r.bonds r.walk),
        ),
      )
  | inr high ↦ (false, (λ is. absurd (false≢true is), λ ring. absurd (omega (arith, high, slice_get_within g.bonds k ring.ends ring.bond))))
]

abbrev flags_of : Graph → ℕ → List Bool
flags_of g zero = []
flags_of g (suc n) = flags_of g n ++ (ring_flag g n).0 ∷ []

length-flags_of : (g : Graph) (n : ℕ) → length (flags_of g n) ≡ n
length-flags_of g zero = refl
length-flags_of g (suc n) = omega (arith, length_push (flags_of g n) (ring_flag g n).0, length-flags_of g n)

flag-low : (g : Graph) (n k : ℕ) → k < n → get_or (flags_of g n) k false ≡ (ring_flag g k).0
flag-low g zero k low = absurd (omega (arith, low))
flag-low g (suc n) k low = elim (cases_lt k n) [
  | inl lt ↦ get_or_append_left (flags_of g n) ((ring_flag g n).0 ∷ []) false k (omega (arith, lt, length-flags_of g n)) ∙ flag-low g n k lt
  | inr ge ↦
      let last : k ≡ n = omega (arith, low, ge) in
      get_or_push (flags_of g n) (ring_flag g n).0 false k (omega (arith, last, length-flags_of g n)) ∙ ap (λ (i : ℕ). (ring_flag g i).0) (sym last)
]

flags_are : (g : Graph) (k : ℕ) → IsTrue (get_or (flags_of g (length g.bonds)) k false) ↔ IsRingBond g k
flags_are g k = elim (cases_lt k (length g.bonds)) [
  | inl low ↦ subst (λ (t : Bool). IsTrue t ↔ IsRingBond g k) (sym (flag-low g (length g.bonds) k low)) (ring_flag g k).1
  | inr high ↦ (
    λ is. absurd (false≢true (sym (get_or_past (flags_of g (length g.bonds)) k false (omega (arith, high, length-flags_of g (length g.bonds)))) ∙ is)),
    λ ring. absurd (omega (arith, high, slice_get_within g.bonds k ring.ends ring.bond)),
  )
]

-- ---- the marked molecule

record IsFlagged (m now : Molecule) (flags : List Bool) (n : ℕ) : Type 0 where
  set : AreSet m now flags n
  valid : IsMolecule m → IsMolecule now

flagged : (m : Molecule) (flags : List Bool) (n : ℕ) → n ≤ length m.bonds → (now : Molecule) × IsFlagged m now flags n
flagged m flags zero within = (m, record { set = AreSet-none m flags; valid = λ valid. valid })
flagged m flags (suc n) within =
    let before = flagged m flags n (omega (arith, within)) in
    let low : n < length before.0.bonds = omega (arith, within, AreSet-length m before.0 flags n before.1.set) in
    let next : Molecule = with_ring before.0 n (get_or flags n false) in (
      next,
      record {
        set = subst (λ (i : ℕ). AreSet m next flags i) (omega arith) (AreSet-more m before.0 next flags n before.1.set low refl);
        valid = λ valid. IsMolecule-with_ring before.0 n (get_or flags n false) (before.1.valid valid) low;
      },
    )

-- some molecule is this one with its ring bonds marked, and it keeps the rules
marks : (m : Molecule) → (has : HasMarks m) × (IsMolecule m → IsMolecule has.marked)
marks m =
    let g = molecule_graph m in
    let flags = flags_of g (length m.bonds) in
    let made = flagged m flags (length m.bonds) (omega arith) in
    let rings : (k : ℕ) → IsTrue (get_or flags k false) ↔ IsRingBond g k = λ k.
    subst (λ (n : ℕ). IsTrue (get_or (flags_of g n) k false) ↔ IsRingBond g k) (length-map m.bonds bond_ends) (flags_are g k) in (
      record {
        marked = made.0;
        is_marked = IsMarked-of m made.0 g flags (length m.bonds) made.1.set (omega arith) refl rings;
        same = cc (made.1.set.atoms, made.1.set.bonds);
      },
      made.1.valid,
    )

pub HasMarks-any : (m : Molecule) → HasMarks m
HasMarks-any m = (marks m).0

-- a molecule that is another one with its ring bonds marked keeps the rules if that does
pub IsMolecule-marked : (m marked : Molecule) → IsMarked marked → unmarked_molecule marked ≡ unmarked_molecule m → IsMolecule m → IsMolecule marked
IsMolecule-marked m marked is same valid =
    let one = marks m in
    subst (λ (x : Molecule). IsMolecule x) (one_molecule one.0.marked marked (one.0.same ∙ sym same) one.0.is_marked is) (one.1 valid)
