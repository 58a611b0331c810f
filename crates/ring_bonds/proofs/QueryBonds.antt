-- Setting the flags of a query's bonds, one after the other.
use Rattle.std.proofs.Common.{◌≡◌, ◌↔◌, ℕ, ◌+◌, ◌<◌, ◌≤◌, Bool, false, IsTrue, List, [], ◌∷◌, ◌++◌, length, take, drop, get_or, set, map, refl, sym, subst, ap, ◌∙◌, inl, inr, arith}
use Rattle.std.specs.Prelude.{Some}
use Rattle.std.proofs.lemmas.Bool.{cases_eq}
use Rattle.std.proofs.lemmas.List.{length-map, length-set, get_or-map, get_or-set_same, get_or-set_other, take_all, take-append-le}
use Rattle.std.proofs.lemmas.Option.{slice_get-get_or, slice_get_within, get_or_from_slice_get}
use Rattle.std.proofs.Math.Seq.{map-set_same}
use Rattle.htss_defs.specs.declared.graph.Ends.{Ends}
use Rattle.htss_defs.specs.declared.query.QueryAtom.{QueryAtom}
use Rattle.htss_defs.specs.declared.query.QueryBond.{QueryBond}
use Rattle.htss_defs.specs.Graph.{Graph, IsRingBond, AreApart, AreEnds}
use Rattle.htss_defs.specs.QueryGraph.{IsQuery, IsQueryBond, query_bond_ends, query_shape}
use Rattle.htss_defs.specs.Marked.{IsMarkedQuery, unmarked_query_bond, unmarked_query}
use Rattle.ring_bonds.specs.QueryFlags.{AreSet, HasGraph}

abbrev plain : QueryBond → QueryBond
plain = unmarked_query_bond

pub AreSet-none : (bonds : List QueryBond) (flags : List Bool) → AreSet bonds bonds flags 0
AreSet-none bonds flags = record { same = refl; rings = λ k b before here. absurd (omega arith) }

pub AreSet-length : (old now : List QueryBond) (flags : List Bool) (n : ℕ) → AreSet old now flags n → length now ≡ length old
AreSet-length old now flags n a = sym (length-map now plain) ∙ ap length a.same ∙ length-map old plain

pub AreSet-more : (old now : List QueryBond) (flags : List Bool) (n : ℕ) (d b : QueryBond) → AreSet old now flags n → n < length now
    → b ≡ record (get_or now n d) { ring = get_or flags n false } → AreSet old (set now n b) flags (n + 1)
AreSet-more old now flags n d b a within is = record {
  same = map-set_same plain now n b d (ap plain is) ∙ a.same;
  rings = λ k e before here. elim (cases_eq k n) [
    | inl last ↦
        let there : get_or (set now n b) k d ≡ e = get_or_from_slice_get (set now n b) k e d here in
        let new : get_or (set now n b) k d ≡ b = ap (λ (i : ℕ). get_or (set now n b) i d) last ∙ get_or-set_same now n b d within in
        ap (λ (x : QueryBond). x.ring) (sym there ∙ new ∙ is) ∙ ap (λ (i : ℕ). get_or flags i false) (sym last)
    | inr other ↦
        let low : k < length now = omega (arith, slice_get_within (set now n b) k e here, length-set now n b) in
        let there : get_or (set now n b) k d ≡ e = get_or_from_slice_get (set now n b) k e d here in
        let was : get_or now k d ≡ e = sym (get_or-set_other now n k b d other) ∙ there in
        a.rings k e (omega arith) (slice_get-get_or now k d low ∙ ap Some was)
  ];
}

-- ---- the ends of bonds do not depend on their flags

ends-plain : (bs : List QueryBond) → map query_bond_ends (map plain bs) ≡ map query_bond_ends bs
ends-plain [] = refl
ends-plain (b ∷ bs) = ap (λ (es : List Ends). query_bond_ends b ∷ es) (ends-plain bs)

same_ends : (old now : List QueryBond) → map plain now ≡ map plain old → map query_bond_ends now ≡ map query_bond_ends old
same_ends old now same = sym (ends-plain now) ∙ ap (map query_bond_ends) same ∙ ends-plain old

pub IsMarkedQuery-of : (atoms : List QueryAtom) (old now : List QueryBond) (g : Graph) (flags : List Bool) → AreSet old now flags (length old)
    → g ≡ record { atoms = length atoms; bonds = map query_bond_ends old } → ((k : ℕ) → (IsTrue (get_or flags k false) ↔ IsRingBond g k))
    → IsMarkedQuery (record { atoms = atoms; bonds = now })
IsMarkedQuery-of atoms old now g flags a linked rings k b here =
    let shape : g ≡ query_shape (record { atoms = atoms; bonds = now }) = linked ∙ ap (λ (es : List Ends). record { atoms = length atoms; bonds = es }) (sym (same_ends old now a.same)) in
    let flag : b.ring ≡ get_or flags k false = a.rings k b (omega (arith, slice_get_within now k b here, AreSet-length old now flags (length old) a)) here in
    subst (λ (h : Graph). IsTrue b.ring ↔ IsRingBond h k) shape (subst (λ (t : Bool). IsTrue t ↔ IsRingBond g k) (sym flag) (rings k))

-- ---- the rules of queries do not depend on flags

same_at : (old now : List QueryBond) → map plain now ≡ map plain old → (k : ℕ) (d : QueryBond) → k < length now → plain (get_or now k d) ≡ plain (get_or old k d)
same_at old now same k d within =
    let lengths : length now ≡ length old = sym (length-map now plain) ∙ ap length same ∙ length-map old plain in
    sym (get_or-map plain now k d (plain d) (omega (arith, length-map now plain))) ∙ ap (λ (bs : List QueryBond). get_or bs k (plain d)) same
    ∙ get_or-map plain old k d (plain d) (omega (arith, lengths, length-map old plain))

bond_same : (n : ℕ) (b c : QueryBond) → plain b ≡ plain c → IsQueryBond n c → IsQueryBond n b
bond_same n b c same valid = record {
  ends = subst (λ (e : Ends). AreEnds n e) (ap query_bond_ends (sym same)) valid.ends;
  kind = subst (λ (k : ℕ). (1 ≤ k) × (k ≤ 8)) (ap (λ (x : QueryBond). x.kind) (sym same)) valid.kind;
  topology = subst (λ (t : ℕ). t ≤ 2) (ap (λ (x : QueryBond). x.topology) (sym same)) valid.topology;
}

pub IsQuery-same : (atoms : List QueryAtom) (old now : List QueryBond) → map plain now ≡ map plain old
    → IsQuery (record { atoms = atoms; bonds = old }) → IsQuery (record { atoms = atoms; bonds = now })
IsQuery-same atoms old now same valid =
    let lengths : length now ≡ length old = sym (length-map now plain) ∙ ap length same ∙ length-map old plain in
    record {
      atoms = valid.atoms;
      bonds = omega (arith, lengths, valid.bonds);
      each_atom = valid.each_atom;
      each_bond = λ k d within. bond_same (length atoms) (get_or now k d) (get_or old k d) (same_at old now same k d within) (valid.each_bond k d (omega (arith, lengths)));
      no_pair_twice = λ i j d before last.
          subst (λ (e : Ends). AreApart e (query_bond_ends (get_or now j d))) (ap query_bond_ends (sym (same_at old now same i d (omega arith))))
          (subst (λ (e : Ends). AreApart (query_bond_ends (get_or old i d)) e) (ap query_bond_ends (sym (same_at old now same j d last))) (valid.no_pair_twice i j d before (omega (arith, lengths))));
    }

pub HasGraph-query : (atoms : List QueryAtom) (bonds : List QueryBond) → IsQuery (record { atoms = atoms; bonds = bonds }) → HasGraph (length atoms) bonds
HasGraph-query atoms bonds valid = record {
  few_atoms = valid.atoms.1;
  few_bonds = valid.bonds;
  ends = λ k d within. (valid.each_bond k d within).ends;
}

-- ---- what a vector holds after its slice was written

pub written : (len : ℕ) (now items : List QueryBond) → length items ≡ len → length now ≡ length items → take len (now ++ drop (length now) items) ≡ now
written len now items size same = take-append-le len now (drop (length now) items) (omega (arith, size, same)) ∙ take_all len now (omega (arith, size, same))

pub IsMarkedQuery-written : (atoms : List QueryAtom) (old now : List QueryBond) (len : ℕ) (g : Graph) (flags : List Bool) → length old ≡ len → AreSet old now flags (length old)
    → g ≡ record { atoms = length atoms; bonds = map query_bond_ends old } → ((k : ℕ) → (IsTrue (get_or flags k false) ↔ IsRingBond g k))
    → IsMarkedQuery (record { atoms = atoms; bonds = take len (now ++ drop (length now) old) })
IsMarkedQuery-written atoms old now len g flags size a linked rings =
    subst (λ (bs : List QueryBond). IsMarkedQuery (record { atoms = atoms; bonds = bs })) (sym (written len now old size (AreSet-length old now flags (length old) a)))
    (IsMarkedQuery-of atoms old now g flags a linked rings)

pub IsQuery-written : (atoms : List QueryAtom) (old now : List QueryBond) (len : ℕ) (flags : List Bool) → length old ≡ len → AreSet old now flags (length old)
    → (IsQuery (record { atoms = atoms; bonds = take len (now ++ drop (length now) old) }) ↔ IsQuery (record { atoms = atoms; bonds = old }))
IsQuery-written atoms old now len flags size a =
    let is : take len (now ++ drop (length now) old) ≡ now = written len now old size (AreSet-length old now flags (length old) a) in (
      λ valid. IsQuery-same atoms now old (sym a.same) (subst (λ (bs : List QueryBond). IsQuery (record { atoms = atoms; bonds = bs })) is valid),
      λ valid. subst (λ (bs : List QueryBond). IsQuery (record { atoms = atoms; bonds = bs })) (sym is) (IsQuery-same atoms old now a.same valid),
    )

pub unmarked-written : (atoms : List QueryAtom) (old now : List QueryBond) (len : ℕ) (flags : List Bool) → length old ≡ len → AreSet old now flags (length old)
    → unmarked_query (record { atoms = atoms; bonds = take len (now ++ drop (length now) old) }) ≡ unmarked_query (record { atoms = atoms; bonds = old })
unmarked-written atoms old now len flags size a =
    let is : take len (now ++ drop (length now) old) ≡ now = written len now old size (AreSet-length old now flags (length old) a) in
    ap (λ (bs : List QueryBond). record { atoms = atoms; bonds = bs }) (ap (map plain) is ∙ a.same)
