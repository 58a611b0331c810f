-- Setting the flags of a molecule's bonds, one after the other.
use Rattle.std.proofs.Common.{◌≡◌, ℕ, ◌+◌, ◌<◌, ◌≤◌, ◌↔◌, Bool, false, IsTrue, List, [], ◌∷◌, length, get_or, set, map, refl, sym, subst, ap, ◌∙◌, inl, inr, arith}
use Rattle.std.specs.Prelude.{slice_get, Some}
use Rattle.std.proofs.lemmas.Bool.{cases_eq}
use Rattle.std.proofs.lemmas.List.{length-map, length-set, get_or-set_same, get_or-set_other}
use Rattle.std.proofs.lemmas.Option.{slice_get-get_or, slice_get_within, get_or_from_slice_get}
use Rattle.std.proofs.Math.Seq.{map-set_same}
use Rattle.htss_defs.specs.declared.graph.Ends.{Ends}
use Rattle.htss_defs.specs.declared.mol.Bond.{Bond}
use Rattle.htss_defs.specs.Graph.{Graph, IsRingBond}
use Rattle.htss_defs.specs.Molecule.{Molecule, molecule_graph, bond_ends}
use Rattle.htss_defs.specs.Marked.{IsMarked, unmarked, no_bond, with_ring}

-- the first n bonds have these flags, and nothing else has changed
pub record AreSet (old now : Molecule) (flags : List Bool) (n : ℕ) : Type 0 where
  pub atoms : now.atoms ≡ old.atoms
  pub bonds : map unmarked now.bonds ≡ map unmarked old.bonds
  pub rings : (k : ℕ) (b : Bond) → k < n → slice_get now.bonds k ≡ Some b → b.ring ≡ get_or flags k false

pub AreSet-none : (m : Molecule) (flags : List Bool) → AreSet m m flags 0
AreSet-none m flags = record { atoms = refl; bonds = refl; rings = λ k b before here. absurd (omega arith) }

pub AreSet-length : (old now : Molecule) (flags : List Bool) (n : ℕ) → AreSet old now flags n → length now.bonds ≡ length old.bonds
AreSet-length old now flags n a = sym (length-map now.bonds unmarked) ∙ ap length a.bonds ∙ length-map old.bonds unmarked

set_more : (old now : Molecule) (flags : List Bool) (n : ℕ) → AreSet old now flags n → n < length now.bonds → AreSet old (with_ring now n (get_or flags n false)) flags (n + 1)
set_more old now flags n a within =
    let b : Bond = record (get_or now.bonds n no_bond) { ring = get_or flags n false } in
    record {
      atoms = a.atoms;
      bonds = map-set_same unmarked now.bonds n b no_bond refl ∙ a.bonds;
      rings = λ k d before here. elim (cases_eq k n) [
        | inl last ↦
            let there : get_or (set now.bonds n b) k no_bond ≡ d = get_or_from_slice_get (set now.bonds n b) k d no_bond here in
            let new : get_or (set now.bonds n b) k no_bond ≡ b = ap (λ (i : ℕ). get_or (set now.bonds n b) i no_bond) last ∙ get_or-set_same now.bonds n b no_bond within in
            ap (λ (e : Bond). e.ring) (sym there ∙ new) ∙ ap (λ (i : ℕ). get_or flags i false) (sym last)
        | inr other ↦
            let low : k < length now.bonds = omega (arith, slice_get_within (set now.bonds n b) k d here, length-set now.bonds n b) in
            let there : get_or (set now.bonds n b) k no_bond ≡ d = get_or_from_slice_get (set now.bonds n b) k d no_bond here in
            let was : get_or now.bonds k no_bond ≡ d = sym (get_or-set_other now.bonds n k b no_bond other) ∙ there in
            a.rings k d (omega arith) (slice_get-get_or now.bonds k no_bond low ∙ ap Some was)
      ];
    }

pub AreSet-more : (old now next : Molecule) (flags : List Bool) (n : ℕ) → AreSet old now flags n → n < length now.bonds → next ≡ with_ring now n (get_or flags n false) → AreSet old next flags (n + 1)
AreSet-more old now next flags n a within is = subst (λ (m : Molecule). AreSet old m flags (n + 1)) (sym is) (set_more old now flags n a within)

-- the ends of bonds do not depend on their flags
ends-unmarked : (bs : List Bond) → map bond_ends (map unmarked bs) ≡ map bond_ends bs
ends-unmarked [] = refl
ends-unmarked (b ∷ bs) = ap (λ (es : List Ends). bond_ends b ∷ es) (ends-unmarked bs)

graph-set : (old now : Molecule) (flags : List Bool) (n : ℕ) → AreSet old now flags n → molecule_graph now ≡ molecule_graph old
graph-set old now flags n a =
    let ends : map bond_ends now.bonds ≡ map bond_ends old.bonds = sym (ends-unmarked now.bonds) ∙ ap (map bond_ends) a.bonds ∙ ends-unmarked old.bonds in
    let size : length now.atoms ≡ length old.atoms = ap length a.atoms in
    cc

pub IsMarked-of : (old now : Molecule) (g : Graph) (flags : List Bool) (n : ℕ) → AreSet old now flags n → length old.bonds ≤ n → g ≡ molecule_graph old → ((k : ℕ) → (IsTrue (get_or flags k false) ↔ IsRingBond g k)) → IsMarked now
IsMarked-of old now g flags n a all linked rings k b here =
    let graph : g ≡ molecule_graph now = linked ∙ sym (graph-set old now flags n a) in
    let flag : b.ring ≡ get_or flags k false = a.rings k b (omega (arith, slice_get_within now.bonds k b here, AreSet-length old now flags n a)) here in
    subst (λ (h : Graph). IsTrue b.ring ↔ IsRingBond h k) graph (subst (λ (t : Bool). IsTrue t ↔ IsRingBond g k) (sym flag) (rings k))
