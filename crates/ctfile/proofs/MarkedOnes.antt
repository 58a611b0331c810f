-- Marked molecules that are one without the flags of their bonds are one: the flags are those of the graph.
use Rattle.std.proofs.Common.{◌≡◌, ℕ, ◌<◌, ◌↔◌, Bool, true, false, IsTrue, List, length, get_or, map, refl, sym, ap, subst, ◌∙◌, arith}
use Rattle.std.proofs.lemmas.List.{length-map, get_or-map, ext_get_or}
use Rattle.std.proofs.lemmas.Simd.{map-map}
use Rattle.std.proofs.lemmas.Option.{slice_get-get_or}
use Rattle.htss_defs.specs.declared.graph.Ends.{Ends}
use Rattle.htss_defs.specs.declared.mol.Atom.{Atom}
use Rattle.htss_defs.specs.declared.mol.Bond.{Bond}
use Rattle.htss_defs.specs.Graph.{Graph, IsRingBond}
use Rattle.htss_defs.specs.Molecule.{Molecule, molecule_graph, bond_ends}
use Rattle.htss_defs.specs.Marked.{IsMarked, unmarked, unmarked_molecule, no_bond}

-- two flags that say the same
one_flag : (s t : Bool) (P : Type 0) → (IsTrue s ↔ P) → (IsTrue t ↔ P) → s ≡ t
one_flag true true P a b = refl
one_flag false false P a b = refl
one_flag true false P a b = sym (b.1 (a.0 refl))
one_flag false true P a b = a.1 (b.0 refl)

one_bond : (b c : Bond) → unmarked b ≡ unmarked c → b.ring ≡ c.ring → b ≡ c
one_bond b c same flags =
    let with_flag : Bond → Bool → Bond = λ x t. record x { ring = t } in
    ap (λ (x : Bond). with_flag x b.ring) same ∙ ap (with_flag c) flags

one_graph : (m n : Molecule) → m.atoms ≡ n.atoms → map unmarked m.bonds ≡ map unmarked n.bonds → molecule_graph m ≡ molecule_graph n
one_graph m n atoms bonds =
    let ends : map bond_ends m.bonds ≡ map bond_ends n.bonds = sym (map-map bond_ends unmarked m.bonds) ∙ ap (map bond_ends) bonds ∙ map-map bond_ends unmarked n.bonds in
    ap (λ (x : List Atom). record { atoms = length x; bonds = map bond_ends m.bonds }) atoms ∙ ap (λ (x : List Ends). record { atoms = length n.atoms; bonds = x }) ends

pub one_molecule : (m n : Molecule) → unmarked_molecule m ≡ unmarked_molecule n → IsMarked m → IsMarked n → m ≡ n
one_molecule m n same marks others =
    ap (λ (x : List Atom). record { atoms = x; bonds = m.bonds }) atoms
    ∙ ap (λ (x : List Bond). record { atoms = n.atoms; bonds = x }) (ext_get_or no_bond m.bonds n.bonds long each)
  where
    atoms : m.atoms ≡ n.atoms
    atoms = ap (λ (x : Molecule). x.atoms) same

    bonds : map unmarked m.bonds ≡ map unmarked n.bonds
    bonds = ap (λ (x : Molecule). x.bonds) same

    long : length m.bonds ≡ length n.bonds
    long = sym (length-map m.bonds unmarked) ∙ ap length bonds ∙ length-map n.bonds unmarked

    each : (k : ℕ) → k < length m.bonds → get_or m.bonds k no_bond ≡ get_or n.bonds k no_bond
    each k within =
        let plain : unmarked (get_or m.bonds k no_bond) ≡ unmarked (get_or n.bonds k no_bond) =
        sym (get_or-map unmarked m.bonds k no_bond no_bond within) ∙ ap (λ (x : List Bond). get_or x k no_bond) bonds ∙ get_or-map unmarked n.bonds k no_bond no_bond (omega (arith, within, long)) in
        let first = marks k _ (slice_get-get_or m.bonds k no_bond within) in
        let second = others k _ (slice_get-get_or n.bonds k no_bond (omega (arith, within, long))) in
        one_bond _ _ plain (one_flag _ _ (IsRingBond (molecule_graph m) k) first (subst (λ (g : Graph). IsTrue (get_or n.bonds k no_bond).ring ↔ IsRingBond g k) (sym (one_graph m n atoms bonds)) second))
