-- A molecule and the same one with its ring bonds marked.
use Rattle.std.proofs.Common.{◌≡◌, length, map, sym, ap, ◌∙◌}
use Rattle.std.proofs.lemmas.List.{length-map}
use Rattle.htss_defs.specs.Molecule.{Molecule}
use Rattle.htss_defs.specs.Marked.{IsMarked, unmarked, unmarked_molecule}
use Rattle.ctfile.proofs.MarkedOnes.{one_molecule}

pub same-atoms : (m marked : Molecule) → unmarked_molecule marked ≡ unmarked_molecule m → length m.atoms ≡ length marked.atoms
same-atoms m marked same = ap (λ (x : Molecule). length x.atoms) (sym same)

pub same-bonds : (m marked : Molecule) → unmarked_molecule marked ≡ unmarked_molecule m → length m.bonds ≡ length marked.bonds
same-bonds m marked same = sym (length-map m.bonds unmarked) ∙ ap (λ (x : Molecule). length x.bonds) (sym same) ∙ length-map marked.bonds unmarked

-- the one that was marked is the one that is told
pub one_marked : (m now marked : Molecule) → IsMarked now → now.atoms ≡ m.atoms → map unmarked now.bonds ≡ map unmarked m.bonds → IsMarked marked → unmarked_molecule marked ≡ unmarked_molecule m → now ≡ marked
one_marked m now marked is atoms bonds other same =
    let plain : unmarked_molecule now ≡ unmarked_molecule m = cc (atoms, bonds) in
    one_molecule now marked (plain ∙ sym same) is other
