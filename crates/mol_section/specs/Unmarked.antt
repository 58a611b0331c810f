-- What is told of a section before its ring bonds are marked (this project's own).
use Rattle.std.specs.Prelude.{◌≡◌}
use Rattle.htss_defs.specs.Graph.{Graph}
use Rattle.htss_defs.specs.Molecule.{Molecule, molecule_graph}
use Rattle.htss_defs.specs.Marked.{IsMarked, unmarked_molecule}
use Rattle.mol_section.specs.SectionRecord.{Outcome, accepted, refused}

-- the fact holds of the outcome once the ring bonds of its molecule are marked
abbrev pub IfMarked : (Outcome → Type 0) → Outcome → Type 0
IfMarked P (accepted name mol) = (marked : Molecule) → IsMarked marked
    → unmarked_molecule marked ≡ unmarked_molecule mol → P (accepted name marked)
IfMarked P (refused line code) = P (refused line code)

-- the graph is that of the molecule, if there is one
abbrev pub HasGraph : Graph → Outcome → Type 0
HasGraph graph (accepted name mol) = graph ≡ molecule_graph mol
HasGraph graph (refused line code) = Unit {0}
