-- Marked molecules and queries: the flag of each bond says whether it is a ring bond.
-- (textbook: a bond is in a ring where it is in a cycle. The flag is this project's own.)
use Rattle.std.specs.Prelude.{◌≡◌, ◌↔◌, ℕ, Bool, false, Some, IsTrue, map, slice_get, slice_set, slice_index_or}
use Rattle.htss_defs.specs.declared.mol.Bond.{Bond}
use Rattle.htss_defs.specs.declared.query.QueryBond.{QueryBond}
use Rattle.htss_defs.specs.Graph.{IsRingBond}
use Rattle.htss_defs.specs.Molecule.{Molecule, molecule_graph}
use Rattle.htss_defs.specs.QueryGraph.{QueryGraph, query_shape}

-- the bond without its flag
abbrev pub unmarked : Bond → Bond
unmarked b = record b { ring = false }

-- the molecule without the flags of its bonds
abbrev pub unmarked_molecule : Molecule → Molecule
unmarked_molecule m = record { atoms = m.atoms; bonds = map unmarked m.bonds }

-- the bond of a query without its flag
abbrev pub unmarked_query_bond : QueryBond → QueryBond
unmarked_query_bond b = record b { ring = false }

-- the query without the flags of its bonds
abbrev pub unmarked_query : QueryGraph → QueryGraph
unmarked_query q = record { atoms = q.atoms; bonds = map unmarked_query_bond q.bonds }

abbrev pub IsMarked : Molecule → Type 0
IsMarked m =
    (k : ℕ) (b : Bond) → slice_get m.bonds k ≡ Some b → (IsTrue b.ring ↔ IsRingBond (molecule_graph m) k)

abbrev pub IsMarkedQuery : QueryGraph → Type 0
IsMarkedQuery q =
    (k : ℕ) (b : QueryBond) → slice_get q.bonds k ≡ Some b → (IsTrue b.ring ↔ IsRingBond (query_shape q) k)

abbrev pub no_bond : Bond
no_bond = record { first = 0; second = 0; kind = 0; ring = false }

-- the molecule with this flag at bond k
abbrev pub with_ring : Molecule → ℕ → Bool → Molecule
with_ring m k ring = record {
  atoms = m.atoms;
  bonds = slice_set m.bonds k (record (slice_index_or m.bonds k no_bond) { ring = ring });
}
