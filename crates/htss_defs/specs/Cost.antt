-- The cost of a search for an embedding: the number of atoms of the molecule for each list of places for the first
-- atoms of the query, one at least lacking, that keeps all tests between them. The ring flag of a bond counts: in a
-- marked molecule these are the tests of an embedding (this project's own).
use Rattle.std.specs.Prelude.{ℕ, zero, suc, ◌+◌, ◌-◌, List, [], ◌∷◌, ◌++◌, length, slice_get, slice_index, sum_by, max}
use Rattle.std.specs.Prelude.{Option, None, Some, Bool, true, false, not, ◌&&◌, ◌||◌, ◌==◌, leb, if◌then◌else◌}
use Rattle.std.specs.List.{list_any, list_all, range_with_len}
use Rattle.htss_defs.specs.declared.mol.Atom.{Atom}
use Rattle.htss_defs.specs.declared.mol.Bond.{Bond}
use Rattle.htss_defs.specs.declared.query.QueryAtom.{QueryAtom}
use Rattle.htss_defs.specs.declared.query.QueryBond.{QueryBond}
use Rattle.htss_defs.specs.Graph.{joins}
use Rattle.htss_defs.specs.Molecule.{Molecule, bond_ends}
use Rattle.htss_defs.specs.QueryGraph.{QueryGraph}
use Rattle.htss_defs.specs.Passes.{atom_passes, kind_passes}
use Rattle.htss_defs.specs.Embedding.{place_of}

-- what stands at a place, counted from 1
abbrev pub at_place : {X : Type 0} → List X → ℕ → Option X
at_place xs p = if p == 0 then None else slice_get xs (p - 1)

-- there are both atoms, and the one of the molecule passes
abbrev pub passes : Option QueryAtom → Option Atom → Bool
passes None there = false
passes (Some asked) None = false
passes (Some asked) (Some a) = atom_passes asked a

-- topology 1 asks for a bond that is marked as a ring bond, 2 for one that is not
abbrev pub flag_passes : ℕ → Bool → Bool
flag_passes asked ring = if asked == 1 then ring else (if asked == 2 then not ring else true)

abbrev pub bond_passes : QueryBond → Bond → Bool
bond_passes asked b = kind_passes asked.kind b.kind && flag_passes asked.topology b.ring

-- the molecule has a bond between these places that passes
abbrev pub bond_lands : Molecule → QueryBond → ℕ → ℕ → Bool
bond_lands m asked x y = list_any (λ b. joins (bond_ends b) x y && bond_passes asked b) m.bonds

-- no place twice
abbrev pub all_differ : List ℕ → Bool
all_differ [] = true
all_differ (p ∷ g) = not (list_any (λ x. x == p) g) && all_differ g

-- the atom at the place of atom i of the query, counted from 0, passes its test
abbrev pub atom_lands : QueryGraph → Molecule → List ℕ → ℕ → Bool
atom_lands q m g i = passes (slice_get q.atoms i) (at_place m.atoms (slice_index g i))

-- a bond of the query with both ends among the atoms of g lands between their places
abbrev pub bond_stays : Molecule → List ℕ → QueryBond → Bool
bond_stays m g b =
    not (leb (max b.first b.second) (length g)) || bond_lands m b (place_of g b.first) (place_of g b.second)

-- all tests between the first atoms of the query hold, where they stand at the places of g
abbrev pub keeps_tests : QueryGraph → Molecule → List ℕ → Bool
keeps_tests q m g =
    all_differ g && list_all (atom_lands q m g) (range_with_len 0 (length g)) && list_all (bond_stays m g) q.bonds

abbrev pub places : Molecule → List ℕ
places m = range_with_len 1 (length m.atoms)

-- with so many atoms of the query left
unfoldable pub cost_left : ℕ → QueryGraph → Molecule → List ℕ → ℕ
cost_left zero q m f = 0
cost_left (suc left) q m f =
    length m.atoms
    + sum_by (λ p. if keeps_tests q m (f ++ p ∷ []) then cost_left left q m (f ++ p ∷ []) else 0) (places m)

-- the cost of a search that goes on from f
abbrev pub cost : QueryGraph → Molecule → List ℕ → ℕ
cost q m f = cost_left (length q.atoms - length f) q m f
