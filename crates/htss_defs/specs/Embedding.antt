-- What an embedding of a query in a molecule is, and which is the least: textbook subgraph embedding.
use Rattle.std.specs.Prelude.{◌≡◌, ◌≢◌, ◌⊎◌, ℕ, ◌-◌, ◌<◌, ◌≤◌, List, [], ◌∷◌, length, slice_get, slice_index, All}
use Rattle.std.specs.Prelude.{AllPairs, Some, IsTrue}
use Rattle.htss_defs.specs.declared.mol.Atom.{Atom}
use Rattle.htss_defs.specs.declared.mol.Bond.{Bond}
use Rattle.htss_defs.specs.declared.query.QueryAtom.{QueryAtom}
use Rattle.htss_defs.specs.declared.query.QueryBond.{QueryBond}
use Rattle.htss_defs.specs.Graph.{joins}
use Rattle.htss_defs.specs.Molecule.{Molecule, molecule_graph, bond_ends}
use Rattle.htss_defs.specs.QueryGraph.{QueryGraph}
use Rattle.htss_defs.specs.Passes.{atom_passes, kind_passes, MeetsTopology}

-- a map is a list of places: atom u of the query stands at place_of map u, both counted from 1
abbrev pub place_of : List ℕ → ℕ → ℕ
place_of map u = slice_index map (u - 1)

-- place p of the molecule holds an atom that passes
pub record AtomLands (asked : QueryAtom) (m : Molecule) (p : ℕ) : Type 0 where
  pub atom : Atom
  pub here : (1 ≤ p) × (slice_get m.atoms (p - 1) ≡ Some atom)
  pub passes : IsTrue (atom_passes asked atom)

-- the molecule has a bond between places x and y that passes
pub record BondLands (asked : QueryBond) (m : Molecule) (x y : ℕ) : Type 0 where
  pub index : ℕ
  pub bond : Bond
  pub here : slice_get m.bonds index ≡ Some bond
  pub joined : IsTrue (joins (bond_ends bond) x y)
  pub kind : IsTrue (kind_passes asked.kind bond.kind)
  pub topology : MeetsTopology asked.topology (molecule_graph m) index

-- a place for each atom of the query, no place twice, and all tests hold
pub record IsEmbedding (q : QueryGraph) (m : Molecule) (map : List ℕ) : Type 0 where
  pub one_each : length map ≡ length q.atoms
  pub apart : AllPairs (λ x y. x ≢ y) map
  pub atoms : (i : ℕ) (asked : QueryAtom) → slice_get q.atoms i ≡ Some asked → AtomLands asked m (slice_index map i)
  pub bonds : All (λ b. BondLands b m (place_of map b.first) (place_of map b.second)) q.bonds

-- f stands before g in lexicographic order, or is g
abbrev pub IsFirstOrSame : List ℕ → List ℕ → Type 0
IsFirstOrSame [] g = Unit {0}
IsFirstOrSame (x ∷ f) [] = ⊥
IsFirstOrSame (x ∷ f) (y ∷ g) = (x < y) ⊎ ((x ≡ y) × IsFirstOrSame f g)

pub record IsLeastEmbedding (q : QueryGraph) (m : Molecule) (map : List ℕ) : Type 0 where
  pub embeds : IsEmbedding q m map
  pub least : (other : List ℕ) → IsEmbedding q m other → IsFirstOrSame map other

-- nothing embeds
abbrev pub NoEmbedding : QueryGraph → Molecule → Type 0
NoEmbedding q m = (map : List ℕ) → IsEmbedding q m map → ⊥
