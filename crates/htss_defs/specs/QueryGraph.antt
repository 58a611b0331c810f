-- What a query is: a graph of atom tests and bond tests.
-- (CTfile Formats, "The Bond Block": query bond types 5 to 8, bond topology 0 to 2; "Atom list" and the query atoms
-- A, Q, * and L of the atom block are the tests. The limit of 64 atoms is this project's own.)
use Rattle.std.specs.Prelude.{ℕ, ◌≤◌, ◌≤ℤ◌, pos, negsuc, List, length, map, All, AllPairs}
use Rattle.htss_defs.specs.declared.graph.Ends.{Ends}
use Rattle.htss_defs.specs.declared.query.AtomTest.{AtomTest}
use Rattle.htss_defs.specs.declared.query.AtomTest.TheVariants.{Element}
use Rattle.htss_defs.specs.declared.query.QueryAtom.{QueryAtom}
use Rattle.htss_defs.specs.declared.query.QueryBond.{QueryBond}
use Rattle.htss_defs.specs.Graph.{Graph, AreEnds, AreApart}

-- what contracts see of a `Query`
pub record QueryGraph : Type 0 where
  pub atoms : List QueryAtom
  pub bonds : List QueryBond

abbrev pub query_bond_ends : QueryBond → Ends
query_bond_ends b = record { first = b.first; second = b.second }

abbrev pub query_shape : QueryGraph → Graph
query_shape q = record { atoms = length q.atoms; bonds = map query_bond_ends q.bonds }

abbrev pub IsAtomTest : AtomTest → Type 0
IsAtomTest (Element e) = (1 ≤ e) × (e ≤ 118)
IsAtomTest _ = Unit {0}

pub record IsQueryAtom (a : QueryAtom) : Type 0 where
  pub test : IsAtomTest a.test
  pub charge : (negsuc 14 ≤ℤ a.charge) × (a.charge ≤ℤ pos 15)
  pub mass : a.mass ≤ 999

-- among n atoms
pub record IsQueryBond (n : ℕ) (b : QueryBond) : Type 0 where
  pub ends : AreEnds n (query_bond_ends b)
  pub kind : (1 ≤ b.kind) × (b.kind ≤ 8)
  pub topology : b.topology ≤ 2

abbrev pub AreQueryBondsApart : QueryBond → QueryBond → Type 0
AreQueryBondsApart earlier later = AreApart (query_bond_ends earlier) (query_bond_ends later)

pub record IsQuery (q : QueryGraph) : Type 0 where
  pub atoms : (1 ≤ length q.atoms) × (length q.atoms ≤ 64)
  pub bonds : length q.bonds ≤ 999
  pub each_atom : All IsQueryAtom q.atoms
  pub each_bond : All (IsQueryBond (length q.atoms)) q.bonds
  pub no_pair_twice : AllPairs AreQueryBondsApart q.bonds
