-- What is sure of whatever stands for an atom or a bond of a query.
use Rattle.std.specs.Prelude.{◌≡◌, List, length, map, Bool, ◌==◌, ◌||◌}
use Rattle.htss_defs.specs.declared.mol.Bond.{Bond}
use Rattle.htss_defs.specs.declared.query.QueryBond.{QueryBond}
use Rattle.htss_defs.specs.Graph.{Graph}
use Rattle.htss_defs.specs.QueryGraph.{QueryGraph, IsQuery, query_shape}
use Rattle.htss_defs.specs.Needs.{surely_in}
use Rattle.env_code.specs.declared.bond_counts.BondCounts.{BondCounts}
use Rattle.env_code.specs.BondCounts.{AreBondCounts}
use Rattle.env_code.specs.Near.{HasLanes}

-- a bond of a query as it counts in the lanes of code 0: types 5 to 8 count in none
abbrev pub sure_bond : QueryBond → Bond
sure_bond b = record { first = b.first; second = b.second; kind = b.kind; ring = (b.topology == 1 || b.ring) }

-- what is kept of a query whose needs are asked
pub record AreNeeds (q : QueryGraph) (bonds : Graph) (counts : BondCounts) (table : List (List Bool)) : Type 0 where
  pub query : IsQuery q
  pub graph : bonds ≡ query_shape q
  pub counted : AreBondCounts (map sure_bond q.bonds) counts
  pub lanes : HasLanes (surely_in q) (length q.atoms) table
