-- The flags of a query's bonds.
use Rattle.std.specs.Prelude.{◌≡◌, ℕ, ◌<◌, ◌≤◌, List, Bool, false, Some, length, map, All, slice_get, slice_index_or}
use Rattle.htss_defs.specs.declared.query.QueryBond.{QueryBond}
use Rattle.htss_defs.specs.Graph.{AreEnds}
use Rattle.htss_defs.specs.QueryGraph.{query_bond_ends}
use Rattle.htss_defs.specs.Marked.{unmarked_query_bond}

-- the first n bonds have these flags, and nothing else has changed
pub record AreSet (old now : List QueryBond) (flags : List Bool) (n : ℕ) : Type 0 where
  pub same : map unmarked_query_bond now ≡ map unmarked_query_bond old
  pub rings : (k : ℕ) (b : QueryBond) → k < n → slice_get now k ≡ Some b → b.ring ≡ slice_index_or flags k false

-- the bonds are few enough, and each joins two places
pub record HasGraph (atoms : ℕ) (bonds : List QueryBond) : Type 0 where
  pub few_atoms : atoms ≤ 64
  pub few_bonds : length bonds ≤ 999
  pub ends : All (λ b. AreEnds atoms (query_bond_ends b)) bonds
