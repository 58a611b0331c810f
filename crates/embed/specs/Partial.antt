-- Maps of the first atoms of a query, on the way to an embedding.
use Rattle.std.specs.Prelude.{◌≡◌, ◌≢◌, ℕ, ◌<◌, ◌≤◌, List, length, take, slice_index, All, AllPairs, EachIndex, IsTrue}
use Rattle.htss_defs.specs.Molecule.{Molecule}
use Rattle.htss_defs.specs.QueryGraph.{QueryGraph}
use Rattle.htss_defs.specs.Embedding.{IsFirstOrSame, place_of}
use Rattle.htss_defs.specs.Cost.{atom_lands, bond_lands}
use Rattle.embed.specs.Tests.{PassesAll}

-- a place for each of the first atoms of the query, with all tests between them
pub record IsPartial (q : QueryGraph) (m : Molecule) (map : List ℕ) : Type 0 where
  pub fits : length map ≤ length q.atoms
  pub apart : AllPairs (λ x y. x ≢ y) map
  pub atoms : EachIndex map (λ i. IsTrue (atom_lands q m map i))
  pub bonds : All (λ b. b.first ≤ length map → b.second ≤ length map
      → IsTrue (bond_lands m b (place_of map b.first) (place_of map b.second))) q.bonds

-- an embedding that goes on from the map
pub record GoesOn (q : QueryGraph) (m : Molecule) (map whole : List ℕ) : Type 0 where
  pub embeds : PassesAll q m whole
  pub begins : take (length map) whole ≡ map

-- the first of the embeddings that go on from the map
pub record IsFirstFrom (q : QueryGraph) (m : Molecule) (map whole : List ℕ) : Type 0 where
  pub goes_on : GoesOn q m map whole
  pub first : (other : List ℕ) → GoesOn q m map other → IsFirstOrSame whole other

-- no embedding goes on from the map
abbrev pub IsStuck : QueryGraph → Molecule → List ℕ → Type 0
IsStuck q m map = (whole : List ℕ) → GoesOn q m map whole → ⊥

-- none goes on from the map by a place below n
pub record NoneBelow (q : QueryGraph) (m : Molecule) (map : List ℕ) (n : ℕ) : Type 0 where
  pub none : (whole : List ℕ) → GoesOn q m map whole → slice_index whole (length map) < n → ⊥
