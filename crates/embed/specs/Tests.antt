-- The tests of one more place as functions into Bool, and what an embedding passes.
use Rattle.std.specs.Prelude.{◌≡◌, ◌≢◌, ℕ, ◌+◌, List, [], ◌∷◌, ◌++◌, length, slice_get, max, All, AllPairs, EachIndex}
use Rattle.std.specs.Prelude.{Bool, not, ◌&&◌, ◌||◌, ◌==◌, IsTrue}
use Rattle.std.specs.List.{list_any, list_all}
use Rattle.htss_defs.specs.declared.query.QueryBond.{QueryBond}
use Rattle.htss_defs.specs.Molecule.{Molecule}
use Rattle.htss_defs.specs.QueryGraph.{QueryGraph}
use Rattle.htss_defs.specs.Embedding.{place_of}
use Rattle.htss_defs.specs.Cost.{at_place, passes, bond_lands, atom_lands}

-- a bond of the query from its next atom to one before keeps its test, where the next atom stands at p
abbrev pub bond_keeps : Molecule → List ℕ → ℕ → QueryBond → Bool
bond_keeps m map p b =
    not (max b.first b.second == length map + 1)
    || bond_lands m b (place_of (map ++ p ∷ []) b.first) (place_of (map ++ p ∷ []) b.second)

abbrev pub bonds_keep : QueryGraph → Molecule → List ℕ → ℕ → Bool
bonds_keep q m map p = list_all (bond_keeps m map p) q.bonds

-- the next atom of the query may stand at p, where the atoms before it stand as map says
abbrev pub may_extend : QueryGraph → Molecule → List ℕ → ℕ → Bool
may_extend q m map p =
    passes (slice_get q.atoms (length map)) (at_place m.atoms p)
    && not (list_any (λ x. x == p) map)
    && bonds_keep q m map p

-- a place for each atom of the query, no place twice, and all tests hold
pub record PassesAll (q : QueryGraph) (m : Molecule) (map : List ℕ) : Type 0 where
  pub one_each : length map ≡ length q.atoms
  pub apart : AllPairs (λ x y. x ≢ y) map
  pub atoms : EachIndex map (λ i. IsTrue (atom_lands q m map i))
  pub bonds : All (λ b. IsTrue (bond_lands m b (place_of map b.first) (place_of map b.second))) q.bonds
