-- Chains of the ends of bonds: end 2 k is the first end of bond k, end 2 k + 1 its second.
-- A link names an end by one more than its number; 0 names none.
use Rattle.std.specs.Prelude.{◌≡◌, ◌≢◌, ℕ, ◌*◌, ◌-◌, ◌/◌, ◌%◌, ◌<◌, ◌≤◌, ◌==◌, List, [], ◌∷◌, ◌++◌, All, Some, length}
use Rattle.std.specs.Prelude.{slice_get, slice_index, slice_index_or, if◌then◌else◌, IsTrue}
use Rattle.htss_defs.specs.declared.graph.Ends.{Ends}
use Rattle.htss_defs.specs.Graph.{Graph, AreEnds, joins}

-- at most 999 atoms and 999 bonds between them
pub record IsGraph (g : Graph) : Type 0 where
  pub atoms : g.atoms ≤ 999
  pub bonds : length g.bonds ≤ 999
  pub each_bond : All (AreEnds g.atoms) g.bonds

-- one more bond, after the others
abbrev pub with_bond : Graph → Ends → Graph
with_bond g e = record { atoms = g.atoms; bonds = g.bonds ++ e ∷ [] }

-- bond k joins the two places
pub record JoinsAt (g : Graph) (k x y : ℕ) : Type 0 where
  pub ends : Ends
  pub here : slice_get g.bonds k ≡ Some ends
  pub joined : IsTrue (joins ends x y)

abbrev pub no_ends : Ends
no_ends = record { first = 0; second = 0 }

abbrev pub bond_of_end : List Ends → ℕ → Ends
bond_of_end bonds h = slice_index_or bonds (h / 2) no_ends

-- the place of end h
unfoldable pub place_of_end : List Ends → ℕ → ℕ
place_of_end bonds h = if h % 2 == 0 then (bond_of_end bonds h).first else (bond_of_end bonds h).second

-- the link names the last of the first n ends that is at place x, or none is there and it is 0
pub record IsLastLink (bonds : List Ends) (x n link : ℕ) : Type 0 where
  pub within : link ≤ n
  pub here : 0 < link → place_of_end bonds (link - 1) ≡ x
  pub none : (h : ℕ) → link ≤ h → h < n → place_of_end bonds h ≢ x

-- the last link before this one that names an end at the same place
abbrev pub IsLinkBefore : List Ends → ℕ → ℕ → Type 0
IsLinkBefore bonds link before = IsLastLink bonds (place_of_end bonds (link - 1)) (link - 1) before

-- of the first n ends: the last link at each place, and before each end the last one at its place
pub record AreChains (atoms : ℕ) (bonds : List Ends) (n : ℕ) (last before : List ℕ) : Type 0 where
  pub lasts : (x : ℕ) → x ≤ atoms → IsLastLink bonds x n (slice_index last x)
  pub befores : (h : ℕ) → h < n → IsLastLink bonds (place_of_end bonds h) h (slice_index before h)

-- the chains of a graph
pub record IsAdjacency (atoms : ℕ) (bonds : List Ends) (last before : List ℕ) : Type 0 where
  pub graph : IsGraph (record { atoms = atoms; bonds = bonds })
  pub chains : AreChains atoms bonds (2 * length bonds) last before
