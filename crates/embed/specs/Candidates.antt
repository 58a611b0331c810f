-- Which places are tried for the next atom of a query.
use Rattle.std.specs.Prelude.{◌≡◌, ℕ, ◌<◌, ◌≤◌, List, length, Option, Some, None, false, IsTrue}
use Rattle.htss_defs.specs.Molecule.{Molecule}
use Rattle.htss_defs.specs.QueryGraph.{QueryGraph}
use Rattle.embed.specs.Anchors.{AsksNoBond}
use Rattle.embed.specs.Places.{place_bit}
use Rattle.embed.specs.Tests.{may_extend}

-- the set has the places where the next atom may stand, and no others; none is after the last
pub record AreFitting (q : QueryGraph) (m : Molecule) (map words : List ℕ) (last : ℕ) : Type 0 where
  pub fits : (p : ℕ) → place_bit words p ≡ 1 → IsTrue (may_extend q m map p)
  pub all : (p : ℕ) → place_bit words p ≡ 0 → may_extend q m map p ≡ false
  pub top : (p : ℕ) → last < p → place_bit words p ≡ 0
  pub small : last < 1024

-- the set has the places to choose from, or the next atom has no bond to one before it
abbrev pub IsChoice : QueryGraph → Molecule → List ℕ → Option ℕ → List ℕ → Type 0
IsChoice q m map (Some last) words = AreFitting q m map words last
IsChoice q m map None words = AsksNoBond q map

-- the next place where the next atom may stand
pub record IsNextPlace (q : QueryGraph) (m : Molecule) (map : List ℕ) (after next : ℕ) : Type 0 where
  pub above : after < next
  pub may : IsTrue (may_extend q m map next)
  pub between : (p : ℕ) → after < p → p < next → may_extend q m map p ≡ false

-- the next atom may stand at no later place of the molecule
abbrev pub IsLastPlace : QueryGraph → Molecule → List ℕ → ℕ → Type 0
IsLastPlace q m map after = (p : ℕ) → after < p → p ≤ length m.atoms → may_extend q m map p ≡ false
