-- Graphs of atoms: the atoms are the places 1 to n, a bond joins two of them.
-- (CTfile Formats, "The Ctab Block": a connection table is a list of atoms and a list of bonds between their numbers.)
use Rattle.std.specs.Prelude.{◌≡◌, ◌≢◌, ℕ, zero, suc, ◌≤◌, List, Some, slice_get, Bool, false, IsTrue, ◌==◌, ◌&&◌, ◌||◌}
use Rattle.htss_defs.specs.declared.graph.Ends.{Ends}

pub record Graph : Type 0 where
  pub atoms : ℕ
  pub bonds : List Ends

-- two different places among n atoms
pub record AreEnds (n : ℕ) (e : Ends) : Type 0 where
  pub first : (1 ≤ e.first) × (e.first ≤ n)
  pub second : (1 ≤ e.second) × (e.second ≤ n)
  pub differ : e.first ≢ e.second

-- these are the two places, in either order
abbrev pub joins : Ends → ℕ → ℕ → Bool
joins e x y = (e.first == x && e.second == y) || (e.first == y && e.second == x)

-- the later bond joins another pair of places than the earlier one
abbrev pub AreApart : Ends → Ends → Type 0
AreApart earlier later = joins earlier later.first later.second ≡ false

-- a walk of n bonds from x to y that does not use bond k
abbrev pub WalksWithout : Graph → ℕ → ℕ → ℕ → ℕ → Type 0
WalksWithout g k x y zero = x ≡ y
WalksWithout g k x y (suc n) =
    (z : ℕ) × WalksWithout g k x z n × (j : ℕ) × (e : Ends) × (j ≢ k) × (slice_get g.bonds j ≡ Some e)
    × IsTrue (joins e z y)

-- bond k (counted from 0) is in a ring: its ends are joined by a walk of other bonds
pub record IsRingBond (g : Graph) (k : ℕ) : Type 0 where
  pub ends : Ends
  pub bond : slice_get g.bonds k ≡ Some ends
  pub bonds : ℕ
  pub walk : WalksWithout g k ends.first ends.second bonds
