-- Marks on the bonds of a forest, and the shortcuts over those that are marked.
use Rattle.std.specs.Prelude.{◌≡◌, ◌≢◌, ◌↔◌, ◌⊎◌, ℕ, IsTrue, ◌-◌, ◌<◌, ◌≤◌, List, Bool, true, false, Some, slice_get}
use Rattle.std.specs.Prelude.{slice_index, slice_index_or, slice_set}
use Rattle.htss_defs.specs.declared.graph.Ends.{Ends}
use Rattle.htss_defs.specs.Graph.{Graph, IsRingBond}
use Rattle.ring_bonds.specs.declared.forest.Forest.{Forest}
use Rattle.ring_bonds.specs.declared.marking.Marking.{Marking}
use Rattle.ring_bonds.specs.Forest.{Climbs, above_of, depth_of, IsForest, IsTreeBond}
use Rattle.ring_bonds.specs.Visits.{AreBlankVisits, IsUnseen}

abbrev pub flag_of : List Bool → ℕ → Bool
flag_of flags k = slice_index_or flags k false

-- the bond above x is marked
abbrev pub IsUp : Forest → List Bool → ℕ → Type 0
IsUp f flags x = (0 < above_of f x) × (flag_of flags (above_of f x - 1) ≡ true)

-- the bond above x is marked too
abbrev pub with_mark : Forest → List Bool → ℕ → List Bool
with_mark f flags x = slice_set flags (above_of f x - 1) true

-- from x up to y by marked bonds alone
pub record Leads (f : Forest) (flags : List Bool) (x y : ℕ) : Type 0 where
  pub steps : ℕ
  pub climbs : Climbs (IsUp f flags) f.parent steps x y

-- the bond above x is not marked, if there is one
pub record IsRest (f : Forest) (flags : List Bool) (x : ℕ) : Type 0 where
  pub free : 0 < above_of f x → flag_of flags (above_of f x - 1) ≡ false

pub record IsClimb (f : Forest) (flags : List Bool) (x y : ℕ) : Type 0 where
  pub leads : Leads f flags x y
  pub within : y < 1000
  pub lower : depth_of f y ≤ depth_of f x

-- y is as far up from x as marked bonds lead
pub record IsTop (f : Forest) (flags : List Bool) (x y : ℕ) : Type 0 where
  pub climb : IsClimb f flags x y
  pub rest : IsRest f flags y

-- for each place one further up over marked bonds, or itself where the bond above it is not marked
pub record AreTops (f : Forest) (flags : List Bool) (tops : List ℕ) : Type 0 where
  pub climbs : (x : ℕ) → x < 1000 → IsClimb f flags x (slice_index tops x)
  pub lower : (x : ℕ) → x < 1000 → slice_index tops x ≢ x → depth_of f (slice_index tops x) < depth_of f x
  pub rests : (x : ℕ) → x < 1000 → slice_index tops x ≡ x → IsRest f flags x

-- each mark is on a ring bond
pub record AreSound (g : Graph) (flags : List Bool) : Type 0 where
  pub rings : (k : ℕ) → flag_of flags k ≡ true → IsRingBond g k

-- what is marked stays marked
pub record Grows (before after : List Bool) : Type 0 where
  pub kept : (k : ℕ) → flag_of before k ≡ true → flag_of after k ≡ true

-- marked bonds lead up from both ends of the bond to one place
pub record Meets (f : Forest) (flags : List Bool) (e : Ends) : Type 0 where
  pub top : ℕ
  pub first : Leads f flags e.first top
  pub second : Leads f flags e.second top

-- bond k is marked, and so are those on the ways up from its ends to where they meet
pub record IsClosed (g : Graph) (f : Forest) (flags : List Bool) (k : ℕ) : Type 0 where
  pub marked : flag_of flags k ≡ true
  pub meets : (e : Ends) → slice_get g.bonds k ≡ Some e → Meets f flags e

abbrev pub IsDone : Graph → Forest → List Bool → ℕ → Type 0
IsDone g f flags k = IsTreeBond f k ⊎ IsClosed g f flags k

-- of the first n bonds, each is in the forest or closed
pub record AreDone (g : Graph) (f : Forest) (flags : List Bool) (n : ℕ) : Type 0 where
  pub each : (k : ℕ) → k < n → IsDone g f flags k

-- the forest spans the graph, the shortcuts are right, and all that is marked is in a ring
pub record IsMarking (g : Graph) (m : Marking) : Type 0 where
  pub forest : IsForest g m.visits.forest
  pub tops : AreTops m.visits.forest m.flags m.tops
  pub sound : AreSound g m.flags

-- nothing has been seen, and nothing is marked
pub record IsBlank (m : Marking) : Type 0 where
  pub visits : AreBlankVisits m.visits
  pub tops : (x : ℕ) → x < 1000 → slice_index m.tops x ≡ x
  pub flags : (k : ℕ) → flag_of m.flags k ≡ false

-- the ring bonds are marked and no other, and past the places of the graph all is as it was
pub record IsAllMarked (g : Graph) (m : Marking) : Type 0 where
  pub rings : (k : ℕ) → (IsTrue (flag_of m.flags k) ↔ IsRingBond g k)
  pub places : (x : ℕ) → g.atoms < x → IsUnseen m.visits.forest x
  pub tops : (x : ℕ) → g.atoms < x → x < 1000 → slice_index m.tops x ≡ x
