-- A spanning forest of a graph, in lists by places. Each place that the search has seen is in a
-- tree, which its root names; 0 names none. `above` is one more than the number of the bond to the
-- parent, and 0 at a root.
use Rattle.std.specs.Prelude.{◌≡◌, ℕ, zero, suc, ◌+◌, ◌-◌, ◌<◌, ◌≤◌, List, Some, slice_get, slice_index}
use Rattle.htss_defs.specs.declared.graph.Ends.{Ends}
use Rattle.htss_defs.specs.Graph.{Graph}
use Rattle.htss_defs.specs.Adjacency.{JoinsAt}
use Rattle.ring_bonds.specs.declared.forest.Forest.{Forest}

abbrev pub parent_of : Forest → ℕ → ℕ
parent_of f x = slice_index f.parent x

abbrev pub above_of : Forest → ℕ → ℕ
above_of f x = slice_index f.above x

abbrev pub depth_of : Forest → ℕ → ℕ
depth_of f x = slice_index f.depth x

abbrev pub tree_of : Forest → ℕ → ℕ
tree_of f x = slice_index f.tree x

-- the bond above x joins it and its parent, which is in the same tree and nearer to the root
pub record IsStep (g : Graph) (f : Forest) (x : ℕ) : Type 0 where
  pub joined : JoinsAt g (above_of f x - 1) x (parent_of f x)
  pub lower : depth_of f (parent_of f x) < depth_of f x
  pub tree : tree_of f (parent_of f x) ≡ tree_of f x
  pub seen : 0 < tree_of f x

pub record IsRoot (f : Forest) (x : ℕ) : Type 0 where
  pub tree : tree_of f x ≡ x
  pub depth : depth_of f x ≡ 0

pub record AreTrees (g : Graph) (f : Forest) : Type 0 where
  pub steps : (x : ℕ) → 0 < above_of f x → IsStep g f x
  pub roots : (x : ℕ) → 0 < tree_of f x → above_of f x ≡ 0 → IsRoot f x

-- both ends of the bond are in one tree
pub record IsInTree (f : Forest) (e : Ends) : Type 0 where
  pub seen : 0 < tree_of f e.first
  pub same : tree_of f e.first ≡ tree_of f e.second

pub record IsForest (g : Graph) (f : Forest) : Type 0 where
  pub trees : AreTrees g f
  pub spans : (k : ℕ) (e : Ends) → slice_get g.bonds k ≡ Some e → IsInTree f e

-- bond k of the forest is above some place
pub record IsTreeBond (f : Forest) (k : ℕ) : Type 0 where
  pub place : ℕ
  pub is : above_of f place ≡ k + 1

-- so many steps up from x, each from a place where P holds, come to y
abbrev pub Climbs : (P : ℕ → Type 0) → List ℕ → ℕ → ℕ → ℕ → Type 0
Climbs P parents zero x y = x ≡ y
Climbs P parents (suc n) x y = P x × Climbs P parents n (slice_index parents x) y

abbrev pub HasParent : Forest → ℕ → Type 0
HasParent f x = 0 < above_of f x

-- place y is x or stands on the way from x up to the root
pub record IsOnWay (f : Forest) (y x : ℕ) : Type 0 where
  pub steps : ℕ
  pub climbs : Climbs (HasParent f) f.parent steps x y

-- what climbing needs to know of a place with a parent
pub record IsRise (f : Forest) (x : ℕ) : Type 0 where
  pub within : parent_of f x < 1000
  pub lower : depth_of f (parent_of f x) < depth_of f x
  pub bond : above_of f x ≤ 999
  pub alone : (y : ℕ) → above_of f y ≡ above_of f x → y ≡ x

pub record AreRises (f : Forest) : Type 0 where
  pub rises : (x : ℕ) → 0 < above_of f x → IsRise f x
