-- The search in breadth that finds a forest: the places seen so far stand in a queue.
use Rattle.std.specs.Prelude.{◌≡◌, ◌⊎◌, ℕ, zero, suc, ◌+◌, ◌-◌, ◌<◌, ◌≤◌, List, [], ◌∷◌, Some, slice_get, slice_index}
use Rattle.std.specs.Prelude.{slice_set}
use Rattle.htss_defs.specs.declared.graph.Ends.{Ends}
use Rattle.htss_defs.specs.Graph.{Graph}
use Rattle.htss_defs.specs.Adjacency.{JoinsAt}
use Rattle.ring_bonds.specs.declared.forest.Forest.{Forest}
use Rattle.ring_bonds.specs.declared.forest.Found.{Found}
use Rattle.ring_bonds.specs.declared.forest.Visits.{Visits}
use Rattle.ring_bonds.specs.Forest.{above_of, depth_of, tree_of, AreTrees, IsInTree}

-- how many are not 0
unfoldable pub count_seen : List ℕ → ℕ
count_seen [] = 0
count_seen (zero ∷ trees) = count_seen trees
count_seen (suc _ ∷ trees) = count_seen trees + 1

abbrev pub with_place : Forest → ℕ → Found → Forest
with_place f place found = record {
  parent = slice_set f.parent place found.parent;
  above = slice_set f.above place found.above;
  depth = slice_set f.depth place found.depth;
  tree = slice_set f.tree place found.tree;
}

-- the search has not been at the place
pub record IsUnseen (f : Forest) (x : ℕ) : Type 0 where
  pub above : above_of f x ≡ 0
  pub depth : depth_of f x ≡ 0
  pub tree : tree_of f x ≡ 0

-- nothing has been seen
pub record AreBlankVisits (v : Visits) : Type 0 where
  pub seen : v.seen ≡ 0
  pub places : (x : ℕ) → IsUnseen v.forest x

-- one more place at the end of the queue
abbrev pub with_visit : Visits → ℕ → Found → Visits
with_visit v place found = record {
  forest = with_place v.forest place found;
  queue = slice_set v.queue v.seen place;
  seen = v.seen + 1;
}

-- the bond has an end at the place
pub record HasEndAt (g : Graph) (k x : ℕ) : Type 0 where
  pub ends : Ends
  pub here : slice_get g.bonds k ≡ Some ends
  pub at : (ends.first ≡ x) ⊎ (ends.second ≡ x)

-- the bond has both its ends in one tree
pub record IsSettled (g : Graph) (f : Forest) (k : ℕ) : Type 0 where
  pub tree : (e : Ends) → slice_get g.bonds k ≡ Some e → IsInTree f e

-- each bond at the place is in one tree
pub record IsExplored (g : Graph) (f : Forest) (x : ℕ) : Type 0 where
  pub bonds : (k : ℕ) (e : Ends) → slice_get g.bonds k ≡ Some e → (e.first ≡ x) ⊎ (e.second ≡ x) → IsInTree f e

pub record IsQueued (g : Graph) (f : Forest) (x : ℕ) : Type 0 where
  pub seen : 0 < tree_of f x
  pub within : x ≤ g.atoms

-- where place x stands in the queue
pub record StandsAt (v : Visits) (x : ℕ) : Type 0 where
  pub index : ℕ
  pub within : index < v.seen
  pub is : slice_index v.queue index ≡ x

-- the places in front of `head` are explored, the others are all in the tree of `root`
pub record AreVisits (g : Graph) (v : Visits) (head root : ℕ) : Type 0 where
  pub trees : AreTrees g v.forest
  pub few : v.seen ≤ 1000
  pub counted : count_seen v.forest.tree ≡ v.seen
  pub shallow : (x : ℕ) → depth_of v.forest x ≤ v.seen
  pub unseen : (x : ℕ) → tree_of v.forest x ≡ 0 → depth_of v.forest x ≡ 0
  pub queued : (i : ℕ) → i < v.seen → IsQueued g v.forest (slice_index v.queue i)
  pub stands : (x : ℕ) → 0 < tree_of v.forest x → StandsAt v x
  pub explored : (i : ℕ) → i < head → IsExplored g v.forest (slice_index v.queue i)
  pub fresh : (i : ℕ) → head ≤ i → i < v.seen → tree_of v.forest (slice_index v.queue i) ≡ root

-- all that is seen is explored
abbrev pub AreDoneVisits : Graph → Visits → Type 0
AreDoneVisits g v = AreVisits g v v.seen 0

-- later in the same search
pub record IsLater (v w : Visits) : Type 0 where
  pub more : v.seen ≤ w.seen
  pub trees : (x : ℕ) → 0 < tree_of v.forest x → tree_of w.forest x ≡ tree_of v.forest x
  pub queue : (i : ℕ) → i < v.seen → slice_index w.queue i ≡ slice_index v.queue i

-- a root, or a place that a bond joins to one of the root's tree
pub record IsFirstFound (x root : ℕ) (found : Found) : Type 0 where
  pub place : x ≡ root
  pub above : found.above ≡ 0
  pub depth : found.depth ≡ 0

pub record IsNextFound (g : Graph) (v : Visits) (x root : ℕ) (found : Found) : Type 0 where
  pub above : 0 < found.above
  pub joined : JoinsAt g (found.above - 1) x found.parent
  pub parent : tree_of v.forest found.parent ≡ root
  pub depth : found.depth ≡ depth_of v.forest found.parent + 1
