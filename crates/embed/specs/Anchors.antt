-- The bonds of a query that lead to its next atom.
use Rattle.std.specs.Prelude.{◌≡◌, ◌≢◌, ℕ, ◌+◌, ◌-◌, ◌*◌, ◌/◌, ◌<◌, ◌≤◌, List, length, slice_get, slice_index}
use Rattle.std.specs.Prelude.{slice_index_or, min, max, All, Some, IsTrue}
use Rattle.htss_defs.specs.declared.query.QueryBond.{QueryBond}
use Rattle.htss_defs.specs.Graph.{Graph}
use Rattle.htss_defs.specs.Adjacency.{place_of_end}
use Rattle.htss_defs.specs.Molecule.{Molecule}
use Rattle.htss_defs.specs.QueryGraph.{QueryGraph}
use Rattle.htss_defs.specs.Embedding.{place_of}
use Rattle.embed.specs.declared.anchored.Anchor.{Anchor}
use Rattle.embed.specs.Tests.{bond_keeps}

-- the query has a bond from its next atom to the one that stands at place x
pub record AsksBondTo (q : QueryGraph) (map : List ℕ) (x : ℕ) : Type 0 where
  pub index : ℕ
  pub asked : QueryBond
  pub here : slice_get q.bonds index ≡ Some asked
  pub last : max asked.first asked.second ≡ length map + 1
  pub before : place_of map (min asked.first asked.second) ≡ x

-- the query has no bond from its next atom to one before it
abbrev pub AsksNoBond : QueryGraph → List ℕ → Type 0
AsksNoBond q map = All (λ b. max b.first b.second ≢ length map + 1) q.bonds

-- the link is 0 or names an end at the next atom
pub record IsLinkOfNext (g : Graph) (map : List ℕ) (link : ℕ) : Type 0 where
  pub within : link ≤ 2 * length g.bonds
  pub here : 0 < link → place_of_end g.bonds (link - 1) ≡ length map + 1

-- the query has this bond from its next atom to one before it, and no other by an end from `rest` on
pub record IsAnchor (q : QueryGraph) (g : Graph) (map : List ℕ) (a : Anchor) : Type 0 where
  pub asks : AsksBondTo q map a.place
  pub same : asks.asked ≡ a.asked
  pub rest : IsLinkOfNext g map a.rest
  pub others : (h : ℕ) → a.rest ≤ h → h < 2 * length g.bonds → place_of_end g.bonds h ≡ length map + 1
      → h / 2 ≢ asks.index → (d : QueryBond)
      → max (slice_index_or q.bonds (h / 2) d).first (slice_index_or q.bonds (h / 2) d).second ≢ length map + 1

-- the bonds of the query that have an end at its next atom below this link keep their tests where that stands at p
abbrev pub KeepsBelow : QueryGraph → Graph → Molecule → List ℕ → ℕ → ℕ → Type 0
KeepsBelow q g m map p link =
    (h : ℕ) → h < link → place_of_end g.bonds h ≡ length map + 1
    → (d : QueryBond) → IsTrue (bond_keeps m map p (slice_index_or q.bonds (h / 2) d))

-- the link is that of the first bond on the chain of atom n that joins it to one before it, or there is none and it is
-- 0
pub record IsLead (q : QueryGraph) (g : Graph) (n link : ℕ) : Type 0 where
  pub within : link ≤ 2 * length g.bonds
  pub here : 0 < link → place_of_end g.bonds (link - 1) ≡ n
  pub last : 0 < link → (d : QueryBond)
      → max (slice_index_or q.bonds ((link - 1) / 2) d).first (slice_index_or q.bonds ((link - 1) / 2) d).second ≡ n
  pub none : (h : ℕ) → link ≤ h → h < 2 * length g.bonds → place_of_end g.bonds h ≡ n → (d : QueryBond)
      → max (slice_index_or q.bonds (h / 2) d).first (slice_index_or q.bonds (h / 2) d).second ≢ n

-- such a link for each atom of the query
abbrev pub IsPlan : QueryGraph → Graph → List ℕ → Type 0
IsPlan q g plan = (i : ℕ) → i < length q.atoms → IsLead q g (i + 1) (slice_index plan i)
