-- The hits of a query in a history (this project's own).
use Rattle.std.specs.Prelude.{ℕ, List, map, All, Contains}
use Rattle.std.specs.List.Sorted.{IsStrictlyIncreasing}
use Rattle.htss_defs.specs.declared.history.Event.{Event}
use Rattle.htss_defs.specs.declared.history.Hit.{Hit}
use Rattle.htss_defs.specs.Molecule.{Molecule}
use Rattle.htss_defs.specs.QueryGraph.{QueryGraph}
use Rattle.htss_defs.specs.Embedding.{IsEmbedding, IsLeastEmbedding}
use Rattle.htss_defs.specs.History.{IsLive}

-- a live record, by its number and name, with the least embedding of the query in its molecule
pub record IsHit (q : QueryGraph) (history : List Event) (hit : Hit) : Type 0 where
  pub mol : Molecule
  pub live : IsLive history hit.number hit.name mol
  pub least : IsLeastEmbedding q mol hit.map

abbrev pub numbers : List Hit → List ℕ
numbers hits = map (λ hit. hit.number) hits

-- exactly the live records into whose molecules the query embeds, by rising number
pub record AreHits (q : QueryGraph) (history : List Event) (hits : List Hit) : Type 0 where
  pub rising : IsStrictlyIncreasing (numbers hits)
  pub each : All (IsHit q history) hits
  pub all : (number : ℕ) (name : List ℕ) (mol : Molecule) (map : List ℕ) → IsLive history number name mol
      → IsEmbedding q mol map → Contains (numbers hits) number
