-- The law of cover.
use Rattle.std.specs.Prelude.{ℕ, ◌≤◌, List, length}
use Rattle.htss_defs.specs.Molecule.{Molecule, IsMolecule}
use Rattle.htss_defs.specs.QueryGraph.{QueryGraph, IsQuery}
use Rattle.htss_defs.specs.Marked.{IsMarked, IsMarkedQuery}
use Rattle.htss_defs.specs.Embedding.{IsEmbedding, place_of}
use Rattle.htss_defs.specs.Codes.{codes_at}
use Rattle.htss_defs.specs.Needs.{need_at, Covers}
use Rattle.htss_defs.specs.Screened.{IsPivot, IsScreened}

-- an embedding of a query in a marked molecule
pub record Embeds (q : QueryGraph) (m : Molecule) (map : List ℕ) : Type 0 where
  pub query : IsQuery q
  pub marked_query : IsMarkedQuery q
  pub molecule : IsMolecule m
  pub marked : IsMarked m
  pub embedding : IsEmbedding q m map

-- where an embedding sends an atom of a query to one of a molecule, the codes of the one cover the need of the other
abbrev pub LawOfCover : Type 0
LawOfCover = (q : QueryGraph) (m : Molecule) (map : List ℕ) (u : ℕ) → Embeds q m map → 1 ≤ u → u ≤ length q.atoms
    → Covers (need_at q u) (codes_at m (place_of map u))

-- so a molecule into which a query embeds has an atom whose codes cover the need of the pivot
abbrev pub LawOfScreening : Type 0
LawOfScreening = (q : QueryGraph) (m : Molecule) (map : List ℕ) (pivot : ℕ) → Embeds q m map → IsPivot q pivot
    → IsScreened q m
