-- A search of the molecules that are screened loses no hit (this project's own).
use Rattle.htss_defs.specs.Molecule.{Molecule, IsMolecule}
use Rattle.htss_defs.specs.QueryGraph.{QueryGraph}
use Rattle.htss_defs.specs.Marked.{IsMarked}
use Rattle.htss_defs.specs.Embedding.{NoEmbedding}
use Rattle.htss_defs.specs.Screened.{IsScreened}

-- a marked molecule that is not screened has no embedding
pub record LosesNone (q : QueryGraph) : Type 0 where
  pub none : (m : Molecule) → IsMolecule m → IsMarked m → (IsScreened q m → ⊥) → NoEmbedding q m
