-- Which molecules are screened by the codes of their atoms.
use Rattle.std.specs.Prelude.{◌≡◌, ℕ, ◌≤◌, length}
use Rattle.htss_defs.specs.declared.needs.Need.{Need}
use Rattle.htss_defs.specs.Molecule.{Molecule, IsMolecule}
use Rattle.htss_defs.specs.QueryGraph.{QueryGraph}
use Rattle.htss_defs.specs.Marked.{IsMarked}
use Rattle.htss_defs.specs.Embedding.{NoEmbedding}
use Rattle.htss_defs.specs.Codes.{codes_at}
use Rattle.htss_defs.specs.Needs.{need_at, Covers}
use Rattle.htss_defs.specs.Screened.{IsPivot, IsScreened}

-- some atom of the molecule covers the need
pub record HasCover (need : Need) (m : Molecule) : Type 0 where
  pub place : ℕ
  pub within : (1 ≤ place) × (place ≤ length m.atoms)
  pub covers : Covers need (codes_at m place)

-- the need is that of the pivot of the query, and a molecule that is not screened by it has no embedding
pub record Screens (query : QueryGraph) (pivot : ℕ) (need : Need) : Type 0 where
  pub is_pivot : IsPivot query pivot
  pub need_is : need ≡ need_at query pivot
  pub none : (m : Molecule) → IsMolecule m → IsMarked m → (IsScreened query m → ⊥) → NoEmbedding query m
