-- What a block has to show: a name, and a marked molecule with the five codes of each of its atoms.
use Rattle.std.specs.Prelude.{◌≡◌, ℕ, ◌+◌, ◌*◌, ◌<◌}
use Rattle.htss_defs.specs.Name.{IsName}
use Rattle.htss_defs.specs.Molecule.{IsMolecule}
use Rattle.htss_defs.specs.Marked.{IsMarked}
use Rattle.htss_defs.specs.Codes.{code_at}
use Rattle.board_core.specs.Blocks.{atoms_in, code_words_at, name_in, molecule_in}

-- the place of a code word in its block: atoms and codes count from 0
abbrev pub code_word_at : ℕ → ℕ → ℕ → ℕ
code_word_at head atom code = code_words_at head + (5 * atom + code)

-- what is read of it: the name and the marked molecule
pub record ShowsRecord (block : ℕ → ℕ) : Type 0 where
  pub name : IsName (name_in block)
  pub molecule : IsMolecule (molecule_in block)
  pub marked : IsMarked (molecule_in block)

pub record IsRecord (block : ℕ → ℕ) : Type 0 where
  pub name : IsName (name_in block)
  pub molecule : IsMolecule (molecule_in block)
  pub marked : IsMarked (molecule_in block)
  pub codes : (atom code : ℕ) → atom < atoms_in (block 0) → code < 5 → block (code_word_at (block 0) atom code)
      ≡ code_at (molecule_in block) code (atom + 1)
