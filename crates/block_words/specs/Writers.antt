-- What a writer keeps of a name and a molecule.
use Rattle.std.specs.Prelude.{◌≡◌, ℕ, ◌≤◌, List, length}
use Rattle.htss_defs.specs.Name.{IsName}
use Rattle.htss_defs.specs.Molecule.{Molecule}
use Rattle.htss_defs.specs.Marked.{IsMarked}
use Rattle.htss_defs.specs.Codes.{codes_at}
use Rattle.env_code.specs.declared.coder.Coder.{Coder}
use Rattle.env_code.specs.Coders.{IsCoder}
use Rattle.block_words.specs.declared.writer.AtomCodes.{AtomCodes}

-- the codes of an atom of the molecule
pub record AreCodesOf (mol : Molecule) (held : AtomCodes) : Type 0 where
  pub some : 1 ≤ held.atom
  pub within : held.atom ≤ length mol.atoms
  pub are : held.codes ≡ codes_at mol held.atom

pub record IsWriter (bytes : List ℕ) (mol : Molecule) (coder : Coder) (held : AtomCodes) : Type 0 where
  pub name : IsName bytes
  pub marked : IsMarked mol
  pub loaded : IsCoder mol coder
  pub codes : AreCodesOf mol held
