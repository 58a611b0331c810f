-- What a coder keeps of a molecule.
use Rattle.std.specs.Prelude.{◌≡◌, length}
use Rattle.htss_defs.specs.Molecule.{Molecule, IsMolecule, molecule_graph}
use Rattle.htss_defs.specs.Codes.{counts_in}
use Rattle.env_code.specs.declared.coder.Coder.{Coder}
use Rattle.env_code.specs.BondCounts.{AreBondCounts}
use Rattle.env_code.specs.Near.{HasLanes}

-- the coder is that of the molecule
pub record IsCoder (m : Molecule) (c : Coder) : Type 0 where
  pub molecule : IsMolecule m
  pub graph : c.bonds ≡ molecule_graph m
  pub counted : AreBondCounts m.bonds c.counts
  pub lanes : HasLanes (counts_in m) (length m.atoms) c.lanes
