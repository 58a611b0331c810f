use Rattle.env_code.proofs.Tallies.{HasCounts-none}
use Rattle.env_code.proofs.bond_counts.BondCounts.clear.Goals as goal

pub returns : goal.returns
returns c = record { degree = HasCounts-none _ 0; double = HasCounts-none _ 0; triple = HasCounts-none _ 0; aromatic = HasCounts-none _ 0; ring = HasCounts-none _ 0 }
