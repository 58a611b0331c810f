use Rattle.std.proofs.Common.{arith}
use Rattle.env_code.proofs.Tallies.{own-is}
use Rattle.env_code.proofs.bond_counts.BondCounts.word.Goals as goal

pub returns : goal.returns
returns c bonds counted = own-is bonds c.args.self.now c.args.place c.args.lowest _ counted c.requires (omega arith) (c.from_le_bytes.ensures)
