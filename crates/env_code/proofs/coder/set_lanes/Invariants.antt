use Rattle.htss_defs.specs.Codes.{counts_in}
use Rattle.env_code.proofs.Lanes.{AreRows}
use Rattle.env_code.proofs.coder.set_lanes.Given as goal

abbrev pub invariant-loop-index : goal.invariant-loop-index
invariant-loop-index l = AreRows (counts_in l.mol) l.index l.lanes
