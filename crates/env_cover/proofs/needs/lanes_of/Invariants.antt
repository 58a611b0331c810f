use Rattle.htss_defs.specs.Needs.{surely_in}
use Rattle.env_code.proofs.Lanes.{AreRows}
use Rattle.env_cover.proofs.needs.lanes_of.Given as goal

abbrev pub invariant-loop-index : goal.invariant-loop-index
invariant-loop-index l = AreRows (surely_in l.query) l.index l.lanes
