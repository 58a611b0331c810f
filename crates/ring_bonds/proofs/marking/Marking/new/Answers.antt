use Rattle.std.proofs.Common.{Bool, false, arith}
use Rattle.ring_bonds.proofs.Visits.{get_or-all}
use Rattle.ring_bonds.proofs.marking.Marking.new.Goals as goal

pub returns : goal.returns
returns c = record {
  visits = c.new.ensures;
  tops = λ x within. c.own_tops.ensures x within (λ past. absurd (omega arith));
  flags = λ k. get_or-all {X = Bool} 999 k false;
}
