use Rattle.std.proofs.Common.{arith}
use Rattle.ctfile.proofs.Looked.{IsLooked-nil}
use Rattle.ctfile.proofs.cut.Pending.new.Goals as goal

pub invariant_of-result : goal.invariant_of-result
invariant_of-result c = (omega arith, IsLooked-nil _)
