use Rattle.std.proofs.Common.{refl}
use Rattle.ring_bonds.proofs.Visits.{get_or-all}
use Rattle.ring_bonds.proofs.forest.Visits.new.Goals as goal

pub returns : goal.returns
returns c = record { seen = refl; places = λ x. record { above = get_or-all 1000 x 0; depth = get_or-all 1000 x 0; tree = get_or-all 1000 x 0 } }
