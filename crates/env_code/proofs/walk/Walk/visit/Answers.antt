use Rattle.std.proofs.Common.{refl}
use Rattle.env_code.specs.Near.{is_in}
use Rattle.env_code.proofs.walk.Walk.visit.Goals as goal

pub returns : goal.returns
unfolding is_in
returns c = record { seen = refl; queue = refl; found = refl; counts = c.tally.ensures.at }
