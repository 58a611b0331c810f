use Rattle.std.proofs.Common.{ℕ, Bool, false, refl, arith}
use Rattle.env_code.specs.Walks.{seen_at}
use Rattle.env_code.proofs.Words.{get_or-all}
use Rattle.env_code.proofs.walk.Walk.clear.Goals as goal

pub returns : goal.returns
unfolding seen_at
returns c = record { sized = record { seen = refl; queue = omega arith }; found = refl; seen = λ y. get_or-all {X = Bool} 1000 y false; counts = λ i. get_or-all {X = ℕ} 8 i 0 }
