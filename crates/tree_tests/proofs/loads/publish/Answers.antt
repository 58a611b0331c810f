use Rattle.std.proofs.Common.{refl}
use Rattle.tree_tests.proofs.Callers.{loads_with, either_way}
use Rattle.tree_tests.proofs.loads.publish.Goals as goal

pub returns-clause-loader : goal.returns-clause-loader
returns-clause-loader g c = either_way c.publish.result _ _ c.publish.ensures.ok c.publish.ensures.full
    (λ n told. loads_with c.lock_with-locked.new.caller c.publish.new.caller _ told.2 refl refl c.lock_with-locked.ensures.loader)
    (λ e told. loads_with c.lock_with-locked.new.caller c.publish.new.caller _ told.3 refl refl c.lock_with-locked.ensures.loader)
