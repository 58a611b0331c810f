use Rattle.std.proofs.Common.{◌+◌, refl, inl, inr, arith}
use Rattle.page_pool.proofs.scans.try_next.Goals as goal

pub returns-then-first-lt-LAST_EPOCH : goal.returns-then-first-lt-LAST_EPOCH
returns-then-first-lt-LAST_EPOCH c = let below = c.if-first-lt-LAST_EPOCH.true in record { risen = c.args.first + 1; come = inl (omega arith, refl); after = c.advance_epoch.ensures }

pub returns-else-first-lt-LAST_EPOCH : goal.returns-else-first-lt-LAST_EPOCH
returns-else-first-lt-LAST_EPOCH c = let past = c.if-first-lt-LAST_EPOCH.false in let most = c.requires.most in record { risen = c.args.caller.now.account.pool.risen; come = inr (omega arith, refl); after = refl }
