use Rattle.std.proofs.Common.{◌^◌, ◌<◌, refl, arith}
use Rattle.pub_log.proofs.Additions.{may_log_withdrawal}
use Rattle.pub_log.proofs.appends.append_withdrawal.Goals as goal

pub store_log_word-requires-clause-may : goal.store_log_word-requires-clause-may
store_log_word-requires-clause-may c = let few : c.number-loader.result < 2 ^ 8 = omega arith in may_log_withdrawal _ _ _ _ c.number-loader.result _ c.store_ended.ensures c.requires.may.may c.requires.loader c.number-loader.ensures few (omega arith) refl
