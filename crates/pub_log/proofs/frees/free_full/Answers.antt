use Rattle.std.proofs.Common.{[], ◌∷◌}
use Rattle.board_core.specs.declared.entry.Entry.TheVariants.{LogFull}
use Rattle.pub_log.proofs.Reasons.{full_told, full_true}
use Rattle.pub_log.proofs.frees.free_full.Goals as goal

pub free_lock-requires-clause-answers : goal.free_lock-requires-clause-answers
free_lock-requires-clause-answers c = full_true _ _ c.requires.full

pub returns-clause-told : goal.returns-clause-told
returns-clause-told c = full_told c.args.board.now.shape c.args.caller.now c.free_lock.new.caller (LogFull c.args.caller.now.account.log.seen ∷ []) c.free_lock.ensures c.requires.full
