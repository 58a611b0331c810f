use Rattle.std.proofs.Common.{[], ◌∷◌}
use Rattle.board_core.specs.declared.entry.Entry.TheVariants.{LogFull}
use Rattle.pub_log.proofs.frees.free_full.Given as goal

abbrev pub ghosts-free_lock : goal.ghosts-free_lock
ghosts-free_lock a = record { entries = LogFull a.caller.now.account.log.seen ∷ [] }
