use Rattle.std.proofs.Common.{[], ◌∷◌}
use Rattle.board_core.specs.declared.entry.Entry.TheVariants.{Unknown}
use Rattle.pub_log.proofs.frees.free_unknown.Given as goal

abbrev pub ghosts-free_with : goal.ghosts-free_with
ghosts-free_with a = record { entries = Unknown a._number a.caller.now.account.log.seen ∷ [] }
