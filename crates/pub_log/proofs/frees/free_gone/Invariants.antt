use Rattle.std.proofs.Common.{[], ◌∷◌}
use Rattle.board_core.specs.declared.entry.Entry.TheVariants.{Gone}
use Rattle.pub_log.proofs.frees.free_gone.Given as goal

abbrev pub ghosts-free_with : goal.ghosts-free_with
ghosts-free_with a = record { entries = Gone a._number a._at ∷ [] }
