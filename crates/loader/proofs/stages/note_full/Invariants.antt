use Rattle.std.proofs.Common.{[], ◌∷◌}
use Rattle.board_core.specs.declared.entry.Entry.TheVariants.{DataFull}
use Rattle.loader.proofs.stages.note_full.Given as goal

abbrev pub ghosts-note_with : goal.ghosts-note_with
ghosts-note_with a = record { entries = DataFull a._left a._need ∷ [] }
