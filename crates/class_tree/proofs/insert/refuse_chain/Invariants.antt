use Rattle.std.proofs.Common.{[], ◌∷◌}
use Rattle.board_core.specs.declared.entry.Entry.TheVariants.{ChainFull}
use Rattle.class_tree.proofs.insert.refuse_chain.Given as goal

abbrev pub ghosts-note_answers : goal.ghosts-note_answers
ghosts-note_answers a = record { entries = ChainFull a.board.now.shape.chain ∷ [] }
