use Rattle.std.proofs.Common.{[], ◌∷◌}
use Rattle.board_core.specs.declared.entry.Entry.TheVariants.{Answered}
use Rattle.board_core.specs.declared.entry.Reply.TheVariants.{OverBudget}
use Rattle.searcher.proofs.at_front.note_over.Given as goal

abbrev pub ghosts-note_with : goal.ghosts-note_with
ghosts-note_with a = record { entries = Answered a._query.now a._budget a._front OverBudget ∷ [] }
