use Rattle.std.proofs.Common.{drop, length}
use Rattle.descent.proofs.need.give_noted.Given as goal

abbrev pub ghosts-note_with : goal.ghosts-note_with
ghosts-note_with g a = record { need = a._need.now; front = a.caller.now.account.tree.front; rows = drop (length g.past) (g.S.RowSink.given a._sink.now) }
