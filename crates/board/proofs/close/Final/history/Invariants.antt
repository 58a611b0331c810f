use Rattle.std.proofs.Common.{◌≡◌, take}
use Rattle.board.proofs.close.Final.history.Given as goal

abbrev pub invariant-loop-i : goal.invariant-loop-i
invariant-loop-i l = l.events.items ≡ take l.i l.self.history
