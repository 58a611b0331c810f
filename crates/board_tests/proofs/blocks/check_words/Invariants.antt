use Rattle.std.proofs.Common.{◌≡◌}
use Rattle.board_tests.proofs.blocks.check_words.Given as goal

abbrev pub invariant-loop-place : goal.invariant-loop-place
invariant-loop-place g l = l.writer ≡ l.fn.writer
