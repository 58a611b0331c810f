use Rattle.std.proofs.Common.{All, take}
use Rattle.report_text.specs.Typed.{IsTypedLoadLine}
use Rattle.report_text.proofs.typed.are_load_lines.Given as goal

abbrev pub invariant-loop-answer : goal.invariant-loop-answer
invariant-loop-answer l = All IsTypedLoadLine (take l.answer-index l.answers)
