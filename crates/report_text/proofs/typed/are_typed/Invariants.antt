use Rattle.std.proofs.Common.{All, take}
use Rattle.report_text.specs.Typed.{IsTypedBlock}
use Rattle.report_text.proofs.typed.are_typed.Given as goal

abbrev pub invariant-loop-block : goal.invariant-loop-block
invariant-loop-block l = All IsTypedBlock (take l.block-index l.blocks)
