use Rattle.std.proofs.Common.{All, take}
use Rattle.report_text.specs.Typed.{IsTypedHit}
use Rattle.report_text.proofs.typed.are_hits.Given as goal

abbrev pub invariant-loop-hit : goal.invariant-loop-hit
invariant-loop-hit l = All IsTypedHit (take l.hit-index l.hits)
