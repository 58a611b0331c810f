use Rattle.std.proofs.Common.{All, take}
use Rattle.report_text.specs.Values.{IsU16}
use Rattle.report_text.proofs.typed.are_places.Given as goal

abbrev pub invariant-loop-place : goal.invariant-loop-place
invariant-loop-place l = All IsU16 (take l.place-index l.places)
