use Rattle.report_lines.proofs.Maps.{IsReadTo}
use Rattle.report_lines.proofs.values.places_of.Given as goal

abbrev pub invariant-loop : goal.invariant-loop
invariant-loop l = IsReadTo l.word l.left l.places.items l.counter
