use Rattle.std.proofs.Common.{arith}
use Rattle.report_lines.proofs.Maps.{too_many}
use Rattle.report_lines.proofs.values.places_of.Goals as goal

pub returns : goal.returns
returns c = too_many c.args.word.now c.loop.left.now c.loop.places.items c.loop.counter c.loop.invariant (omega (arith, c.loop-test.false))
