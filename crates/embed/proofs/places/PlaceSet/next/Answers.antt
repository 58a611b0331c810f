use Rattle.std.proofs.Common.{◌/◌, ◌<◌, slice_index_or, arith, rules}
use Rattle.std.specs.Prelude.{◌^◌}
use Rattle.embed.proofs.Sets.{none-in_word, IsNextBit-at}
use Rattle.embed.proofs.places.PlaceSet.next.Goals as goal

pub returns-then-rest-ne0-clause-some : goal.returns-then-rest-ne0-clause-some
returns-then-rest-ne0-clause-some c =
    let fits : slice_index_or c.args.self.now.words (c.loop-from.from / 64) 0 < 2 ^ 64 = search rules in
    IsNextBit-at c.args.self.now.words c.args.after c.loop-from.from c.loop-from.invariant.none
    c.loop-from.invariant.above fits (omega arith)

pub loop-from-preserved : goal.loop-from-preserved
loop-from-preserved c = record {
  above = omega (arith, c.loop-from.invariant.above);
  none = none-in_word c.args.self.now.words c.args.after c.loop-from.from c.loop-from.invariant.none (omega arith);
}
