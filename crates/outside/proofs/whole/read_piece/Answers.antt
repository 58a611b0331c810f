use Rattle.std.proofs.Common.{◌++◌, take, refl, sym, arith}
use Rattle.std.proofs.lemmas.List.{length-append, length-take}
use Rattle.outside.proofs.Reading.{HasFront-more, IsLarge-front}
use Rattle.outside.proofs.whole.read_piece.Goals as goal

pub returns-then-count-offset-clause-large : goal.returns-then-count-offset-clause-large
returns-then-count-offset-clause-large g c = λ _ front long whole.
    let told = g.F.Shelf.told c.args.shelf.now in
    let more = HasFront-more told told c.args.name.now front c.read_at.new.into (front ++ take c.in-Ok.count c.read_at.new.into) c.args.offset c.in-Ok.count refl (sym long) whole c.in-Ok.ensures.bytes refl in
    IsLarge-front told c.args.name.now (front ++ take c.in-Ok.count c.read_at.new.into) more
    (omega (arith, length-append front (take c.in-Ok.count c.read_at.new.into), length-take c.in-Ok.count c.read_at.new.into, c.in-Ok.ensures.bound, long))

pub returns-else-count-offset-clause-goes_on : goal.returns-else-count-offset-clause-goes_on
returns-else-count-offset-clause-goes_on g c = λ front long whole.
    let told = g.F.Shelf.told c.args.shelf.now in
    HasFront-more told told c.args.name.now front c.read_at.new.into (front ++ take c.in-Ok.count c.read_at.new.into) c.args.offset c.in-Ok.count refl (sym long) whole c.in-Ok.ensures.bytes refl
