use Rattle.std.proofs.Common.{◌≡◌, length, ap, ◌∙◌, rules}
use Rattle.tool_commands.proofs.Streams.{ReadBack-all, ReadBack-more}
use Rattle.tool_commands.proofs.read_back.read_back.Goals as goal

pub loop-rest-preserved : goal.loop-rest-preserved
loop-rest-preserved g c =
    let inv = c.loop-rest.invariant in
    record {
      unfinished = c.in_ok-take_piece.ensures.open;
      asked = c.in_ok-take_piece.ensures.asked ∙ inv.asked;
      taken = c.in_ok-take_piece.ensures.taken;
      so_far = ReadBack-more c.args.bytes.now c.loop-rest.rest.now c.split_at.result.0.now c.split_at.result.1.now c.min.result c.loop-rest.reader c.take_piece.new.reader
          (g.T.Taker.holds c.loop-rest.taker) (g.T.Taker.holds c.take_piece.new.taker) inv.so_far c.split_at.ensures.front c.split_at.ensures.back c.in_ok-take_piece.ensures.more;
    }

pub returns-clause-read : goal.returns-clause-read
returns-clause-read g c =
    let inv = c.loop-rest.invariant in
    let none : length c.loop-rest.rest.now ≡ 0 = search rules in
    let so_far = ReadBack-all c.args.bytes.now c.loop-rest.rest.now c.loop-rest.reader (g.T.Taker.holds c.loop-rest.taker) inv.so_far none in
    let drained = c.in_ok-drain.ensures.more c.args.bytes.now so_far.0 (c.finish.ensures.read c.args.bytes.now so_far.0 so_far.1) so_far.2 in
    let over = c.in_ok-drain.ensures.finished ∙ ap (λ r. r.finished) c.finish.ensures.finished in
    (drained.0, c.in_ok-drain.ensures.all over c.args.bytes.now drained.0 drained.1, drained.2)
