use Rattle.std.proofs.Common.{◌≡◌, arith}
use Rattle.std.specs.Mem.Slots.{slots_items, slots_len}
use Rattle.board.proofs.Closings.{word_there, one_more, all_copied}
use Rattle.board.proofs.close.block_at.Goals as goal

pub word-requires-in-loop-i : goal.word-requires-in-loop-i
word-requires-in-loop-i c =
    (word_there (slots_items c.args.closed.now.words) c.args.place c.word.result c.words_in-size.result c.loop-i.i (slots_len c.args.closed.now.words) c.word.ensures c.words_in-size.ensures c.loop-i-test.true c.requires.whole, c.requires.full)

pub loop-i-preserved : goal.loop-i-preserved
loop-i-preserved c = one_more (slots_items c.args.closed.now.words) c.args.place c.loop-i.i c.word-in-loop-i.result c.loop-i.words.items c.push.new.self.items c.word-in-loop-i.ensures c.loop-i.invariant c.in_ok-push.ensures.items

pub returns : goal.returns
returns c =
    let end : c.loop-i.i ≡ c.words_in-size.result = omega (arith, c.loop-i.auto.i-end, c.loop-i-test.false) in
    all_copied (slots_items c.args.closed.now.words) c.args.place c.word.result c.words_in-size.result c.loop-i.i c.loop-i.words.items c.word.ensures c.words_in-size.ensures end c.loop-i.invariant
