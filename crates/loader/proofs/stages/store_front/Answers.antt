use Rattle.std.proofs.Common.{◌+◌, ◌<◌, ◌≤◌, length, ap, ◌∙◌, arith}
use Rattle.htss_defs.specs.declared.record.NamedMol.{NamedMol}
use Rattle.block_words.specs.Writing.{written}
use Rattle.loader.proofs.Sealing.{may_store, next_word}
use Rattle.loader.proofs.stages.store_front.Goals as goal

pub store_word-requires-in-loop-index-clause-may : goal.store_word-requires-in-loop-index-clause-may
store_word-requires-in-loop-index-clause-may c =
    let room : length c.args.caller.now.account.room.used + c.args.count ≤ c.args.board.now.shape.room = c.requires.room in
    let more : c.loop-index.index < c.args.count = c.loop-index-test.true in
    may_store c.args.board.now c.args.caller.now _ (written c.args.writer.now.name c.args.writer.now.mol) c.loop-index.index c.loop-index.invariant.caller c.requires.loader (omega arith)

pub loop-index-preserved : goal.loop-index-preserved
loop-index-preserved c = record {
  writer = c.word-word-in-loop-index.ensures.same ∙ c.loop-index.invariant.writer;
  caller = next_word c.args.caller.now _ _ (written c.args.writer.now.name c.args.writer.now.mol) c.loop-index.index _ c.loop-index.invariant.caller
      (c.word-word-in-loop-index.ensures.word ∙ ap (λ (w : NamedMol). written w.name w.mol c.loop-index.index) c.loop-index.invariant.writer) c.store_word-in-loop-index.ensures.after;
}
