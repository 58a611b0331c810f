use Rattle.std.proofs.Common.{◌-◌, sym, ap, ◌∙◌, subst}
use Rattle.htss_defs.specs.declared.record.NamedMol.{NamedMol}
use Rattle.block_words.specs.Writing.{size_of, written}
use Rattle.block_words.proofs.Places.{size_least}
use Rattle.board.specs.Seated.{Seated}
use Rattle.board.specs.Staging.{IsWritten}
use Rattle.loader.specs.Stages.{staging}
use Rattle.loader.proofs.Sealing.{may_store, seal_asked, last_word, in_table, is_written, one_less}
use Rattle.loader.proofs.stages.store_block.Goals as goal

pub seal_block-requires-clause-may : goal.seal_block-requires-clause-may
seal_block-requires-clause-may c =
    may_store c.args.board.now c.args.caller.now _ (written c.args.writer.now.name c.args.writer.now.mol) (c.size-size.result - 1) c.store_front.ensures.after c.requires.loader
    (one_less _ _ _ _ c.size-size.ensures.value c.size-size.ensures.least c.requires.room).1

pub seal_block-requires-clause-seals : goal.seal_block-requires-clause-seals
seal_block-requires-clause-seals c =
    seal_asked c.args.board.now.shape c.args.caller.now _ c.args.writer.now.name c.args.writer.now.mol (c.size-size.result - 1) _ _ _ c.store_front.ensures.after
    (c.word-last.ensures.word ∙ ap (λ (w : NamedMol). written w.name w.mol (c.size-size.result - 1)) c.store_front.ensures.same)
    c.next_place-place.ensures.value c.size-size.ensures.value (one_less _ _ _ _ c.size-size.ensures.value c.size-size.ensures.least c.requires.room).0
    c.size-size.ensures.name c.size-size.ensures.molecule c.size-size.ensures.marked c.store_front.ensures.room

pub returns-clause-after : goal.returns-clause-after
returns-clause-after c =
    last_word c.args.board.now.shape c.args.caller.now _ _ c.args.writer.now.name c.args.writer.now.mol (c.size-size.result - 1) _ _ _ c.store_front.ensures.after
    (c.word-last.ensures.word ∙ ap (λ (w : NamedMol). written w.name w.mol (c.size-size.result - 1)) c.store_front.ensures.same)
    c.next_place-place.ensures.value c.size-size.ensures.value (one_less _ _ _ _ c.size-size.ensures.value c.size-size.ensures.least c.requires.room).0 c.seal_block.ensures

pub returns-clause-written : goal.returns-clause-written
returns-clause-written c =
    subst (λ (x : Seated). IsWritten c.args.board.now.shape x.account (staging c.args.board.now.shape c.args.caller.now.account c.args.writer.now.name c.args.writer.now.mol)) (sym (returns-clause-after c))
    (is_written c.args.board.now.shape c.args.caller.now.account c.args.writer.now.name c.args.writer.now.mol c.size-size.ensures.name c.size-size.ensures.molecule c.size-size.ensures.marked c.store_front.ensures.room
    (in_table c.args.board.now.shape c.args.caller.now.account (size_of c.args.writer.now.name c.args.writer.now.mol) c.next_place-place.ensures.inside c.requires.room (size_least c.args.writer.now.name c.args.writer.now.mol)))
