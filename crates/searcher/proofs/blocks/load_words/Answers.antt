use Rattle.std.proofs.Common.{refl, ap, ◌∙◌, arith, length-set}
use Rattle.board.specs.Seated.{Seated}
use Rattle.board_core.proofs.Grown.{head_stays}
use Rattle.searcher.proofs.Read.{reads_same, reads_fact, reads_trans, of_after}
use Rattle.searcher.specs.Records.{IsOfBlock}
use Rattle.searcher.proofs.Once.{loads_fact, loads_next, loads_none}
use Rattle.searcher.proofs.Records.{at_both, at_same, word_read}
use Rattle.searcher.proofs.Turns.{place_none, place_read}
use Rattle.searcher.proofs.Whole.{words_more, words_none}
use Rattle.searcher.proofs.Block.{facts_more, facts_none, others_more}
use Rattle.searcher.proofs.blocks.load_words.Goals as goal

pub loop-index-preserved : goal.loop-index-preserved
loop-index-preserved c =
    let k = c.args.board.now.shape in
    let before = c.loop-index.caller in
    let after = c.load_fact.new.caller in
    let i = c.loop-index.invariant in
    let most = c.requires.most in
    let below = c.loop-index-test.true in
    let past = c.loop-index.auto.index in
    let reads = reads_fact before after _ _ c.load_fact.ensures.after in record {
      of = of_after c.args.board.now before after _ c.load_fact.ensures.after i.of;
      stock = ap (λ (x : Seated). x.stock) c.load_fact.ensures.after ∙ i.stock;
      reads = reads_trans c.args.caller.now.account before.account after.account i.reads reads;
      known = head_stays k before.account after.account reads.grown c.args.block c.args.head i.known;
      may = c.load_fact.ensures.may;
      size = length-set c.loop-index.words c.loop-index.index c.load_fact.result ∙ i.size;
      once = loads_next c.args.caller.now.account before.account after.account c.args.from c.loop-index.index (omega arith) i.once (loads_fact before after _ _ c.load_fact.ensures.after);
      of_block = at_both c.args.caller.now.account before.account after.account (IsOfBlock c.args.block c.args.head) reads.grown i.of_block
          (word_read before after c.args.block c.loop-index.index c.load_fact.result c.args.head c.load_fact.ensures.after (let range = c.requires.range.2 in omega (arith, below, range)));
      places = place_read c.args.caller.now.account before after c.args.block c.args.from c.loop-index.index c.load_fact.result (omega arith) c.load_fact.ensures.after i.places;
      read = words_more c.args.caller.now.account before after c.args.block c.args.from c.loop-index.index c.load_fact.result c.load_fact.ensures.after i.reads.grown reads.grown i.read;
      facts = facts_more k before after c.args.block c.args.from c.loop-index.index c.load_fact.result c.loop-index.words i.size (omega arith) i.facts reads.grown c.load_fact.ensures.after;
      others = others_more c.loop-index.words c.args.words.now c.args.from c.args.until c.loop-index.index c.load_fact.result (omega arith) (omega arith) i.others;
    }

pub loop-index-init : goal.loop-index-init
loop-index-init c =
    let a = c.args.caller.now.account in
    let none = loads_none a in record {
      of = c.requires.fits;
      stock = refl;
      reads = reads_same a;
      known = c.requires.known;
      may = c.requires.may;
      size = c.requires.room;
      once = record { shown_are = none.shown_are; marks_are = none.marks_are; words_are = let same = none.words_are in omega (arith, same); heads_are = none.heads_are };
      of_block = at_same a (IsOfBlock c.args.block c.args.head);
      places = place_none a c.args.block c.args.from;
      read = words_none a a c.args.block c.args.from;
      facts = facts_none a c.args.block c.args.from c.args.words.now;
      others = λ i outside. refl;
    }
