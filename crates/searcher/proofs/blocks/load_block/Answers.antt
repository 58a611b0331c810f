use Rattle.std.proofs.Common.{inl, ◌∙◌, arith}
use lib.Seq.{get_or-set_same}
use Rattle.board_core.proofs.Grown.{head_stays}
use Rattle.searcher.proofs.Read.{reads_head, reads_trans}
use Rattle.searcher.proofs.Once.{loads_head}
use Rattle.searcher.proofs.Block.{head_known, block_whole}
use Rattle.searcher.specs.Records.{IsOfBlock}
use Rattle.searcher.proofs.Records.{at_both, loads_nothing}
use Rattle.searcher.proofs.Turns.{block_read_once}
use Rattle.searcher.proofs.Whole.{block_words}
use Rattle.searcher.proofs.blocks.load_block.Goals as goal

pub load_words-requires-clause-known : goal.load_words-requires-clause-known
load_words-requires-clause-known c = head_known c.args.board.now.shape c.args.caller.now c.load_head-head.new.caller c.args.block c.load_head-head.result c.load_head-head.ensures.after c.requires.known

pub load_words-requires-2-clause-known : goal.load_words-requires-2-clause-known
load_words-requires-2-clause-known c = head_stays c.args.board.now.shape c.load_head-head.new.caller.account c.load_words.new.caller.account c.load_words.ensures.reads.grown c.args.block c.load_head-head.result
    (head_known c.args.board.now.shape c.args.caller.now c.load_head-head.new.caller c.args.block c.load_head-head.result c.load_head-head.ensures.after c.requires.known)

pub returns-clause-reads : goal.returns-clause-reads
returns-clause-reads c = reads_trans c.args.caller.now.account c.load_head-head.new.caller.account c.load_words-2.new.caller.account
    (reads_head c.args.caller.now c.load_head-head.new.caller _ _ c.load_head-head.ensures.after)
    (reads_trans c.load_head-head.new.caller.account c.load_words.new.caller.account c.load_words-2.new.caller.account c.load_words.ensures.reads c.load_words-2.ensures.reads)

pub returns-clause-words : goal.returns-clause-words
returns-clause-words c =
    let k = c.args.board.now.shape in
    let head = c.load_head-head.result in
    let first = c.load_words.new in
    let last = c.load_words-2.new in
    let known = head_known k c.args.caller.now c.load_head-head.new.caller c.args.block head c.load_head-head.ensures.after c.requires.known in
    let begun = head_stays k c.load_head-head.new.caller.account first.caller.account c.load_words.ensures.reads.grown c.args.block head known in
    let low = c.codes_at.ensures.value in
    let zero_is = c.load_words.ensures.others 0 (inl (omega arith)) ∙ get_or-set_same c.args.words.now 0 head 0 (let room = c.requires.room in omega arith) in
    block_whole k first.caller.account last.caller.account c.args.block head c.codes_at.result c.bonds_at.result c.size_of.result first.words last.words low c.bonds_at.ensures.value c.size_of.ensures.value
    (head_stays k first.caller.account last.caller.account c.load_words-2.ensures.reads.grown c.args.block head begun) zero_is c.load_words.ensures.words c.load_words-2.ensures.reads.grown c.load_words-2.ensures.words c.load_words-2.ensures.others

pub returns-clause-of_block : goal.returns-clause-of_block
returns-clause-of_block c =
    let k = c.args.board.now.shape in
    let block = c.args.block in
    let head = c.load_head-head.result in
    let old = c.args.caller.now in
    let start = c.load_head-head.new.caller in
    let first = c.load_words.new.caller.account in
    let last = c.load_words-2.new.caller.account in
    let known = head_known k old start block head c.load_head-head.ensures.after c.requires.known in
    let begun = head_stays k start.account first c.load_words.ensures.reads.grown block head known in
    let grown = (reads_trans start.account first last c.load_words.ensures.reads c.load_words-2.ensures.reads).grown in (
      head,
      head_stays k first last c.load_words-2.ensures.reads.grown block head begun,
      at_both old.account start.account last (IsOfBlock block head) grown (loads_nothing old.account start.account 0 0 _ (IsOfBlock block head) (loads_head old start _ _ c.load_head-head.ensures.after))
          (at_both start.account first last (IsOfBlock block head) c.load_words-2.ensures.reads.grown c.load_words.ensures.of_block c.load_words-2.ensures.of_block),
      block_words old.account start.account first last block head c.codes_at.result c.bonds_at.result c.size_of.result c.codes_at.ensures.value c.bonds_at.ensures.value c.size_of.ensures.value
          (reads_head old start _ _ c.load_head-head.ensures.after).grown c.load_words.ensures.reads.grown c.load_words-2.ensures.reads.grown c.load_words.ensures.read c.load_words-2.ensures.read,
      block_read_once old start first last block head c.codes_at.result c.bonds_at.result c.size_of.result c.codes_at.ensures.value c.bonds_at.ensures.value c.size_of.ensures.value c.load_head-head.ensures.after c.load_words.ensures.places c.load_words-2.ensures.places,
    )
