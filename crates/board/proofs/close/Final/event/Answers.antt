use Rattle.std.proofs.Common.{◌+◌, ◌^◌, ◌<◌, sym, ◌∙◌, arith}
use Rattle.std.specs.Mem.Slots.{slots_items, slots_len}
use Rattle.board_core.proofs.RecordFrame.{shows_record}
use Rattle.board.proofs.Tied.{log_place_fits}
use Rattle.board.proofs.Closings.{event_place, log_there, log_word_read, target_small, other_kind, withdrawal_read, published, block_whole, block_begins, read_whole, read_record, publication_read}
use Rattle.board.proofs.close.Final.event.Goals as goal

pub overflow_add-first : goal.overflow_add-first
overflow_add-first c =
    let inside = event_place c.self.inside.shape (slots_items c.self.inside.closed.words) c.self.inside.last.value.me.0 c.args.self.now c.args.index c.self.view_is c.self.invariant.4 c.requires in
    let small : c.log_place-first.result + c.args.index < 2 ^ 64 = log_place_fits c.log_place-first.result c.args.index c.self.inside.shape c.log_place-first.ensures c.self.invariant.3 inside in omega arith

pub word-word-requires : goal.word-word-requires
word-word-requires c =
    let inside = event_place c.self.inside.shape (slots_items c.self.inside.closed.words) c.self.inside.last.value.me.0 c.args.self.now c.args.index c.self.view_is c.self.invariant.4 c.requires in
    (log_there c.self.inside.shape (slots_len c.self.inside.closed.words) c.log_place-first.result c.args.index c.self.invariant.1 c.log_place-first.ensures inside, c.self.invariant.0)

pub overflow_cast-number : goal.overflow_cast-number
overflow_cast-number c =
    let w = log_word_read c.self.inside.shape (slots_items c.self.inside.closed.words) c.self.inside.last.value.me.0 c.args.self.now c.args.index c.log_place-first.result c.word-word.result c.self.view_is c.self.invariant.4 c.requires c.log_place-first.ensures c.word-word.ensures in
    let small : c.target_of-target.result < 2 ^ 32 = target_small c.self.inside.shape (slots_items c.self.inside.closed.words) c.self.inside.last.value.me.0 c.args.index c.word-word.result c.target_of-target.result c.self.invariant.3 c.self.invariant.4 w (sym c.kind_of.ensures ∙ c.if-kind_of-eq2.true) c.target_of-target.ensures in omega arith

pub returns-then-kind_of-eq2 : goal.returns-then-kind_of-eq2
returns-then-kind_of-eq2 c =
    let w = log_word_read c.self.inside.shape (slots_items c.self.inside.closed.words) c.self.inside.last.value.me.0 c.args.self.now c.args.index c.log_place-first.result c.word-word.result c.self.view_is c.self.invariant.4 c.requires c.log_place-first.ensures c.word-word.ensures in
    withdrawal_read c.self.inside.shape (slots_items c.self.inside.closed.words) c.self.inside.last.value.me.0 c.args.self.now c.args.index c.word-word.result c.loader_of-caller.result c.target_of-target.result c.self.view_is w (sym c.kind_of.ensures ∙ c.if-kind_of-eq2.true) c.loader_of-caller.ensures c.target_of-target.ensures

pub block_at-requires-clause-within : goal.block_at-requires-clause-within
block_at-requires-clause-within c =
    let w = log_word_read c.self.inside.shape (slots_items c.self.inside.closed.words) c.self.inside.last.value.me.0 c.args.self.now c.args.index c.log_place-first.result c.word-word.result c.self.view_is c.self.invariant.4 c.requires c.log_place-first.ensures c.word-word.ensures in
    let other = other_kind c.word-word.result c.kind_of.result c.kind_of.ensures c.if-kind_of-eq2.false in
    let b = published c.self.inside.shape (slots_items c.self.inside.closed.words) c.self.inside.last.value.me.0 c.args.index c.word-word.result c.target_of-target.result c.self.invariant.4 w other c.target_of-target.ensures in
    block_begins c.self.inside.shape (slots_items c.self.inside.closed.words) c.target_of-target.result (slots_len c.self.inside.closed.words) b c.self.invariant.1

pub block_at-requires-clause-whole : goal.block_at-requires-clause-whole
block_at-requires-clause-whole c =
    let w = log_word_read c.self.inside.shape (slots_items c.self.inside.closed.words) c.self.inside.last.value.me.0 c.args.self.now c.args.index c.log_place-first.result c.word-word.result c.self.view_is c.self.invariant.4 c.requires c.log_place-first.ensures c.word-word.ensures in
    let other = other_kind c.word-word.result c.kind_of.result c.kind_of.ensures c.if-kind_of-eq2.false in
    let b = published c.self.inside.shape (slots_items c.self.inside.closed.words) c.self.inside.last.value.me.0 c.args.index c.word-word.result c.target_of-target.result c.self.invariant.4 w other c.target_of-target.ensures in
    block_whole c.self.inside.shape (slots_items c.self.inside.closed.words) c.target_of-target.result (slots_len c.self.inside.closed.words) b c.self.invariant.1

pub read_name-name-requires-clause-whole : goal.read_name-name-requires-clause-whole
read_name-name-requires-clause-whole c = read_whole (slots_items c.self.inside.closed.words) c.deref.result.now c.target_of-target.result (c.deref.ensures.value ∙ c.in_ok-words.ensures)

pub read_name-name-requires-clause-valid : goal.read_name-name-requires-clause-valid
read_name-name-requires-clause-valid c =
    let w = log_word_read c.self.inside.shape (slots_items c.self.inside.closed.words) c.self.inside.last.value.me.0 c.args.self.now c.args.index c.log_place-first.result c.word-word.result c.self.view_is c.self.invariant.4 c.requires c.log_place-first.ensures c.word-word.ensures in
    let other = other_kind c.word-word.result c.kind_of.result c.kind_of.ensures c.if-kind_of-eq2.false in
    let b = published c.self.inside.shape (slots_items c.self.inside.closed.words) c.self.inside.last.value.me.0 c.args.index c.word-word.result c.target_of-target.result c.self.invariant.4 w other c.target_of-target.ensures in
    shows_record _ (read_record c.self.inside.shape (slots_items c.self.inside.closed.words) c.deref.result.now c.target_of-target.result b (c.deref.ensures.value ∙ c.in_ok-words.ensures))

pub read_mol-requires-clause-whole : goal.read_mol-requires-clause-whole
read_mol-requires-clause-whole c = read_whole (slots_items c.self.inside.closed.words) c.deref-2.result.now c.target_of-target.result (c.deref-2.ensures.value ∙ c.in_ok-words.ensures)

pub read_mol-requires-clause-valid : goal.read_mol-requires-clause-valid
read_mol-requires-clause-valid c =
    let w = log_word_read c.self.inside.shape (slots_items c.self.inside.closed.words) c.self.inside.last.value.me.0 c.args.self.now c.args.index c.log_place-first.result c.word-word.result c.self.view_is c.self.invariant.4 c.requires c.log_place-first.ensures c.word-word.ensures in
    let other = other_kind c.word-word.result c.kind_of.result c.kind_of.ensures c.if-kind_of-eq2.false in
    let b = published c.self.inside.shape (slots_items c.self.inside.closed.words) c.self.inside.last.value.me.0 c.args.index c.word-word.result c.target_of-target.result c.self.invariant.4 w other c.target_of-target.ensures in
    shows_record _ (read_record c.self.inside.shape (slots_items c.self.inside.closed.words) c.deref-2.result.now c.target_of-target.result b (c.deref-2.ensures.value ∙ c.in_ok-words.ensures))

pub returns : goal.returns
returns c =
    let w = log_word_read c.self.inside.shape (slots_items c.self.inside.closed.words) c.self.inside.last.value.me.0 c.args.self.now c.args.index c.log_place-first.result c.word-word.result c.self.view_is c.self.invariant.4 c.requires c.log_place-first.ensures c.word-word.ensures in
    let other = other_kind c.word-word.result c.kind_of.result c.kind_of.ensures c.if-kind_of-eq2.false in
    let b = published c.self.inside.shape (slots_items c.self.inside.closed.words) c.self.inside.last.value.me.0 c.args.index c.word-word.result c.target_of-target.result c.self.invariant.4 w other c.target_of-target.ensures in
    publication_read c.self.inside.shape (slots_items c.self.inside.closed.words) c.in_ok-words.words.items c.self.inside.last.value.me.0 c.args.self.now c.args.index c.word-word.result c.loader_of-caller.result c.target_of-target.result c.read_name-name.result c.deref.result.now c.deref-2.result.now c.in_ok-mol.mol c.self.view_is w other c.target_of-target.ensures b
    c.in_ok-words.ensures c.deref.ensures.value c.deref-2.ensures.value c.loader_of-caller.ensures c.read_name-name.ensures c.in_ok-mol.ensures
