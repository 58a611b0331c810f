use Rattle.std.proofs.Common.{◌+◌, [], inl, slice_index}
use Rattle.searcher.proofs.Read.{reads_trans}
use Rattle.searcher.proofs.Once.{once_block, once_passed}
use Rattle.searcher.proofs.Living.{is_record, read_live}
use Rattle.searcher.specs.Records.{IsOfBlock, IsOfLive}
use Rattle.searcher.proofs.Records.{at_both, block_read, loads_nothing}
use Rattle.searcher.proofs.Turns.{read_live as reads_live, read_none}
use Rattle.searcher.proofs.Whole.{live_whole, none_whole, word_since}
use Rattle.searcher.proofs.live.load_live.Goals as goal

pub returns-in_default-clause-none : goal.returns-in_default-clause-none
returns-in_default-clause-none c = λ _. c.open_block.ensures.none c.in_default.is

pub read_name-name-requires-clause-valid : goal.read_name-name-requires-clause-valid
read_name-name-requires-clause-valid c = is_record c.args.board.now.shape c.load_block.new.caller.account c.in-Some.block (slice_index c.load_block.new.words) c.load_block.ensures.words c.load_block.ensures.may

pub read_mol-requires-clause-valid : goal.read_mol-requires-clause-valid
read_mol-requires-clause-valid c = is_record c.args.board.now.shape c.load_block.new.caller.account c.in-Some.block (slice_index c.load_block.new.words) c.load_block.ensures.words c.load_block.ensures.may

pub returns-clause-live : goal.returns-clause-live
returns-clause-live c = read_live c.args.board.now.shape c.open_block.new.caller.account c.load_block.new.caller.account c.args.front c.args.number c.in-Some.block (slice_index c.load_block.new.words) c.read_name-name.result c.in_ok-mol.mol
    c.in-Some.ensures.block c.load_block.ensures.reads c.requires.number.1 c.load_block.ensures.words c.load_block.ensures.may c.read_name-name.ensures c.in_ok-mol.ensures

pub returns-in_default-clause-once : goal.returns-in_default-clause-once
returns-in_default-clause-once c = let once = c.open_block.ensures.once in once_passed c.args.caller.now.account c.open_block.new.caller.account once.0 once.1 once.2

pub returns-in_err-mol-clause-once : goal.returns-in_err-mol-clause-once
returns-in_err-mol-clause-once c = let once = c.open_block.ensures.once in once_block c.args.caller.now.account c.open_block.new.caller.account c.load_block.new.caller.account once.0 _ once.1 once.2 c.load_block.ensures.once.1

pub returns-clause-once : goal.returns-clause-once
returns-clause-once c = let once = c.open_block.ensures.once in once_block c.args.caller.now.account c.open_block.new.caller.account c.load_block.new.caller.account once.0 _ once.1 once.2 c.load_block.ensures.once.1

pub returns-in_err-mol-clause-reads : goal.returns-in_err-mol-clause-reads
returns-in_err-mol-clause-reads c = reads_trans c.args.caller.now.account c.open_block.new.caller.account c.load_block.new.caller.account c.open_block.ensures.reads c.load_block.ensures.reads

pub returns-clause-reads : goal.returns-clause-reads
returns-clause-reads c = reads_trans c.args.caller.now.account c.open_block.new.caller.account c.load_block.new.caller.account c.open_block.ensures.reads c.load_block.ensures.reads

pub returns-in_default-clause-read : goal.returns-in_default-clause-read
returns-in_default-clause-read c = λ p m. (let once = c.open_block.ensures.once in loads_nothing c.args.caller.now.account c.open_block.new.caller.account 1 once.0 [] (IsOfLive c.args.board.now.shape p c.args.front c.args.number) once.2)

pub returns-in_err-mol-clause-read : goal.returns-in_err-mol-clause-read
returns-in_err-mol-clause-read c =
    let k = c.args.board.now.shape in
    let old = c.args.caller.now.account in
    let a = c.open_block.new.caller.account in
    let b = c.load_block.new.caller.account in
    let once = c.open_block.ensures.once in
    let of = c.load_block.ensures.of_block in
    let block = c.in-Some.block in
    block_read k old a b c.args.front c.args.number block of.0 c.in-Some.ensures.block c.load_block.ensures.reads.grown of.1 c.requires.number.1
    (at_both old a b (IsOfBlock block of.0) c.load_block.ensures.reads.grown (loads_nothing old a 1 once.0 [] (IsOfBlock block of.0) once.2) of.2)

pub returns-clause-read : goal.returns-clause-read
returns-clause-read c =
    let k = c.args.board.now.shape in
    let old = c.args.caller.now.account in
    let a = c.open_block.new.caller.account in
    let b = c.load_block.new.caller.account in
    let once = c.open_block.ensures.once in
    let of = c.load_block.ensures.of_block in
    let block = c.in-Some.block in
    block_read k old a b c.args.front c.args.number block of.0 c.in-Some.ensures.block c.load_block.ensures.reads.grown of.1 c.requires.number.1
    (at_both old a b (IsOfBlock block of.0) c.load_block.ensures.reads.grown (loads_nothing old a 1 once.0 [] (IsOfBlock block of.0) once.2) of.2)

pub returns-in_default-clause-whole : goal.returns-in_default-clause-whole
returns-in_default-clause-whole c = none_whole c.args.board.now.shape c.args.caller.now.account c.open_block.new.caller.account c.args.front c.args.number (c.open_block.ensures.none c.in_default.is)

pub returns-in_err-mol-clause-whole : goal.returns-in_err-mol-clause-whole
returns-in_err-mol-clause-whole c =
    let old = c.args.caller.now.account in
    let a = c.open_block.new.caller.account in
    let b = c.load_block.new.caller.account in
    let of = c.load_block.ensures.of_block in
    live_whole c.args.board.now.shape old a b c.args.front c.args.number c.in-Some.block of.0 c.in-Some.ensures.block c.load_block.ensures.reads.grown of.1
    (λ i is. word_since old a b (c.in-Some.block + i) c.open_block.ensures.reads.grown (of.3 i is))

pub returns-clause-whole : goal.returns-clause-whole
returns-clause-whole c =
    let old = c.args.caller.now.account in
    let a = c.open_block.new.caller.account in
    let b = c.load_block.new.caller.account in
    let of = c.load_block.ensures.of_block in
    live_whole c.args.board.now.shape old a b c.args.front c.args.number c.in-Some.block of.0 c.in-Some.ensures.block c.load_block.ensures.reads.grown of.1
    (λ i is. word_since old a b (c.in-Some.block + i) c.open_block.ensures.reads.grown (of.3 i is))

pub returns-in_default-clause-one : goal.returns-in_default-clause-one
returns-in_default-clause-one c = let once = c.open_block.ensures.once in inl (read_none c.args.caller.now.account c.open_block.new.caller.account 1 once.0 [] c.open_block.ensures.reads.grown once.2)

pub returns-in_err-mol-clause-one : goal.returns-in_err-mol-clause-one
returns-in_err-mol-clause-one c =
    let old = c.args.caller.now.account in
    let a = c.open_block.new.caller.account in
    let b = c.load_block.new.caller.account in
    let once = c.open_block.ensures.once in
    let of = c.load_block.ensures.of_block in
    reads_live c.args.board.now.shape old a b c.args.front c.args.number c.in-Some.block of.0 c.in-Some.ensures.block c.load_block.ensures.reads.grown of.1
    (read_none old a 1 once.0 [] c.open_block.ensures.reads.grown once.2) of.4

pub returns-clause-one : goal.returns-clause-one
returns-clause-one c =
    let old = c.args.caller.now.account in
    let a = c.open_block.new.caller.account in
    let b = c.load_block.new.caller.account in
    let once = c.open_block.ensures.once in
    let of = c.load_block.ensures.of_block in
    reads_live c.args.board.now.shape old a b c.args.front c.args.number c.in-Some.block of.0 c.in-Some.ensures.block c.load_block.ensures.reads.grown of.1
    (read_none old a 1 once.0 [] c.open_block.ensures.reads.grown once.2) of.4
