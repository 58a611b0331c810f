use Rattle.std.proofs.Common.{refl}
use Rattle.searcher.proofs.Read.{reads_mark, of_after}
use Rattle.searcher.proofs.Numbered.{number_marked, number_unmarked}
use Rattle.searcher.proofs.given.number_of.Goals as goal

pub returns-then-mark-front-clause-reads : goal.returns-then-mark-front-clause-reads
returns-then-mark-front-clause-reads c = reads_mark c.args.caller.now c.load_shown-mark.new.caller _ _ c.load_shown-mark.ensures

pub returns-then-mark-front-clause-number : goal.returns-then-mark-front-clause-number
returns-then-mark-front-clause-number c = number_unmarked c.args.board.now.shape c.args.caller.now c.load_shown-mark.new.caller c.args.front c.args.block c.load_shown-mark.result c.load_shown-mark.ensures c.requires.seen c.requires.known c.if-mark-front.true

pub returns-clause-reads : goal.returns-clause-reads
returns-clause-reads c = reads_mark c.args.caller.now c.load_shown-mark.new.caller _ _ c.load_shown-mark.ensures

pub returns-clause-number : goal.returns-clause-number
returns-clause-number c = number_marked c.args.board.now.shape c.args.caller.now c.load_shown-mark.new.caller c.args.front c.args.block c.load_shown-mark.result c.load_shown-mark.ensures c.requires.seen c.requires.known c.if-mark-front.false
