use Rattle.board_core.specs.declared.entry.Reply.TheVariants.{Hits}
use Rattle.searcher.proofs.Answered.{answered_true}
use Rattle.searcher.proofs.at_front.note_hits.Goals as goal

pub note_with-requires-clause-answers : goal.note_with-requires-clause-answers
note_with-requires-clause-answers c = answered_true c.args.board.now.shape c.args.caller.now.account c.args.query.now c.args.budget c.args.front (Hits c.args.hits.now.hits) c.requires.reply
