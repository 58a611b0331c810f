use Rattle.board_core.specs.declared.entry.Reply.TheVariants.{OverBudget}
use Rattle.searcher.proofs.Answered.{answered_true}
use Rattle.searcher.proofs.at_front.note_over.Goals as goal

pub note_with-requires-clause-answers : goal.note_with-requires-clause-answers
note_with-requires-clause-answers c = answered_true c.args.board.now.shape c.args.caller.now.account c.args.query.now c.args.budget c.args.front OverBudget c.requires.reply
