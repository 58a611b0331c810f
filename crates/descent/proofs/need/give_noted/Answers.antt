use Rattle.descent.proofs.Noting.{may_note, noted}
use Rattle.descent.proofs.need.give_noted.Goals as goal

pub note_with-requires-clause-may : goal.note_with-requires-clause-may
note_with-requires-clause-may g c = may_note c.args.board.now.shape c.args.need.now c.args.caller.now c.sweep.new.caller g.past (g.S.RowSink.given c.args.sink.now) (g.S.RowSink.given c.sweep.new.sink) c.in_ok-rows.rows c.requires.1.1.1 c.sweep.ensures.only c.in_ok-rows.ensures.means

pub returns-clause-swept : goal.returns-clause-swept
returns-clause-swept g c = noted c.args.board.now.shape c.args.need.now c.args.caller.now c.sweep.new.caller g.past (g.S.RowSink.given c.args.sink.now) (g.S.RowSink.given c.sweep.new.sink) c.in_ok-rows.rows c.requires.1.1.1 c.sweep.ensures.only c.in_ok-rows.ensures.means c.note_with.new.caller c.note_with.ensures.before c.note_with.ensures.after
