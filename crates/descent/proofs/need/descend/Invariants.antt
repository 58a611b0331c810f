use Rattle.descent.proofs.need.descend.Given as goal

abbrev pub ghost-give_noted : goal.ghost-give_noted
ghost-give_noted g a = g.S.RowSink.given a.sink.now
