use Rattle.command_ends.proofs.stop.write_numbered.Goals as goal

pub returns-clause-ok : goal.returns-clause-ok
returns-clause-ok g c = rw c.format.ensures.text at c.write_named.ensures.ok

pub returns-clause-err : goal.returns-clause-err
returns-clause-err g c = rw c.format.ensures.text at c.write_named.ensures.err
