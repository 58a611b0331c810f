use Rattle.std.proofs.lemmas.List.{take_rest}
use Rattle.ctfile.proofs.Looked.{if_none, lone_front, lone_all}
use Rattle.ctfile.proofs.cut.first_line.Goals as goal

pub returns-in_err-place-clause-none : goal.returns-in_err-place-clause-none
returns-in_err-place-clause-none c =
    if_none _ _ (lone_all c.args.bytes.now _ c.args.searched (take_rest c.args.bytes.now c.args.searched) c.requires.searched c.requires.within c.in_err-place.ensures)

pub returns-clause-line : goal.returns-clause-line
returns-clause-line c =
    lone_front c.args.bytes.now _ c.args.searched c.in_ok-place.field-0 (take_rest c.args.bytes.now c.args.searched) c.requires.searched c.requires.within c.in_ok-place.ensures.0.before
