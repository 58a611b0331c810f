use Rattle.descent.proofs.Standing.{only_link}
use Rattle.descent.proofs.loads.link.Goals as goal

pub returns-then-word-eq0-clause-only : goal.returns-then-word-eq0-clause-only
returns-then-word-eq0-clause-only c = only_link c.args.caller.now c.load_link-word.new.caller c.args.at.number c.args.index c.args.code c.load_link-word.result c.load_link-word.ensures.after.0 c.load_link-word.ensures.after.1

pub returns-clause-only : goal.returns-clause-only
returns-clause-only c = only_link c.args.caller.now c.load_link-word.new.caller c.args.at.number c.args.index c.args.code c.load_link-word.result c.load_link-word.ensures.after.0 c.load_link-word.ensures.after.1
