use Rattle.descent.proofs.Standing.{only_more}
use Rattle.descent.proofs.loads.more.Goals as goal

pub returns-then-word-eq0-clause-only : goal.returns-then-word-eq0-clause-only
returns-then-word-eq0-clause-only c = only_more c.args.caller.now c.load_more-word.new.caller c.args.at.number c.load_more-word.result c.load_more-word.ensures.after

pub returns-clause-only : goal.returns-clause-only
returns-clause-only c = only_more c.args.caller.now c.load_more-word.new.caller c.args.at.number c.load_more-word.result c.load_more-word.ensures.after
