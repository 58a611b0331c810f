use Rattle.descent.proofs.Standing.{only_slot}
use Rattle.descent.proofs.loads.slot.Goals as goal

pub returns-clause-only : goal.returns-clause-only
returns-clause-only c = only_slot c.args.caller.now c.load_slot.new.caller c.args.at.number c.load_slot.result c.load_slot.ensures.after
