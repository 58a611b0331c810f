use Rattle.class_tree.proofs.Finding.{may_claim, claim_lost, claim_won}
use Rattle.class_tree.proofs.find.claim.Goals as goal

pub claim_code-found-requires-clause-may : goal.claim_code-found-requires-clause-may
claim_code-found-requires-clause-may c = may_claim _ c.args.caller.now _ _ _ _ _ _ _ c.requires.seeking c.requires.room c.load_slot-word.ensures.after c.if-word-ne0.false

pub returns-then-found-ne0-clause-after : goal.returns-then-found-ne0-clause-after
returns-then-found-ne0-clause-after c = claim_lost _ c.args.caller.now c.load_slot-word.new.caller _ _ _ _ _ _ _ _ _ c.requires.seeking c.load_slot-word.ensures.after c.if-word-ne0.false c.claim_code-found.ensures c.if-found-ne0.true

pub returns-clause-after : goal.returns-clause-after
returns-clause-after c = claim_won _ c.args.caller.now c.load_slot-word.new.caller _ _ _ _ _ _ _ _ c.requires.seeking c.load_slot-word.ensures.after c.if-word-ne0.false c.claim_code-found.ensures c.if-found-ne0.false
