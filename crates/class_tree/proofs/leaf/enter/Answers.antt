use Rattle.class_tree.proofs.Entering.{may_enter, entered, entry_read}
use Rattle.class_tree.proofs.leaf.enter.Goals as goal

pub claim_entry-requires-clause-may : goal.claim_entry-requires-clause-may
claim_entry-requires-clause-may c = may_enter _ c.args.caller.now _ _ _ _ _ _ _ c.requires.leaf c.requires.room c.load_slot-word.ensures.after c.if-word-ne0.false

pub returns-clause-placed : goal.returns-clause-placed
returns-clause-placed c = λ z. entered c.args.caller.now c.load_slot-word.new.caller _ c.args.at _ _ c.load_slot-word.ensures.after (c.claim_entry.ensures.won z)

pub returns-clause-read : goal.returns-clause-read
returns-clause-read c = λ o. entry_read _ c.args.caller.now c.load_slot-word.new.caller _ c.args.at _ _ _ _ _ _ c.requires.leaf c.load_slot-word.ensures.after c.if-word-ne0.false (c.claim_entry.ensures.lost o) o
