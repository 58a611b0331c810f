use Rattle.class_tree.proofs.Reading.{may_load_met, learns_one, row_read, after_same}
use Rattle.class_tree.proofs.read.load_next.Goals as goal

pub load_met_code-code-requires-clause-may : goal.load_met_code-code-requires-clause-may
load_met_code-code-requires-clause-may c = may_load_met c.args.caller.now _ _ _ _ _ _ c.load_met_entry-row.ensures.met (after_same _ c.load_met_entry-row.new.caller _ _ _ c.load_met_entry-row.ensures.same c.load_met_head-head.ensures.after) c.requires.leaf.low

pub returns-clause-learns : goal.returns-clause-learns
returns-clause-learns c = learns_one c.args.caller.now c.load_met_head-head.new.caller _ _ _ _ _ _ (after_same _ c.load_met_entry-row.new.caller _ _ _ c.load_met_entry-row.ensures.same c.load_met_head-head.ensures.after) c.load_met_code-code.ensures.after

pub returns-clause-row : goal.returns-clause-row
returns-clause-row c = row_read c.args.caller.now c.load_met_head-head.new.caller _ c.args.at _ _ _ _ _ c.load_met_entry-row.ensures.met c.requires.leaf.deep c.load_met_head-head.ensures.atom.0 (after_same _ c.load_met_entry-row.new.caller _ _ _ c.load_met_entry-row.ensures.same c.load_met_head-head.ensures.after) c.load_met_code-code.ensures.after c.load_met_code-code.ensures.some
