use Rattle.std.proofs.Common.{◌+◌, ◌*◌, ◌-◌, arith}
use Rattle.class_tree.proofs.Searching.{stops_on}
use Rattle.class_tree.proofs.Begun.{first_depth, found_goes, found_may, found_may_split, next_may, next_depth, comes_down}
use Rattle.class_tree.proofs.insert.descend.Goals as goal

pub loop-depth-init : goal.loop-depth-init
loop-depth-init c = record { at_depth = first_depth _ _ _ _ c.requires.down c.requires.number; stocked = c.requires.stocked; loader = c.requires.loader; few = (let few = c.requires.few in omega arith) }

pub returns-in-Err-clause-placed : goal.returns-in-Err-clause-placed
returns-in-Err-clause-placed c = stops_on _ 0 _ c.loop-depth.caller _ _ _ c.loop-depth.invariant.at_depth.goes c.in-Err.ensures.found

pub returns-in-Err-follow-clause-placed : goal.returns-in-Err-follow-clause-placed
returns-in-Err-follow-clause-placed c = stops_on _ 0 _ c.find_code.new.caller _ _ _ (found_goes _ _ c.loop-depth.caller _ _ _ _ _ c.loop-depth.invariant.at_depth c.in-Ok.ensures.found) c.in-Err-follow.ensures.goes

pub loop-depth-preserved : goal.loop-depth-preserved
loop-depth-preserved c = record {
  at_depth = next_depth _ _ c.loop-depth.caller c.find_code.new.caller c.follow.new.caller c.loop-depth.at _ _ _ _ c.loop-depth.invariant.at_depth c.in-Ok.ensures.found (comes_down _ c.find_code.new.caller c.follow.new.caller c.in-Ok.slot _ _ _ _ c.in-Ok-Down.field-0-is c.in-Ok-Down.ensures.goes);
  stocked = c.in-Ok-Down.ensures.stocked;
  loader = c.in-Ok-Down.ensures.loader;
  few = next_may _ c.loop-depth.caller c.find_code.new.caller c.follow.new.caller _ _ _ _ c.in-Ok.ensures.found (comes_down _ c.find_code.new.caller c.follow.new.caller c.in-Ok.slot _ _ _ _ c.in-Ok-Down.field-0-is c.in-Ok-Down.ensures.goes) c.loop-depth.invariant.few;
}

pub find_code-requires-clause-few : goal.find_code-requires-clause-few
find_code-requires-clause-few c = let few = c.loop-depth.invariant.few in omega arith

pub follow-requires-clause-leaf : goal.follow-requires-clause-leaf
follow-requires-clause-leaf c = found_may _ c.loop-depth.caller _ _ _ _ c.in-Ok.ensures.found c.loop-depth-test.true c.loop-depth.invariant.few

pub follow-requires-clause-split : goal.follow-requires-clause-split
follow-requires-clause-split c = found_may_split _ c.loop-depth.caller _ _ _ _ c.in-Ok.ensures.found c.loop-depth.invariant.few
