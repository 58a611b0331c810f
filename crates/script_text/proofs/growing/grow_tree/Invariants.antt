use Rattle.std.proofs.Common.{◌≡◌, ◌+◌, ◌-◌, ◌≤◌, ◌++◌, length}
use Rattle.script_text.specs.Generator.{after_tree, tree_from, tree_of, tree_state}
use Rattle.script_text.proofs.growing.grow_tree.Given as goal

abbrev pub invariant-loop-number : goal.invariant-loop-number
invariant-loop-number l = record {
  low : 7 ≤ l.number;
  size : length l.tree.items + 7 ≡ l.number;
  tree : tree_of l.start ≡ l.tree.items ++ tree_from (26 - l.number) l.number l.state;
  state : after_tree l.start ≡ tree_state (26 - l.number) l.number l.state;
}
