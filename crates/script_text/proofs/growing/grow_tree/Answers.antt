use Rattle.std.proofs.Common.{refl, List, ℕ, length, ap, ◌∙◌, ◌+◌, arith}
use Rattle.std.proofs.lemmas.List.{length_push}
use Rattle.script_text.specs.declared.growing.Grown.{Grown}
use Rattle.script_text.proofs.Generated.{tree_start, state_start, tree_more, state_more, tree_end, state_end}
use Rattle.script_text.proofs.growing.grow_tree.Goals as goal

pub loop-number-init : goal.loop-number-init
loop-number-init c = rw c.new-tree.ensures (record {
  low = omega arith;
  size = refl;
  tree = tree_start c.args.start;
  state = state_start c.args.start;
})

pub loop-number-preserved : goal.loop-number-preserved
loop-number-preserved c = record {
  low = omega (arith, c.loop-number.invariant.low);
  size = ap (λ (xs : List Grown). length xs + 7) c.push.ensures.items ∙ ap (λ (n : ℕ). n + 7) (length_push c.loop-number.tree.items c.grow-after.result.0) ∙ omega (arith, c.loop-number.invariant.size);
  tree = tree_more _ _ _ _ _ _ _ c.loop-number-test.true c.loop-number.invariant.tree c.push.ensures.items c.grow-after.ensures.atom c.grow-after.ensures.state;
  state = state_more _ _ _ _ c.loop-number-test.true c.loop-number.invariant.state c.grow-after.ensures.state;
}

pub returns-clause-tree : goal.returns-clause-tree
returns-clause-tree c = tree_end _ _ _ _ c.loop-number-test.false c.loop-number.invariant.tree

pub returns-clause-state : goal.returns-clause-state
returns-clause-state c = state_end _ _ _ c.loop-number-test.false c.loop-number.invariant.state
