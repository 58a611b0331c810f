use Rattle.class_tree.proofs.Pages.{reads_same, reads_slot, reads_on, reads_of}
use Rattle.class_tree.proofs.Entering.{leaf_within, leaf_on}
use Rattle.class_tree.proofs.leaf.fill_leaf.Goals as goal

pub loop-index-init : goal.loop-index-init
loop-index-init c = record { reads = reads_same _ _; leaf = c.requires.leaf }

pub enter-requires-clause-fits : goal.enter-requires-clause-fits
enter-requires-clause-fits c = reads_of _ _ _ _ c.requires.fits c.loop-index.invariant.reads

pub enter-requires-clause-leaf : goal.enter-requires-clause-leaf
enter-requires-clause-leaf c = c.loop-index.invariant.leaf

pub loop-index-preserved : goal.loop-index-preserved
loop-index-preserved c = record {
  reads = reads_on _ c.loop-index.caller _ _ c.loop-index.invariant.reads (reads_slot c.loop-index.caller _ c.args.at _ (leaf_within _ _ _ _ _ _ _ c.loop-index.invariant.leaf) (c.enter.ensures.read c.if-enter-eq0.false));
  leaf = leaf_on _ c.loop-index.caller _ _ _ _ _ _ _ c.loop-index.invariant.leaf (c.enter.ensures.read c.if-enter-eq0.false) c.if-enter-eq0.false;
}
