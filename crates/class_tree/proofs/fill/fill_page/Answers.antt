use Rattle.std.proofs.Common.{refl}
use Rattle.class_tree.proofs.Filling.{only_more, only_of, page_more, may_store_next}
use Rattle.class_tree.proofs.fill.fill_page.Goals as goal

pub store_own_word-requires-clause-fits : goal.store_own_word-requires-clause-fits
store_own_word-requires-clause-fits c = only_of _ _ _ _ c.requires.fits c.loop-place.invariant.only

pub store_own_word-requires-clause-may : goal.store_own_word-requires-clause-may
store_own_word-requires-clause-may c = may_store_next _ c.args.caller.now c.loop-place.caller _ _ _ _ c.requires.mine c.loop-place-test.true c.loop-place.invariant.only c.loop-place.invariant.stored

pub loop-place-preserved : goal.loop-place-preserved
loop-place-preserved c = record {
  only = only_more _ c.loop-place.caller _ _ _ _ _ c.loop-place.invariant.only refl c.store_own_word.ensures;
  stored = page_more c.loop-place.caller _ _ _ _ _ c.loop-place.invariant.stored c.word-word.ensures c.store_own_word.ensures;
}
