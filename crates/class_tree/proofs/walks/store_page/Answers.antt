use Rattle.std.proofs.Common.{◌≡◌, ℕ, subst, arith}
use Rattle.class_tree.specs.Stocked.{HasMade}
use Rattle.class_tree.proofs.Making.{made_none, made_of, may_store, made_more}
use Rattle.class_tree.proofs.walks.store_page.Goals as goal

pub loop-place-init : goal.loop-place-init
loop-place-init c = record { made = made_none _ _ _ _ }

pub store_own_word-requires-clause-fits : goal.store_own_word-requires-clause-fits
store_own_word-requires-clause-fits c = made_of _ _ _ _ _ _ _ c.requires.fits c.loop-place.invariant.made

pub store_own_word-requires-clause-may : goal.store_own_word-requires-clause-may
store_own_word-requires-clause-may c = may_store _ _ _ _ _ _ _ c.requires.page c.requires.mine c.loop-place-test.true c.loop-place.invariant.made

pub loop-place-preserved : goal.loop-place-preserved
loop-place-preserved c = record { made = made_more _ c.loop-place.caller _ _ _ _ _ _ c.loop-place-test.true c.loop-place.invariant.made c.fresh_word-word.ensures c.store_own_word.ensures }

pub returns : goal.returns
returns c =
    let most = c.loop-place.auto.place-end in
    let past = c.loop-place-test.false in
    let is : c.loop-place.place ≡ 16 = omega arith in subst (λ (n : ℕ). HasMade c.args.caller.now c.loop-place.caller c.args.own c.args.header c.args.first n) is c.loop-place.invariant.made
