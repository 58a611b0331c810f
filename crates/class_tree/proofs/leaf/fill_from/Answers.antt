use Rattle.std.proofs.Common.{◌≡◌, ℕ, ap, ◌-◌, arith, subst}
use Rattle.htss_defs.specs.declared.shape.Shape.{Shape}
use Rattle.htss_defs.specs.declared.shape.Field.TheVariants.{Chain}
use Rattle.class_tree.proofs.Searching.{reads_stocked, refused_on}
use Rattle.class_tree.proofs.Passed.{IsAlongLeaves, leaves_next, leaves_mind, mind_stocked, mind_loader, finds_full, some_past}
use Rattle.class_tree.proofs.leaf.fill_from.Goals as goal

pub go_past-requires-clause-rank : goal.go_past-requires-clause-rank
go_past-requires-clause-rank c = let limit = c.shape-chain.ensures.limits Chain in let low = limit.0 in let high = limit.1 in let same = ap (λ (k : Shape). k.chain) c.shape-chain.ensures.value in let less = c.loop-rank-test.true in (omega arith, omega arith)

pub go_past-requires-clause-number : goal.go_past-requires-clause-number
go_past-requires-clause-number c = let limit = c.shape-chain.ensures.limits Chain in let low = limit.0 in let high = limit.1 in let same = ap (λ (k : Shape). k.chain) c.shape-chain.ensures.value in let less = c.loop-rank-test.true in
    let number = c.loop-rank.invariant.along.number in let first = c.requires.number in omega arith

pub returns-in-Err-clause-placed : goal.returns-in-Err-clause-placed
returns-in-Err-clause-placed c = refused_on _ 0 _ c.loop-rank.caller _ _ c.loop-rank.invariant.along.goes c.in-Err.ensures.past

pub loop-rank-preserved : goal.loop-rank-preserved
loop-rank-preserved c = record {
  along = leaves_mind _ _ c.go_past.new.caller c.remember.new.caller _ _ _ _ _
      (leaves_next _ _ c.loop-rank.caller c.go_past.new.caller _ _ c.loop-rank.at _ _ _ c.loop-rank.invariant.along (some_past _ c.loop-rank.caller _ _ _ _ _ _ _ c.in-Ok-Some.field-0-is c.in-Ok-Some.ensures.past)) c.remember.ensures;
  stocked = mind_stocked c.go_past.new.caller _ c.remember.ensures c.in-Ok-Some.ensures.stocked;
  loader = mind_loader c.go_past.new.caller _ c.remember.ensures c.in-Ok-Some.ensures.loader;
}

pub returns-clause-stocked : goal.returns-clause-stocked
returns-clause-stocked c = reads_stocked _ c.loop-rank.caller _ c.if-fill_leaf.ensures.placed.0 c.loop-rank.invariant.stocked

pub returns-clause-placed : goal.returns-clause-placed
returns-clause-placed c = let limit = c.shape-chain.ensures.limits Chain in let low = limit.0 in let high = limit.1 in let same = ap (λ (k : Shape). k.chain) c.shape-chain.ensures.value in
    let most = c.loop-rank.auto.rank-end in let past = c.loop-rank-test.false in let from = c.requires.rank in
    let last : c.loop-rank.rank ≡ c.shape-chain.result.chain - 1 = omega arith in
    finds_full _ _ c.loop-rank.caller c.fill_leaf.new.caller _ _ c.loop-rank.at _ _
    (subst (λ (n : ℕ). IsAlongLeaves c.args.board.now.shape c.args.caller.now c.loop-rank.caller c.args.first c.args.from c.loop-rank.at n c.args.target.now) last c.loop-rank.invariant.along)
    c.if-fill_leaf.ensures.placed.0 c.if-fill_leaf.ensures.placed.1 (omega arith) (omega arith) (omega arith)
