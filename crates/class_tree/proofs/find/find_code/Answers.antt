use Rattle.std.proofs.Common.{◌≡◌, ℕ, ap, ◌-◌, arith, subst}
use Rattle.htss_defs.specs.declared.shape.Shape.{Shape}
use Rattle.htss_defs.specs.declared.shape.Field.TheVariants.{Chain}
use Rattle.class_tree.proofs.Searching.{along_first, along_next, along_read, along_found, along_full, along_may, made_found, goes_there, goes_made, reads_stocked, reads_loader, goes_of, lacks_one, chain_stops, seeking_walked, IsAlong}
use Rattle.class_tree.proofs.Pages.{reads_of}
use Rattle.class_tree.proofs.find.find_code.Goals as goal

pub overflow_sub-rank-end : goal.overflow_sub-rank-end
overflow_sub-rank-end c = let limit = c.shape-chain.ensures.limits Chain in let low = limit.0 in let same = ap (λ (k : Shape). k.chain) c.shape-chain.ensures.value in omega arith

pub loop-rank-init : goal.loop-rank-init
loop-rank-init c = record { along = along_first _ _ _ _ _ c.requires.deep c.requires.down; stocked = c.requires.stocked; loader = c.requires.loader }

pub find_in_page-requires-clause-fits : goal.find_in_page-requires-clause-fits
find_in_page-requires-clause-fits c = goes_of _ _ _ _ c.loop-rank.invariant.along.goes c.requires.fits

pub find_in_page-requires-clause-seeking : goal.find_in_page-requires-clause-seeking
find_in_page-requires-clause-seeking c = c.loop-rank.invariant.along.seeking

pub returns-in-Some-clause-of : goal.returns-in-Some-clause-of
returns-in-Some-clause-of c = reads_of _ _ _ _ (goes_of _ _ _ _ c.loop-rank.invariant.along.goes c.requires.fits) c.in-Some.ensures.reads

pub returns-in-Some-clause-loader : goal.returns-in-Some-clause-loader
returns-in-Some-clause-loader c = reads_loader _ c.loop-rank.caller _ c.in-Some.ensures.reads c.loop-rank.invariant.loader

pub returns-in-Some-clause-stocked : goal.returns-in-Some-clause-stocked
returns-in-Some-clause-stocked c = reads_stocked _ c.loop-rank.caller _ c.in-Some.ensures.reads c.loop-rank.invariant.stocked

pub returns-in-Some-clause-found : goal.returns-in-Some-clause-found
returns-in-Some-clause-found c =
    let limit = c.shape-chain.ensures.limits Chain in let high = limit.1 in let same = ap (λ (k : Shape). k.chain) c.shape-chain.ensures.value in let less = c.loop-rank-test.true in
    along_found _ _ c.loop-rank.caller _ _ c.loop-rank.at _ _ _ _ c.loop-rank.invariant.along c.in-Some.ensures.reads c.in-Some.ensures.found c.requires.number (omega arith)

pub next_inner-requires-clause-fits : goal.next_inner-requires-clause-fits
next_inner-requires-clause-fits c = reads_of _ _ _ _ (goes_of _ _ _ _ c.loop-rank.invariant.along.goes c.requires.fits) c.in_default.ensures.reads

pub next_inner-requires-clause-loader : goal.next_inner-requires-clause-loader
next_inner-requires-clause-loader c = reads_loader _ c.loop-rank.caller _ c.in_default.ensures.reads c.loop-rank.invariant.loader

pub next_inner-requires-clause-stocked : goal.next_inner-requires-clause-stocked
next_inner-requires-clause-stocked c = reads_stocked _ c.loop-rank.caller _ c.in_default.ensures.reads c.loop-rank.invariant.stocked

pub next_inner-requires-clause-rank : goal.next_inner-requires-clause-rank
next_inner-requires-clause-rank c =
    let limit = c.shape-chain.ensures.limits Chain in let high = limit.1 in let same = ap (λ (k : Shape). k.chain) c.shape-chain.ensures.value in let less = c.loop-rank-test.true in
    (omega arith, omega arith)

pub next_inner-requires-clause-number : goal.next_inner-requires-clause-number
next_inner-requires-clause-number c =
    let limit = c.shape-chain.ensures.limits Chain in let high = limit.1 in let same = ap (λ (k : Shape). k.chain) c.shape-chain.ensures.value in let less = c.loop-rank-test.true in
    let number = c.loop-rank.invariant.along.number in let first = c.requires.number in let deep = c.requires.deep in omega arith

pub returns-in-Err-clause-found : goal.returns-in-Err-clause-found
returns-in-Err-clause-found c = lacks_one _ 0 _ c.find_in_page.new.caller _ _ (along_read _ _ c.loop-rank.caller _ _ c.loop-rank.at _ _ _ c.loop-rank.invariant.along c.in_default.ensures.reads) c.in-Err.ensures.next

pub next_inner-requires-clause-few : goal.next_inner-requires-clause-few
next_inner-requires-clause-few c = along_may _ c.args.caller.now c.loop-rank.caller c.find_in_page.new.caller _ c.loop-rank.at _ _ _ c.loop-rank.invariant.along c.in_default.ensures.reads c.requires.few

pub loop-rank-preserved : goal.loop-rank-preserved
loop-rank-preserved c =
    let there = goes_there _ c.find_in_page.new.caller _ _ _ _ _ _ _ c.in-Ok-There.field-0-is c.in-Ok-There.ensures.next in record {
      along = along_next _ _ c.loop-rank.caller c.find_in_page.new.caller _ _ c.loop-rank.at _ _ _ _ c.loop-rank.invariant.along c.in_default.ensures.reads c.in_default.ensures.found there.0 there.1;
      stocked = c.in-Ok-There.ensures.stocked;
      loader = c.in-Ok-There.ensures.loader;
    }

pub returns-in-Ok-Made-clause-found : goal.returns-in-Ok-Made-clause-found
returns-in-Ok-Made-clause-found c =
    let limit = c.shape-chain.ensures.limits Chain in let high = limit.1 in let same = ap (λ (k : Shape). k.chain) c.shape-chain.ensures.value in let less = c.loop-rank-test.true in
    made_found _ _ c.loop-rank.caller c.find_in_page.new.caller _ _ c.loop-rank.at _ _ _ _ c.loop-rank.invariant.along c.in_default.ensures.reads (goes_made _ c.find_in_page.new.caller _ _ _ _ _ _ _ c.in-Ok-Made.field-0-is c.in-Ok-Made.ensures.next) c.requires.number (omega arith)

pub overflow_sub-chain : goal.overflow_sub-chain
overflow_sub-chain c = let limit = c.shape-chain.ensures.limits Chain in let low = limit.0 in let same = ap (λ (k : Shape). k.chain) c.shape-chain.ensures.value in omega arith

pub returns-in-Some-find_in_page-clause-stocked : goal.returns-in-Some-find_in_page-clause-stocked
returns-in-Some-find_in_page-clause-stocked c = reads_stocked _ c.loop-rank.caller _ c.in-Some-find_in_page.ensures.reads c.loop-rank.invariant.stocked

pub returns-in-Some-find_in_page-clause-found : goal.returns-in-Some-find_in_page-clause-found
returns-in-Some-find_in_page-clause-found c =
    let limit = c.shape-chain.ensures.limits Chain in let high = limit.1 in let same = ap (λ (k : Shape). k.chain) c.shape-chain.ensures.value in let most = c.loop-rank.auto.rank-end in
    along_found _ _ c.loop-rank.caller _ _ c.loop-rank.at _ _ _ _ c.loop-rank.invariant.along c.in-Some-find_in_page.ensures.reads c.in-Some-find_in_page.ensures.found c.requires.number (omega arith)

pub refuse_chain-requires-clause-walked : goal.refuse_chain-requires-clause-walked
refuse_chain-requires-clause-walked c =
    let limit = c.shape-chain.ensures.limits Chain in let low = limit.0 in let same = ap (λ (k : Shape). k.chain) c.shape-chain.ensures.value in
    seeking_walked _ _ _ _ _ _ c.in-None.ensures.found (omega arith) low

pub returns-in-None-clause-found : goal.returns-in-None-clause-found
returns-in-None-clause-found c =
    let limit = c.shape-chain.ensures.limits Chain in let low = limit.0 in let same = ap (λ (k : Shape). k.chain) c.shape-chain.ensures.value in
    let most = c.loop-rank.auto.rank-end in let past = c.loop-rank-test.false in
    let last : c.loop-rank.rank ≡ c.shape-chain.result.chain - 1 = omega arith in
    chain_stops _ _ _ _ _ c.refuse_chain.ensures.full (along_full _ _ c.loop-rank.caller c.find_in_page-2.new.caller _ _ c.loop-rank.at _ _ _
    (subst (λ (n : ℕ). IsAlong c.args.board.now.shape c.args.caller.now c.loop-rank.caller c.args.first c.loop-rank.at c.args.depth n c.args.target.now) last c.loop-rank.invariant.along)
    c.in-None.ensures.reads c.in-None.ensures.found (omega arith) c.refuse_chain.ensures.after)
