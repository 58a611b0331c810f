use Rattle.std.proofs.Common.{◌≡◌, ℕ, subst, arith}
use Rattle.class_tree.specs.Walking.{IsSeeking}
use Rattle.class_tree.proofs.Pages.{reads_same, reads_slot, reads_on, reads_of}
use Rattle.class_tree.proofs.Finding.{stands_within, seeking_on, code_stands}
use Rattle.class_tree.proofs.find.find_in_page.Goals as goal

pub loop-index-init : goal.loop-index-init
loop-index-init c = record { reads = reads_same _ _; seeking = c.requires.seeking }

pub claim-requires-clause-fits : goal.claim-requires-clause-fits
claim-requires-clause-fits c = reads_of _ _ _ _ c.requires.fits c.loop-index.invariant.reads

pub claim-requires-clause-seeking : goal.claim-requires-clause-seeking
claim-requires-clause-seeking c = c.loop-index.invariant.seeking

pub returns-then-claim-target-clause-reads : goal.returns-then-claim-target-clause-reads
returns-then-claim-target-clause-reads c = reads_on _ c.loop-index.caller _ _ c.loop-index.invariant.reads (reads_slot c.loop-index.caller _ c.args.at _ (stands_within _ _ _ _ _ _ _ c.loop-index.invariant.seeking) c.claim.ensures.after)

pub returns-then-claim-target-clause-found : goal.returns-then-claim-target-clause-found
returns-then-claim-target-clause-found c = code_stands _ c.loop-index.caller _ _ _ _ _ _ _ c.loop-index.invariant.seeking c.loop-index-test.true c.claim.ensures.after c.claim.ensures.some c.if-claim-target.true

pub loop-index-preserved : goal.loop-index-preserved
loop-index-preserved c = record {
  reads = reads_on _ c.loop-index.caller _ _ c.loop-index.invariant.reads (reads_slot c.loop-index.caller _ c.args.at _ (stands_within _ _ _ _ _ _ _ c.loop-index.invariant.seeking) c.claim.ensures.after);
  seeking = seeking_on _ c.loop-index.caller _ _ _ _ _ _ _ c.loop-index.invariant.seeking c.claim.ensures.after c.claim.ensures.some c.if-claim-target.false;
}

pub returns-clause-reads : goal.returns-clause-reads
returns-clause-reads c = c.loop-index.invariant.reads

pub returns-clause-found : goal.returns-clause-found
returns-clause-found c =
    let most = c.loop-index.auto.index-end in
    let past = c.loop-index-test.false in
    let is : c.loop-index.index ≡ 7 = omega arith in subst (λ (n : ℕ). IsSeeking c.args.board.now.shape c.loop-index.caller.account c.args.at c.args.depth c.args.rank n c.args.target.now) is c.loop-index.invariant.seeking
