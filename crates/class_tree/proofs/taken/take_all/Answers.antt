use Rattle.std.proofs.Common.{arith, sym, ◌∙◌, length-set}
use Rattle.class_tree.proofs.Takings.{none_more, all_refused, all_refused_reached, takes_more, few_taken}
use Rattle.class_tree.proofs.taken.take_all.Goals as goal

pub keep_all-requires-clause-taken : goal.keep_all-requires-clause-taken
keep_all-requires-clause-taken c = none_more _ c.loop-i.caller _ _ _ c.loop-i.invariant.takes.taken (c.in-Err.ensures.of.shape ∙ sym (c.loop-i.invariant.takes.goes.shape ∙ c.requires.fits.shape)) c.in-Err.ensures.none.1

pub returns-in-Err-clause-refused : goal.returns-in-Err-clause-refused
returns-in-Err-clause-refused c = all_refused _ _ c.loop-i.caller c.take.new.caller _ _ c.loop-i.i _ c.loop-i.invariant.takes c.in-Err.ensures.none.0 c.in-Err.ensures.none.1 c.keep_all.ensures.only c.keep_all.ensures.size c.loop-i-test.true

pub returns-in-Err-clause-reached : goal.returns-in-Err-clause-reached
returns-in-Err-clause-reached c = all_refused_reached _ _ c.loop-i.caller c.take.new.caller _ _ c.loop-i.i c.loop-i.invariant.takes c.in-Err.ensures.none.1 c.keep_all.ensures.only

pub loop-i-preserved : goal.loop-i-preserved
loop-i-preserved c =
    let less = c.loop-i-test.true in
    let most = c.requires.need in record {
      size = length-set c.loop-i.pages c.loop-i.i c.in-Ok.page ∙ c.loop-i.invariant.size;
      takes = takes_more _ _ c.loop-i.caller _ _ _ _ c.loop-i.invariant.takes c.in-Ok.ensures.ok.1 c.in-Ok.ensures.ok.0 (sym c.in-Ok.ensures.of.shape) (omega arith) c.loop-i.invariant.size;
    }

pub take-requires-clause-few : goal.take-requires-clause-few
take-requires-clause-few c = few_taken _ _ _ c.loop-i.invariant.takes.taken
