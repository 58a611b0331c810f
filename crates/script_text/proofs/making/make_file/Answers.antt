use Rattle.std.proofs.Common.{arith}
use Rattle.std.proofs.lemmas.Result.{err_from_is_err_and}
use Rattle.script_text.proofs.Generated.{made_start, made_more, made_front, made_cut, made_all, only_text}
use Rattle.script_text.proofs.making.make_file.Goals as goal

pub loop-place-init : goal.loop-place-init
loop-place-init g c = record { made = made_start _ c.args.count c.args.seed; faults = omega arith }

pub returns-in_err-state-clause-err : goal.returns-in_err-state-clause-err
returns-in_err-state-clause-err g c = let p = err_from_is_err_and c.from_residual.result c.from_residual.ensures.1 in rw p.1 (made_front c.loop-place.invariant.made)

pub returns-in_err-write_whole-clause-err : goal.returns-in_err-write_whole-clause-err
returns-in_err-write_whole-clause-err g c =
    let p = err_from_is_err_and c.from_residual-in_err-write_whole.result c.from_residual-in_err-write_whole.ensures.1 in
    let is = only_text _ _ _ _ c.as_slice.ensures.value c.in_ok-state.ensures.text c.clear.ensures.items in
    rw p.1 (made_cut _ _ _ _ _ _ _ _ c.loop-place-test.true c.loop-place.invariant.made c.in_err-write_whole.ensures.err is)

pub loop-place-preserved : goal.loop-place-preserved
loop-place-preserved g c =
    let is = only_text _ _ _ _ c.as_slice.ensures.value c.in_ok-state.ensures.text c.clear.ensures.items in
    record {
      made = made_more _ _ _ _ _ _ _ _ _ c.loop-place-test.true c.loop-place.invariant.made c.in_ok-write_whole.ensures.ok is c.in_ok-state.ensures.state;
      faults = omega (arith, c.loop-place.invariant.faults, c.write_whole.ensures.later);
    }

pub returns-clause-ok : goal.returns-clause-ok
returns-clause-ok g c = made_all _ _ _ _ _ _ c.loop-place-test.false c.loop-place.invariant.made
