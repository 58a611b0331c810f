use Rattle.std.proofs.Common.{sym, ◌∙◌, arith}
use Rattle.ctfile.proofs.Looked.{IsLooked-new, HasPassed-line, HasPassed-few, IsLineAt-within, IsLineAt-from, IsSection-from, after_is}
use Rattle.ctfile.proofs.cut.look.Goals as goal

pub returns-then-starts_with-clause-end : goal.returns-then-starts_with-clause-end
returns-then-starts_with-clause-end c =
    let is = IsLineAt-from _ _ c.in-Some.line.now c.in-Some.after.now _ c.loop-line.invariant.rest c.in-Some.ensures.line c.in-Some.ensures.parts in
    IsSection-from _ _ _ _ _ c.loop-line.invariant.looked.passed is (sym c.starts_with.ensures.value ∙ c.if-starts_with.true)

pub overflow_add-looked : goal.overflow_add-looked
overflow_add-looked c =
    let is = IsLineAt-from c.args.bytes.now c.loop-line.rest.now c.in-Some.line.now c.in-Some.after.now c.loop-line.looked.at c.loop-line.invariant.rest c.in-Some.ensures.line c.in-Some.ensures.parts in
    omega (arith, HasPassed-few _ _ _ c.loop-line.invariant.looked.passed, IsLineAt-within _ _ _ _ is)

pub loop-line-preserved : goal.loop-line-preserved
loop-line-preserved c =
    let is = IsLineAt-from _ _ c.in-Some.line.now c.in-Some.after.now _ c.loop-line.invariant.rest c.in-Some.ensures.line c.in-Some.ensures.parts in
    record {
      looked = IsLooked-new _ _ _ (HasPassed-line _ _ _ _ _ c.loop-line.invariant.looked.passed is (sym c.starts_with.ensures.value ∙ c.if-starts_with.false));
      rest = after_is _ _ _ _ _ c.loop-line.invariant.looked.passed is;
    }
