use Rattle.std.proofs.Common.{length, sym, ap, ◌∙◌, arith}
use Rattle.std.proofs.lemmas.List.{take_rest, length-drop}
use Rattle.std.proofs.lemmas.Bool.{eqb-true, eqb-false}
use Rattle.mol_section.specs.Lines.{ends_section}
use Rattle.ctfile.proofs.Looked.{HasPassed-few, HasPassed-within, TakesLines-closed, TakesLines-last, count_last, count_whole, last_full}
use Rattle.ctfile.proofs.cut.last_taken.Goals as goal

pub overflow_add-result : goal.overflow_add-result
overflow_add-result c =
    omega (arith, HasPassed-few _ _ _ c.requires.passed, HasPassed-within _ _ _ c.requires.passed, c.if-starts_with.ensures.bound, ap length (take_rest c.args.bytes.now c.args.looked.at))

pub returns-then-starts_with-clause-taken : goal.returns-then-starts_with-clause-taken
returns-then-starts_with-clause-taken c =
    TakesLines-closed _ _ _ c.requires.passed c.requires.last
    (ap ends_section (sym (take_rest c.args.bytes.now c.args.looked.at)) ∙ sym c.starts_with.ensures.value ∙ c.if-starts_with.true)

pub overflow_add-lines : goal.overflow_add-lines
overflow_add-lines c =
    omega (arith, HasPassed-few _ _ _ c.requires.passed, HasPassed-within _ _ _ c.requires.passed, last_full c.args.bytes.now c.args.looked.at c.is_empty.result c.is_empty.ensures c.if-is_empty.false, length-drop c.args.looked.at c.args.bytes.now)

pub returns-then-is_empty-clause-taken : goal.returns-then-is_empty-clause-taken
returns-then-is_empty-clause-taken c =
    TakesLines-last _ _ _ _ c.requires.passed c.requires.last
    (ap ends_section (sym (take_rest c.args.bytes.now c.args.looked.at)) ∙ sym c.starts_with.ensures.value ∙ c.if-starts_with.false)
    (sym c.has_text.ensures ∙ c.if-not-has_text.false)
    (count_whole _ _ _ c.requires.passed (ap length (sym (take_rest c.args.bytes.now c.args.looked.at)) ∙ eqb-true _ _ (sym c.is_empty.ensures ∙ c.if-is_empty.true)))

pub returns-else-is_empty-clause-taken : goal.returns-else-is_empty-clause-taken
returns-else-is_empty-clause-taken c =
    TakesLines-last _ _ _ _ c.requires.passed c.requires.last
    (ap ends_section (sym (take_rest c.args.bytes.now c.args.looked.at)) ∙ sym c.starts_with.ensures.value ∙ c.if-starts_with.false)
    (sym c.has_text.ensures ∙ c.if-not-has_text.false)
    (count_last _ _ _ c.requires.passed c.requires.last
    (λ e. eqb-false _ _ (sym c.is_empty.ensures ∙ c.if-is_empty.false) (ap length (take_rest c.args.bytes.now c.args.looked.at) ∙ e)))
