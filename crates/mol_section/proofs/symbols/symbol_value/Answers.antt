use Rattle.std.proofs.Common.{arith, sym, ap, ◌∙◌, ◌+◌, ℕ}
use Rattle.std.specs.Prelude.{Some, option_and_then}
use Rattle.mol_section.proofs.SymbolRows.{symbol_value-place}
use Rattle.mol_section.proofs.symbols.symbol_value.Goals as goal

pub returns-in-None-clause-value : goal.returns-in-None-clause-value
returns-in-None-clause-value c = ap (option_and_then (λ (i : ℕ). Some (i + 1, 0))) (c.in-None.ensures.place) ∙ sym (symbol_value-place c.args.symbol.now
    (grind (arith, c.eq.ensures, c.if-eq.false, c.as_slice.ensures)) (grind (arith, c.eq-2.ensures, c.if-eq-2.false, c.as_slice-2.ensures)))

pub returns-in-Some-clause-value : goal.returns-in-Some-clause-value
returns-in-Some-clause-value c = ap (option_and_then (λ (i : ℕ). Some (i + 1, 0))) (c.in-Some.ensures.place) ∙ sym (symbol_value-place c.args.symbol.now
    (grind (arith, c.eq.ensures, c.if-eq.false, c.as_slice.ensures)) (grind (arith, c.eq-2.ensures, c.if-eq-2.false, c.as_slice-2.ensures)))
