use Rattle.std.proofs.Common.{ℕ, List, sym, ap, ◌∙◌}
use Rattle.std.specs.Str.{bytes_eq}
use Rattle.mol_section.specs.Fields.{trim_ends}
use Rattle.mol_section.proofs.SymbolRows.{element_place-row}
use Rattle.mol_section.proofs.symbols.is_at.Goals as goal

pub returns : goal.returns
returns c = λ is.
    element_place-row c.args.symbol.now c.args.place c.requires
    (ap (λ (row : List ℕ). bytes_eq row c.args.symbol.now) (ap trim_ends (sym c.as_slice.ensures) ∙ sym c.trim.ensures.text) ∙ sym c.eq.ensures ∙ is)
