use Rattle.std.proofs.Common.{sym, ◌∙◌}
use Rattle.mol_section.proofs.SymbolRows.{charge_value-code}
use Rattle.mol_section.proofs.symbols.charge_value.Goals as goal

pub returns-in-Some-clause-charge : goal.returns-in-Some-clause-charge
returns-in-Some-clause-charge c = c.charge_of.ensures.charge ∙ sym (charge_value-code c.args.text.now c.in-Some.code (sym c.in-Some.ensures.value))
