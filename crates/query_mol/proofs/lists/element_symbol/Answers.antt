use Rattle.std.proofs.Common.{◌∙◌, arith}
use Rattle.query_mol.proofs.ListSets.{plain_none, plain_isotope, plain_element}
use Rattle.query_mol.proofs.lists.element_symbol.Goals as goal

pub returns-in_err-element-clause-value : goal.returns-in_err-element-clause-value
returns-in_err-element-clause-value c = c.from_residual.ensures ∙ plain_none c.args.word.now c.in_err-element.ensures.value

pub returns-then-mass-eq0-clause-value : goal.returns-then-mass-eq0-clause-value
returns-then-mass-eq0-clause-value c = plain_element c.args.word.now c.in_ok-element.element c.in_ok-element.mass c.in_ok-element.ensures.value (omega arith)

pub returns-else-mass-eq0-clause-value : goal.returns-else-mass-eq0-clause-value
returns-else-mass-eq0-clause-value c = plain_isotope c.args.word.now c.in_ok-element.element c.in_ok-element.mass c.in_ok-element.ensures.value (omega arith)
