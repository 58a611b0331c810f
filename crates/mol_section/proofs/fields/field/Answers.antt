use Rattle.std.proofs.Common.{◌∙◌}
use Rattle.mol_section.proofs.Texts.{field-columns}
use Rattle.mol_section.proofs.fields.field.Goals as goal

pub returns-clause-text : goal.returns-clause-text
returns-clause-text c = c.trim.ensures.text ∙ field-columns c.args.line.now _ _ _ c.columns.ensures
