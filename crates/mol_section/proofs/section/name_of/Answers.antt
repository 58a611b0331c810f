use Rattle.std.proofs.Common.{sym, ap, ◌∙◌, subst}
use Rattle.htss_defs.specs.Name.{IsName}
use Rattle.mol_section.specs.Fields.{trim_ends}
use Rattle.mol_section.proofs.HeaderNames.{IsName-visible}
use Rattle.mol_section.proofs.section.name_of.Goals as goal

pub unwrap-requires : goal.unwrap-requires
unwrap-requires c = c.new.ensures.valid.1 (subst IsName (sym (c.trim.ensures.text ∙ ap trim_ends (c.as_slice.ensures.value ∙ c.visible-text.ensures))) (IsName-visible c.args.line.now))
