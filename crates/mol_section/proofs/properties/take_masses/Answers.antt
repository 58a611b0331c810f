use Rattle.std.proofs.Common.{length, refl, sym, ◌∙◌}
use Rattle.mol_section.specs.SectionLines.{listed_mass, lists_masses, line_entries}
use Rattle.mol_section.specs.PropertyLines.{put_mass, put_masses}
use Rattle.mol_section.proofs.Entries.{line_is, passes_lists, puts_lists}
use Rattle.mol_section.proofs.properties.take_masses.Goals as goal

pub returns-then-starts_with-clause-passes : goal.returns-then-starts_with-clause-passes
returns-then-starts_with-clause-passes c =
    passes_lists _ _ _ (sym c.starts_with.ensures.value ∙ c.if-starts_with.true) (line_is listed_mass put_mass _ c.args.line.now _ _ _ _ refl c.list_masses.ensures.read).0

pub returns-then-starts_with-clause-atoms : goal.returns-then-starts_with-clause-atoms
unfolding put_masses
returns-then-starts_with-clause-atoms c = λ is.
    puts_lists put_mass (lists_masses c.args.line.now) (line_entries listed_mass (length c.args.atoms.now) c.args.line.now) c.args.atoms.now c.list_masses.new.atoms (sym c.starts_with.ensures.value ∙ c.if-starts_with.true) ((line_is listed_mass put_mass _ c.args.line.now _ _ _ _ refl c.list_masses.ensures.read).1 is)
