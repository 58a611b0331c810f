use Rattle.std.proofs.Common.{length, refl, sym, ◌∙◌}
use Rattle.mol_section.specs.SectionLines.{listed_charge, lists_charges, line_entries}
use Rattle.mol_section.specs.PropertyLines.{put_charge, put_charges}
use Rattle.mol_section.proofs.Entries.{line_is, passes_lists, puts_lists}
use Rattle.mol_section.proofs.properties.take_charges.Goals as goal

pub returns-then-starts_with-clause-passes : goal.returns-then-starts_with-clause-passes
returns-then-starts_with-clause-passes c =
    passes_lists _ _ _ (sym c.starts_with.ensures.value ∙ c.if-starts_with.true) (line_is listed_charge put_charge _ c.args.line.now _ _ _ _ refl c.list_charges.ensures.read).0

pub returns-then-starts_with-clause-atoms : goal.returns-then-starts_with-clause-atoms
unfolding put_charges
returns-then-starts_with-clause-atoms c = λ is.
    puts_lists put_charge (lists_charges c.args.line.now) (line_entries listed_charge (length c.args.atoms.now) c.args.line.now) c.args.atoms.now c.list_charges.new.atoms (sym c.starts_with.ensures.value ∙ c.if-starts_with.true) ((line_is listed_charge put_charge _ c.args.line.now _ _ _ _ refl c.list_charges.ensures.read).1 is)
