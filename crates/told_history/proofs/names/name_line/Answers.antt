use Rattle.std.proofs.Common.{◌≡◌, ℕ, List, [], ◌∷◌, ◌++◌, drop, map, sym, ap, subst, ◌∙◌}
use Rattle.htss_defs.specs.Molecule.{Molecule}
use Rattle.report_rules.specs.Faults.{first_molecule, naming}
use Rattle.told_history.specs.Named.{IsTable}
use Rattle.told_history.specs.Reads.{outcome_of}
use Rattle.told_history.proofs.names.name_line.Goals as goal

one_name : ℕ → Molecule → List (ℕ × Molecule)
one_name number mol = (number, mol) ∷ []

pub returns-in-Published : goal.returns-in-Published
unfolding one_name
returns-in-Published c =
    let mol = first_molecule (drop c.args.index (map outcome_of c.args.records.now)) in
    λ named is. subst (λ (x : List (ℕ × Molecule)). IsTable (named ++ x) c.name_event.new.table)
    (ap (one_name c.in-Published.number) c.molecule_at.ensures ∙ sym (ap (naming mol) c.in-Published.is))
    (c.name_event.ensures named is)
