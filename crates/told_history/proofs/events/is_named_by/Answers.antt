use Rattle.std.proofs.Common.{◌≡◌, ◌⊎◌, inl, inr, ℕ, Bool, true, false, List, [], ◌∷◌, ap, sym, refl, subst, ◌∙◌, length, arith}
use Rattle.std.specs.Prelude.{◌==◌, ◌||◌, if◌then◌else◌}
use Rattle.htss_defs.specs.Molecule.{Molecule}
use Rattle.report_rules.specs.Faults.{molecule_named, no_molecule}
use Rattle.told_history.specs.declared.names.Namer.{Namer}
use Rattle.told_history.specs.declared.names.Namer.TheVariants.{Nobody, NoRecord, Record}
use Rattle.told_history.specs.Named.{IsNamer, is_named}
use Rattle.told_history.proofs.Naming.{unnamed_molecule}
use Rattle.told_history.proofs.events.is_named_by.Goals as goal

none : (namer : Namer) (named : List (ℕ × Molecule)) (number : ℕ) → (namer ≡ NoRecord) ⊎ (namer ≡ Nobody) → IsNamer named number namer → molecule_named named number ≡ no_molecule
none namer named number (inl is) known = (subst (IsNamer named number) is known).1
none namer named number (inr is) known = unnamed_molecule named number (subst (IsNamer named number) is known)

pub returns-in-NoRecord : goal.returns-in-NoRecord
returns-in-NoRecord c =
    let some = c.atoms.ensures.valid.atoms in
    let long = ap length c.atoms.ensures.items in
    record {
      is = λ yes named number known. (
          let empty : length c.atoms.result.now ≡ 0 = grind (arith, c.is_empty.ensures, yes) in
          absurd (omega (arith, some.0, long, empty)));
      other = λ no named number known same. (
          let nothing : length c.args.mol.now.atoms ≡ 0 = ap (λ (m : Molecule). length m.atoms) (sym same ∙ none c.args.namer named number c.in-NoRecord.is known) in
          absurd (omega (arith, some.0, nothing)));
    }
