use Rattle.std.proofs.Common.{◌≡◌, ℕ, ◌-◌, length, All}
use Rattle.std.specs.Prelude.{fold}
use Rattle.std.specs.Option.{option_map}
use Rattle.mol_section.specs.AtomLines.{IsAtomFrom}
use Rattle.mol_section.specs.Fields.{words_of}
use Rattle.mol_section.specs.SectionLines.{entries, listed_entries, listed_mass}
use Rattle.mol_section.specs.PropertyLines.{put_mass}
use Rattle.mol_section.proofs.properties.list_masses.Given as goal

abbrev pub invariant-loop : goal.invariant-loop
invariant-loop l = record {
  read : option_map (fold put_mass l.atoms) (entries listed_mass (length l.fn.atoms) (l.count - l.counter) (words_of l.rest)) ≡ option_map (fold put_mass l.fn.atoms) (listed_entries listed_mass (length l.fn.atoms) (words_of l.text));
  valid : (least : ℕ) → All (IsAtomFrom least) l.fn.atoms → All (IsAtomFrom least) l.atoms;
}
