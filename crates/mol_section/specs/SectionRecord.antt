-- The record of a section: its name and its molecule, or the line that is refused. (CTfile Formats, "The Header Block"
-- for the name, "The Atom Block", "The Bond Block" and "The Properties Block". How names are kept, and that a list of
-- charges or of radicals sets aside the charges of the atom block, is this project's own profile.)
use Rattle.std.specs.Prelude.{◌≡◌, ◌⊎◌, ℕ, ◌+◌, ◌<◌, pos, List, [], ◌++◌, ◌∷◌, length, take, map, Option, None, Some}
use Rattle.std.specs.Prelude.{unwrap_or, Bool, true, false, ◌==◌, ◌&&◌, ◌||◌, nat_le, fold, slice_get, if◌then◌else◌}
use Rattle.std.specs.List.{list_any, zip, range_with_len, filter_map}
use lib.Chars.{codes}
use Rattle.htss_defs.specs.declared.mol.Atom.{Atom}
use Rattle.htss_defs.specs.declared.mol.Bond.{Bond}
use Rattle.htss_defs.specs.Molecule.{Molecule}
use Rattle.htss_defs.specs.Marked.{IsMarked, unmarked_molecule}
use Rattle.mol_section.specs.declared.outcome.SectionOutcome.{SectionOutcome}
use Rattle.mol_section.specs.declared.outcome.SectionOutcome.TheVariants.{Accepted, Refused}
use Rattle.mol_section.specs.Fields.{trim_ends, begins, field}
use Rattle.mol_section.specs.SectionLines.{Kind, atom, bond, property, end_mark, kinds_of, refusal, symbol_value}
use Rattle.mol_section.specs.SectionLines.{charge_value, bond_first, bond_second, bond_kind, line_entries}
use Rattle.mol_section.specs.SectionLines.{listed_charge, listed_mass, lists_charges, lists_masses, atom_count}

-- the name: of the first 80 bytes of the first line those that are not printable as `?`, without spaces at both ends
abbrev pub name_of : List ℕ → List ℕ
name_of line = trim_ends (map (λ b. if nat_le 32 b && nat_le b 126 then b else 63) (take 80 line))

-- the lines of one kind
abbrev pub kind_is : Kind → Kind → Bool
kind_is atom atom = true
kind_is bond bond = true
kind_is property property = true
kind_is end_mark end_mark = true
kind_is _ _ = false

abbrev pub lines_of_kind : Kind → List (List ℕ) → List (List ℕ)
lines_of_kind kind lines = filter_map (λ (line, is). if kind_is kind is then Some line else None)
    (zip lines (kinds_of lines))

-- all entries of the lines of one sort, in order
abbrev pub all_entries : {V : Type 0} → (List ℕ → Option V) → (List ℕ → Bool) → ℕ → List (List ℕ) → List (ℕ × V)
all_entries value is_of atoms [] = []
all_entries value is_of atoms (line ∷ lines) =
    (if is_of line then unwrap_or (line_entries value atoms line) [] else []) ++ all_entries value is_of atoms lines

-- the last entry of an atom, else the value that stands without one
abbrev pub last_entry : {V : Type 0} → V → ℕ → List (ℕ × V) → V
last_entry value place entries = fold (λ v entry. if entry.0 == place then entry.1 else v) value entries

-- a list of charges, or of radicals, sets aside all charges of the atom block
abbrev pub sets_charges_aside : List (List ℕ) → Bool
sets_charges_aside properties = list_any (λ line. lists_charges line || begins line (codes "M  RAD")) properties

abbrev pub atom_of : ℕ → List (List ℕ) → ℕ × List ℕ → Atom
atom_of atoms properties (place, line) =
    let symbol = unwrap_or (symbol_value (field 32 34 line)) (0, 0) in
    let block_charge = if sets_charges_aside properties then pos 0 else unwrap_or (charge_value (field 37 39 line))
    (pos 0) in
    record {
      element = symbol.0;
      charge = last_entry block_charge place (all_entries listed_charge lists_charges atoms properties);
      mass = last_entry symbol.1 place (all_entries listed_mass lists_masses atoms properties);
    }

abbrev pub bond_of : List ℕ → Bond
bond_of line = record { first = bond_first line; second = bond_second line; kind = bond_kind line; ring = false }

-- the molecule of a section that is not refused, its bonds not marked yet
abbrev pub molecule_of : List (List ℕ) → Molecule
molecule_of lines =
    let atom_lines = lines_of_kind atom lines in
    record {
      atoms = map (atom_of (atom_count lines) (lines_of_kind property lines))
          (zip (range_with_len 1 (length atom_lines)) atom_lines);
      bonds = map bond_of (lines_of_kind bond lines);
    }

-- the refusal of line i of the section, counted from 0
abbrev pub LineRefusal : List (List ℕ) → ℕ → Option ℕ → Type 0
LineRefusal lines i code = (kind : Kind) × (slice_get (kinds_of lines) i ≡ Some kind) × (refusal lines i kind ≡ code)

-- the first n lines are not refused
abbrev pub AcceptsLines : List (List ℕ) → ℕ → Type 0
AcceptsLines lines n = (i : ℕ) → i < n → LineRefusal lines i None

abbrev pub HasEnd : List (List ℕ) → Type 0
HasEnd lines = (i : ℕ) × (slice_get (kinds_of lines) i ≡ Some end_mark)

pub data Outcome : Type 0 where
  accepted : (name : List ℕ) (mol : Molecule) → Outcome
  refused : (line code : ℕ) → Outcome

-- no line is refused, there is an end mark, and the molecule is that of the lines, its ring bonds marked
pub record IsAccepted (lines : List (List ℕ)) (name : List ℕ) (mol : Molecule) : Type 0 where
  pub passes : AcceptsLines lines (length lines)
  pub ends : HasEnd lines
  pub name_is : name ≡ name_of (unwrap_or (slice_get lines 0) [])
  pub mol_is : unmarked_molecule mol ≡ molecule_of lines
  pub marked : IsMarked mol

-- line i is the first that is refused
pub record IsRefusedAt (lines : List (List ℕ)) (i code : ℕ) : Type 0 where
  pub before : AcceptsLines lines i
  pub here : LineRefusal lines i (Some code)

-- no line is refused, and there is no end mark: the code of that, told at the line after the last
pub record HasNoEnd (lines : List (List ℕ)) (i code : ℕ) : Type 0 where
  pub passes : AcceptsLines lines (length lines)
  pub none : HasEnd lines → ⊥
  pub at : i ≡ length lines
  pub code_is : code ≡ 12

-- the outcome of a section whose first line has this number
abbrev pub IsOutcome : ℕ → List (List ℕ) → Outcome → Type 0
IsOutcome first lines (accepted name mol) = IsAccepted lines name mol
IsOutcome first lines (refused line code) = (i : ℕ) × (line ≡ first + i)
    × (IsRefusedAt lines i code ⊎ HasNoEnd lines i code)

-- the outcome that the code answers
abbrev pub outcome_of : SectionOutcome → Outcome
outcome_of (Accepted name mol) = accepted name mol
outcome_of (Refused line code) = refused line code
