-- Which record each event is named by, as the code has it.
use Rattle.std.specs.Prelude.{◌≡◌, ◌⊎◌, ℕ, ◌+◌, ◌<◌, List, [], ◌∷◌, length, slice_index_or, Bool, true, false, ◌==◌}
use Rattle.std.specs.Prelude.{◌||◌, Option, Some, None}
use Rattle.htss_defs.specs.Molecule.{Molecule}
use Rattle.script_text.specs.declared.script.Order.{Order}
use Rattle.report_text.specs.declared.report.Block.{Block}
use Rattle.report_text.specs.declared.report.Block.TheVariants as block
use Rattle.report_text.specs.declared.report.LoadLine.{LoadLine}
use Rattle.report_rules.specs.Dealing.{Dealt}
use Rattle.report_rules.specs.Faults.{IsBlockFor, IsNamedIn, molecule_named, no_molecule}
use Rattle.told_history.specs.declared.reads.JobRead.{JobRead}
use Rattle.told_history.specs.declared.reads.JobRead.TheVariants.{Records, Asked, Nothing}
use Rattle.told_history.specs.declared.records.RecordRead.{RecordRead}
use Rattle.told_history.specs.declared.names.Namer.{Namer}
use Rattle.told_history.specs.declared.names.Namer.TheVariants.{Nobody, NoRecord, Record}

-- whether the number is among the named
abbrev pub is_named : List (ℕ × Molecule) → ℕ → Bool
is_named [] number = false
is_named (one ∷ named) number = number == one.0 || is_named named number

-- what is known of the event of this number
abbrev pub IsNamer : List (ℕ × Molecule) → ℕ → Namer → Type 0
IsNamer named number Nobody = is_named named number ≡ false
IsNamer named number NoRecord = (is_named named number ≡ true) × (molecule_named named number ≡ no_molecule)
IsNamer named number (Record mol) = (is_named named number ≡ true) × (molecule_named named number ≡ mol.now)

-- the same of each event of a log
abbrev pub IsTable : List (ℕ × Molecule) → List Namer → Type 0
IsTable named table = (i : ℕ) (d : Namer) → i < length table → IsNamer named (i + 1) (slice_index_or table i d)

-- the namer of an event that a line names with this molecule
abbrev pub IsWith : Molecule → Namer → Type 0
IsWith mol Nobody = ⊥
IsWith mol NoRecord = mol ≡ no_molecule
IsWith mol (Record one) = mol ≡ one.now

-- the records that a file was read as, and the lines of a block
abbrev pub records_in : JobRead → List RecordRead
records_in (Records records) = records.items
records_in (Asked outcome) = []
records_in Nothing = []

abbrev pub lines_in : Block → List LoadLine
lines_in (block.Load line file lines) = lines
lines_in (block.Withdraw line number answer) = []
lines_in (block.Search line file answer) = []

-- the lines of the block, where it is that of this job
abbrev pub AreLinesFor : ℕ → Order → Block → List LoadLine → Type 0
AreLinesFor line order here lines = (IsBlockFor line order here × (lines ≡ lines_in here))
    ⊎ ((IsBlockFor line order here → ⊥) × (lines ≡ []))

-- what the block names, if one stands there
abbrev pub IsNamedAt : List (ℕ × List ℕ) → Dealt → Option Block → List (ℕ × Molecule) → Type 0
IsNamedAt files one None named = named ≡ []
IsNamedAt files one (Some here) named = IsNamedIn files one here named
