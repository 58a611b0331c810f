-- A log that breaks no rule, event by event.
use Rattle.std.specs.Prelude.{◌≡◌, ℕ, ◌+◌, ◌-◌, ◌≤◌, List, [], ◌∷◌, ◌++◌, length, set, slice_get, slice_index, Option}
use Rattle.std.specs.Prelude.{Some, None}
use Rattle.htss_defs.specs.Molecule.{Molecule}
use Rattle.htss_defs.specs.declared.shape.Shape.{Shape}
use Rattle.reg_model.specs.Registries.{AreWithdrawals}
use Rattle.report_text.specs.declared.report.LogLine.{LogLine}
use Rattle.report_text.specs.declared.report.LogLine.TheVariants.{Publish, Withdraw}
use Rattle.report_rules.specs.Faults.{IsLogUpTo, told_from}

-- whatever molecules its lines name, the log is legal and by the shape's loaders, and these are the withdrawals: per
-- event the number of the one that withdraws its record, 0 where none does
pub record IsSoundLog (shape : Shape) (events : List LogLine) (withdrawals : List ℕ)
    (named : List (ℕ × Molecule)) : Type 0 where
  pub legal : IsLogUpTo shape (told_from named 1 events) (length events)
  pub are : AreWithdrawals (told_from named 1 events) withdrawals

-- the line tells a publication
abbrev pub IsPublication : Option LogLine → Type 0
IsPublication (Some (Publish loader atoms bonds name)) = Unit {0}
IsPublication (Some (Withdraw loader number)) = ⊥
IsPublication None = ⊥

-- the number is that of a publication that no event has withdrawn
pub record IsOpen (events : List LogLine) (withdrawals : List ℕ) (number : ℕ) : Type 0 where
  pub some : 1 ≤ number
  pub within : number ≤ length withdrawals
  pub publishes : IsPublication (slice_get events (number - 1))
  pub stands : slice_index withdrawals (number - 1) ≡ 0

-- the line may come next
abbrev pub MayFollow : Shape → List LogLine → List ℕ → LogLine → Type 0
MayFollow shape events withdrawals (Publish loader atoms bonds name) = (1 ≤ loader) × (loader ≤ shape.loaders)
MayFollow shape events withdrawals (Withdraw loader number) = (1 ≤ loader) × (loader ≤ shape.loaders)
    × IsOpen events withdrawals number

-- the withdrawals with one more event
abbrev pub with_event : LogLine → List ℕ → List ℕ
with_event (Publish loader atoms bonds name) withdrawals = withdrawals ++ 0 ∷ []
with_event (Withdraw loader number) withdrawals = set (withdrawals ++ 0 ∷ []) (number - 1) (length withdrawals + 1)

-- what the event withdraws stands among the events before
abbrev pub HasPlace : LogLine → List ℕ → Type 0
HasPlace (Publish loader atoms bonds name) withdrawals = Unit {0}
HasPlace (Withdraw loader number) withdrawals = (1 ≤ number) × (number ≤ length withdrawals)

-- the line tells a withdrawal of the target
abbrev pub IsEndOf : LogLine → ℕ → Type 0
IsEndOf (Publish loader atoms bonds name) target = ⊥
IsEndOf (Withdraw loader number) target = number ≡ target
