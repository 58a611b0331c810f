-- Histories of a registry: publications and withdrawals, in their order (this project's own).
use Rattle.std.specs.Prelude.{◌≡◌, ℕ, ◌-◌, ◌<◌, ◌≤◌, List, map, Some, slice_get}
use Rattle.htss_defs.specs.declared.history.Event.{Event}
use Rattle.htss_defs.specs.declared.history.Event.TheVariants.{Publish, Withdraw}
use Rattle.htss_defs.specs.declared.record.NamedMol.{NamedMol}
use Rattle.htss_defs.specs.Molecule.{Molecule}

-- the event of this number, counted from 1
abbrev pub HasEvent : List Event → ℕ → Event → Type 0
HasEvent history number event = (1 ≤ number) × (slice_get history (number - 1) ≡ Some event)

-- event `number` publishes this record
pub record Publishes (history : List Event) (number : ℕ) (name : List ℕ) (mol : Molecule) : Type 0 where
  pub caller : ℕ
  pub event : HasEvent history number (Publish caller name mol)

-- event `number` withdraws the record of number `target`
pub record Withdraws (history : List Event) (number target : ℕ) : Type 0 where
  pub caller : ℕ
  pub event : HasEvent history number (Withdraw caller target)

-- every withdrawal names an earlier publication that no other withdrawal names
pub record IsLegal (history : List Event) : Type 0 where
  pub earlier : (number target : ℕ) → Withdraws history number target → (target < number) × (name : List ℕ)
      × (mol : Molecule) × Publishes history target name mol
  pub once : (number other target : ℕ) → Withdraws history number target → Withdraws history other target
      → number ≡ other

-- the record of this number is published and not withdrawn
pub record IsLive (history : List Event) (number : ℕ) (name : List ℕ) (mol : Molecule) : Type 0 where
  pub published : Publishes history number name mol
  pub stays : (later : ℕ) → Withdraws history later number → ⊥

-- the history of the records of one file, published in their order by one caller
abbrev pub publications : List NamedMol → List Event
publications records = map (λ e. Publish 1 e.name e.mol) records
