-- What the lines that were checked before carry, as the code has it.
use Rattle.std.specs.Prelude.{◌≡◌, ℕ, ◌-◌, ◌≤◌, List, length, slice_index_or, Bool, true, false, Contains}
use Rattle.std.specs.List.{flat_map}
use Rattle.report_rules.specs.Rules.{Line}
use Rattle.report_audit.specs.declared.so_far.SoFar.{SoFar}
use Rattle.report_audit.specs.Tallied.{IsOnce, IsTallyOf, owns}

-- the number is one of an event, and no line has it as its own
pub record IsFree (taken : List Bool) (number : ℕ) : Type 0 where
  pub some : 1 ≤ number
  pub within : number ≤ length taken
  pub free : slice_index_or taken (number - 1) true ≡ false

-- for each event whether a line has its number as its own
pub record AreTaken (lines : List Line) (taken : List Bool) : Type 0 where
  pub free : (number : ℕ) → IsFree taken number → IsOnce lines number
  pub held : (number : ℕ) → 1 ≤ number → number ≤ length taken → (IsFree taken number → ⊥)
      → Contains (flat_map owns lines) number

-- the tally of these lines, and which events they name
pub record IsSoFar (lines : List Line) (so_far : SoFar) : Type 0 where
  pub tally : IsTallyOf lines so_far.tally
  pub taken : AreTaken lines so_far.taken.items
