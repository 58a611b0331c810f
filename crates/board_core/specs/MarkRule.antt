-- The two marks of a block: the first is the number of the event that publishes it, the last the number of the event
-- that withdraws this publication. Each is stored one step before its event, as the front + 1, while the event is
-- pending.
use Rattle.std.specs.Prelude.{◌≡◌, ℕ, ◌+◌, ◌-◌, ◌<◌, ◌≤◌, List, Some, None}
use mathlib.Core.Option.{some}
use lib.ListN.{get_elem?}
use Rattle.htss_defs.specs.declared.shape.Shape.{Shape}
use Rattle.board_core.specs.declared.account.Account.{Account}
use Rattle.board_core.specs.declared.account.View.{View}
use Rattle.board_core.specs.declared.log.Ending.{Ending}
use Rattle.board_core.specs.declared.log.Pending.{Pending}
use Rattle.board_core.specs.declared.room.RoomAccount.{RoomAccount}
use Rattle.board_core.specs.declared.room.Sealed.{Sealed}
use Rattle.board_core.specs.Each.{Each}
use Rattle.board_core.specs.LogWord.{target_in, ShowsBlock, EndsNumber}
use Rattle.board_core.specs.Blocks.{shown_at, ended_at}
use Rattle.board_core.specs.Histories.{block_at}
use Rattle.board_core.specs.Accounts.{EachAccount}
use Rattle.board_core.specs.RoomRule.{IsSealed, SomeAccount}

-- a log word of the first so many, by its event's number from 1, publishes this block
pub record ShowsAt (front : ℕ) (slots : ℕ → ℕ) (block number : ℕ) : Type 0 where
  pub above : 0 < number
  pub within : number ≤ front
  pub kind : ShowsBlock (slots (number - 1))
  pub names : target_in (slots (number - 1)) ≡ block

-- and withdraws a publication of this block
pub record EndsAt (front : ℕ) (slots : ℕ → ℕ) (block number : ℕ) : Type 0 where
  pub above : 0 < number
  pub within : number ≤ front
  pub kind : EndsNumber (slots (number - 1))
  pub shown : ShowsAt front slots block (target_in (slots (number - 1)))

-- a mark is n exactly where event n is the one, or n is the front + 1 and some caller has it pending
pub record MarkFits (front : ℕ) (IsEvent : ℕ → Type 0) (IsPending : Type 0) (mark : ℕ) : Type 0 where
  pub told : 0 < mark → mark ≤ front → IsEvent mark
  pub ahead : front < mark → (mark ≡ front + 1) × IsPending
  pub stands : (number : ℕ) → IsEvent number → mark ≡ number

abbrev pub is_shown_by : ℕ → Account → Type 0
is_shown_by block a = a.log.pending.shows ≡ Some block

abbrev pub is_ended_by : ℕ → Account → Type 0
is_ended_by block a = (e : Ending) × (a.log.pending.ends ≡ Some e) × (e.block ≡ block)

-- what is pending is one event, and its mark stands ahead of the front
pub record PendingFits (k : Shape) (regions : ℕ → ℕ) (front : ℕ) (slots : ℕ → ℕ) (p : Pending) : Type 0 where
  pub shows : (block : ℕ) → p.shows ≡ Some block → (p.ends ≡ None) × (block_at k regions block shown_at ≡ front + 1)
  pub ends : (e : Ending) → p.ends ≡ Some e → ShowsAt front slots e.block e.target
      × (block_at k regions e.block ended_at ≡ front + 1)
  pub publication : (word : ℕ) → p.logged ≡ Some word → ShowsBlock word → p.shows ≡ Some (target_in word)
  pub withdrawal : (word : ℕ) → p.logged ≡ Some word → EndsNumber word → (e : Ending) × (p.ends ≡ Some e)
      × (e.target ≡ target_in word)

-- the place of a block is among these
abbrev pub IsAmong : List ℕ → ℕ → Type 0
IsAmong places place = (j : ℕ) × (get_elem? places j ≡ some place)

-- what is noted as published is sealed
abbrev pub AreListed : RoomAccount → Type 0
AreListed r = (place : ℕ) → IsAmong r.published place → IsSealed r.sealed place

-- the sealed blocks of one account: their marks, and which of them are published
pub record MarksFit (k : Shape) (regions : ℕ → ℕ) (front : ℕ) (slots : ℕ → ℕ) (vs : List View) (published : List ℕ)
    (s : Sealed) : Type 0 where
  pub first : MarkFits front (ShowsAt front slots s.place) (SomeAccount (is_shown_by s.place) vs)
      (block_at k regions s.place shown_at)
  pub last : MarkFits front (EndsAt front slots s.place) (SomeAccount (is_ended_by s.place) vs)
      (block_at k regions s.place ended_at)
  pub noted : (number : ℕ) → ShowsAt front slots s.place number → IsAmong published s.place

pub record MarkRule (k : Shape) (regions : ℕ → ℕ) (front : ℕ) (slots : ℕ → ℕ) (vs : List View) : Type 0 where
  pub pending : EachAccount (λ a. PendingFits k regions front slots a.log.pending) vs
  pub marks : EachAccount (λ a. Each (MarksFit k regions front slots vs a.room.published) a.room.sealed) vs
  pub listed : EachAccount (λ a. AreListed a.room) vs
