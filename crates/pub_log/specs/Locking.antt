-- What the lock is to its holder, and what a call under it leaves.
use Rattle.std.specs.Prelude.{◌≡◌, ℕ, ◌≤◌, List, [], ◌++◌, take}
use Rattle.htss_defs.specs.declared.shape.Shape.{Shape}
use Rattle.htss_defs.specs.declared.history.Event.TheVariants.{Publish, Withdraw}
use Rattle.board_core.specs.declared.account.Account.{Account}
use Rattle.board_core.specs.declared.entry.Entry.{Entry}
use Rattle.board_core.specs.declared.entry.Entry.TheVariants.{Unknown as IsUnknown, Gone as IsGone, LogFull as IsFull}
use Rattle.board_core.specs.declared.log.Holding.TheVariants.{Away, Fronted}
use Rattle.board_core.specs.declared.log.Ending.{Ending}
use Rattle.board_core.specs.Words.{Parts}
use Rattle.board_core.specs.Histories.{history_of, IsOpen}
use Rattle.board_core.specs.LogWord.{publication_word, withdrawal_word}
use Rattle.board_core.specs.Accounts.{nothing}
use Rattle.board_core.specs.Truths.{IsTrueLog}
use Rattle.board_core.specs.Steps.{MayBe}
use Rattle.board_core.specs.Loaded.{Grows}
use Rattle.board_core.specs.After.{noted, after_shows, after_ends, after_logged, after_event, after_free}
use Rattle.board.specs.Staging.{Staging}
use Rattle.pub_log.specs.declared.refusals.WithdrawError.{WithdrawError}
use Rattle.pub_log.specs.declared.refusals.WithdrawError.TheVariants.{Unknown, Gone, LogFull}

-- the account holds the lock, and this is the front under it, which the caller has loaded since; it has stored nothing
pub record IsHeld (k : Shape) (a : Account) (front : ℕ) : Type 0 where
  pub holding : a.log.holding ≡ Fronted
  pub quiet : a.log.pending ≡ nothing
  pub seen : a.log.seen ≡ front
  pub in_log : front ≤ k.log

-- the loader's staged record is published, and the lock is free
abbrev pub after_publication : Account → ℕ → Staging → Account
after_publication a loader s =
    after_free (after_event (after_logged (after_shows a s.block) (publication_word loader s.block))
    (Publish loader s.name s.mol)) []

-- the number of a block is withdrawn by the loader, and the lock is free
abbrev pub after_withdrawal : Account → ℕ → Ending → Account
after_withdrawal a loader e =
    after_free (after_event (after_logged (after_ends a e) (withdrawal_word loader e.target))
    (Withdraw loader e.target)) []

-- whatever the board is by what the account has loaded, the entry is true of it
abbrev pub IsToldBy : Shape → Account → Entry → Type 0
IsToldBy k a e = (p : Parts) → MayBe k p a → IsTrueLog k (history_of k p) e

-- a call under the lock leaves the account so: without the lock, with this front seen and these entries more. It loaded
-- log words and marks alone
pub record IsCalled (a b : Account) (front : ℕ) (es : List Entry) : Type 0 where
  pub who : b.who ≡ a.who
  pub log : b.log ≡ record { seen = front; holding = Away; pending = nothing }
  pub room : b.room ≡ a.room
  pub pool : b.pool ≡ a.pool
  pub tree : b.tree ≡ a.tree
  pub counts : b.counts ≡ a.counts
  pub fronts : b.loads.fronts ≡ a.loads.fronts
  pub loads : b.loads ≡ record a.loads { marks = b.loads.marks; shown = b.loads.shown }
  pub grows : Grows a b
  pub entries : b.entries ≡ a.entries ++ noted b.loads es

-- the entry that a refusal adds
abbrev pub refusal : ℕ → WithdrawError → Entry
refusal number (Unknown front) = IsUnknown number front
refusal number (Gone at) = IsGone number at
refusal number (LogFull front) = IsFull front

-- whatever the board is by what the account has loaded, the number may be withdrawn at this front
abbrev pub IsKnownOpen : Shape → Account → ℕ → ℕ → Type 0
IsKnownOpen k a front number = (p : Parts) → MayBe k p a → IsOpen (take front (history_of k p)) number

-- a refusal tells of the front under the lock; a full log is told of where the number may be withdrawn
abbrev pub IsRefusal : Shape → Account → ℕ → ℕ → WithdrawError → Type 0
IsRefusal k a front number (Unknown at) = at ≡ front
IsRefusal k a front number (Gone at) = at ≤ front
IsRefusal k a front number (LogFull at) = (at ≡ front) × (front ≡ k.log) × IsKnownOpen k a front number
