-- What contracts see of a board, of a caller and of a note.
use Rattle.std.specs.Prelude.{◌≡◌, ◌≢◌, ◌<◌, ℕ, Bool, true, false, List, []}
use mathlib.Core.Option.{some}
use lib.ListN.{get_elem?}
use Rattle.atomic_table.specs.Seated.{TableId}
use Rattle.htss_defs.specs.declared.shape.Shape.{Shape}
use Rattle.board_core.specs.declared.account.Account.{Account}
use Rattle.board_core.specs.declared.account.View.{View}
use Rattle.board_core.specs.declared.account.Who.{Who}
use Rattle.board_core.specs.declared.account.Who.TheVariants.{Opener, Loader, Searcher, Note, Gone}
use Rattle.board_core.specs.declared.log.Holding.TheVariants.{Away}
use Rattle.board_core.specs.declared.pool.Own.{Own}
use Rattle.board_core.specs.Each.{Each}
use Rattle.board_core.specs.Sheets.{owns}
use Rattle.board_core.specs.Loaded.{IsPage}
use Rattle.board_core.specs.After.{after_lost}
use Rattle.board_core.specs.Accounts.{view, account, caller_after}

-- which board it is
pub record Place : Type 0 where
  pub table : TableId
  pub shape : Shape

-- a caller: its board, the board's shape, what it knows, the own pages that it keeps for later, and the page at which
-- its next look for a page begins
pub record Seated : Type 0 where
  pub table : TableId
  pub shape : Shape
  pub account : Account
  pub stock : List ℕ
  pub next : ℕ

-- different own pages of the board
pub record IsStock (k : Shape) (own : List Own) (stock : List ℕ) : Type 0 where
  pub pages : Each (λ p. IsPage k p × 0 < owns p own) stock
  pub apart : (i j p : ℕ) → get_elem? stock i ≡ some p → get_elem? stock j ≡ some p → i ≡ j

-- the caller is one of the board's
pub record IsOf (b : Place) (c : Seated) : Type 0 where
  pub table : c.table ≡ b.table
  pub shape : c.shape ≡ b.shape

abbrev pub account_of : Seated → Account
account_of c = c.account

-- the caller with another account
abbrev pub with_account : Seated → Account → Seated
with_account c a = record { table = c.table; shape = c.shape; account = a; stock = c.stock; next = c.next }

-- the caller with other pages kept, and with another page at which to begin
abbrev pub with_stock : Seated → List ℕ → Seated
with_stock c pages = record { table = c.table; shape = c.shape; account = c.account; stock = pages; next = c.next }

abbrev pub with_next : Seated → ℕ → Seated
with_next c page = record { table = c.table; shape = c.shape; account = c.account; stock = c.stock; next = page }

-- the state of a page was found as another word than this, and the caller knows it
abbrev pub IsLost : Seated → Seated → ℕ → ℕ → Type 0
IsLost c d page word = (found : ℕ) × (found ≢ word) × (d ≡ with_account c (after_lost c.account page found))

-- the caller of this kind and number
abbrev pub who_of : Bool → ℕ → Who
who_of true n = Loader n
who_of false n = Searcher n

abbrev pub number_in : Who → ℕ
number_in (Opener n) = 0
number_in (Loader n) = n
number_in (Searcher n) = n
number_in Note = 0
number_in Gone = 0

-- a caller's number among its kind
abbrev pub number_of : Seated → ℕ
number_of c = number_in c.account.who

abbrev pub is_loader : Who → Bool
is_loader (Opener n) = false
is_loader (Loader n) = true
is_loader (Searcher n) = false
is_loader Note = false
is_loader Gone = false

-- the caller is a loader
abbrev pub IsLoader : Seated → Type 0
IsLoader c = c.account.who ≡ Loader (number_of c)

-- a note: its board, and the front that it tells of
pub record Told : Type 0 where
  pub table : TableId
  pub seen : ℕ

-- a note's view
abbrev pub IsNoteOf : View → ℕ → Type 0
IsNoteOf v seen = v ≡ view v.shape (account Note seen)

-- the caller that was made after so many, which has made no step
pub record IsNew (b : Place) (made : ℕ) (c : Seated) : Type 0 where
  pub of : IsOf b c
  pub account : c.account ≡ account (caller_after b.shape made) 0
  pub stock : c.stock ≡ []

-- the callers of a board that was just opened: the loaders in order, then the searchers
abbrev pub AreNew : Place → List Seated → Type 0
AreNew b cs = (i : ℕ) (c : Seated) → get_elem? cs i ≡ some c → IsNew b i c

-- a caller of the board that is unpinned and without the lock
pub record IsAtRest (b : Place) (c : Seated) : Type 0 where
  pub of : IsOf b c
  pub free : c.account.log.holding ≡ Away
  pub unpinned : c.account.pool.announced ≡ 0
