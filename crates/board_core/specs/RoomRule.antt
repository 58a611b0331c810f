-- Rooms: what an account says that it has stored in its region stands there, marks excepted; its sealed blocks lie one
-- after the other in it, and each publication shows one.
use Rattle.std.specs.Prelude.{◌≡◌, ◌≢◌, ℕ, ◌+◌, ◌-◌, ◌*◌, ◌<◌, ◌≤◌, ◌⊎◌, List, length, slice_index, Some}
use mathlib.Core.Option.{some}
use lib.ListN.{get_elem?}
use Rattle.htss_defs.specs.declared.shape.Shape.{Shape}
use Rattle.board_core.specs.declared.account.Who.{Who}
use Rattle.board_core.specs.declared.account.Who.TheVariants.{Opener, Loader, Searcher, Note, Gone}
use Rattle.board_core.specs.declared.account.Account.{Account}
use Rattle.board_core.specs.declared.account.View.{View}
use Rattle.board_core.specs.declared.log.Pending.{Pending}
use Rattle.board_core.specs.declared.room.Sealed.{Sealed}
use Rattle.board_core.specs.declared.room.RoomAccount.{RoomAccount}
use Rattle.board_core.specs.Each.{Each}
use Rattle.board_core.specs.Words.{regions_at}
use Rattle.board_core.specs.LogWord.{loader_in, target_in, ShowsBlock}
use Rattle.board_core.specs.Blocks.{block_size}
use Rattle.board_core.specs.Accounts.{EachAccount, accounts_in}

-- facet
pub record Store : Type 0 where
  pub who : Who
  pub room : RoomAccount
  pub pending : Pending

abbrev pub store_of : Account → Store
store_of a = record { who = a.who; room = a.room; pending = a.log.pending }

-- the place of the table where a loader's region begins, and how many words it has
abbrev pub region_of : Shape → Who → ℕ
region_of k (Loader n) = regions_at k + (n - 1) * k.room
region_of k (Searcher n) = regions_at k
region_of k (Opener n) = regions_at k
region_of k Note = regions_at k
region_of k Gone = regions_at k

abbrev pub room_of : Shape → Who → ℕ
room_of k (Loader n) = k.room
room_of k (Searcher n) = 0
room_of k (Opener n) = 0
room_of k Note = 0
room_of k Gone = 0

-- the words of a block as the account has stored them
abbrev pub own_block : Shape → Store → ℕ → ℕ → ℕ
own_block k a place i = slice_index a.room.used (place - region_of k a.who + i)

abbrev pub IsSealed : List Sealed → ℕ → Type 0
IsSealed blocks place = (j : ℕ) × (s : Sealed) × (get_elem? blocks j ≡ some s) × (s.place ≡ place)

-- the word of the table at this place is a mark of a block
abbrev pub IsMark : List Sealed → ℕ → Type 0
IsMark blocks at = (j : ℕ) × (s : Sealed) × (get_elem? blocks j ≡ some s) × ((at ≡ s.place + 1) ⊎ (at ≡ s.place + 2))

-- a sealed block lies in what is used of the region, and is as long as its first word says
pub record SealedFits (base : ℕ) (used : List ℕ) (s : Sealed) : Type 0 where
  pub from : base ≤ s.place
  pub until : s.place + s.size ≤ base + length used
  pub long : s.size ≡ block_size (slice_index used (s.place - base + 0))

-- blocks lie one after the other
abbrev pub AreInOrder : List Sealed → Type 0
AreInOrder blocks = (i j : ℕ) (s t : Sealed) → get_elem? blocks i ≡ some s → get_elem? blocks j ≡ some t → i < j
    → s.place + s.size ≤ t.place

pub record RoomFits (k : Shape) (regions : ℕ → ℕ) (a : Store) : Type 0 where
  pub within : length a.room.used ≤ room_of k a.who
  pub stands : (i : ℕ) → i < length a.room.used → ¬ (IsMark a.room.sealed (region_of k a.who + i))
      → regions (region_of k a.who + i - regions_at k) ≡ slice_index a.room.used i
  pub sealed : Each (SealedFits (region_of k a.who) a.room.used) a.room.sealed
  pub in_order : AreInOrder a.room.sealed
  pub shows : (block : ℕ) → a.pending.shows ≡ Some block → IsSealed a.room.sealed block
  pub logged : (word : ℕ) → a.pending.logged ≡ Some word → ShowsBlock word → IsSealed a.room.sealed (target_in word)

-- some account of some view
abbrev pub SomeAccount : (Account → Type 0) → List View → Type 0
SomeAccount F vs = (j : ℕ) × (v : View) × (get_elem? vs j ≡ some v) × (i : ℕ) × (a : Account)
    × (get_elem? (accounts_in v) i ≡ some a) × F a

-- the block that a log word shows is a sealed one of its loader
abbrev pub ShowsSealed : ℕ → Account → Type 0
ShowsSealed word a = (a.who ≡ Loader (loader_in word)) × IsSealed a.room.sealed (target_in word)

pub record RoomRule (k : Shape) (regions : ℕ → ℕ) (front : ℕ) (slots : ℕ → ℕ) (vs : List View) : Type 0 where
  pub rooms : EachAccount (λ a. RoomFits k regions (store_of a)) vs
  pub named : (i : ℕ) → i < front → ShowsBlock (slots i) → SomeAccount (ShowsSealed (slots i)) vs

-- words of sealed blocks other than marks are as they were
abbrev pub SameSealed : Shape → (ℕ → ℕ) → (ℕ → ℕ) → List View → Type 0
SameSealed k regions other vs = EachAccount (λ a. Each
    (λ s. (i : ℕ) → i < s.size → i ≢ 1 → i ≢ 2
    → other (s.place + i - regions_at k) ≡ regions (s.place + i - regions_at k)) a.room.sealed) vs
