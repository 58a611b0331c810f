-- What the calls of the pool do to their caller (this project's own).
use Rattle.std.specs.Prelude.{◌≡◌, ◌≢◌, ◌==◌, ℕ, ◌+◌, ◌-◌, ◌<◌, ◌≤◌, ◌⊎◌, List, [], ◌∷◌, ◌++◌, length, if◌then◌else◌}
use mathlib.Core.Option.{some}
use lib.ListN.{get_elem?}
use Rattle.htss_defs.specs.declared.shape.Shape.{Shape}
use Rattle.board_core.specs.declared.account.Account.{Account}
use Rattle.board_core.specs.declared.loads.StateLoad.{StateLoad}
use Rattle.board_core.specs.declared.entry.Entry.TheVariants.{NoPage}
use Rattle.board_core.specs.EpochRule.{last_epoch}
use Rattle.board_core.specs.Sheets.{owns, parts, stamps}
use Rattle.board_core.specs.MarkRule.{IsAmong}
use Rattle.board_core.specs.Loaded.{HasOwn}
use Rattle.board_core.specs.After.{after_epoch, after_pin, after_pass, after_page, after_retire, after_answer}
use Rattle.board.specs.Seated.{Seated, with_account, with_stock, with_next}

-- the epoch was loaded and announced
pub record IsPinned (c d : Seated) : Type 0 where
  pub epoch : ℕ
  pub above : 0 < epoch
  pub after : d ≡ with_account c (after_pin (after_epoch c.account epoch) epoch)

-- the caller has unlinked the page, which has no stamp yet
abbrev pub IsUnstamped : Account → ℕ → Type 0
IsUnstamped a page = (parts page a.pool.parted ≡ 1) × (stamps page a.pool.parted ≡ 0)

-- the epoch was loaded, and the page is retired with it as its stamp
pub record IsRetired (c d : Seated) (page : ℕ) : Type 0 where
  pub epoch : ℕ
  pub above : 0 < epoch
  pub after : d ≡ with_account c (after_retire (after_epoch c.account epoch) page)

-- ---- a scan of the announcements

-- the account knows that this epoch has come
abbrev pub risen_to : Account → ℕ → Account
risen_to a e = record a { pool = record a.pool { risen = e } }

-- the epoch after this one was tried: it is known to have come. After the last one nothing is tried
pub record HasTried (first : ℕ) (c d : Seated) : Type 0 where
  pub risen : ℕ
  pub come : ((first < last_epoch) × (risen ≡ first + 1)) ⊎ ((first ≡ last_epoch) × (risen ≡ c.account.pool.risen))
  pub after : d ≡ with_account c (risen_to c.account risen)

-- the epoch was loaded, the next one tried, and the epoch loaded again: it is later, or the last
pub record HasRisen (c d : Seated) (epoch : ℕ) : Type 0 where
  pub first : ℕ
  pub middle : Seated
  pub tried : HasTried first (with_account c (after_epoch c.account first)) middle
  pub above : 0 < epoch
  pub later : (first < epoch) ⊎ (epoch ≡ last_epoch)
  pub after : d ≡ with_account middle (after_epoch middle.account epoch)

-- after these announcements were loaded
abbrev pub all_passed : Account → List ℕ → Account
all_passed a [] = a
all_passed a (n ∷ ns) = all_passed (after_pass a n) ns

pub record HasPassed (callers : ℕ) (c d : Seated) : Type 0 where
  pub announced : List ℕ
  pub all : length announced ≡ callers
  pub after : d ≡ with_account c (all_passed c.account announced)

-- the least of an epoch and of the announcements that are not 0
pub record IsLeast (low epoch : ℕ) (announced : List ℕ) : Type 0 where
  pub most : low ≤ epoch
  pub below : (i n : ℕ) → get_elem? announced i ≡ some n → n ≢ 0 → low ≤ n
  pub one : (low ≡ epoch) ⊎ ((i : ℕ) × (get_elem? announced i ≡ some low))

-- all announcements were loaded after an epoch that is later than one loaded before, or the last
pub record HasScanned (k : Shape) (c d : Seated) : Type 0 where
  pub epoch : ℕ
  pub middle : Seated
  pub risen : HasRisen c middle epoch
  pub passed : HasPassed (k.loaders + k.searchers) middle d
  pub least : IsLeast d.account.pool.low epoch passed.announced

-- ---- a look at the states of pages

-- with more states loaded, and more exchanges lost
abbrev pub with_looks : Account → List StateLoad → List StateLoad → Account
with_looks a ss ls = record a { loads = record a.loads { states = a.loads.states ++ ss; lost = a.loads.lost ++ ls } }

-- the page was loaded as busy or as retired no earlier than this epoch, or it was found changed in an exchange of the
-- word loaded
pub record WasLoaded (low : ℕ) (ss : List StateLoad) (page : ℕ) : Type 0 where
  pub index : ℕ
  pub load : StateLoad
  pub there : get_elem? ss index ≡ some load
  pub page_is : load.page ≡ page
  pub busy : (load.word ≡ 1) ⊎ (low < load.word)

pub record WasLost (ss ls : List StateLoad) (page : ℕ) : Type 0 where
  pub index : ℕ
  pub load : StateLoad
  pub there : get_elem? ss index ≡ some load
  pub page_is : load.page ≡ page
  pub lost_index : ℕ
  pub found : StateLoad
  pub lost_there : get_elem? ls lost_index ≡ some found
  pub found_page : found.page ≡ page
  pub changed : found.word ≢ load.word

abbrev pub WasBusy : ℕ → List StateLoad → List StateLoad → ℕ → Type 0
WasBusy low ss ls page = WasLoaded low ss page ⊎ WasLost ss ls page

-- the states of these pages, one after the other
pub record AreBetween (from until : ℕ) (ss : List StateLoad) : Type 0 where
  pub pages : (i : ℕ) (l : StateLoad) → get_elem? ss i ≡ some l → l.page ≡ from + i
  pub count : from + length ss ≡ until

-- from this page on, one after the other, where the first follows the last, and none twice
pub record AreRound (pages next : ℕ) (ss : List StateLoad) : Type 0 where
  pub order : (i : ℕ) (l : StateLoad) → get_elem? ss i ≡ some l → (l.page ≡ next + i) ⊎ (l.page + pages ≡ next + i)
  pub most : length ss ≤ pages

-- each of these pages was busy, and the states were loaded in this order, with an exchange at most for each
pub record HasLooked (Order : List StateLoad → Type 0) (low from until : ℕ) (c d : Seated) : Type 0 where
  pub states : List StateLoad
  pub lost : List StateLoad
  pub order : Order states
  pub fewer : length lost ≤ length states
  pub busy : (page : ℕ) → from ≤ page → page < until → WasBusy low states lost page
  pub after : d ≡ with_account c (with_looks c.account states lost)

-- the page was taken, which was not the caller's own
pub record HasTaken (Order : List StateLoad → Type 0) (c d : Seated) (page : ℕ) : Type 0 where
  pub states : List StateLoad
  pub lost : List StateLoad
  pub order : Order states
  pub fewer : length lost ≤ length states
  pub fresh : owns page c.account.pool.own ≡ 0
  pub after : d ≡ with_account c (after_page (with_looks c.account states lost) page)

-- ---- a page is taken

-- after a scan and a look that begins where the last one ended, and the next look begins there
pub record HasFound (k : Shape) (c d : Seated) (page : ℕ) : Type 0 where
  pub middle : Seated
  pub scanned : HasScanned k c middle
  pub last : Seated
  pub taken : HasTaken (AreRound k.pages c.next) middle last page
  pub after : d ≡ with_next last page

-- the page before this one, where the last one is before the first
abbrev pub page_before : ℕ → ℕ → ℕ
page_before pages page = if page == 1 then pages else page - 1

-- after a scan and a look each page was busy, the call answers so, and the next look begins where this one ended
pub record IsRefused (k : Shape) (c d : Seated) : Type 0 where
  pub middle : Seated
  pub scanned : HasScanned k c middle
  pub last : Seated
  pub looked : HasLooked (AreRound k.pages c.next) middle.account.pool.low 1 (k.pages + 1) middle last
  pub after : d ≡ with_next (with_account last (after_answer last.account (NoPage ∷ []))) (page_before k.pages c.next)
  pub own : d.account.pool.own ≡ c.account.pool.own
  pub stock : d.stock ≡ c.stock

-- a page that the caller kept, or one that it has found. It doesn't keep it, and its other own pages are as they were.
-- So it has one more that it doesn't keep, and it has linked none
pub record IsGiven (k : Shape) (c d : Seated) (page : ℕ) : Type 0 where
  pub own : HasOwn d.account page
  pub others : (q : ℕ) → q ≢ page → owns q d.account.pool.own ≡ owns q c.account.pool.own
  pub apart : ¬ (IsAmong d.stock page)
  pub more : length d.account.pool.own + length c.stock ≡ length c.account.pool.own + length d.stock + 1
  pub linked : d.account.counts ≡ c.account.counts
  pub from : ((d ≡ with_stock c d.stock) × (c.stock ≡ d.stock ++ page ∷ [])) ⊎ ((c.stock ≡ []) × HasFound k c d page)
