-- Own pages that are kept, and one that is about to be linked (this project's own).
use Rattle.std.specs.Prelude.{◌≡◌, ◌≢◌, ℕ, ◌+◌, ◌<◌, ◌≤◌, ◌==◌, if◌then◌else◌, [], length, take}
use Rattle.htss_defs.specs.declared.shape.Shape.{Shape}
use Rattle.board_core.specs.Loaded.{IsPage, HasOwn, HasStored, one_word}
use Rattle.board_core.specs.MarkRule.{IsAmong}
use Rattle.board_core.specs.Each.{Each}
use Rattle.board_core.specs.Sheets.{owns}
use Rattle.board.specs.Seated.{Seated, with_account}
use Rattle.class_tree.specs.Walking.{Goes}

-- each own page but this one is kept
pub record IsStockedBut (c : Seated) (page : ℕ) : Type 0 where
  pub own : (q : ℕ) → q ≢ page → HasOwn c.account q → IsAmong c.stock q
  pub few : length c.account.pool.own ≤ length c.stock + 1
  pub mine : HasOwn c.account page
  pub apart : ¬ (IsAmong c.stock page)
  pub room : length c.stock < 32
  pub clean : c.account.pool.parted ≡ []

-- from c to d an own page was taken, and these words were stored in it: a header, and one code or entry
pub record IsReady (k : Shape) (c d : Seated) (page header first : ℕ) : Type 0 where
  pub goes : Goes (length c.account.tree.reached) c d
  pub reached : d.account.tree.reached ≡ c.account.tree.reached
  pub inside : IsPage k page
  pub but : IsStockedBut d page
  pub stored : HasStored d.account page (one_word header first)
  pub linked : d.account.counts ≡ c.account.counts

-- word i of a page with this header, and one code or entry
abbrev pub fresh_word : ℕ → ℕ → ℕ → ℕ
fresh_word header first i = if i == 0 then header else (if i == 2 then first else 0)

-- the first words of an own page were stored, and nothing else changed
pub record HasMade (c d : Seated) (page header first count : ℕ) : Type 0 where
  pub after : d ≡ with_account c (record c.account { pool = record c.account.pool { own = d.account.pool.own } })
  pub same : (q : ℕ) → owns q d.account.pool.own ≡ owns q c.account.pool.own
  pub size : length d.account.pool.own ≡ length c.account.pool.own
  pub stored : 0 < count → Each (λ o. o.page ≡ page → o.words ≡ take count (one_word header first)) d.account.pool.own
