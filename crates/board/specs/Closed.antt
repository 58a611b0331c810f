-- A board that was closed (this project's own).
use Rattle.std.specs.Prelude.{◌≡◌, ℕ, ◌+◌, ◌*◌, ◌-◌, ◌≤◌, List, length, take, drop, slice_index}
use mathlib.Core.Option.{some}
use lib.ListN.{get_elem?}
use Rattle.atomic_table.specs.Table.{State}
use Rattle.htss_defs.specs.declared.shape.Shape.{Shape}
use Rattle.htss_defs.specs.declared.history.Event.{Event}
use Rattle.htss_defs.specs.History.{IsLegal}
use Rattle.board_core.specs.declared.account.Account.{Account}
use Rattle.board_core.specs.declared.account.View.{View}
use Rattle.board_core.specs.declared.entry.Entry.TheVariants.{NoPage, ChainFull}
use Rattle.board_core.specs.Each.{Each, sum_of}
use Rattle.board_core.specs.Words.{Parts, parts_of, states_at, pages_at, from_one, sixteen}
use Rattle.board_core.specs.LogRule.{IsByLoader}
use Rattle.board_core.specs.Steps.{MayBe}
use Rattle.board_core.specs.Histories.{history_of}
use Rattle.board_core.specs.Accounts.{accounts_in, is_loader}
use Rattle.board_core.specs.CountRule.{insertions_of, pages_for}
use Rattle.board_core.specs.Truths.{IsTrueStory, IsTrueRoom, IsTruePool}
use Rattle.board_core.specs.Rows.{codes_in}
use Rattle.board_core.specs.RowWalk.{IsFound}
use Rattle.board_core.specs.OldRows.{IsOldRow}
use Rattle.board_core.specs.ChainRule.{IsTrueTree}
use Rattle.board_core.specs.Holds.{Holds}

-- the words from a place of the table on, counted from 0
abbrev pub words_from : List ℕ → ℕ → ℕ → ℕ
words_from ws place i = slice_index ws (place + i)

-- what contracts see of it: the shape, the events of all fronts in order, the states of the pages in order (0 of a free
-- one), their words in order, sixteen each, and the accounts that were gathered
pub record Closing : Type 0 where
  pub shape : Shape
  pub history : List Event
  pub states : List ℕ
  pub pages : List ℕ
  pub accounts : List Account

abbrev pub closing : Shape → List ℕ → View → Closing
closing k ws v = record {
  shape = k;
  history = history_of k (parts_of k ws);
  states = take k.pages (drop (states_at k) ws);
  pages = take (16 * k.pages) (drop (pages_at k) ws);
  accounts = accounts_in v;
}

-- the state of a page, which count from 1
abbrev pub state_in : List ℕ → ℕ → ℕ
state_in states = from_one (slice_index states)

-- a page's words by its number and their place in it
abbrev pub pages_in : List ℕ → ℕ → ℕ → ℕ
pages_in pages = sixteen (slice_index pages)

-- the words come from a state that meets the rule, in which some seat has this view
abbrev pub Ends : Shape → List ℕ → View → Type 0
Ends k ws v = (s : State (Unit {0}) View) × (id : ℕ) × Holds k s × (get_elem? s.views id ≡ some v) × (s.words ≡ ws)

-- all loaders of the board are among the accounts
abbrev pub HasAllLoaders : Closing → Type 0
HasAllLoaders c = sum_of (λ a. is_loader a.who) c.accounts ≡ c.shape.loaders

-- the insertions that these accounts have begun
abbrev pub begun_in : List Account → ℕ
begun_in accounts = sum_of insertions_of accounts

-- that no page is left was answered only where the shape has few pages for the insertions begun
abbrev pub AreFewPages : Shape → List Account → Type 0
AreFewPages k accounts = Each (λ a. Each
    (λ n. n.entry ≡ NoPage → k.pages ≤ pages_for (begun_in accounts) k.loaders) a.entries) accounts

-- that a chain is full was answered only where many insertions were begun: seven for each page of a chain
abbrev pub AreFewChains : Shape → List Account → Type 0
AreFewChains k accounts = Each (λ a. Each
    (λ n. (pages : ℕ) → n.entry ≡ ChainFull pages → 7 * k.chain ≤ begun_in accounts) a.entries) accounts

-- the history is legal, fits the log and is by its loaders, and each account is true: of the history, of the words that
-- are left of its region, of the states of pages, and of the chains of pages. Refusals for want of pages have the
-- insertions that they need
pub record IsSettled (c : Closing) : Type 0 where
  pub legal : IsLegal c.history
  pub fits : length c.history ≤ c.shape.log
  pub loaders : Each (IsByLoader c.shape) c.history
  pub stories : Each (λ a. IsTrueStory c.shape c.history a.who a.entries) c.accounts
  pub rooms : Each (λ a. Each (λ n. IsTrueRoom (c.shape.room - length a.room.used) n.entry) a.entries) c.accounts
  pub pages : Each (λ a. Each (λ n. IsTruePool c.shape (state_in c.states) n.entry) a.entries) c.accounts
  pub chains : Each (λ a. Each (λ n. IsTrueTree c.shape (pages_in c.pages) n.entry) a.entries) c.accounts
  pub few : HasAllLoaders c → AreFewPages c.shape c.accounts
  pub full : HasAllLoaders c → AreFewChains c.shape c.accounts

-- the history is shown by words such as each account has loaded, and the walk of each row of a published record finds
-- it
pub record IsShown (c : Closing) : Type 0 where
  pub words : Parts
  pub shows : history_of c.shape words ≡ c.history
  pub may : Each (MayBe c.shape words) c.accounts
  pub rows : (n : ℕ) → IsOldRow c.shape words.regions words.log.slots words.log.front n
      → IsFound (pages_in c.pages) (codes_in c.shape words.regions n) n
