-- What was answered of a full chain is true: there are so many full pages of one chain (this project's own).
use Rattle.std.specs.Prelude.{◌≡◌, ◌≢◌, ℕ, ◌+◌, ◌*◌, ◌<◌, ◌≤◌, Bool, List, length}
use Rattle.htss_defs.specs.declared.shape.Shape.{Shape}
use Rattle.board_core.specs.declared.account.Account.{Account}
use Rattle.board_core.specs.declared.account.View.{View}
use Rattle.board_core.specs.declared.tree.Reached.{Reached}
use Rattle.board_core.specs.declared.entry.Entry.{Entry}
use Rattle.board_core.specs.declared.entry.Entry.TheVariants.{Published, Withdrawn, Answered, Unknown, Gone as Ended}
use Rattle.board_core.specs.declared.entry.Entry.TheVariants.{LogFull, DataFull, NoPage, ChainFull, Swept}
use Rattle.board_core.specs.Each.{Each, In}
use Rattle.board_core.specs.Accounts.{EachAccount}
use Rattle.board_core.specs.Sheets.{Sheet, IsLinked}
use Rattle.board_core.specs.ClassTree.{kind_of, slot_at, page_room}

-- pages of one kind and depth, of ranks from 0 on: each is full and names the next
pub record IsFullChain (w : ℕ → ℕ → ℕ) (count : ℕ) : Type 0 where
  pub leaf : Bool
  pub depth : ℕ
  pub page : (i : ℕ) → i < count → ℕ
  pub header : (i : ℕ) (h : i < count) → w (page i h) 0 ≡ kind_of leaf + 4 * depth + 32 * i
  pub full : (i j : ℕ) (h : i < count) → j < page_room leaf → w (page i h) (slot_at leaf j) ≢ 0
  pub next : (i : ℕ) (h : i < count) (g : i + 1 < count) → w (page i h) 1 ≡ page (i + 1) g
  pub more : (i : ℕ) (h : i < count) → i + 1 < count → w (page i h) 1 ≢ 0

-- and they are pages of the tree, more than one
pub record HasFullChain (w : ℕ → ℕ → ℕ) (s : Sheet) (count : ℕ) : Type 0 where
  pub several : 1 < count
  pub chain : IsFullChain w count
  pub linked : (i : ℕ) (h : i < count) → IsLinked s (chain.page i h)

abbrev pub IsTrueChain : Shape → (ℕ → ℕ → ℕ) → Sheet → Entry → Type 0
IsTrueChain k w s (Published number event) = Unit {0}
IsTrueChain k w s (Withdrawn number event) = Unit {0}
IsTrueChain k w s (Answered query budget front reply) = Unit {0}
IsTrueChain k w s (Unknown number front) = Unit {0}
IsTrueChain k w s (Ended number at) = Unit {0}
IsTrueChain k w s (LogFull front) = Unit {0}
IsTrueChain k w s (DataFull left need) = Unit {0}
IsTrueChain k w s NoPage = Unit {0}
IsTrueChain k w s (ChainFull pages) = (pages ≡ k.chain) × HasFullChain w s pages
IsTrueChain k w s (Swept need front rows) = Unit {0}

-- the part that reads the words of pages
abbrev pub IsTrueTree : Shape → (ℕ → ℕ → ℕ) → Entry → Type 0
IsTrueTree k w (Published number event) = Unit {0}
IsTrueTree k w (Withdrawn number event) = Unit {0}
IsTrueTree k w (Answered query budget front reply) = Unit {0}
IsTrueTree k w (Unknown number front) = Unit {0}
IsTrueTree k w (Ended number at) = Unit {0}
IsTrueTree k w (LogFull front) = Unit {0}
IsTrueTree k w (DataFull left need) = Unit {0}
IsTrueTree k w NoPage = Unit {0}
IsTrueTree k w (ChainFull pages) = (pages ≡ k.chain) × IsFullChain w pages
IsTrueTree k w (Swept need front rows) = Unit {0}

abbrev pub ChainRule : Shape → (ℕ → ℕ → ℕ) → Sheet → List View → Type 0
ChainRule k w s vs = EachAccount (λ a. Each (λ n. IsTrueChain k w s n.entry) a.entries) vs

-- the account has read the last page of the chain as full
pub record HasWalked (a : Account) (count : ℕ) : Type 0 where
  pub several : 1 < count
  pub last : Reached
  pub there : In last a.tree.reached
  pub rank : last.rank + 1 ≡ count
  pub full : page_room last.leaf ≤ length last.slots

-- what a call answers beside descents, which have a step of their own
abbrev pub IsToldChain : Shape → Account → Entry → Type 0
IsToldChain k a (Published number event) = Unit {0}
IsToldChain k a (Withdrawn number event) = Unit {0}
IsToldChain k a (Answered query budget front reply) = Unit {0}
IsToldChain k a (Unknown number front) = Unit {0}
IsToldChain k a (Ended number at) = Unit {0}
IsToldChain k a (LogFull front) = Unit {0}
IsToldChain k a (DataFull left need) = Unit {0}
IsToldChain k a NoPage = Unit {0}
IsToldChain k a (ChainFull pages) = (pages ≡ k.chain) × HasWalked a pages
IsToldChain k a (Swept need front rows) = ⊥
