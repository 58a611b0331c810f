-- What callers know of the pages that they reached since their pin: words that stay, entries of held leaves, and what
-- the end of a chain tells of old rows. And what they know of leaves of the last depth that they passed at any time.
use Rattle.std.specs.Prelude.{◌≡◌, ◌≢◌, ℕ, ◌⊎◌, true, List, length}
use Rattle.board_core.specs.declared.account.View.{View}
use Rattle.board_core.specs.declared.tree.TreeAccount.{TreeAccount}
use Rattle.board_core.specs.Each.{Each}
use Rattle.board_core.specs.Accounts.{EachAccount}
use Rattle.board_core.specs.Sheets.{Sheet, IsLinked}
use Rattle.board_core.specs.ClassTree.{Place}
use Rattle.board_core.specs.KnownPages.{KnowsPages, AreKept, Lasts}

-- old f: the rows of the first f events
pub record Knows (w : ℕ → ℕ → ℕ) (s : Sheet) (m : ℕ → Place) (codes : ℕ → List ℕ) (placed : ℕ → Type 0)
    (old : ℕ → ℕ → Type 0) (t : TreeAccount) : Type 0 where
  pub known : KnowsPages w s m codes (old t.front) t.reached
  pub kept : Each (λ x. x.leaf ≡ true → IsLinked s x.page ⊎ AreKept (w x.page) codes placed x.path) t.reached
  pub pairs : Each (λ x. length x.links ≡ length x.slots) t.reached
  pub olds : (r : ℕ) → old t.front r → placed r × (r ≢ 0)
  pub lasts : Each (Lasts s m) t.lasting

abbrev pub KnownRule : (ℕ → ℕ → ℕ) → Sheet → (ℕ → Place) → (ℕ → List ℕ) → (ℕ → Type 0) → (ℕ → ℕ → Type 0) → List View
    → Type 0
KnownRule w s m codes placed old vs = EachAccount (λ a. Knows w s m codes placed old a.tree) vs
