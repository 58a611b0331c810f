-- Rows: an atom of a sealed block, the word by which a leaf names it, its five codes, and which rows were begun and
-- placed (this project's own).
use Rattle.std.specs.Prelude.{◌≡◌, ℕ, ◌+◌, ◌*◌, ◌-◌, ◌/◌, ◌%◌, ◌^◌, ◌<◌, ◌≤◌, List, [], ◌∷◌, slice_index}
use Rattle.htss_defs.specs.declared.shape.Shape.{Shape}
use Rattle.board_core.specs.declared.account.Who.{Who}
use Rattle.board_core.specs.declared.account.Account.{Account}
use Rattle.board_core.specs.declared.account.View.{View}
use Rattle.board_core.specs.declared.room.Row.{Row}
use Rattle.board_core.specs.declared.room.Sealed.{Sealed}
use Rattle.board_core.specs.declared.tree.TreeAccount.{TreeAccount}
use Rattle.board_core.specs.Each.{Each, In}
use Rattle.board_core.specs.Blocks.{atoms_in}
use Rattle.board_core.specs.Histories.{block_at}
use Rattle.board_core.specs.Records.{code_word_at}
use Rattle.board_core.specs.Accounts.{EachAccount}
use Rattle.board_core.specs.RoomRule.{region_of, IsSealed, SomeAccount}

-- the word of a leaf that names a row, and the block and the atom, from 1, that it names
abbrev pub entry_word : Row → ℕ
entry_word r = r.block * 2 ^ 10 + r.atom

abbrev pub block_named : ℕ → ℕ
block_named n = n / 2 ^ 10

abbrev pub atom_named : ℕ → ℕ
atom_named n = n % 2 ^ 10

abbrev pub row_named : ℕ → Row
row_named n = record { block = block_named n; atom = atom_named n }

-- the five codes of an atom, by the words of its block
abbrev pub code_of : (ℕ → ℕ) → ℕ → ℕ → ℕ
code_of block atom code = block (code_word_at (block 0) (atom - 1) code)

abbrev pub codes_of : (ℕ → ℕ) → ℕ → List ℕ
codes_of block atom = code_of block atom 0 ∷ code_of block atom 1 ∷ code_of block atom 2 ∷ code_of block atom 3
    ∷ code_of block atom 4 ∷ []

-- the codes of the row that a word names, by the table
abbrev pub codes_in : Shape → (ℕ → ℕ) → ℕ → List ℕ
codes_in k regions n = codes_of (block_at k regions (block_named n)) (atom_named n)

-- a block as an account has stored it, and a row's codes in it
abbrev pub words_of : Shape → Who → List ℕ → ℕ → ℕ → ℕ
words_of k who used place i = slice_index used (place - region_of k who + i)

abbrev pub own_codes : Shape → Account → Row → List ℕ
own_codes k a r = codes_of (words_of k a.who a.room.used r.block) r.atom

-- a row of an own sealed block
pub record RowFits (k : Shape) (who : Who) (used : List ℕ) (blocks : List Sealed) (r : Row) : Type 0 where
  pub sealed : IsSealed blocks r.block
  pub above : 0 < r.atom
  pub atom : r.atom ≤ atoms_in (words_of k who used r.block 0)

abbrev pub IsOwnRow : Shape → Account → Row → Type 0
IsOwnRow k a r = RowFits k a.who a.room.used a.room.sealed r

-- rows that were begun are own ones, and those that were placed were begun
pub record RowsFit (k : Shape) (who : Who) (used : List ℕ) (blocks : List Sealed) (t : TreeAccount) : Type 0 where
  pub begun : Each (RowFits k who used blocks) t.begun
  pub placed : Each (λ r. In r t.begun) t.placed

abbrev pub RowRule : Shape → List View → Type 0
RowRule k vs = EachAccount (λ a. RowsFit k a.who a.room.used a.room.sealed a.tree) vs

-- some account has begun, or placed, the row that this word names
abbrev pub HasRow : ℕ → List Row → Type 0
HasRow n rows = (r : Row) × In r rows × (entry_word r ≡ n)

abbrev pub IsBegun : List View → ℕ → Type 0
IsBegun vs n = SomeAccount (λ a. HasRow n a.tree.begun) vs

abbrev pub IsPlaced : List View → ℕ → Type 0
IsPlaced vs n = SomeAccount (λ a. HasRow n a.tree.placed) vs
