-- A record that a loader has staged: a sealed block of its own that no event shows, with all its rows placed (this
-- project's own).
use Rattle.std.specs.Prelude.{◌≡◌, ◌≢◌, ℕ, ◌+◌, ◌≤◌, List, ◌++◌, length}
use Rattle.htss_defs.specs.declared.shape.Shape.{Shape}
use Rattle.htss_defs.specs.Molecule.{Molecule}
use Rattle.board_core.specs.declared.account.Account.{Account}
use Rattle.board_core.specs.declared.room.Row.{Row}
use Rattle.board_core.specs.Each.{In}
use Rattle.board_core.specs.Blocks.{block_size, name_in, molecule_in}
use Rattle.board_core.specs.RoomRule.{IsSealed, own_block, region_of, store_of}
use Rattle.board_core.specs.MarkRule.{IsAmong}
use Rattle.board_core.specs.Loaded.{IsInTable}
use Rattle.board_core.specs.PublishedRule.{AllPlaced}

-- where its block begins in the table, and what it shows
pub record Staging : Type 0 where
  pub block : ℕ
  pub name : List ℕ
  pub mol : Molecule

-- the block is sealed and shows the record, and no event shows the block
pub record IsWritten (k : Shape) (a : Account) (s : Staging) : Type 0 where
  pub sealed : IsSealed a.room.sealed s.block
  pub fresh : ¬ (IsAmong a.room.published s.block)
  pub place : IsInTable k s.block
  pub from : region_of k a.who ≤ s.block
  pub until : s.block + block_size (own_block k (store_of a) s.block 0) ≤ region_of k a.who + length a.room.used
  pub name_is : name_in (own_block k (store_of a) s.block) ≡ s.name
  pub mol_is : molecule_in (own_block k (store_of a) s.block) ≡ s.mol

pub record IsStaged (k : Shape) (a : Account) (s : Staging) : Type 0 where
  pub written : IsWritten k a s
  pub placed : AllPlaced k a.who a.room.used a.tree.placed s.block

-- all records that were staged still are; and all but that of this block
abbrev pub StayStaged : Shape → Account → Account → Type 0
StayStaged k a b = (s : Staging) → IsStaged k a s → IsStaged k b s

abbrev pub StayStagedBut : ℕ → Shape → Account → Account → Type 0
StayStagedBut block k a b = (s : Staging) → s.block ≢ block → IsStaged k a s → IsStaged k b s

-- what a caller has stored, sealed and placed stays so
pub record KeepsRoom (a b : Account) : Type 0 where
  pub who : b.who ≡ a.who
  pub more : List ℕ
  pub used : b.room.used ≡ a.room.used ++ more
  pub sealed : (block : ℕ) → IsSealed a.room.sealed block → IsSealed b.room.sealed block
  pub placed : (row : Row) → In row a.tree.placed → In row b.tree.placed
