-- Rows that a caller has read in leaves, of any loader: when it may load their codes, and what each load tells.
use Rattle.std.specs.Prelude.{◌≡◌, ◌≢◌, ℕ, ◌<◌, ◌≤◌, true, length}
use mathlib.Core.Option.{some}
use lib.ListN.{get_elem?}
use Rattle.atomic_table.specs.Table.{Step}
use Rattle.htss_defs.specs.declared.shape.Shape.{Shape}
use Rattle.board_core.specs.declared.account.Account.{Account}
use Rattle.board_core.specs.declared.loads.WordLoad.{WordLoad}
use Rattle.board_core.specs.Blocks.{atoms_in}
use Rattle.board_core.specs.Rows.{block_named, atom_named}
pub use Rattle.board_core.specs.Rows.{row_named}
use Rattle.board_core.specs.Loaded.{IsVisit, IsInTable}
use Rattle.board_core.specs.After.{visited}
use Rattle.board_core.specs.Steps.{Mine, LoadsHead, LoadsCode}

-- this entry was read in a leaf
pub record HasMet (a : Account) (j i n : ℕ) : Type 0 where
  pub reached : j < length a.tree.reached
  pub leaf : (visited a.tree.reached j).leaf ≡ true
  pub read : get_elem? (visited a.tree.reached j).slots i ≡ some n

-- the first word of this block was loaded
pub record HasHead (a : Account) (block head : ℕ) : Type 0 where
  pub load : WordLoad
  pub index : ℕ
  pub loaded : get_elem? a.loads.heads index ≡ some load
  pub place : load.place ≡ block
  pub found : load.word ≡ head

-- ---- conditions

-- an entry that was read may be loaded again
pub record MayLoadEntry (k : Shape) (a : Account) (j i : ℕ) : Type 0 where
  pub visit : IsVisit k a j
  pub leaf : (visited a.tree.reached j).leaf ≡ true
  pub read : i < length (visited a.tree.reached j).slots

-- and a code of its row
pub record MayLoadMet (a : Account) (j i n head code : ℕ) : Type 0 where
  pub met : HasMet a j i n
  pub first : HasHead a (block_named n) head
  pub few : code < 5

-- ---- what the loads tell

-- the entry is the one that was read, and names a block that is in the table
pub record LoadsEntry (j i : ℕ) (s : Step (Unit {0})) (m : Mine) (found : ℕ) (n : Mine) : Type 0 where
  pub same : n ≡ m
  pub met : HasMet m.0.me j i found
  pub block : IsInTable m.0.shape (block_named found)

-- the first word of the block was loaded, which has the atom
pub record LoadsMetHead (entry : ℕ) (s : Step (Unit {0})) (m : Mine) (found : ℕ) (n : Mine) : Type 0 where
  pub head : LoadsHead s m found n
  pub atom : (0 < atom_named entry) × (atom_named entry ≤ atoms_in found)

-- a code of the row was loaded, and is not 0
pub record LoadsMetCode (entry code : ℕ) (s : Step (Unit {0})) (m : Mine) (found : ℕ) (n : Mine) : Type 0 where
  pub load : LoadsCode (row_named entry) code s m found n
  pub some_code : found ≢ 0
