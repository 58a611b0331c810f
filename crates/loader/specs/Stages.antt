-- What staging a record does to its loader's account, and when it is refused (this project's own).
use Rattle.std.specs.Prelude.{◌≡◌, ℕ, ◌+◌, ◌-◌, ◌<◌, ◌≤◌, List, [], ◌∷◌, ◌++◌, length}
use Rattle.htss_defs.specs.declared.shape.Shape.{Shape}
use Rattle.htss_defs.specs.Molecule.{Molecule}
use Rattle.board_core.specs.declared.account.Account.{Account}
use Rattle.board_core.specs.declared.entry.Entry.{Entry}
use Rattle.board_core.specs.declared.entry.Entry.TheVariants.{DataFull as Full, NoPage as PageWanted}
use Rattle.board_core.specs.declared.entry.Entry.TheVariants.{ChainFull as ChainWasFull}
use Rattle.board_core.specs.declared.room.Row.{Row}
use Rattle.board_core.specs.Blocks.{first_of}
use Rattle.board_core.specs.RoomRule.{region_of}
use Rattle.board_core.specs.Loaded.{Grows}
use Rattle.board_core.specs.After.{noted, after_answer}
use Rattle.block_words.specs.Writing.{size_of, written}
use Rattle.board.specs.Seated.{Seated, with_account}
use Rattle.board.specs.Staging.{Staging}
use Rattle.class_tree.specs.declared.insert.InsertError.{InsertError}
use Rattle.class_tree.specs.declared.insert.InsertError.TheVariants.{NoPage as PageRefused, ChainFull as ChainRefused}
use Rattle.class_tree.specs.Inserting.{IsRefusal}
use Rattle.loader.specs.declared.stages.StageError.{StageError}
use Rattle.loader.specs.declared.stages.StageError.TheVariants.{DataFull, NoPage, ChainFull}

-- where the next block begins, and how many words of the region are left
abbrev pub next_block : Shape → Account → ℕ
next_block k a = region_of k a.who + length a.room.used

abbrev pub left_in : Shape → Account → ℕ
left_in k a = k.room - length a.room.used

-- the record in the next block
abbrev pub staging : Shape → Account → List ℕ → Molecule → Staging
staging k a name mol = record { block = next_block k a; name = name; mol = mol }

-- words of the region are stored, which complete no block
abbrev pub after_words : Account → List ℕ → Account
after_words a words = record a { room = record a.room { used = a.room.used ++ words } }

-- all words of the record's block are stored, and it is sealed
abbrev pub after_block : Account → Staging → Account
after_block a s = record a {
  room = record a.room {
    used = a.room.used ++ first_of (written s.name s.mol) (size_of s.name s.mol);
    sealed = a.room.sealed ++ record { place = s.block; size = size_of s.name s.mol } ∷ [];
  };
}

-- the rows of the first atoms of a block
abbrev pub rows_of : ℕ → ℕ → List Row
rows_of block count = first_of (λ i. record { block = block; atom = i + 1 }) count

-- from a to b, so many rows of a block were begun, so many of them placed, and these entries added. Besides, own pages
-- and what was loaded may have changed, and no more
pub record HasRows (a b : Account) (block begun placed : ℕ) (es : List Entry) : Type 0 where
  pub who : b.who ≡ a.who
  pub log : b.log ≡ a.log
  pub room : b.room ≡ a.room
  pub unpinned : b.pool.announced ≡ 0
  pub rows_begun : b.tree.begun ≡ a.tree.begun ++ rows_of block begun
  pub rows_placed : b.tree.placed ≡ a.tree.placed ++ rows_of block placed
  pub entries : b.entries ≡ a.entries ++ noted b.loads es
  pub grows : Grows a b

-- the record's block is written, and its rows are placed, an atom's each
abbrev pub HasStaged : Account → Account → Staging → Type 0
HasStaged a b s = HasRows (after_block a s) b s.block (length s.mol.atoms) (length s.mol.atoms) []

-- the entry of an insertion that was refused
abbrev pub told_of : InsertError → Entry
told_of PageRefused = PageWanted
told_of (ChainRefused pages) = ChainWasFull pages

abbrev pub stage_error : InsertError → StageError
stage_error PageRefused = NoPage
stage_error (ChainRefused pages) = ChainFull pages

-- rows of a block were placed in the order of its atoms until this one was refused
pub record WasStopped (k : Shape) (c d : Seated) (block atoms : ℕ) (e : InsertError) : Type 0 where
  pub count : ℕ
  pub within : count < atoms
  pub before : Seated
  pub placed : HasRows c.account before.account block count count []
  pub refused : IsRefusal k before d (record { block = block; atom = count + 1 }) e
  pub left : HasRows c.account d.account block (count + 1) count (told_of e ∷ [])

-- fewer words are left than the block needs, and the numbers are these
pub record IsFull (k : Shape) (a : Account) (s : Staging) (left need : ℕ) : Type 0 where
  pub within : length a.room.used ≤ k.room
  pub left_is : left ≡ left_in k a
  pub need_is : need ≡ size_of s.name s.mol
  pub less : left < need

-- the block is written, with some of its rows placed, which no event will show
abbrev pub HasLeft : Shape → Seated → Seated → Staging → InsertError → Type 0
HasLeft k c d s e = WasStopped k (with_account c (after_block c.account s)) d s.block (length s.mol.atoms) e

-- why the record was not staged, and what that leaves
abbrev pub IsRefused : Shape → Seated → Seated → Staging → StageError → Type 0
IsRefused k c d s (DataFull left need) = IsFull k c.account s left need
    × (d ≡ with_account c (after_answer c.account (Full left need ∷ [])))
IsRefused k c d s NoPage = HasLeft k c d s PageRefused
IsRefused k c d s (ChainFull pages) = HasLeft k c d s (ChainRefused pages)

-- the region has room for the block, or this refusal says that it has not
abbrev pub HasRoomBut : Shape → Account → Staging → StageError → Type 0
HasRoomBut k a s (DataFull left need) = Unit {0}
HasRoomBut k a s NoPage = length a.room.used + size_of s.name s.mol ≤ k.room
HasRoomBut k a s (ChainFull pages) = length a.room.used + size_of s.name s.mol ≤ k.room
