-- What a caller has loaded of the log, of blocks and of their marks.
use Rattle.std.specs.Prelude.{◌≡◌, ◌≢◌, ℕ, ◌+◌, ◌*◌, ◌-◌, ◌<◌, ◌≤◌, ◌⊎◌, true, false, List, [], ◌∷◌, ◌++◌, length}
use mathlib.Core.Option.{some}
use lib.ListN.{get_elem?}
use Rattle.htss_defs.specs.declared.shape.Shape.{Shape}
use Rattle.board_core.specs.declared.account.Account.{Account}
use Rattle.board_core.specs.declared.entry.Noted.{Noted}
use Rattle.board_core.specs.declared.loads.ShownLoad.{ShownLoad}
use Rattle.board_core.specs.declared.loads.WordLoad.{WordLoad}
use Rattle.board_core.specs.declared.loads.StateLoad.{StateLoad}
use Rattle.board_core.specs.Sheets.{owns, parts, stamps}
use Rattle.board_core.specs.Words.{log_at, pages_at, regions_at, total_of, zeros}
use Rattle.board_core.specs.declared.room.Row.{Row}
use Rattle.board_core.specs.declared.tree.Reached.{Reached}
use Rattle.board_core.specs.declared.tree.Way.TheVariants.{More, Branch}
use Rattle.board_core.specs.Each.{Each, In}
use Rattle.board_core.specs.ClassTree.{Place, IsBelow}
use Rattle.board_core.specs.KnownPages.{IsMate}
use Rattle.board_core.specs.Rows.{entry_word, own_codes, HasRow}
use Rattle.board_core.specs.After.{visited}
use Rattle.board_core.specs.LogWord.{target_in, ShowsBlock}
use Rattle.board_core.specs.declared.loads.CodeLoad.{CodeLoad}
use Rattle.board_core.specs.Blocks.{ended_at, block_size, atoms_in, code_words_at, bond_words_at}
use Rattle.board_core.specs.Records.{code_word_at}

-- the log word of this number was loaded
pub record HasLogWord (k : Shape) (a : Account) (number word : ℕ) : Type 0 where
  pub load : ShownLoad
  pub index : ℕ
  pub loaded : get_elem? a.loads.shown index ≡ some load
  pub above : 0 < number
  pub inside : number ≤ k.log
  pub place : load.place ≡ log_at k + (number - 1)
  pub found : load.word ≡ word

-- it publishes this block
pub record HasLoaded (k : Shape) (a : Account) (number block : ℕ) : Type 0 where
  pub word : ℕ
  pub log : HasLogWord k a number word
  pub kind : ShowsBlock word
  pub names : target_in word ≡ block

-- some log word that was loaded publishes it
abbrev pub KnowsBlock : Shape → Account → ℕ → Type 0
KnowsBlock k a block = (number : ℕ) × HasLoaded k a number block

-- and its first word was loaded
pub record KnowsHead (k : Shape) (a : Account) (block head : ℕ) : Type 0 where
  pub known : KnowsBlock k a block
  pub load : WordLoad
  pub index : ℕ
  pub loaded : get_elem? a.loads.heads index ≡ some load
  pub place : load.place ≡ block
  pub found : load.word ≡ head

-- its last mark was loaded, at this front, as this number
pub record SawMark (a : Account) (block front mark : ℕ) : Type 0 where
  pub load : ShownLoad
  pub index : ℕ
  pub loaded : get_elem? a.loads.marks index ≡ some load
  pub place : load.place ≡ block + ended_at
  pub seen : load.front ≡ front
  pub found : load.word ≡ mark

-- which is no event's up to that front
abbrev pub IsOpenMark : ℕ → ℕ → Type 0
IsOpenMark front mark = (mark ≡ 0) ⊎ (front < mark)

-- the first three words of a block are words of the regions
pub record IsInTable (k : Shape) (block : ℕ) : Type 0 where
  pub from : regions_at k ≤ block
  pub until : block + 3 ≤ total_of k

-- a word of a block was loaded: a name, atom or bond word by its place in the block, a code word by its atom, from 1,
-- and its code
pub record HasFact (a : Account) (block i word : ℕ) : Type 0 where
  pub load : WordLoad
  pub index : ℕ
  pub loaded : get_elem? a.loads.facts index ≡ some load
  pub place : load.place ≡ block + i
  pub found : load.word ≡ word

pub record HasCode (a : Account) (block atom code word : ℕ) : Type 0 where
  pub load : CodeLoad
  pub index : ℕ
  pub loaded : get_elem? a.loads.codes index ≡ some load
  pub row : (load.row.block ≡ block) × (load.row.atom ≡ atom)
  pub code_is : load.code ≡ code
  pub found : load.word ≡ word

-- a code of some row of the block was loaded
abbrev pub KnowsRow : Account → ℕ → Type 0
KnowsRow a block = (atom : ℕ) × (code : ℕ) × (word : ℕ) × HasCode a block atom code word

-- these are the words of a block as they were loaded, the two marks and the codes excepted
pub record HasBlock (k : Shape) (a : Account) (block : ℕ) (words : ℕ → ℕ) : Type 0 where
  pub head : KnowsHead k a block (words 0)
  pub facts : (i : ℕ) → 3 ≤ i → i < code_words_at (words 0) → HasFact a block i (words i)
  pub bonds : (i : ℕ) → bond_words_at (words 0) ≤ i → i < block_size (words 0) → HasFact a block i (words i)

-- the second account has seen and loaded all that the first has
pub record Grows (a b : Account) : Type 0 where
  pub seen : a.log.seen ≤ b.log.seen
  pub shown : (j : ℕ) (x : ShownLoad) → get_elem? a.loads.shown j ≡ some x → get_elem? b.loads.shown j ≡ some x
  pub heads : (j : ℕ) (x : WordLoad) → get_elem? a.loads.heads j ≡ some x → get_elem? b.loads.heads j ≡ some x
  pub marks : (j : ℕ) (x : ShownLoad) → get_elem? a.loads.marks j ≡ some x → get_elem? b.loads.marks j ≡ some x
  pub facts : (j : ℕ) (x : WordLoad) → get_elem? a.loads.facts j ≡ some x → get_elem? b.loads.facts j ≡ some x
  pub codes : (j : ℕ) (x : CodeLoad) → get_elem? a.loads.codes j ≡ some x → get_elem? b.loads.codes j ≡ some x
  pub fronts : (j x : ℕ) → get_elem? a.loads.fronts j ≡ some x → get_elem? b.loads.fronts j ≡ some x
  pub epochs : (j x : ℕ) → get_elem? a.loads.epochs j ≡ some x → get_elem? b.loads.epochs j ≡ some x
  pub announcements : (j x : ℕ) → get_elem? a.loads.announcements j ≡ some x
      → get_elem? b.loads.announcements j ≡ some x
  pub states : (j : ℕ) (x : StateLoad) → get_elem? a.loads.states j ≡ some x → get_elem? b.loads.states j ≡ some x
  pub lost : (j : ℕ) (x : StateLoad) → get_elem? a.loads.lost j ≡ some x → get_elem? b.loads.lost j ≡ some x
  pub entries : (j : ℕ) (x : Noted) → get_elem? a.entries j ≡ some x → get_elem? b.entries j ≡ some x

-- ---- pages and epochs

-- pages count from 1
abbrev pub IsPage : Shape → ℕ → Type 0
IsPage k p = (0 < p) × (p ≤ k.pages)

abbrev pub HasEpoch : Account → ℕ → Type 0
HasEpoch a e = (j : ℕ) × (get_elem? a.loads.epochs j ≡ some e)

-- the state of this page was loaded as this word
abbrev pub HasState : Account → ℕ → ℕ → Type 0
HasState a p n = (j : ℕ) × (l : StateLoad) × (get_elem? a.loads.states j ≡ some l) × (l.page ≡ p) × (l.word ≡ n)

-- the page is unlinked, and this stamp was loaded for it
abbrev pub HasParted : Account → ℕ → ℕ → Type 0
HasParted a p n = (0 < n) × (0 < parts p a.pool.parted) × (stamps p a.pool.parted ≡ n)

-- the page is the caller's own
abbrev pub HasOwn : Account → ℕ → Type 0
HasOwn a p = 0 < owns p a.pool.own

-- ---- the class tree

-- the place of a page's word in the table
abbrev pub page_word : Shape → ℕ → ℕ → ℕ
page_word k p i = pages_at k + (16 * (p - 1) + i)

-- a page of the table that was reached, by its number
pub record IsVisit (k : Shape) (a : Account) (j : ℕ) : Type 0 where
  pub reached : j < length a.tree.reached
  pub inside : IsPage k (visited a.tree.reached j).page

-- the page is the caller's own, and these words were stored in it
pub record HasStored (a : Account) (p : ℕ) (words : List ℕ) : Type 0 where
  pub own : HasOwn a p
  pub stored : Each (λ o. o.page ≡ p → o.words ≡ words) a.pool.own

-- a page with one code, or one entry
abbrev pub one_word : ℕ → ℕ → List ℕ
one_word header n = header ∷ 0 ∷ n ∷ zeros 13

-- where a leaf below a code stands, and the next page of a chain
abbrev pub leaf_place : Reached → ℕ → ℕ → Place
leaf_place x i c = record { path = x.path ++ c ∷ []; rank = 0; leaf = true; from = x.page; way = Branch i }

abbrev pub next_place : Reached → Place
next_place x = record { path = x.path; rank = x.rank + 1; leaf = x.leaf; from = x.page; way = More }

-- a row was begun and not placed, and has this path
pub record IsToPlace (k : Shape) (a : Account) (path : List ℕ) (r : Row) : Type 0 where
  pub begun : In r a.tree.begun
  pub fresh : HasRow (entry_word r) a.tree.placed → ⊥
  pub below : IsBelow path (own_codes k a r)

-- a row that was begun has this code after the path, and no page of the chain that was reached shows the code
pub record IsToClaim (k : Shape) (a : Account) (path : List ℕ) (c : ℕ) : Type 0 where
  pub some_c : c ≢ 0
  pub row : Row
  pub begun : In row a.tree.begun
  pub below : IsBelow (path ++ c ∷ []) (own_codes k a row)
  pub absent : (y : Reached) → IsMate a.tree.reached path false y → In c y.slots → ⊥
