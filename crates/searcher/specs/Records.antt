-- Which records a search reads: those that are screened, each of them whole and once (this project's own).
use Rattle.std.specs.Prelude.{◌≡◌, ◌⊎◌, ℕ, zero, suc, ◌+◌, ◌-◌, ◌<◌, ◌≤◌, List, [], ◌∷◌, ◌++◌, length, map, flat_map}
use Rattle.std.specs.Prelude.{take, slice_index}
use mathlib.Core.Option.{some}
use lib.ListN.{get_elem?}
use Rattle.htss_defs.specs.declared.shape.Shape.{Shape}
use Rattle.htss_defs.specs.declared.history.Event.{Event}
use Rattle.htss_defs.specs.History.{IsLive}
use Rattle.htss_defs.specs.Molecule.{Molecule}
use Rattle.htss_defs.specs.QueryGraph.{QueryGraph}
use Rattle.htss_defs.specs.Screened.{IsScreened}
use Rattle.board_core.specs.declared.account.Account.{Account}
use Rattle.board_core.specs.declared.loads.WordLoad.{WordLoad}
use Rattle.board_core.specs.declared.room.Row.{Row}
use Rattle.board_core.specs.Each.{Each, In}
use Rattle.board_core.specs.Words.{Parts}
use Rattle.board_core.specs.Blocks.{bond_words_at, block_size, code_words_at, molecule_in, name_in}
use Rattle.board_core.specs.Histories.{block_at, history_of}
use Rattle.board_core.specs.MarkRule.{ShowsAt}
use Rattle.board_core.specs.Loaded.{HasLoaded, KnowsHead}
use Rattle.board_core.specs.Steps.{MayBe}

-- each name, atom and bond word that the second account has loaded past the first is at such a place
abbrev pub ReadsAt : Account → Account → (ℕ → Type 0) → Type 0
ReadsAt a b Is =
    (j : ℕ) (l : WordLoad) → length a.loads.facts ≤ j → get_elem? b.loads.facts j ≡ some l → Is l.place

-- the place is one of a block with this first word
abbrev pub IsOfBlock : ℕ → ℕ → ℕ → Type 0
IsOfBlock block head place = (block ≤ place) × (place < block + block_size head)

-- the place is one of the block of this number, whose record is live among the first events
pub record IsOfLive (k : Shape) (p : Parts) (front number place : ℕ) : Type 0 where
  pub block : ℕ
  pub shows : ShowsAt p.log.front p.log.slots block number
  pub live : IsLive (take front (history_of k p)) number (name_in (block_at k p.regions block))
      (molecule_in (block_at k p.regions block))
  pub within : IsOfBlock block (block_at k p.regions block 0) place

-- words of this record alone were loaded, whatever the board is
abbrev pub ReadsOnly : Shape → ℕ → ℕ → Account → Account → Type 0
ReadsOnly k front number a b = (p : Parts) → MayBe k p b → ReadsAt a b (IsOfLive k p front number)

-- the same of some record that is screened
pub record IsOfScreened (k : Shape) (p : Parts) (query : QueryGraph) (front place : ℕ) : Type 0 where
  pub number : ℕ
  pub of : IsOfLive k p front number place
  pub screened : IsScreened query (molecule_in (block_at k p.regions of.block))

-- words of screened records alone were loaded, whatever the board is
abbrev pub ReadsScreened : Shape → QueryGraph → ℕ → Account → Account → Type 0
ReadsScreened k query front a b = (p : Parts) → MayBe k p b → ReadsAt a b (IsOfScreened k p query front)

-- each of these numbers whose record is live is that of a screened record
abbrev pub AreOfScreened : QueryGraph → List ℕ → List Event → Type 0
AreOfScreened query numbers history =
    (i : ℕ) → i < length numbers → (name : List ℕ) (mol : Molecule) → IsLive history (slice_index numbers i) name mol
    → IsScreened query mol

-- each of these numbers is that of the event that publishes the block of one of these rows
abbrev pub AreOfRows : Shape → Account → List Row → List ℕ → Type 0
AreOfRows k a rows numbers =
    (p : Parts) → MayBe k p a → (i : ℕ) → i < length numbers
    → (r : Row) × In r rows × ShowsAt p.log.front p.log.slots r.block (slice_index numbers i)

-- ---- that it reads them whole

-- the second account has loaded the name, atom or bond word at this place past the first
abbrev pub ReadsWord : Account → Account → ℕ → Type 0
ReadsWord a b place =
    (j : ℕ) × (l : WordLoad) × (length a.loads.facts ≤ j) × (get_elem? b.loads.facts j ≡ some l) × (l.place ≡ place)

-- a name, atom or bond word by its place in a block with this first word
abbrev pub IsTextPlace : ℕ → ℕ → Type 0
IsTextPlace head i =
    ((3 ≤ i) × (i < code_words_at head)) ⊎ ((bond_words_at head ≤ i) × (i < block_size head))

-- all of those of the block that the number publishes
abbrev pub ReadsWhole : Shape → Parts → Account → Account → ℕ → Type 0
ReadsWhole k p a b number =
    (block : ℕ) → ShowsAt p.log.front p.log.slots block number
    → (i : ℕ) → IsTextPlace (block_at k p.regions block 0) i → ReadsWord a b (block + i)

-- the record of this number was loaded whole, if one is live, whatever the board is
abbrev pub ReadsLive : Shape → ℕ → ℕ → Account → Account → Type 0
ReadsLive k front number a b =
    (p : Parts) → MayBe k p b → (name : List ℕ) (mol : Molecule)
    → IsLive (take front (history_of k p)) number name mol → ReadsWhole k p a b number

-- each screened record was
abbrev pub ReadsAllScreened : Shape → QueryGraph → ℕ → Account → Account → Type 0
ReadsAllScreened k query front a b =
    (p : Parts) → MayBe k p b → (number : ℕ) (name : List ℕ) (mol : Molecule)
    → IsLive (take front (history_of k p)) number name mol → IsScreened query mol → ReadsWhole k p a b number

-- ---- that it reads none twice

-- so many places in turn
abbrev pub places_from : ℕ → ℕ → List ℕ
places_from start zero = []
places_from start (suc n) = start ∷ places_from (start + 1) n

-- the places of the name, atom and bond words of a block with this first word
abbrev pub text_places : ℕ → ℕ → List ℕ
text_places block head =
    places_from (block + 3) (code_words_at head - 3) ++ places_from (block + bond_words_at head)
    (block_size head - bond_words_at head)

-- a record that was read: its number, its block and the block's first word
pub record RecordRead : Type 0 where
  pub number : ℕ
  pub block : ℕ
  pub head : ℕ

-- a log word was loaded by which the number publishes the block, and the block's first word was
pub record IsRead (k : Shape) (a : Account) (r : RecordRead) : Type 0 where
  pub shown : HasLoaded k a r.number r.block
  pub first : KnowsHead k a r.block r.head

-- the places of the name, atom and bond words that were loaded
abbrev pub places_read : Account → List ℕ
places_read a = map (λ (l : WordLoad). l.place) a.loads.facts

-- the second account has loaded such words of these records past the first, all of each and none twice: record after
-- record, by rising number
pub record ReadsInTurn (k : Shape) (a b : Account) : Type 0 where
  pub reads : List RecordRead
  pub rising : (i j : ℕ) (x y : RecordRead) → i < j
      → get_elem? reads i ≡ some x → get_elem? reads j ≡ some y → x.number < y.number
  pub are : Each (IsRead k b) reads
  pub places : places_read b ≡ places_read a ++ flat_map (λ r. text_places r.block r.head) reads

-- or of one record, if of any
abbrev pub ReadsOne : Shape → ℕ → Account → Account → Type 0
ReadsOne k number a b = (places_read b ≡ places_read a)
    ⊎ ((r : RecordRead) × (r.number ≡ number) × IsRead k b r
    × (places_read b ≡ places_read a ++ text_places r.block r.head))
