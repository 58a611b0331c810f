-- What a search of the records that a descent has found keeps.
use Rattle.std.specs.Prelude.{◌≡◌, ℕ, ◌+◌, ◌<◌, ◌≤◌, List, length, take, slice_index, Contains}
use Rattle.htss_defs.specs.declared.shape.Shape.{Shape}
use Rattle.htss_defs.specs.declared.history.Event.{Event}
use Rattle.htss_defs.specs.Molecule.{Molecule}
use Rattle.htss_defs.specs.Marked.{IsMarked}
use Rattle.htss_defs.specs.QueryGraph.{QueryGraph}
use Rattle.htss_defs.specs.HitLists.{HitsKept}
use Rattle.htss_defs.specs.History.{IsLive}
use Rattle.htss_defs.specs.Reply.{Reply, IsReply, found}
use Rattle.htss_defs.specs.declared.history.Hit.{Hit}
use Rattle.htss_defs.specs.Screened.{IsScreened}
use Rattle.reg_model.specs.Searches.{Counts, HasSearched, IsOverTo}
use Rattle.board_core.specs.declared.account.Account.{Account}
use Rattle.board_core.specs.Words.{Parts}
use Rattle.board_core.specs.Histories.{history_of}
use Rattle.board_core.specs.MarkRule.{ShowsAt}
use Rattle.board_core.specs.Loaded.{Grows, HasFact, HasLoaded, SawMark, IsOpenMark, IsInTable}
use Rattle.board_core.specs.Steps.{MayBe}

-- the second account has loaded more log words, marks and words of blocks than the first, but no codes, and differs in
-- nothing else
pub record Reads (a b : Account) : Type 0 where
  pub grown : Grows a b
  pub who : b.who ≡ a.who
  pub log : b.log ≡ a.log
  pub room : b.room ≡ a.room
  pub pool : b.pool ≡ a.pool
  pub tree : b.tree ≡ a.tree
  pub counts : b.counts ≡ a.counts
  pub fronts : b.loads.fronts ≡ a.loads.fronts
  pub codes : b.loads.codes ≡ a.loads.codes
  pub entries : b.entries ≡ a.entries

-- the words of a block from one place up to another were loaded as these
abbrev pub HasFacts : Account → ℕ → List ℕ → ℕ → ℕ → Type 0
HasFacts a block words from until = (i : ℕ) → from ≤ i → i < until → HasFact a block i (slice_index words i)

-- the number publishes this block, whose last mark was no event's up to the front
pub record IsOpenBlock (k : Shape) (a : Account) (front number block : ℕ) : Type 0 where
  pub loaded : HasLoaded k a number block
  pub place : IsInTable k block
  pub mark : ℕ
  pub saw : SawMark a block front mark
  pub is_open : IsOpenMark front mark

-- whatever the board is by what the account has loaded, this holds of its first events
abbrev pub Whatever : Shape → Account → ℕ → (List Event → Type 0) → Type 0
Whatever k a front F = (p : Parts) → MayBe k p a → F (take front (history_of k p))

-- no record of this number is live
abbrev pub NotLive : ℕ → List Event → Type 0
NotLive number history = (name : List ℕ) (mol : Molecule) → IsLive history number name mol → ⊥

-- a record that was read is live, whatever the board is
pub record IsReadLive (k : Shape) (a : Account) (front number : ℕ) (name : List ℕ) (mol : Molecule) : Type 0 where
  pub marked : IsMarked mol
  pub atoms : length mol.atoms ≤ 999
  pub live : Whatever k a front (λ h. IsLive h number name mol)

-- numbers of the first events
abbrev pub AreEarly : ℕ → List ℕ → Type 0
AreEarly front numbers = (i : ℕ) → i < length numbers → (0 < slice_index numbers i) × (slice_index numbers i ≤ front)

-- the number of the event up to the front that publishes the block, or 0, whatever the board is
pub record IsNumberOf (k : Shape) (a : Account) (front block number : ℕ) : Type 0 where
  pub early : number ≤ front
  pub only : (p : Parts) → MayBe k p a → (n : ℕ) → n ≤ front → ShowsAt p.log.front p.log.slots block n → number ≡ n
  pub shows : (p : Parts) → MayBe k p a → 0 < number → ShowsAt p.log.front p.log.slots block number

-- that number is among these
abbrev pub AreNumbered : Shape → Account → ℕ → ℕ → List ℕ → Type 0
AreNumbered k a front block numbers = (p : Parts) → MayBe k p a → (n : ℕ) → n ≤ front
    → ShowsAt p.log.front p.log.slots block n → Contains numbers n

-- each screened record has one of these numbers
abbrev pub AllScreened : QueryGraph → List ℕ → List Event → Type 0
AllScreened query numbers history = (number : ℕ) (name : List ℕ) (mol : Molecule) → IsLive history number name mol
    → IsScreened query mol → Contains numbers number

-- the record of this number was taken, if there is one: what was searched before it then goes up to it
abbrev pub Takes : ℕ → QueryGraph → (left count : ℕ) → List Hit → (left' count' : ℕ) → List Hit → List Event → Type 0
Takes number asked left count hits left' count' hits' history =
    (budget before : ℕ) → number ≡ before + 1 → HasSearched asked history budget left before count hits
    → HasSearched asked history budget left' number count' hits'

-- or it costs more than is left
abbrev pub Spends : ℕ → QueryGraph → (left count : ℕ) → List Hit → List Event → Type 0
Spends number asked left count hits history =
    (budget before : ℕ) → number ≡ before + 1 → HasSearched asked history budget left before count hits
    → IsOverTo asked history budget number

-- the first events as they may be: they are all seen, and the reply is theirs
pub record Replies (k : Shape) (a : Account) (query : QueryGraph) (budget front : ℕ) (reply : Reply) : Type 0 where
  pub seen : front ≤ a.log.seen
  pub is : Whatever k a front (λ h. IsReply query budget h reply)

-- what the list of hits has, whatever the board is
pub record AreFound (k : Shape) (a : Account) (query : QueryGraph) (budget front : ℕ) (hits : HitsKept) : Type 0 where
  pub replies : Replies k a query budget front (found hits.hits)
  pub screened : Whatever k a front (λ h. Counts query h hits.records)
