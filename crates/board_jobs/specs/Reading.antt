-- Which records a searcher has read for each of its answers, told by how long its list of loads was at each of them
-- (this project's own).
use Rattle.std.specs.Prelude.{◌≡◌, ℕ, ◌+◌, ◌<◌, ◌≤◌, List, length, take}
use mathlib.Core.Option.{some}
use lib.ListN.{get_elem?}
use Rattle.htss_defs.specs.declared.shape.Shape.{Shape}
use Rattle.htss_defs.specs.declared.history.Hit.{Hit}
use Rattle.htss_defs.specs.History.{IsLive}
use Rattle.htss_defs.specs.Molecule.{Molecule}
use Rattle.htss_defs.specs.QueryGraph.{QueryGraph}
use Rattle.htss_defs.specs.Screened.{IsScreened}
use Rattle.board_core.specs.declared.account.Account.{Account}
use Rattle.board_core.specs.declared.entry.Entry.TheVariants.{Answered}
use Rattle.board_core.specs.declared.entry.Noted.{Noted}
use Rattle.board_core.specs.declared.entry.Reply.{Reply}
use Rattle.board_core.specs.declared.entry.Reply.TheVariants.{Hits}
use Rattle.board_core.specs.declared.loads.WordLoad.{WordLoad}
use Rattle.board_core.specs.Words.{Parts}
use Rattle.board_core.specs.Answers.{answers_in}
use Rattle.board_core.specs.Histories.{block_at, history_of}
use Rattle.board_core.specs.MarkRule.{ShowsAt}
use Rattle.board_core.specs.Steps.{MayBe}
use Rattle.searcher.specs.Records.{IsOfScreened, IsTextPlace}
use Rattle.board_jobs.specs.Pruning.{IsRested, began_at, facts_then}

-- this name, atom or bond word was loaded for the answer at place i: past the answer before it, and by its end
pub record IsLoadedFor (i : ℕ) (e : Noted) (es : List Noted) (words : List WordLoad) (l : WordLoad) : Type 0 where
  pub index : ℕ
  pub from : began_at facts_then 0 es i ≤ index
  pub to : index < e.at.facts
  pub there : get_elem? words index ≡ some l

-- each word that was loaded for a search, of the answers from this place on, is one of a record that is live and
-- screened at the search's front, by these words of a board
abbrev pub ReadOnlyScreened : Shape → Parts → ℕ → List Noted → List WordLoad → Type 0
ReadOnlyScreened k p first es words = (i : ℕ) (e : Noted) (query : QueryGraph) (budget front : ℕ) (reply : Reply)
    → first ≤ i → get_elem? es i ≡ some e → e.entry ≡ Answered query budget front reply
    → (l : WordLoad) → IsLoadedFor i e es words l → IsOfScreened k p query front l.place

-- where such a search has hits, all name, atom and bond words of each record that is live and screened at its front
-- were loaded for it
abbrev pub ReadAllScreened : Shape → Parts → ℕ → List Noted → List WordLoad → Type 0
ReadAllScreened k p first es words = (i : ℕ) (e : Noted) (query : QueryGraph) (budget front : ℕ) (hits : List Hit)
    → first ≤ i → get_elem? es i ≡ some e → e.entry ≡ Answered query budget front (Hits hits)
    → (number : ℕ) (name : List ℕ) (mol : Molecule)
    → IsLive (take front (history_of k p)) number name mol → IsScreened query mol
    → (block : ℕ) → ShowsAt p.log.front p.log.slots block number
    → (at : ℕ) → IsTextPlace (block_at k p.regions block 0) at
    → (l : WordLoad) × IsLoadedFor i e es words l × (l.place ≡ block + at)

pub record AreRead (k : Shape) (p : Parts) (first : ℕ) (es : List Noted) (words : List WordLoad) : Type 0 where
  pub only : ReadOnlyScreened k p first es words
  pub all : ReadAllScreened k p first es words

-- both of what an account has loaded, whatever the board is
abbrev pub HaveRead : Shape → ℕ → Account → Type 0
HaveRead k first a = (p : Parts) → MayBe k p a → AreRead k p first (answers_in a.entries) a.loads.facts

-- of a caller that was at rest: of its searches since
abbrev pub ReadsSince : Shape → Account → Account → Type 0
ReadsSince k a b = IsRested a → HaveRead k (length (answers_in a.entries)) b

-- the same of all searchers, which come after the loaders
abbrev pub SearchersRead : Shape → List Account → List Account → Type 0
SearchersRead k before after = (i : ℕ) (a b : Account)
    → k.loaders ≤ i → get_elem? before i ≡ some a → get_elem? after i ≡ some b → ReadsSince k a b
