-- What a searcher has loaded for each of its answers, told by how long its lists of loads were at each of them (this
-- project's own).
use Rattle.std.specs.Prelude.{◌≡◌, ℕ, zero, suc, ◌-◌, ◌≤◌, List, [], ◌∷◌, ◌++◌, length, map, take, drop}
use mathlib.Core.Option.{some}
use lib.ListN.{get_elem?}
use Rattle.htss_defs.specs.declared.shape.Shape.{Shape}
use Rattle.htss_defs.specs.declared.history.Hit.{Hit}
use Rattle.htss_defs.specs.declared.needs.Need.{Need}
use Rattle.htss_defs.specs.QueryGraph.{QueryGraph}
use Rattle.env_cover.specs.Reach.{CoversCode}
use Rattle.report_rules.specs.Answers.{to_search, hits_at}
use Rattle.report_rules.specs.Rules.{Line}
use Rattle.board_core.specs.declared.account.Account.{Account}
use Rattle.board_core.specs.declared.entry.Entry.TheVariants.{Answered}
use Rattle.board_core.specs.declared.entry.Noted.{Noted}
use Rattle.board_core.specs.declared.entry.Reply.{Reply}
use Rattle.board_core.specs.declared.loads.Lengths.{Lengths}
use Rattle.board_core.specs.Each.{Each}
use Rattle.board_core.specs.Answers.{answers_in}
use Rattle.descent.specs.Seats.{CodeLoad, load_of}
use Rattle.descent.specs.Pruned.{IsPruned, IsLoaded, CountsLoaded}
use Rattle.descent.specs.Walks.{IsTold}
use Rattle.searcher.specs.Finding.{IsNeedOf}
use Rattle.board_jobs.specs.Printed.{printed}

-- the code words that an account has loaded
abbrev pub codes_loaded : Account → List CodeLoad
codes_loaded a = map load_of a.loads.codes

abbrev pub codes_then : Lengths → ℕ
codes_then at = at.codes

abbrev pub facts_then : Lengths → ℕ
facts_then at = at.facts

-- how long a list was at the last of these answers, or 0
abbrev pub size_after : (Lengths → ℕ) → ℕ → List Noted → ℕ
size_after size from [] = from
size_after size from (e ∷ es) = size_after size (size e.at) es

-- how long it was at the answer before the one at this place
abbrev pub began_at : (Lengths → ℕ) → ℕ → List Noted → ℕ → ℕ
began_at size from [] i = from
began_at size from (e ∷ es) zero = from
began_at size from (e ∷ es) (suc i) = began_at size (size e.at) es i

-- what a list got from one length to another
abbrev pub between : {A : Type 0} → ℕ → ℕ → List A → List A
between from to xs = take (to - from) (drop from xs)

-- no code, name, atom or bond word was loaded since the last answer
pub record IsRested (a : Account) : Type 0 where
  pub codes : size_after codes_then 0 (answers_in a.entries) ≡ length a.loads.codes
  pub facts : size_after facts_then 0 (answers_in a.entries) ≡ length a.loads.facts

-- these code words are pruned by the need of the query's pivot, whatever five codes the rows have that agree with them
pub record ArePrunedFor (query : QueryGraph) (loads : List CodeLoad) : Type 0 where
  pub need : Need
  pub need_is : IsNeedOf query need
  pub pruned : (any : ℕ → List ℕ) → ((r : ℕ) → IsLoaded loads r → length (any r) ≡ 5) → Each (IsTold any) loads
      → IsPruned any (CoversCode need) loads

-- the code words that were loaded for the answer at this place
abbrev pub loaded_for : ℕ → Noted → List Noted → List CodeLoad → List CodeLoad
loaded_for i e es loads = between (began_at codes_then 0 es i) e.at.codes loads

-- so is what was loaded for each search, of the answers from this place on
abbrev pub SearchesPruned : ℕ → List Noted → List CodeLoad → Type 0
SearchesPruned first es loads = (i : ℕ) (e : Noted) (query : QueryGraph) (budget front : ℕ) (reply : Reply) → first ≤ i
    → get_elem? es i ≡ some e
    → e.entry ≡ Answered query budget front reply → ArePrunedFor query (loaded_for i e es loads)

-- a caller that was at rest is so again, and what it has loaded for each search since is pruned
abbrev pub StaysPruned : Account → Account → Type 0
StaysPruned a b = IsRested a → IsRested b × SearchesPruned (length (answers_in a.entries)) (answers_in b.entries)
    (codes_loaded b)

-- the same of all searchers, which come after the loaders
abbrev pub SearchersStayPruned : Shape → List Account → List Account → Type 0
SearchersStayPruned k before after = (i : ℕ) (a b : Account) → k.loaders ≤ i → get_elem? before i ≡ some a
    → get_elem? after i ≡ some b → StaysPruned a b

-- each of these lines that has hits tells as many rows as were loaded for its entry: it is the next after those of the
-- lines before it
abbrev pub TellRows : List Line → List Noted → List CodeLoad → Type 0
TellRows lines es loads = (earlier later : List Line) (line : Line) (query : QueryGraph) (budget front : ℕ)
    (hits : List Hit) (rows records : ℕ)
    → lines ≡ earlier ++ line ∷ later → line.answer ≡ to_search (hits_at query budget front hits rows records)
    → (e : Noted) × (get_elem? es (length (printed earlier)) ≡ some e)
    × CountsLoaded (loaded_for (length (printed earlier)) e es loads) rows

-- a searcher's account at its end: it is at rest, what it has loaded for each search is pruned, and its lines tell how
-- many rows that were
pub record HasPruned (lines : List Line) (a : Account) : Type 0 where
  pub rested : IsRested a
  pub pruned : SearchesPruned 0 (answers_in a.entries) (codes_loaded a)
  pub rows : TellRows lines (answers_in a.entries) (codes_loaded a)
