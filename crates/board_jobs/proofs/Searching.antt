-- What a search answers, and what it leaves of the account.
use Rattle.std.proofs.Common.{◌≡◌, ⊎_elim, inl, inr, ℕ, ◌+◌, ◌<◌, ◌≤◌, List, [], ◌∷◌, length, sym, ap, subst, ◌∙◌, refl, arith}
use Rattle.std.proofs.lemmas.List.{append-nil}
use Rattle.std.specs.Prelude.{Ok, Err}
use Rattle.htss_defs.specs.declared.shape.Shape.{Shape}
use Rattle.htss_defs.specs.declared.history.Hit.{Hit}
use Rattle.htss_defs.specs.QueryGraph.{QueryGraph}
use Rattle.query_mol.specs.QueryOutcome.{IsFirstQueryOutcome}
use Rattle.reg_model.specs.Searches.{Counts}
use Rattle.report_text.specs.declared.report.SearchLine.{SearchLine}
use Rattle.report_text.specs.declared.report.SearchLine.TheVariants.{Hits, OverBudget, Refused}
use Rattle.report_rules.specs.Reports.{IsSearchFor}
use Rattle.report_rules.specs.Answers.{Answer, SearchAnswer, to_search, not_read, hits_at, over_at}
use Rattle.board_core.specs.declared.account.Account.{Account}
use Rattle.board_core.specs.declared.entry.Entry.{Entry}
use Rattle.board_core.specs.declared.entry.Entry.TheVariants.{Answered}
use Rattle.board_core.specs.declared.entry.Reply.TheVariants as reply
use Rattle.board_core.specs.After.{fronted, stamp_all}
use Rattle.board_core.specs.Answers.{answers_in}
use Rattle.board_core.proofs.Grown.{grows_same}
use Rattle.board.specs.Seated.{Place, Seated, IsOf}
use Rattle.searcher.specs.Searched.{IsSearched as Searched}
use Rattle.searcher.specs.Finding.{LoadsPruned}
use Rattle.searcher.specs.Records.{ReadsAllScreened, ReadsScreened}
use Rattle.board_jobs.specs.Jobs.{IsReady}
use Rattle.board_core.specs.declared.pool.Own.{Own}
use Rattle.board_core.specs.Sheets.{owns}
use Rattle.board_core.specs.MarkRule.{IsAmong}
use Rattle.searcher.specs.Walking.{Whatever}
use Rattle.board_jobs.specs.Telling.{search_entries}
use Rattle.board_jobs.specs.Calls.{Answers, GoesOn, IsAtWork, IsOfQuery, IsSearched, QueryBroke, SearchBroke, TellsReply}
use Rattle.board_jobs.proofs.Chained.{all_one, all_none, goes_on-one}

seen_in : (a b : Account) (front : ℕ) (es : List Entry) → Searched a b front es → b.log.seen ≡ front
seen_in a b front es s = ap (λ l. l.seen) s.log

used_in : (a b : Account) (front : ℕ) (es : List Entry) → Searched a b front es → length b.room.used ≡ length a.room.used + 0
used_in a b front es s = let same : length b.room.used ≡ length a.room.used = ap (λ r. length r.used) s.room in omega arith

begun_in : (a b : Account) (front : ℕ) (es : List Entry) → Searched a b front es → length b.tree.begun ≤ length a.tree.begun + 0
begun_in a b front es s = let same : length b.tree.begun ≡ length a.tree.begun = ap (λ t. length t.begun) s.tree in omega arith

hits-answers : (k : Shape) (a b : Account) (asked : QueryGraph) (budget front : ℕ) (hits : List Hit) (rows records : ℕ) → a.log.seen ≤ front
    → Searched a b front (Answered asked budget front (reply.Hits hits) ∷ []) → Whatever k b front (λ h. Counts asked h records)
    → LoadsPruned asked a b rows → ReadsScreened k asked front a b → ReadsAllScreened k asked front a b
    → Answers k a b (to_search (hits_at asked budget front hits rows records))
hits-answers k a b asked budget front hits rows records later s counted rowed screened whole c who =
    let told : Entry = Answered asked budget front (reply.Hits hits) in
    let seen = seen_in a b front (told ∷ []) s in record {
      who = s.who;
      noted_are = s.entries;
      seen = omega (arith, seen, later);
      marks = all_one (λ mark. mark ≤ b.log.seen) front (omega (arith, seen));
      fresh = all_none _;
      fronts = all_one (λ mark. a.log.seen ≤ mark) front later;
      used = used_in a b front (told ∷ []) s;
      says = counted;
      rows = rowed;
      read = (screened, whole);
      begun = begun_in a b front (told ∷ []) s;
      grows = s.grown;
    }

over-answers : (k : Shape) (a b : Account) (asked : QueryGraph) (budget front : ℕ) → a.log.seen ≤ front
    → Searched a b front (Answered asked budget front reply.OverBudget ∷ []) → (rows : ℕ) × LoadsPruned asked a b rows
    → ReadsScreened k asked front a b → Answers k a b (to_search (over_at asked budget front))
over-answers k a b asked budget front later s rowed screened c who =
    let told : Entry = Answered asked budget front reply.OverBudget in
    let seen = seen_in a b front (told ∷ []) s in record {
      who = s.who;
      noted_are = s.entries;
      seen = omega (arith, seen, later);
      marks = all_one (λ mark. mark ≤ b.log.seen) front (omega (arith, seen));
      fresh = all_none _;
      fronts = all_one (λ mark. a.log.seen ≤ mark) front later;
      used = used_in a b front (told ∷ []) s;
      says = tt;
      rows = rowed;
      read = screened;
      begun = begun_in a b front (told ∷ []) s;
      grows = s.grown;
    }

-- nothing is told of a search that memory ran out for
quiet-answers : (k : Shape) (a b : Account) (front : ℕ) → a.log.seen ≤ front → Searched a b front [] → Answers k a b (to_search (not_read 0 0))
quiet-answers k a b front later s c who =
    let seen = seen_in a b front [] s in record {
      who = s.who;
      noted_are = s.entries;
      seen = omega (arith, seen, later);
      marks = all_none _;
      fresh = all_none _;
      fronts = all_none _;
      used = used_in a b front [] s;
      says = tt;
      rows = λ code. absurd (omega arith);
      read = tt;
      begun = begun_in a b front [] s;
      grows = s.grown;
    }

-- and of a query that is refused, for which nothing is done
same-answers : (k : Shape) (a : Account) (line code : ℕ) → Answers k a a (to_search (not_read line code))
same-answers k a line code c who = record {
  who = refl;
  noted_are = sym (append-nil (answers_in a.entries));
  seen = omega arith;
  marks = all_none _;
  fresh = all_none _;
  fronts = all_none _;
  used = omega arith;
  says = tt;
  rows = λ code. refl;
  read = tt;
  begun = omega arith;
  grows = grows_same a;
}

-- a caller that was pinned and is no more is ready again
ready_searched : (c d : Seated) (front : ℕ) (es : List Entry) → IsReady c → d.stock ≡ c.stock → Searched c.account d.account front es → IsReady d
ready_searched c d front es ready stock s = record {
  free = ap (λ l. l.holding) s.log ∙ ap fronted ready.free;
  unpinned = s.unpinned;
  stocked = record {
    own = λ q own. subst (λ (l : List ℕ). IsAmong l q) (sym stock) (ready.stocked.own q (subst (λ (l : List Own). 0 < owns q l) s.own own));
    few = let own : length d.account.pool.own ≡ length c.account.pool.own = ap length s.own in let same : length d.stock ≡ length c.stock = ap length stock in let few = ready.stocked.few in omega arith;
    size = subst (λ (l : List ℕ). length l ≤ 32) (sym stock) ready.stocked.size;
    clean = s.parted.1 ∙ ap (stamp_all s.parted.0) ready.stocked.clean;
  };
}

-- ---- the lines

pub told-hits : (b : Place) (c d : Seated) (asked : QueryGraph) (budget front : ℕ) (found hits : List Hit) (rows records kept read : ℕ) → hits ≡ found → kept ≡ records → read ≡ rows → c.account.log.seen ≤ front
    → Searched c.account d.account front (Answered asked budget front (reply.Hits found) ∷ []) → Whatever b.shape d.account front (λ h. Counts asked h records)
    → LoadsPruned asked c.account d.account rows → ReadsScreened b.shape asked front c.account d.account
    → ReadsAllScreened b.shape asked front c.account d.account
    → TellsReply b.shape c.account d.account asked budget (Hits front hits read kept)
told-hits b c d asked budget front found hits rows records kept read same count all later s counted rowed screened
    whole =
    subst (λ (x : List Hit). Answers b.shape c.account d.account (to_search (hits_at asked budget front x read kept))) (sym same)
    (subst (λ (n : ℕ). Answers b.shape c.account d.account (to_search (hits_at asked budget front found read n))) (sym count)
    (subst (λ (n : ℕ). Answers b.shape c.account d.account (to_search (hits_at asked budget front found n records))) (sym all)
    (hits-answers b.shape c.account d.account asked budget front found rows records later s counted rowed
    screened whole)))

pub told-over : (b : Place) (c d : Seated) (asked : QueryGraph) (budget front : ℕ) → c.account.log.seen ≤ front
    → Searched c.account d.account front (Answered asked budget front reply.OverBudget ∷ [])
    → (rows : ℕ) × LoadsPruned asked c.account d.account rows
    → ReadsScreened b.shape asked front c.account d.account
    → TellsReply b.shape c.account d.account asked budget (OverBudget front budget)
told-over b c d asked budget front later s rowed screened =
    (refl, over-answers b.shape c.account d.account asked budget front later s rowed screened)

pub on-searched : (b : Place) (c d : Seated) (front : ℕ) (es : List Entry) (answer : Answer) → IsAtWork b c → IsOf b d → d.stock ≡ c.stock → Searched c.account d.account front es
    → Answers b.shape c.account d.account answer → GoesOn b c d
on-searched b c d front es answer work of stock s answers =
    goes_on-one b c d answer (record { of = of; ready = ready_searched c d front es work.ready stock s }) s.who answers

pub on-hits : (b : Place) (c d : Seated) (asked : QueryGraph) (budget front : ℕ) (found : List Hit) (rows records : ℕ) → IsAtWork b c → IsOf b d → d.stock ≡ c.stock → c.account.log.seen ≤ front
    → Searched c.account d.account front (Answered asked budget front (reply.Hits found) ∷ [])
    → Whatever b.shape d.account front (λ h. Counts asked h records) → LoadsPruned asked c.account d.account rows
    → ReadsScreened b.shape asked front c.account d.account → ReadsAllScreened b.shape asked front c.account d.account
    → GoesOn b c d
on-hits b c d asked budget front found rows records work of stock later s counted rowed screened whole =
    on-searched b c d front (Answered asked budget front (reply.Hits found) ∷ []) (to_search (hits_at asked budget front found rows records)) work of stock s
    (hits-answers b.shape c.account d.account asked budget front found rows records later s counted rowed
    screened whole)

pub on-over : (b : Place) (c d : Seated) (asked : QueryGraph) (budget front : ℕ) → IsAtWork b c → IsOf b d → d.stock ≡ c.stock → c.account.log.seen ≤ front
    → Searched c.account d.account front (Answered asked budget front reply.OverBudget ∷ [])
    → (rows : ℕ) × LoadsPruned asked c.account d.account rows
    → ReadsScreened b.shape asked front c.account d.account → GoesOn b c d
on-over b c d asked budget front work of stock later s rowed screened =
    on-searched b c d front (Answered asked budget front reply.OverBudget ∷ [])
    (to_search (over_at asked budget front)) work of stock s
    (over-answers b.shape c.account d.account asked budget front later s rowed screened)

-- memory ran out
pub on-none : (b : Place) (c d : Seated) (front : ℕ) → IsAtWork b c → IsOf b d → d.stock ≡ c.stock → Searched c.account d.account front [] → GoesOn b c d
on-none b c d front work of stock s =
    let seen = seen_in c.account d.account front [] s in
    let grown = s.grown.seen in
    on-searched b c d front [] (to_search (not_read 0 0)) work of stock s (quiet-answers b.shape c.account d.account front (omega (arith, seen, grown)) s)

-- ---- the query of a file

pub searched-refused : (k : Shape) (a : Account) (bytes : List ℕ) (budget line code : ℕ) → IsFirstQueryOutcome bytes (Err (record { line = line; code = code })) → IsSearched k a a bytes budget (Refused line code)
searched-refused k a bytes budget line code refused = record {
  answer = not_read line code;
  searched = refused;
  line_is = refl;
  answers = same-answers k a line code;
}

pub searched-told : (k : Shape) (a b : Account) (bytes : List ℕ) (asked : QueryGraph) (budget : ℕ) (line : SearchLine) → IsFirstQueryOutcome bytes (Ok asked)
    → TellsReply k a b asked budget line → IsSearched k a b bytes budget line
searched-told k a b bytes asked budget (Hits front hits rows records) is told = record { answer = hits_at asked budget front hits rows records; searched = (is, refl); line_is = refl; answers = told }
searched-told k a b bytes asked budget (OverBudget front own) is told = record { answer = over_at asked own front; searched = (is, told.0); line_is = refl; answers = told.1 }
searched-told k a b bytes asked budget (Refused at code) is told = absurd told

-- ---- memory ran out

-- the search was answered
pub broke-hits : (b : Place) (c d : Seated) (asked : QueryGraph) (budget front : ℕ) (found : List Hit) (rows records : ℕ) → c.account.log.seen ≤ front
    → Searched c.account d.account front (Answered asked budget front (reply.Hits found) ∷ []) → Whatever b.shape d.account front (λ h. Counts asked h records)
    → LoadsPruned asked c.account d.account rows → ReadsScreened b.shape asked front c.account d.account
    → ReadsAllScreened b.shape asked front c.account d.account
    → QueryBroke b.shape c.account d.account asked budget
broke-hits b c d asked budget front found rows records later s counted rowed screened whole = record {
  answer = hits_at asked budget front found rows records;
  said = inr (refl, refl);
  answers = hits-answers b.shape c.account d.account asked budget front found rows records later s counted rowed
      screened whole;
}

-- it was not
pub broke-none : (b : Place) (c d : Seated) (asked : QueryGraph) (budget front : ℕ) → Searched c.account d.account front [] → QueryBroke b.shape c.account d.account asked budget
broke-none b c d asked budget front s =
    let seen = seen_in c.account d.account front [] s in
    let grown = s.grown.seen in
    record { answer = not_read 0 0; said = inl refl; answers = quiet-answers b.shape c.account d.account front (omega (arith, seen, grown)) s }

-- nothing was done
pub broke-same : (k : Shape) (a : Account) (bytes : List ℕ) (budget : ℕ) → SearchBroke k a a bytes budget
broke-same k a bytes budget = record { answer = not_read 0 0; said = inl refl; answers = same-answers k a 0 0 }

-- by the query of the file
for_query : (bytes : List ℕ) (asked : QueryGraph) (budget : ℕ) (answer : SearchAnswer) → IsFirstQueryOutcome bytes (Ok asked) → IsOfQuery asked budget answer → IsSearchFor bytes budget answer
for_query bytes asked budget (not_read line code) is of = absurd of
for_query bytes asked budget (hits_at query own front hits rows records) is of = (subst (λ (q : QueryGraph). IsFirstQueryOutcome bytes (Ok q)) (sym of.0) is, of.1)
for_query bytes asked budget (over_at query own front) is of = (subst (λ (q : QueryGraph). IsFirstQueryOutcome bytes (Ok q)) (sym of.0) is, of.1)

pub broke-query : (k : Shape) (a b : Account) (bytes : List ℕ) (asked : QueryGraph) (budget : ℕ) → IsFirstQueryOutcome bytes (Ok asked) → QueryBroke k a b asked budget → SearchBroke k a b bytes budget
broke-query k a b bytes asked budget is broke = record {
  answer = broke.answer;
  said = ⊎_elim (λ (quiet : search_entries broke.answer ≡ []). inl quiet) (λ (of : IsOfQuery asked budget broke.answer). inr (for_query bytes asked budget broke.answer is of)) broke.said;
  answers = broke.answers;
}
