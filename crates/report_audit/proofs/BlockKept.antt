-- A block whose lines are kept, and its first line at fault.
use Rattle.std.proofs.Common.{◌≡◌, ◌⊎◌, inl, inr, ℕ, zero, suc, ◌+◌, ◌≤◌, List, [], ◌∷◌, ◌++◌, append-nil, length, map, take, All, refl, sym, ap, subst, ◌∙◌, arith}
use Rattle.std.specs.Prelude.{Option, Some, None, Ok, Err, Result, slice_get}
use Rattle.std.proofs.lemmas.List.{take_all}
use Rattle.std.proofs.lemmas.List.Elements.{All-nil}
use Rattle.htss_defs.specs.declared.history.Hit.{Hit}
use Rattle.htss_defs.specs.QueryGraph.{QueryGraph}
use Rattle.htss_defs.specs.Reply.{IsReply, found, over_budget}
use Rattle.reg_model.specs.Searches.{Counts}
use Rattle.mol_section.specs.SectionRecord.{Outcome}
use Rattle.ctfile.specs.RecordList.{IsRecordList}
use Rattle.query_mol.specs.declared.query.QueryRefusal.{QueryRefusal}
use Rattle.query_mol.specs.QueryOutcome.{IsFirstQueryOutcome}
use Rattle.script_text.specs.declared.script.Order.{Order}
use Rattle.script_text.specs.declared.script.Order.TheVariants as order
use Rattle.script_text.specs.FilesByLine.{bytes_at}
use Rattle.report_text.specs.declared.report.Block.{Block}
use Rattle.report_text.specs.declared.report.Block.TheVariants as block
use Rattle.report_text.specs.declared.report.LoadLine.{LoadLine}
use Rattle.report_text.specs.declared.report.WithdrawLine.{WithdrawLine}
use Rattle.report_text.specs.declared.report.SearchLine.{SearchLine}
use Rattle.report_text.specs.declared.report.SearchLine.TheVariants as search
use Rattle.report_rules.proofs.OneQueries.{one_query_outcome}
use Rattle.report_rules.specs.Answers.{Answer, to_record, to_search, to_withdrawal, RecordAnswer, SearchAnswer, not_read, hits_at, over_at, JobAnswer, loaded, withdrew, searched, block_of, outcome_of, record_lines, search_line}
use Rattle.report_rules.specs.Dealing.{Dealt}
use Rattle.report_rules.specs.Faults.{Asks, AsksNothing, HeadKeeps, IsBlockFault, IsBlockFor, IsHitFault, IsLoadFault, KeepsFront, Setting, answer_line, keeps, line_by, own_budget}
use Rattle.report_rules.specs.Reports.{Done, IsAnswerTo, IsByItsFile, IsSearchFor, budget_or, done_lines}
use Rattle.report_rules.specs.Rules.{Line}
use Rattle.told_history.specs.declared.reads.JobRead.{JobRead}
use Rattle.told_history.specs.declared.reads.JobRead.TheVariants.{Records, Asked, Nothing}
use Rattle.report_audit.specs.declared.so_far.SoFar.{SoFar}
use Rattle.report_audit.specs.declared.tally.Caller as code
use Rattle.told_history.specs.declared.told.Told.{Told}
use Rattle.report_audit.specs.BlockChecks.{HasLoaded, IsKeptBlock, IsRefusedSo, IsTurnOf, query_in}
use Rattle.report_audit.specs.LineChecks.{IsNextOf}
use Rattle.told_history.specs.Named.{records_in}
use Rattle.told_history.specs.Reads as reads
use Rattle.report_audit.specs.SoFars.{IsSoFar}
use Rattle.report_audit.proofs.LoadMore.{some_none, some_same, split_last}

-- ---- one line

no_more : {X : Type 0} (first : List X) (x : X) (rest : List X) → [] ≡ first ++ x ∷ rest → ⊥
no_more [] x rest same = absurd cc
no_more (one ∷ first) x rest same = absurd cc

only : {X : Type 0} (x : X) (first : List X) (y : X) (rest : List X) → x ∷ [] ≡ first ++ y ∷ rest → ([] ≡ first) × (x ≡ y)
only x first y rest same = elim (split_last [] x first y rest same) [
  | inl (more, is) ↦ absurd (no_more first y more is)
  | inr is ↦ is
]

kept_one : (told : Told) (new : SoFar) (caller : code.Caller) (s : Setting) (earlier : List Line) (one : Dealt) (here : Block) (answer : JobAnswer) (single : Answer)
    → here ≡ block_of one.job.line answer → IsByItsFile s.files s.budget (record { dealt = one; answer = answer })
    → done_lines (record { dealt = one; answer = answer }) ≡ line_by one single ∷ [] → keeps s earlier (line_by one single)
    → IsNextOf told new caller s (earlier ++ line_by one single ∷ []) one → IsKeptBlock told new s earlier one here
kept_one told new caller s earlier one here answer single block_is by lines_are rule next = record {
  answer = answer;
  block_is = block_is;
  by_file = by;
  rules = λ first last line same.
      let (none, is) = only (line_by one single) first line last (sym lines_are ∙ same) in
      subst (λ (l : Line). keeps s (earlier ++ first) l) is
      (subst (λ (l : List Line). keeps s (earlier ++ l) (line_by one single)) none (subst (λ (l : List Line). keeps s l (line_by one single)) (sym (append-nil earlier)) rule));
  lines = subst (λ (l : List Line). IsSoFar (earlier ++ l) new) (sym lines_are) next.lines;
  long = next.long;
  group_is = next.group_is;
}

-- ---- a withdrawal

by_withdrawal : (bytes : Option (List ℕ)) (budget line at number : ℕ) (asks : Order) (answer : WithdrawLine) → IsBlockFor line asks (block.Withdraw at number answer)
    → (at ≡ line) × IsAnswerTo bytes budget asks (withdrew number answer)
by_withdrawal (Some bytes) budget line at number (order.Withdraw asked) answer is = is
by_withdrawal None budget line at number (order.Withdraw asked) answer is = is
by_withdrawal bytes budget line at number (order.Load file) answer is = absurd is
by_withdrawal bytes budget line at number (order.Search file own) answer is = absurd is

pub kept_withdrawal : (told : Told) (new : SoFar) (caller : code.Caller) (s : Setting) (earlier : List Line) (one : Dealt) (at number : ℕ) (answer : WithdrawLine)
    → IsBlockFor one.job.line one.job.order (block.Withdraw at number answer) → keeps s earlier (line_by one (to_withdrawal number answer))
    → IsNextOf told new caller s (earlier ++ line_by one (to_withdrawal number answer) ∷ []) one → IsKeptBlock told new s earlier one (block.Withdraw at number answer)
kept_withdrawal told new caller s earlier one at number answer mine rule next =
    let (line_is, by) = by_withdrawal (bytes_at s.files one.job.line) s.budget one.job.line at number one.job.order answer mine in
    kept_one told new caller s earlier one (block.Withdraw at number answer) (withdrew number answer) (to_withdrawal number answer) (ap (λ (n : ℕ). block.Withdraw n number answer) line_is) by refl rule next

-- ---- a search

-- what the file of a search was read as
pub record IsSearchOf (s : Setting) (one : Dealt) (at : ℕ) (file : List ℕ) (read : JobRead) : Type 0 where
  pub line_is : at ≡ one.job.line
  pub bytes : List ℕ
  pub there : bytes_at s.files one.job.line ≡ Some bytes
  pub outcome : Result QueryGraph QueryRefusal
  pub read_is : read ≡ Asked outcome
  pub is : IsFirstQueryOutcome bytes outcome
  pub by : (answer : SearchAnswer) → IsSearchFor bytes (own_budget s one.job.order) answer → IsByItsFile s.files s.budget (record { dealt = one; answer = searched file answer })

pub search_of : (s : Setting) (one : Dealt) (at : ℕ) (file : List ℕ) (shown : SearchLine) (read : JobRead) → IsBlockFor one.job.line one.job.order (block.Search at file shown)
    → reads.IsReadFor (bytes_at s.files one.job.line) one.job.order read → IsSearchOf s one at file read
search_of s one at file shown read mine is =
    let (line_is, bytes, outcome, there, read_is, first, by) = go (bytes_at s.files one.job.line) one.job.order read mine is in
    record { line_is = line_is; bytes = bytes; there = there; outcome = outcome; read_is = read_is; is = first; by = by }
  where
    go : (bytes : Option (List ℕ)) (asks : Order) (read : JobRead) → IsBlockFor one.job.line asks (block.Search at file shown) → reads.IsReadFor bytes asks read
        → (line_is : at ≡ one.job.line) × (there : List ℕ) × (outcome : Result QueryGraph QueryRefusal) × (bytes ≡ Some there) × (read ≡ Asked outcome) × IsFirstQueryOutcome there outcome
        × ((answer : SearchAnswer) → IsSearchFor there (own_budget s asks) answer → IsAnswerTo bytes s.budget asks (searched file answer))
    go (Some bytes) (order.Search name own) (Asked outcome) mine is = (mine.0, bytes, outcome, refl, refl, is, λ answer for. (mine.1, for))
    go (Some bytes) (order.Search name own) (Records records) mine is = absurd is
    go (Some bytes) (order.Search name own) Nothing mine is = absurd is
    go None (order.Search name own) read mine is = absurd is
    go bytes (order.Load name) read mine is = absurd mine
    go bytes (order.Withdraw number) read mine is = absurd mine

-- ---- a refused query

refused_as : (bytes : List ℕ) (outcome : Result QueryGraph QueryRefusal) (line code : ℕ) → IsFirstQueryOutcome bytes outcome → IsRefusedSo (Asked outcome) line code
    → IsFirstQueryOutcome bytes (Err (record { line = line; code = code }))
refused_as bytes (Ok query) line code is so = absurd so
refused_as bytes (Err refusal) line code is so =
    subst (λ (n : ℕ). IsFirstQueryOutcome bytes (Err (record { line = line; code = n }))) so.1
    (subst (λ (n : ℕ). IsFirstQueryOutcome bytes (Err (record { line = n; code = refusal.code }))) so.0 is)

pub kept_refusal : (told : Told) (new : SoFar) (caller : code.Caller) (s : Setting) (earlier : List Line) (one : Dealt) (at line code : ℕ) (file : List ℕ) (read : JobRead) → IsSearchOf s one at file read
    → IsRefusedSo read line code → IsNextOf told new caller s (earlier ++ line_by one (to_search (not_read line code)) ∷ []) one → IsKeptBlock told new s earlier one (block.Search at file (search.Refused line code))
kept_refusal told new caller s earlier one at line code file read asked so next =
    kept_one told new caller s earlier one (block.Search at file (search.Refused line code)) (searched file (not_read line code)) (to_search (not_read line code))
    (ap (λ (n : ℕ). block.Search n file (search.Refused line code)) asked.line_is)
    (asked.by (not_read line code) (refused_as asked.bytes asked.outcome line code asked.is (subst (λ (r : JobRead). IsRefusedSo r line code) asked.read_is so)))
    refl (record { rule = tt; logged = All-nil _ }) next

pub not_refused : (s : Setting) (earlier : List Line) (one : Dealt) (at line code : ℕ) (file : List ℕ) (read : JobRead) → IsSearchOf s one at file read → (IsRefusedSo read line code → ⊥)
    → HeadKeeps s earlier one (block.Search at file (search.Refused line code)) → ⊥
not_refused s earlier one at line code file read asked not head =
    let same : asked.bytes ≡ head.bytes = some_same asked.bytes head.bytes (sym asked.there ∙ ap (bytes_at s.files) (sym asked.line_is) ∙ head.there) in
    let outcome = one_query_outcome head.bytes asked.outcome (Err (record { line = line; code = code })) (subst (λ (b : List ℕ). IsFirstQueryOutcome b asked.outcome) same asked.is) head.is in
    let is : Asked (Err (record { line = line; code = code })) ≡ read = sym (asked.read_is ∙ ap Asked outcome) in
    not (subst (λ (r : JobRead). IsRefusedSo r line code) is (refl, refl))

-- ---- a query that was read

asks_in : (outcome : Result QueryGraph QueryRefusal) (query : QueryGraph) → query_in (Asked outcome) ≡ Some query → outcome ≡ Ok query
asks_in (Ok other) query same = ap Ok (some_same other query same)
asks_in (Err refusal) query same = absurd cc

pub asks : (s : Setting) (one : Dealt) (at : ℕ) (file : List ℕ) (read : JobRead) (query : QueryGraph) → IsSearchOf s one at file read → query_in read ≡ Some query → Asks s at query
asks s one at file read query asked is =
    let outcome = asks_in asked.outcome query (sym (ap query_in asked.read_is) ∙ is) in
    record {
      bytes = asked.bytes;
      there = ap (bytes_at s.files) asked.line_is ∙ asked.there;
      is = subst (IsFirstQueryOutcome asked.bytes) outcome asked.is;
    }

same_query : (s : Setting) (one : Dealt) (at : ℕ) (file : List ℕ) (read : JobRead) (query : QueryGraph) → IsSearchOf s one at file read → Asks s at query → query_in read ≡ Some query
same_query s one at file read query asked has =
    let same : asked.bytes ≡ has.bytes = some_same asked.bytes has.bytes (sym asked.there ∙ ap (bytes_at s.files) (sym asked.line_is) ∙ has.there) in
    let outcome = one_query_outcome has.bytes asked.outcome (Ok query) (subst (λ (b : List ℕ). IsFirstQueryOutcome b asked.outcome) same asked.is) has.is in
    ap query_in (asked.read_is ∙ ap Asked outcome)

pub no_query : (s : Setting) (earlier : List Line) (one : Dealt) (at : ℕ) (file : List ℕ) (read : JobRead) (query : QueryGraph) → IsSearchOf s one at file read → query_in read ≡ None → Asks s at query → ⊥
no_query s earlier one at file read query asked none has = some_none query (sym none ∙ same_query s one at file read query asked has)

pub kept_hits : (told : Told) (new : SoFar) (caller : code.Caller) (s : Setting) (earlier : List Line) (one : Dealt) (at front rows records budget : ℕ) (hits : List Hit) (file : List ℕ) (read : JobRead) (query : QueryGraph)
    → IsSearchOf s one at file read → query_in read ≡ Some query → own_budget s one.job.order ≡ budget → KeepsFront s earlier (line_by one (to_search (hits_at query budget front hits rows records))) front
    → IsReply query budget (take front s.history) (found hits) × Counts query (take front s.history) records
    → IsNextOf told new caller s (earlier ++ line_by one (to_search (hits_at query budget front hits rows records)) ∷ []) one
    → IsKeptBlock told new s earlier one (block.Search at file (search.Hits front hits rows records))
kept_hits told new caller s earlier one at front rows records budget hits file read query asked is own kept reply next =
    let outcome = asks_in asked.outcome query (sym (ap query_in asked.read_is) ∙ is) in
    kept_one told new caller s earlier one (block.Search at file (search.Hits front hits rows records)) (searched file (hits_at query budget front hits rows records)) (to_search (hits_at query budget front hits rows records))
    (ap (λ (n : ℕ). block.Search n file (search.Hits front hits rows records)) asked.line_is)
    (asked.by (hits_at query budget front hits rows records) (subst (IsFirstQueryOutcome asked.bytes) outcome asked.is, sym own))
    refl (record { rule = (kept.within, reply.0, reply.1, kept.later); logged = All-nil _ }) next

pub kept_over : (told : Told) (new : SoFar) (caller : code.Caller) (s : Setting) (earlier : List Line) (one : Dealt) (at front budget : ℕ) (file : List ℕ) (read : JobRead) (query : QueryGraph)
    → IsSearchOf s one at file read → query_in read ≡ Some query → own_budget s one.job.order ≡ budget → KeepsFront s earlier (line_by one (to_search (over_at query budget front))) front
    → IsReply query budget (take front s.history) over_budget → IsNextOf told new caller s (earlier ++ line_by one (to_search (over_at query budget front)) ∷ []) one
    → IsKeptBlock told new s earlier one (block.Search at file (search.OverBudget front budget))
kept_over told new caller s earlier one at front budget file read query asked is own kept reply next =
    let outcome = asks_in asked.outcome query (sym (ap query_in asked.read_is) ∙ is) in
    kept_one told new caller s earlier one (block.Search at file (search.OverBudget front budget)) (searched file (over_at query budget front)) (to_search (over_at query budget front))
    (ap (λ (n : ℕ). block.Search n file (search.OverBudget front budget)) asked.line_is)
    (asked.by (over_at query budget front) (subst (IsFirstQueryOutcome asked.bytes) outcome asked.is, sym own))
    refl (record { rule = (kept.within, reply, kept.later); logged = All-nil _ }) next

-- ---- a load

abbrev pub records_of : JobRead → List Outcome
records_of read = map reads.outcome_of (records_in read)

pub load_of : (bytes : Option (List ℕ)) (line at : ℕ) (file : List ℕ) (lines : List LoadLine) (asks : Order) (read : JobRead) → IsBlockFor line asks (block.Load at file lines) → reads.IsReadFor bytes asks read
    → (at ≡ line) × (there : List ℕ) × (bytes ≡ Some there) × IsRecordList there (records_of read)
load_of (Some bytes) line at file lines (order.Load name) (Records records) mine is = (mine.0, bytes, refl, is)
load_of (Some bytes) line at file lines (order.Load name) (Asked outcome) mine is = absurd is
load_of (Some bytes) line at file lines (order.Load name) Nothing mine is = absurd is
load_of None line at file lines (order.Load name) read mine is = absurd is
load_of bytes line at file lines (order.Withdraw number) read mine is = absurd mine
load_of bytes line at file lines (order.Search name own) read mine is = absurd mine

by_load : (bytes : Option (List ℕ)) (budget line at : ℕ) (file : List ℕ) (lines : List LoadLine) (answers : List RecordAnswer) (asks : Order) (read : JobRead) → IsBlockFor line asks (block.Load at file lines) → reads.IsReadFor bytes asks read
    → map outcome_of answers ≡ records_of read → IsAnswerTo bytes budget asks (loaded file answers)
by_load (Some bytes) budget line at file lines answers (order.Load name) (Records records) mine is same = (mine.1, subst (IsRecordList bytes) (sym same) is)
by_load (Some bytes) budget line at file lines answers (order.Load name) (Asked outcome) mine is same = absurd is
by_load (Some bytes) budget line at file lines answers (order.Load name) Nothing mine is same = absurd is
by_load None budget line at file lines answers (order.Load name) read mine is same = absurd is
by_load bytes budget line at file lines answers (order.Withdraw number) read mine is same = absurd mine
by_load bytes budget line at file lines answers (order.Search name own) read mine is same = absurd mine

lines_of : (one : Dealt) (file : List ℕ) (answers : List RecordAnswer) → done_lines (record { dealt = one; answer = loaded file answers }) ≡ map (answer_line one) answers
lines_of one file [] = refl
lines_of one file (answer ∷ answers) = ap (λ (l : List Line). answer_line one answer ∷ l) (lines_of one file answers)

split_map : (one : Dealt) (xs : List RecordAnswer) (first : List Line) (line : Line) (last : List Line) → map (answer_line one) xs ≡ first ++ line ∷ last
    → (before : List RecordAnswer) × (answer : RecordAnswer) × (after : List RecordAnswer) × (xs ≡ before ++ answer ∷ after) × (first ≡ map (answer_line one) before) × (line ≡ answer_line one answer)
split_map one [] first line last same = absurd (no_more first line last same)
split_map one (x ∷ xs) [] line last same =
    let here : line ≡ answer_line one x = cc in
    ([], x, xs, refl, refl, here)
split_map one (x ∷ xs) (top ∷ first) line last same =
    let here : top ≡ answer_line one x = cc in
    let left : map (answer_line one) xs ≡ first ++ line ∷ last = cc in
    let (before, answer, after, whole, is, line_is) = split_map one xs first line last left in
    (x ∷ before, answer, after, ap (λ (l : List RecordAnswer). x ∷ l) whole, cc (here, is), line_is)

all_taken : {X : Type 0} (xs ys : List X) (n : ℕ) → xs ≡ take n ys → n ≡ length ys → xs ≡ ys
all_taken {X = X} xs ys n is long = is ∙ take_all n ys (omega (arith, long))

pub kept_load : (told : Told) (new : SoFar) (caller : code.Caller) (s : Setting) (earlier : List Line) (one : Dealt) (at : ℕ) (file : List ℕ) (lines : List LoadLine) (read : JobRead)
    → IsBlockFor one.job.line one.job.order (block.Load at file lines) → reads.IsReadFor (bytes_at s.files one.job.line) one.job.order read
    → HasLoaded told new caller s earlier one (records_of read) lines (length (records_of read)) → length lines ≡ length (records_of read) → IsKeptBlock told new s earlier one (block.Load at file lines)
kept_load told new caller s earlier one at file lines read mine is has long =
    let before = has.before in
    let (line_is, bytes, there, list) = load_of (bytes_at s.files one.job.line) one.job.line at file lines one.job.order read mine is in
    let outcomes : map outcome_of before ≡ records_of read = all_taken (map outcome_of before) (records_of read) (length before) has.loaded.records has.count_is in
    let printed : record_lines 1 before ≡ lines = all_taken (record_lines 1 before) lines (length before) has.loaded.lines_are (has.count_is ∙ sym long) in
    record {
      answer = loaded file before;
      block_is = ap (λ (n : ℕ). block.Load n file lines) line_is ∙ ap (block.Load one.job.line file) (sym printed);
      by_file = by_load (bytes_at s.files one.job.line) s.budget one.job.line at file lines before one.job.order read mine is outcomes;
      rules = λ first last line same.
          let (front, answer, after, whole, first_is, it_is) = split_map one before first line last (sym (lines_of one file before) ∙ same) in
          subst (λ (l : Line). keeps s (earlier ++ first) l) (sym it_is)
          (subst (λ (l : List Line). keeps s (earlier ++ l) (answer_line one answer)) (sym first_is) (has.loaded.rules front answer after whole));
      lines = subst (λ (l : List Line). IsSoFar (earlier ++ l) new) (sym (lines_of one file before)) has.next.lines;
      long = has.next.long;
      group_is = has.next.group_is;
    }
