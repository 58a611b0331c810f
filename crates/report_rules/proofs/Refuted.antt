-- No line of a report of its own log is at fault.
use Rattle.std.proofs.Common.{◌≡◌, ◌⊎◌, inl, inr, ℕ, zero, suc, ◌+◌, ◌-◌, ◌≤◌, ◌<◌, List, [], ◌∷◌, ◌++◌, length, map, take, refl, sym, ap, ◌∙◌, subst, All, get_or, arith}
use Rattle.std.specs.Prelude.{Option, Some, None, Contains, slice_get, Ok}
use Rattle.std.specs.List.{flat_map}
use Rattle.std.proofs.lemmas.Grind.{flat_map-append}
use Rattle.std.proofs.lemmas.List.{length-map}
use Rattle.std.proofs.lemmas.List.Concat.{flat_map-cons}
use Rattle.std.proofs.lemmas.List.Elements.{All-head, All-tail, All-take}
use Rattle.htss_defs.specs.declared.history.Event.{Event}
use Rattle.htss_defs.specs.declared.history.Hit.{Hit}
use Rattle.htss_defs.specs.QueryGraph.{QueryGraph}
use Rattle.htss_defs.specs.Molecule.{Molecule}
use Rattle.htss_defs.specs.Hits.{AreHits}
use Rattle.htss_defs.specs.Reply.{IsReply, found, over_budget}
use Rattle.reg_model.specs.Searches.{Counts}
use Rattle.ctfile.specs.RecordList.{IsRecordList}
use Rattle.ctfile.proofs.OneList.{one_record_list}
use Rattle.query_mol.specs.QueryOutcome.{IsFirstQueryOutcome}
use Rattle.script_text.specs.declared.script.Order.{Order}
use Rattle.script_text.specs.declared.script.Order.TheVariants as order
use Rattle.script_text.specs.FilesByLine.{bytes_at}
use Rattle.report_text.specs.declared.report.LogLine.{LogLine}
use Rattle.report_rules.specs.Answers.{RecordAnswer, JobAnswer, loaded, withdrew, searched, SearchAnswer, not_read, hits_at, over_at}
use Rattle.report_rules.specs.Answers.{record_line, record_lines, outcome_of, own_number, to_withdrawal, to_search, block_of, search_line}
use Rattle.report_rules.specs.Dealing.{Dealt}
use Rattle.report_rules.specs.Rules.{Line, KeepsRule}
use Rattle.report_rules.specs.Reports.{Done, done_block, done_lines, log_line, budget_or, IsByItsFile, IsAnswerTo, IsSearchFor}
use Rattle.htss_defs.specs.History.{IsLegal, Withdraws}
use Rattle.script_text.specs.declared.script.Group.{Group}
use Rattle.report_text.specs.declared.report.Report.{Report}
use Rattle.report_rules.specs.Dealing.{dealt}
use Rattle.report_rules.specs.Reports.{IsReport, IsByItsLoader}
use Rattle.report_rules.specs.Faults.{IsFirstFault, AreNamed, told_from, IsLogUpTo, IsRuleFault, IsUnnamed, IsLaterFault, setting_of, names}
use Rattle.report_rules.proofs.OneHistory.{one_history}
use Rattle.report_rules.proofs.OneDone.{first_done}
use Rattle.report_rules.specs.Faults.{Setting, keeps, line_by, answer_line, own_budget, Asks, HeadKeeps, IsBlockFor, IsLoadFault, IsHitFault, IsSearchFault, IsBlockFault}
use Rattle.report_rules.proofs.OneDone.{OneQuery, answer_in, answer_back}

-- a query has one list of hits in a history
abbrev pub OneHits : Type 0
OneHits = (asked : QueryGraph) (history : List Event) (first second : List Hit) → AreHits asked history first → AreHits asked history second → first ≡ second

some_same : {X : Type 0} (x y : X) → Some x ≡ Some y → x ≡ y
some_same x y same = cc

first_same : {X : Type 0} (x y : X) (xs ys : List X) → x ∷ xs ≡ y ∷ ys → x ≡ y
first_same x y xs ys same = cc

rest_same : {X : Type 0} (x y : X) (xs ys : List X) → x ∷ xs ≡ y ∷ ys → xs ≡ ys
rest_same x y xs ys same = cc

append_both : {X : Type 0} (xs ys zs : List X) → (xs ++ ys) ++ zs ≡ xs ++ (ys ++ zs)
append_both [] ys zs = refl
append_both (x ∷ xs) ys zs = ap (λ l. x ∷ l) (append_both xs ys zs)

-- ---- where a job is done

-- what is done at a place
pub record IsAt (all : List Done) (place : ℕ) (one : Done) : Type 0 where
  pub rest : List Done
  pub split : all ≡ take place all ++ one ∷ rest
  pub job : slice_get (map (λ (d : Done). d.dealt) all) place ≡ Some one.dealt
  pub here : slice_get (map done_block all) place ≡ Some (done_block one)

abbrev pub IsPast : List Done → ℕ → Type 0
IsPast all place = (slice_get (map (λ (d : Done). d.dealt) all) place ≡ None) × (slice_get (map done_block all) place ≡ None)

at_or_past : (all : List Done) (place : ℕ) → IsPast all place ⊎ ((one : Done) × IsAt all place one)
at_or_past [] place = inl (refl, refl)
at_or_past (d ∷ all) zero = inr (d, record { rest = all; split = refl; job = refl; here = refl })
at_or_past (d ∷ all) (suc place) = elim (at_or_past all place) [
  | inl past ↦ inl past
  | inr (one, is) ↦ inr (one, record { rest = is.rest; split = ap (λ l. d ∷ l) is.split; job = is.job; here = is.here })
]

abbrev pub KeepAll : Setting → List Line → Type 0
KeepAll s lines = (earlier later : List Line) (line : Line) → lines ≡ earlier ++ line ∷ later → keeps s earlier line

-- the lines of what is done at a place keep their rules, after those before
rule_at : (s : Setting) (all : List Done) (place : ℕ) (one : Done) (first last : List Line) (line : Line) → KeepAll s (flat_map done_lines all) → IsAt all place one
    → done_lines one ≡ first ++ line ∷ last → keeps s (flat_map done_lines (take place all) ++ first) line
rule_at s all place one first last line rules is split =
    let before : List Line = flat_map done_lines (take place all) in
    let after : List Line = flat_map done_lines is.rest in
    rules (before ++ first) (last ++ after) line
    (ap (flat_map done_lines) is.split ∙ flat_map-append done_lines (take place all) (one ∷ is.rest)
    ∙ ap (λ l. before ++ l) (flat_map-cons done_lines one is.rest ∙ ap (λ l. l ++ after) split ∙ append_both first (line ∷ last) after)
    ∙ sym (append_both before first (line ∷ (last ++ after))))

logged : (s : Setting) (earlier : List Line) (line : Line) → s.events ≡ map log_line s.history → KeepsRule s.shape s.history earlier line → keeps s earlier line
logged s earlier line told rule = record { rule = rule; logged = λ k d within. ap (λ (l : List LogLine). slice_get l (get_or (own_number line.answer) k d - 1)) (sym told) }

-- ---- what the answer is to

pub record IsToLoad (bytes : Option (List ℕ)) (asks : Order) (file : List ℕ) (answers : List RecordAnswer) : Type 0 where
  pub there : List ℕ
  pub bytes_is : bytes ≡ Some there
  pub asks_is : asks ≡ order.Load file
  pub list : IsRecordList there (map outcome_of answers)

to_load : (bytes : Option (List ℕ)) (budget : ℕ) (asks : Order) (file : List ℕ) (answers : List RecordAnswer) → IsAnswerTo bytes budget asks (loaded file answers) → IsToLoad bytes asks file answers
to_load (Some bytes) budget (order.Load named) file answers is = record { there = bytes; bytes_is = refl; asks_is = ap order.Load (sym is.0); list = is.1 }
to_load (Some bytes) budget (order.Withdraw number) file answers is = absurd is
to_load (Some bytes) budget (order.Search named own) file answers is = absurd is
to_load None budget (order.Load named) file answers is = absurd is
to_load None budget (order.Withdraw number) file answers is = absurd is
to_load None budget (order.Search named own) file answers is = absurd is

pub record IsToSearch (bytes : Option (List ℕ)) (budget : ℕ) (asks : Order) (file : List ℕ) (answer : SearchAnswer) : Type 0 where
  pub there : List ℕ
  pub own : Option ℕ
  pub bytes_is : bytes ≡ Some there
  pub asks_is : asks ≡ order.Search file own
  pub is : IsSearchFor there (budget_or budget own) answer

to_search_for : (bytes : Option (List ℕ)) (budget : ℕ) (asks : Order) (file : List ℕ) (answer : SearchAnswer) → IsAnswerTo bytes budget asks (searched file answer) → IsToSearch bytes budget asks file answer
to_search_for (Some bytes) budget (order.Search named own) file answer is = record { there = bytes; own = own; bytes_is = refl; asks_is = ap (λ f. order.Search f own) (sym is.0); is = is.1 }
to_search_for (Some bytes) budget (order.Withdraw number) file answer is = absurd is
to_search_for (Some bytes) budget (order.Load named) file answer is = absurd is
to_search_for None budget (order.Load named) file answer is = absurd is
to_search_for None budget (order.Withdraw number) file answer is = absurd is
to_search_for None budget (order.Search named own) file answer is = absurd is

-- the block that is printed is the job's
is_block : (bytes : Option (List ℕ)) (budget line : ℕ) (asks : Order) (answer : JobAnswer) → IsAnswerTo bytes budget asks answer → IsBlockFor line asks (block_of line answer)
is_block (Some bytes) budget line (order.Load file) (loaded named answers) is = (refl, is.0)
is_block (Some bytes) budget line (order.Load file) (withdrew number answer) is = absurd is
is_block (Some bytes) budget line (order.Load file) (searched named answer) is = absurd is
is_block (Some bytes) budget line (order.Withdraw number) (loaded named answers) is = absurd is
is_block (Some bytes) budget line (order.Withdraw number) (withdrew named answer) is = (refl, is)
is_block (Some bytes) budget line (order.Withdraw number) (searched named answer) is = absurd is
is_block (Some bytes) budget line (order.Search file own) (loaded named answers) is = absurd is
is_block (Some bytes) budget line (order.Search file own) (withdrew number answer) is = absurd is
is_block (Some bytes) budget line (order.Search file own) (searched named answer) is = (refl, is.0)
is_block None budget line (order.Load file) (loaded named answers) is = absurd is
is_block None budget line (order.Load file) (withdrew number answer) is = absurd is
is_block None budget line (order.Load file) (searched named answer) is = absurd is
is_block None budget line (order.Withdraw number) (loaded named answers) is = absurd is
is_block None budget line (order.Withdraw number) (withdrew named answer) is = (refl, is)
is_block None budget line (order.Withdraw number) (searched named answer) is = absurd is
is_block None budget line (order.Search file own) (loaded named answers) is = absurd is
is_block None budget line (order.Search file own) (withdrew number answer) is = absurd is
is_block None budget line (order.Search file own) (searched named answer) is = absurd is

-- ---- the lines of a load

lines_of_load : (one : Dealt) (answers : List RecordAnswer) → done_lines (record { dealt = one; answer = loaded [] answers }) ≡ map (answer_line one) answers
lines_of_load one [] = refl
lines_of_load one (answer ∷ answers) = ap (λ l. answer_line one answer ∷ l) (lines_of_load one answers)

map_both : (one : Dealt) (xs : List RecordAnswer) (answer : RecordAnswer) (ys : List RecordAnswer) → map (answer_line one) (xs ++ answer ∷ ys) ≡ map (answer_line one) xs ++ answer_line one answer ∷ map (answer_line one) ys
map_both one [] answer ys = refl
map_both one (x ∷ xs) answer ys = ap (λ l. answer_line one x ∷ l) (map_both one xs answer ys)

pub first_answers : (place : ℕ) (xs ys : List RecordAnswer) → map outcome_of xs ≡ take (length xs) (map outcome_of ys) → record_lines place xs ≡ take (length xs) (record_lines place ys) → xs ≡ take (length xs) ys
first_answers place [] ys outcomes lines = refl
first_answers place (x ∷ xs) [] outcomes lines = absurd cc
first_answers place (x ∷ xs) (y ∷ ys) outcomes lines =
    let here : x ≡ y = sym (answer_back place x) ∙ ap (λ o. answer_in o (record_line place x)) (first_same _ _ _ _ outcomes)
    ∙ ap (answer_in (outcome_of y)) (first_same _ _ _ _ lines) ∙ answer_back place y in
    let rest = first_answers (place + 1) xs ys (rest_same _ _ _ _ outcomes) (rest_same _ _ _ _ lines) in
    cc (here, rest)

length_lines : (place : ℕ) (answers : List RecordAnswer) → length (record_lines place answers) ≡ length answers
length_lines place [] = refl
length_lines place (answer ∷ answers) = ap suc (length_lines (place + 1) answers)

pub record IsNext (place : ℕ) (answers : List RecordAnswer) (k : ℕ) (answer : RecordAnswer) : Type 0 where
  pub rest : List RecordAnswer
  pub split : answers ≡ take k answers ++ answer ∷ rest
  pub outcome : slice_get (map outcome_of answers) k ≡ Some (outcome_of answer)
  pub line : slice_get (record_lines place answers) k ≡ Some (record_line (k + place) answer)

next_answer : (place : ℕ) (answers : List RecordAnswer) (k : ℕ) → k < length answers → (answer : RecordAnswer) × IsNext place answers k answer
next_answer place [] k within = absurd (omega arith)
next_answer place (answer ∷ answers) zero within = (answer, record { rest = answers; split = refl; outcome = refl; line = ap (λ n. Some (record_line n answer)) (omega arith) })
next_answer place (x ∷ answers) (suc k) within =
    let (answer, is) = next_answer (place + 1) answers k (omega arith) in (
      answer,
      record {
        rest = is.rest;
        split = ap (λ l. x ∷ l) is.split;
        outcome = is.outcome;
        line = is.line ∙ ap (λ n. Some (record_line n answer)) (omega arith);
      },
    )

no_load_fault : (s : Setting) (all : List Done) (place : ℕ) (one : Dealt) (file : List ℕ) (answers : List RecordAnswer) (offset : ℕ)
    → KeepAll s (flat_map done_lines all) → IsAt all place (record { dealt = one; answer = loaded file answers })
    → IsAnswerTo (bytes_at s.files one.job.line) s.budget one.job.order (loaded file answers)
    → IsLoadFault s (flat_map done_lines (take place all)) one one.job.line (record_lines 1 answers) offset → ⊥
no_load_fault s all place one file answers offset rules is by fault =
    let to = to_load (bytes_at s.files one.job.line) s.budget one.job.order file answers by in
    let bytes : fault.bytes ≡ to.there = some_same _ _ (sym fault.there ∙ to.bytes_is) in
    let outcomes : fault.outcomes ≡ map outcome_of answers = one_record_list to.there fault.outcomes (map outcome_of answers) (subst (λ b. IsRecordList b fault.outcomes) bytes fault.are) to.list in
    let k : ℕ = length fault.before in
    let before : fault.before ≡ take k answers = first_answers 1 fault.before answers (fault.records ∙ ap (take k) outcomes) fault.lines_are in
    let within : k < length answers = elim fault.due [
      | inl lines ↦ omega (arith, lines, length_lines 1 answers)
      | inr records ↦ omega (arith, records, ap length outcomes, length-map answers outcome_of)
    ] in
    let (answer, next) = next_answer 1 answers k within in
    let split : done_lines (record { dealt = one; answer = loaded file answers }) ≡ map (answer_line one) fault.before ++ answer_line one answer ∷ map (answer_line one) next.rest =
    lines_of_load one answers ∙ ap (map (answer_line one)) next.split ∙ map_both one (take k answers) answer next.rest
    ∙ ap (λ l. map (answer_line one) l ++ answer_line one answer ∷ map (answer_line one) next.rest) (sym before) in
    let rule = rule_at s all place (record { dealt = one; answer = loaded file answers }) (map (answer_line one) fault.before) (map (answer_line one) next.rest) (answer_line one answer) rules is split in
    fault.here answer (ap (λ l. slice_get l k) outcomes ∙ next.outcome) next.line rule

-- ---- the lines of a search

no_hit_fault : OneHits → (asked : QueryGraph) (budget : ℕ) (prefix : List Event) (hits : List Hit) (records offset : ℕ) → IsReply asked budget prefix (found hits) → Counts asked prefix records → IsHitFault asked budget prefix hits records offset → ⊥
no_hit_fault one asked budget prefix hits records offset reply counts fault = elim fault.here [
  | inl (within, differs) ↦ differs (ap (λ l. slice_get l fault.before) (one asked prefix hits fault.all reply.0 fault.are))
  | inr (at, fails) ↦ fails reply counts
]

own_is : (s : Setting) (asks : Order) (file : List ℕ) (own : Option ℕ) → asks ≡ order.Search file own → own_budget s asks ≡ budget_or s.budget own
own_is s asks file own is = ap (own_budget s) is

asks_of : (s : Setting) (line : ℕ) (there : List ℕ) (asked other : QueryGraph) → OneQuery → bytes_at s.files line ≡ Some there → IsFirstQueryOutcome there (Ok asked) → Asks s line other → other ≡ asked
asks_of s line there asked other one at is asks =
    let bytes : asks.bytes ≡ there = some_same _ _ (sym asks.there ∙ at) in
    let same : Ok other ≡ Ok asked = one there (Ok other) (Ok asked) (subst (λ b. IsFirstQueryOutcome b (Ok other)) bytes asks.is) is in
    cc

no_search_fault : OneQuery → OneHits → (s : Setting) (earlier : List Line) (one : Dealt) (file : List ℕ) (answer : SearchAnswer) (offset : ℕ)
    → KeepsRule s.shape s.history earlier (line_by one (to_search answer)) → IsAnswerTo (bytes_at s.files one.job.line) s.budget one.job.order (searched file answer)
    → IsSearchFault s one one.job.line (search_line answer) offset → ⊥
no_search_fault query hits s earlier one file (not_read line code) offset keeps by fault = fault
no_search_fault query hits s earlier one file (hits_at asked budget front list rows records) offset keeps by (other, asks, fault) =
    let to = to_search_for (bytes_at s.files one.job.line) s.budget one.job.order file (hits_at asked budget front list rows records) by in
    let same : other ≡ asked = asks_of s one.job.line to.there asked other query to.bytes_is to.is.0 asks in
    let own : own_budget s one.job.order ≡ budget = own_is s one.job.order file to.own to.asks_is ∙ sym to.is.1 in
    no_hit_fault hits asked budget (take front s.history) list records offset keeps.1 keeps.2
    (subst (λ n. IsHitFault asked n (take front s.history) list records offset) own (subst (λ q. IsHitFault q (own_budget s one.job.order) (take front s.history) list records offset) same fault))
no_search_fault query hits s earlier one file (over_at asked budget front) offset keeps by (other, asks, at, fault) =
    let to = to_search_for (bytes_at s.files one.job.line) s.budget one.job.order file (over_at asked budget front) by in
    let same : other ≡ asked = asks_of s one.job.line to.there asked other query to.bytes_is to.is.0 asks in
    let own : own_budget s one.job.order ≡ budget = own_is s one.job.order file to.own to.asks_is ∙ sym to.is.1 in
    fault (sym own) (subst (λ q. IsReply q budget (take front s.history) over_budget) (sym same) keeps.1)

search_head : (s : Setting) (earlier : List Line) (one : Dealt) (file : List ℕ) (answer : SearchAnswer)
    → KeepsRule s.shape s.history earlier (line_by one (to_search answer)) → IsAnswerTo (bytes_at s.files one.job.line) s.budget one.job.order (searched file answer)
    → HeadKeeps s earlier one (block_of one.job.line (searched file answer))
search_head s earlier one file (not_read line code) keeps by =
    let to = to_search_for (bytes_at s.files one.job.line) s.budget one.job.order file (not_read line code) by in
    record { bytes = to.there; there = to.bytes_is; is = to.is }
search_head s earlier one file (hits_at asked budget front list rows records) keeps by =
    let to = to_search_for (bytes_at s.files one.job.line) s.budget one.job.order file (hits_at asked budget front list rows records) by in
    (asked, record { bytes = to.there; there = to.bytes_is; is = to.is.0 }, record { within = keeps.0; later = record { searcher = keeps.3.searcher; groups = keeps.3.groups } })
search_head s earlier one file (over_at asked budget front) keeps by =
    let to = to_search_for (bytes_at s.files one.job.line) s.budget one.job.order file (over_at asked budget front) by in
    (asked, record { bytes = to.there; there = to.bytes_is; is = to.is.0 }, record { within = keeps.0; later = record { searcher = keeps.2.searcher; groups = keeps.2.groups } })

-- ---- a block

append_none : {X : Type 0} (xs : List X) → xs ++ [] ≡ xs
append_none [] = refl
append_none (x ∷ xs) = ap (λ l. x ∷ l) (append_none xs)

-- the only line of what is done at a place
only_rule : (s : Setting) (all : List Done) (place : ℕ) (one : Done) (line : Line) → KeepAll s (flat_map done_lines all) → IsAt all place one
    → done_lines one ≡ line ∷ [] → keeps s (flat_map done_lines (take place all)) line
only_rule s all place one line rules is split =
    subst (λ l. keeps s l line) (append_none (flat_map done_lines (take place all))) (rule_at s all place one [] [] line rules is split)

no_job_fault : OneQuery → OneHits → (s : Setting) (all : List Done) (place : ℕ) (one : Dealt) (answer : JobAnswer) (offset : ℕ)
    → KeepAll s (flat_map done_lines all) → IsAt all place (record { dealt = one; answer = answer })
    → IsAnswerTo (bytes_at s.files one.job.line) s.budget one.job.order answer
    → IsBlockFault s (flat_map done_lines (take place all)) (Some one) (Some (block_of one.job.line answer)) offset → ⊥
no_job_fault query hits s all place one (loaded file answers) offset rules is by (inl (at, fails)) =
    fails (is_block (bytes_at s.files one.job.line) s.budget one.job.line one.job.order (loaded file answers) by) tt
no_job_fault query hits s all place one (loaded file answers) offset rules is by (inr (mine, head, inner)) =
    no_load_fault s all place one file answers offset rules is by inner
no_job_fault query hits s all place one (withdrew number answer) offset rules is by (inl (at, fails)) =
    fails (is_block (bytes_at s.files one.job.line) s.budget one.job.line one.job.order (withdrew number answer) by)
    (only_rule s all place (record { dealt = one; answer = withdrew number answer }) (line_by one (to_withdrawal number answer)) rules is refl)
no_job_fault query hits s all place one (withdrew number answer) offset rules is by (inr (mine, head, inner)) = inner
no_job_fault query hits s all place one (searched file answer) offset rules is by (inl (at, fails)) =
    fails (is_block (bytes_at s.files one.job.line) s.budget one.job.line one.job.order (searched file answer) by)
    (search_head s (flat_map done_lines (take place all)) one file answer
    (only_rule s all place (record { dealt = one; answer = searched file answer }) (line_by one (to_search answer)) rules is refl).rule by)
no_job_fault query hits s all place one (searched file answer) offset rules is by (inr (mine, head, inner)) =
    no_search_fault query hits s (flat_map done_lines (take place all)) one file answer offset
    (only_rule s all place (record { dealt = one; answer = searched file answer }) (line_by one (to_search answer)) rules is refl).rule by inner

all_at : (P : Done → Type 0) (all : List Done) (place : ℕ) (one : Done) → All P all → IsAt all place one → P one
all_at P all place one each is =
    let split : All P (take place all ++ one ∷ is.rest) = subst (All P) is.split each in
    all_middle P (take place all) one is.rest split
  where
    all_middle : (P : Done → Type 0) (xs : List Done) (one : Done) (ys : List Done) → All P (xs ++ one ∷ ys) → P one
    all_middle P [] one ys each = All-head P one ys each
    all_middle P (x ∷ xs) one ys each = all_middle P xs one ys (All-tail P x (xs ++ one ∷ ys) each)

-- no block of what is done is at fault
pub no_block_fault : OneQuery → OneHits → (s : Setting) (all : List Done) (place offset : ℕ)
    → KeepAll s (flat_map done_lines all) → All (IsByItsFile s.files s.budget) all
    → IsBlockFault s (flat_map done_lines (take place all)) (slice_get (map (λ (d : Done). d.dealt) all) place) (slice_get (map done_block all) place) offset → ⊥
no_block_fault query hits s all place offset rules by fault = elim (at_or_past all place) [
  | inl past ↦ subst (λ j. IsBlockFault s (flat_map done_lines (take place all)) j None offset) past.0
      (subst (λ b. IsBlockFault s (flat_map done_lines (take place all)) (slice_get (map (λ (d : Done). d.dealt) all) place) b offset) past.1 fault)
  | inr (one, is) ↦ no_job_fault query hits s all place one.dealt one.answer offset rules is (all_at (IsByItsFile s.files s.budget) all place one by is)
      (subst (λ j. IsBlockFault s (flat_map done_lines (take place all)) j (Some (done_block one)) offset) is.job
      (subst (λ b. IsBlockFault s (flat_map done_lines (take place all)) (slice_get (map (λ (d : Done). d.dealt) all) place) b offset) is.here fault))
]

-- ---- the first events of a legal log

first_get : (h : List Event) (n i : ℕ) (e : Event) → slice_get (take n h) i ≡ Some e → (slice_get h i ≡ Some e) × (i < n)
first_get [] zero i e at = absurd cc
first_get [] (suc n) i e at = absurd cc
first_get (x ∷ h) zero i e at = absurd cc
first_get (x ∷ h) (suc n) zero e at = (at, omega arith)
first_get (x ∷ h) (suc n) (suc i) e at = let (there, within) = first_get h n i e at in (there, omega arith)

get_first : (h : List Event) (n i : ℕ) (e : Event) → i < n → slice_get h i ≡ Some e → slice_get (take n h) i ≡ Some e
get_first [] zero i e within at = absurd (omega arith)
get_first [] (suc n) i e within at = at
get_first (x ∷ h) zero i e within at = absurd (omega arith)
get_first (x ∷ h) (suc n) zero e within at = at
get_first (x ∷ h) (suc n) (suc i) e within at = get_first h n i e (omega arith) at

withdraws_whole : (h : List Event) (n number target : ℕ) → Withdraws (take n h) number target → Withdraws h number target × (number ≤ n)
withdraws_whole h n number target w =
    let (at, within) = first_get h n (number - 1) _ w.event.1 in
    (record { caller = w.caller; event = (w.event.0, at) }, omega (arith, within, w.event.0))

pub legal_first : (h : List Event) (n : ℕ) → IsLegal h → IsLegal (take n h)
legal_first h n legal = record {
  earlier = λ number target w.
      let (old, early) = withdraws_whole h n number target w in
      let (before, name, mol, p) = legal.earlier number target old in
      (before, name, mol, record { caller = p.caller; event = (p.event.0, get_first h n (target - 1) _ (omega (arith, before, early, p.event.0)) p.event.1) });
  once = λ number other target first second. legal.once number other target (withdraws_whole h n number target first).0 (withdraws_whole h n other target second).0;
}

-- ---- a report

pub all_taken : {X : Type 0} (xs : List X) → take (length xs) xs ≡ xs
all_taken [] = refl
all_taken (x ∷ xs) = ap (λ l. x ∷ l) (all_taken xs)

-- a report of its own log has no line at fault
pub no_fault : OneQuery → OneHits → (script : List Group) (files : List (ℕ × List ℕ)) (report : Report) (line : ℕ)
    → IsReport script files report.shape report.budget report → IsFirstFault script files report line → ⊥
no_fault query hits script files report line is fault =
    let h : List Event = is.history in
    let all : List Done = is.told.done in
    let jobs = is.told.jobs in
    let blocks = is.told.blocks_are in
    let named : List (ℕ × Molecule) = fault.told.named in
    let are : AreNamed files (map (λ (d : Done). d.dealt) all) (map done_block all) named =
    subst (λ j. AreNamed files j (map done_block all) named) (sym jobs) (subst (λ b. AreNamed files (dealt report.shape 1 script) b named) blocks fault.told.are_named) in
    let same : fault.history ≡ h = fault.told.history_is ∙ ap (told_from named 1) is.log
    ∙ one_history report.shape files report.budget h all named is.told.by_files is.told.rules is.told.named are in
    elim fault.here [
      | inl shape ↦ shape.1 is.in_limits
      | inr (inl long) ↦ absurd (omega (arith, long.2, is.within, ap length is.log, length-map h log_line))
      | inr (inr (inl broken)) ↦ broken.fault.here (subst (λ l. IsLogUpTo report.shape l broken.number) (sym same)
          (legal_first h broken.number is.legal, All-take (IsByItsLoader report.shape) broken.number h is.loaders))
      | inr (inr (inr later)) ↦ no_later query hits script files report line is (subst (λ l. IsLaterFault script files report l line) same later)
    ]
  where
    no_rule : OneQuery → OneHits → (script : List Group) (files : List (ℕ × List ℕ)) (report : Report) (line : ℕ) (is : IsReport script files report.shape report.budget report)
        → IsRuleFault (setting_of files report is.history) (dealt report.shape 1 script) report.blocks line → ⊥
    no_rule query hits script files report line is fault =
        let all : List Done = is.told.done in
        let s : Setting = setting_of files report is.history in
        let n : ℕ = length fault.done in
        let done : fault.done ≡ take n all = first_done query files report.budget fault.done all
        (fault.kept.of_jobs ∙ ap (take n) (sym is.told.jobs)) (fault.kept.blocks_are ∙ ap (take n) is.told.blocks_are) fault.kept.by_files is.told.by_files in
        no_block_fault query hits s all n fault.offset (λ earlier later line split. logged s earlier line is.log (is.told.rules earlier later line split)) is.told.by_files
        (subst (λ d. IsBlockFault s (flat_map done_lines d) (slice_get (map (λ (e : Done). e.dealt) all) n) (slice_get (map done_block all) n) fault.offset) done
        (subst (λ j. IsBlockFault s (flat_map done_lines fault.done) (slice_get j n) (slice_get (map done_block all) n) fault.offset) (sym is.told.jobs)
        (subst (λ b. IsBlockFault s (flat_map done_lines fault.done) (slice_get (dealt report.shape 1 script) n) (slice_get b n) fault.offset) is.told.blocks_are fault.here)))

    no_unnamed : OneQuery → OneHits → (script : List Group) (files : List (ℕ × List ℕ)) (report : Report) (number : ℕ) (is : IsReport script files report.shape report.budget report)
        → IsUnnamed (setting_of files report is.history) (dealt report.shape 1 script) report.blocks number → ⊥
    no_unnamed query hits script files report number is fault =
        let all : List Done = is.told.done in
        let n : ℕ = length fault.done in
        let done : fault.done ≡ take n all = first_done query files report.budget fault.done all
        (fault.kept.of_jobs ∙ ap (take n) (sym is.told.jobs)) (fault.kept.blocks_are ∙ ap (take n) is.told.blocks_are) fault.kept.by_files is.told.by_files in
        let long : n ≡ length all = fault.jobs_all ∙ ap length (sym is.told.jobs) ∙ length-map all (λ (d : Done). d.dealt) in
        let whole : fault.done ≡ all = done ∙ ap (λ k. take k all) long ∙ all_taken all in
        fault.here (subst (λ d. Contains (names d) number) (sym whole) (is.told.named number fault.some fault.within))

    no_later : OneQuery → OneHits → (script : List Group) (files : List (ℕ × List ℕ)) (report : Report) (line : ℕ) (is : IsReport script files report.shape report.budget report)
        → IsLaterFault script files report is.history line → ⊥
    no_later query hits script files report line is later = elim later.here [
      | inl rule ↦ no_rule query hits script files report line is rule
      | inr (number, at, unnamed) ↦ no_unnamed query hits script files report number is unnamed
    ]
