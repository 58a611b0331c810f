-- A report has at most one first line at fault.
use Rattle.std.proofs.Common.{◌≡◌, inl, inr, ℕ, zero, suc, ◌+◌, ◌-◌, ◌≤◌, ◌<◌, List, [], ◌∷◌, ◌++◌, length, map, take, refl, sym, ap, ◌∙◌, subst, All, arith}
use Rattle.std.specs.Prelude.{Option, Some, None, Contains, slice_get, Ok}
use Rattle.std.specs.List.{flat_map}
use Rattle.std.proofs.lemmas.Bool.{cases_lt}
use Rattle.std.proofs.lemmas.List.Elements.{All-take}
use Rattle.htss_defs.specs.Molecule.{Molecule}
use Rattle.htss_defs.specs.declared.history.Event.{Event}
use Rattle.htss_defs.specs.declared.history.Hit.{Hit}
use Rattle.htss_defs.specs.QueryGraph.{QueryGraph}
use Rattle.htss_defs.specs.History.{IsLegal}
use Rattle.ctfile.specs.RecordList.{IsRecordList}
use Rattle.ctfile.proofs.OneList.{one_record_list}
use Rattle.query_mol.specs.QueryOutcome.{IsFirstQueryOutcome}
use Rattle.script_text.specs.declared.script.Group.{Group}
use Rattle.report_text.specs.declared.report.Report.{Report}
use Rattle.report_text.specs.declared.report.Block.{Block}
use Rattle.report_text.specs.declared.report.Block.TheVariants as block
use Rattle.report_text.specs.declared.report.LoadLine.{LoadLine}
use Rattle.report_text.specs.declared.report.SearchLine.TheVariants.{Hits, OverBudget, Refused as QueryRefused}
use Rattle.report_rules.specs.Answers.{RecordAnswer, outcome_of, record_line, record_lines}
use Rattle.report_rules.specs.Dealing.{Dealt, dealt}
use Rattle.report_rules.specs.Rules.{Line}
use Rattle.report_rules.specs.Reports.{Done, done_block, done_lines, IsByItsLoader}
use Rattle.report_rules.specs.Faults.{namings, IsNamedIn, AreNamed, told_from, IsTold, Setting, own_budget, Asks, IsLoadFault, IsHitFault, IsInnerFault, IsBlockFault}
use Rattle.report_rules.specs.Faults.{AreKept, names, IsRuleFault, IsUnnamed, IsLogUpTo, IsEventFault, IsLaterFault, IsLogFault, IsFirstFault, setting_of, line_after, line_of_event}
use Rattle.report_rules.proofs.OneDone.{first_done}
use Rattle.report_rules.proofs.OneHits.{one_hits}
use Rattle.report_rules.proofs.OneQueries.{one_query_outcome}
use Rattle.report_rules.proofs.Refuted.{all_taken, legal_first, first_answers, no_block_fault}

some_same : {X : Type 0} (x y : X) → Some x ≡ Some y → x ≡ y
some_same x y same = cc

-- ---- one history

one_naming : (files : List (ℕ × List ℕ)) (one : Dealt) (here : Block) (a b : List (ℕ × Molecule)) → IsNamedIn files one here a → IsNamedIn files one here b → a ≡ b
one_naming files one (block.Load at file lines) a b (inl (mine, bytes, outcomes, there, are, is)) (inl (too, other, others, where', also, equal)) =
    let same : other ≡ bytes = some_same _ _ (sym where' ∙ there) in
    let outs : outcomes ≡ others = one_record_list bytes outcomes others are (subst (λ x. IsRecordList x others) same also) in
    is ∙ ap (λ o. namings o lines) outs ∙ sym equal
one_naming files one (block.Load at file lines) a b (inl first) (inr second) = absurd (second.0 first.0)
one_naming files one (block.Load at file lines) a b (inr first) (inl second) = absurd (first.0 second.0)
one_naming files one (block.Load at file lines) a b (inr first) (inr second) = first.1 ∙ sym second.1
one_naming files one (block.Withdraw at number answer) a b first second = first ∙ sym second
one_naming files one (block.Search at file answer) a b first second = first ∙ sym second

one_named : (files : List (ℕ × List ℕ)) (jobs : List Dealt) (blocks : List Block) (a b : List (ℕ × Molecule)) → AreNamed files jobs blocks a → AreNamed files jobs blocks b → a ≡ b
one_named files [] blocks a b first second = first ∙ sym second
one_named files (one ∷ jobs) [] a b first second = first ∙ sym second
one_named files (one ∷ jobs) (here ∷ blocks) a b (x, rest, is, now, more) (y, other, equal, also, later) =
    let heads : x ≡ y = one_naming files one here x y now also in
    let tails : rest ≡ other = one_named files jobs blocks rest other more later in
    is ∙ ap (λ l. l ++ rest) heads ∙ ap (λ l. y ++ l) tails ∙ sym equal

pub one_told : (script : List Group) (files : List (ℕ × List ℕ)) (report : Report) (a b : List Event) → IsTold script files report a → IsTold script files report b → a ≡ b
one_told script files report a b first second =
    first.history_is ∙ ap (λ n. told_from n 1 report.events) (one_named files (dealt report.shape 1 script) report.blocks first.named second.named first.are_named second.are_named) ∙ sym second.history_is

-- ---- one line of a block

take_take : {X : Type 0} (n m : ℕ) (xs : List X) → n ≤ m → take n (take m xs) ≡ take n xs
take_take zero m xs few = refl
take_take (suc n) zero xs few = absurd (omega arith)
take_take (suc n) (suc m) [] few = refl
take_take (suc n) (suc m) (x ∷ xs) few = ap (λ l. x ∷ l) (take_take n m xs (omega arith))

get_take : {X : Type 0} (n i : ℕ) (xs : List X) → i < n → slice_get (take n xs) i ≡ slice_get xs i
get_take zero i xs within = absurd (omega arith)
get_take (suc n) i [] within = refl
get_take (suc n) zero (x ∷ xs) within = refl
get_take (suc n) (suc i) (x ∷ xs) within = get_take n i xs (omega arith)

-- the next of the answers is split off
pub record IsSplit (answers : List RecordAnswer) (k : ℕ) (answer : RecordAnswer) : Type 0 where
  pub rest : List RecordAnswer
  pub split : answers ≡ take k answers ++ answer ∷ rest
  pub outcome : slice_get (map outcome_of answers) k ≡ Some (outcome_of answer)
  pub line : (place : ℕ) → slice_get (record_lines place answers) k ≡ Some (record_line (k + place) answer)

split_at : (answers : List RecordAnswer) (k : ℕ) → k < length answers → (answer : RecordAnswer) × IsSplit answers k answer
split_at [] k within = absurd (omega arith)
split_at (x ∷ answers) zero within = (x, record { rest = answers; split = refl; outcome = refl; line = λ place. ap (λ n. Some (record_line n x)) (omega arith) })
split_at (x ∷ answers) (suc k) within =
    let (answer, is) = split_at answers k (omega arith) in
    (answer, record { rest = is.rest; split = ap (λ l. x ∷ l) is.split; outcome = is.outcome; line = λ place. is.line (place + 1) ∙ ap (λ n. Some (record_line n answer)) (omega arith) })

no_longer : (s : Setting) (earlier : List Line) (one : Dealt) (at : ℕ) (lines : List LoadLine) (x y : ℕ) (a : IsLoadFault s earlier one at lines x) (b : IsLoadFault s earlier one at lines y) → length a.before < length b.before → ⊥
no_longer s earlier one at lines x y a b less =
    let k : ℕ = length a.before in
    let bytes : a.bytes ≡ b.bytes = some_same _ _ (sym a.there ∙ b.there) in
    let outcomes : a.outcomes ≡ b.outcomes = one_record_list b.bytes a.outcomes b.outcomes (subst (λ l. IsRecordList l a.outcomes) bytes a.are) b.are in
    let (answer, is) = split_at b.before k less in
    let outs : map outcome_of a.before ≡ take k (map outcome_of b.before) = a.records ∙ ap (take k) outcomes ∙ sym (take_take k (length b.before) b.outcomes (omega (arith, less))) ∙ ap (take k) (sym b.records) in
    let told : record_lines 1 a.before ≡ take k (record_lines 1 b.before) = a.lines_are ∙ sym (take_take k (length b.before) lines (omega (arith, less))) ∙ ap (take k) (sym b.lines_are) in
    let before : a.before ≡ take k b.before = first_answers 1 a.before b.before outs told in
    let rule = b.rules a.before answer is.rest (is.split ∙ ap (λ l. l ++ answer ∷ is.rest) (sym before)) in
    let outcome : slice_get a.outcomes k ≡ Some (outcome_of answer) = ap (λ l. slice_get l k) outcomes ∙ sym (get_take (length b.before) k b.outcomes less) ∙ ap (λ l. slice_get l k) (sym b.records) ∙ is.outcome in
    let line : slice_get lines k ≡ Some (record_line (k + 1) answer) = sym (get_take (length b.before) k lines less) ∙ ap (λ l. slice_get l k) (sym b.lines_are) ∙ is.line 1 in
    a.here answer outcome line rule

one_load : (s : Setting) (earlier : List Line) (one : Dealt) (at : ℕ) (lines : List LoadLine) (x y : ℕ) → IsLoadFault s earlier one at lines x → IsLoadFault s earlier one at lines y → x ≡ y
one_load s earlier one at lines x y a b = elim (cases_lt (length a.before) (length b.before)) [
  | inl less ↦ absurd (no_longer s earlier one at lines x y a b less)
  | inr more ↦ elim (cases_lt (length b.before) (length a.before)) [
    | inl less ↦ absurd (no_longer s earlier one at lines y x b a less)
    | inr same ↦ omega (arith, a.offset_is, b.offset_is, more, same)
  ]
]

no_later_hit : (asked : QueryGraph) (budget : ℕ) (prefix : List Event) (hits : List Hit) (records x y : ℕ) (a : IsHitFault asked budget prefix hits records x) (b : IsHitFault asked budget prefix hits records y) → a.before < b.before → ⊥
no_later_hit asked budget prefix hits records x y a b less =
    let all : a.all ≡ b.all = one_hits asked prefix a.all b.all a.are b.are in
    let alike : slice_get hits a.before ≡ slice_get a.all a.before = sym (get_take b.before a.before hits less) ∙ ap (λ l. slice_get l a.before) b.alike ∙ get_take b.before a.before b.all less ∙ ap (λ l. slice_get l a.before) (sym all) in
    elim a.here [
      | inl (within, differs) ↦ differs alike
      | inr (end, fails) ↦ elim b.here [
        | inl (within, differs) ↦ omega (arith, within, end, less)
        | inr (also, other) ↦ omega (arith, also, end, less)
      ]
    ]

one_hit_line : (asked : QueryGraph) (budget : ℕ) (prefix : List Event) (hits : List Hit) (records x y : ℕ) → IsHitFault asked budget prefix hits records x → IsHitFault asked budget prefix hits records y → x ≡ y
one_hit_line asked budget prefix hits records x y a b = elim (cases_lt a.before b.before) [
  | inl less ↦ absurd (no_later_hit asked budget prefix hits records x y a b less)
  | inr more ↦ elim (cases_lt b.before a.before) [
    | inl less ↦ absurd (no_later_hit asked budget prefix hits records y x b a less)
    | inr same ↦ omega (arith, a.offset_is, b.offset_is, more, same)
  ]
]

one_asked : (s : Setting) (line : ℕ) (x y : QueryGraph) → Asks s line x → Asks s line y → x ≡ y
one_asked s line x y a b =
    let bytes : a.bytes ≡ b.bytes = some_same _ _ (sym a.there ∙ b.there) in
    let same : Ok x ≡ Ok y = one_query_outcome b.bytes (Ok x) (Ok y) (subst (λ l. IsFirstQueryOutcome l (Ok x)) bytes a.is) b.is in
    cc

one_inner : (s : Setting) (earlier : List Line) (one : Dealt) (here : Block) (x y : ℕ) → IsInnerFault s earlier one here x → IsInnerFault s earlier one here y → x ≡ y
one_inner s earlier one (block.Load at file lines) x y a b = one_load s earlier one at lines x y a b
one_inner s earlier one (block.Withdraw at number answer) x y a b = absurd a
one_inner s earlier one (block.Search at file (QueryRefused line code)) x y a b = absurd a
one_inner s earlier one (block.Search at file (Hits front hits rows records)) x y (asked, asks, a) (other, also, b) =
    let same : asked ≡ other = one_asked s at asked other asks also in
    one_hit_line other (own_budget s one.job.order) (take front s.history) hits records x y (subst (λ q. IsHitFault q (own_budget s one.job.order) (take front s.history) hits records x) same a) b
one_inner s earlier one (block.Search at file (OverBudget front budget)) x y a b = a.2 ∙ sym b.2

one_offset : (s : Setting) (earlier : List Line) (job : Option Dealt) (here : Option Block) (x y : ℕ) → IsBlockFault s earlier job here x → IsBlockFault s earlier job here y → x ≡ y
one_offset s earlier None None x y a b = absurd a
one_offset s earlier None (Some here) x y a b = a ∙ sym b
one_offset s earlier (Some one) None x y a b = a ∙ sym b
one_offset s earlier (Some one) (Some here) x y (inl a) (inl b) = a.0 ∙ sym b.0
one_offset s earlier (Some one) (Some here) x y (inl a) (inr b) = absurd (a.1 b.0 b.1)
one_offset s earlier (Some one) (Some here) x y (inr a) (inl b) = absurd (b.1 a.0 a.1)
one_offset s earlier (Some one) (Some here) x y (inr a) (inr b) = one_inner s earlier one here x y a.2 b.2

-- ---- one line of the blocks

first_kept : (s : Setting) (jobs : List Dealt) (blocks : List Block) (x y : List Done) → AreKept s jobs blocks x → AreKept s jobs blocks y → length x ≤ length y → x ≡ take (length x) y
first_kept s jobs blocks x y a b few =
    first_done one_query_outcome s.files s.budget x y
    (a.of_jobs ∙ sym (take_take (length x) (length y) jobs few) ∙ ap (take (length x)) (sym b.of_jobs))
    (a.blocks_are ∙ sym (take_take (length x) (length y) blocks few) ∙ ap (take (length x)) (sym b.blocks_are)) a.by_files b.by_files

no_earlier : (s : Setting) (jobs : List Dealt) (blocks : List Block) (line : ℕ) (a : IsRuleFault s jobs blocks line) (y : List Done) → AreKept s jobs blocks y → length a.done < length y → ⊥
no_earlier s jobs blocks line a y b less =
    let n : ℕ = length a.done in
    let done : a.done ≡ take n y = first_kept s jobs blocks a.done y a.kept b (omega (arith, less)) in
    let job : slice_get jobs n ≡ slice_get (map (λ (d : Done). d.dealt) y) n = sym (get_take (length y) n jobs less) ∙ ap (λ l. slice_get l n) (sym b.of_jobs) in
    let here : slice_get blocks n ≡ slice_get (map done_block y) n = sym (get_take (length y) n blocks less) ∙ ap (λ l. slice_get l n) (sym b.blocks_are) in
    no_block_fault one_query_outcome one_hits s y n a.offset b.rules b.by_files
    (subst (λ d. IsBlockFault s (flat_map done_lines d) (slice_get (map (λ (d : Done). d.dealt) y) n) (slice_get (map done_block y) n) a.offset) done
    (subst (λ j. IsBlockFault s (flat_map done_lines a.done) j (slice_get (map done_block y) n) a.offset) job
    (subst (λ k. IsBlockFault s (flat_map done_lines a.done) (slice_get jobs n) k a.offset) here a.here)))

same_kept : (s : Setting) (jobs : List Dealt) (blocks : List Block) (x y : List Done) → AreKept s jobs blocks x → AreKept s jobs blocks y → length x ≡ length y → x ≡ y
same_kept s jobs blocks x y a b same = first_kept s jobs blocks x y a b (omega (arith, same)) ∙ ap (λ n. take n y) same ∙ all_taken y

one_rule : (s : Setting) (jobs : List Dealt) (blocks : List Block) (x y : ℕ) → IsRuleFault s jobs blocks x → IsRuleFault s jobs blocks y → x ≡ y
one_rule s jobs blocks x y a b = elim (cases_lt (length a.done) (length b.done)) [
  | inl less ↦ absurd (no_earlier s jobs blocks x a b.done b.kept less)
  | inr more ↦ elim (cases_lt (length b.done) (length a.done)) [
    | inl less ↦ absurd (no_earlier s jobs blocks y b a.done a.kept less)
    | inr few ↦ (
        let done : a.done ≡ b.done = same_kept s jobs blocks a.done b.done a.kept b.kept (omega (arith, more, few)) in
        let offset : a.offset ≡ b.offset = one_offset s (flat_map done_lines b.done) (slice_get jobs (length b.done)) (slice_get blocks (length b.done)) a.offset b.offset
        (subst (λ d. IsBlockFault s (flat_map done_lines d) (slice_get jobs (length d)) (slice_get blocks (length d)) a.offset) done a.here) b.here in
        a.line_is ∙ ap (λ d. line_after (take (length d) blocks) + a.offset) done ∙ ap (λ n. line_after (take (length b.done) blocks) + n) offset ∙ sym b.line_is)
  ]
]

get_past : {X : Type 0} (xs : List X) (i : ℕ) → length xs ≤ i → slice_get xs i ≡ None
get_past [] i past = refl
get_past (x ∷ xs) zero past = absurd (omega arith)
get_past (x ∷ xs) (suc i) past = get_past xs i (omega arith)

rule_or_unnamed : (s : Setting) (jobs : List Dealt) (blocks : List Block) (line number : ℕ) → IsRuleFault s jobs blocks line → IsUnnamed s jobs blocks number → ⊥
rule_or_unnamed s jobs blocks line number a u = elim (cases_lt (length a.done) (length u.done)) [
  | inl less ↦ no_earlier s jobs blocks line a u.done u.kept less
  | inr more ↦
      subst (λ j. IsBlockFault s (flat_map done_lines a.done) j None a.offset) (get_past jobs (length a.done) (omega (arith, more, u.jobs_all)))
      (subst (λ k. IsBlockFault s (flat_map done_lines a.done) (slice_get jobs (length a.done)) k a.offset) (get_past blocks (length a.done) (omega (arith, more, u.blocks_all))) a.here)
]

not_before : (s : Setting) (jobs : List Dealt) (blocks : List Block) (x y : ℕ) → IsUnnamed s jobs blocks x → IsUnnamed s jobs blocks y → x < y → ⊥
not_before s jobs blocks x y a b less =
    let done : b.done ≡ a.done = same_kept s jobs blocks b.done a.done b.kept a.kept (b.jobs_all ∙ sym a.jobs_all) in
    a.here (subst (λ d. Contains (names d) x) done (b.before x a.some less))

one_unnamed : (s : Setting) (jobs : List Dealt) (blocks : List Block) (x y : ℕ) → IsUnnamed s jobs blocks x → IsUnnamed s jobs blocks y → x ≡ y
one_unnamed s jobs blocks x y a b = elim (cases_lt x y) [
  | inl less ↦ absurd (not_before s jobs blocks x y a b less)
  | inr more ↦ elim (cases_lt y x) [
    | inl less ↦ absurd (not_before s jobs blocks y x b a less)
    | inr few ↦ omega (arith, more, few)
  ]
]

-- ---- one line of the report

legal_before : (report : Report) (h : List Event) (n m : ℕ) → n ≤ m → IsLogUpTo report.shape h m → IsLogUpTo report.shape h n
legal_before report h n m few (legal, by) =
    let same : take n (take m h) ≡ take n h = take_take n m h few in
    (subst IsLegal same (legal_first (take m h) n legal), subst (All (IsByItsLoader report.shape)) same (All-take (IsByItsLoader report.shape) n (take m h) by))

one_event : (report : Report) (h : List Event) (x y : ℕ) → IsEventFault report.shape h x → IsEventFault report.shape h y → x ≡ y
one_event report h x y a b = elim (cases_lt x y) [
  | inl less ↦ absurd (a.here (legal_before report h x (y - 1) (omega (arith, less)) b.before))
  | inr more ↦ elim (cases_lt y x) [
    | inl less ↦ absurd (b.here (legal_before report h y (x - 1) (omega (arith, less)) a.before))
    | inr few ↦ omega (arith, more, few)
  ]
]

one_log : (report : Report) (h : List Event) (x y : ℕ) → IsLogFault report h x → IsLogFault report h y → x ≡ y
one_log report h x y a b = a.line_is ∙ ap (line_of_event report) (one_event report h a.number b.number a.fault b.fault) ∙ sym b.line_is

one_later : (script : List Group) (files : List (ℕ × List ℕ)) (report : Report) (h : List Event) (x y : ℕ) → IsLaterFault script files report h x → IsLaterFault script files report h y → x ≡ y
one_later script files report h x y a b =
    let s : Setting = setting_of files report h in
    let jobs : List Dealt = dealt report.shape 1 script in
    elim a.here [
      | inl rule ↦ elim b.here [
        | inl other ↦ one_rule s jobs report.blocks x y rule other
        | inr (n, at, none) ↦ absurd (rule_or_unnamed s jobs report.blocks x n rule none)
      ]
      | inr (n, at, none) ↦ elim b.here [
        | inl other ↦ absurd (rule_or_unnamed s jobs report.blocks y n other none)
        | inr (m, there, also) ↦ at ∙ ap (line_of_event report) (one_unnamed s jobs report.blocks n m none also) ∙ sym there
      ]
    ]

log_or_later : (script : List Group) (files : List (ℕ × List ℕ)) (report : Report) (h : List Event) (x y : ℕ) → IsLogFault report h x → IsLaterFault script files report h y → ⊥
log_or_later script files report h x y a b = a.fault.here (legal_before report h a.number (length h) a.fault.within b.legal)

-- a report has at most one first line at fault
pub one_fault : (script : List Group) (files : List (ℕ × List ℕ)) (report : Report) (x y : ℕ) → IsFirstFault script files report x → IsFirstFault script files report y → x ≡ y
one_fault script files report x y a b =
    let h : List Event = b.history in
    let same : a.history ≡ h = one_told script files report a.history h a.told b.told in
    elim a.here [
      | inl shape ↦ elim b.here [
        | inl other ↦ shape.0 ∙ sym other.0
        | inr (inl other) ↦ absurd (shape.1 other.1)
        | inr (inr (inl other)) ↦ absurd (shape.1 other.shape)
        | inr (inr (inr other)) ↦ absurd (shape.1 other.shape)
      ]
      | inr (inl long) ↦ elim b.here [
        | inl other ↦ absurd (other.1 long.1)
        | inr (inl other) ↦ long.0 ∙ sym other.0
        | inr (inr (inl other)) ↦ absurd (omega (arith, long.2, other.short))
        | inr (inr (inr other)) ↦ absurd (omega (arith, long.2, other.short))
      ]
      | inr (inr (inl broken)) ↦ elim b.here [
        | inl other ↦ absurd (other.1 broken.shape)
        | inr (inl other) ↦ absurd (omega (arith, other.2, broken.short))
        | inr (inr (inl other)) ↦ one_log report h x y (subst (λ l. IsLogFault report l x) same broken) other
        | inr (inr (inr other)) ↦ absurd (log_or_later script files report h x y (subst (λ l. IsLogFault report l x) same broken) other)
      ]
      | inr (inr (inr later)) ↦ elim b.here [
        | inl other ↦ absurd (other.1 later.shape)
        | inr (inl other) ↦ absurd (omega (arith, other.2, later.short))
        | inr (inr (inl other)) ↦ absurd (log_or_later script files report h y x other (subst (λ l. IsLaterFault script files report l x) same later))
        | inr (inr (inr other)) ↦ one_later script files report h x y (subst (λ l. IsLaterFault script files report l x) same later) other
      ]
    ]
