-- What a job answers is told by its file and its block.
use Rattle.std.proofs.Common.{◌≡◌, Result, Ok, Err, ℕ, ◌+◌, List, [], ◌∷◌, length, map, take, refl, sym, ap, ◌∙◌, subst, All}
use Rattle.std.specs.Prelude.{Option, Some, None}
use Rattle.std.proofs.lemmas.List.Elements.{All-head, All-tail}
use Rattle.htss_defs.specs.QueryGraph.{QueryGraph}
use Rattle.mol_section.specs.SectionRecord.{Outcome, accepted, refused}
use Rattle.ctfile.proofs.OneList.{one_record_list}
use Rattle.query_mol.specs.declared.query.QueryRefusal.{QueryRefusal}
use Rattle.query_mol.specs.QueryOutcome.{IsFirstQueryOutcome}
use Rattle.script_text.specs.declared.script.Order.{Order}
use Rattle.script_text.specs.declared.script.Order.TheVariants as order
use Rattle.script_text.specs.FilesByLine.{bytes_at}
use Rattle.report_text.specs.declared.report.Block.{Block}
use Rattle.report_text.specs.declared.report.Block.TheVariants as block
use Rattle.report_text.specs.declared.report.LoadLine.{LoadLine}
use Rattle.report_text.specs.declared.report.LoadLine.TheVariants.{Published, Refused, DataFull, NoPage, ChainFull, LogFull}
use Rattle.report_text.specs.declared.report.SearchLine.{SearchLine}
use Rattle.report_text.specs.declared.report.SearchLine.TheVariants.{Hits, OverBudget, Refused as QueryRefused}
use Rattle.report_text.specs.declared.report.WithdrawLine.{WithdrawLine}
use Rattle.report_text.specs.declared.report.WithdrawLine.TheVariants.{At}
use Rattle.report_rules.specs.Answers.{Fate, published, no_room, no_page, chain_full, log_full, RecordAnswer, not_accepted, taken, SearchAnswer, not_read, hits_at, over_at, JobAnswer, loaded, withdrew, searched}
use Rattle.report_rules.specs.Answers.{fate_line, record_line, record_lines, search_line, block_of, outcome_of}
use Rattle.report_rules.specs.Dealing.{Dealt}
use Rattle.report_rules.specs.Reports.{Done, done_block, budget_or, IsAnswerTo, IsByItsFile, IsSearchFor}

-- ---- a record's answer, by its outcome and its line

abbrev pub fate_in : LoadLine → Fate
fate_in (Published number name) = published number
fate_in (Refused place line code) = no_page
fate_in (DataFull place left need) = no_room left need
fate_in (NoPage place) = no_page
fate_in (ChainFull place pages) = chain_full pages
fate_in (LogFull place front) = log_full front

fate_back : (place : ℕ) (name : List ℕ) (fate : Fate) → fate_in (fate_line place name fate) ≡ fate
fate_back place name (published number) = refl
fate_back place name (no_room left need) = refl
fate_back place name no_page = refl
fate_back place name (chain_full pages) = refl
fate_back place name (log_full front) = refl

abbrev pub answer_in : Outcome → LoadLine → RecordAnswer
answer_in (accepted name mol) line = taken (record { name = name; mol = mol }) (fate_in line)
answer_in (refused at code) line = not_accepted at code

pub answer_back : (place : ℕ) (answer : RecordAnswer) → answer_in (outcome_of answer) (record_line place answer) ≡ answer
answer_back place (not_accepted at code) = refl
answer_back place (taken one fate) = ap (taken one) (fate_back place one.name fate)

abbrev pub answers_in : List Outcome → List LoadLine → List RecordAnswer
answers_in [] lines = []
answers_in (outcome ∷ outcomes) [] = []
answers_in (outcome ∷ outcomes) (line ∷ lines) = answer_in outcome line ∷ answers_in outcomes lines

pub answers_back : (place : ℕ) (answers : List RecordAnswer) → answers_in (map outcome_of answers) (record_lines place answers) ≡ answers
answers_back place [] = refl
answers_back place (answer ∷ answers) =
    let here = answer_back place answer in
    let rest = answers_back (place + 1) answers in
    cc (here, rest)

-- ---- a search's answer

-- a query file has one outcome
abbrev pub OneQuery : Type 0
OneQuery = (bytes : List ℕ) (first second : Result QueryGraph QueryRefusal) → IsFirstQueryOutcome bytes first → IsFirstQueryOutcome bytes second → first ≡ second

abbrev pub query_of : SearchAnswer → Result QueryGraph QueryRefusal
query_of (not_read line code) = Err (record { line = line; code = code })
query_of (hits_at asked budget front hits rows records) = Ok asked
query_of (over_at asked budget front) = Ok asked

abbrev pub search_in : Result QueryGraph QueryRefusal → ℕ → SearchLine → SearchAnswer
search_in (Err refusal) budget line = not_read refusal.line refusal.code
search_in (Ok asked) budget (Hits front hits rows records) = hits_at asked budget front hits rows records
search_in (Ok asked) budget (OverBudget front own) = over_at asked budget front
search_in (Ok asked) budget (QueryRefused line code) = not_read line code

search_back : (bytes : List ℕ) (budget : ℕ) (answer : SearchAnswer) → IsSearchFor bytes budget answer → search_in (query_of answer) budget (search_line answer) ≡ answer
search_back bytes budget (not_read line code) is = refl
search_back bytes budget (hits_at asked own front hits rows records) is = ap (λ n. hits_at asked n front hits rows records) (sym is.1)
search_back bytes budget (over_at asked own front) is = ap (λ n. over_at asked n front) (sym is.1)

pub query_is : (bytes : List ℕ) (budget : ℕ) (answer : SearchAnswer) → IsSearchFor bytes budget answer → IsFirstQueryOutcome bytes (query_of answer)
query_is bytes budget (not_read line code) is = is
query_is bytes budget (hits_at asked own front hits rows records) is = is.0
query_is bytes budget (over_at asked own front) is = is.0

one_search : OneQuery → (bytes : List ℕ) (budget : ℕ) (a b : SearchAnswer) → search_line a ≡ search_line b → IsSearchFor bytes budget a → IsSearchFor bytes budget b → a ≡ b
one_search one bytes budget a b same x y =
    let query = one bytes (query_of a) (query_of b) (query_is bytes budget a x) (query_is bytes budget b y) in
    sym (search_back bytes budget a x) ∙ ap (λ q. search_in q budget (search_line a)) query
    ∙ ap (search_in (query_of b) budget) same ∙ search_back bytes budget b y

-- ---- a job's answer

abbrev pub lines_in : Block → List LoadLine
lines_in (block.Load line file lines) = lines
lines_in (block.Withdraw line number answer) = []
lines_in (block.Search line file answer) = []

abbrev pub file_in : Block → List ℕ
file_in (block.Load line file lines) = file
file_in (block.Withdraw line number answer) = []
file_in (block.Search line file answer) = file

abbrev pub search_of : Block → SearchLine
search_of (block.Load line file lines) = QueryRefused 0 0
search_of (block.Withdraw line number answer) = QueryRefused 0 0
search_of (block.Search line file answer) = answer

abbrev pub withdrawal_in : Block → WithdrawLine
withdrawal_in (block.Load line file lines) = At 0
withdrawal_in (block.Withdraw line number answer) = answer
withdrawal_in (block.Search line file answer) = At 0

one_answer : OneQuery → (bytes : Option (List ℕ)) (budget line : ℕ) (asks : Order) (a b : JobAnswer) → block_of line a ≡ block_of line b
    → IsAnswerTo bytes budget asks a → IsAnswerTo bytes budget asks b → a ≡ b
one_answer one (Some bytes) budget line (order.Load file) (loaded f more) (loaded g bs) same x y =
    let outcomes = one_record_list bytes (map outcome_of more) (map outcome_of bs) x.1 y.1 in
    let answers : more ≡ bs = sym (answers_back 1 more) ∙ ap (λ o. answers_in o (record_lines 1 more)) outcomes
    ∙ ap (answers_in (map outcome_of bs)) (ap lines_in same) ∙ answers_back 1 bs in
    let files : f ≡ g = ap file_in same in
    cc (files, answers)
one_answer one (Some bytes) budget line (order.Load file) (loaded f more) (withdrew n b) same x y = absurd y
one_answer one (Some bytes) budget line (order.Load file) (loaded f more) (searched g b) same x y = absurd y
one_answer one (Some bytes) budget line (order.Load file) (withdrew n a) b same x y = absurd x
one_answer one (Some bytes) budget line (order.Load file) (searched f a) b same x y = absurd x
one_answer one None budget line (order.Load file) (loaded f more) b same x y = absurd x
one_answer one None budget line (order.Load file) (withdrew n a) b same x y = absurd x
one_answer one None budget line (order.Load file) (searched f a) b same x y = absurd x
one_answer one (Some bytes) budget line (order.Withdraw number) (withdrew m a) (withdrew n b) same x y =
    let numbers : m ≡ n = x ∙ sym y in
    let lines : a ≡ b = ap withdrawal_in same in
    cc (numbers, lines)
one_answer one None budget line (order.Withdraw number) (withdrew m a) (withdrew n b) same x y =
    let numbers : m ≡ n = x ∙ sym y in
    let lines : a ≡ b = ap withdrawal_in same in
    cc (numbers, lines)
one_answer one (Some bytes) budget line (order.Withdraw number) (withdrew m a) (loaded g b) same x y = absurd y
one_answer one (Some bytes) budget line (order.Withdraw number) (withdrew m a) (searched g b) same x y = absurd y
one_answer one None budget line (order.Withdraw number) (withdrew m a) (loaded g b) same x y = absurd y
one_answer one None budget line (order.Withdraw number) (withdrew m a) (searched g b) same x y = absurd y
one_answer one (Some bytes) budget line (order.Withdraw number) (loaded f a) b same x y = absurd x
one_answer one (Some bytes) budget line (order.Withdraw number) (searched f a) b same x y = absurd x
one_answer one None budget line (order.Withdraw number) (loaded f a) b same x y = absurd x
one_answer one None budget line (order.Withdraw number) (searched f a) b same x y = absurd x
one_answer one (Some bytes) budget line (order.Search file own) (searched f a) (searched g b) same x y =
    let answers : a ≡ b = one_search one bytes (budget_or budget own) a b (ap search_of same) x.1 y.1 in
    let files : f ≡ g = ap file_in same in
    cc (files, answers)
one_answer one (Some bytes) budget line (order.Search file own) (searched f a) (loaded g b) same x y = absurd y
one_answer one (Some bytes) budget line (order.Search file own) (searched f a) (withdrew n b) same x y = absurd y
one_answer one (Some bytes) budget line (order.Search file own) (loaded f a) b same x y = absurd x
one_answer one (Some bytes) budget line (order.Search file own) (withdrew n a) b same x y = absurd x
one_answer one None budget line (order.Search file own) (loaded f a) b same x y = absurd x
one_answer one None budget line (order.Search file own) (withdrew n a) b same x y = absurd x
one_answer one None budget line (order.Search file own) (searched f a) b same x y = absurd x

pub one_done : OneQuery → (files : List (ℕ × List ℕ)) (budget : ℕ) (x y : Done) → x.dealt ≡ y.dealt → done_block x ≡ done_block y → IsByItsFile files budget x → IsByItsFile files budget y → x ≡ y
one_done one files budget x y jobs blocks by too =
    let by_y : IsAnswerTo (bytes_at files y.dealt.job.line) budget y.dealt.job.order x.answer = subst (λ (d : Dealt). IsAnswerTo (bytes_at files d.job.line) budget d.job.order x.answer) jobs by in
    let blocks_y : block_of y.dealt.job.line x.answer ≡ block_of y.dealt.job.line y.answer = ap (λ (d : Dealt). block_of d.job.line x.answer) (sym jobs) ∙ blocks in
    let answers : x.answer ≡ y.answer = one_answer one (bytes_at files y.dealt.job.line) budget y.dealt.job.line y.dealt.job.order x.answer y.answer blocks_y by_y too in
    ap (λ (d : Dealt). record { dealt = d; answer = x.answer }) jobs ∙ ap (λ (a : JobAnswer). record { dealt = y.dealt; answer = a }) answers

first_same : {X : Type 0} (x y : X) (xs ys : List X) → x ∷ xs ≡ y ∷ ys → x ≡ y
first_same x y xs ys same = cc

rest_same : {X : Type 0} (x y : X) (xs ys : List X) → x ∷ xs ≡ y ∷ ys → xs ≡ ys
rest_same x y xs ys same = cc

-- what is done for the first blocks is the first of what is done for all
pub first_done : OneQuery → (files : List (ℕ × List ℕ)) (budget : ℕ) (xs ys : List Done)
    → map (λ one. one.dealt) xs ≡ take (length xs) (map (λ one. one.dealt) ys) → map done_block xs ≡ take (length xs) (map done_block ys)
    → All (IsByItsFile files budget) xs → All (IsByItsFile files budget) ys → xs ≡ take (length xs) ys
first_done one files budget [] ys jobs blocks by too = refl
first_done one files budget (x ∷ xs) [] jobs blocks by too = absurd cc
first_done one files budget (x ∷ xs) (y ∷ ys) jobs blocks by too =
    let here = one_done one files budget x y (first_same _ _ _ _ jobs) (first_same _ _ _ _ blocks) (All-head (IsByItsFile files budget) x xs by) (All-head (IsByItsFile files budget) y ys too) in
    let rest = first_done one files budget xs ys (rest_same _ _ _ _ jobs) (rest_same _ _ _ _ blocks) (All-tail (IsByItsFile files budget) x xs by) (All-tail (IsByItsFile files budget) y ys too) in
    cc (here, rest)
