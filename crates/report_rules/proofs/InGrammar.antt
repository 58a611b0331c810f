-- A report that tells of a history, in values of their types, is in the grammar.
use Rattle.std.proofs.Common.{◌≡◌, ℕ, zero, suc, ◌+◌, ◌^◌, ◌<◌, ◌≤◌, Bool, true, false, List, [], ◌∷◌, ◌++◌, length, map, take, get_or, All, refl, sym, ap, subst, arith}
use Rattle.std.specs.Prelude.{pos, Option, Some, None, slice_index, slice_index_or, not, if◌then◌else◌}
use Rattle.std.specs.List.{flat_map, list_any}
use Rattle.std.specs.List.Sorted.{IsStrictlyIncreasing}
use Rattle.std.proofs.lemmas.List.{get_or_default, length-append, length-map, length-take-le}
use Rattle.std.proofs.lemmas.List.Elements.{All-cons, All-head, All-nil, All-tail}
use Rattle.std.proofs.lemmas.Option.{slice_get-get_or}
use Rattle.htss_defs.specs.declared.history.Event.{Event}
use Rattle.htss_defs.specs.declared.history.Hit.{Hit}
use Rattle.htss_defs.specs.declared.query.AtomTest.TheVariants.{Any}
use Rattle.htss_defs.specs.declared.query.QueryAtom.{QueryAtom}
use Rattle.htss_defs.specs.declared.shape.Shape.{Shape}
use Rattle.htss_defs.specs.declared.shape.Field.TheVariants as field
use Rattle.htss_defs.specs.Shapes.{IsShape}
use Rattle.htss_defs.specs.Hits.{AreHits, IsHit, numbers}
use Rattle.htss_defs.specs.QueryGraph.{QueryGraph}
use Rattle.mol_section.specs.Fields.{is_blank}
use Rattle.mol_section.specs.Lines.{lines_of}
use Rattle.mol_section.specs.SectionRecord.{Outcome}
use Rattle.mol_section.proofs.Outcomes.{length-lines_of}
use Rattle.ctfile.specs.RecordList.{AreSections, AreOutcomes, IsRecordList, last_sections}
use Rattle.reg_model.proofs.Prefixes.{live-within}
use Rattle.script_text.specs.declared.script.Group.{Group}
use Rattle.script_text.specs.declared.script.Order.{Order}
use Rattle.script_text.specs.declared.script.Order.TheVariants as order
use Rattle.script_text.specs.FilesByLine.{bytes_at}
use Rattle.report_text.specs.declared.report.Report.{Report}
use Rattle.report_text.specs.Typed.{IsTypedBlock, IsTypedHit, IsTypedLoadLine, IsTypedSearchLine}
use Rattle.report_text.specs.Values.{AreShapeNumbers, IsBlock, IsHitLine, IsInGrammar, IsLoadLine, IsLogLine, IsSearchLine, IsU64}
use Rattle.report_rules.specs.Answers.{Answer, to_record, to_search, to_withdrawal, JobAnswer, loaded, withdrew, searched}
use Rattle.report_rules.specs.Answers.{RecordAnswer, not_accepted, taken, published, no_room, no_page, chain_full, log_full, SearchAnswer, not_read, hits_at, over_at}
use Rattle.report_rules.specs.Answers.{answers_of, block_of, outcome_of, record_line, record_lines, search_line}
use Rattle.report_rules.specs.Reports.{Done, IsAnswerTo, IsByItsFile, IsSearchFor, IsToldBy, budget_or, done_block, done_lines}
use Rattle.report_rules.specs.Rules.{KeepsAnswer, Line}
use Rattle.report_rules.proofs.AskedAtoms.{read_atoms}
use Rattle.report_rules.proofs.CodeWords.{HasItsWord, query_has, records_have}

-- ---- a file has no more records than bytes

as_long : (first : ℕ) (sections : List (List (List ℕ))) (outcomes : List Outcome) → AreOutcomes first sections outcomes → length outcomes ≡ length sections
as_long first [] outcomes none = ap length none
as_long first (section ∷ sections) [] are = absurd are
as_long first (section ∷ sections) (outcome ∷ outcomes) are = ap suc (as_long (first + length section + 1) sections outcomes are.1)

few_sections : (lines : List (List ℕ)) (sections : List (List (List ℕ))) (last : List (List ℕ)) → AreSections lines sections last → length sections + length last ≤ length lines
few_sections lines [] last (same, none) = omega (arith, ap length same)
few_sections lines (section ∷ sections) last (end, rest, ends, none, parts, more) =
    let later = few_sections rest sections last more in
    omega (arith, later, ap length parts, length-append section (end ∷ rest))

few_last : (last : List (List ℕ)) → length (last_sections last) ≤ length last
few_last [] = omega arith
few_last (line ∷ last) = go (list_any (λ one. not (is_blank one)) (line ∷ last))
  where
    go : (b : Bool) → length (if b then (line ∷ last) ∷ [] else []) ≤ length (line ∷ last)
    go true = omega arith
    go false = omega arith

few_records : (bytes : List ℕ) (outcomes : List Outcome) → IsRecordList bytes outcomes → length outcomes ≤ length bytes
few_records bytes outcomes are =
    let long = as_long 1 (are.sections ++ last_sections are.last) outcomes are.are_outcomes in
    let cut = few_sections (lines_of bytes) are.sections are.last are.are_sections in
    omega (arith, long, length-append are.sections (last_sections are.last), cut, few_last are.last, length-lines_of bytes)

-- ---- hits

-- the k-th of numbers that rise is at least k
rising_long : (xs : List ℕ) → IsStrictlyIncreasing xs → (k : ℕ) → k < length xs → k ≤ slice_index xs k
rising_long xs rising zero within = omega arith
rising_long xs rising (suc k) within =
    let e : suc k ≡ k + 1 = omega arith in
    let before = rising_long xs rising k (omega (arith, within)) in
    let next = rising k (omega (arith, within)) in
    subst (λ (n : ℕ). n ≤ slice_index xs n) (sym e) (omega (arith, before, next))

number_at : (hits : List Hit) (k : ℕ) (d : Hit) → k < length hits → slice_index (numbers hits) k ≡ (slice_index_or hits k d).number
number_at [] k d within = absurd (omega arith)
number_at (hit ∷ hits) zero d within = refl
number_at (hit ∷ hits) (suc k) d within = number_at hits k d (omega (arith, within))

few_hits : (asked : QueryGraph) (h : List Event) (hits : List Hit) → AreHits asked h hits → length hits ≤ length h + 1
few_hits asked h [] are = omega arith
few_hits asked h (hit ∷ hits) are =
    let last = length hits in
    let one = slice_index_or (hit ∷ hits) last hit in
    let at = rising_long (numbers (hit ∷ hits)) are.rising last (omega (arith, length-map (hit ∷ hits) (λ (h : Hit). h.number))) in
    let is : IsHit asked h one = are.each last hit (omega arith) in
    omega (arith, at, number_at (hit ∷ hits) last hit (omega arith), live-within h one.number one.name is.mol is.live)

hit_is : (asked : QueryGraph) (h : List Event) (hit : Hit) → (1 ≤ length asked.atoms) × (length asked.atoms ≤ 64) → IsHit asked h hit → IsTypedHit hit → IsHitLine hit
hit_is asked h hit some is typed =
    let long = is.least.embeds.one_each in
    record {
      number = typed.number;
      name = typed.name;
      long = (omega (arith, long, some.0), omega (arith, long, some.1));
      places = λ k d within.
          let asked_within : k < length asked.atoms = omega (arith, long, within) in
          let one = get_or asked.atoms k no_atom in
          let lands = is.least.embeds.atoms k one (slice_get-get_or asked.atoms k no_atom asked_within) in
          (subst (λ (n : ℕ). 1 ≤ n) (get_or_default hit.map k 0 d within) lands.here.0, typed.places k d within);
    }
  where
    no_atom : QueryAtom
    no_atom = record { test = Any; charge = pos 0; mass = 0 }

hits_are : (asked : QueryGraph) (h : List Event) (hits : List Hit) → (1 ≤ length asked.atoms) × (length asked.atoms ≤ 64) → All (IsHit asked h) hits → All IsTypedHit hits → All IsHitLine hits
hits_are asked h hits some each typed = λ k d within. hit_is asked h (slice_index_or hits k d) some (each k d within) (typed k d within)

-- ---- what the rules say of the hits of a line

abbrev IsFoundIn : List Event → Answer → Type 0
IsFoundIn h (to_search (hits_at asked budget front hits rows records)) = (front ≤ length h) × AreHits asked (take front h) hits
IsFoundIn h _ = Unit {0}

found_in : (shape : Shape) (h : List Event) (earlier : List Line) (line : Line) (answer : Answer) → KeepsAnswer shape h earlier line answer → IsFoundIn h answer
found_in shape h earlier line (to_record answer) keeps = tt
found_in shape h earlier line (to_withdrawal number answer) keeps = tt
found_in shape h earlier line (to_search (not_read at code)) keeps = tt
found_in shape h earlier line (to_search (hits_at asked budget front hits rows records)) keeps = (keeps.0, keeps.1.0)
found_in shape h earlier line (to_search (over_at asked budget front)) keeps = tt

-- what is so of each line after those before it is so of all
all_by_splits : {X : Type 0} (P : X → Type 0) (xs : List X) → ((earlier later : List X) (x : X) → xs ≡ earlier ++ x ∷ later → P x) → All P xs
all_by_splits P [] each = All-nil P
all_by_splits {X = X} P (x ∷ xs) each = All-cons P x xs (each [] xs x refl) (all_by_splits P xs (λ earlier later y is. each (x ∷ earlier) later y (ap (λ (l : List X). x ∷ l) is)))

-- ---- the blocks

records_are : (place : ℕ) (answers : List RecordAnswer) → All HasItsWord (map outcome_of answers) → All IsTypedLoadLine (record_lines place answers) → All IsLoadLine (record_lines place answers)
records_are place [] words typed = All-nil IsLoadLine
records_are place (answer ∷ answers) words typed =
    All-cons IsLoadLine (record_line place answer) (record_lines (place + 1) answers)
    (one_is answer (All-head HasItsWord (outcome_of answer) (map outcome_of answers) words) (All-head IsTypedLoadLine (record_line place answer) (record_lines (place + 1) answers) typed))
    (records_are (place + 1) answers (All-tail HasItsWord (outcome_of answer) (map outcome_of answers) words) (All-tail IsTypedLoadLine (record_line place answer) (record_lines (place + 1) answers) typed))
  where
    one_is : (answer : RecordAnswer) → HasItsWord (outcome_of answer) → IsTypedLoadLine (record_line place answer) → IsLoadLine (record_line place answer)
    one_is (not_accepted line code) word typed = (typed.0, (typed.1, word))
    one_is (taken one (published number)) word typed = typed
    one_is (taken one (no_room left need)) word typed = typed
    one_is (taken one no_page) word typed = typed
    one_is (taken one (chain_full pages)) word typed = typed
    one_is (taken one (log_full front)) word typed = typed

length_lines : (place : ℕ) (answers : List RecordAnswer) → length (record_lines place answers) ≡ length answers
length_lines place [] = refl
length_lines place (answer ∷ answers) = ap suc (length_lines (place + 1) answers)

search_is : (bytes : List ℕ) (budget : ℕ) (h : List Event) (answer : SearchAnswer) → length h + 1 < 2 ^ 32 → IsSearchFor bytes budget answer → IsFoundIn h (to_search answer) → IsTypedSearchLine (search_line answer) → IsSearchLine (search_line answer)
search_is bytes budget h (not_read line code) few is found typed = (typed, query_has bytes line code is)
search_is bytes budget h (hits_at asked own front hits rows records) few is found typed =
    let first = length-take-le front h found.0 in (
      typed.0,
      hits_are asked (take front h) hits (read_atoms bytes asked is.0) found.1.each typed.1,
      omega (arith, few, found.0, first, few_hits asked (take front h) hits found.1),
      typed.2,
      typed.3,
    )
search_is bytes budget h (over_at asked own front) few is found typed = typed

-- a file of 2^32 bytes is told of by no line
abbrev pub AreShort : List (ℕ × List ℕ) → Type 0
AreShort files = (line : ℕ) (bytes : List ℕ) → bytes_at files line ≡ Some bytes → length bytes < 2 ^ 32

block_is : (at : Option (List ℕ)) (budget line : ℕ) (h : List Event) (asked : Order) (answer : JobAnswer) → ((bytes : List ℕ) → at ≡ Some bytes → length bytes < 2 ^ 32) → length h + 1 < 2 ^ 32
    → IsAnswerTo at budget asked answer → All (IsFoundIn h) (answers_of answer) → IsTypedBlock (block_of line answer) → IsBlock (block_of line answer)
block_is (Some bytes) budget line h (order.Load file) (loaded named answers) short few is found typed =
    let long = length-map answers outcome_of in (
      typed.0,
      typed.1,
      records_are 1 answers (records_have bytes (map outcome_of answers) is.1) typed.2,
      omega (arith, length_lines 1 answers, long, few_records bytes (map outcome_of answers) is.1, short bytes refl),
    )
block_is (Some bytes) budget line h (order.Search file own) (searched named answer) short few is found typed =
    (typed.0, typed.1, search_is bytes (budget_or budget own) h answer few is.1 (All-head (IsFoundIn h) (to_search answer) [] found) typed.2)
block_is at budget line h asked (withdrew named answer) short few is found typed = typed
block_is None budget line h (order.Load file) (loaded named answers) short few is found typed = absurd is
block_is None budget line h (order.Withdraw number) (loaded named answers) short few is found typed = absurd is
block_is None budget line h (order.Search file own) (loaded named answers) short few is found typed = absurd is
block_is None budget line h (order.Load file) (searched named answer) short few is found typed = absurd is
block_is None budget line h (order.Withdraw number) (searched named answer) short few is found typed = absurd is
block_is None budget line h (order.Search file own) (searched named answer) short few is found typed = absurd is
block_is (Some bytes) budget line h (order.Withdraw number) (loaded named answers) short few is found typed = absurd is
block_is (Some bytes) budget line h (order.Search file own) (loaded named answers) short few is found typed = absurd is
block_is (Some bytes) budget line h (order.Load file) (searched named answer) short few is found typed = absurd is
block_is (Some bytes) budget line h (order.Withdraw number) (searched named answer) short few is found typed = absurd is

answers_found : (h : List Event) (one : Done) (answers : List Answer) (rest : List Line)
    → All (λ (line : Line). IsFoundIn h line.answer) (map (λ answer. record { group = one.dealt.group; caller = one.dealt.caller; answer = answer }) answers ++ rest)
    → All (IsFoundIn h) answers × All (λ (line : Line). IsFoundIn h line.answer) rest
answers_found h one [] rest all = (All-nil (IsFoundIn h), all)
answers_found h one (answer ∷ answers) rest all =
    let Found : Line → Type 0 = λ line. IsFoundIn h line.answer in
    let lines = map (λ (answer : Answer). record { group = one.dealt.group; caller = one.dealt.caller; answer = answer }) answers in
    let more = answers_found h one answers rest (All-tail Found (record { group = one.dealt.group; caller = one.dealt.caller; answer = answer }) (lines ++ rest) all) in
    (All-cons (IsFoundIn h) answer answers (All-head Found (record { group = one.dealt.group; caller = one.dealt.caller; answer = answer }) (lines ++ rest) all) more.0, more.1)

blocks_are : (files : List (ℕ × List ℕ)) (budget : ℕ) (h : List Event) (done : List Done) → AreShort files → length h + 1 < 2 ^ 32 → All (IsByItsFile files budget) done
    → All (λ (line : Line). IsFoundIn h line.answer) (flat_map done_lines done) → All IsTypedBlock (map done_block done) → All IsBlock (map done_block done)
blocks_are files budget h [] short few by found typed = All-nil IsBlock
blocks_are files budget h (one ∷ done) short few by found typed =
    let both = answers_found h one (answers_of one.answer) (flat_map done_lines done) found in
    All-cons IsBlock (done_block one) (map done_block done)
    (block_is (bytes_at files one.dealt.job.line) budget one.dealt.job.line h one.dealt.job.order one.answer (short one.dealt.job.line) few
    (All-head (IsByItsFile files budget) one done by) both.0 (All-head IsTypedBlock (done_block one) (map done_block done) typed))
    (blocks_are files budget h done short few (All-tail (IsByItsFile files budget) one done by) both.1 (All-tail IsTypedBlock (done_block one) (map done_block done) typed))

-- the blocks tell of a history, and their values are of their types; so are the events and the budget
pub in_grammar : (script : List Group) (files : List (ℕ × List ℕ)) (shape : Shape) (budget : ℕ) (h : List Event) (report : Report) → IsShape shape → report.shape ≡ shape → IsU64 report.budget → AreShort files
    → length h ≤ shape.log → length report.events ≡ length h → IsToldBy script files shape budget h report.blocks → All IsTypedBlock report.blocks → All IsLogLine report.events → IsInGrammar report
in_grammar script files shape budget h report limits shape_is budget_fits short within long told typed events =
    let log = (limits field.Log).1 in
    record {
      shape = subst AreShapeNumbers (sym shape_is) (record {
        loaders = omega (arith, (limits field.Loaders).1);
        searchers = omega (arith, (limits field.Searchers).1);
        pages = omega (arith, (limits field.Pages).1);
        room = omega (arith, (limits field.Room).1);
        log = omega (arith, (limits field.Log).1);
        chain = omega (arith, (limits field.Chain).1);
      });
      budget = budget_fits;
      blocks = subst (All IsBlock) (sym told.blocks_are)
          (blocks_are files budget h told.done short (omega (arith, log, within)) told.by_files
          (all_by_splits (λ (line : Line). IsFoundIn h line.answer) (flat_map done_lines told.done) (λ earlier later line is. found_in shape h earlier line line.answer (told.rules earlier later line is)))
          (subst (All IsTypedBlock) told.blocks_are typed));
      events = events;
      count = omega (arith, log, within, long);
    }
