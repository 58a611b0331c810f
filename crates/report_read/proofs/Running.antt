-- The lines of a report lead to its end, and a stage to the stage with one line more.
use Rattle.std.proofs.Common.{◌≡◌, ◌⊎◌, ℕ, ◌+◌, ◌≤◌, Bool, true, false, List, [], ◌∷◌, ◌++◌, length, refl, sym, ap, ◌∙◌, inl, inr, append_assoc, arith, eq-eqb}
use Rattle.std.specs.Prelude.{Option, Some, None, ◌==◌, ◌&&◌, nat_lt, if◌then◌else◌}
use Rattle.std.specs.List.{flat_map}
use Rattle.std.proofs.lemmas.Bool.{cond-true, cond-false, cases_Bool}
use Rattle.std.proofs.lemmas.List.{append-nil, length-append, map-append}
use Rattle.htss_defs.specs.declared.history.Hit.{Hit}
use Rattle.report_text.specs.ReportText.{published_count}
use Rattle.report_text.specs.declared.report.Report.{Report}
use Rattle.report_text.specs.declared.report.Block.{Block}
use Rattle.report_text.specs.declared.report.Block.TheVariants.{Load as LoadBlock, Withdraw as WithdrawBlock, Search as SearchBlock}
use Rattle.report_text.specs.declared.report.LoadLine.{LoadLine}
use Rattle.report_text.specs.declared.report.LogLine.{LogLine}
use Rattle.report_text.specs.declared.report.SearchLine.TheVariants.{Hits, OverBudget as Over, Refused}
use Rattle.report_lines.specs.declared.line.Line.{Line}
use Rattle.report_lines.specs.declared.line.Line.TheVariants.{Header, Load, Answer, Loaded, Withdraw, Search, NotRead, OneHit, HitsEnd, OverBudget, Log, Event, End}
use Rattle.report_read.specs.ReportLines.{answer_lines, block_lines, event_lines, hit_lines, report_lines}
use Rattle.report_read.specs.Stages.{Begun, Stage, Fresh, Between, Loading, Searching, Logging, Ended, begun_lines, lines_to, step, whole_report, with_block}
use Rattle.report_read.specs.Runs.{run, then_step}

pub run-append : (before after : List Line) (stage : Option Stage) → run (before ++ after) stage ≡ run after (run before stage)
run-append [] after stage = refl
run-append (line ∷ before) after stage = run-append before after (then_step stage line)

pub run-none : (lines : List Line) → run lines None ≡ None
run-none [] = refl
run-none (line ∷ lines) = run-none lines

abbrev pub with_blocks : Begun → List Block → Begun
with_blocks begun blocks = record { shape = begun.shape; budget = begun.budget; blocks = begun.blocks ++ blocks }

-- ---- the parts of a report

run_answers : (begun : Begun) (line : ℕ) (file : List ℕ) (answers done : List LoadLine)
    → run (answer_lines answers) (Some (Loading begun line file done)) ≡ Some (Loading begun line file (done ++ answers))
run_answers begun line file [] done = ap (λ (d : List LoadLine). Some (Loading begun line file d)) (sym (append-nil done))
run_answers begun line file (answer ∷ answers) done = run_answers begun line file answers (done ++ answer ∷ []) ∙ ap (λ (d : List LoadLine). Some (Loading begun line file d)) (append_assoc done (answer ∷ []) answers)

run_hits : (begun : Begun) (line : ℕ) (file : List ℕ) (at : ℕ) (hits done : List Hit)
    → run (hit_lines hits) (Some (Searching begun line file at done)) ≡ Some (Searching begun line file at (done ++ hits))
run_hits begun line file at [] done = ap (λ (d : List Hit). Some (Searching begun line file at d)) (sym (append-nil done))
run_hits begun line file at (hit ∷ hits) done = run_hits begun line file at hits (done ++ hit ∷ []) ∙ ap (λ (d : List Hit). Some (Searching begun line file at d)) (append_assoc done (hit ∷ []) hits)

same : (n : ℕ) → (n == n) ≡ true
same n = eq-eqb n n refl

run_block : (begun : Begun) (block : Block) → run (block_lines block) (Some (Between begun)) ≡ Some (with_block begun block)
run_block begun (LoadBlock line file answers) =
    run-append (answer_lines answers) (Loaded (published_count answers) ∷ []) (Some (Loading begun line file []))
    ∙ ap (run (Loaded (published_count answers) ∷ [])) (run_answers begun line file answers [])
    ∙ cond-true (published_count answers == published_count answers) (Some (with_block begun (LoadBlock line file answers))) None (same (published_count answers))
run_block begun (WithdrawBlock line number answer) = refl
run_block begun (SearchBlock line file (Hits at hits rows records)) =
    run-append (hit_lines hits) (HitsEnd (length hits) rows records ∷ []) (Some (Searching begun line file at []))
    ∙ ap (run (HitsEnd (length hits) rows records ∷ [])) (run_hits begun line file at hits [])
    ∙ cond-true (length hits == length hits) (Some (with_block begun (SearchBlock line file (Hits at hits rows records)))) None (same (length hits))
run_block begun (SearchBlock line file (Over at budget)) = refl
run_block begun (SearchBlock line file (Refused at code)) = refl

run_blocks : (blocks : List Block) (begun : Begun) → run (flat_map block_lines blocks) (Some (Between begun)) ≡ Some (Between (with_blocks begun blocks))
run_blocks [] begun = ap (λ (b : List Block). Some (Between (record { shape = begun.shape; budget = begun.budget; blocks = b }))) (sym (append-nil begun.blocks))
run_blocks (block ∷ blocks) begun =
    run-append (block_lines block) (flat_map block_lines blocks) (Some (Between begun))
    ∙ ap (run (flat_map block_lines blocks)) (run_block begun block)
    ∙ run_blocks blocks (with_blocks begun (block ∷ []))
    ∙ ap (λ (b : List Block). Some (Between (record { shape = begun.shape; budget = begun.budget; blocks = b }))) (append_assoc begun.blocks (block ∷ []) blocks)

run_events : (begun : Begun) (count : ℕ) (events done : List LogLine) (number : ℕ) → number ≡ length done + 1 → length done + length events ≤ count
    → run (event_lines number events) (Some (Logging begun count done)) ≡ Some (Logging begun count (done ++ events))
run_events begun count [] done number is few = ap (λ (d : List LogLine). Some (Logging begun count d)) (sym (append-nil done))
run_events begun count (event ∷ events) done number is few =
    ap (run (event_lines (number + 1) events)) (cond-true (nat_lt (length done) count && (number == length done + 1)) (Some (Logging begun count (done ++ event ∷ []))) None (grind arith))
    ∙ run_events begun count events (done ++ event ∷ []) (number + 1) (omega (arith, is, length-append done (event ∷ []))) (omega (arith, few, length-append done (event ∷ [])))
    ∙ ap (λ (d : List LogLine). Some (Logging begun count d)) (append_assoc done (event ∷ []) events)

abbrev bare : Report → Begun
bare report = record { shape = report.shape; budget = report.budget; blocks = [] }

abbrev whole : Report → Begun
whole report = record { shape = report.shape; budget = report.budget; blocks = report.blocks }

abbrev log_lines : List LogLine → List Line
log_lines events = Log (length events) ∷ (event_lines 1 events ++ End ∷ [])

run_log : (begun : Begun) (events : List LogLine) → run (log_lines events) (Some (Between begun)) ≡ Some (Ended (whole_report begun events))
run_log begun events =
    run-append (event_lines 1 events) (End ∷ []) (Some (Logging begun (length events) []))
    ∙ ap (run (End ∷ [])) (run_events begun (length events) events [] 1 (omega arith) (omega arith))
    ∙ cond-true (length events == length events) (Some (Ended (whole_report begun events))) None (same (length events))

run_rest : (report : Report) → run (flat_map block_lines report.blocks ++ log_lines report.events) (Some (Between (bare report))) ≡ Some (Ended report)
run_rest report =
    run-append (flat_map block_lines report.blocks) (log_lines report.events) (Some (Between (bare report)))
    ∙ ap (run (log_lines report.events)) (run_blocks report.blocks (bare report))
    ∙ run_log (whole report) report.events

-- the lines of a report lead from the first stage to the last
pub run_report : (report : Report) → run (report_lines report) (Some Fresh) ≡ Some (Ended report)
run_report report = run_rest report

-- ---- a line more

answers_more : (answers : List LoadLine) (answer : LoadLine) → answer_lines (answers ++ answer ∷ []) ≡ answer_lines answers ++ Answer answer ∷ []
answers_more answers answer = map-append (λ (a : LoadLine). Answer a) answers (answer ∷ [])

hits_more : (hits : List Hit) (hit : Hit) → hit_lines (hits ++ hit ∷ []) ≡ hit_lines hits ++ OneHit hit ∷ []
hits_more hits hit = map-append (λ (h : Hit). OneHit h) hits (hit ∷ [])

pub events_append : (events more : List LogLine) (number : ℕ) → event_lines number (events ++ more) ≡ event_lines number events ++ event_lines (number + length events) more
events_append [] more number = ap (λ (n : ℕ). event_lines n more) (omega arith)
events_append (first ∷ events) more number =
    let e : number + 1 + length events ≡ number + length (first ∷ events) = omega arith in
    ap (λ (l : List Line). Event number first ∷ l) (events_append events more (number + 1) ∙ ap (λ (n : ℕ). event_lines (number + 1) events ++ event_lines n more) e)

blocks_more : (blocks : List Block) (block : Block) → flat_map block_lines (blocks ++ block ∷ []) ≡ flat_map block_lines blocks ++ block_lines block
blocks_more [] block = append-nil (block_lines block)
blocks_more (first ∷ blocks) block = ap (λ (l : List Line). block_lines first ++ l) (blocks_more blocks block) ∙ sym (append_assoc (block_lines first) (flat_map block_lines blocks) (block_lines block))

pub begun_more : (begun : Begun) (block : Block) → lines_to (with_block begun block) ≡ begun_lines begun ++ block_lines block
begun_more begun block = ap (λ (l : List Line). Header begun.shape begun.budget ∷ l) (blocks_more begun.blocks block)

pub is_same : (a b : ℕ) → (a == b) ≡ true → a ≡ b
is_same a b is = grind arith

pub same_Some : {X : Type 0} {x y : X} → Some x ≡ Some y → x ≡ y
same_Some e = cc

-- what was there where the test had to pass
pub passed : {X : Type 0} (test : Bool) (there : X) (after : X) → (if test then Some there else None) ≡ Some after → (test ≡ true) × (there ≡ after)
passed test there after e = go (cases_Bool test)
  where
    go : (test ≡ true) ⊎ (test ≡ false) → (test ≡ true) × (there ≡ after)
    go (inl is) = (is, same_Some (sym (cond-true test (Some there) None is) ∙ e))
    go (inr is) = absurd (let f = sym (cond-false test (Some there) None is) ∙ e in cc)

-- ---- the lines to the stage after a step

step_fresh : (line : Line) (after : Stage) → step Fresh line ≡ Some after → lines_to after ≡ line ∷ []
step_fresh (Header shape budget) after e = ap lines_to (sym (same_Some e))
step_fresh _ after e = absurd cc

step_between : (begun : Begun) (line : Line) (after : Stage) → step (Between begun) line ≡ Some after → lines_to after ≡ begun_lines begun ++ line ∷ []
step_between begun (Load line file) after e = ap lines_to (sym (same_Some e))
step_between begun (Withdraw line number answer) after e = ap lines_to (sym (same_Some e)) ∙ begun_more begun (WithdrawBlock line number answer)
step_between begun (Search line file at) after e = ap lines_to (sym (same_Some e))
step_between begun (NotRead line file at code) after e = ap lines_to (sym (same_Some e)) ∙ begun_more begun (SearchBlock line file (Refused at code))
step_between begun (Log count) after e = ap lines_to (sym (same_Some e))
step_between begun _ after e = absurd cc

step_loading : (begun : Begun) (at : ℕ) (file : List ℕ) (answers : List LoadLine) (line : Line) (after : Stage)
    → step (Loading begun at file answers) line ≡ Some after → lines_to after ≡ lines_to (Loading begun at file answers) ++ line ∷ []
step_loading begun at file answers (Answer answer) after e =
    ap lines_to (sym (same_Some e)) ∙ ap (λ (l : List Line). begun_lines begun ++ Load at file ∷ l) (answers_more answers answer)
    ∙ sym (append_assoc (begun_lines begun) (Load at file ∷ answer_lines answers) (Answer answer ∷ []))
step_loading begun at file answers (Loaded count) after e =
    let found = passed (count == published_count answers) (with_block begun (LoadBlock at file answers)) after e in
    ap lines_to (sym found.1) ∙ begun_more begun (LoadBlock at file answers)
    ∙ ap (λ (n : ℕ). begun_lines begun ++ Load at file ∷ (answer_lines answers ++ Loaded n ∷ [])) (sym (is_same count (published_count answers) found.0))
    ∙ sym (append_assoc (begun_lines begun) (Load at file ∷ answer_lines answers) (Loaded count ∷ []))
step_loading begun at file answers _ after e = absurd cc

pub no_hits : (hits : List Hit) → length hits ≡ 0 → hit_lines hits ≡ []
no_hits [] is = refl
no_hits (hit ∷ hits) is = absurd (omega arith)

step_searching : (begun : Begun) (at : ℕ) (file : List ℕ) (mark : ℕ) (hits : List Hit) (line : Line) (after : Stage)
    → step (Searching begun at file mark hits) line ≡ Some after → lines_to after ≡ lines_to (Searching begun at file mark hits) ++ line ∷ []
step_searching begun at file mark hits (OneHit hit) after e =
    ap lines_to (sym (same_Some e)) ∙ ap (λ (l : List Line). begun_lines begun ++ Search at file mark ∷ l) (hits_more hits hit)
    ∙ sym (append_assoc (begun_lines begun) (Search at file mark ∷ hit_lines hits) (OneHit hit ∷ []))
step_searching begun at file mark hits (HitsEnd count rows records) after e =
    let found = passed (count == length hits) (with_block begun (SearchBlock at file (Hits mark hits rows records))) after e in
    ap lines_to (sym found.1) ∙ begun_more begun (SearchBlock at file (Hits mark hits rows records))
    ∙ ap (λ (n : ℕ). begun_lines begun ++ Search at file mark ∷ (hit_lines hits ++ HitsEnd n rows records ∷ [])) (sym (is_same count (length hits) found.0))
    ∙ sym (append_assoc (begun_lines begun) (Search at file mark ∷ hit_lines hits) (HitsEnd count rows records ∷ []))
step_searching begun at file mark hits (OverBudget budget) after e =
    let found = passed (length hits == 0) (with_block begun (SearchBlock at file (Over mark budget))) after e in
    ap lines_to (sym found.1) ∙ begun_more begun (SearchBlock at file (Over mark budget))
    ∙ ap (λ (l : List Line). begun_lines begun ++ Search at file mark ∷ (l ++ OverBudget budget ∷ [])) (sym (no_hits hits (is_same (length hits) 0 found.0)))
    ∙ sym (append_assoc (begun_lines begun) (Search at file mark ∷ hit_lines hits) (OverBudget budget ∷ []))
step_searching begun at file mark hits _ after e = absurd cc

pub both : (a b : Bool) → (a && b) ≡ true → (a ≡ true) × (b ≡ true)
both true true is = (refl, refl)
both true false is = absurd cc
both false b is = absurd cc

step_logging : (begun : Begun) (count : ℕ) (events : List LogLine) (line : Line) (after : Stage)
    → step (Logging begun count events) line ≡ Some after → lines_to after ≡ lines_to (Logging begun count events) ++ line ∷ []
step_logging begun count events (Event number event) after e =
    let found = passed (nat_lt (length events) count && (number == length events + 1)) (Logging begun count (events ++ event ∷ [])) after e in
    let test = both (nat_lt (length events) count) (number == length events + 1) found.0 in
    let place : 1 + length events ≡ number = omega (arith, is_same number (length events + 1) test.1) in
    ap lines_to (sym found.1) ∙ ap (λ (l : List Line). begun_lines begun ++ Log count ∷ l) (events_append events (event ∷ []) 1)
    ∙ ap (λ (n : ℕ). begun_lines begun ++ Log count ∷ (event_lines 1 events ++ Event n event ∷ [])) place
    ∙ sym (append_assoc (begun_lines begun) (Log count ∷ event_lines 1 events) (Event number event ∷ []))
step_logging begun count events End after e =
    let found = passed (length events == count) (Ended (whole_report begun events)) after e in
    ap lines_to (sym found.1)
    ∙ ap (λ (n : ℕ). begun_lines begun ++ Log n ∷ (event_lines 1 events ++ End ∷ [])) (is_same (length events) count found.0)
    ∙ sym (append_assoc (begun_lines begun) (Log count ∷ event_lines 1 events) (End ∷ []))
step_logging begun count events _ after e = absurd cc

pub step_lines : (before : Stage) (line : Line) (after : Stage) → step before line ≡ Some after → lines_to after ≡ lines_to before ++ line ∷ []
step_lines Fresh line after e = step_fresh line after e
step_lines (Between begun) line after e = step_between begun line after e
step_lines (Loading begun at file answers) line after e = step_loading begun at file answers line after e
step_lines (Searching begun at file mark hits) line after e = step_searching begun at file mark hits line after e
step_lines (Logging begun count events) line after e = step_logging begun count events line after e
step_lines (Ended report) line after e = absurd cc
