-- The values of the lines are those of the report, and each stage is on the way to a report.
use Rattle.std.proofs.Common.{◌≡◌, ℕ, zero, suc, ◌+◌, ◌-◌, ◌<◌, ◌^◌, true, List, [], ◌∷◌, ◌++◌, length, refl, sym, ap, subst, ◌∙◌, append_assoc, arith}
use Rattle.std.specs.Prelude.{Some, All, ◌==◌, ◌&&◌, nat_lt}
use Rattle.std.specs.List.{flat_map}
use Rattle.std.proofs.lemmas.List.{append-nil, length-append, length-map}
use Rattle.std.proofs.lemmas.List.Elements.{All-append, All-cons, All-nil}
use Rattle.std.proofs.lemmas.List.Sums.{count_by-le-length}
use Rattle.htss_defs.specs.declared.history.Hit.{Hit}
use Rattle.htss_defs.specs.declared.shape.Shape.{Shape}
use Rattle.report_text.specs.ReportText.{is_published, published_count}
use Rattle.report_text.specs.declared.report.Report.{Report}
use Rattle.report_text.specs.declared.report.Block.{Block}
use Rattle.report_text.specs.declared.report.Block.TheVariants.{Load as LoadBlock, Withdraw as WithdrawBlock, Search as SearchBlock}
use Rattle.report_text.specs.declared.report.LoadLine.{LoadLine}
use Rattle.report_text.specs.declared.report.LogLine.{LogLine}
use Rattle.report_text.specs.declared.report.LogLine.TheVariants.{Withdraw as Withdrawn}
use Rattle.report_text.specs.declared.report.SearchLine.TheVariants.{Hits, OverBudget as Over, Refused}
use Rattle.report_lines.specs.Lines.{IsLine}
use Rattle.report_text.specs.Values.{IsBlock, IsHitLine, IsInGrammar, IsLoadLine, IsLogLine}
use Rattle.report_lines.specs.declared.line.Line.{Line}
use Rattle.report_lines.specs.declared.line.Line.TheVariants.{Header, Load, Answer, Loaded, Withdraw, Search, NotRead, OneHit, HitsEnd, OverBudget, Log, Event, End}
use Rattle.report_read.specs.ReportLines.{answer_lines, block_lines, event_lines, hit_lines, report_lines}
use Rattle.report_read.specs.Stages.{Begun, Stage, Fresh, Between, Loading, Searching, Logging, Ended, begun_lines, lines_to, step, whole_report, with_block}
use Rattle.report_read.specs.Runs.{IsBegun, IsStage}
use Rattle.report_read.proofs.Running.{both, events_append, begun_more, passed, same_Some}

-- ---- all of a list

pub first_of : {X : Type 0} (P : X → Type 0) (x : X) (xs : List X) → All P (x ∷ xs) → P x
first_of P x xs all = all 0 x (omega arith)

pub others_of : {X : Type 0} (P : X → Type 0) (x : X) (xs : List X) → All P (x ∷ xs) → All P xs
others_of P x xs all = λ k d lt. all (suc k) d (omega arith)

one_of : {X : Type 0} (P : X → Type 0) (x : X) → P x → All P (x ∷ [])
one_of P x is = All-cons P x [] is (All-nil P)

pub one_more : {X : Type 0} (P : X → Type 0) (xs : List X) (x : X) → All P xs → P x → All P (xs ++ x ∷ [])
one_more P xs x all is = All-append P xs (x ∷ []) all (one_of P x is)

-- ---- the lines of a report

answers_good : (answers : List LoadLine) → All IsLoadLine answers → All IsLine (answer_lines answers)
answers_good [] all = All-nil IsLine
answers_good (answer ∷ answers) all = All-cons IsLine (Answer answer) (answer_lines answers) (first_of IsLoadLine answer answers all) (answers_good answers (others_of IsLoadLine answer answers all))

hits_good : (hits : List Hit) → All IsHitLine hits → All IsLine (hit_lines hits)
hits_good [] all = All-nil IsLine
hits_good (hit ∷ hits) all = All-cons IsLine (OneHit hit) (hit_lines hits) (first_of IsHitLine hit hits all) (hits_good hits (others_of IsHitLine hit hits all))

events_good : (events : List LogLine) (number : ℕ) → number + length events < 2 ^ 32 + 1 → All IsLogLine events → All IsLine (event_lines number events)
events_good [] number small all = All-nil IsLine
events_good (event ∷ events) number small all =
    All-cons IsLine (Event number event) (event_lines (number + 1) events) (omega arith, first_of IsLogLine event events all)
    (events_good events (number + 1) (omega arith) (others_of IsLogLine event events all))

block_good : (block : Block) → IsBlock block → All IsLine (block_lines block)
block_good (LoadBlock line file answers) is =
    let few : published_count answers < 2 ^ 32 = omega (arith, count_by-le-length is_published answers, is.3) in
    All-cons IsLine (Load line file) _ (is.0, is.1) (one_more IsLine (answer_lines answers) (Loaded (published_count answers)) (answers_good answers is.2) few)
block_good (WithdrawBlock line number answer) is = one_of IsLine (Withdraw line number answer) is
block_good (SearchBlock line file (Hits at hits rows records)) is =
    All-cons IsLine (Search line file at) _ (is.0, is.1, is.2.0) (one_more IsLine (hit_lines hits) (HitsEnd (length hits) rows records) (hits_good hits is.2.1) (is.2.2, is.2.3, is.2.4))
block_good (SearchBlock line file (Over at budget)) is = All-cons IsLine (Search line file at) (OverBudget budget ∷ []) (is.0, is.1, is.2.0) (one_of IsLine (OverBudget budget) is.2.1)
block_good (SearchBlock line file (Refused at code)) is = one_of IsLine (NotRead line file at code) (is.0, is.1, is.2)

blocks_good : (blocks : List Block) → All IsBlock blocks → All IsLine (flat_map block_lines blocks)
blocks_good [] all = All-nil IsLine
blocks_good (block ∷ blocks) all = All-append IsLine (block_lines block) (flat_map block_lines blocks) (block_good block (first_of IsBlock block blocks all)) (blocks_good blocks (others_of IsBlock block blocks all))

pub report_good : (report : Report) → IsInGrammar report → All IsLine (report_lines report)
report_good report is =
    All-cons IsLine (Header report.shape report.budget) _ (is.shape, is.budget)
    (All-append IsLine (flat_map block_lines report.blocks) _ (blocks_good report.blocks is.blocks)
    (All-cons IsLine (Log (length report.events)) _ is.count
    (one_more IsLine (event_lines 1 report.events) End (events_good report.events 1 (omega (arith, is.count)) is.events) tt)))

-- ---- a stage on the way to a report

abbrev missing : ℕ → List LogLine
missing zero = []
missing (suc n) = Withdrawn 1 0 ∷ missing n

length_missing : (n : ℕ) → length (missing n) ≡ n
length_missing zero = refl
length_missing (suc n) = ap suc (length_missing n)

missing_good : (n : ℕ) → All IsLogLine (missing n)
missing_good zero = All-nil IsLogLine
missing_good (suc n) = All-cons IsLogLine (Withdrawn 1 0) (missing n) (omega arith, omega arith) (missing_good n)

-- a report in the grammar that has these lines first
pub record Leads (lines : List Line) : Type 0 where
  pub report : Report
  pub grammar : IsInGrammar report
  pub left : List Line
  pub spelled : report_lines report ≡ lines ++ left

abbrev no_shape : Shape
no_shape = record { loaders = 0; searchers = 0; pages = 0; room = 0; log = 0; chain = 0 }

abbrev no_log : List Line
no_log = Log 0 ∷ End ∷ []

-- a report of these blocks, with no events
of_begun : (begun : Begun) → IsBegun begun → (lines left : List Line) → begun_lines begun ≡ lines ++ left → Leads lines
of_begun begun is lines left e = record {
  report = whole_report begun [];
  grammar = record { shape = is.shape; budget = is.budget; blocks = is.blocks; events = All-nil IsLogLine; count = omega arith };
  left = left ++ no_log;
  spelled = ap (λ (l : List Line). l ++ no_log) e ∙ append_assoc lines left no_log;
}

-- the same with a block that is ended
of_block : (begun : Begun) → IsBegun begun → (block : Block) → IsBlock block → (lines left : List Line) → block_lines block ≡ lines ++ left → Leads (begun_lines begun ++ lines)
of_block begun is block good lines left e =
    of_begun (record { shape = begun.shape; budget = begun.budget; blocks = begun.blocks ++ block ∷ [] })
    (record { shape = is.shape; budget = is.budget; blocks = one_more IsBlock begun.blocks block is.blocks good }) (begun_lines begun ++ lines) left
    (begun_more begun block ∙ ap (λ (l : List Line). begun_lines begun ++ l) e ∙ sym (append_assoc (begun_lines begun) lines left))

length_answers : (answers : List LoadLine) → length (answer_lines answers) ≡ length answers
length_answers answers = length-map answers (λ (a : LoadLine). Answer a)

length_hits : (hits : List Hit) → length (hit_lines hits) ≡ length hits
length_hits hits = length-map hits (λ (h : Hit). OneHit h)

lead_fresh : Leads []
lead_fresh = record {
  report = record { shape = no_shape; budget = 0; blocks = []; events = [] };
  grammar = record {
    shape = record { loaders = omega arith; searchers = omega arith; pages = omega arith; room = omega arith; log = omega arith; chain = omega arith };
    budget = omega arith;
    blocks = All-nil IsBlock;
    events = All-nil IsLogLine;
    count = omega arith;
  };
  left = Header no_shape 0 ∷ no_log;
  spelled = refl;
}

pub lead : (stage : Stage) → IsStage stage → length (lines_to stage) < 2 ^ 32 → Leads (lines_to stage)
lead Fresh is few = lead_fresh
lead (Between begun) is few = of_begun begun is (begun_lines begun) [] (sym (append-nil (begun_lines begun)))
lead (Loading begun line file answers) is few =
    let short : length answers < 2 ^ 32 = omega (arith, length-append (begun_lines begun) (Load line file ∷ answer_lines answers), length_answers answers) in
    of_block begun is.0 (LoadBlock line file answers) (is.1, is.2, is.3, short) (Load line file ∷ answer_lines answers) (Loaded (published_count answers) ∷ []) refl
lead (Searching begun line file at hits) is few =
    let short : length hits < 2 ^ 32 = omega (arith, length-append (begun_lines begun) (Search line file at ∷ hit_lines hits), length_hits hits) in
    of_block begun is.0 (SearchBlock line file (Hits at hits 0 0)) (is.1, is.2, (is.3, is.4, short, omega arith, omega arith)) (Search line file at ∷ hit_lines hits) (HitsEnd (length hits) 0 0 ∷ []) refl
lead (Logging begun count events) is few =
    let more : List LogLine = missing (count - length events) in
    let whole : length (events ++ more) ≡ count = length-append events more ∙ omega (arith, length_missing (count - length events), is.3) in
    record {
      report = whole_report begun (events ++ more);
      grammar = record {
        shape = is.0.shape;
        budget = is.0.budget;
        blocks = is.0.blocks;
        events = All-append IsLogLine events more is.2 (missing_good (count - length events));
        count = omega (arith, whole, is.1);
      };
      left = event_lines (1 + length events) more ++ End ∷ [];
      spelled =
          ap (λ (n : ℕ). begun_lines begun ++ Log n ∷ (event_lines 1 (events ++ more) ++ End ∷ [])) whole
          ∙ ap (λ (l : List Line). begun_lines begun ++ Log count ∷ (l ++ End ∷ [])) (events_append events more 1)
          ∙ ap (λ (l : List Line). begun_lines begun ++ Log count ∷ l) (append_assoc (event_lines 1 events) (event_lines (1 + length events) more) (End ∷ []))
          ∙ sym (append_assoc (begun_lines begun) (Log count ∷ event_lines 1 events) (event_lines (1 + length events) more ++ End ∷ []));
    }
lead (Ended report) is few = record { report = report; grammar = is; left = []; spelled = sym (append-nil (report_lines report)) }

-- ---- a stage after a step

kept : {before after : Stage} → IsStage before → Some before ≡ Some after → IsStage after
kept is e = subst IsStage (same_Some e) is

with_more : (begun : Begun) → IsBegun begun → (block : Block) → IsBlock block → IsStage (with_block begun block)
with_more begun is block good = record { shape = is.shape; budget = is.budget; blocks = one_more IsBlock begun.blocks block is.blocks good }

kept_fresh : (line : Line) (after : Stage) → IsStage Fresh → IsLine line → length (lines_to Fresh) < 2 ^ 32 → step Fresh line ≡ Some after → IsStage after
kept_fresh (Header shape budget) after is good few e =
    kept {before = Between (record { shape = shape; budget = budget; blocks = [] })} (record { shape = good.0; budget = good.1; blocks = All-nil IsBlock }) e
kept_fresh _ after is good few e = absurd cc

kept_between : (begun : Begun) (line : Line) (after : Stage) → IsStage (Between begun) → IsLine line → length (lines_to (Between begun)) < 2 ^ 32 → step (Between begun) line ≡ Some after → IsStage after
kept_between begun (Load line file) after is good few e = kept {before = Loading begun line file []} (is, good.0, good.1, All-nil IsLoadLine) e
kept_between begun (Withdraw line number answer) after is good few e = kept {before = with_block begun (WithdrawBlock line number answer)} (with_more begun is (WithdrawBlock line number answer) good) e
kept_between begun (Search line file at) after is good few e = kept {before = Searching begun line file at []} (is, good.0, good.1, good.2, All-nil IsHitLine) e
kept_between begun (NotRead line file at code) after is good few e = kept {before = with_block begun (SearchBlock line file (Refused at code))} (with_more begun is (SearchBlock line file (Refused at code)) (good.0, good.1, good.2)) e
kept_between begun (Log count) after is good few e = kept {before = Logging begun count []} (is, good, All-nil IsLogLine, omega arith) e
kept_between begun _ after is good few e = absurd cc

kept_loading : (begun : Begun) (at : ℕ) (file : List ℕ) (answers : List LoadLine) (line : Line) (after : Stage) → IsStage (Loading begun at file answers) → IsLine line
    → length (lines_to (Loading begun at file answers)) < 2 ^ 32 → step (Loading begun at file answers) line ≡ Some after → IsStage after
kept_loading begun at file answers (Answer answer) after is good few e =
    kept {before = Loading begun at file (answers ++ answer ∷ [])} (is.0, is.1, is.2, one_more IsLoadLine answers answer is.3 good) e
kept_loading begun at file answers (Loaded count) after is good few e =
    let short : length answers < 2 ^ 32 = omega (arith, length-append (begun_lines begun) (Load at file ∷ answer_lines answers), length_answers answers) in
    let found = passed (count == published_count answers) (with_block begun (LoadBlock at file answers)) after e in
    subst IsStage found.1 (with_more begun is.0 (LoadBlock at file answers) (is.1, is.2, is.3, short))
kept_loading begun at file answers _ after is good few e = absurd cc

kept_searching : (begun : Begun) (at : ℕ) (file : List ℕ) (mark : ℕ) (hits : List Hit) (line : Line) (after : Stage) → IsStage (Searching begun at file mark hits) → IsLine line
    → length (lines_to (Searching begun at file mark hits)) < 2 ^ 32 → step (Searching begun at file mark hits) line ≡ Some after → IsStage after
kept_searching begun at file mark hits (OneHit hit) after is good few e =
    kept {before = Searching begun at file mark (hits ++ hit ∷ [])} (is.0, is.1, is.2, is.3, one_more IsHitLine hits hit is.4 good) e
kept_searching begun at file mark hits (HitsEnd count rows records) after is good few e =
    let short : length hits < 2 ^ 32 = omega (arith, length-append (begun_lines begun) (Search at file mark ∷ hit_lines hits), length_hits hits) in
    let found = passed (count == length hits) (with_block begun (SearchBlock at file (Hits mark hits rows records))) after e in
    subst IsStage found.1 (with_more begun is.0 (SearchBlock at file (Hits mark hits rows records)) (is.1, is.2, (is.3, is.4, short, good.1, good.2)))
kept_searching begun at file mark hits (OverBudget budget) after is good few e =
    let found = passed (length hits == 0) (with_block begun (SearchBlock at file (Over mark budget))) after e in
    subst IsStage found.1 (with_more begun is.0 (SearchBlock at file (Over mark budget)) (is.1, is.2, (is.3, good)))
kept_searching begun at file mark hits _ after is good few e = absurd cc

kept_logging : (begun : Begun) (count : ℕ) (events : List LogLine) (line : Line) (after : Stage) → IsStage (Logging begun count events) → IsLine line
    → length (lines_to (Logging begun count events)) < 2 ^ 32 → step (Logging begun count events) line ≡ Some after → IsStage after
kept_logging begun count events (Event number event) after is good few e =
    let found = passed (nat_lt (length events) count && (number == length events + 1)) (Logging begun count (events ++ event ∷ [])) after e in
    let test : nat_lt (length events) count ≡ true = (both (nat_lt (length events) count) (number == length events + 1) found.0).0 in
    let less : length events < count = grind arith in
    subst IsStage found.1 (is.0, is.1, one_more IsLogLine events event is.2 good.1, omega (arith, length-append events (event ∷ []), less))
kept_logging begun count events End after is good few e =
    let found = passed (length events == count) (Ended (whole_report begun events)) after e in
    subst IsStage found.1 (record {
      shape = is.0.shape;
      budget = is.0.budget;
      blocks = is.0.blocks;
      events = is.2;
      count = omega (arith, is.1, is.3);
    })
kept_logging begun count events _ after is good few e = absurd cc

pub kept_step : (before : Stage) (line : Line) (after : Stage) → IsStage before → IsLine line → length (lines_to before) < 2 ^ 32 → step before line ≡ Some after → IsStage after
kept_step Fresh line after is good few e = kept_fresh line after is good few e
kept_step (Between begun) line after is good few e = kept_between begun line after is good few e
kept_step (Loading begun at file answers) line after is good few e = kept_loading begun at file answers line after is good few e
kept_step (Searching begun at file mark hits) line after is good few e = kept_searching begun at file mark hits line after is good few e
kept_step (Logging begun count events) line after is good few e = kept_logging begun count events line after is good few e
kept_step (Ended report) line after is good few e = absurd cc
