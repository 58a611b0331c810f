-- Where no report has a line there, that is the first fault.
use Rattle.std.proofs.Common.{◌≡◌, ◌≢◌, ℕ, zero, suc, ◌+◌, ◌-◌, ◌<◌, ◌≤◌, ◌^◌, Bool, true, false, not, List, [], ◌∷◌, ◌++◌, length, take, drop, refl, sym, ap, subst, ◌∙◌, append_assoc, arith, eq-eqb, get_or, drop-cons}
use Rattle.std.specs.Prelude.{Option, Some, None, Result, Ok, Err, IfErr, All, map, slice_get, ◌==◌, ◌&&◌}
use Rattle.std.proofs.lemmas.List.{append-nil, length-append, length-drop, length-map, map-append, take-append-drop, take-map}
use Rattle.std.proofs.lemmas.Bool.{eqb-true}
use Rattle.std.proofs.lemmas.List.Elements.{All-cons, All-nil}
use Rattle.memchr.specs.Find.{IsFirstByte, Passes, is_byte}
use Rattle.std.proofs.lemmas.List.Folds.{list_all-append}
use Rattle.std.proofs.Math.Seq.{take-append_seam, take-length}
use Rattle.report_text.specs.ReportText.{report_text}
use Rattle.report_text.specs.declared.report.Report.{Report}
use Rattle.report_lines.specs.Lines.{IsLine, line_text}
use Rattle.report_text.specs.Values.{IsInGrammar}
use Rattle.report_lines.specs.declared.line.Line.{Line}
use Rattle.report_lines.proofs.Unique.{one_line}
use Rattle.report_read.specs.declared.reader.ReportRefusal.{ReportRefusal}
use Rattle.report_read.specs.Faults.{BeginsAlike, IsFirstFault, cut_lines, lines_of}
use Rattle.report_read.specs.ReportLines.{report_lines}
use Rattle.report_read.specs.Runs.{IsReadTo, run}
use Rattle.report_read.specs.Stages.{Stage, Fresh, Ended, lines_to, step}
use Rattle.report_read.specs.Taken.{IsStep, Stops, Took}
use Rattle.report_read.proofs.Cuts.{cut_last, cut_one, cut_report, cut_texts}
use Rattle.report_read.proofs.LineEnds.{far_byte, line_ends, no_lf}
use Rattle.report_read.proofs.Ranges.{Leads, first_of, kept_step, lead, one_more, others_of, report_good}
use Rattle.report_read.proofs.Running.{run-append, run-none, run_report, step_lines}
use Rattle.report_read.proofs.Spelled.{texts, texts_end, texts_report}

-- no line of a report leads on from the stage by what is left, and no report ends there
pub record Halts (stage : Stage) (rest : List ℕ) : Type 0 where
  pub short : slice_get (cut_lines rest) 0 ≡ None → (report : Report) → stage ≢ Ended report
  pub stops : (line : Line) → IsLine line → slice_get (cut_lines rest) 0 ≡ Some (line_text line) → step stage line ≡ None

seam : (a b : List (List ℕ)) → slice_get (a ++ b) (length a) ≡ slice_get b 0
seam [] b = refl
seam (x ∷ a) b = seam a b

all_take : (n : ℕ) (lines : List Line) → All IsLine lines → All IsLine (take n lines)
all_take zero lines all = λ k d lt. absurd (omega arith)
all_take (suc n) [] all = all
all_take (suc n) (line ∷ lines) all = All-cons IsLine line (take n lines) (first_of IsLine line lines all) (all_take n lines (others_of IsLine line lines all))

middle : (before : List Line) (line : Line) (after : List Line) → All IsLine (before ++ line ∷ after) → IsLine line
middle [] line after all = first_of IsLine line after all
middle (x ∷ before) line after all = middle before line after (others_of IsLine x (before ++ line ∷ after) all)

pub unspelled : (xs ys : List Line) → All IsLine xs → All IsLine ys → map line_text xs ≡ map line_text ys → xs ≡ ys
unspelled [] [] p q e = refl
unspelled [] (y ∷ ys) p q e = absurd cc
unspelled (x ∷ xs) [] p q e = absurd cc
unspelled (x ∷ xs) (y ∷ ys) p q e =
    let here : line_text x ≡ line_text y = cc in
    let more : map line_text xs ≡ map line_text ys = cc in
    let first = one_line x y (first_of IsLine x xs p) (first_of IsLine y ys q) here in
    let others = unspelled xs ys (others_of IsLine x xs p) (others_of IsLine y ys q) more in
    cc

module _ (bytes rest : List ℕ) (number : ℕ) (stage : Stage) (read : IsReadTo bytes rest number stage) (few : length (cut_lines bytes) < 2 ^ 32) where
  abbrev so_far : List Line
  so_far = lines_to stage

  abbrev so_far_texts : List (List ℕ)
  so_far_texts = map line_text so_far

  cut : cut_lines bytes ≡ so_far_texts ++ cut_lines rest
  cut = ap cut_lines read.spelled ∙ cut_texts so_far rest read.good

  pub few_lines : length so_far + length (cut_lines rest) ≡ length (cut_lines bytes)
  few_lines = sym (ap length cut ∙ length-append so_far_texts (cut_lines rest) ∙ ap (λ (n : ℕ). n + length (cut_lines rest)) (length-map so_far line_text))

  place : number - 1 ≡ length so_far_texts
  place = omega (arith, read.counted, length-map so_far line_text)

  taken : take (number - 1) (cut_lines bytes) ≡ so_far_texts
  taken = ap (λ (n : ℕ). take n (cut_lines bytes)) place ∙ ap (take (length so_far_texts)) cut ∙ take-append_seam so_far_texts (cut_lines rest)

  next : slice_get (cut_lines bytes) (number - 1) ≡ slice_get (cut_lines rest) 0
  next = ap (λ (n : ℕ). slice_get (cut_lines bytes) n) place ∙ ap (λ (l : List (List ℕ)). slice_get l (length so_far_texts)) cut ∙ seam so_far_texts (cut_lines rest)

  led : Leads so_far
  led = lead stage read.ranged (omega (arith, few_lines, few))

  begins : take (number - 1) (lines_of led.report) ≡ so_far_texts
  begins =
      ap (λ (n : ℕ). take n (lines_of led.report)) place
      ∙ ap (take (length so_far_texts)) (cut_report led.report led.grammar ∙ ap (map line_text) led.spelled ∙ map-append line_text so_far led.left)
      ∙ take-append_seam so_far_texts (map line_text led.left)

  -- a report with the same lines has them first
  same_lines : (report : Report) → BeginsAlike (cut_lines bytes) number report → report_lines report ≡ so_far ++ drop (length so_far) (report_lines report)
  same_lines report alike =
      let k : number - 1 ≡ length so_far = omega (arith, read.counted) in
      let spelled : map line_text (take (length so_far) (report_lines report)) ≡ so_far_texts =
      sym (take-map line_text (length so_far) (report_lines report))
      ∙ ap (take (length so_far)) (sym (cut_report report alike.0))
      ∙ ap (λ (n : ℕ). take n (lines_of report)) (sym k)
      ∙ alike.1 ∙ taken in
      let e = unspelled (take (length so_far) (report_lines report)) so_far (all_take (length so_far) (report_lines report) (report_good report alike.0)) read.good spelled in
      sym (take-append-drop (length so_far) (report_lines report)) ∙ ap (λ (l : List Line). l ++ drop (length so_far) (report_lines report)) e

  module _ (halts : Halts stage rest) where
    go : (report : Report) → IsInGrammar report → (left : List Line) → report_lines report ≡ so_far ++ left
        → slice_get (lines_of report) (number - 1) ≡ slice_get (cut_lines bytes) (number - 1) → ⊥
    go report is [] e here =
        let spelled : lines_of report ≡ so_far_texts ++ [] = cut_report report is ∙ ap (map line_text) e ∙ map-append line_text so_far [] in
        let none : slice_get (lines_of report) (number - 1) ≡ None =
        ap (λ (n : ℕ). slice_get (lines_of report) n) place ∙ ap (λ (l : List (List ℕ)). slice_get l (length so_far_texts)) spelled ∙ seam so_far_texts [] in
        let ran : Some stage ≡ Some (Ended report) =
        sym read.reached ∙ ap (λ (l : List Line). run l (Some Fresh)) (sym (append-nil so_far)) ∙ ap (λ (l : List Line). run l (Some Fresh)) (sym e) ∙ run_report report in
        let end : stage ≡ Ended report = cc in
        halts.short (sym next ∙ sym here ∙ none) report end
    go report is (line ∷ left) e here =
        let spelled : lines_of report ≡ so_far_texts ++ line_text line ∷ map line_text left = cut_report report is ∙ ap (map line_text) e ∙ map-append line_text so_far (line ∷ left) in
        let found : slice_get (lines_of report) (number - 1) ≡ Some (line_text line) =
        ap (λ (n : ℕ). slice_get (lines_of report) n) place ∙ ap (λ (l : List (List ℕ)). slice_get l (length so_far_texts)) spelled ∙ seam so_far_texts (line_text line ∷ map line_text left) in
        let good : All IsLine (so_far ++ line ∷ left) = subst (All IsLine) e (report_good report is) in
        let stop = halts.stops line (middle so_far line left good) (sym next ∙ sym here ∙ found) in
        let ran : run left (step stage line) ≡ Some (Ended report) =
        ap (λ (s : Option Stage). run (line ∷ left) s) (sym read.reached) ∙ sym (run-append so_far (line ∷ left) (Some Fresh)) ∙ ap (λ (l : List Line). run l (Some Fresh)) (sym e) ∙ run_report report in
        let none : run left (step stage line) ≡ None = ap (run left) stop ∙ run-none left in
        cc

    pub first_fault : IsFirstFault (cut_lines bytes) number
    first_fault = record {
      within = (omega (arith, read.counted), omega (arith, read.counted, few_lines));
      begun = led.report;
      before = (led.grammar, begins ∙ sym taken);
      here = λ report alike here. go report alike.0 (drop (length so_far) (report_lines report)) (same_lines report alike) here;
    }

-- ---- the bytes of a line

carried : (a b : List ℕ) → no_lf (a ++ b) ≡ (no_lf a && no_lf b)
carried a b = list_all-append (λ byte. not (byte == 10)) a b

and_false : (a : Bool) → (a && false) ≡ false
and_false true = refl
and_false false = refl

-- the line of these bytes leads no further
pub halts_at : (stage : Stage) (rest text after : List ℕ) → rest ≡ text ++ 10 ∷ after → no_lf text ≡ true → Stops stage text → Halts stage rest
halts_at stage rest text after e clear stop =
    let first : slice_get (cut_lines rest) 0 ≡ Some (text ++ 10 ∷ []) = ap (λ (r : List ℕ). slice_get (cut_lines r) 0) e ∙ ap (λ (l : List (List ℕ)). slice_get l 0) (cut_one text after clear) in
    record {
      short = λ none report same. absurd cc;
      stops = λ line good found. stop line good (let here = sym found ∙ first in cc);
    }

-- no LF is left
pub halts_end : (stage : Stage) (rest : List ℕ) → no_lf rest ≡ true → (rest ≡ [] → (report : Report) → stage ≢ Ended report) → Halts stage rest
halts_end stage [] clear open_end = record { short = λ none report. open_end refl report; stops = λ line good found. absurd cc }
halts_end stage (b ∷ bs) clear open_end =
    let first : slice_get (cut_lines (b ∷ bs)) 0 ≡ Some (b ∷ bs) = ap (λ (l : List (List ℕ)). slice_get l 0) (cut_last b bs clear) in
    record {
      short = λ none report same. absurd cc;
      stops = λ line good found.
          let text : line_text line ≡ b ∷ bs = (let here = sym found ∙ first in cc) in
          let one = line_ends line good in
          let lf : no_lf (b ∷ bs) ≡ false = ap no_lf (sym text ∙ one.spelled) ∙ carried one.front (10 ∷ []) ∙ and_false (no_lf one.front) in
          absurd cc;
    }

-- ---- a line more

pub started : (bytes : List ℕ) → IsReadTo bytes bytes 1 Fresh
started bytes = record { spelled = refl; counted = omega arith; good = All-nil IsLine; reached = refl; ranged = tt }

pub read_on : (bytes text rest : List ℕ) (number : ℕ) (stage after : Stage) → IsReadTo bytes (text ++ 10 ∷ rest) number stage → length (cut_lines bytes) < 2 ^ 32 → IsStep stage text after
    → IsReadTo bytes rest (number + 1) after
read_on bytes text rest number stage after read few one =
    let lines : lines_to after ≡ lines_to stage ++ one.line ∷ [] = step_lines stage one.line after one.leads in
    let spelled : texts (lines_to after) ≡ texts (lines_to stage) ++ (text ++ 10 ∷ []) =
    ap texts lines ∙ texts_end (lines_to stage) one.line ∙ ap (λ (t : List ℕ). texts (lines_to stage) ++ t) one.spelled in
    let count = few_lines bytes (text ++ 10 ∷ rest) number stage read few in
    record {
      spelled =
          read.spelled
          ∙ ap (λ (t : List ℕ). texts (lines_to stage) ++ t) (sym (append_assoc text (10 ∷ []) rest))
          ∙ sym (append_assoc (texts (lines_to stage)) (text ++ 10 ∷ []) rest)
          ∙ ap (λ (t : List ℕ). t ++ rest) (sym spelled);
      counted = omega (arith, read.counted, ap length lines, length-append (lines_to stage) (one.line ∷ []));
      good = subst (All IsLine) (sym lines) (one_more IsLine (lines_to stage) one.line read.good one.good);
      reached =
          ap (λ (l : List Line). run l (Some Fresh)) lines
          ∙ run-append (lines_to stage) (one.line ∷ []) (Some Fresh)
          ∙ ap (run (one.line ∷ [])) read.reached
          ∙ one.leads;
      ranged = kept_step stage one.line after read.ranged one.good (omega (arith, count, few)) one.leads;
    }

-- the whole text is read
pub read_whole : (bytes : List ℕ) (number : ℕ) (report : Report) → IsReadTo bytes [] number (Ended report) → IsInGrammar report × (report_text report ≡ bytes)
read_whole bytes number report read = (read.ranged, sym (texts_report report) ∙ sym (append-nil (texts (report_lines report))) ∙ sym read.spelled)

-- ---- what a line does

pub took : (stage : Stage) (text : List ℕ) (line : Line) → IsLine line → line_text line ≡ text ++ 10 ∷ [] → (next : Option Stage) → next ≡ step stage line → Took stage text next
took stage text line good spelled None e = λ l fine same. ap (step stage) (one_line l line fine good (same ∙ sym spelled)) ∙ sym e
took stage text line good spelled (Some after) e = record { line = line; good = good; spelled = spelled; leads = sym e }

-- ---- the first LF

clear_before : (bytes : List ℕ) (k : ℕ) → k ≤ length bytes → ((m : ℕ) → m < k → Passes (is_byte 10) bytes m → ⊥) → no_lf (take k bytes) ≡ true
clear_before bytes zero within none = refl
clear_before [] (suc k) within none = refl
clear_before (b ∷ bytes) (suc k) within none =
    let here : b ≢ 10 = (λ e. none 0 (omega arith) (eq-eqb b 10 e)) in
    rw (far_byte b here) (clear_before bytes k (omega arith) (λ m lt. none (suc m) (omega arith)))

pub found : (rest : List ℕ) (k : ℕ) → IsFirstByte (is_byte 10) rest (Some k) → (rest ≡ take k rest ++ 10 ∷ drop (k + 1) rest) × (no_lf (take k rest) ≡ true) × (k < length rest)
found rest k is =
    let lt : k < length rest = is.0.high in
    let byte : get_or rest k 0 ≡ 10 = eqb-true (get_or rest k 0) 10 is.1 in
    let next : suc k ≡ k + 1 = omega arith in
    let after : drop k rest ≡ 10 ∷ drop (k + 1) rest = drop-cons rest k 0 lt ∙ ap (λ (b : ℕ). b ∷ drop (suc k) rest) byte ∙ ap (λ (n : ℕ). 10 ∷ drop n rest) next in (
      sym (take-append-drop k rest) ∙ ap (λ (t : List ℕ). take k rest ++ t) after,
      clear_before rest k (omega arith) (λ m low. is.0.before m (omega arith) low),
      lt,
    )

pub absent : (rest : List ℕ) → IsFirstByte (is_byte 10) rest None → no_lf rest ≡ true
absent rest is = ap no_lf (sym (take-length rest)) ∙ clear_before rest (length rest) (omega arith) (λ m low. is m (omega arith) low)

-- ---- what the reader answers

-- the line of which this is the place of its LF leads no further
pub refused_at : (bytes rest : List ℕ) (number : ℕ) (stage : Stage) → IsReadTo bytes rest number stage → length (cut_lines bytes) < 2 ^ 32
    → (k : ℕ) → IsFirstByte (is_byte 10) rest (Some k) → Stops stage (take k rest) → IsFirstFault (cut_lines bytes) number
refused_at bytes rest number stage read few k is stop =
    let line = found rest k is in
    first_fault bytes rest number stage read few (halts_at stage rest (take k rest) (drop (k + 1) rest) line.0 line.1 stop)

-- a line more, by the place of its LF
pub read_past : (bytes rest : List ℕ) (number : ℕ) (stage after : Stage) → IsReadTo bytes rest number stage → length (cut_lines bytes) < 2 ^ 32
    → (k : ℕ) → IsFirstByte (is_byte 10) rest (Some k) → IsStep stage (take k rest) after → IsReadTo bytes (drop (k + 1) rest) (number + 1) after
read_past bytes rest number stage after read few k is one =
    let line = found rest k is in
    read_on bytes (take k rest) (drop (k + 1) rest) number stage after (subst (λ (r : List ℕ). IsReadTo bytes r number stage) line.0 read) few one

pub tail : (k : ℕ) (rest : List ℕ) → take (length rest - k) (drop k rest) ≡ drop k rest
tail k rest = ap (λ (n : ℕ). take n (drop k rest)) (sym (length-drop k rest)) ∙ take-length (drop k rest)

pub answer_whole : (bytes rest : List ℕ) (number : ℕ) (stage : Stage) → IsReadTo bytes rest number stage → (report : Report) → stage ≡ Ended report → rest ≡ []
    → IsInGrammar report × (report_text report ≡ bytes)
answer_whole bytes rest number stage read report end none =
    read_whole bytes number report (subst (λ (s : Stage). IsReadTo bytes [] number s) end (subst (λ (r : List ℕ). IsReadTo bytes r number stage) none read))

pub answer_refused : (bytes rest : List ℕ) (number : ℕ) (stage : Stage) → IsReadTo bytes rest number stage → length (cut_lines bytes) < 2 ^ 32 → IsFirstByte (is_byte 10) rest None
    → (r : Result Report ReportRefusal) → IfErr r (λ refusal. refusal.line ≡ number) → IfErr r (λ _. rest ≡ [] → (report : Report) → stage ≢ Ended report)
    → IfErr r (λ refusal. IsFirstFault (cut_lines bytes) refusal.line)
answer_refused bytes rest number stage read few none (Ok report) at short = tt
answer_refused bytes rest number stage read few none (Err refusal) at short =
    subst (IsFirstFault (cut_lines bytes)) (sym at) (first_fault bytes rest number stage read few (halts_end stage rest (absent rest none) short))
