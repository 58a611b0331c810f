-- Bytes are cut into lines.
use Rattle.std.proofs.Common.{◌≡◌, ◌⊎◌, ℕ, ◌+◌, ◌≤◌, true, false, List, [], ◌∷◌, ◌++◌, length, refl, sym, ap, ◌∙◌, inl, inr, append_assoc, arith}
use Rattle.std.specs.Prelude.{map, ◌==◌, All}
use Rattle.std.proofs.lemmas.Bool.{cases_Bool, cond-true, cond-false}
use Rattle.std.proofs.lemmas.List.{append-nil}
use Rattle.report_text.specs.declared.report.Report.{Report}
use Rattle.report_lines.specs.Lines.{IsLine, line_text}
use Rattle.report_text.specs.Values.{IsInGrammar}
use Rattle.report_lines.specs.declared.line.Line.{Line}
use Rattle.report_read.specs.Faults.{cut_lines, lines_of, with_byte}
use Rattle.report_read.specs.ReportLines.{report_lines}
use Rattle.report_read.proofs.LineEnds.{IsOneLine, line_ends, no_lf}
use Rattle.report_read.proofs.Ranges.{first_of, others_of, report_good}
use Rattle.report_read.proofs.Spelled.{texts, texts_report}

-- the first byte is no LF, nor is one of the others
apart : (b : ℕ) (bs : List ℕ) → no_lf (b ∷ bs) ≡ true → ((b == 10) ≡ false) × (no_lf bs ≡ true)
apart b bs is = (grind arith, grind arith)

pub cut_one : (front rest : List ℕ) → no_lf front ≡ true → cut_lines (front ++ 10 ∷ rest) ≡ (front ++ 10 ∷ []) ∷ cut_lines rest
cut_one [] rest is = refl
cut_one (b ∷ bs) rest is =
    let found = apart b bs is in
    cond-false (b == 10) ((10 ∷ []) ∷ cut_lines (bs ++ 10 ∷ rest)) (with_byte b (cut_lines (bs ++ 10 ∷ rest))) found.0
    ∙ ap (with_byte b) (cut_one bs rest found.1)

-- a last line without an LF
pub cut_last : (b : ℕ) (bs : List ℕ) → no_lf (b ∷ bs) ≡ true → cut_lines (b ∷ bs) ≡ (b ∷ bs) ∷ []
cut_last b [] is = cond-false (b == 10) ((10 ∷ []) ∷ []) ((b ∷ []) ∷ []) (apart b [] is).0
cut_last b (c ∷ bs) is =
    let found = apart b (c ∷ bs) is in
    cond-false (b == 10) ((10 ∷ []) ∷ cut_lines (c ∷ bs)) (with_byte b (cut_lines (c ∷ bs))) found.0
    ∙ ap (with_byte b) (cut_last c bs found.1)

cut_text : (text rest : List ℕ) → IsOneLine text → cut_lines (text ++ rest) ≡ text ∷ cut_lines rest
cut_text text rest is =
    ap (λ (t : List ℕ). cut_lines (t ++ rest)) is.spelled
    ∙ ap cut_lines (append_assoc is.front (10 ∷ []) rest)
    ∙ cut_one is.front rest is.clear.none
    ∙ ap (λ (t : List ℕ). t ∷ cut_lines rest) (sym is.spelled)

pub cut_texts : (lines : List Line) (rest : List ℕ) → All IsLine lines → cut_lines (texts lines ++ rest) ≡ map line_text lines ++ cut_lines rest
cut_texts [] rest all = refl
cut_texts (line ∷ lines) rest all =
    ap cut_lines (append_assoc (line_text line) (texts lines) rest)
    ∙ cut_text (line_text line) (texts lines ++ rest) (line_ends line (first_of IsLine line lines all))
    ∙ ap (λ (l : List (List ℕ)). line_text line ∷ l) (cut_texts lines rest (others_of IsLine line lines all))

-- the lines of a report are the texts of its lines
pub cut_report : (report : Report) → IsInGrammar report → lines_of report ≡ map line_text (report_lines report)
cut_report report is =
    ap cut_lines (sym (texts_report report) ∙ sym (append-nil (texts (report_lines report))))
    ∙ cut_texts (report_lines report) [] (report_good report is)
    ∙ append-nil (map line_text (report_lines report))

length_with : (b : ℕ) (lines : List (List ℕ)) → length (with_byte b lines) ≤ length lines + 1
length_with b [] = omega arith
length_with b (line ∷ lines) = omega arith

-- there are no more lines than bytes
pub few_cut : (bytes : List ℕ) → length (cut_lines bytes) ≤ length bytes
few_cut [] = omega arith
few_cut (b ∷ bytes) = go (few_cut bytes) (cases_Bool (b == 10))
  where
    go : length (cut_lines bytes) ≤ length bytes → ((b == 10) ≡ true) ⊎ ((b == 10) ≡ false) → length (cut_lines (b ∷ bytes)) ≤ length (b ∷ bytes)
    go few (inl lf) = omega (arith, ap length (cond-true (b == 10) ((10 ∷ []) ∷ cut_lines bytes) (with_byte b (cut_lines bytes)) lf))
    go few (inr other) = omega (arith, ap length (cond-false (b == 10) ((10 ∷ []) ∷ cut_lines bytes) (with_byte b (cut_lines bytes)) other), length_with b (cut_lines bytes))
