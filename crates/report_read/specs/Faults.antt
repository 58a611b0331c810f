-- Where bytes leave off to be a report (this project's own).
use Rattle.std.specs.Prelude.{◌≡◌, ℕ, ◌+◌, ◌-◌, ◌≤◌, List, [], ◌∷◌, length, take, slice_get, ◌==◌, if◌then◌else◌}
use Rattle.report_text.specs.declared.report.Report.{Report}
use Rattle.report_text.specs.ReportText.{report_text}
use Rattle.report_text.specs.Values.{IsInGrammar}

-- the first line begins with this byte
abbrev pub with_byte : ℕ → List (List ℕ) → List (List ℕ)
with_byte byte [] = (byte ∷ []) ∷ []
with_byte byte (line ∷ lines) = (byte ∷ line) ∷ lines

-- the lines of the bytes, each with its LF, but for a last one that has none
abbrev pub cut_lines : List ℕ → List (List ℕ)
cut_lines [] = []
cut_lines (byte ∷ bytes) = if byte == 10 then (10 ∷ []) ∷ cut_lines bytes else with_byte byte (cut_lines bytes)

abbrev pub lines_of : Report → List (List ℕ)
lines_of report = cut_lines (report_text report)

-- the report has the lines before this one, counted from 1
abbrev pub BeginsAlike : List (List ℕ) → ℕ → Report → Type 0
BeginsAlike lines number report = IsInGrammar report × (take (number - 1) (lines_of report) ≡ take (number - 1) lines)

-- the first line that no report has there that has the lines before it; one more than there are where the bytes end too
-- early
pub record IsFirstFault (lines : List (List ℕ)) (number : ℕ) : Type 0 where
  pub within : (1 ≤ number) × (number ≤ length lines + 1)
  pub begun : Report
  pub before : BeginsAlike lines number begun
  pub here : (report : Report) → BeginsAlike lines number report → slice_get (lines_of report) (number - 1)
      ≡ slice_get lines (number - 1) → ⊥
