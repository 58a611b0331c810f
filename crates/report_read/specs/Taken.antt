-- What a line does to a stage.
use Rattle.std.specs.Prelude.{◌≡◌, ℕ, List, [], ◌∷◌, ◌++◌, Option, None, Some}
use Rattle.report_lines.specs.Lines.{IsLine, line_text}
use Rattle.report_lines.specs.declared.line.Line.{Line}
use Rattle.report_read.specs.Stages.{Stage, step}

-- the text is that of a line, which leads from the one stage to the other
pub record IsStep (before : Stage) (text : List ℕ) (after : Stage) : Type 0 where
  pub line : Line
  pub good : IsLine line
  pub spelled : line_text line ≡ text ++ 10 ∷ []
  pub leads : step before line ≡ Some after

-- no line with this text leads on from the stage
abbrev pub Stops : Stage → List ℕ → Type 0
Stops before text = (line : Line) → IsLine line → line_text line ≡ text ++ 10 ∷ [] → step before line ≡ None

abbrev pub Took : Stage → List ℕ → Option Stage → Type 0
Took before text None = Stops before text
Took before text (Some after) = IsStep before text after
