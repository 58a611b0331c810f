-- A stage after the lines that lead to it.
use Rattle.std.specs.Prelude.{◌≡◌, ℕ, ◌+◌, ◌≤◌, List, [], ◌∷◌, ◌++◌, length, Option, None, Some, All}
use Rattle.std.specs.List.{flat_map}
use Rattle.htss_defs.specs.FileName.{IsFileName}
use Rattle.report_lines.specs.Lines.{IsLine, line_text}
use Rattle.report_text.specs.Values.{AreShapeNumbers, IsBlock, IsHitLine, IsInGrammar, IsLoadLine, IsLogLine, IsU32}
use Rattle.report_text.specs.Values.{IsU64}
use Rattle.report_lines.specs.declared.line.Line.{Line}
use Rattle.report_read.specs.Stages.{Begun, Stage, Fresh, Between, Loading, Searching, Logging, Ended, lines_to, step}

abbrev pub then_step : Option Stage → Line → Option Stage
then_step None line = None
then_step (Some stage) line = step stage line

-- the stage after these lines
abbrev pub run : List Line → Option Stage → Option Stage
run [] stage = stage
run (line ∷ lines) stage = run lines (then_step stage line)

-- each value that was read is in its range
pub record IsBegun (begun : Begun) : Type 0 where
  pub shape : AreShapeNumbers begun.shape
  pub budget : IsU64 begun.budget
  pub blocks : All IsBlock begun.blocks

abbrev pub IsStage : Stage → Type 0
IsStage Fresh = Unit {0}
IsStage (Between begun) = IsBegun begun
IsStage (Loading begun line file answers) = IsBegun begun × IsU32 line × IsFileName file × All IsLoadLine answers
IsStage (Searching begun line file at hits) = IsBegun begun × IsU32 line × IsFileName file × IsU32 at
    × All IsHitLine hits
IsStage (Logging begun count events) = IsBegun begun × IsU32 count × All IsLogLine events × (length events ≤ count)
IsStage (Ended report) = IsInGrammar report

-- the bytes are the texts of the lines that lead to the stage, and the rest
pub record IsReadTo (bytes rest : List ℕ) (number : ℕ) (stage : Stage) : Type 0 where
  pub spelled : bytes ≡ flat_map line_text (lines_to stage) ++ rest
  pub counted : number ≡ length (lines_to stage) + 1
  pub good : All IsLine (lines_to stage)
  pub reached : run (lines_to stage) (Some Fresh) ≡ Some stage
  pub ranged : IsStage stage
