-- The entries that the lines of one caller print (this project's own).
use Rattle.std.specs.Prelude.{List, filter}
use Rattle.std.specs.List.{flat_map}
use Rattle.report_rules.specs.Dealing.{Caller}
use Rattle.report_rules.specs.Rules.{Line, is_same}
use Rattle.board_core.specs.declared.entry.Entry.{Entry}
use Rattle.board_jobs.specs.Telling.{tells}

abbrev pub lines_by : Caller → List Line → List Line
lines_by caller lines = filter (λ line. is_same line.caller caller) lines

abbrev pub printed : List Line → List Entry
printed lines = flat_map (λ line. tells line.caller line.answer) lines
