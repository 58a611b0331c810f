-- A line that is checked, after those before it.
use Rattle.std.specs.Prelude.{◌≡◌, ℕ, List, length}
use Rattle.report_text.specs.declared.report.LoadLine.{LoadLine}
use Rattle.report_text.specs.declared.report.LoadLine.TheVariants.{Published, Refused, DataFull, NoPage, ChainFull}
use Rattle.report_text.specs.declared.report.LoadLine.TheVariants.{LogFull}
use Rattle.report_rules.specs.Answers.{Fate, published, no_room, no_page, chain_full, log_full, RecordAnswer}
use Rattle.report_rules.specs.Answers.{not_accepted, taken}
use Rattle.report_rules.specs.Dealing.{Dealt}
use Rattle.report_rules.specs.Faults.{Setting}
use Rattle.report_rules.specs.Rules.{Line}
use Rattle.told_history.specs.declared.records.RecordRead.{RecordRead}
use Rattle.told_history.specs.declared.records.RecordRead.TheVariants as read
use Rattle.report_audit.specs.declared.so_far.SoFar.{SoFar}
use Rattle.report_audit.specs.declared.tally.Caller.{Caller}
use Rattle.told_history.specs.declared.told.Told.{Told}
use Rattle.report_audit.specs.Callers.{caller_of}
use Rattle.report_audit.specs.SoFars.{IsSoFar}
use Rattle.told_history.specs.Telling.{Tells}

-- what this job's next line is checked by: the told history, and what the lines before it carry
pub record IsNextOf (told : Told) (so_far : SoFar) (caller : Caller) (s : Setting) (earlier : List Line)
    (one : Dealt) : Type 0 where
  pub events_are : s.events ≡ told.lines.now
  pub tells : Tells told s.history
  pub lines : IsSoFar earlier so_far
  pub long : length so_far.taken.items ≡ length told.lines.now
  pub caller_is : one.caller ≡ caller_of caller
  pub group_is : one.group ≡ so_far.tally.group

-- what a line of a load says of an accepted record
abbrev pub fate_of : LoadLine → Fate
fate_of (Published number name) = published number
fate_of (Refused place line code) = no_page
fate_of (DataFull place left need) = no_room left need
fate_of (NoPage place) = no_page
fate_of (ChainFull place pages) = chain_full pages
fate_of (LogFull place front) = log_full front

-- the only answer to this record that can print this line
abbrev pub answer_to : RecordRead → LoadLine → RecordAnswer
answer_to (read.Accepted name mol) line = taken (record { name = name; mol = mol }) (fate_of line)
answer_to (read.Refused at code) line = not_accepted at code
