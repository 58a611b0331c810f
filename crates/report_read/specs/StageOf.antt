-- The stage that a state of the reader stands for.
use Rattle.std.specs.Prelude.{Option, None, Some}
use Rattle.report_read.specs.declared.state.Begun.{Begun as Held}
use Rattle.report_read.specs.declared.state.State.{State}
use Rattle.report_read.specs.declared.state.State.TheVariants.{Fresh as NoLine, Between as AtBlock, Loading as AtAnswer}
use Rattle.report_read.specs.declared.state.State.TheVariants.{Searching as AtHit, Logging as AtEvent, Ended as AtEnd}
use Rattle.report_read.specs.Stages.{Begun, Stage, Fresh, Between, Loading, Searching, Logging, Ended}

abbrev pub begun_of : Held → Begun
begun_of begun = record { shape = begun.shape; budget = begun.budget; blocks = begun.blocks.items }

abbrev pub stage_of : State → Stage
stage_of NoLine = Fresh
stage_of (AtBlock begun) = Between (begun_of begun)
stage_of (AtAnswer begun line file answers) = Loading (begun_of begun) line file answers.items
stage_of (AtHit begun line file at hits) = Searching (begun_of begun) line file at hits.items
stage_of (AtEvent begun count events) = Logging (begun_of begun) count events.items
stage_of (AtEnd report) = Ended report

abbrev pub maybe_stage : Option State → Option Stage
maybe_stage None = None
maybe_stage (Some state) = Some (stage_of state)
