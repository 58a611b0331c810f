-- How a command ends, by how a part of it does.
use Rattle.std.proofs.Common.{ℕ, ◌≤◌, List, refl, arith}
use Rattle.std.specs.Prelude.{Some}
use Rattle.command_words.specs.Tasks.{Task}
use Rattle.command_ends.specs.Outcomes.{Why, stopped}
use Rattle.command_ends.specs.Ends.{EndsAs, IsWritten, MayStop, ShelfGoesOn, ShelfSeen, SinkSeen}
use Rattle.command_ends.specs.Stops.{EndsUnread}

-- a task that reads no file leaves the shelf as it was
pub EndsAs-unread : (task : Task) (shelf : ShelfSeen) (out out_now : SinkSeen) (status : ℕ) → EndsUnread task out out_now status → out.faults ≤ out_now.faults → EndsAs (Some task) shelf shelf out out_now status
EndsAs-unread task shelf out out_now status ends later = record {
  outcome = ends.outcome;
  may = ends.may shelf shelf;
  written = ends.written;
  shelf_goes_on = record { told = refl; absent = omega arith; faults = omega arith };
  faults = later;
}

-- a task that stops after this front
pub EndsAs-stopped : (task : Task) (shelf shelf_now : ShelfSeen) (out out_now : SinkSeen) (status : ℕ) (front : List ℕ) (why : Why) → MayStop task shelf shelf_now front why → IsWritten out out_now (stopped front why) status → ShelfGoesOn shelf shelf_now → out.faults ≤ out_now.faults → EndsAs (Some task) shelf shelf_now out out_now status
EndsAs-stopped task shelf shelf_now out out_now status front why may written on later =
    record { outcome = stopped front why; may = may; written = written; shelf_goes_on = on; faults = later }
