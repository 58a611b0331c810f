-- What a run that ended well has done on its board (this project's own).
use Rattle.std.specs.Prelude.{◌≡◌, ◌≢◌, ℕ, ◌+◌, ◌≤◌, List, length, map, Option, None, Some}
use Rattle.std.specs.List.{flat_map}
use Rattle.std.specs.Io.KnownBytes.{append_known}
use mathlib.Core.Option.{some}
use lib.ListN.{get_elem?}
use Rattle.htss_defs.specs.declared.shape.Shape.{Shape}
use Rattle.report_rules.specs.Reports.{Done, done_lines, log_line}
use Rattle.board_core.specs.declared.account.Account.{Account}
use Rattle.board_core.specs.Accounts.{caller_after}
use Rattle.board.specs.Closed.{Closing, IsSettled}
use Rattle.board_jobs.specs.Ends.{caller_at}
use Rattle.board_jobs.specs.Rooms.{HaveHadRoom}
use Rattle.board_jobs.specs.Enough.{ArePagesEnough, AreChainsEnough}
use Rattle.board_jobs.specs.Printed.{lines_by, printed}
use Rattle.board_jobs.specs.Pruning.{HasPruned}
use Rattle.board_jobs.specs.Telling.{entries_in}
use Rattle.outside.specs.Files.{File}
use Rattle.command_words.specs.Tasks.{Task, run_of}
use Rattle.command_ends.specs.RunText.{IsRunText}
use Rattle.command_ends.specs.Ends.{ShelfSeen, SinkSeen}

-- the account at this place is its caller's, and its entries are those that the caller's lines print, in their order
pub record HasPrinted (shape : Shape) (done : List Done) (i : ℕ) (a : Account) : Type 0 where
  pub who : a.who ≡ caller_after shape i
  pub entries : entries_in a ≡ printed (lines_by (caller_at shape i) (flat_map done_lines done))

-- the text is a run's; each record that took words of its loader's region had room there; the history of the report's
-- rules is that of the board that was closed, and the text prints its log; and each caller's account, which is true of
-- that history, of the room that it has left and of the pages, has what the caller's lines print, and nothing else. A
-- line tells that no page was left, or that a chain was full, only where the shape is small for the atoms that were
-- loaded. A searcher's account, which comes after those of the loaders, has loaded nothing past its last answer; what
-- it has loaded for each search is pruned; and the rows that its lines print are those
pub record IsRunOf (told : Option (List File)) (script : List ℕ) (shape : Shape) (budget : ℕ) (text : List ℕ)
    (last : Closing) : Type 0 where
  pub run : IsRunText told script shape budget text
  pub rooms : HaveHadRoom shape (flat_map done_lines run.is_report.told.done)
  pub pages : ArePagesEnough shape (flat_map done_lines run.is_report.told.done)
  pub chains : AreChainsEnough shape (flat_map done_lines run.is_report.told.done)
  pub same : run.is_report.history ≡ last.history
  pub events : run.report.events ≡ map log_line last.history
  pub shape_is : last.shape ≡ shape
  pub settled : IsSettled last
  pub count : length last.accounts ≡ shape.loaders + shape.searchers
  pub each : (i : ℕ) (a : Account) → get_elem? last.accounts i ≡ some a → HasPrinted shape run.is_report.told.done i a
  pub pruned : (i : ℕ) (a : Account) → shape.loaders ≤ i → get_elem? last.accounts i ≡ some a
      → HasPruned (lines_by (caller_at shape i) (flat_map done_lines run.is_report.told.done)) a

-- a board is answered exactly at status 0, and the text that was written is that of the run on it
abbrev pub IsLastOf : Option (List File) → List ℕ → Shape → ℕ → SinkSeen → SinkSeen → ℕ → Option Closing → Type 0
IsLastOf told script shape budget out out_now status None = status ≢ 0
IsLastOf told script shape budget out out_now status (Some last) =
    (status ≡ 0) × (text : List ℕ) × IsRunOf told script shape budget text last
    × (out_now.written ≡ append_known out.written text)

-- the same for every task: only a run answers a board
abbrev pub HasLast : Option Task → ShelfSeen → SinkSeen → SinkSeen → ℕ → Option Closing → Type 0
HasLast (Some (run_of script shape budget)) shelf out out_now status last =
    IsLastOf shelf.told script shape budget out out_now status last
HasLast task shelf out out_now status last = last ≡ None
