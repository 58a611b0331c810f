-- How a command comes out: with its text, or stopped before the end of it, with the status and the bytes of each (this
-- project's own).
use Rattle.std.specs.Prelude.{ℕ, List, [], ◌∷◌, ◌++◌, decimal}
use lib.Chars.{codes}
use Rattle.outside.specs.declared.whole.ReadStop.{ReadStop}
use Rattle.outside.specs.declared.whole.ReadStop.TheVariants.{Absent as IsGone, Failed as HasFailed}
use Rattle.outside.specs.declared.whole.ReadStop.TheVariants.{TooLarge as IsTooLarge, OutOfMemory}
use Rattle.command_ends.specs.declared.stop.Stop.{Stop}
use Rattle.command_ends.specs.declared.stop.Stop.TheVariants.{Usage, Memory, Script, Failed, Absent, TooLarge}

-- why a command stopped
pub data Why : Type 0 where
  not_a_command : Why
  out_of_memory : Why
  script_faulty : (line : ℕ) → Why
  read_failed : (name : List ℕ) → Why
  file_absent : (name : List ℕ) → Why
  file_too_large : (name : List ℕ) → Why

-- the whole text; that of an audit whose report differs at this line; or what there was of the text, and why there is
-- no more
pub data CommandEnd : Type 0 where
  done : (text : List ℕ) → CommandEnd
  differs : (line : ℕ) → CommandEnd
  stopped : (front : List ℕ) (why : Why) → CommandEnd

abbrev pub status_why : Why → ℕ
status_why not_a_command = 2
status_why (script_faulty line) = 3
status_why (read_failed name) = 4
status_why out_of_memory = 6
status_why (file_absent name) = 7
status_why (file_too_large name) = 8

abbrev pub line : List ℕ → List ℕ
line text = text ++ 10 ∷ []

-- the line that says why a command stopped
abbrev pub fault_line : Why → List ℕ
fault_line not_a_command = line (codes "stop 2 usage")
fault_line (script_faulty at) = line (codes "stop 3 script " ++ decimal at)
fault_line (read_failed name) = line (codes "stop 4 read " ++ name)
fault_line out_of_memory = line (codes "stop 6 memory")
fault_line (file_absent name) = line (codes "stop 7 absent " ++ name)
fault_line (file_too_large name) = line (codes "stop 8 large " ++ name)

abbrev pub difference_line : ℕ → List ℕ
difference_line at = line (codes "differs " ++ decimal at)

abbrev pub status_of : CommandEnd → ℕ
status_of (done text) = 0
status_of (differs at) = 1
status_of (stopped front why) = status_why why

-- the bytes that are written
abbrev pub text_of : CommandEnd → List ℕ
text_of (done text) = text
text_of (differs at) = difference_line at
text_of (stopped front why) = front ++ fault_line why

-- the cause of a stop of the code
abbrev pub stop_why : Stop → Why
stop_why Usage = not_a_command
stop_why Memory = out_of_memory
stop_why (Script line) = script_faulty line
stop_why (Failed name) = read_failed name.now
stop_why (Absent name) = file_absent name.now
stop_why (TooLarge name) = file_too_large name.now

-- the cause of a stop of reading
abbrev pub read_why : ReadStop → List ℕ → Why
read_why IsGone name = file_absent name
read_why HasFailed name = read_failed name
read_why IsTooLarge name = file_too_large name
read_why OutOfMemory name = out_of_memory
