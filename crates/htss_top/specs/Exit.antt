-- How the process ends where its words could not be read (this project's own).
use Rattle.std.specs.Prelude.{◌⊎◌, ℕ, []}
use Rattle.command_ends.specs.Ends.{IsWritten, SinkSeen}
use Rattle.command_ends.specs.Outcomes.{not_a_command, out_of_memory, stopped}

-- memory ran out, or they are no command line
abbrev pub AreUnread : SinkSeen → SinkSeen → ℕ → Type 0
AreUnread out out_now status = IsWritten out out_now (stopped [] out_of_memory) status
    ⊎ IsWritten out out_now (stopped [] not_a_command) status
