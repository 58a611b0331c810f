-- Entries that answer a call, those of the rows that a search has come to set aside (this project's own).
use Rattle.std.specs.Prelude.{Bool, true, false, List, filter}
use Rattle.board_core.specs.declared.entry.Entry.{Entry}
use Rattle.board_core.specs.declared.entry.Entry.TheVariants.{Published, Withdrawn, Answered, Unknown, Gone, LogFull}
use Rattle.board_core.specs.declared.entry.Entry.TheVariants.{DataFull, NoPage, ChainFull, Swept}
use Rattle.board_core.specs.declared.entry.Noted.{Noted}

abbrev pub is_answer : Entry → Bool
is_answer (Published number event) = true
is_answer (Withdrawn number event) = true
is_answer (Answered query budget front reply) = true
is_answer (Unknown number front) = true
is_answer (Gone number at) = true
is_answer (LogFull front) = true
is_answer (DataFull left need) = true
is_answer NoPage = true
is_answer (ChainFull pages) = true
is_answer (Swept need front rows) = false

abbrev pub answers_in : List Noted → List Noted
answers_in entries = filter (λ n. is_answer n.entry) entries
