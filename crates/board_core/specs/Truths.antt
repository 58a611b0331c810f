-- What makes an entry true of a history, and which events an account tells of (this project's own).
use Rattle.std.specs.Prelude.{◌<◌, ◌≡◌, ◌≢◌, ℕ, ◌≤◌, List, [], ◌∷◌, ◌++◌, length, take}
use Rattle.htss_defs.specs.declared.shape.Shape.{Shape}
use Rattle.htss_defs.specs.declared.history.Event.{Event}
use Rattle.htss_defs.specs.declared.history.Event.TheVariants.{Publish, Withdraw}
use Rattle.htss_defs.specs.History.{HasEvent, Withdraws}
use Rattle.htss_defs.specs.Reply.{Reply as Answer, IsReply, found, over_budget}
use Rattle.board_core.specs.declared.entry.Entry.{Entry}
use Rattle.board_core.specs.declared.entry.Entry.TheVariants.{Published, Withdrawn, Answered, Unknown, Gone as Ended}
use Rattle.board_core.specs.declared.entry.Entry.TheVariants.{LogFull, DataFull, NoPage, ChainFull, Swept}
use Rattle.board_core.specs.declared.entry.Reply.{Reply}
use Rattle.board_core.specs.declared.entry.Reply.TheVariants.{Hits, OverBudget}
use Rattle.board_core.specs.declared.entry.Noted.{Noted}
use Rattle.board_core.specs.declared.account.Who.{Who}
use Rattle.board_core.specs.declared.account.Who.TheVariants.{Opener, Loader, Searcher, Note, Gone}
use Rattle.board_core.specs.Each.{Each}
use Rattle.board_core.specs.Histories.{IsPublished, events_by}

abbrev pub reply_of : Reply → Answer
reply_of (Hits hits) = found hits
reply_of OverBudget = over_budget

-- the part of an entry's truth that reads the history
abbrev pub IsTrueLog : Shape → List Event → Entry → Type 0
IsTrueLog k h (Published number event) = HasEvent h number event
IsTrueLog k h (Withdrawn number event) = HasEvent h number event
IsTrueLog k h (Answered query budget front reply) = (front ≤ length h)
    × IsReply query budget (take front h) (reply_of reply)
IsTrueLog k h (Unknown number front) = (front ≤ length h) × ¬ (IsPublished (take front h) number)
IsTrueLog k h (Ended number at) = Withdraws h at number
IsTrueLog k h (LogFull front) = (front ≤ length h) × (front ≡ k.log)
IsTrueLog k h (DataFull left need) = Unit {0}
IsTrueLog k h NoPage = Unit {0}
IsTrueLog k h (ChainFull pages) = Unit {0}
IsTrueLog k h (Swept need front rows) = Unit {0}

-- the part that reads how many words of the caller's region are left
abbrev pub IsTrueRoom : ℕ → Entry → Type 0
IsTrueRoom unused (Published number event) = Unit {0}
IsTrueRoom unused (Withdrawn number event) = Unit {0}
IsTrueRoom unused (Answered query budget front reply) = Unit {0}
IsTrueRoom unused (Unknown number front) = Unit {0}
IsTrueRoom unused (Ended number at) = Unit {0}
IsTrueRoom unused (LogFull front) = Unit {0}
IsTrueRoom unused (DataFull left need) = (left < need) × (unused ≤ left)
IsTrueRoom unused NoPage = Unit {0}
IsTrueRoom unused (ChainFull pages) = Unit {0}
IsTrueRoom unused (Swept need front rows) = Unit {0}

-- the part that reads the states of pages
abbrev pub IsTruePool : Shape → (ℕ → ℕ) → Entry → Type 0
IsTruePool k states (Published number event) = Unit {0}
IsTruePool k states (Withdrawn number event) = Unit {0}
IsTruePool k states (Answered query budget front reply) = Unit {0}
IsTruePool k states (Unknown number front) = Unit {0}
IsTruePool k states (Ended number at) = Unit {0}
IsTruePool k states (LogFull front) = Unit {0}
IsTruePool k states (DataFull left need) = Unit {0}
IsTruePool k states NoPage = (p : ℕ) → 0 < p → p ≤ k.pages → states p ≢ 0
IsTruePool k states (ChainFull pages) = Unit {0}
IsTruePool k states (Swept need front rows) = Unit {0}

-- the entry of an event, and the events that an entry tells of, with their numbers
abbrev pub entry_of : ℕ → Event → Entry
entry_of number (Publish caller name mol) = Published number (Publish caller name mol)
entry_of number (Withdraw caller target) = Withdrawn number (Withdraw caller target)

abbrev pub told_by : Entry → List (ℕ × Event)
told_by (Published number event) = (number, event) ∷ []
told_by (Withdrawn number event) = (number, event) ∷ []
told_by (Answered query budget front reply) = []
told_by (Unknown number front) = []
told_by (Ended number at) = []
told_by (LogFull front) = []
told_by (DataFull left need) = []
told_by NoPage = []
told_by (ChainFull pages) = []
told_by (Swept need front rows) = []

abbrev pub told_in : List Noted → List (ℕ × Event)
told_in [] = []
told_in (n ∷ ns) = told_by n.entry ++ told_in ns

-- the events of a history that are a caller's own, with their numbers
abbrev pub own_events : List Event → Who → List (ℕ × Event)
own_events h (Loader n) = events_by n h
own_events h (Searcher n) = []
own_events h (Opener n) = []
own_events h Note = []
own_events h Gone = []

-- an account's entries are true, and tell of exactly its own events, in order, each by its number
pub record IsTrueStory (k : Shape) (h : List Event) (who : Who) (entries : List Noted) : Type 0 where
  pub each : Each (λ n. IsTrueLog k h n.entry) entries
  pub own : own_events h who ≡ told_in entries
