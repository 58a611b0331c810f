-- The history that the words show, and which event may come next (this project's own).
use Rattle.std.specs.Prelude.{◌≡◌, ℕ, ◌+◌, ◌-◌, ◌==◌, List, [], ◌∷◌, filter, if◌then◌else◌}
use Rattle.htss_defs.specs.declared.shape.Shape.{Shape}
use Rattle.htss_defs.specs.declared.history.Event.{Event}
use Rattle.htss_defs.specs.declared.history.Event.TheVariants.{Publish, Withdraw}
use Rattle.htss_defs.specs.Molecule.{Molecule}
use Rattle.htss_defs.specs.History.{Publishes, Withdraws}
use Rattle.board_core.specs.Words.{Parts, regions_at}
use Rattle.board_core.specs.LogWord.{kind_in, loader_in, target_in, EndsNumber}
use Rattle.board_core.specs.Blocks.{name_in, molecule_in, first_of}

-- the words of the block at this place of the table
abbrev pub block_at : Shape → (ℕ → ℕ) → ℕ → ℕ → ℕ
block_at k regions place i = regions (place + i - regions_at k)

-- the event that a log word shows, where its block has these words
abbrev pub shown_by : (ℕ → ℕ) → ℕ → Event
shown_by block word = if kind_in word == 2 then Withdraw (loader_in word) (target_in word) else Publish (loader_in word)
    (name_in block) (molecule_in block)

abbrev pub event_of : Shape → (ℕ → ℕ) → ℕ → Event
event_of k regions word = shown_by (block_at k regions (target_in word)) word

-- the events of the first log words, so many as the front says
abbrev pub history_of : Shape → Parts → List Event
history_of k p = first_of (λ i. event_of k p.regions (p.log.slots i)) p.log.front

abbrev pub caller_of : Event → ℕ
caller_of (Publish caller name mol) = caller
caller_of (Withdraw caller number) = caller

-- the events with their numbers, where the first has this one
abbrev pub numbered : ℕ → List Event → List (ℕ × Event)
numbered first [] = []
numbered first (e ∷ es) = (first, e) ∷ numbered (first + 1) es

-- the events of one loader, in order, each with its number
abbrev pub events_by : ℕ → List Event → List (ℕ × Event)
events_by loader h = filter (λ e. caller_of e.1 == loader) (numbered 1 h)

abbrev pub IsPublished : List Event → ℕ → Type 0
IsPublished h number = (name : List ℕ) × (mol : Molecule) × Publishes h number name mol

abbrev pub IsEnded : List Event → ℕ → Type 0
IsEnded h number = (later : ℕ) × Withdraws h later number

-- the number may be withdrawn
abbrev pub IsOpen : List Event → ℕ → Type 0
IsOpen h number = IsPublished h number × ¬ (IsEnded h number)

-- the event may come next
abbrev pub MayFollow : List Event → Event → Type 0
MayFollow h (Publish caller name mol) = Unit {0}
MayFollow h (Withdraw caller number) = IsOpen h number

-- the same, of the event that a log word shows, whatever the regions are
abbrev pub MayShow : List Event → ℕ → Type 0
MayShow h word = EndsNumber word → IsOpen h (target_in word)
