-- A reader of a stream that comes in pieces: what it holds, what it takes, and what it has read (this project's own).
use Rattle.std.specs.Prelude.{◌≡◌, ◌⊎◌, ℕ, ◌+◌, List, [], ◌++◌, ◌≤◌, ◌<◌, ◌^◌, length, Bool, true, false, Result, Ok}
use Rattle.std.specs.Prelude.{Err}
use Rattle.htss_defs.specs.Molecule.{Molecule}
use Rattle.htss_defs.specs.Marked.{IsMarked, unmarked_molecule}
use Rattle.mol_section.specs.Lines.{lines_of}
use Rattle.mol_section.specs.SectionRecord.{Outcome, accepted, refused, IsOutcome}
use Rattle.mol_section.specs.Unmarked.{IfMarked}
use Rattle.ctfile.specs.Cut.{AreWhole, NoSection, TakesLines, IsFirstSection, has_text}
use Rattle.ctfile.specs.RecordList.{AreSections, AreOutcomes, IsRecordList}
use Rattle.mol_section.specs.declared.outcome.SectionOutcome.{SectionOutcome}
use Rattle.mol_section.specs.declared.outcome.SectionOutcome.TheVariants.{Accepted as Tells, Refused as Refuses}
use Rattle.ctfile.specs.declared.reader.Next.{Next}
use Rattle.ctfile.specs.declared.reader.Next.TheVariants.{Accepted, Refused, NeedMore, End}

-- the bytes that no answer has taken, the records and the lines that were answered, the bytes fed in all, and whether
-- the stream is over
pub record ReaderState : Type 0 where
  pub pending : List ℕ
  pub place : ℕ
  pub line : ℕ
  pub fed : ℕ
  pub finished : Bool

-- the state of a new reader
abbrev pub empty_state : ReaderState
empty_state = record { pending = []; place = 0; line = 0; fed = 0; finished = false }

-- more bytes have come
abbrev pub with_piece : ReaderState → List ℕ → ReaderState
with_piece state piece = record state { pending = state.pending ++ piece; fed = state.fed + length piece }

-- at least a byte was fed for each record and each line that was answered, besides what is pending
pub record IsWithin (pending : List ℕ) (place line fed : ℕ) : Type 0 where
  pub records : place + length pending ≤ fed
  pub lines : line + length pending ≤ fed
  pub fits : fed < 2 ^ 32

-- the next record has this outcome, and nothing but its lines leaves what is pending
pub record TakesRecord (old new : ReaderState) (outcome : Outcome) : Type 0 where
  pub section : List ℕ
  pub lines : ℕ
  pub takes : TakesLines old.finished old.pending section new.pending lines
  pub is : IsOutcome (old.line + 1) (lines_of section) outcome
  pub place : new.place ≡ old.place + 1
  pub line : new.line ≡ old.line + lines
  pub fed : new.fed ≡ old.fed
  pub finished : new.finished ≡ old.finished

-- the next record depends on bytes that have not come
pub record NeedsMore (state : ReaderState) : Type 0 where
  pub goes_on : state.finished ≡ false
  pub none : NoSection state.pending

-- what is pending is no record, and nothing more comes
pub record HasEnded (state : ReaderState) : Type 0 where
  pub over : state.finished ≡ true
  pub blank : has_text (lines_of state.pending) ≡ false

-- the fact for an answer that is a record, by its place and its outcome
abbrev pub IfRecord : Next → (ℕ → Outcome → Type 0) → Type 0
IfRecord (Accepted place name mol) P = P place (accepted name mol)
IfRecord (Refused place line code) P = P place (refused line code)
IfRecord NeedMore P = Unit {0}
IfRecord End P = Unit {0}

-- the same for an answer whose molecule is unmarked: the fact holds of its outcome once the ring bonds are marked
abbrev pub IfUnmarked : Next → (ℕ → Outcome → Type 0) → Type 0
IfUnmarked (Accepted place name mol) P = IfMarked (P place) (accepted name mol)
IfUnmarked (Refused place line code) P = P place (refused line code)
IfUnmarked NeedMore P = Unit {0}
IfUnmarked End P = Unit {0}

-- the fact for the molecule of an answer
abbrev pub IfMolecule : Next → (Molecule → Type 0) → Type 0
IfMolecule (Accepted place name mol) P = P mol
IfMolecule (Refused place line code) P = Unit {0}
IfMolecule NeedMore P = Unit {0}
IfMolecule End P = Unit {0}

-- some molecule is this one with its ring bonds marked
pub record HasMarks (mol : Molecule) : Type 0 where
  pub marked : Molecule
  pub is_marked : IsMarked marked
  pub same : unmarked_molecule marked ≡ unmarked_molecule mol

-- the fact for an answer that is no record
abbrev pub IfNoRecord : Next → Type 0 → Type 0
IfNoRecord (Accepted place name mol) P = Unit {0}
IfNoRecord (Refused place line code) P = Unit {0}
IfNoRecord NeedMore P = P
IfNoRecord End P = P

-- the answer with this place that tells this outcome
abbrev pub answer_of : ℕ → SectionOutcome → Next
answer_of place (Tells name mol) = Accepted place name mol
answer_of place (Refuses line code) = Refused place line code

-- the bytes are sections, each with the line that ends it, and these are their outcomes
pub record AreRead (front : List ℕ) (outcomes : List Outcome) : Type 0 where
  pub sections : List (List (List ℕ))
  pub whole : AreWhole front
  pub are_sections : AreSections (lines_of front) sections []
  pub are_outcomes : AreOutcomes 1 sections outcomes

-- the last record of the stream was answered, and these are all
pub record AreAllRead (stream : List ℕ) (outcomes : List Outcome) (state : ReaderState) : Type 0 where
  pub over : state.finished ≡ true
  pub empty : state.pending ≡ []
  pub are_records : IsRecordList stream outcomes

-- the stream fed so far: its front was answered with these outcomes, and the rest is pending
pub record HasRead (stream : List ℕ) (outcomes : List Outcome) (state : ReaderState) : Type 0 where
  pub front : List ℕ
  pub parts : stream ≡ front ++ state.pending
  pub read : AreRead front outcomes ⊎ AreAllRead stream outcomes state
  pub place : state.place ≡ length outcomes
  pub line : state.line ≡ length (lines_of front)
  pub fed : state.fed ≡ length stream

-- the outcome of the first section of the bytes
pub record IsFirstOutcome (bytes : List ℕ) (outcome : Outcome) : Type 0 where
  pub section : List (List ℕ)
  pub first : IsFirstSection (lines_of bytes) section
  pub is : IsOutcome 1 section outcome

-- the outcome that an answer tells: a name and a molecule, or a line and a code
abbrev pub answer_outcome : Result (List ℕ × Molecule) (ℕ × ℕ) → Outcome
answer_outcome (Ok (name, mol)) = accepted name mol
answer_outcome (Err (line, code)) = refused line code
