-- The records of a stream, handed on while it is read.
use Rattle.std.proofs.Common.{◌≡◌, ℕ, ◌<◌, ◌≤◌, true, List, [], ◌∷◌, ◌++◌, length, take, drop, append_assoc, inl, inr, sym, ap, subst, ◌∙◌, arith}
use Rattle.std.specs.Prelude.{Option, Bool}
use Rattle.std.proofs.lemmas.List.{append-nil, length-append, nil_from_length, take-append-drop}
use Rattle.mol_section.specs.Lines.{lines_of, raw_lines, ends_section}
use Rattle.mol_section.specs.SectionRecord.{Outcome}
use Rattle.ctfile.specs.Cut.{LineEnds, has_text}
use Rattle.ctfile.specs.Stream.{HasRead, ReaderState, TakesRecord}
use Rattle.outside.specs.Files.{File, HasFront}

full_end : (end : List ℕ) → ends_section end ≡ true → 0 < length end
full_end [] ends = absurd cc
full_end (b ∷ bs) ends = omega arith

full_text : (section : List ℕ) → has_text (lines_of section) ≡ true → 0 < length section
unfolding raw_lines
full_text [] text = absurd cc
full_text (b ∷ bs) text = omega arith

line_ends-le : (finished : Bool) (tail rest : List ℕ) → LineEnds finished tail rest → length rest ≤ length tail
line_ends-le finished tail rest ends = elim ends [
  | inl lf ↦ omega (arith, ap length lf)
  | inr over ↦ omega (arith, ap length over.2)
]

-- a record leaves less pending
pub TakesRecord-shorter : (old new : ReaderState) (outcome : Outcome) → TakesRecord old new outcome → length new.pending < length old.pending
TakesRecord-shorter old new outcome takes = elim takes.takes [
  | inl one ↦ omega (
    arith,
    ap length one.cut.parts,
    length-append takes.section (one.cut.end ++ one.cut.tail),
    length-append one.cut.end one.cut.tail,
    full_end one.cut.end one.cut.ends,
    line_ends-le old.finished one.cut.tail new.pending one.cut.after,
  )
  | inr last ↦ omega (arith, ap length last.all, ap length last.empty, full_text takes.section last.text)
]

-- the file so far: its first bytes were fed, and the taker is right for what was read of them
pub record ReadSoFar (told : Option (List File)) (name : List ℕ) (offset : ℕ) (reader : ReaderState) (right : List Outcome → Type 0) : Type 0 where
  pub front : List ℕ
  pub outcomes : List Outcome
  pub is_front : HasFront told name front
  pub long : length front ≡ offset
  pub read : HasRead front outcomes reader
  pub holds : right outcomes

-- the bytes so far: those before the rest were fed, and the taker is right for what was read of them
pub record ReadBack (bytes rest : List ℕ) (reader : ReaderState) (right : List Outcome → Type 0) : Type 0 where
  pub front : List ℕ
  pub outcomes : List Outcome
  pub parts : bytes ≡ front ++ rest
  pub read : HasRead front outcomes reader
  pub holds : right outcomes

-- what a reader has read of bytes of which nothing is left
pub ReadBack-all : (bytes rest : List ℕ) (reader : ReaderState) (right : List Outcome → Type 0) → ReadBack bytes rest reader right → length rest ≡ 0 → (outcomes : List Outcome) × HasRead bytes outcomes reader × right outcomes
ReadBack-all bytes rest reader right so_far none =
    let all : bytes ≡ so_far.front = so_far.parts ∙ ap (λ (r : List ℕ). so_far.front ++ r) (nil_from_length rest none) ∙ append-nil so_far.front in
    (so_far.outcomes, subst (λ (s : List ℕ). HasRead s so_far.outcomes reader) (sym all) so_far.read, so_far.holds)

-- one more piece of them
pub ReadBack-more : (bytes rest piece left : List ℕ) (count : ℕ) (reader next : ReaderState) (right more : List Outcome → Type 0) → ReadBack bytes rest reader right → piece ≡ take count rest → left ≡ drop count rest
    → ((stream : List ℕ) (outcomes : List Outcome) → HasRead stream outcomes reader → right outcomes → (all : List Outcome) × HasRead (stream ++ piece) all next × more all) → ReadBack bytes left next more
ReadBack-more bytes rest piece left count reader next right more so_far front back takes =
    let taken = takes so_far.front so_far.outcomes so_far.read so_far.holds in
    let split : piece ++ left ≡ rest = ap (λ (x : List ℕ). x ++ left) front ∙ ap (λ (x : List ℕ). take count rest ++ x) back ∙ take-append-drop count rest in
    record {
      front = so_far.front ++ piece;
      outcomes = taken.0;
      parts = so_far.parts ∙ ap (λ (x : List ℕ). so_far.front ++ x) (sym split) ∙ sym (append_assoc so_far.front piece left);
      read = taken.1;
      holds = taken.2;
    }
