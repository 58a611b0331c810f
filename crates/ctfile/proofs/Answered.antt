-- What an answer takes, and what a reader has read.
use Rattle.std.proofs.Common.{◌≡◌, ℕ, ◌+◌, ◌<◌, ◌≤◌, ◌⊎◌, inl, inr, Bool, true, false, List, [], ◌∷◌, ◌++◌, length, take, drop, refl, sym, ap, subst, ◌∙◌, append_assoc, arith}
use Rattle.std.specs.Prelude.{not, ◌&&◌, ◌||◌, ◌==◌}
use Rattle.std.specs.List.{list_all}
use Rattle.std.proofs.lemmas.List.{append-nil, length-append, length_push}
use Rattle.std.proofs.lemmas.List.Elements.{All-nil, All-cons}
use Rattle.std.proofs.lemmas.Bool.{false≢true, cond-true, cond-false}
use Rattle.std.proofs.lemmas.Bool.Decides.{Decides-eqb}
use Rattle.mol_section.specs.Lines.{without_cr, lines_of, ends_section}
use Rattle.mol_section.specs.Fields.{is_blank}
use Rattle.htss_defs.specs.Molecule.{Molecule}
use Rattle.mol_section.specs.SectionRecord.{Outcome, IsOutcome, accepted, refused, outcome_of}
use Rattle.mol_section.specs.Unmarked.{IfMarked}
use Rattle.mol_section.specs.declared.outcome.SectionOutcome.{SectionOutcome}
use Rattle.mol_section.specs.declared.outcome.SectionOutcome.TheVariants.{Accepted, Refused}
use Rattle.ctfile.specs.declared.reader.Next.{Next}
use Rattle.ctfile.specs.declared.reader.Next.TheVariants.{End}
use Rattle.ctfile.specs.RecordList.{AreSections, last_sections, AreOutcomes, IsRecordList}
use Rattle.ctfile.specs.Cut.{AreWhole, NoneEnds, LineEnds, IsSection, TakesSection, TakesLast, TakesLines, has_text}
use Rattle.ctfile.specs.Stream.{ReaderState, IsWithin, TakesRecord, HasEnded, IfUnmarked, IfMolecule, answer_of, AreRead, AreAllRead, HasRead}
use Rattle.mol_section.proofs.Outcomes.{length-lines_of}
use Rattle.ctfile.proofs.LinesOf.{lines_of-append, lines_of-nil, ends_section-without_cr}
use Rattle.ctfile.proofs.Looked.{IsSection-lines, NoneEnds-no_section}

-- ---- lists of sections

-- no lines are no sections
AreSections-none : (lines : List (List ℕ)) → lines ≡ [] → AreSections lines [] []
AreSections-none lines e = (e, All-nil (λ x. ends_section x ≡ false))

pub AreSections-append : (sections others : List (List (List ℕ))) (lines more last : List (List ℕ)) → AreSections lines sections [] → AreSections more others last → AreSections (lines ++ more) (sections ++ others) last
AreSections-append [] others lines more last a b = subst (λ (x : List (List ℕ)). AreSections x others last) (sym (ap (λ (x : List (List ℕ)). x ++ more) a.0)) b
AreSections-append (section ∷ sections) others lines more last a b =
    (a.0, a.1 ++ more, a.2, a.3, ap (λ (x : List (List ℕ)). x ++ more) a.4 ∙ append_assoc section (a.0 ∷ a.1) more, AreSections-append sections others a.1 more last a.5 b)

pub AreOutcomes-push : (sections : List (List (List ℕ))) (lines section : List (List ℕ)) (first : ℕ) (outcomes : List Outcome) (outcome : Outcome)
    → AreSections lines sections [] → AreOutcomes first sections outcomes → IsOutcome (first + length lines) section outcome → AreOutcomes first (sections ++ section ∷ []) (outcomes ++ outcome ∷ [])
AreOutcomes-push [] lines section first outcomes outcome a b is =
    let here : first + length lines ≡ first = omega (arith, ap length a.0) in
    let one : AreOutcomes first (section ∷ []) (outcome ∷ []) = (subst (λ (n : ℕ). IsOutcome n section outcome) here is, refl) in
    subst (λ (x : List Outcome). AreOutcomes first (section ∷ []) (x ++ outcome ∷ [])) (sym b) one
AreOutcomes-push (s ∷ sections) lines section first [] outcome a b is = absurd b
AreOutcomes-push (s ∷ sections) lines section first (o ∷ outcomes) outcome a b is =
    let at : first + length lines ≡ first + length s + 1 + length a.1 = omega (arith, ap length a.4, length-append s (a.0 ∷ a.1)) in
    (b.0, AreOutcomes-push sections a.1 section (first + length s + 1) outcomes outcome a.5 b.1 (subst (λ (n : ℕ). IsOutcome n section outcome) at is))

-- ---- blank lines

blank_line : (line : List ℕ) → is_blank line ≡ true → ends_section line ≡ false
blank_line [] blank = refl
blank_line (b ∷ bs) blank = cases (b == 32) (Decides-eqb b 32).0 blank
  where
    cases : (v : Bool) → (v ≡ true → b ≡ 32) → (v && list_all (λ x. x == 32) bs) ≡ true → ends_section (b ∷ bs) ≡ false
    cases true is all = ap (λ (x : ℕ). ends_section (x ∷ bs)) (is refl)
    cases false is all = absurd (false≢true all)

-- lines that are all blank end no section
pub NoneEnds-blank : (lines : List (List ℕ)) → has_text lines ≡ false → NoneEnds lines
NoneEnds-blank [] blank = All-nil (λ x. ends_section x ≡ false)
NoneEnds-blank (line ∷ lines) blank = cases (is_blank line) refl blank (λ none. NoneEnds-blank lines none)
  where
    cases : (v : Bool) → is_blank line ≡ v → (not v || has_text lines) ≡ false → (has_text lines ≡ false → NoneEnds lines) → NoneEnds (line ∷ lines)
    cases true is none more = All-cons (λ x. ends_section x ≡ false) line lines (blank_line line is) (more none)
    cases false is none more = absurd (false≢true (sym none))

-- ---- what leaves

end_long : (end : List ℕ) → ends_section end ≡ true → 0 < length end
end_long [] ends = absurd (false≢true ends)
end_long (b ∷ bs) ends = omega arith

text_long : (bytes : List ℕ) → has_text (lines_of bytes) ≡ true → 0 < length bytes
text_long [] text = absurd (false≢true (sym (ap has_text lines_of-nil) ∙ text))
text_long (b ∷ bs) text = omega arith

tail_long : (finished : Bool) (tail rest : List ℕ) → LineEnds finished tail rest → length rest ≤ length tail
tail_long finished tail rest (inl e) = omega (arith, ap length e)
tail_long finished tail rest (inr e) = omega (arith, ap length e.2)

-- what a record takes is at least a byte for each of its lines, and a byte in all
pub record IsLess (pending rest : List ℕ) (lines : ℕ) : Type 0 where
  pub lines_fit : lines + length rest ≤ length pending
  pub shorter : length rest < length pending

pub TakesLines-less : (finished : Bool) (pending section rest : List ℕ) (lines : ℕ) → TakesLines finished pending section rest lines → IsLess pending rest lines
TakesLines-less finished pending section rest lines (inl t) =
    let s = t.cut in
    let long : length pending ≡ length section + (length s.end + length s.tail) = ap length s.parts ∙ length-append section (s.end ++ s.tail) ∙ ap (λ (n : ℕ). length section + n) (length-append s.end s.tail) in
    let end : 0 < length s.end = end_long s.end s.ends in
    let tail : length rest ≤ length s.tail = tail_long finished s.tail rest s.after in
    record { lines_fit = omega (arith, long, end, tail, t.count, length-lines_of section); shorter = omega (arith, long, end, tail) }
TakesLines-less finished pending section rest lines (inr t) =
    record {
      lines_fit = omega (arith, t.count, length-lines_of section, ap length t.all, ap length t.empty);
      shorter = omega (arith, text_long section t.text, ap length t.all, ap length t.empty);
    }

pub IsWithin-taken : (finished : Bool) (pending section rest : List ℕ) (lines place line fed : ℕ) → TakesLines finished pending section rest lines → IsWithin pending place line fed
    → IsWithin rest (place + 1) (line + lines) fed
IsWithin-taken finished pending section rest lines place line fed t w =
    let less = TakesLines-less finished pending section rest lines t in
    record { records = omega (arith, w.records, less.shorter); lines = omega (arith, w.lines, less.lines_fit); fits = w.fits }

-- the record that the code takes: a section of so many bytes, which are read, and all that leaves
pub TakesRecord-from : (inside now : ReaderState) (section bytes lines : ℕ) (looked read rest : List ℕ) (outcome : Outcome) → inside ≡ now → looked ≡ inside.pending → read ≡ looked → rest ≡ drop bytes looked
    → TakesLines inside.finished inside.pending (take section inside.pending) (drop bytes inside.pending) lines → IsOutcome (inside.line + 1) (lines_of (take section read)) outcome
    → TakesRecord now (record { pending = rest; place = inside.place + 1; line = inside.line + lines; fed = inside.fed; finished = inside.finished }) outcome
TakesRecord-from inside now section bytes lines looked read rest outcome same is_looked is_read is_rest takes is =
    subst (λ (s : ReaderState). TakesRecord s (record { pending = rest; place = inside.place + 1; line = inside.line + lines; fed = inside.fed; finished = inside.finished }) outcome) same
    (record {
      section = take section inside.pending;
      lines = lines;
      takes = subst (λ (r : List ℕ). TakesLines inside.finished inside.pending (take section inside.pending) r lines) (sym (is_rest ∙ ap (drop bytes) is_looked)) takes;
      is = subst (λ (r : List ℕ). IsOutcome (inside.line + 1) (lines_of (take section r)) outcome) (is_read ∙ is_looked) is;
      place = refl;
      line = refl;
      fed = refl;
      finished = refl;
    })

pub TakesRecord-shorter : (old new : ReaderState) (outcome : Outcome) → TakesRecord old new outcome → length new.pending < length old.pending
TakesRecord-shorter old new outcome t =
    let less = TakesLines-less old.finished old.pending t.section new.pending t.lines t.takes in
    less.shorter

-- an answer that tells an outcome is a record, once its ring bonds are marked
pub IfUnmarked-told : (P : ℕ → Outcome → Type 0) (next : Next) (place : ℕ) (told : SectionOutcome) → next ≡ answer_of place told → IfMarked (P place) (outcome_of told) → IfUnmarked next P
IfUnmarked-told P next place told is p = subst (λ (n : Next). IfUnmarked n P) (sym is) (go told p)
  where
    go : (told : SectionOutcome) → IfMarked (P place) (outcome_of told) → IfUnmarked (answer_of place told) P
    go (Accepted name mol) p = p
    go (Refused line code) p = p

-- what follows from a fact of the marked outcome
pub IfMarked-more : (P Q : Outcome → Type 0) (told : SectionOutcome) → ((outcome : Outcome) → P outcome → Q outcome) → IfMarked P (outcome_of told) → IfMarked Q (outcome_of told)
IfMarked-more P Q (Accepted name mol) more p = λ marked is same. more (accepted name marked) (p marked is same)
IfMarked-more P Q (Refused line code) more p = more (refused line code) p

-- a fact of the molecule that is told
pub IfMolecule-told : (P : Molecule → Type 0) (next : Next) (place : ℕ) (told : SectionOutcome) → next ≡ answer_of place told → ((name : List ℕ) (mol : Molecule) → outcome_of told ≡ accepted name mol → P mol) → IfMolecule next P
IfMolecule-told P next place told is p = subst (λ (n : Next). IfMolecule n P) (sym is) (go told p)
  where
    go : (told : SectionOutcome) → ((name : List ℕ) (mol : Molecule) → outcome_of told ≡ accepted name mol → P mol) → IfMolecule (answer_of place told) P
    go (Accepted name mol) p = p name mol refl
    go (Refused line code) p = tt

pub answer-not_end : (place : ℕ) (told : SectionOutcome) → answer_of place told ≡ End → ⊥
answer-not_end place (Accepted name mol) e = cc
answer-not_end place (Refused line code) e = cc

-- where a record is taken, the reader has not ended
pub HasEnded-not : (state : ReaderState) (section rest : List ℕ) (lines : ℕ) → HasEnded state → TakesLines state.finished state.pending section rest lines → ⊥
HasEnded-not state section rest lines e (inl t) = NoneEnds-no_section state.finished state.pending section rest (NoneEnds-blank (lines_of state.pending) e.blank) t.cut
HasEnded-not state section rest lines e (inr t) = false≢true (sym e.blank ∙ ap (λ (x : List ℕ). has_text (lines_of x)) (sym t.all) ∙ t.text)

-- ---- what a reader has read

pub HasRead-empty : (state : ReaderState) → state.pending ≡ [] → state.place ≡ 0 → state.line ≡ 0 → state.fed ≡ 0 → HasRead [] [] state
HasRead-empty state pending place line fed = record {
  front = [];
  parts = sym pending;
  read = inl (record { sections = []; whole = inl refl; are_sections = AreSections-none (lines_of []) lines_of-nil; are_outcomes = refl });
  place = place;
  line = line ∙ sym (ap length lines_of-nil);
  fed = fed;
}

-- a front that was read and the last lines of the stream, with the outcomes of all
record_list : (stream front last : List ℕ) (before outcomes : List Outcome) (read : AreRead front before) → stream ≡ front ++ last → NoneEnds (lines_of last)
    → AreOutcomes 1 (read.sections ++ last_sections (lines_of last)) outcomes → IsRecordList stream outcomes
record_list stream front last before outcomes read parts none are = record {
  sections = read.sections;
  last = lines_of last;
  are_sections =
      subst (λ (x : List (List (List ℕ))). AreSections (lines_of stream) x (lines_of last)) (append-nil read.sections)
      (subst (λ (x : List (List ℕ)). AreSections x (read.sections ++ []) (lines_of last)) (sym (ap lines_of parts ∙ lines_of-append front last read.whole))
      (AreSections-append read.sections [] (lines_of front) (lines_of last) (lines_of last) read.are_sections (refl, none)));
  are_outcomes = are;
}

pub IsRecordList-ended : (stream : List ℕ) (outcomes : List Outcome) (state : ReaderState) → HasEnded state → HasRead stream outcomes state → IsRecordList stream outcomes
IsRecordList-ended stream outcomes state e h = cases h.read
  where
    cases : AreRead h.front outcomes ⊎ AreAllRead stream outcomes state → IsRecordList stream outcomes
    cases (inr all) = all.are_records
    cases (inl read) =
        let none : last_sections (lines_of state.pending) ≡ [] = cond-false _ _ _ e.blank in
        record_list stream h.front state.pending outcomes outcomes read h.parts (NoneEnds-blank (lines_of state.pending) e.blank)
        (subst (λ (x : List (List (List ℕ))). AreOutcomes 1 x outcomes) (sym (ap (λ (x : List (List (List ℕ))). read.sections ++ x) none ∙ append-nil read.sections)) read.are_outcomes)

-- a section with the line that ends it, alone
record Part (finished : Bool) (pending section rest : List ℕ) : Type 0 where
  pub taken : List ℕ
  pub parts : pending ≡ taken ++ rest
  pub cut : IsSection finished taken section []
  pub whole : AreWhole taken ⊎ ((finished ≡ true) × (rest ≡ []))

part_of : (finished : Bool) (pending section rest : List ℕ) → IsSection finished pending section rest → Part finished pending section rest
part_of finished pending section rest s = cases s.after
  where
    cases : LineEnds finished s.tail rest → Part finished pending section rest
    cases (inl e) =
        let taken : List ℕ = section ++ (s.end ++ 10 ∷ []) in
        record {
          taken = taken;
          parts = s.parts ∙ ap (λ (x : List ℕ). section ++ (s.end ++ x)) e ∙ ap (λ (x : List ℕ). section ++ x) (sym (append_assoc s.end (10 ∷ []) rest)) ∙ sym (append_assoc section (s.end ++ 10 ∷ []) rest);
          cut = record { end = s.end; tail = 10 ∷ []; parts = refl; whole = s.whole; inner = s.inner; one = s.one; ends = s.ends; after = inl refl };
          whole = inl (inr (section ++ s.end, sym (append_assoc section s.end (10 ∷ []))));
        }
    cases (inr e) =
        record {
          taken = pending;
          parts = sym (append-nil pending) ∙ ap (λ (x : List ℕ). pending ++ x) (sym e.2);
          cut = record { end = s.end; tail = s.tail; parts = s.parts; whole = s.whole; inner = s.inner; one = s.one; ends = s.ends; after = inr (e.0, e.1, refl) };
          whole = inr (e.0, e.2);
        }

part_sections : (finished : Bool) (taken section : List ℕ) → IsSection finished taken section [] → AreSections (lines_of taken) (lines_of section ∷ []) []
part_sections finished taken section s =
    (without_cr s.end, lines_of [], ends_section-without_cr s.end ∙ s.ends, s.inner, IsSection-lines finished taken section [] s, AreSections-none (lines_of []) lines_of-nil)

whole_both : (front taken : List ℕ) → AreWhole front → AreWhole taken → AreWhole (front ++ taken)
whole_both front taken a (inl e) = subst AreWhole (sym (append-nil front) ∙ ap (λ (x : List ℕ). front ++ x) (sym e)) a
whole_both front taken a (inr w) = inr (front ++ w.0, ap (λ (x : List ℕ). front ++ x) w.1 ∙ sym (append_assoc front w.0 (10 ∷ [])))

-- the record of the next section is one more
pub HasRead-record : (stream : List ℕ) (outcomes : List Outcome) (outcome : Outcome) (old new : ReaderState) → TakesRecord old new outcome → HasRead stream outcomes old
    → HasRead stream (outcomes ++ outcome ∷ []) new
HasRead-record stream outcomes outcome old new t h = cases t.takes h.read
  where
    longer : List Outcome
    longer = outcomes ++ outcome ∷ []

    places : new.place ≡ length longer
    places = omega (arith, t.place, h.place, length_push outcomes outcome)

    is_next : IsOutcome (1 + length (lines_of h.front)) (lines_of t.section) outcome
    is_next = subst (λ (n : ℕ). IsOutcome n (lines_of t.section) outcome) (omega (arith, h.line)) t.is

    section : AreRead h.front outcomes → (s : TakesSection old.finished old.pending t.section new.pending t.lines) → (p : Part old.finished old.pending t.section new.pending) → HasRead stream longer new
    section read s p =
        let front : List ℕ = h.front ++ p.taken in
        let parts : stream ≡ front ++ new.pending = h.parts ∙ ap (λ (x : List ℕ). h.front ++ x) p.parts ∙ sym (append_assoc h.front p.taken new.pending) in
        let lines : lines_of front ≡ lines_of h.front ++ lines_of p.taken = lines_of-append h.front p.taken read.whole in
        let are_sections : AreSections (lines_of front) (read.sections ++ lines_of t.section ∷ []) [] =
        subst (λ (x : List (List ℕ)). AreSections x (read.sections ++ lines_of t.section ∷ []) []) (sym lines)
        (AreSections-append read.sections (lines_of t.section ∷ []) (lines_of h.front) (lines_of p.taken) [] read.are_sections (part_sections old.finished p.taken t.section p.cut)) in
        let are_outcomes : AreOutcomes 1 (read.sections ++ lines_of t.section ∷ []) longer =
        AreOutcomes-push read.sections (lines_of h.front) (lines_of t.section) 1 outcomes outcome read.are_sections read.are_outcomes is_next in
        record {
          front = front;
          parts = parts;
          read = how front parts (read.sections ++ lines_of t.section ∷ []) are_sections are_outcomes (whole_both h.front p.taken read.whole) p.whole;
          place = places;
          line = omega (arith, t.line, h.line, s.count, ap length lines, length-append (lines_of h.front) (lines_of p.taken), ap length (IsSection-lines old.finished p.taken t.section [] p.cut), length-append (lines_of t.section) (without_cr p.cut.end ∷ lines_of []), ap length lines_of-nil);
          fed = t.fed ∙ h.fed;
        }
      where
        how : (front : List ℕ) → stream ≡ front ++ new.pending → (sections : List (List (List ℕ))) → AreSections (lines_of front) sections [] → AreOutcomes 1 sections longer
            → (AreWhole p.taken → AreWhole front) → AreWhole p.taken ⊎ ((old.finished ≡ true) × (new.pending ≡ [])) → AreRead front longer ⊎ AreAllRead stream longer new
        how front parts sections a b both (inl w) = inl (record { sections = sections; whole = both w; are_sections = a; are_outcomes = b })
        how front parts sections a b both (inr e) =
            let all : stream ≡ front = parts ∙ ap (λ (x : List ℕ). front ++ x) e.1 ∙ append-nil front in
            inr (record {
              over = t.finished ∙ e.0;
              empty = e.1;
              are_records = record {
                sections = sections;
                last = [];
                are_sections = subst (λ (x : List ℕ). AreSections (lines_of x) sections []) (sym all) a;
                are_outcomes = subst (λ (x : List (List (List ℕ))). AreOutcomes 1 x longer) (sym (append-nil sections)) b;
              };
            })

    last : AreRead h.front outcomes → (s : TakesLast old.finished old.pending t.section new.pending t.lines) → HasRead stream longer new
    last read s =
        let parts : stream ≡ h.front ++ t.section = h.parts ∙ ap (λ (x : List ℕ). h.front ++ x) (sym s.all) in
        let one : last_sections (lines_of t.section) ≡ lines_of t.section ∷ [] = cond-true _ _ _ s.text in
        record {
          front = stream;
          parts = sym (append-nil stream) ∙ ap (λ (x : List ℕ). stream ++ x) (sym s.empty);
          read = inr (record {
            over = t.finished ∙ s.over;
            empty = s.empty;
            are_records = record_list stream h.front t.section outcomes longer read parts s.none
                (subst (λ (x : List (List (List ℕ))). AreOutcomes 1 (read.sections ++ x) longer) (sym one)
                (AreOutcomes-push read.sections (lines_of h.front) (lines_of t.section) 1 outcomes outcome read.are_sections read.are_outcomes is_next));
          });
          place = places;
          line = omega (arith, t.line, h.line, s.count, ap (λ (x : List ℕ). length (lines_of x)) parts, ap length (lines_of-append h.front t.section read.whole), length-append (lines_of h.front) (lines_of t.section));
          fed = t.fed ∙ h.fed;
        }

    cases : TakesLines old.finished old.pending t.section new.pending t.lines → AreRead h.front outcomes ⊎ AreAllRead stream outcomes old → HasRead stream longer new
    cases takes (inr all) =
        let less = TakesLines-less old.finished old.pending t.section new.pending t.lines takes in
        absurd (omega (arith, less.shorter, ap length all.empty))
    cases (inl s) (inl read) = section read s (part_of old.finished old.pending t.section new.pending s.cut)
    cases (inr s) (inl read) = last read s
