-- The records of a file, answered one after the other.
use Rattle.std.proofs.Common.{◌≡◌, Bool, true, ℕ, ◌+◌, List, [], ◌∷◌, ◌++◌, length, map, sym, ap, subst, ◌∙◌, refl, arith, rules}
use Rattle.std.proofs.lemmas.List.{map-append, length-map, append-nil}
use Rattle.htss_defs.specs.declared.shape.Shape.{Shape}
use Rattle.mol_section.specs.SectionRecord.{Outcome}
use Rattle.ctfile.specs.RecordList.{IsRecordList}
use Rattle.ctfile.specs.Stream.{HasRead, ReaderState, empty_state}
use Rattle.ctfile.proofs.Answered.{HasRead-empty}
use Rattle.report_text.specs.declared.report.LoadLine.{LoadLine}
use Rattle.report_rules.specs.Answers.{RecordAnswer, not_accepted, to_record, outcome_of, record_line, record_lines}
use Rattle.board_core.specs.declared.account.Account.{Account}
use Rattle.board_core.proofs.Grown.{grows_same}
use Rattle.board_core.specs.Answers.{answers_in}
use Rattle.board_jobs.specs.Answering.{AreAnswered}
use Rattle.board_jobs.specs.Calls.{Answers, AreLoaded, HaveBegun, IsBegun, IsLoaded}
use Rattle.board_jobs.proofs.Chained.{all_none, answered_both, answered_one}

record_lines-push : (place : ℕ) (records : List RecordAnswer) (one : RecordAnswer) → record_lines place (records ++ one ∷ []) ≡ record_lines place records ++ record_line (place + length records) one ∷ []
record_lines-push place [] one = let at : place ≡ place + 0 = omega arith in ap (λ n. record_line n one ∷ []) at
record_lines-push place (first ∷ records) one =
    let at : place + 1 + length records ≡ place + (length records + 1) = omega arith in
    ap (λ rest. record_line place first ∷ rest) (record_lines-push (place + 1) records one ∙ ap (λ n. record_lines (place + 1) records ++ record_line n one ∷ []) (at ∙ ap (λ n. place + n) (search rules)))

-- nothing is read
pub loaded-none : (k : Shape) (a : Account) (reader : ReaderState) → HasRead [] [] reader → AreLoaded k a a [] reader []
loaded-none k a reader read = record { records = []; read = read; lines_are = refl; who = refl; answers = λ c who. refl }

-- a record is refused by its file
pub refused-answers : (k : Shape) (a : Account) (line code : ℕ) → Answers k a a (to_record (not_accepted line code))
refused-answers k a line code c who = record {
  who = refl;
  noted_are = sym (append-nil (answers_in a.entries));
  seen = omega arith;
  marks = all_none _;
  fresh = all_none _;
  fronts = all_none _;
  used = omega arith;
  says = tt;
  rows = tt;
  read = tt;
  begun = omega arith;
  grows = grows_same a;
}

-- a record more
pub loaded-more : (k : Shape) (start a b : Account) (stream : List ℕ) (reader after : ReaderState) (lines pushed : List LoadLine) (line : LoadLine) (place : ℕ) (one : RecordAnswer)
    → pushed ≡ lines ++ line ∷ []
    → place ≡ reader.place + 1
    → ((stream : List ℕ) (outcomes : List Outcome) → HasRead stream outcomes reader → HasRead stream (outcomes ++ outcome_of one ∷ []) after)
    → line ≡ record_line place one
    → b.who ≡ a.who
    → Answers k a b (to_record one)
    → AreLoaded k start a stream reader lines
    → AreLoaded k start b stream after pushed
loaded-more k start a b stream reader after lines pushed line place one push at reads is same answers before =
    let counted : length (map outcome_of before.records) ≡ length before.records = length-map before.records outcome_of in
    let here : place ≡ 1 + length before.records = omega (arith, at, before.read.place, counted) in
    record {
      records = before.records ++ one ∷ [];
      read = subst (λ outcomes. HasRead stream outcomes after) (sym (map-append outcome_of before.records (one ∷ []))) (reads stream (map outcome_of before.records) before.read);
      lines_are =
          push
          ∙ ap (λ first. first ++ line ∷ []) before.lines_are
          ∙ ap (λ last. record_lines 1 before.records ++ last ∷ []) (is ∙ ap (λ n. record_line n one) here)
          ∙ sym (record_lines-push 1 before.records one);
      who = same ∙ before.who;
      answers = λ c who. subst (λ all. AreAnswered k c start b all) (sym (map-append to_record before.records (one ∷ [])))
          (answered_both k c start a b (map to_record before.records) (to_record one ∷ []) (before.answers c who) (answered_one k c a b (to_record one) (answers c (who ∙ sym before.who))));
    }

-- the bytes before the rest were fed, and the records read so far are answered
pub record IsFedTo (k : Shape) (a b : Account) (bytes rest : List ℕ) (reader : ReaderState) (lines : List LoadLine) : Type 0 where
  pub stream : List ℕ
  pub parts : bytes ≡ stream ++ rest
  pub loaded : AreLoaded k a b stream reader lines

-- all is fed, and the reader has ended
pub loaded-all : (k : Shape) (a b : Account) (bytes : List ℕ) (reader : ReaderState) (lines : List LoadLine)
    → ((outcomes : List Outcome) → HasRead bytes outcomes reader → IsRecordList bytes outcomes)
    → AreLoaded k a b bytes reader lines → IsLoaded k a b bytes lines
loaded-all k a b bytes reader lines all loaded = record {
  records = loaded.records;
  are_all = all (map outcome_of loaded.records) loaded.read;
  lines_are = loaded.lines_are;
  answers = loaded.answers;
}

-- what does not change the records that a reader has read
pub loaded-still : (k : Shape) (a b : Account) (stream after : List ℕ) (reader other : ReaderState) (lines : List LoadLine)
    → ((outcomes : List Outcome) → HasRead stream outcomes reader → HasRead after outcomes other)
    → AreLoaded k a b stream reader lines → AreLoaded k a b after other lines
loaded-still k a b stream after reader other lines reads loaded = record {
  records = loaded.records;
  read = reads (map outcome_of loaded.records) loaded.read;
  lines_are = loaded.lines_are;
  who = loaded.who;
  answers = loaded.answers;
}

-- ---- memory ran out

pub begun-loaded : (k : Shape) (a b : Account) (stream : List ℕ) (reader : ReaderState) (lines : List LoadLine) (over : Bool) → reader.finished ≡ over → AreLoaded k a b stream reader lines → HaveBegun k a b stream over
begun-loaded k a b stream reader lines over told loaded = record { records = loaded.records; reader = reader; told = told; read = loaded.read; answers = loaded.answers }

-- after a record more, of which there is no line
pub begun-more : (k : Shape) (start a b : Account) (stream : List ℕ) (reader after : ReaderState) (lines : List LoadLine) (one : RecordAnswer) (over : Bool) → after.finished ≡ over
    → ((stream : List ℕ) (outcomes : List Outcome) → HasRead stream outcomes reader → HasRead stream (outcomes ++ outcome_of one ∷ []) after)
    → Answers k a b (to_record one)
    → AreLoaded k start a stream reader lines
    → HaveBegun k start b stream over
begun-more k start a b stream reader after lines one over told reads answers before = record {
  records = before.records ++ one ∷ [];
  reader = after;
  told = told;
  read = subst (λ outcomes. HasRead stream outcomes after) (sym (map-append outcome_of before.records (one ∷ []))) (reads stream (map outcome_of before.records) before.read);
  answers = λ c who. subst (λ all. AreAnswered k c start b all) (sym (map-append to_record before.records (one ∷ [])))
      (answered_both k c start a b (map to_record before.records) (to_record one ∷ []) (before.answers c who) (answered_one k c a b (to_record one) (answers c (who ∙ sym before.who))));
}

-- of a front of the file
pub begun-front : (k : Shape) (a b : Account) (bytes stream rest : List ℕ) (over : Bool) → bytes ≡ stream ++ rest → (over ≡ true → rest ≡ []) → HaveBegun k a b stream over → IsBegun k a b bytes
begun-front k a b bytes stream rest over parts all begun = record { records = begun.records; first = (stream, rest, begun.reader, parts, begun.read, λ done. all (sym begun.told ∙ done)); answers = begun.answers }

pub begun-none : (k : Shape) (a : Account) (bytes : List ℕ) → IsBegun k a a bytes
begun-none k a bytes = record { records = []; first = ([], bytes, empty_state, refl, HasRead-empty empty_state refl refl refl refl, λ done. absurd cc); answers = λ c who. refl }
