-- What each line that was read is.
use Rattle.std.proofs.Common.{◌≡◌, ℕ, ◌-◌, ◌^◌, true, List, [], ◌∷◌, ◌++◌, refl, sym, ap, ◌∙◌, ◌≢◌, Bool, false, subst, arith}
use Rattle.std.specs.Prelude.{Option, Some, None, Result, Ok, Err, IfOk, IfSome, option_map, bytes_eq, if◌then◌else◌}
use Rattle.std.proofs.lemmas.List.{append-nil}
use lib.Chars.{codes}
use Rattle.hit_report.specs.HitLines.{map_text}
use Rattle.hit_report.specs.RecordLines.{spaced}
use Rattle.report_text.specs.ReportText.{withdraw_line}
use Rattle.htss_defs.specs.declared.shape.Shape.{Shape}
use Rattle.htss_defs.specs.FileName.{IsFileName}
use Rattle.report_text.specs.declared.report.LoadLine.{LoadLine}
use Rattle.report_text.specs.declared.report.LoadLine.TheVariants.{NoPage, ChainFull, LogFull}
use Rattle.report_text.specs.declared.report.WithdrawLine.{WithdrawLine}
use Rattle.report_text.specs.declared.report.WithdrawLine.TheVariants.{At, Unknown, Gone, LogFull as NoEntry}
use Rattle.report_text.specs.declared.report.LogLine.{LogLine}
use Rattle.report_lines.specs.declared.line.Line.{Line}
use Rattle.report_lines.specs.declared.line.Line.TheVariants.{Load, Answer, Loaded, Search, NotRead, OverBudget, Log, End}
use Rattle.report_text.specs.Values.{AreShapeNumbers, IsLoadLine, IsLogLine, IsU8, IsU32, IsWithdrawLine}
use Rattle.report_lines.specs.Lines.{IsLine, line_text}
use Rattle.report_lines.specs.Reader.{answer_as, at_end, callers_at, labelled_at, label_at, map_at, name_at, refusal_at, word_at, word_back, word_front, data_full_at, event_at, file_at, header_at, hit_at, hits_at, last_number, line_as, line_at, load_at, logged_as, number_at, publish_at, published_at, refused_at, search_as, search_at, shape_at, short_as, sizes_at, unpublished_at, unpublished_for, withdraw_answer_at, withdraw_at, withdrawn_as, withdrawn_at}
use Rattle.report_lines.proofs.Bodies.{answer_rest, answer_word, callers_body, event_body, line_rest, line_whole, line_word, sizes_body}
use Rattle.std.proofs.lemmas.Option.{same_Some}
use Rattle.report_lines.proofs.ReadAgain.{read_again}
use Rattle.report_lines.proofs.WordsRead.{eq_same}
use Rattle.report_lines.proofs.WordsMean.{cut_whole, end_some, label_some, labelled_some, last_some, map_some, number_some, read_some, word_some}
use Rattle.report_lines.proofs.PartsMean.{file_some, map_at_some, name_some, refusal_some}

-- the line is in its ranges, and its text is these words
pub record IsFrom (first text : List ℕ) (line : Line) : Type 0 where
  pub valid : IsLine line
  pub word : line_word line ≡ first
  pub rest : line_rest line ≡ text

pub record IsAnswerFrom (first text : List ℕ) (answer : LoadLine) : Type 0 where
  pub valid : IsLoadLine answer
  pub word : answer_word answer ≡ first
  pub rest : answer_rest answer ≡ text

-- what stands in front of what was read
after : {x y z : List ℕ} (front : List ℕ) → x ≡ front ++ y → y ≡ z → x ≡ front ++ z
after front is more = is ∙ ap (λ (l : List ℕ). front ++ l) more

after_two : {x y z : List ℕ} (front next : List ℕ) → x ≡ front ++ (next ++ y) → y ≡ z → x ≡ front ++ (next ++ z)
after_two front next is more = is ∙ ap (λ (l : List ℕ). front ++ (next ++ l)) more

-- ---- the first line

abbrev AreCallers : List ℕ → ℕ × ℕ × ℕ × List ℕ → Type 0
AreCallers text x = IsU8 x.0 × IsU8 x.1 × IsU32 x.2 × (text ≡ codes " loaders" ++ (spaced x.0 ++ (codes " searchers" ++ (spaced x.1 ++ (codes " pages" ++ (spaced x.2 ++ x.3))))))

callers_some : (text : List ℕ) (x : ℕ × ℕ × ℕ × List ℕ) → callers_at text ≡ Some x → AreCallers text x
unfolding callers_at
callers_some text x is =
    let a = read_some _ (labelled_at (codes "loaders") 255 text) x is in
    let loaders = labelled_some (codes "loaders") 255 text a.0 a.1 in
    let b = read_some _ (labelled_at (codes "searchers") 255 a.0.1) x a.2 in
    let searchers = labelled_some (codes "searchers") 255 a.0.1 b.0 b.1 in
    let c = map_some _ (labelled_at (codes "pages") (2 ^ 32 - 1) b.0.1) x b.2 in
    let pages = labelled_some (codes "pages") (2 ^ 32 - 1) b.0.1 c.0 c.1 in
    subst (AreCallers text) c.2 (
      omega (arith, loaders.0),
      omega (arith, searchers.0),
      omega (arith, pages.0),
      after_two (codes " loaders") (spaced a.0.0) loaders.1 (after_two (codes " searchers") (spaced b.0.0) searchers.1 pages.1),
    )

abbrev AreSizes : List ℕ → ℕ × ℕ × ℕ × List ℕ → Type 0
AreSizes text x = IsU32 x.0 × IsU32 x.1 × IsU32 x.2 × (text ≡ codes " room" ++ (spaced x.0 ++ (codes " log" ++ (spaced x.1 ++ (codes " chain" ++ (spaced x.2 ++ x.3))))))

sizes_some : (text : List ℕ) (x : ℕ × ℕ × ℕ × List ℕ) → sizes_at text ≡ Some x → AreSizes text x
unfolding sizes_at
sizes_some text x is =
    let a = read_some _ (labelled_at (codes "room") (2 ^ 32 - 1) text) x is in
    let room = labelled_some (codes "room") (2 ^ 32 - 1) text a.0 a.1 in
    let b = read_some _ (labelled_at (codes "log") (2 ^ 32 - 1) a.0.1) x a.2 in
    let log = labelled_some (codes "log") (2 ^ 32 - 1) a.0.1 b.0 b.1 in
    let c = map_some _ (labelled_at (codes "chain") (2 ^ 32 - 1) b.0.1) x b.2 in
    let chain = labelled_some (codes "chain") (2 ^ 32 - 1) b.0.1 c.0 c.1 in
    subst (AreSizes text) c.2 (
      omega (arith, room.0),
      omega (arith, log.0),
      omega (arith, chain.0),
      after_two (codes " room") (spaced a.0.0) room.1 (after_two (codes " log") (spaced b.0.0) log.1 chain.1),
    )

abbrev IsShaped : List ℕ → Shape × List ℕ → Type 0
IsShaped text x = AreShapeNumbers x.0 × (text ≡ callers_body x.0 (sizes_body x.0 x.1))

shape_some : (text : List ℕ) (x : Shape × List ℕ) → shape_at text ≡ Some x → IsShaped text x
unfolding shape_at
shape_some text x is =
    let a = read_some _ (callers_at text) x is in
    let callers = callers_some text a.0 a.1 in
    let b = map_some _ (sizes_at a.0.3) x a.2 in
    let sizes = sizes_some a.0.3 b.0 b.1 in
    subst (IsShaped text) b.2 (
      record { loaders = callers.0; searchers = callers.1; pages = callers.2; room = sizes.0; log = sizes.1; chain = sizes.2 },
      callers.3 ∙ ap (λ (l : List ℕ). codes " loaders" ++ (spaced a.0.0 ++ (codes " searchers" ++ (spaced a.0.1 ++ (codes " pages" ++ (spaced a.0.2 ++ l)))))) sizes.3,
    )

header_some : (text : List ℕ) (line : Line) → header_at text ≡ Some line → IsFrom (codes "htss") text line
unfolding header_at
header_some text line is =
    let a = read_some _ (label_at (codes "1") text) line is in
    let one = label_some (codes "1") text a.0 a.1 in
    let b = read_some _ (shape_at a.0) line a.2 in
    let shape = shape_some a.0 b.0 b.1 in
    let c = read_some _ (label_at (codes "budget") b.0.1) line b.2 in
    let label = label_some (codes "budget") b.0.1 c.0 c.1 in
    let d = map_some _ (last_number (2 ^ 64 - 1) c.0) line c.2 in
    let budget = last_some (2 ^ 64 - 1) c.0 d.0 d.1 in
    subst (IsFrom (codes "htss") text) d.2 (record {
      valid = (shape.0, omega (arith, budget.0));
      word = refl;
      rest = sym (after (codes " 1") one (shape.1 ∙ ap (λ (l : List ℕ). callers_body b.0.0 (sizes_body b.0.0 l)) (after (codes " budget") label budget.1)));
    })

-- ---- lines of a load

load_some : (text : List ℕ) (line : Line) → load_at text ≡ Some line → IsFrom (codes "load") text line
unfolding load_at
load_some text line is =
    let a = read_some _ (number_at (2 ^ 32 - 1) text) line is in
    let number = number_some (2 ^ 32 - 1) text a.0 a.1 in
    let b = read_some _ (file_at a.0.1) line a.2 in
    let file = file_some a.0.1 b.0 b.1 in
    let end = end_some b.0.1 (Load a.0.0 b.0.0) line b.2 in
    subst (IsFrom (codes "load") text) end.1 (record {
      valid = (omega (arith, number.0), file.0);
      word = refl;
      rest = sym (after (spaced a.0.0) number.1 (file.1 ∙ ap (λ (l : List ℕ). 32 ∷ b.0.0 ++ l) end.0 ∙ append-nil (32 ∷ b.0.0)));
    })

published_some : (text : List ℕ) (answer : LoadLine) → published_at text ≡ Some answer → IsAnswerFrom (codes "published") text answer
unfolding published_at
published_some text answer is =
    let a = read_some _ (number_at (2 ^ 32 - 1) text) answer is in
    let number = number_some (2 ^ 32 - 1) text a.0 a.1 in
    let b = map_some _ (name_at a.0.1) answer a.2 in
    let name = name_some a.0.1 b.0 b.1 in
    subst (IsAnswerFrom (codes "published") text) b.2 (record {
      valid = (omega (arith, number.0), name.0);
      word = refl;
      rest = sym (after (spaced a.0.0) number.1 name.1);
    })

refused_some : (text : List ℕ) (answer : LoadLine) → refused_at text ≡ Some answer → IsAnswerFrom (codes "refused") text answer
unfolding refused_at
refused_some text answer is =
    let a = read_some _ (number_at (2 ^ 32 - 1) text) answer is in
    let number = number_some (2 ^ 32 - 1) text a.0 a.1 in
    let b = map_some _ (refusal_at a.0.1) answer a.2 in
    let refusal = refusal_some a.0.1 b.0 b.1 in
    subst (IsAnswerFrom (codes "refused") text) b.2 (record {
      valid = (omega (arith, number.0), refusal.0);
      word = refl;
      rest = sym (after (spaced a.0.0) number.1 refusal.1);
    })

-- what stands after the place of a record that was not published
record IsCause (place : ℕ) (text : List ℕ) (answer : LoadLine) : Type 0 where
  valid : IsU32 place → IsLoadLine answer
  word : answer_word answer ≡ codes "unpublished"
  rest : answer_rest answer ≡ spaced place ++ text

data_full_some : (place : ℕ) (text : List ℕ) (answer : LoadLine) → data_full_at place text ≡ Some answer → IsCause place (codes " DataFull" ++ text) answer
unfolding data_full_at
data_full_some place text answer is =
    let a = read_some _ (number_at (2 ^ 32 - 1) text) answer is in
    let left = number_some (2 ^ 32 - 1) text a.0 a.1 in
    let b = map_some _ (last_number (2 ^ 32 - 1) a.0.1) answer a.2 in
    let need = last_some (2 ^ 32 - 1) a.0.1 b.0 b.1 in
    subst (IsCause place (codes " DataFull" ++ text)) b.2 (record {
      valid = λ small. (small, omega (arith, left.0), omega (arith, need.0));
      word = refl;
      rest = ap (λ (l : List ℕ). spaced place ++ (codes " DataFull" ++ l)) (sym (after (spaced a.0.0) left.1 need.1));
    })

no_page_some : (place : ℕ) (text : List ℕ) (answer : LoadLine) → at_end text (NoPage place) ≡ Some answer → IsCause place (codes " NoPage" ++ text) answer
no_page_some place text answer is =
    let end = end_some text (NoPage place) answer is in
    subst (IsCause place (codes " NoPage" ++ text)) end.1 (record {
      valid = λ small. small;
      word = refl;
      rest = ap (λ (l : List ℕ). spaced place ++ (codes " NoPage" ++ l)) (sym end.0);
    })

chain_full_some : (place : ℕ) (text : List ℕ) (answer : LoadLine) → option_map (λ pages. ChainFull place pages) (last_number (2 ^ 32 - 1) text) ≡ Some answer → IsCause place (codes " ChainFull" ++ text) answer
chain_full_some place text answer is =
    let a = map_some _ (last_number (2 ^ 32 - 1) text) answer is in
    let pages = last_some (2 ^ 32 - 1) text a.0 a.1 in
    subst (IsCause place (codes " ChainFull" ++ text)) a.2 (record {
      valid = λ small. (small, omega (arith, pages.0));
      word = refl;
      rest = ap (λ (l : List ℕ). spaced place ++ (codes " ChainFull" ++ l)) (sym pages.1);
    })

log_full_some : (place : ℕ) (text : List ℕ) (answer : LoadLine) → option_map (λ front. LogFull place front) (last_number (2 ^ 32 - 1) text) ≡ Some answer → IsCause place (codes " LogFull" ++ text) answer
log_full_some place text answer is =
    let a = map_some _ (last_number (2 ^ 32 - 1) text) answer is in
    let front = last_some (2 ^ 32 - 1) text a.0 a.1 in
    subst (IsCause place (codes " LogFull" ++ text)) a.2 (record {
      valid = λ small. (small, omega (arith, front.0));
      word = refl;
      rest = ap (λ (l : List ℕ). spaced place ++ (codes " LogFull" ++ l)) (sym front.1);
    })

-- a choice by the word that was read
by_word : {A : Type 0} (P : List ℕ → A → Type 0) (word expected : List ℕ) (one other : Option A) (value : A)
    → (one ≡ Some value → P expected value) → (other ≡ Some value → P word value) → (if bytes_eq word expected then one else other) ≡ Some value → P word value
by_word {A} P word expected one other value first second is = go (bytes_eq word expected) refl is
  where
    go : (b : Bool) → bytes_eq word expected ≡ b → (if b then one else other) ≡ Some value → P word value
    go true same is = subst (λ (w : List ℕ). P w value) (sym (eq_same word expected same)) (first is)
    go false apart is = second is

nothing : {A : Type 0} {P : Type 0} (value : A) → None ≡ Some value → P
nothing value is = absurd cc

cause_some : (place : ℕ) (cause text : List ℕ) (answer : LoadLine) → unpublished_for place cause text ≡ Some answer → IsCause place (32 ∷ cause ++ text) answer
unfolding unpublished_for
cause_some place cause text answer =
    by_word (λ w. IsCause place (32 ∷ w ++ text)) cause (codes "DataFull") (data_full_at place text) _ answer (data_full_some place text answer)
    (by_word (λ w. IsCause place (32 ∷ w ++ text)) cause (codes "NoPage") (at_end text (NoPage place)) _ answer (no_page_some place text answer)
    (by_word (λ w. IsCause place (32 ∷ w ++ text)) cause (codes "ChainFull") (option_map (λ pages. ChainFull place pages) (last_number (2 ^ 32 - 1) text)) _ answer (chain_full_some place text answer)
    (by_word (λ w. IsCause place (32 ∷ w ++ text)) cause (codes "LogFull") (option_map (λ front. LogFull place front) (last_number (2 ^ 32 - 1) text)) None answer (log_full_some place text answer)
    (nothing answer))))

unpublished_some : (text : List ℕ) (answer : LoadLine) → unpublished_at text ≡ Some answer → IsAnswerFrom (codes "unpublished") text answer
unfolding unpublished_at
unpublished_some text answer is =
    let a = read_some _ (number_at (2 ^ 32 - 1) text) answer is in
    let place = number_some (2 ^ 32 - 1) text a.0 a.1 in
    let b = read_some _ (word_at a.0.1) answer a.2 in
    let cause = cause_some a.0.0 b.0.0 b.0.1 answer b.2 in
    record {
      valid = cause.valid (omega (arith, place.0));
      word = cause.word;
      rest = cause.rest ∙ sym (after (spaced a.0.0) place.1 (word_some a.0.1 b.0 b.1));
    }

answer_some : (word text : List ℕ) (answer : LoadLine) → answer_as word text ≡ Some answer → IsAnswerFrom word text answer
unfolding answer_as
answer_some word text answer =
    by_word (λ w. IsAnswerFrom w text) word (codes "published") (published_at text) _ answer (published_some text answer)
    (by_word (λ w. IsAnswerFrom w text) word (codes "refused") (refused_at text) _ answer (refused_some text answer)
    (by_word (λ w. IsAnswerFrom w text) word (codes "unpublished") (unpublished_at text) None answer (unpublished_some text answer)
    (nothing answer)))

-- ---- withdrawals

record IsWithdrawn (text : List ℕ) (answer : WithdrawLine) : Type 0 where
  valid : IsWithdrawLine answer
  rest : withdraw_line answer ≡ text

withdrawn_some : (word : List ℕ) (number : ℕ) (answer : WithdrawLine) → IsU32 number → withdrawn_as word number ≡ Some answer → IsWithdrawn (32 ∷ word ++ spaced number) answer
unfolding withdrawn_as
withdrawn_some word number answer small =
    by_word (λ w. IsWithdrawn (32 ∷ w ++ spaced number)) word (codes "at") (Some (At number)) _ answer (λ is. subst ((λ (w : List ℕ). IsWithdrawn (32 ∷ w ++ spaced number)) (codes "at")) (same_Some (At number) answer is) (record { valid = small; rest = refl }))
    (by_word (λ w. IsWithdrawn (32 ∷ w ++ spaced number)) word (codes "Unknown") (Some (Unknown number)) _ answer (λ is. subst ((λ (w : List ℕ). IsWithdrawn (32 ∷ w ++ spaced number)) (codes "Unknown")) (same_Some (Unknown number) answer is) (record { valid = small; rest = refl }))
    (by_word (λ w. IsWithdrawn (32 ∷ w ++ spaced number)) word (codes "Gone") (Some (Gone number)) _ answer (λ is. subst ((λ (w : List ℕ). IsWithdrawn (32 ∷ w ++ spaced number)) (codes "Gone")) (same_Some (Gone number) answer is) (record { valid = small; rest = refl }))
    (by_word (λ w. IsWithdrawn (32 ∷ w ++ spaced number)) word (codes "LogFull") (Some (NoEntry number)) None answer (λ is. subst ((λ (w : List ℕ). IsWithdrawn (32 ∷ w ++ spaced number)) (codes "LogFull")) (same_Some (NoEntry number) answer is) (record { valid = small; rest = refl }))
    (nothing answer))))

withdraw_answer_some : (text : List ℕ) (answer : WithdrawLine) → withdraw_answer_at text ≡ Some answer → IsWithdrawn text answer
unfolding withdraw_answer_at
withdraw_answer_some text answer is =
    let a = read_some _ (word_at text) answer is in
    let b = read_some _ (last_number (2 ^ 32 - 1) a.0.1) answer a.2 in
    let number = last_some (2 ^ 32 - 1) a.0.1 b.0 b.1 in
    let made = withdrawn_some a.0.0 b.0 answer (omega (arith, number.0)) b.2 in
    record { valid = made.valid; rest = made.rest ∙ sym (after (32 ∷ a.0.0) (word_some text a.0 a.1) number.1) }

withdraw_some : (text : List ℕ) (line : Line) → withdraw_at text ≡ Some line → IsFrom (codes "withdraw") text line
unfolding withdraw_at
withdraw_some text line is =
    let a = read_some _ (number_at (2 ^ 32 - 1) text) line is in
    let first = number_some (2 ^ 32 - 1) text a.0 a.1 in
    let b = read_some _ (number_at (2 ^ 32 - 1) a.0.1) line a.2 in
    let number = number_some (2 ^ 32 - 1) a.0.1 b.0 b.1 in
    let c = map_some _ (withdraw_answer_at b.0.1) line b.2 in
    let answer = withdraw_answer_some b.0.1 c.0 c.1 in
    subst (IsFrom (codes "withdraw") text) c.2 (record {
      valid = (omega (arith, first.0), omega (arith, number.0), answer.valid);
      word = refl;
      rest = sym (after (spaced a.0.0) first.1 (after (spaced b.0.0) number.1 (sym answer.rest)));
    })

-- ---- lines of a search

record IsSearched (line : ℕ) (file text : List ℕ) (read : Line) : Type 0 where
  valid : IsU32 line → IsFileName file → IsLine read
  word : line_word read ≡ codes "search"
  rest : line_rest read ≡ spaced line ++ (32 ∷ file ++ text)

front_some : (line : ℕ) (file text : List ℕ) (read : Line) → option_map (λ front. Search line file front) (last_number (2 ^ 32 - 1) text) ≡ Some read → IsSearched line file (codes " front" ++ text) read
front_some line file text read is =
    let a = map_some _ (last_number (2 ^ 32 - 1) text) read is in
    let front = last_some (2 ^ 32 - 1) text a.0 a.1 in
    subst (IsSearched line file (codes " front" ++ text)) a.2 (record {
      valid = λ small named. (small, named, omega (arith, front.0));
      word = refl;
      rest = ap (λ (l : List ℕ). spaced line ++ (32 ∷ file ++ (codes " front" ++ l))) (sym front.1);
    })

not_read_some : (line : ℕ) (file text : List ℕ) (read : Line) → option_map (λ refusal. NotRead line file refusal.0 refusal.1) (refusal_at text) ≡ Some read → IsSearched line file (codes " refused" ++ text) read
not_read_some line file text read is =
    let a = map_some _ (refusal_at text) read is in
    let refusal = refusal_some text a.0 a.1 in
    subst (IsSearched line file (codes " refused" ++ text)) a.2 (record {
      valid = λ small named. (small, named, refusal.0);
      word = refl;
      rest = ap (λ (l : List ℕ). spaced line ++ (32 ∷ file ++ (codes " refused" ++ l))) (sym refusal.1);
    })

searched_some : (line : ℕ) (file word text : List ℕ) (read : Line) → search_as line file word text ≡ Some read → IsSearched line file (32 ∷ word ++ text) read
unfolding search_as
searched_some line file word text read =
    by_word (λ w. IsSearched line file (32 ∷ w ++ text)) word (codes "front") (option_map (λ front. Search line file front) (last_number (2 ^ 32 - 1) text)) _ read (front_some line file text read)
    (by_word (λ w. IsSearched line file (32 ∷ w ++ text)) word (codes "refused") (option_map (λ refusal. NotRead line file refusal.0 refusal.1) (refusal_at text)) None read (not_read_some line file text read)
    (nothing read))

search_some : (text : List ℕ) (line : Line) → search_at text ≡ Some line → IsFrom (codes "search") text line
unfolding search_at
search_some text line is =
    let a = read_some _ (number_at (2 ^ 32 - 1) text) line is in
    let number = number_some (2 ^ 32 - 1) text a.0 a.1 in
    let b = read_some _ (file_at a.0.1) line a.2 in
    let file = file_some a.0.1 b.0 b.1 in
    let c = read_some _ (word_at b.0.1) line b.2 in
    let made = searched_some a.0.0 b.0.0 c.0.0 c.0.1 line c.2 in
    record {
      valid = made.valid (omega (arith, number.0)) file.0;
      word = made.word;
      rest = made.rest ∙ sym (after (spaced a.0.0) number.1 (after (32 ∷ b.0.0) file.1 (word_some b.0.1 c.0 c.1)));
    }

hit_some : (text : List ℕ) (line : Line) → hit_at text ≡ Some line → IsFrom (codes "hit") text line
unfolding hit_at
hit_some text line is =
    let a = read_some _ (number_at (2 ^ 32 - 1) text) line is in
    let number = number_some (2 ^ 32 - 1) text a.0 a.1 in
    let b = read_some _ (map_at a.0.1) line a.2 in
    let places = map_at_some a.0.1 b.0 b.1 in
    let c = map_some _ (name_at b.0.1) line b.2 in
    let name = name_some b.0.1 c.0 c.1 in
    subst (IsFrom (codes "hit") text) c.2 (record {
      valid = record { number = omega (arith, number.0); name = name.0; long = places.0.long; places = places.0.each };
      word = refl;
      rest = sym (after (spaced a.0.0) number.1 (after (32 ∷ map_text b.0.0) places.1 name.1));
    })

hits_some : (text : List ℕ) (line : Line) → hits_at text ≡ Some line → IsFrom (codes "hits") text line
unfolding hits_at
hits_some text line is =
    let a = read_some _ (number_at (2 ^ 32 - 1) text) line is in
    let count = number_some (2 ^ 32 - 1) text a.0 a.1 in
    let b = read_some _ (labelled_at (codes "rows") (2 ^ 64 - 1) a.0.1) line a.2 in
    let rows = labelled_some (codes "rows") (2 ^ 64 - 1) a.0.1 b.0 b.1 in
    let c = read_some _ (label_at (codes "records") b.0.1) line b.2 in
    let label = label_some (codes "records") b.0.1 c.0 c.1 in
    let d = map_some _ (last_number (2 ^ 32 - 1) c.0) line c.2 in
    let records = last_some (2 ^ 32 - 1) c.0 d.0 d.1 in
    subst (IsFrom (codes "hits") text) d.2 (record {
      valid = (omega (arith, count.0), omega (arith, rows.0), omega (arith, records.0));
      word = refl;
      rest = sym (after (spaced a.0.0) count.1 (after_two (codes " rows") (spaced b.0.0) rows.1 (after (codes " records") label records.1)));
    })

-- ---- events

record IsLogged (text : List ℕ) (event : LogLine) : Type 0 where
  valid : IsLogLine event
  rest : event_body event ≡ text

publish_some : (text : List ℕ) (event : LogLine) → publish_at text ≡ Some event → IsLogged (codes " publish" ++ text) event
unfolding publish_at
publish_some text event is =
    let a = read_some _ (number_at 255 text) event is in
    let loader = number_some 255 text a.0 a.1 in
    let b = read_some _ (number_at 65535 a.0.1) event a.2 in
    let atoms = number_some 65535 a.0.1 b.0 b.1 in
    let c = read_some _ (number_at 65535 b.0.1) event b.2 in
    let bonds = number_some 65535 b.0.1 c.0 c.1 in
    let d = map_some _ (name_at c.0.1) event c.2 in
    let name = name_some c.0.1 d.0 d.1 in
    subst (IsLogged (codes " publish" ++ text)) d.2 (record {
      valid = (omega (arith, loader.0), omega (arith, atoms.0), omega (arith, bonds.0), name.0);
      rest = ap (λ (l : List ℕ). codes " publish" ++ l) (sym (after (spaced a.0.0) loader.1 (after (spaced b.0.0) atoms.1 (after (spaced c.0.0) bonds.1 name.1))));
    })

withdrawal_some : (text : List ℕ) (event : LogLine) → withdrawn_at text ≡ Some event → IsLogged (codes " withdraw" ++ text) event
unfolding withdrawn_at
withdrawal_some text event is =
    let a = read_some _ (number_at 255 text) event is in
    let loader = number_some 255 text a.0 a.1 in
    let b = map_some _ (last_number (2 ^ 32 - 1) a.0.1) event a.2 in
    let target = last_some (2 ^ 32 - 1) a.0.1 b.0 b.1 in
    subst (IsLogged (codes " withdraw" ++ text)) b.2 (record {
      valid = (omega (arith, loader.0), omega (arith, target.0));
      rest = ap (λ (l : List ℕ). codes " withdraw" ++ l) (sym (after (spaced a.0.0) loader.1 target.1));
    })

logged_some : (word text : List ℕ) (event : LogLine) → logged_as word text ≡ Some event → IsLogged (32 ∷ word ++ text) event
unfolding logged_as
logged_some word text event =
    by_word (λ w. IsLogged (32 ∷ w ++ text)) word (codes "publish") (publish_at text) _ event (publish_some text event)
    (by_word (λ w. IsLogged (32 ∷ w ++ text)) word (codes "withdraw") (withdrawn_at text) None event (withdrawal_some text event)
    (nothing event))

event_some : (text : List ℕ) (line : Line) → event_at text ≡ Some line → IsFrom (codes "event") text line
unfolding event_at
event_some text line is =
    let a = read_some _ (number_at (2 ^ 32 - 1) text) line is in
    let number = number_some (2 ^ 32 - 1) text a.0 a.1 in
    let b = read_some _ (word_at a.0.1) line a.2 in
    let c = map_some _ (logged_as b.0.0 b.0.1) line b.2 in
    let event = logged_some b.0.0 b.0.1 c.0 c.1 in
    subst (IsFrom (codes "event") text) c.2 (record {
      valid = (omega (arith, number.0), event.valid);
      word = refl;
      rest = sym (after (spaced a.0.0) number.1 (word_some a.0.1 b.0 b.1 ∙ sym event.rest));
    })

-- ---- lines by their first word

loaded_some : (text : List ℕ) (line : Line) → option_map (λ count. Loaded count) (last_number (2 ^ 32 - 1) text) ≡ Some line → IsFrom (codes "loaded") text line
loaded_some text line is =
    let a = map_some _ (last_number (2 ^ 32 - 1) text) line is in
    let count = last_some (2 ^ 32 - 1) text a.0 a.1 in
    subst (IsFrom (codes "loaded") text) a.2 (record { valid = omega (arith, count.0); word = refl; rest = sym count.1 })

overbudget_some : (text : List ℕ) (line : Line) → option_map (λ budget. OverBudget budget) (last_number (2 ^ 64 - 1) text) ≡ Some line → IsFrom (codes "overbudget") text line
overbudget_some text line is =
    let a = map_some _ (last_number (2 ^ 64 - 1) text) line is in
    let budget = last_some (2 ^ 64 - 1) text a.0 a.1 in
    subst (IsFrom (codes "overbudget") text) a.2 (record { valid = omega (arith, budget.0); word = refl; rest = sym budget.1 })

log_some : (text : List ℕ) (line : Line) → option_map (λ count. Log count) (last_number (2 ^ 32 - 1) text) ≡ Some line → IsFrom (codes "log") text line
log_some text line is =
    let a = map_some _ (last_number (2 ^ 32 - 1) text) line is in
    let count = last_some (2 ^ 32 - 1) text a.0 a.1 in
    subst (IsFrom (codes "log") text) a.2 (record { valid = omega (arith, count.0); word = refl; rest = sym count.1 })

last_line_some : (text : List ℕ) (line : Line) → at_end text End ≡ Some line → IsFrom (codes "end") text line
last_line_some text line is =
    let end = end_some text End line is in
    subst (IsFrom (codes "end") text) end.1 (record { valid = tt; word = refl; rest = sym end.0 })

answer_line_some : (word text : List ℕ) (line : Line) → option_map (λ answer. Answer answer) (answer_as word text) ≡ Some line → IsFrom word text line
answer_line_some word text line is =
    let a = map_some _ (answer_as word text) line is in
    let answer = answer_some word text a.0 a.1 in
    subst (IsFrom word text) a.2 (record { valid = answer.valid; word = answer.word; rest = answer.rest })

short_some : (word text : List ℕ) (line : Line) → short_as word text ≡ Some line → IsFrom word text line
unfolding short_as
short_some word text line =
    by_word (λ w. IsFrom w text) word (codes "loaded") (option_map (λ count. Loaded count) (last_number (2 ^ 32 - 1) text)) _ line (loaded_some text line)
    (by_word (λ w. IsFrom w text) word (codes "overbudget") (option_map (λ budget. OverBudget budget) (last_number (2 ^ 64 - 1) text)) _ line (overbudget_some text line)
    (by_word (λ w. IsFrom w text) word (codes "log") (option_map (λ count. Log count) (last_number (2 ^ 32 - 1) text)) _ line (log_some text line)
    (by_word (λ w. IsFrom w text) word (codes "end") (at_end text End) (option_map (λ answer. Answer answer) (answer_as word text)) line (last_line_some text line)
    (answer_line_some word text line))))

line_some : (word text : List ℕ) (line : Line) → line_as word text ≡ Some line → IsFrom word text line
unfolding line_as
line_some word text line =
    by_word (λ w. IsFrom w text) word (codes "hit") (hit_at text) _ line (hit_some text line)
    (by_word (λ w. IsFrom w text) word (codes "hits") (hits_at text) _ line (hits_some text line)
    (by_word (λ w. IsFrom w text) word (codes "event") (event_at text) _ line (event_some text line)
    (by_word (λ w. IsFrom w text) word (codes "withdraw") (withdraw_at text) _ line (withdraw_some text line)
    (by_word (λ w. IsFrom w text) word (codes "htss") (header_at text) (short_as word text) line (header_some text line)
    (short_some word text line)))))

at_some : (text : List ℕ) (line : Line) → line_at text ≡ Some line → IsFrom (word_front text) (word_back text) line
unfolding line_at
at_some text line =
    by_word (λ w. IsFrom w (word_back text)) (word_front text) (codes "load") (load_at (word_back text)) _ line (load_some (word_back text) line)
    (by_word (λ w. IsFrom w (word_back text)) (word_front text) (codes "search") (search_at (word_back text)) (line_as (word_front text) (word_back text)) line (search_some (word_back text) line)
    (line_some (word_front text) (word_back text) line))

-- the line that is read of a text is in its ranges and writes the text
pub line_means : (text : List ℕ) (line : Line) → line_at text ≡ Some line → IsLine line × (line_text line ≡ text ++ 10 ∷ [])
line_means text line is =
    let made = at_some text line is in (
      made.valid,
      line_whole line ∙ ap (λ (l : List ℕ). l ++ 10 ∷ [])
          (ap (λ (w : List ℕ). w ++ line_rest line) made.word ∙ ap (λ (l : List ℕ). word_front text ++ l) made.rest ∙ sym (cut_whole text)),
    )

-- what `read_line` ensures of the line that is read
pub some_answer : {E : Type 0} (text : List ℕ) (result : Result (Option Line) E) → IfOk result (λ read. read ≡ line_at text)
    → IfOk result (λ read. IfSome read (λ line. IsLine line × (line_text line ≡ text ++ 10 ∷ [])))
some_answer text (Ok None) is = tt
some_answer text (Ok (Some line)) is = line_means text line (sym is)
some_answer text (Err fault) is = tt

none_some : (line : Line) → None ≡ Some line → ⊥
none_some line is = cc

pub none_answer : {E : Type 0} (text : List ℕ) (result : Result (Option Line) E) → IfOk result (λ read. read ≡ line_at text)
    → IfOk result (λ read. read ≡ None → (line : Line) → IsLine line → line_text line ≢ text ++ 10 ∷ [])
none_answer text (Ok read) is = λ none line valid same. none_some line (sym none ∙ is ∙ read_again text line valid same)
none_answer text (Err fault) is = tt
