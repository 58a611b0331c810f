-- A line of a report has one LF, its last byte.
use Rattle.std.proofs.Common.{◌≡◌, ◌≢◌, ◌⊎◌, ℕ, suc, ◌+◌, ◌<◌, ◌≤◌, ◌^◌, ◌%◌, Bool, true, false, not, List, [], ◌∷◌, ◌++◌, refl, sym, ap, ◌∙◌, inl, inr, append_assoc, arith}
use Rattle.std.specs.Prelude.{◌==◌, if◌then◌else◌, nat_lt, All, decimal}
use Rattle.std.specs.List.{flat_map, list_all}
use Rattle.std.proofs.lemmas.Bool.{cond-true, cond-false, cases_Bool}
use Rattle.std.proofs.lemmas.Fmt.{decimal_by_steps}
use Rattle.std.proofs.lemmas.List.Folds.{list_all-append}
use lib.Chars.{codes}
use Rattle.htss_defs.specs.declared.history.Hit.{Hit}
use Rattle.htss_defs.specs.declared.shape.Shape.{Shape}
use Rattle.htss_defs.specs.FileName.{IsFileName}
use Rattle.htss_defs.specs.Name.{IsName, IsVisible}
use Rattle.hit_report.specs.HitLines.{hit_line, map_text, name_text, overbudget_line}
use Rattle.hit_report.specs.RecordLines.{code_word, refusal_text, refused_line, spaced}
use Rattle.report_text.specs.ReportText.{callers_text, data_full_line, event_line, event_part, front_text, full_line, header_text, hits_end, job_text, load_line, loaded_line, log_count_line, no_page_line, publish_part, published_line, refused_part, sizes_text, unpublished_part, withdraw_line, withdraw_part, withdraw_text}
use Rattle.report_text.specs.declared.report.LoadLine.{LoadLine}
use Rattle.report_text.specs.declared.report.LoadLine.TheVariants.{Published, Refused, DataFull, NoPage, ChainFull, LogFull}
use Rattle.report_text.specs.declared.report.WithdrawLine.{WithdrawLine}
use Rattle.report_text.specs.declared.report.WithdrawLine.TheVariants.{At, Unknown, Gone, LogFull as NoEntry}
use Rattle.report_text.specs.declared.report.LogLine.{LogLine}
use Rattle.report_text.specs.declared.report.LogLine.TheVariants.{Publish, Withdraw as Withdrawn}
use Rattle.report_lines.specs.Lines.{IsLine, line_text}
use Rattle.report_text.specs.Values.{AreShapeNumbers, HasWord, IsHitLine, IsLoadLine, IsLogLine, IsRefusal, IsU16, IsWithdrawLine}
use Rattle.report_lines.specs.declared.line.Line.{Line}
use Rattle.report_lines.specs.declared.line.Line.TheVariants.{Header, Load, Answer, Loaded, Withdraw, Search, NotRead, OneHit, HitsEnd, OverBudget, Log, Event, End}

-- no byte is an LF
abbrev pub no_lf : List ℕ → Bool
no_lf bytes = list_all (λ byte. not (byte == 10)) bytes

pub record IsClear (bytes : List ℕ) : Type 0 where
  pub none : no_lf bytes ≡ true

-- one LF, the last byte
pub record IsOneLine (text : List ℕ) : Type 0 where
  pub front : List ℕ
  pub clear : IsClear front
  pub spelled : text ≡ front ++ 10 ∷ []

-- ---- bytes without an LF

word : (bytes : List ℕ) → no_lf bytes ≡ true → IsClear bytes
word bytes is = record { none = is }

joined : {a b : List ℕ} → IsClear a → IsClear b → IsClear (a ++ b)
joined {a} {b} p q = record { none = list_all-append (λ byte. not (byte == 10)) a b ∙ rw (p.none, q.none) refl }

pub far_byte : (b : ℕ) → b ≢ 10 → not (b == 10) ≡ true
far_byte b ne = grind arith

far : (P : ℕ → Type 0) → ((b : ℕ) → P b → 10 < b) → (bytes : List ℕ) → All P bytes → no_lf bytes ≡ true
far P above [] all = refl
far P above (b ∷ bytes) all =
    let here : 10 < b = above b (all 0 b (omega arith)) in
    rw (far_byte b (omega arith)) (far P above bytes (λ k d lt. all (suc k) d (omega arith)))

decimal_clear : (n : ℕ) → n < 2 ^ 64 → IsClear (decimal n)
decimal_clear = decimal_by_steps (λ m ds. IsClear ds)
    (λ m lt. word ((48 + m) ∷ []) (rw (far_byte (48 + m) (omega arith)) refl))
    (λ m ds large before. joined before (word ((48 + m % 10) ∷ []) (rw (far_byte (48 + m % 10) (omega arith)) refl)))

spaced_clear : (n : ℕ) → n < 2 ^ 64 → IsClear (spaced n)
spaced_clear n small = word (spaced n) (decimal_clear n small).none

name_clear : (name : List ℕ) → IsName name → IsClear (name_text name)
name_clear [] is = word [] refl
name_clear (b ∷ bs) is = word (32 ∷ b ∷ bs) (far IsVisible (λ b v. omega arith) (b ∷ bs) is.visible)

file_clear : (file : List ℕ) → IsFileName file → IsClear (32 ∷ file)
file_clear file is = word (32 ∷ file) (far (λ byte. (33 ≤ byte) × (byte ≤ 126)) (λ b v. omega arith) file is.visible)

comma_clear : (place : ℕ) → IsU16 place → IsClear (44 ∷ decimal place)
comma_clear place small = word (44 ∷ decimal place) (decimal_clear place (omega arith)).none

places_clear : (places : List ℕ) → All (λ place. (1 ≤ place) × IsU16 place) places → IsClear (flat_map (λ x. 44 ∷ decimal x) places)
places_clear [] all = word [] refl
places_clear (place ∷ places) all = joined (comma_clear place (all 0 place (omega arith)).1) (places_clear places (λ k d lt. all (suc k) d (omega arith)))

map_clear : (places : List ℕ) → All (λ place. (1 ≤ place) × IsU16 place) places → IsClear (map_text places)
map_clear [] all = word [] refl
map_clear (place ∷ places) all =
    let here : IsU16 place = (all 0 place (omega arith)).1 in
    joined (decimal_clear place (omega arith)) (places_clear places (λ k d lt. all (suc k) d (omega arith)))

pick : (c k : ℕ) (a b : List ℕ) → no_lf a ≡ true → no_lf b ≡ true → no_lf (if c == k then a else b) ≡ true
pick c k a b p q = go (cases_Bool (c == k))
  where
    go : ((c == k) ≡ true) ⊎ ((c == k) ≡ false) → no_lf (if c == k then a else b) ≡ true
    go (inl is) = ap no_lf (cond-true (c == k) a b is) ∙ p
    go (inr is) = ap no_lf (cond-false (c == k) a b is) ∙ q

word_clear : (code : ℕ) → IsClear (32 ∷ code_word code)
word_clear code = word (32 ∷ code_word code) (
    (pick code 1 _ _ refl (pick code 2 _ _ refl (pick code 3 _ _ refl (pick code 4 _ _ refl (pick code 5 _ _ refl (pick code 6 _ _ refl (pick code 7 _ _ refl (pick code 8 _ _ refl (pick code 9 _ _ refl (pick code 10 _ _ refl (pick code 11 _ _ refl (pick code 12 _ _ refl (pick code 13 _ _ refl (pick code 14 _ _ refl (pick code 20 _ _ refl (pick code 21 _ _ refl (pick code 22 _ _ refl refl))))))))))))))))))

skip : (c k : ℕ) (a b : List ℕ) → c ≢ k → (if c == k then a else b) ≡ b
skip c k a b ne = cond-false (c == k) a b (grind arith)

no_word : (code : ℕ) → 22 < code → code_word code ≡ []
no_word code large =
    skip code 1 _ _ (omega arith) ∙ skip code 2 _ _ (omega arith) ∙ skip code 3 _ _ (omega arith) ∙ skip code 4 _ _ (omega arith) ∙ skip code 5 _ _ (omega arith)
    ∙ skip code 6 _ _ (omega arith) ∙ skip code 7 _ _ (omega arith) ∙ skip code 8 _ _ (omega arith) ∙ skip code 9 _ _ (omega arith) ∙ skip code 10 _ _ (omega arith)
    ∙ skip code 11 _ _ (omega arith) ∙ skip code 12 _ _ (omega arith) ∙ skip code 13 _ _ (omega arith) ∙ skip code 14 _ _ (omega arith) ∙ skip code 20 _ _ (omega arith)
    ∙ skip code 21 _ _ (omega arith) ∙ skip code 22 _ _ (omega arith)

small_code : (code : ℕ) → HasWord code → code < 2 ^ 64
small_code code has = go (cases_Bool (nat_lt 22 code))
  where
    go : (nat_lt 22 code ≡ true) ⊎ (nat_lt 22 code ≡ false) → code < 2 ^ 64
    go (inl large) = absurd (has (no_word code (grind arith)))
    go (inr small) = let low : code ≤ 22 = grind arith in omega arith

-- ---- lines

ended : {a : List ℕ} → IsClear a → IsOneLine (a ++ 10 ∷ [])
ended {a} clear = record { front = a; clear = clear; spelled = refl }

after : {a t : List ℕ} → IsClear a → IsOneLine t → IsOneLine (a ++ t)
after {a} {t} p q = record {
  front = a ++ q.front;
  clear = joined p q.clear;
  spelled = ap (λ (s : List ℕ). a ++ s) q.spelled ∙ sym (append_assoc a q.front (10 ∷ []));
}

callers_clear : (shape : Shape) → AreShapeNumbers shape → IsClear (callers_text shape)
unfolding callers_text
callers_clear shape is = joined (joined (joined (joined (joined (word (codes " loaders") refl) (spaced_clear shape.loaders (omega (arith, is.loaders)))) (word (codes " searchers") refl)) (spaced_clear shape.searchers (omega (arith, is.searchers)))) (word (codes " pages") refl)) (spaced_clear shape.pages (omega (arith, is.pages)))

sizes_clear : (shape : Shape) → AreShapeNumbers shape → IsClear (sizes_text shape)
unfolding sizes_text
sizes_clear shape is = joined (joined (joined (joined (joined (word (codes " room") refl) (spaced_clear shape.room (omega (arith, is.room)))) (word (codes " log") refl)) (spaced_clear shape.log (omega (arith, is.log)))) (word (codes " chain") refl)) (spaced_clear shape.chain (omega (arith, is.chain)))

one_header : (shape : Shape) (budget : ℕ) → AreShapeNumbers shape → budget < 2 ^ 64 → IsOneLine (header_text shape budget)
unfolding header_text
one_header shape budget is small = ended (joined (joined (joined (joined (word (codes "htss 1") refl) (callers_clear shape is)) (sizes_clear shape is)) (word (codes " budget") refl)) (spaced_clear budget small))

job_clear : (name : List ℕ) (line : ℕ) (file : List ℕ) → IsClear name → line < 2 ^ 64 → IsFileName file → IsClear (job_text name line file)
unfolding job_text
job_clear name line file clear small is = joined (joined (clear) (spaced_clear line small)) (file_clear file is)

one_published : (number : ℕ) (name : List ℕ) → number < 2 ^ 64 → IsName name → IsOneLine (published_line number name)
unfolding published_line
one_published number name small is = ended (joined (joined (word (codes "published") refl) (spaced_clear number small)) (name_clear name is))

one_refusal : (line code : ℕ) → IsRefusal line code → IsOneLine (refusal_text line code)
unfolding refusal_text
one_refusal line code is = ended (joined (joined (spaced_clear line is.0) (spaced_clear code (small_code code is.1))) (word_clear code))

one_refused : (place line code : ℕ) → place < 2 ^ 64 → IsRefusal line code → IsOneLine (refused_line place line code)
unfolding refused_line
one_refused place line code small is = after (joined (word (codes "refused") refl) (spaced_clear place small)) (one_refusal line code is)

unpublished_clear : (place : ℕ) → place < 2 ^ 64 → IsClear (unpublished_part place)
unfolding unpublished_part
unpublished_clear place small = joined (word (codes "unpublished") refl) (spaced_clear place small)

one_data_full : (place left need : ℕ) → place < 2 ^ 64 → left < 2 ^ 64 → need < 2 ^ 64 → IsOneLine (data_full_line place left need)
unfolding data_full_line
one_data_full place left need small-place small-left small-need = ended (joined (joined (joined (unpublished_clear place small-place) (word (codes " DataFull") refl)) (spaced_clear left small-left)) (spaced_clear need small-need))

one_no_page : (place : ℕ) → place < 2 ^ 64 → IsOneLine (no_page_line place)
unfolding no_page_line
one_no_page place small = ended (joined (unpublished_clear place small) (word (codes " NoPage") refl))

one_full : (place : ℕ) (cause : List ℕ) (number : ℕ) → place < 2 ^ 64 → IsClear cause → number < 2 ^ 64 → IsOneLine (full_line place cause number)
unfolding full_line
one_full place cause number small-place clear small = ended (joined (joined (unpublished_clear place small-place) (clear)) (spaced_clear number small))

one_answer : (answer : LoadLine) → IsLoadLine answer → IsOneLine (load_line answer)
one_answer (Published number name) is = one_published number name (omega (arith, is.0)) is.1
one_answer (Refused place line code) is = one_refused place line code (omega (arith, is.0)) is.1
one_answer (DataFull place left need) is = one_data_full place left need (omega (arith, is.0)) (omega (arith, is.1)) (omega (arith, is.2))
one_answer (NoPage place) is = one_no_page place (omega (arith, is))
one_answer (ChainFull place pages) is = one_full place (codes " ChainFull") pages (omega (arith, is.0)) (word (codes " ChainFull") refl) (omega (arith, is.1))
one_answer (LogFull place front) is = one_full place (codes " LogFull") front (omega (arith, is.0)) (word (codes " LogFull") refl) (omega (arith, is.1))

one_loaded : (count : ℕ) → count < 2 ^ 64 → IsOneLine (loaded_line count)
unfolding loaded_line
one_loaded count small = ended (joined (word (codes "loaded") refl) (spaced_clear count small))

withdraw_clear : (answer : WithdrawLine) → IsWithdrawLine answer → IsClear (withdraw_line answer)
withdraw_clear (At event) is = joined (word (codes " at") refl) (spaced_clear event (omega (arith, is)))
withdraw_clear (Unknown front) is = joined (word (codes " Unknown") refl) (spaced_clear front (omega (arith, is)))
withdraw_clear (Gone at) is = joined (word (codes " Gone") refl) (spaced_clear at (omega (arith, is)))
withdraw_clear (NoEntry front) is = joined (word (codes " LogFull") refl) (spaced_clear front (omega (arith, is)))

one_withdraw : (line number : ℕ) (answer : WithdrawLine) → line < 2 ^ 64 → number < 2 ^ 64 → IsWithdrawLine answer → IsOneLine (withdraw_text line number answer)
unfolding withdraw_text
one_withdraw line number answer small-line small is = ended (joined (joined (joined (word (codes "withdraw") refl) (spaced_clear line small-line)) (spaced_clear number small)) (withdraw_clear answer is))

one_front : (front : ℕ) → front < 2 ^ 64 → IsOneLine (front_text front)
unfolding front_text
one_front front small = ended (joined (word (codes " front") refl) (spaced_clear front small))

one_not_read : (line code : ℕ) → IsRefusal line code → IsOneLine (refused_part line code)
unfolding refused_part
one_not_read line code is = after (word (codes " refused") refl) (one_refusal line code is)

one_hit : (hit : Hit) → IsHitLine hit → IsOneLine (hit_line hit)
unfolding hit_line
one_hit hit is = ended (joined (joined (joined (joined (word (codes "hit ") refl) (decimal_clear hit.number (omega (arith, is.number)))) (word (32 ∷ []) refl)) (map_clear hit.map is.places)) (name_clear hit.name is.name))

one_hits_end : (count rows records : ℕ) → count < 2 ^ 64 → rows < 2 ^ 64 → records < 2 ^ 64 → IsOneLine (hits_end count rows records)
unfolding hits_end
one_hits_end count rows records small-count small-rows small = ended (joined (joined (joined (joined (joined (word (codes "hits") refl) (spaced_clear count small-count)) (word (codes " rows") refl)) (spaced_clear rows small-rows)) (word (codes " records") refl)) (spaced_clear records small))

one_overbudget : (budget : ℕ) → budget < 2 ^ 64 → IsOneLine (overbudget_line budget)
unfolding overbudget_line
one_overbudget budget small = ended (joined (word (codes "overbudget ") refl) (decimal_clear budget small))

one_log : (count : ℕ) → count < 2 ^ 64 → IsOneLine (log_count_line count)
unfolding log_count_line
one_log count small = ended (joined (word (codes "log") refl) (spaced_clear count small))

publish_clear : (loader atoms bonds : ℕ) (name : List ℕ) → loader < 2 ^ 64 → atoms < 2 ^ 64 → bonds < 2 ^ 64 → IsName name → IsClear (publish_part loader atoms bonds name)
unfolding publish_part
publish_clear loader atoms bonds name small-loader small-atoms small is = joined (joined (joined (joined (word (codes " publish") refl) (spaced_clear loader small-loader)) (spaced_clear atoms small-atoms)) (spaced_clear bonds small)) (name_clear name is)

withdrawn_clear : (loader number : ℕ) → loader < 2 ^ 64 → number < 2 ^ 64 → IsClear (withdraw_part loader number)
unfolding withdraw_part
withdrawn_clear loader number small-loader small = joined (joined (word (codes " withdraw") refl) (spaced_clear loader small-loader)) (spaced_clear number small)

event_clear : (event : LogLine) → IsLogLine event → IsClear (event_part event)
event_clear (Publish loader atoms bonds name) is = publish_clear loader atoms bonds name (omega (arith, is.0)) (omega (arith, is.1)) (omega (arith, is.2)) is.3
event_clear (Withdrawn loader number) is = withdrawn_clear loader number (omega (arith, is.0)) (omega (arith, is.1))

one_event : (number : ℕ) (event : LogLine) → number < 2 ^ 64 → IsLogLine event → IsOneLine (event_line number event)
unfolding event_line
one_event number event small is = ended (joined (joined (word (codes "event") refl) (spaced_clear number small)) (event_clear event is))

pub line_ends : (line : Line) → IsLine line → IsOneLine (line_text line)
line_ends (Header shape budget) is = one_header shape budget is.0 is.1
line_ends (Load line file) is = ended (job_clear (codes "load") line file (word (codes "load") refl) (omega (arith, is.0)) is.1)
line_ends (Answer answer) is = one_answer answer is
line_ends (Loaded count) is = one_loaded count (omega (arith, is))
line_ends (Withdraw line number answer) is = one_withdraw line number answer (omega (arith, is.0)) (omega (arith, is.1)) is.2
line_ends (Search line file front) is = after (job_clear (codes "search") line file (word (codes "search") refl) (omega (arith, is.0)) is.1) (one_front front (omega (arith, is.2)))
line_ends (NotRead line file at code) is = after (job_clear (codes "search") line file (word (codes "search") refl) (omega (arith, is.0)) is.1) (one_not_read at code is.2)
line_ends (OneHit hit) is = one_hit hit is
line_ends (HitsEnd count rows records) is = one_hits_end count rows records (omega (arith, is.0)) is.1 (omega (arith, is.2))
line_ends (OverBudget budget) is = one_overbudget budget is
line_ends (Log count) is = one_log count (omega (arith, is))
line_ends (Event number event) is = one_event number event (omega (arith, is.0)) is.1
line_ends End is = ended (word (codes "end") refl)
