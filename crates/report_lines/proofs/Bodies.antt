-- The text of each line, cut after its first word.
use Rattle.std.proofs.Common.{◌≡◌, ℕ, List, [], ◌∷◌, ◌++◌, refl, append_assoc}
use lib.Chars.{codes}
use Rattle.hit_report.specs.HitLines.{hit_line, map_text, name_text, overbudget_line}
use Rattle.hit_report.specs.RecordLines.{code_word, refusal_text, refused_line, spaced}
use Rattle.report_text.specs.ReportText.{callers_text, data_full_line, event_line, front_text, full_line, header_text, hits_end, job_text, load_line, loaded_line, log_count_line, no_page_line, publish_part, published_line, refused_part, sizes_text, unpublished_part, withdraw_line, withdraw_part, withdraw_text}
use Rattle.htss_defs.specs.declared.shape.Shape.{Shape}
use Rattle.report_text.specs.declared.report.LoadLine.{LoadLine}
use Rattle.report_text.specs.declared.report.LoadLine.TheVariants.{Published, Refused, DataFull, NoPage, ChainFull, LogFull}
use Rattle.report_text.specs.declared.report.LogLine.{LogLine}
use Rattle.report_text.specs.declared.report.LogLine.TheVariants.{Publish, Withdraw as Withdrawn}
use Rattle.report_lines.specs.declared.line.Line.{Line}
use Rattle.report_lines.specs.declared.line.Line.TheVariants.{Header, Load, Answer, Loaded, Withdraw, Search, NotRead, OneHit, HitsEnd, OverBudget, Log, Event, End}
use Rattle.report_lines.specs.Lines.{line_text}

abbrev pub callers_body : Shape → List ℕ → List ℕ
callers_body shape rest = codes " loaders" ++ (spaced shape.loaders ++ (codes " searchers" ++ (spaced shape.searchers ++ (codes " pages" ++ (spaced shape.pages ++ rest)))))

abbrev pub sizes_body : Shape → List ℕ → List ℕ
sizes_body shape rest = codes " room" ++ (spaced shape.room ++ (codes " log" ++ (spaced shape.log ++ (codes " chain" ++ (spaced shape.chain ++ rest)))))

abbrev pub refusal_body : ℕ → ℕ → List ℕ
refusal_body line code = spaced line ++ (spaced code ++ 32 ∷ code_word code)

abbrev pub answer_word : LoadLine → List ℕ
answer_word (Published number name) = codes "published"
answer_word (Refused place line code) = codes "refused"
answer_word (DataFull place left need) = codes "unpublished"
answer_word (NoPage place) = codes "unpublished"
answer_word (ChainFull place pages) = codes "unpublished"
answer_word (LogFull place front) = codes "unpublished"

abbrev pub answer_rest : LoadLine → List ℕ
answer_rest (Published number name) = spaced number ++ name_text name
answer_rest (Refused place line code) = spaced place ++ refusal_body line code
answer_rest (DataFull place left need) = spaced place ++ (codes " DataFull" ++ (spaced left ++ spaced need))
answer_rest (NoPage place) = spaced place ++ codes " NoPage"
answer_rest (ChainFull place pages) = spaced place ++ (codes " ChainFull" ++ spaced pages)
answer_rest (LogFull place front) = spaced place ++ (codes " LogFull" ++ spaced front)

abbrev pub event_body : LogLine → List ℕ
event_body (Publish loader atoms bonds name) = codes " publish" ++ (spaced loader ++ (spaced atoms ++ (spaced bonds ++ name_text name)))
event_body (Withdrawn loader target) = codes " withdraw" ++ (spaced loader ++ spaced target)

abbrev pub line_word : Line → List ℕ
line_word (Header shape budget) = codes "htss"
line_word (Load line file) = codes "load"
line_word (Answer answer) = answer_word answer
line_word (Loaded count) = codes "loaded"
line_word (Withdraw line number answer) = codes "withdraw"
line_word (Search line file front) = codes "search"
line_word (NotRead line file at code) = codes "search"
line_word (OneHit hit) = codes "hit"
line_word (HitsEnd count rows records) = codes "hits"
line_word (OverBudget budget) = codes "overbudget"
line_word (Log count) = codes "log"
line_word (Event number event) = codes "event"
line_word End = codes "end"

abbrev pub line_rest : Line → List ℕ
line_rest (Header shape budget) = codes " 1" ++ callers_body shape (sizes_body shape (codes " budget" ++ spaced budget))
line_rest (Load line file) = spaced line ++ 32 ∷ file
line_rest (Answer answer) = answer_rest answer
line_rest (Loaded count) = spaced count
line_rest (Withdraw line number answer) = spaced line ++ (spaced number ++ withdraw_line answer)
line_rest (Search line file front) = spaced line ++ (32 ∷ file ++ (codes " front" ++ spaced front))
line_rest (NotRead line file at code) = spaced line ++ (32 ∷ file ++ (codes " refused" ++ refusal_body at code))
line_rest (OneHit hit) = spaced hit.number ++ (32 ∷ map_text hit.map ++ name_text hit.name)
line_rest (HitsEnd count rows records) = spaced count ++ (codes " rows" ++ (spaced rows ++ (codes " records" ++ spaced records)))
line_rest (OverBudget budget) = spaced budget
line_rest (Log count) = spaced count
line_rest (Event number event) = spaced number ++ event_body event
line_rest End = []

header_parts : (w l1 n1 l2 n2 l3 n3 l4 n4 l5 n5 l6 n6 l7 n7 end : List ℕ)
    → w ++ (l1 ++ n1 ++ l2 ++ n2 ++ l3 ++ n3) ++ (l4 ++ n4 ++ l5 ++ n5 ++ l6 ++ n6) ++ l7 ++ n7 ++ end
    ≡ (w ++ (l1 ++ (n1 ++ (l2 ++ (n2 ++ (l3 ++ (n3 ++ (l4 ++ (n4 ++ (l5 ++ (n5 ++ (l6 ++ (n6 ++ (l7 ++ n7)))))))))))))) ++ end
header_parts w l1 n1 l2 n2 l3 n3 l4 n4 l5 n5 l6 n6 l7 n7 end = simp append_assoc

refusal_parts : (xs ys ws end : List ℕ) → xs ++ ys ++ 32 ∷ ws ++ end ≡ (xs ++ (ys ++ 32 ∷ ws)) ++ end
refusal_parts xs ys ws end = simp append_assoc

refusal_split : (line code : ℕ) → refusal_text line code ≡ (spaced line ++ (spaced code ++ 32 ∷ code_word code)) ++ 10 ∷ []
unfolding refusal_text
refusal_split line code = refusal_parts (spaced line) (spaced code) (code_word code) (10 ∷ [])

front_parts : (xs ys zs ws end : List ℕ) → ws ≡ zs ++ end → xs ++ ys ++ ws ≡ (xs ++ (ys ++ zs)) ++ end
front_parts xs ys zs ws end is = rw is (simp append_assoc)

search_parts : (a b c d x end : List ℕ) → a ++ b ++ c ++ (d ++ x ++ end) ≡ (a ++ (b ++ (c ++ (d ++ x)))) ++ end
search_parts a b c d x end = simp append_assoc

not_read_parts : (a b c d x y end : List ℕ) → x ≡ y ++ end → a ++ b ++ c ++ (d ++ x) ≡ (a ++ (b ++ (c ++ (d ++ y)))) ++ end
not_read_parts a b c d x y end is = rw is (simp append_assoc)

event_parts : (a b c d x y z end : List ℕ) → a ++ b ++ (c ++ d ++ x ++ y ++ z) ++ end ≡ (a ++ (b ++ (c ++ (d ++ (x ++ (y ++ z)))))) ++ end
event_parts a b c d x y z end = simp append_assoc

withdrawn_parts : (a b c d x end : List ℕ) → a ++ b ++ (c ++ d ++ x) ++ end ≡ (a ++ (b ++ (c ++ (d ++ x)))) ++ end
withdrawn_parts a b c d x end = simp append_assoc

answer_whole : (answer : LoadLine) → load_line answer ≡ (answer_word answer ++ answer_rest answer) ++ 10 ∷ []
unfolding published_line refused_line data_full_line no_page_line full_line unpublished_part
answer_whole (Published number name) = simp append_assoc
answer_whole (Refused place line code) = front_parts (codes "refused") (spaced place) (refusal_body line code) (refusal_text line code) (10 ∷ []) (refusal_split line code)
answer_whole (DataFull place left need) = simp append_assoc
answer_whole (NoPage place) = simp append_assoc
answer_whole (ChainFull place pages) = simp append_assoc
answer_whole (LogFull place front) = simp append_assoc

pub line_whole : (line : Line) → line_text line ≡ (line_word line ++ line_rest line) ++ 10 ∷ []
unfolding header_text callers_text sizes_text job_text loaded_line overbudget_line log_count_line withdraw_text front_text refused_part hit_line hits_end event_line publish_part withdraw_part
line_whole (Header shape budget) =
    header_parts (codes "htss 1") (codes " loaders") (spaced shape.loaders) (codes " searchers") (spaced shape.searchers) (codes " pages") (spaced shape.pages)
    (codes " room") (spaced shape.room) (codes " log") (spaced shape.log) (codes " chain") (spaced shape.chain) (codes " budget") (spaced budget) (10 ∷ [])
line_whole (Load line file) = simp append_assoc
line_whole (Answer answer) = answer_whole answer
line_whole (Loaded count) = simp append_assoc
line_whole (Withdraw line number answer) = simp append_assoc
line_whole (Search line file front) = search_parts (codes "search") (spaced line) (32 ∷ file) (codes " front") (spaced front) (10 ∷ [])
line_whole (NotRead line file at code) = not_read_parts (codes "search") (spaced line) (32 ∷ file) (codes " refused") (refusal_text at code) (refusal_body at code) (10 ∷ []) (refusal_split at code)
line_whole (OneHit hit) = simp append_assoc
line_whole (HitsEnd count rows records) = simp append_assoc
line_whole (OverBudget budget) = simp append_assoc
line_whole (Log count) = simp append_assoc
line_whole (Event number (Publish loader atoms bonds name)) = event_parts (codes "event") (spaced number) (codes " publish") (spaced loader) (spaced atoms) (spaced bonds) (name_text name) (10 ∷ [])
line_whole (Event number (Withdrawn loader target)) = withdrawn_parts (codes "event") (spaced number) (codes " withdraw") (spaced loader) (spaced target) (10 ∷ [])
line_whole End = refl
