-- Each kind of line is read again from its text.
use Rattle.std.proofs.Common.{◌≡◌, ℕ, ◌-◌, ◌^◌, true, List, [], ◌∷◌, ◌++◌, refl, sym, ap, ◌∙◌, arith}
use Rattle.std.specs.Prelude.{Option, Some, option_map}
use Rattle.std.proofs.lemmas.List.{append-nil, append_cancel_right}
use lib.Chars.{codes}
use Rattle.hit_report.specs.HitLines.{map_text, name_text}
use Rattle.hit_report.specs.RecordLines.{code_word, spaced}
use Rattle.report_text.specs.ReportText.{withdraw_line}
use Rattle.htss_defs.specs.declared.history.Hit.{Hit}
use Rattle.htss_defs.specs.declared.shape.Shape.{Shape}
use Rattle.htss_defs.specs.FileName.{IsFileName}
use Rattle.htss_defs.specs.Name.{IsName}
use Rattle.report_text.specs.declared.report.LoadLine.{LoadLine}
use Rattle.report_text.specs.declared.report.LoadLine.TheVariants.{Published, Refused, DataFull, NoPage, ChainFull, LogFull}
use Rattle.report_text.specs.declared.report.WithdrawLine.{WithdrawLine}
use Rattle.report_text.specs.declared.report.WithdrawLine.TheVariants.{At, Unknown, Gone, LogFull as NoEntry}
use Rattle.report_text.specs.declared.report.LogLine.{LogLine}
use Rattle.report_text.specs.declared.report.LogLine.TheVariants.{Publish, Withdraw as Withdrawn}
use Rattle.report_lines.specs.declared.line.Line.{Line}
use Rattle.report_lines.specs.declared.line.Line.TheVariants.{Header, Load, Answer, Loaded, Withdraw, Search, NotRead, OneHit, HitsEnd, OverBudget, Log, Event, End}
use Rattle.report_text.specs.Values.{AreShapeNumbers, IsHitLine, IsLoadLine, IsLogLine, IsRefusal, IsU8, IsU16, IsU32, IsU64, IsWithdrawLine}
use Rattle.report_lines.specs.Lines.{IsLine, line_text}
use Rattle.report_lines.specs.Reader.{answer_as, callers_at, data_full_at, event_at, file_at, header_at, hit_at, hits_at, last_number, line_as, line_at, load_at, logged_as, number_at, publish_at, published_at, read_on, refused_at, search_as, search_at, shape_at, short_as, sizes_at, unpublished_at, unpublished_for, withdraw_answer_at, withdraw_at, withdrawn_as, withdrawn_at}
use Rattle.report_lines.proofs.Bodies.{answer_rest, answer_word, callers_body, event_body, line_rest, line_whole, line_word, sizes_body}
use Rattle.report_lines.proofs.WordsRead.{labelled_reads, label_reads, last_reads, number_reads, stops, word_reads}
use Rattle.report_lines.proofs.Parts.{file_reads, name_reads, name_stops, refusal_reads}
use Rattle.report_lines.proofs.Maps.{map_reads}

-- what is read goes on with the value
on : {A B : Type 0} {read : Option A} {value : A} {result : Option B} (more : A → Option B) → read ≡ Some value → more value ≡ result → read_on read more ≡ result
on more is others = ap (λ (o : Option _). read_on o more) is ∙ others

made : {A B : Type 0} {read : Option A} {value : A} (make : A → B) → read ≡ Some value → option_map make read ≡ Some (make value)
made make is = ap (option_map make) is

-- ---- numbers of each range

u8 : (n : ℕ) (rest : List ℕ) → IsU8 n → stops rest ≡ true → number_at 255 (spaced n ++ rest) ≡ Some (n, rest)
u8 n rest small end = number_reads 255 n rest (omega arith) (omega arith) end

u16 : (n : ℕ) (rest : List ℕ) → IsU16 n → stops rest ≡ true → number_at 65535 (spaced n ++ rest) ≡ Some (n, rest)
u16 n rest small end = number_reads 65535 n rest (omega arith) (omega arith) end

u32 : (n : ℕ) (rest : List ℕ) → IsU32 n → stops rest ≡ true → number_at (2 ^ 32 - 1) (spaced n ++ rest) ≡ Some (n, rest)
u32 n rest small end = number_reads (2 ^ 32 - 1) n rest (omega arith) (omega arith) end

last32 : (n : ℕ) → IsU32 n → last_number (2 ^ 32 - 1) (spaced n) ≡ Some n
last32 n small = last_reads (2 ^ 32 - 1) n (omega arith) (omega arith)

last64 : (n : ℕ) → IsU64 n → last_number (2 ^ 64 - 1) (spaced n) ≡ Some n
last64 n small = last_reads (2 ^ 64 - 1) n (omega arith) (omega arith)

-- ---- the first line

callers : (shape : Shape) (rest : List ℕ) → AreShapeNumbers shape → stops rest ≡ true
    → callers_at (codes " loaders" ++ (spaced shape.loaders ++ (codes " searchers" ++ (spaced shape.searchers ++ (codes " pages" ++ (spaced shape.pages ++ rest))))))
    ≡ Some (shape.loaders, shape.searchers, shape.pages, rest)
unfolding callers_at
callers shape rest are end =
    on _ (labelled_reads (codes "loaders") 255 shape.loaders _ refl (omega arith) (omega (arith, are.loaders)) refl)
    (on _ (labelled_reads (codes "searchers") 255 shape.searchers _ refl (omega arith) (omega (arith, are.searchers)) refl)
    (made _ (labelled_reads (codes "pages") (2 ^ 32 - 1) shape.pages rest refl (omega arith) (omega (arith, are.pages)) end)))

sizes : (shape : Shape) (rest : List ℕ) → AreShapeNumbers shape → stops rest ≡ true
    → sizes_at (codes " room" ++ (spaced shape.room ++ (codes " log" ++ (spaced shape.log ++ (codes " chain" ++ (spaced shape.chain ++ rest))))))
    ≡ Some (shape.room, shape.log, shape.chain, rest)
unfolding sizes_at
sizes shape rest are end =
    on _ (labelled_reads (codes "room") (2 ^ 32 - 1) shape.room _ refl (omega arith) (omega (arith, are.room)) refl)
    (on _ (labelled_reads (codes "log") (2 ^ 32 - 1) shape.log _ refl (omega arith) (omega (arith, are.log)) refl)
    (made _ (labelled_reads (codes "chain") (2 ^ 32 - 1) shape.chain rest refl (omega arith) (omega (arith, are.chain)) end)))

shape_reads : (shape : Shape) (rest : List ℕ) → AreShapeNumbers shape → stops rest ≡ true → shape_at (callers_body shape (sizes_body shape rest)) ≡ Some (shape, rest)
unfolding shape_at
shape_reads shape rest are end = on _ (callers shape (sizes_body shape rest) are refl) (made _ (sizes shape rest are end))

header_reads : (shape : Shape) (budget : ℕ) → AreShapeNumbers shape → IsU64 budget
    → line_at (codes "htss 1" ++ callers_body shape (sizes_body shape (codes " budget" ++ spaced budget))) ≡ Some (Header shape budget)
unfolding line_at line_as header_at
header_reads shape budget are b =
    on _ (label_reads (codes "1") _ refl refl)
    (on _ (shape_reads shape (codes " budget" ++ spaced budget) are refl)
    (on _ (label_reads (codes "budget") _ refl refl)
    (made _ (last64 budget b))))

-- ---- lines of a load

file_last : (file : List ℕ) → IsFileName file → file_at (32 ∷ file) ≡ Some (file, [])
file_last file is = ap (λ (f : List ℕ). file_at (32 ∷ f)) (sym (append-nil file)) ∙ file_reads file [] is refl

load_reads : (line : ℕ) (file : List ℕ) → IsU32 line → IsFileName file → line_at (codes "load" ++ (spaced line ++ 32 ∷ file)) ≡ Some (Load line file)
unfolding line_at load_at
load_reads line file l f = on _ (u32 line _ l refl) (on _ (file_last file f) refl)

published_reads : (number : ℕ) (name : List ℕ) → IsU32 number → IsName name → line_at (codes "published" ++ (spaced number ++ name_text name)) ≡ Some (Answer (Published number name))
unfolding line_at line_as short_as answer_as published_at
published_reads number name n is = made _ (on _ (u32 number _ n (name_stops name)) (made _ (name_reads name is)))

refused_reads : (place line code : ℕ) → IsU32 place → IsRefusal line code
    → line_at (codes "refused" ++ (spaced place ++ (spaced line ++ (spaced code ++ 32 ∷ code_word code)))) ≡ Some (Answer (Refused place line code))
unfolding line_at line_as short_as answer_as refused_at
refused_reads place line code p is = made _ (on _ (u32 place _ p refl) (made _ (refusal_reads line code is)))

data_full_reads : (place left need : ℕ) → IsU32 place → IsU32 left → IsU32 need
    → line_at (codes "unpublished" ++ (spaced place ++ (codes " DataFull" ++ (spaced left ++ spaced need)))) ≡ Some (Answer (DataFull place left need))
unfolding line_at line_as short_as answer_as unpublished_at unpublished_for data_full_at
data_full_reads place left need p l n =
    made _ (on _ (u32 place _ p refl) (on _ (word_reads (codes "DataFull") _ refl refl) (on _ (u32 left _ l refl) (made _ (last32 need n)))))

no_page_reads : (place : ℕ) → IsU32 place → line_at (codes "unpublished" ++ (spaced place ++ codes " NoPage")) ≡ Some (Answer (NoPage place))
unfolding line_at line_as short_as answer_as unpublished_at unpublished_for
no_page_reads place p = made _ (on _ (u32 place _ p refl) (on _ (word_reads (codes "NoPage") [] refl refl) refl))

chain_full_reads : (place pages : ℕ) → IsU32 place → IsU32 pages → line_at (codes "unpublished" ++ (spaced place ++ (codes " ChainFull" ++ spaced pages))) ≡ Some (Answer (ChainFull place pages))
unfolding line_at line_as short_as answer_as unpublished_at unpublished_for
chain_full_reads place pages p n = made _ (on _ (u32 place _ p refl) (on _ (word_reads (codes "ChainFull") _ refl refl) (made _ (last32 pages n))))

log_full_reads : (place front : ℕ) → IsU32 place → IsU32 front → line_at (codes "unpublished" ++ (spaced place ++ (codes " LogFull" ++ spaced front))) ≡ Some (Answer (LogFull place front))
unfolding line_at line_as short_as answer_as unpublished_at unpublished_for
log_full_reads place front p n = made _ (on _ (u32 place _ p refl) (on _ (word_reads (codes "LogFull") _ refl refl) (made _ (last32 front n))))

-- the end of a refusal, apart from its LF
-- ---- lines of one number

loaded_reads : (count : ℕ) → IsU32 count → line_at (codes "loaded" ++ spaced count) ≡ Some (Loaded count)
unfolding line_at line_as short_as
loaded_reads count c = made _ (last32 count c)

overbudget_reads : (budget : ℕ) → IsU64 budget → line_at (codes "overbudget" ++ spaced budget) ≡ Some (OverBudget budget)
unfolding line_at line_as short_as
overbudget_reads budget b = made _ (last64 budget b)

log_reads : (count : ℕ) → IsU32 count → line_at (codes "log" ++ spaced count) ≡ Some (Log count)
unfolding line_at line_as short_as
log_reads count c = made _ (last32 count c)

-- ---- withdrawals

withdraw_reads : (line number : ℕ) (answer : WithdrawLine) → IsU32 line → IsU32 number → IsWithdrawLine answer
    → line_at (codes "withdraw" ++ (spaced line ++ (spaced number ++ withdraw_line answer))) ≡ Some (Withdraw line number answer)
unfolding line_at line_as withdraw_at withdraw_answer_at withdrawn_as
withdraw_reads line number (At event) l n a = on _ (u32 line _ l refl) (on _ (u32 number _ n refl) (made _ (on _ (word_reads (codes "at") _ refl refl) (on _ (last32 event a) refl))))
withdraw_reads line number (Unknown front) l n a = on _ (u32 line _ l refl) (on _ (u32 number _ n refl) (made _ (on _ (word_reads (codes "Unknown") _ refl refl) (on _ (last32 front a) refl))))
withdraw_reads line number (Gone at) l n a = on _ (u32 line _ l refl) (on _ (u32 number _ n refl) (made _ (on _ (word_reads (codes "Gone") _ refl refl) (on _ (last32 at a) refl))))
withdraw_reads line number (NoEntry front) l n a = on _ (u32 line _ l refl) (on _ (u32 number _ n refl) (made _ (on _ (word_reads (codes "LogFull") _ refl refl) (on _ (last32 front a) refl))))

-- ---- lines of a search

search_reads : (line : ℕ) (file : List ℕ) (front : ℕ) → IsU32 line → IsFileName file → IsU32 front
    → line_at (codes "search" ++ (spaced line ++ (32 ∷ file ++ (codes " front" ++ spaced front)))) ≡ Some (Search line file front)
unfolding line_at search_at search_as
search_reads line file front l f n =
    on _ (u32 line _ l refl) (on _ (file_reads file _ f refl) (on _ (word_reads (codes "front") _ refl refl) (made _ (last32 front n))))

not_read_reads : (line : ℕ) (file : List ℕ) (at code : ℕ) → IsU32 line → IsFileName file → IsRefusal at code
    → line_at (codes "search" ++ (spaced line ++ (32 ∷ file ++ (codes " refused" ++ (spaced at ++ (spaced code ++ 32 ∷ code_word code)))))) ≡ Some (NotRead line file at code)
unfolding line_at search_at search_as
not_read_reads line file at code l f r =
    on _ (u32 line _ l refl) (on _ (file_reads file _ f refl) (on _ (word_reads (codes "refused") _ refl refl) (made _ (refusal_reads at code r))))

hit_reads : (hit : Hit) → IsHitLine hit → line_at (codes "hit" ++ (spaced hit.number ++ (32 ∷ map_text hit.map ++ name_text hit.name))) ≡ Some (OneHit hit)
unfolding line_at line_as hit_at
hit_reads hit are =
    on _ (u32 hit.number _ are.number refl)
    (on _ (map_reads hit.map (name_text hit.name) are.long.0 are.long.1 are.places (name_stops hit.name))
    (made _ (name_reads hit.name are.name)))

hits_reads : (count rows records : ℕ) → IsU32 count → IsU64 rows → IsU32 records
    → line_at (codes "hits" ++ (spaced count ++ (codes " rows" ++ (spaced rows ++ (codes " records" ++ spaced records))))) ≡ Some (HitsEnd count rows records)
unfolding line_at line_as hits_at
hits_reads count rows records c r s =
    on _ (u32 count _ c refl)
    (on _ (labelled_reads (codes "rows") (2 ^ 64 - 1) rows _ refl (omega arith) (omega arith) refl)
    (on _ (label_reads (codes "records") _ refl refl)
    (made _ (last32 records s))))

-- ---- events

event_reads : (number : ℕ) (event : LogLine) → IsU32 number → IsLogLine event → line_at (codes "event" ++ (spaced number ++ event_body event)) ≡ Some (Event number event)
unfolding line_at line_as event_at logged_as publish_at withdrawn_at
event_reads number (Publish loader atoms bonds name) n are =
    on _ (u32 number _ n refl) (on _ (word_reads (codes "publish") _ refl refl)
    (made _ (on _ (u8 loader _ are.0 refl) (on _ (u16 atoms _ are.1 refl) (on _ (u16 bonds _ are.2 (name_stops name)) (made _ (name_reads name are.3)))))))
event_reads number (Withdrawn loader target) n are =
    on _ (u32 number _ n refl) (on _ (word_reads (codes "withdraw") _ refl refl)
    (made _ (on _ (u8 loader _ are.0 refl) (made _ (last32 target are.1)))))

-- ---- each line

answer_reads : (answer : LoadLine) → IsLoadLine answer → line_at (answer_word answer ++ answer_rest answer) ≡ Some (Answer answer)
answer_reads (Published number name) are = published_reads number name are.0 are.1
answer_reads (Refused place line code) are = refused_reads place line code are.0 are.1
answer_reads (DataFull place left need) are = data_full_reads place left need are.0 are.1 are.2
answer_reads (NoPage place) are = no_page_reads place are
answer_reads (ChainFull place pages) are = chain_full_reads place pages are.0 are.1
answer_reads (LogFull place front) are = log_full_reads place front are.0 are.1

end_reads : line_at (codes "end") ≡ Some End
unfolding line_at line_as short_as
end_reads = refl

pub line_reads : (line : Line) → IsLine line → line_at (line_word line ++ line_rest line) ≡ Some line
line_reads (Header shape budget) are = header_reads shape budget are.0 are.1
line_reads (Load line file) are = load_reads line file are.0 are.1
line_reads (Answer answer) are = answer_reads answer are
line_reads (Loaded count) are = loaded_reads count are
line_reads (Withdraw line number answer) are = withdraw_reads line number answer are.0 are.1 are.2
line_reads (Search line file front) are = search_reads line file front are.0 are.1 are.2
line_reads (NotRead line file at code) are = not_read_reads line file at code are.0 are.1 are.2
line_reads (OneHit hit) are = hit_reads hit are
line_reads (HitsEnd count rows records) are = hits_reads count rows records are.0 are.1 are.2
line_reads (OverBudget budget) are = overbudget_reads budget are
line_reads (Log count) are = log_reads count are
line_reads (Event number event) are = event_reads number event are.0 are.1
line_reads End are = end_reads

pub read_again : (text : List ℕ) (line : Line) → IsLine line → line_text line ≡ text ++ 10 ∷ [] → line_at text ≡ Some line
read_again text line are is =
    ap line_at (append_cancel_right text (line_word line ++ line_rest line) (10 ∷ []) (sym is ∙ line_whole line)) ∙ line_reads line are
