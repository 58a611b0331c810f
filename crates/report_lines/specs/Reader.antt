-- How a line of a report, without its LF, is read from its front on (this project's own).
use Rattle.std.specs.Prelude.{ℕ, ◌-◌, ◌^◌, List, [], ◌∷◌, length, slice_get, Option, Some, None, option_and_then}
use Rattle.std.specs.Prelude.{option_map, Bool, true, false, not, ◌&&◌, ◌==◌, nat_le, if◌then◌else◌, decimal, bytes_eq}
use Rattle.std.specs.List.{list_all, slice_split}
use Rattle.std.specs.Str.Parse.{digits_value}
use lib.Chars.{codes}
use Rattle.htss_defs.specs.declared.shape.Shape.{Shape}
use Rattle.hit_report.specs.RecordLines.{code_word}
use Rattle.report_text.specs.declared.report.LoadLine.{LoadLine}
use Rattle.report_text.specs.declared.report.LoadLine.TheVariants.{Published, Refused, DataFull, NoPage, ChainFull}
use Rattle.report_text.specs.declared.report.LoadLine.TheVariants.{LogFull}
use Rattle.report_text.specs.declared.report.WithdrawLine.{WithdrawLine}
use Rattle.report_text.specs.declared.report.WithdrawLine.TheVariants.{At, Unknown, Gone, LogFull as NoEntry}
use Rattle.report_text.specs.declared.report.LogLine.{LogLine}
use Rattle.report_text.specs.declared.report.LogLine.TheVariants.{Publish, Withdraw as Withdrawn}
use Rattle.report_lines.specs.declared.line.Line.{Line}
use Rattle.report_lines.specs.declared.line.Line.TheVariants.{Header, Load, Answer, Loaded, Withdraw, Search, NotRead}
use Rattle.report_lines.specs.declared.line.Line.TheVariants.{OneHit, HitsEnd, OverBudget, Log, Event, End}

-- what is read, and then what is read of that
abbrev pub read_on : {A B : Type 0} → Option A → (A → Option B) → Option B
read_on read more = option_and_then more read

-- a value, where nothing is left
abbrev pub at_end : {A : Type 0} → List ℕ → A → Option A
at_end [] value = Some value
at_end (b ∷ bs) value = None

-- ---- words

abbrev pub is_visible : ℕ → Bool
is_visible b = nat_le 33 b && nat_le b 126

-- the visible bytes at the front, and what follows them
abbrev pub word_front : List ℕ → List ℕ
word_front [] = []
word_front (b ∷ bs) = if is_visible b then b ∷ word_front bs else []

abbrev pub word_back : List ℕ → List ℕ
word_back [] = []
word_back (b ∷ bs) = if is_visible b then word_back bs else b ∷ bs

-- a space and a word, and what follows
unfoldable pub word_at : List ℕ → Option (List ℕ × List ℕ)
word_at [] = None
word_at (b ∷ bs) = if b == 32 then Some (word_front bs, word_back bs) else None

-- what follows a space and this word
unfoldable pub label_at : List ℕ → List ℕ → Option (List ℕ)
label_at label text = read_on (word_at text) (λ word. if bytes_eq word.0 label then Some word.1 else None)

-- ---- numbers

-- the number that is written by the word, without leading zeros
unfoldable pub numeral : ℕ → List ℕ → Option ℕ
numeral most word =
    if bytes_eq word (decimal (digits_value 10 word)) && nat_le (digits_value 10 word) most then Some
    (digits_value 10 word) else None

-- a space and a number, and what follows
unfoldable pub number_at : ℕ → List ℕ → Option (ℕ × List ℕ)
number_at most text = read_on (word_at text) (λ word. option_map (λ n. (n, word.1)) (numeral most word.0))

-- a space, a word, a space and a number, and what follows
unfoldable pub labelled_at : List ℕ → ℕ → List ℕ → Option (ℕ × List ℕ)
labelled_at label most text = read_on (label_at label text) (λ rest. number_at most rest)

-- a space and a number, and no more
unfoldable pub last_number : ℕ → List ℕ → Option ℕ
last_number most text = read_on (number_at most text) (λ n. at_end n.1 n.0)

-- ---- files, names and maps

unfoldable pub is_file_name : List ℕ → Bool
is_file_name word = nat_le 1 (length word) && nat_le (length word) 4096

unfoldable pub file_at : List ℕ → Option (List ℕ × List ℕ)
file_at text = read_on (word_at text) (λ word. if is_file_name word.0 then Some word else None)

abbrev pub is_space : Option ℕ → Bool
is_space None = false
is_space (Some b) = b == 32

abbrev pub is_printable : ℕ → Bool
is_printable b = nat_le 32 b && nat_le b 126

unfoldable pub is_name : List ℕ → Bool
is_name name =
    nat_le (length name) 80 && (list_all is_printable name
    && (not (is_space (slice_get name 0)) && not (is_space (slice_get name (length name - 1)))))

unfoldable pub named : List ℕ → Option (List ℕ)
named name = if is_name name then Some name else None

-- a space and a name, or nothing for the empty name
unfoldable pub name_at : List ℕ → Option (List ℕ)
name_at [] = named []
name_at (b ∷ bs) = if b == 32 && not (length bs == 0) then named bs else None

-- a place of a map, and the places between commas
unfoldable pub place_of : List ℕ → Option ℕ
place_of part = read_on (numeral 65535 part) (λ n. if n == 0 then None else Some n)

abbrev pub places_in : List (List ℕ) → Option (List ℕ)
places_in [] = Some []
places_in (part ∷ parts) = read_on (place_of part) (λ place. option_map (λ places. place ∷ places) (places_in parts))

abbrev pub parts_of : List ℕ → List (List ℕ)
parts_of word = slice_split (λ b. b == 44) word

unfoldable pub places_of : List ℕ → Option (List ℕ)
places_of word = if nat_le (length (parts_of word)) 64 then places_in (parts_of word) else None

unfoldable pub map_at : List ℕ → Option (List ℕ × List ℕ)
map_at text = read_on (word_at text) (λ word. option_map (λ places. (places, word.1)) (places_of word.0))

-- ---- refusals

abbrev pub ends_at : Option (List ℕ) → Bool
ends_at None = false
ends_at (Some []) = true
ends_at (Some (b ∷ bs)) = false

-- a space and the word, which is not empty, and no more
unfoldable pub is_only : List ℕ → List ℕ → Bool
is_only label text = not (length label == 0) && ends_at (label_at label text)

unfoldable pub coded_at : ℕ → List ℕ → Option ℕ
coded_at code text = if is_only (code_word code) text then Some code else None

-- the line and the code, its word and no more
unfoldable pub refusal_at : List ℕ → Option (ℕ × ℕ)
refusal_at text =
    read_on (number_at (2 ^ 64 - 1) text)
    (λ line. read_on (number_at 255 line.1) (λ code. option_map (λ c. (line.0, c)) (coded_at code.0 code.1)))

-- ---- lines, after their first word

unfoldable pub callers_at : List ℕ → Option (ℕ × ℕ × ℕ × List ℕ)
callers_at text =
    read_on (labelled_at (codes "loaders") 255 text) (λ loaders.
    read_on (labelled_at (codes "searchers") 255 loaders.1) (λ searchers.
    option_map (λ pages. (loaders.0, searchers.0, pages.0, pages.1))
    (labelled_at (codes "pages") (2 ^ 32 - 1) searchers.1)))

unfoldable pub sizes_at : List ℕ → Option (ℕ × ℕ × ℕ × List ℕ)
sizes_at text =
    read_on (labelled_at (codes "room") (2 ^ 32 - 1) text) (λ room.
    read_on (labelled_at (codes "log") (2 ^ 32 - 1) room.1) (λ log.
    option_map (λ chain. (room.0, log.0, chain.0, chain.1)) (labelled_at (codes "chain") (2 ^ 32 - 1) log.1)))

abbrev pub shape_of : ℕ × ℕ × ℕ × List ℕ → ℕ × ℕ × ℕ × List ℕ → Shape
shape_of callers sizes =
    record {
      loaders = callers.0;
      searchers = callers.1;
      pages = callers.2;
      room = sizes.0;
      log = sizes.1;
      chain = sizes.2;
    }

unfoldable pub shape_at : List ℕ → Option (Shape × List ℕ)
shape_at text =
    read_on (callers_at text) (λ callers. option_map (λ sizes. (shape_of callers sizes, sizes.3)) (sizes_at callers.3))

unfoldable pub header_at : List ℕ → Option Line
header_at text =
    read_on (label_at (codes "1") text) (λ first.
    read_on (shape_at first) (λ shape.
    read_on (label_at (codes "budget") shape.1) (λ rest.
    option_map (λ budget. Header shape.0 budget) (last_number (2 ^ 64 - 1) rest))))

unfoldable pub load_at : List ℕ → Option Line
load_at text =
    read_on (number_at (2 ^ 32 - 1) text)
    (λ line. read_on (file_at line.1) (λ file. at_end file.1 (Load line.0 file.0)))

unfoldable pub published_at : List ℕ → Option LoadLine
published_at text =
    read_on (number_at (2 ^ 32 - 1) text) (λ number. option_map (λ name. Published number.0 name) (name_at number.1))

unfoldable pub refused_at : List ℕ → Option LoadLine
refused_at text =
    read_on (number_at (2 ^ 32 - 1) text)
    (λ place. option_map (λ refusal. Refused place.0 refusal.0 refusal.1) (refusal_at place.1))

unfoldable pub data_full_at : ℕ → List ℕ → Option LoadLine
data_full_at place text =
    read_on (number_at (2 ^ 32 - 1) text)
    (λ left. option_map (λ need. DataFull place left.0 need) (last_number (2 ^ 32 - 1) left.1))

unfoldable pub unpublished_for : ℕ → List ℕ → List ℕ → Option LoadLine
unpublished_for place cause text =
    if bytes_eq cause (codes "DataFull") then data_full_at place text
    else (if bytes_eq cause (codes "NoPage") then at_end text (NoPage place)
    else (if bytes_eq cause (codes "ChainFull") then option_map (λ pages. ChainFull place pages)
    (last_number (2 ^ 32 - 1) text)
    else (if bytes_eq cause (codes "LogFull") then option_map (λ front. LogFull place front)
    (last_number (2 ^ 32 - 1) text)
    else None)))

unfoldable pub unpublished_at : List ℕ → Option LoadLine
unpublished_at text =
    read_on (number_at (2 ^ 32 - 1) text)
    (λ place. read_on (word_at place.1) (λ cause. unpublished_for place.0 cause.0 cause.1))

unfoldable pub withdrawn_as : List ℕ → ℕ → Option WithdrawLine
withdrawn_as word number =
    if bytes_eq word (codes "at") then Some (At number)
    else (if bytes_eq word (codes "Unknown") then Some (Unknown number)
    else (if bytes_eq word (codes "Gone") then Some (Gone number)
    else (if bytes_eq word (codes "LogFull") then Some (NoEntry number)
    else None)))

unfoldable pub withdraw_answer_at : List ℕ → Option WithdrawLine
withdraw_answer_at text =
    read_on (word_at text) (λ word. read_on (last_number (2 ^ 32 - 1) word.1) (λ number. withdrawn_as word.0 number))

unfoldable pub withdraw_at : List ℕ → Option Line
withdraw_at text =
    read_on (number_at (2 ^ 32 - 1) text) (λ line.
    read_on (number_at (2 ^ 32 - 1) line.1) (λ number.
    option_map (λ answer. Withdraw line.0 number.0 answer) (withdraw_answer_at number.1)))

-- what follows on the file of a search
unfoldable pub search_as : ℕ → List ℕ → List ℕ → List ℕ → Option Line
search_as line file word text =
    if bytes_eq word (codes "front") then option_map (λ front. Search line file front) (last_number (2 ^ 32 - 1) text)
    else (if bytes_eq word (codes "refused") then option_map (λ refusal. NotRead line file refusal.0 refusal.1)
    (refusal_at text)
    else None)

unfoldable pub search_at : List ℕ → Option Line
search_at text =
    read_on (number_at (2 ^ 32 - 1) text) (λ line.
    read_on (file_at line.1) (λ file.
    read_on (word_at file.1) (λ word. search_as line.0 file.0 word.0 word.1)))

unfoldable pub hit_at : List ℕ → Option Line
hit_at text =
    read_on (number_at (2 ^ 32 - 1) text) (λ number.
    read_on (map_at number.1) (λ places.
    option_map (λ name. OneHit (record { number = number.0; name = name; map = places.0 })) (name_at places.1)))

unfoldable pub hits_at : List ℕ → Option Line
hits_at text =
    read_on (number_at (2 ^ 32 - 1) text) (λ count.
    read_on (labelled_at (codes "rows") (2 ^ 64 - 1) count.1) (λ rows.
    read_on (label_at (codes "records") rows.1) (λ rest.
    option_map (λ records. HitsEnd count.0 rows.0 records) (last_number (2 ^ 32 - 1) rest))))

unfoldable pub publish_at : List ℕ → Option LogLine
publish_at text =
    read_on (number_at 255 text) (λ loader.
    read_on (number_at 65535 loader.1) (λ atoms.
    read_on (number_at 65535 atoms.1) (λ bonds.
    option_map (λ name. Publish loader.0 atoms.0 bonds.0 name) (name_at bonds.1))))

unfoldable pub withdrawn_at : List ℕ → Option LogLine
withdrawn_at text =
    read_on (number_at 255 text)
    (λ loader. option_map (λ number. Withdrawn loader.0 number) (last_number (2 ^ 32 - 1) loader.1))

unfoldable pub logged_as : List ℕ → List ℕ → Option LogLine
logged_as word text =
    if bytes_eq word (codes "publish") then publish_at text
    else (if bytes_eq word (codes "withdraw") then withdrawn_at text
    else None)

unfoldable pub event_at : List ℕ → Option Line
event_at text =
    read_on (number_at (2 ^ 32 - 1) text) (λ number.
    read_on (word_at number.1) (λ word. option_map (λ event. Event number.0 event) (logged_as word.0 word.1)))

-- ---- lines, by their first word

unfoldable pub answer_as : List ℕ → List ℕ → Option LoadLine
answer_as word text =
    if bytes_eq word (codes "published") then published_at text
    else (if bytes_eq word (codes "refused") then refused_at text
    else (if bytes_eq word (codes "unpublished") then unpublished_at text
    else None))

-- a line with one number, or with none
unfoldable pub short_as : List ℕ → List ℕ → Option Line
short_as word text =
    if bytes_eq word (codes "loaded") then option_map (λ count. Loaded count) (last_number (2 ^ 32 - 1) text)
    else (if bytes_eq word (codes "overbudget") then option_map (λ budget. OverBudget budget)
    (last_number (2 ^ 64 - 1) text)
    else (if bytes_eq word (codes "log") then option_map (λ count. Log count) (last_number (2 ^ 32 - 1) text)
    else (if bytes_eq word (codes "end") then at_end text End
    else option_map (λ answer. Answer answer) (answer_as word text))))

-- a line that names no file
unfoldable pub line_as : List ℕ → List ℕ → Option Line
line_as word text =
    if bytes_eq word (codes "hit") then hit_at text
    else (if bytes_eq word (codes "hits") then hits_at text
    else (if bytes_eq word (codes "event") then event_at text
    else (if bytes_eq word (codes "withdraw") then withdraw_at text
    else (if bytes_eq word (codes "htss") then header_at text
    else short_as word text))))

-- the line of this text
unfoldable pub line_at : List ℕ → Option Line
line_at text =
    if bytes_eq (word_front text) (codes "load") then load_at (word_back text)
    else (if bytes_eq (word_front text) (codes "search") then search_at (word_back text)
    else line_as (word_front text) (word_back text))
