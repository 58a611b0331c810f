-- The events of a board that was closed, and the blocks that they show.
use Rattle.std.proofs.Common.{◌≡◌, ℕ, zero, suc, ◌+◌, ◌-◌, ◌^◌, ◌≤◌, ◌<◌, Bool, cond, List, [], ◌∷◌, ◌++◌, length, take, get_or, sym, ap, ◌∙◌, subst, arith, eq-eqb, ne_eqb}
use Rattle.std.specs.Prelude.{slice_get, Some}
use Rattle.std.proofs.lemmas.List.{get_or_append_left, get_or_push}
use Rattle.std.proofs.lemmas.Option.{slice_get_within, get_or_from_slice_get}
use Rattle.std.proofs.Math.Seq.{take-suc, take-length}
use mathlib.Core.Option.{some}
use mathlib.Core.Logic.{dite}
use native.Mathlib.Decide.{ℕ_discrete}
use lib.ListN.{get_elem?}
use Rattle.htss_defs.specs.declared.shape.Shape.{Shape}
use Rattle.htss_defs.specs.declared.history.Event.{Event}
use Rattle.htss_defs.specs.declared.history.Event.TheVariants.{Publish, Withdraw}
use Rattle.htss_defs.specs.History.{HasEvent}
use Rattle.htss_defs.specs.Molecule.{Molecule}
use Rattle.htss_defs.specs.Shapes.{IsShape}
use Rattle.board_core.specs.declared.account.View.{View}
use Rattle.board_core.specs.Words.{parts_of, log_at, regions_at, regions_size, total_of}
use Rattle.board_core.specs.LogWord.{kind_in, loader_in, target_in}
use Rattle.board_core.specs.Blocks.{first_of, block_size, name_in, molecule_in}
use Rattle.board_core.specs.Histories.{block_at, shown_by, event_of, history_of}
use Rattle.board_core.specs.Records.{IsRecord}
use Rattle.board_core.specs.Loaded.{IsInTable}
use Rattle.board_core.specs.Holds.{Rule}
use Rattle.board_core.proofs.Shown.{length_first, history_counted}
use Rattle.board_core.proofs.Stored.{part_at}
use Rattle.board_core.proofs.EventAt.{event_shown}
use Rattle.board_core.proofs.BlockWords.{ShowSame, block_least, same_shown}
use Rattle.board_core.proofs.RecordFrame.{known_records, record_same}
use Rattle.board_core.proofs.LoadSealed.{sealed_in_table}
use Rattle.board.specs.Closed.{Closing, Ends, closing, words_from}
use Rattle.board.proofs.Endings.{at_get}
use Rattle.board.proofs.Tied.{log_at_most}

-- ---- the events

rule_of : (k : Shape) (ws : List ℕ) (v : View) → Ends k ws v → (vs : List View) × Rule k (parts_of k ws) (history_of k (parts_of k ws)) vs
rule_of k ws v e = (e.0.views, subst (λ (x : List ℕ). Rule k (parts_of k x) (history_of k (parts_of k x)) e.0.views) e.4 e.2.rule)

-- the history that contracts see
history_is : (k : Shape) (ws : List ℕ) (v : View) (c : Closing) → closing k ws v ≡ c → history_of k (parts_of k ws) ≡ c.history
history_is k ws v c e = ap (λ (x : Closing). x.history) e

-- it has as many events as the front says
history_long : (k : Shape) (ws : List ℕ) (v : View) (c : Closing) → closing k ws v ≡ c → length c.history ≡ get_or ws 0 0
history_long k ws v c e = ap (λ (h : List Event). length h) (sym (history_is k ws v c e)) ∙ history_counted k (parts_of k ws)

behind : (k : Shape) (ws : List ℕ) (v : View) (c : Closing) (i : ℕ) → closing k ws v ≡ c → i < length c.history → i < get_or ws 0 0
behind k ws v c i e less = let count = history_long k ws v c e in omega arith

in_log : (k : Shape) (ws : List ℕ) (v : View) (i : ℕ) → Ends k ws v → i < get_or ws 0 0 → i < k.log
in_log k ws v i e less = let room : get_or ws 0 0 ≤ k.log = (rule_of k ws v e).1.log.front in omega arith

-- one more event is read
pub next_event : (h : List Event) (i : ℕ) (event : Event) (old new : List Event) → HasEvent h (i + 1) event → old ≡ take i h → new ≡ old ++ event ∷ [] → new ≡ take (i + 1) h
next_event h i event old new has before after =
    let back : i + 1 - 1 ≡ i = omega arith in
    let at : slice_get h i ≡ Some event = subst (λ (j : ℕ). slice_get h j ≡ Some event) back has.1 in
    let within : i < length h = slice_get_within h i event at in
    let found : get_or h i event ≡ event = get_or_from_slice_get h i event event at in
    let next : suc i ≡ i + 1 = omega arith in
    after ∙ ((λ j. before j ++ sym found j ∷ []) ∙ (sym (take-suc h i event within) ∙ ap (λ (n : ℕ). take n h) next))

pub all_events : (k : Shape) (ws : List ℕ) (v : View) (c : Closing) (front n : ℕ) (events : List Event) → closing k ws v ≡ c → get_elem? ws 0 ≡ some front → n ≡ front → events ≡ take n c.history → events ≡ c.history
all_events k ws v c front n events e top is read =
    read ∙ (ap (λ (m : ℕ). take m c.history) (is ∙ (sym (at_get ws 0 front top) ∙ sym (history_long k ws v c e))) ∙ take-length c.history)

-- ---- one log word

-- the place of an event is one of the log
pub event_place : (k : Shape) (ws : List ℕ) (v : View) (c : Closing) (i : ℕ) → closing k ws v ≡ c → Ends k ws v → i < length c.history → i < k.log
event_place k ws v c i e ends less = in_log k ws v i ends (behind k ws v c i e less)

pub log_there : (k : Shape) (words first i : ℕ) → words ≡ total_of k → first ≡ log_at k → i < k.log → first + i < words
log_there k words first i count is inside = there (log_at k) k.log (regions_size k) count is inside
  where
    there : (from log size : ℕ) → words ≡ from + log + size → first ≡ from → i < log → first + i < words
    there from log size a b c = omega arith

-- the word of an event
pub record IsLogWord (k : Shape) (ws : List ℕ) (i word : ℕ) : Type 0 where
  pub before : i < get_or ws 0 0
  pub stands : (parts_of k ws).log.slots i ≡ word

pub log_word_read : (k : Shape) (ws : List ℕ) (v : View) (c : Closing) (i first word : ℕ) → closing k ws v ≡ c → Ends k ws v → i < length c.history → first ≡ log_at k → get_elem? ws (first + i) ≡ some word → IsLogWord k ws i word
log_word_read k ws v c i first word e ends less is here = record {
  before = behind k ws v c i e less;
  stands = part_at (log_at k) k.log ws i (event_place k ws v c i e ends less) ∙ (ap (λ (z : ℕ). get_or ws (z + i) 0) (sym is) ∙ at_get ws (first + i) word here);
}

shows_withdrawal : (block : ℕ → ℕ) (word : ℕ) → kind_in word ≡ 2 → shown_by block word ≡ Withdraw (loader_in word) (target_in word)
shows_withdrawal block word two = ap (λ (b : Bool). cond b (Withdraw (loader_in word) (target_in word)) (Publish (loader_in word) (name_in block) (molecule_in block))) (eq-eqb (kind_in word) 2 two)

shows_publication : (block : ℕ → ℕ) (word : ℕ) → ¬ (kind_in word ≡ 2) → shown_by block word ≡ Publish (loader_in word) (name_in block) (molecule_in block)
shows_publication block word other = ap (λ (b : Bool). cond b (Withdraw (loader_in word) (target_in word)) (Publish (loader_in word) (name_in block) (molecule_in block))) (ne_eqb (kind_in word) 2 other)

event_there : (k : Shape) (ws : List ℕ) (i word : ℕ) (event : Event) → IsLogWord k ws i word → event_of k (parts_of k ws).regions word ≡ event → HasEvent (history_of k (parts_of k ws)) (i + 1) event
event_there k ws i word event w is = subst (HasEvent (history_of k (parts_of k ws)) (i + 1)) (ap (event_of k (parts_of k ws).regions) w.stands ∙ is) (event_shown k (parts_of k ws) i w.before)

-- ---- a withdrawal

withdrawn : (k : Shape) (ws : List ℕ) (i word : ℕ) → IsLogWord k ws i word → kind_in word ≡ 2 → HasEvent (history_of k (parts_of k ws)) (i + 1) (Withdraw (loader_in word) (target_in word))
withdrawn k ws i word w two = event_there k ws i word (Withdraw (loader_in word) (target_in word)) w (shows_withdrawal (block_at k (parts_of k ws).regions (target_in word)) word two)

-- the number withdrawn is that of an earlier event, so it fits 32 bits
pub target_small : (k : Shape) (ws : List ℕ) (v : View) (i word number : ℕ) → IsShape k → Ends k ws v → IsLogWord k ws i word → kind_in word ≡ 2 → number ≡ target_in word → number < 2 ^ 32
target_small k ws v i word number shape e w two is =
    let before : target_in word < i + 1 = ((rule_of k ws v e).1.log.legal.earlier (i + 1) (target_in word) (record { caller = loader_in word; event = withdrawn k ws i word w two })).0 in
    let inside = in_log k ws v i e w.before in
    let most = log_at_most k shape in
    small (target_in word) k.log is before inside most
  where
    small : (target log : ℕ) → number ≡ target → target < i + 1 → i < log → log ≤ 1048576 → number < 2 ^ 32
    small target log a b c d = omega arith

pub withdrawal_read : (k : Shape) (ws : List ℕ) (v : View) (c : Closing) (i word caller number : ℕ) → closing k ws v ≡ c → IsLogWord k ws i word → kind_in word ≡ 2 → caller ≡ loader_in word → number ≡ target_in word
    → HasEvent c.history (i + 1) (Withdraw caller number)
withdrawal_read k ws v c i word caller number e w two by target =
    subst (λ (h : List Event). HasEvent h (i + 1) (Withdraw caller number)) (history_is k ws v c e)
    (subst (HasEvent (history_of k (parts_of k ws)) (i + 1)) (λ j. Withdraw (sym by j) (sym target j)) (withdrawn k ws i word w two))

-- ---- a publication

-- the block is in the table, and shows a record
pub record ShowsBlock (k : Shape) (ws : List ℕ) (block : ℕ) : Type 0 where
  pub table : IsInTable k block
  pub whole : block + block_size (block_at k (parts_of k ws).regions block 0) ≤ total_of k
  pub shows : IsRecord (block_at k (parts_of k ws).regions block)

pub published : (k : Shape) (ws : List ℕ) (v : View) (i word target : ℕ) → Ends k ws v → IsLogWord k ws i word → ¬ (kind_in word ≡ 2) → target ≡ target_in word → ShowsBlock k ws target
published k ws v i word target e w kind is =
    let (vs, r) = rule_of k ws v e in
    let other = subst (λ (x : ℕ). ¬ (kind_in x ≡ 2)) (sym w.stands) kind in
    let (j, u, there, n, a, here, shown) = r.rooms.named i w.before other in
    let at = sealed_in_table k (parts_of k ws).regions vs (target_in ((parts_of k ws).log.slots i)) r.seats r.rooms.rooms (j, u, there, n, a, here, shown.1) in
    subst (ShowsBlock k ws) (ap target_in w.stands ∙ sym is) (record { table = at.0; whole = at.1; shows = known_records k (parts_of k ws) vs r.records r.rooms i w.before other })

pub other_kind : (word kind : ℕ) → kind ≡ kind_in word → (kind ≡ 2 → ⊥) → ¬ (kind_in word ≡ 2)
other_kind word kind is not two = not (is ∙ two)

-- a word of a block in the table
block_word : (k : Shape) (ws : List ℕ) (block i : ℕ) → IsInTable k block → block + i < total_of k → block_at k (parts_of k ws).regions block i ≡ words_from ws block i
block_word k ws block i t less =
    part_at (regions_at k) (regions_size k) ws (block + i - regions_at k) (inside (regions_at k) (regions_size k) t.from less) ∙ ap (λ (z : ℕ). get_or ws z 0) (back (regions_at k) t.from)
  where
    inside : (from size : ℕ) → from ≤ block → block + i < from + size → block + i - from < size
    inside from size a b = omega arith

    back : (from : ℕ) → from ≤ block → from + (block + i - from) ≡ block + i
    back from a = omega arith

head_word : (k : Shape) (ws : List ℕ) (block : ℕ) → IsInTable k block → block_at k (parts_of k ws).regions block 0 ≡ words_from ws block 0
head_word k ws block t = block_word k ws block 0 t (first (total_of k) t.until)
  where
    first : (total : ℕ) → block + 3 ≤ total → block + 0 < total
    first total a = omega arith

-- all of it is there to be read
pub block_whole : (k : Shape) (ws : List ℕ) (block words : ℕ) → ShowsBlock k ws block → words ≡ total_of k → block + block_size (words_from ws block 0) ≤ words
block_whole k ws block words b count = subst (λ (h : ℕ). block + block_size h ≤ words) (head_word k ws block b.table) (subst (λ (n : ℕ). block + block_size (block_at k (parts_of k ws).regions block 0) ≤ n) (sym count) b.whole)

pub block_begins : (k : Shape) (ws : List ℕ) (block words : ℕ) → ShowsBlock k ws block → words ≡ total_of k → block < words
block_begins k ws block words b count = first (total_of k) count b.table.until
  where
    first : (total : ℕ) → words ≡ total → block + 3 ≤ total → block < words
    first total a b = omega arith

-- ---- the words of a block are copied

-- as many as its first word says
pub block_long : (ws : List ℕ) (place head size : ℕ) → get_elem? ws place ≡ some head → size ≡ block_size head → size ≡ block_size (words_from ws place 0)
block_long ws place head size at is = let same : place ≡ place + 0 = omega arith in is ∙ ap block_size (sym (at_get ws place head at) ∙ ap (λ (z : ℕ). get_or ws z 0) same)

pub word_there : (ws : List ℕ) (place head size i words : ℕ) → get_elem? ws place ≡ some head → size ≡ block_size head → i < size → place + block_size (words_from ws place 0) ≤ words → place + i < words
word_there ws place head size i words at is less whole = there (block_size (words_from ws place 0)) (block_long ws place head size at is) whole
  where
    there : (long : ℕ) → size ≡ long → place + long ≤ words → place + i < words
    there long a b = omega arith

pub one_more : (ws : List ℕ) (place i word : ℕ) (old new : List ℕ) → get_elem? ws (place + i) ≡ some word → old ≡ first_of (words_from ws place) i → new ≡ old ++ word ∷ [] → new ≡ first_of (words_from ws place) (i + 1)
one_more ws place i word old new at before after =
    let found : words_from ws place i ≡ word = at_get ws (place + i) word at in
    let next : suc i ≡ i + 1 = omega arith in
    after ∙ ((λ j. before j ++ sym found j ∷ []) ∙ ap (first_of (words_from ws place)) next)

pub all_copied : (ws : List ℕ) (place head size n : ℕ) (words : List ℕ) → get_elem? ws place ≡ some head → size ≡ block_size head → n ≡ size → words ≡ first_of (words_from ws place) n → words ≡ first_of (words_from ws place) (block_size (words_from ws place 0))
all_copied ws place head size n words at is end read = read ∙ ap (first_of (words_from ws place)) (end ∙ block_long ws place head size at is)

first_at : (f : ℕ → ℕ) (n i : ℕ) → i < n → get_or (first_of f n) i 0 ≡ f i
first_at f zero i less = absurd (omega arith)
first_at f (suc n) i less = dite (ℕ_discrete i n)
    (λ same. get_or_push (first_of f n) (f n) 0 i (length_first f n ∙ sym same) ∙ ap f (sym same))
    (λ other. get_or_append_left (first_of f n) (f n ∷ []) 0 i (omega (arith, length_first f n)) ∙ first_at f n i (omega arith))

-- so many words from a place on
abbrev pub AreWordsOf : List ℕ → ℕ → List ℕ → Type 0
AreWordsOf ws block words = words ≡ first_of (words_from ws block) (block_size (words_from ws block 0))

word_read : (ws words : List ℕ) (block i : ℕ) → AreWordsOf ws block words → i < block_size (words_from ws block 0) → get_or words i 0 ≡ words_from ws block i
word_read ws words block i are less = ap (λ (l : List ℕ). get_or l i 0) are ∙ first_at (words_from ws block) (block_size (words_from ws block 0)) i less

some_word : (head : ℕ) → 0 < block_size head
some_word head = positive (block_size head) (block_least head)
  where
    positive : (size : ℕ) → 3 ≤ size → 0 < size
    positive size a = omega arith

head_read : (ws words : List ℕ) (block : ℕ) → AreWordsOf ws block words → get_or words 0 0 ≡ words_from ws block 0
head_read ws words block are = word_read ws words block 0 are (some_word (words_from ws block 0))

-- the words that were read are all of the block
pub read_whole : (ws words : List ℕ) (block : ℕ) → AreWordsOf ws block words → block_size (get_or words 0 0) ≤ length words
read_whole ws words block are =
    let size : length words ≡ block_size (words_from ws block 0) = ap (λ (l : List ℕ). length l) are ∙ length_first (words_from ws block) (block_size (words_from ws block 0)) in
    let long : block_size (get_or words 0 0) ≡ length words = ap block_size (head_read ws words block are) ∙ sym size in least (block_size (get_or words 0 0)) (length words) long
  where
    least : (a b : ℕ) → a ≡ b → a ≤ b
    least a b e = omega arith

-- and show the same
read_same : (k : Shape) (ws words : List ℕ) (block : ℕ) → ShowsBlock k ws block → AreWordsOf ws block words → ShowSame (block_at k (parts_of k ws).regions block) (λ i. get_or words i 0)
read_same k ws words block b are =
    let head = head_word k ws block b.table in record {
      head = head_read ws words block are ∙ sym head;
      words = λ i past within.
          word_read ws words block i are (subst (λ (h : ℕ). i < block_size h) head within)
          ∙ sym (block_word k ws block i b.table (inside i (block_size (block_at k (parts_of k ws).regions block 0)) (total_of k) within b.whole));
    }
  where
    inside : (i size total : ℕ) → i < size → block + size ≤ total → block + i < total
    inside i size total a b = omega arith

pub read_record : (k : Shape) (ws words : List ℕ) (block : ℕ) → ShowsBlock k ws block → AreWordsOf ws block words → IsRecord (λ i. get_or words i 0)
read_record k ws words block b are = record_same (block_at k (parts_of k ws).regions block) (λ i. get_or words i 0) (read_same k ws words block b are) b.shows

pub publication_read : (k : Shape) (ws words : List ℕ) (v : View) (c : Closing) (i word caller target : ℕ) (name named shown : List ℕ) (mol : Molecule) → closing k ws v ≡ c → IsLogWord k ws i word → ¬ (kind_in word ≡ 2)
    → target ≡ target_in word → ShowsBlock k ws target → AreWordsOf ws target words → named ≡ words → shown ≡ words
    → caller ≡ loader_in word → name ≡ name_in (λ j. get_or named j 0) → mol ≡ molecule_in (λ j. get_or shown j 0) → HasEvent c.history (i + 1) (Publish caller name mol)
publication_read k ws words v c i word caller target name named shown mol e w kind at b are first second by name_is mol_is =
    let block : ℕ → ℕ = λ j. get_or words j 0 in
    let name_of : name ≡ name_in block = name_is ∙ ap (λ (l : List ℕ). name_in (λ j. get_or l j 0)) first in
    let mol_of : mol ≡ molecule_in block = mol_is ∙ ap (λ (l : List ℕ). molecule_in (λ j. get_or l j 0)) second in
    let same = subst (λ (z : ℕ). ShowSame (block_at k (parts_of k ws).regions z) block) at (read_same k ws words target b are) in
    subst (λ (h : List Event). HasEvent h (i + 1) (Publish caller name mol)) (history_is k ws v c e)
    (event_there k ws i word (Publish caller name mol) w
    (sym (same_shown (block_at k (parts_of k ws).regions (target_in word)) block word (λ _. same)) ∙ (shows_publication block word kind ∙ (λ j. Publish (sym by j) (sym name_of j) (sym mol_of j)))))
