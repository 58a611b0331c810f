-- Records are read one after the other, each word once.
use Rattle.std.proofs.Common.{◌≡◌, ◌⊎◌, ℕ, zero, suc, ◌+◌, ◌-◌, ◌<◌, ◌≤◌, List, [], ◌∷◌, ◌++◌, length, map, flat_map, refl, sym, ap, ◌∙◌, subst, ⊎_elim, inl, inr, arith, append_assoc}
use Rattle.std.proofs.lemmas.List.{append-nil}
use mathlib.Core.Option.{some, some-injective, some-ne-none}
use lib.ListN.{get_elem?}
use Rattle.htss_defs.specs.declared.shape.Shape.{Shape}
use Rattle.board_core.specs.declared.account.Account.{Account}
use Rattle.board_core.specs.declared.entry.Entry.{Entry}
use Rattle.board_core.specs.declared.loads.WordLoad.{WordLoad}
use Rattle.board_core.specs.Blocks.{block_size, bond_words_at, code_words_at}
use Rattle.board_core.specs.Each.{Each}
use Rattle.board_core.specs.After.{after_answer, after_fact, after_front, after_head, noted}
use Rattle.board_core.specs.Loaded.{Grows, KnowsHead}
use Rattle.board.specs.Seated.{Seated, with_account}
use Rattle.board_core.proofs.Lists.{at_end, each_none, each_snoc, inside}
use Rattle.board_core.proofs.Grown.{entries_added, grows_quiet, head_stays, loaded_stays}
use Rattle.searcher.specs.Searched.{Loads}
use Rattle.searcher.specs.Walking.{IsOpenBlock}
use Rattle.searcher.specs.Records.{IsRead, ReadsInTurn, ReadsOne, RecordRead, places_from, places_read, text_places}
use Rattle.searcher.proofs.Records.{elem_at}

-- ---- places in turn

from_next : (start n : ℕ) → places_from start (suc n) ≡ places_from start n ++ (start + n) ∷ []
from_next start zero = ap (λ (z : ℕ). z ∷ []) (let e : start ≡ start + 0 = omega arith in e)
from_next start (suc n) = ap (λ (l : List ℕ). start ∷ l)
    (from_next (start + 1) n ∙ ap (λ (z : ℕ). places_from (start + 1) n ++ z ∷ []) (let e : start + 1 + n ≡ start + suc n = omega arith in e))

places_more : (xs : List WordLoad) (l : WordLoad) → map (λ (x : WordLoad). x.place) (xs ++ l ∷ []) ≡ map (λ (x : WordLoad). x.place) xs ++ l.place ∷ []
places_more [] l = refl
places_more (x ∷ xs) l = ap (λ (ys : List ℕ). x.place ∷ ys) (places_more xs l)

pub place_read : (first : Account) (c n : Seated) (block from index word : ℕ) → from ≤ index → n ≡ with_account c (after_fact c.account (block + index) word)
    → places_read c.account ≡ places_read first ++ places_from (block + from) (index - from) → places_read n.account ≡ places_read first ++ places_from (block + from) (index + 1 - from)
place_read first c n block from index word past is all =
    let more : places_from (block + from) (index + 1 - from) ≡ places_from (block + from) (index - from) ++ (block + index) ∷ [] =
    ap (places_from (block + from)) (let e : index + 1 - from ≡ suc (index - from) = omega (arith, past) in e)
    ∙ (from_next (block + from) (index - from) ∙ ap (λ (z : ℕ). places_from (block + from) (index - from) ++ z ∷ []) (let e : block + from + (index - from) ≡ block + index = omega (arith, past) in e)) in
    ap (λ (x : Seated). places_read x.account) is
    ∙ (places_more c.account.loads.facts (record { place = block + index; word = word })
    ∙ (ap (λ (l : List ℕ). l ++ (block + index) ∷ []) all
    ∙ (append_assoc (places_read first) (places_from (block + from) (index - from)) ((block + index) ∷ [])
    ∙ ap (λ (l : List ℕ). places_read first ++ l) (sym more))))

pub place_none : (a : Account) (block from : ℕ) → places_read a ≡ places_read a ++ places_from (block + from) (from - from)
place_none a block from = sym (ap (λ (n : ℕ). places_read a ++ places_from (block + from) n) (let e : from - from ≡ 0 = omega arith in e) ∙ append-nil (places_read a))

-- ---- a block

pub block_read_once : (old start : Seated) (first last : Account) (block head codes bonds size : ℕ) → codes ≡ code_words_at head → bonds ≡ bond_words_at head → size ≡ block_size head
    → start ≡ with_account old (after_head old.account block head) → places_read first ≡ places_read start.account ++ places_from (block + 3) (codes - 3)
    → places_read last ≡ places_read first ++ places_from (block + bonds) (size - bonds) → places_read last ≡ places_read old.account ++ text_places block head
block_read_once old start first last block head codes bonds size codes_are bonds_are size_is is low high =
    let begun : places_read start.account ≡ places_read old.account = ap (λ (x : Seated). places_read x.account) is in
    let lows : places_from (block + 3) (codes - 3) ≡ places_from (block + 3) (code_words_at head - 3) = ap (λ (z : ℕ). places_from (block + 3) (z - 3)) codes_are in
    let highs : places_from (block + bonds) (size - bonds) ≡ places_from (block + bond_words_at head) (block_size head - bond_words_at head) =
    (λ i. places_from (block + bonds_are i) (size_is i - bonds_are i)) in
    high
    ∙ (ap (λ (l : List ℕ). l ++ places_from (block + bonds) (size - bonds)) (low ∙ ap (λ (l : List ℕ). l ++ places_from (block + 3) (codes - 3)) begun)
    ∙ (append_assoc (places_read old.account) (places_from (block + 3) (codes - 3)) (places_from (block + bonds) (size - bonds))
    ∙ (λ i. places_read old.account ++ (lows i ++ highs i))))

-- ---- nothing

same_list : (xs ys : List WordLoad) → ((j : ℕ) (x : WordLoad) → get_elem? xs j ≡ some x → get_elem? ys j ≡ some x) → length ys ≡ length xs → ys ≡ xs
same_list [] [] all same = refl
same_list [] (y ∷ ys) all same = absurd (omega (arith, same))
same_list (x ∷ xs) [] all same = absurd (omega (arith, same))
same_list (x ∷ xs) (y ∷ ys) all same =
    let first : y ≡ x = some-injective y x (all zero x refl) in
    let rest : ys ≡ xs = same_list xs ys (λ j. all (suc j)) (omega (arith, same)) in
    (λ i. first i ∷ rest i)

pub read_none : (a b : Account) (shown marks : ℕ) (heads : List WordLoad) → Grows a b → Loads a b shown marks 0 heads → places_read b ≡ places_read a
read_none a b shown marks heads grown loads = ap (map (λ (x : WordLoad). x.place))
    (same_list a.loads.facts b.loads.facts grown.facts (let same = loads.words_are in omega (arith, same)))

-- ---- the record of a number

pub read_live : (k : Shape) (first a b : Account) (front number block head : ℕ) → IsOpenBlock k a front number block → Grows a b → KnowsHead k b block head
    → places_read a ≡ places_read first → places_read b ≡ places_read a ++ text_places block head → ReadsOne k number first b
read_live k first a b front number block head o grown known before after = inr (
  record { number = number; block = block; head = head },
  refl,
  record { shown = loaded_stays k a b grown number block o.loaded; first = known },
  after ∙ ap (λ (l : List ℕ). l ++ text_places block head) before,
)

-- ---- number by number

-- up to this number
pub record TurnsTo (k : Shape) (last : ℕ) (a b : Account) : Type 0 where
  pub turn : ReadsInTurn k a b
  pub most : Each (λ (r : RecordRead). r.number ≤ last) turn.reads

abbrev texts : List RecordRead → List ℕ
texts rs = flat_map (λ r. text_places r.block r.head) rs

texts_more : (rs : List RecordRead) (r : RecordRead) → texts (rs ++ r ∷ []) ≡ texts rs ++ text_places r.block r.head
texts_more [] r = append-nil (text_places r.block r.head)
texts_more (x ∷ rs) r = ap (λ (l : List ℕ). text_places x.block x.head ++ l) (texts_more rs r) ∙ sym (append_assoc (text_places x.block x.head) (texts rs) (text_places r.block r.head))

read_later : (k : Shape) (a b : Account) (r : RecordRead) → Grows a b → IsRead k a r → IsRead k b r
read_later k a b r grown is = record { shown = loaded_stays k a b grown r.number r.block is.shown; first = head_stays k a b grown r.block r.head is.first }

abbrev pub turns_none : (k : Shape) (a b : Account) → places_read b ≡ places_read a → ReadsInTurn k a b
turns_none k a b same = record {
  reads = [];
  rising = λ i j x y less at there. absurd (some-ne-none x (sym at));
  are = each_none (IsRead k b);
  places = same ∙ sym (append-nil (places_read a));
}

pub turns_begin : (k : Shape) (a : Account) → TurnsTo k 0 a a
turns_begin k a = record { turn = turns_none k a a refl; most = each_none (λ (r : RecordRead). r.number ≤ 0) }

module _ (k : Shape) (last number : ℕ) (first a b : Account) (grown : Grows a b) (after : last < number) (t : TurnsTo k last first a) where
  same_turn : places_read b ≡ places_read a → TurnsTo k number first b
  same_turn same = record {
    turn = record {
      reads = t.turn.reads;
      rising = t.turn.rising;
      are = λ j r there. read_later k a b r grown (t.turn.are j r there);
      places = same ∙ t.turn.places;
    };
    most = λ j r there. let low = t.most j r there in omega (arith, low, after);
  }

  rising_more : (r : RecordRead) → r.number ≡ number → (i j : ℕ) (x y : RecordRead) → i < j → get_elem? (t.turn.reads ++ r ∷ []) i ≡ some x → get_elem? (t.turn.reads ++ r ∷ []) j ≡ some y → x.number < y.number
  rising_more r is i j x y less at there = ⊎_elim
      (λ (old : get_elem? t.turn.reads j ≡ some y). ⊎_elim
      (λ (u : get_elem? t.turn.reads i ≡ some x). t.turn.rising i j x y less u old)
      (λ (u : (i ≡ length t.turn.reads) × (r ≡ x)). let below = inside t.turn.reads j y old in let here = u.0 in absurd (omega (arith, below, here, less)))
      (at_end t.turn.reads r x i at))
      (λ (new : (j ≡ length t.turn.reads) × (r ≡ y)). ⊎_elim
      (λ (u : get_elem? t.turn.reads i ≡ some x).
      let low = t.most i x u in
      let top : y.number ≡ number = sym (ap (λ (z : RecordRead). z.number) new.1) ∙ is in omega (arith, low, top, after))
      (λ (u : (i ≡ length t.turn.reads) × (r ≡ x)). let here = u.0 in let end = new.0 in absurd (omega (arith, here, end, less)))
      (at_end t.turn.reads r x i at))
      (at_end t.turn.reads r y j there)

  one_turn : (r : RecordRead) → r.number ≡ number → IsRead k b r → places_read b ≡ places_read a ++ text_places r.block r.head → TurnsTo k number first b
  one_turn r is read places = record {
    turn = record {
      reads = t.turn.reads ++ r ∷ [];
      rising = rising_more r is;
      are = each_snoc (IsRead k b) t.turn.reads r read (λ j x there. read_later k a b x grown (t.turn.are j x there));
      places = places
          ∙ (ap (λ (l : List ℕ). l ++ text_places r.block r.head) t.turn.places
          ∙ (append_assoc (places_read first) (texts t.turn.reads) (text_places r.block r.head)
          ∙ ap (λ (l : List ℕ). places_read first ++ l) (sym (texts_more t.turn.reads r))));
    };
    most = each_snoc (λ (x : RecordRead). x.number ≤ number) t.turn.reads r (omega (arith, is)) (λ j x there. let low = t.most j x there in omega (arith, low, after));
  }

  pub turns_more : ReadsOne k number a b → TurnsTo k number first b
  turns_more one = ⊎_elim
      (λ (same : places_read b ≡ places_read a). same_turn same)
      (λ (u : (r : RecordRead) × (r.number ≡ number) × IsRead k b r × (places_read b ≡ places_read a ++ text_places r.block r.head)). one_turn u.0 u.1 u.2 u.3)
      one

-- ---- a whole search

pub turns_after : (k : Shape) (a b c : Account) → places_read b ≡ places_read a → ReadsInTurn k b c → ReadsInTurn k a c
turns_after k a b c same t = record {
  reads = t.reads;
  rising = t.rising;
  are = t.are;
  places = t.places ∙ ap (λ (l : List ℕ). l ++ texts t.reads) same;
}

pub turns_fronted : (c f : Seated) (front : ℕ) (k : Shape) (b : Account) → f ≡ with_account c (after_front c.account front) → ReadsInTurn k f.account b → ReadsInTurn k c.account b
turns_fronted c f front k b is t = turns_after k c.account f.account b (ap (λ (x : Seated). places_read x.account) is) t

pub turns_noted : (k : Shape) (a : Account) (b n : Seated) (es : List Entry) → n ≡ with_account b (after_answer b.account es) → ReadsInTurn k a b.account → ReadsInTurn k a n.account
turns_noted k a b n es is t = subst (λ (x : Seated). ReadsInTurn k a x.account) (sym is) record {
  reads = t.reads;
  rising = t.rising;
  are = λ j r there. read_later k b.account (after_answer b.account es) r
      (grows_quiet b.account (after_answer b.account es) (omega arith) refl (entries_added b.account (after_answer b.account es) (noted b.account.loads es) refl)) (t.are j r there);
  places = t.places;
}
