-- A block's words are stored one by one, and then it is sealed.
use Rattle.std.proofs.Common.{◌≡◌, ℕ, zero, suc, ◌+◌, ◌-◌, ◌<◌, ◌≤◌, List, [], ◌∷◌, ◌++◌, length, get_or, sym, refl, ap, ◌∙◌, subst, arith, append-nil}
use Rattle.std.proofs.lemmas.List.{append_assoc, length-append, get_or_append_left, get_or-append_right, get_or_push}
use mathlib.Core.Option.{some}
use mathlib.Core.Logic.{dite}
use native.Mathlib.Decide.{ℕ_discrete}
use lib.ListN.{get_elem?}
use Rattle.htss_defs.specs.declared.shape.Shape.{Shape}
use Rattle.htss_defs.specs.Name.{IsName}
use Rattle.htss_defs.specs.Molecule.{Molecule, IsMolecule}
use Rattle.htss_defs.specs.Marked.{IsMarked}
use Rattle.board_core.specs.declared.account.Account.{Account}
use Rattle.board_core.specs.Words.{total_of}
use Rattle.board_core.specs.Blocks.{first_of}
use Rattle.board_core.specs.RoomRule.{region_of}
use Rattle.board_core.specs.Loaded.{IsInTable}
use Rattle.board_core.specs.Steps.{MayStore, MaySeal, IsKnownRoom}
use Rattle.board_core.specs.After.{after_word}
use Rattle.board_core.proofs.Owner.{region_least}
use Rattle.board_core.proofs.Shown.{length_first}
use Rattle.block_words.specs.Writing.{size_of, written}
use Rattle.block_words.proofs.Places.{size_least, at_mark}
use Rattle.block_words.proofs.Shows.{ShowsRecord, written_shows}
use Rattle.board.specs.Seated.{Place, Seated, IsLoader, with_account, number_of}
use Rattle.board.specs.Staging.{IsWritten}
use Rattle.loader.specs.Stages.{next_block, staging, after_words, after_block}

-- ---- the words of the region

get_first : (f : ℕ → ℕ) (n i d : ℕ) → i < n → get_or (first_of f n) i d ≡ f i
get_first f zero i d l = absurd (omega arith)
get_first f (suc n) i d l =
    let long = length_first f n in dite (ℕ_discrete i n)
    (λ same. get_or_push (first_of f n) (f n) d i (omega arith) ∙ ap f (sym same))
    (λ other. get_or_append_left (first_of f n) (f n ∷ []) d i (omega arith) ∙ get_first f n i d (omega arith))

-- one word more
used_more : (used : List ℕ) (f : ℕ → ℕ) (i n : ℕ) → i + 1 ≡ n → used ++ first_of f i ++ f i ∷ [] ≡ used ++ first_of f n
used_more used f i n e = let next : suc i ≡ n = omega arith in append_assoc used (first_of f i) (f i ∷ []) ∙ ap (λ (m : ℕ). used ++ first_of f m) next

word_more : (a : Account) (f : ℕ → ℕ) (i : ℕ) → after_word (after_words a (first_of f i)) (f i) [] ≡ after_words a (first_of f (i + 1))
word_more a f i =
    let used = used_more a.room.used f i (i + 1) refl in
    let sealed = append-nil a.room.sealed in
    λ t. record a { room = record a.room { used = used t; sealed = sealed t } }

-- the words from the block's place on are those that were stored there
own_word : (k : Shape) (a : Account) (f : ℕ → ℕ) (n i : ℕ) (used : List ℕ) → used ≡ a.room.used ++ first_of f n → i < n → get_or used (next_block k a - region_of k a.who + i) 0 ≡ f i
own_word k a f n i used is l = at_place (region_of k a.who) (length a.room.used) refl
  where
    at_place : (from long : ℕ) → long ≡ length a.room.used → get_or used (from + long - from + i) 0 ≡ f i
    at_place from long same =
        let past : from + long - from + i ≡ long + i = omega arith in
        let back : long + i - long ≡ i = omega arith in
        (λ t. get_or (is t) (past t) 0) ∙ get_or-append_right a.room.used (first_of f n) long (long + i) 0 (sym same) (omega arith) ∙ ap (λ z. get_or (first_of f n) z 0) back ∙ get_first f n i 0 l

shows_record : (k : Shape) (a : Account) (name : List ℕ) (mol : Molecule) (used : List ℕ) → used ≡ a.room.used ++ first_of (written name mol) (size_of name mol) → IsName name → IsMolecule mol → IsMarked mol
    → ShowsRecord name mol (λ i. get_or used (next_block k a - region_of k a.who + i) 0)
shows_record k a name mol used is named valid marked = written_shows name mol (λ i. get_or used (next_block k a - region_of k a.who + i) 0) named valid marked (λ i l. own_word k a (written name mol) (size_of name mol) i used is l)

-- ---- the block is sealed

pub may_seal : (k : Shape) (a : Account) (name : List ℕ) (mol : Molecule) (i : ℕ) → i + 1 ≡ size_of name mol → IsName name → IsMolecule mol → IsMarked mol → IsKnownRoom k a
    → MaySeal k (after_words a (first_of (written name mol) i)) (written name mol i) (record { place = next_block k a; size = size_of name mol })
may_seal k a name mol i last named valid marked known =
    let f : ℕ → ℕ = written name mol in
    let n : ℕ = size_of name mol in
    let used : List ℕ = a.room.used ++ first_of f i ++ f i ∷ [] in
    let is : used ≡ a.room.used ++ first_of f n = used_more a.room.used f i n last in
    let shows = shows_record k a name mol used is named valid marked in
    let least = size_least name mol in record {
      fits = record {
        from = from_least (region_of k a.who) (length a.room.used);
        until = until_end (region_of k a.who) (length a.room.used) n (length used) (ap (λ (l : List ℕ). length l) is ∙ length-append a.room.used (first_of f n)) (length_first f n);
        long = sym shows.size;
      };
      past = known.within;
      first = own_word k a f n 1 used is (omega arith) ∙ at_mark name mol 1 (omega arith) (omega arith);
      last = own_word k a f n 2 used is (omega arith) ∙ at_mark name mol 2 (omega arith) (omega arith);
      shows = shows.record_is;
    }
  where
    from_least : (from long : ℕ) → from ≤ from + long
    from_least from long = omega arith

    until_end : (from long n all : ℕ) {m : ℕ} → all ≡ long + m → m ≡ n → from + long + n ≤ from + all
    until_end from long n all e h = omega arith

-- the account after it
seal_more : (a : Account) (name : List ℕ) (mol : Molecule) (block i : ℕ) → i + 1 ≡ size_of name mol
    → after_word (after_words a (first_of (written name mol) i)) (written name mol i) (record { place = block; size = size_of name mol } ∷ []) ≡ after_block a record { block = block; name = name; mol = mol }
seal_more a name mol block i last =
    let used = used_more a.room.used (written name mol) i (size_of name mol) last in
    λ t. record a { room = record a.room { used = used t; sealed = a.room.sealed ++ record { place = block; size = size_of name mol } ∷ [] } }

at_last : {A : Type 0} (l : List A) (x : A) → get_elem? (l ++ x ∷ []) (length l) ≡ some x
at_last [] x = refl
at_last (y ∷ ys) x = at_last ys x

-- the block is in the table
pub in_table : (k : Shape) (a : Account) (size : ℕ) → region_of k a.who + k.room ≤ total_of k → length a.room.used + size ≤ k.room → 3 ≤ size → IsInTable k (next_block k a)
in_table k a size until room some_words = let least = region_least k a.who in record { from = low (region_of k a.who) (length a.room.used) least; until = high (region_of k a.who) (length a.room.used) until room }
  where
    low : (from long : ℕ) {base : ℕ} → base ≤ from → base ≤ from + long
    low from long l = omega arith

    high : (from long : ℕ) {room total : ℕ} → from + room ≤ total → long + size ≤ room → from + long + 3 ≤ total
    high from long l h = omega arith

-- a block that was published was sealed, and so lies before this one
pub is_written : (k : Shape) (a : Account) (name : List ℕ) (mol : Molecule) → IsName name → IsMolecule mol → IsMarked mol → IsKnownRoom k a → IsInTable k (next_block k a) → IsWritten k (after_block a (staging k a name mol)) (staging k a name mol)
is_written k a name mol named valid marked known there =
    let shows = shows_record k a name mol (a.room.used ++ first_of (written name mol) (size_of name mol)) refl named valid marked in record {
      sealed = (length a.room.sealed, record { place = next_block k a; size = size_of name mol }, at_last a.room.sealed (record { place = next_block k a; size = size_of name mol }), refl);
      fresh = λ t. let (n, s, here, is) = known.listed (next_block k a) t in let before = known.before n s here in absurd (not_itself s.place (next_block k a) is before);
      place = there;
      from = low (region_of k a.who) (length a.room.used);
      until = ends (region_of k a.who) (length a.room.used) (size_of name mol) (length (a.room.used ++ first_of (written name mol) (size_of name mol)))
          (length-append a.room.used (first_of (written name mol) (size_of name mol)) ∙ ap (λ (n : ℕ). length a.room.used + n) (length_first (written name mol) (size_of name mol))) shows.size;
      name_is = shows.name;
      mol_is = shows.molecule;
    }
  where
    not_itself : (x y : ℕ) → x ≡ y → x < y → ⊥
    not_itself x y e l = omega arith

    low : (from long : ℕ) → from ≤ from + long
    low from long = omega arith

    ends : (from long size all : ℕ) {own : ℕ} → all ≡ long + size → own ≡ size → from + long + own ≤ from + all
    ends from long size all e h = omega arith

-- ---- the caller

pub may_store : (b : Place) (c d : Seated) (f : ℕ → ℕ) (i : ℕ) → d ≡ with_account c (after_words c.account (first_of f i)) → IsLoader c → length c.account.room.used + i < b.shape.room → MayStore b.shape d.account (number_of d)
may_store b c d f i e loader room =
    let long = length-append c.account.room.used (first_of f i) in
    let count = length_first f i in
    subst (λ (x : Seated). MayStore b.shape x.account (number_of x)) (sym e) record { who = loader; room = omega arith }

pub next_word : (c d e : Seated) (f : ℕ → ℕ) (i word : ℕ) → d ≡ with_account c (after_words c.account (first_of f i)) → word ≡ f i → e ≡ with_account d (after_word d.account word []) → e ≡ with_account c (after_words c.account (first_of f (i + 1)))
next_word c d e f i word same is after =
    after ∙ (λ t. with_account (same t) (after_word (same t).account (is t) [])) ∙ ap (with_account c) (word_more c.account f i)

pub seal_asked : (k : Shape) (c d : Seated) (name : List ℕ) (mol : Molecule) (i word place size : ℕ) → d ≡ with_account c (after_words c.account (first_of (written name mol) i)) → word ≡ written name mol i → place ≡ next_block k c.account → size ≡ size_of name mol → i + 1 ≡ size_of name mol
    → IsName name → IsMolecule mol → IsMarked mol → IsKnownRoom k c.account → MaySeal k d.account word (record { place = place; size = size })
seal_asked k c d name mol i word place size same is here long last named valid marked known =
    subst (λ (x : Seated × ℕ × ℕ × ℕ). MaySeal k x.0.account x.1 (record { place = x.2; size = x.3 })) (λ t. (sym same t, sym is t, sym here t, sym long t)) (may_seal k c.account name mol i last named valid marked known)

pub last_word : (k : Shape) (c d e : Seated) (name : List ℕ) (mol : Molecule) (i word place size : ℕ) → d ≡ with_account c (after_words c.account (first_of (written name mol) i)) → word ≡ written name mol i → place ≡ next_block k c.account → size ≡ size_of name mol → i + 1 ≡ size_of name mol
    → e ≡ with_account d (after_word d.account word (record { place = place; size = size } ∷ [])) → e ≡ with_account c (after_block c.account (staging k c.account name mol))
last_word k c d e name mol i word place size same is here long last after =
    after ∙ (λ t. with_account (same t) (after_word (same t).account (is t) (record { place = here t; size = long t } ∷ []))) ∙ ap (with_account c) (seal_more c.account name mol (next_block k c.account) i last)

-- the last word of so many
pub one_less : (size n used room : ℕ) → size ≡ n → 3 ≤ size → used + n ≤ room → (size - 1 + 1 ≡ n) × (used + (size - 1) < room)
one_less size n used room e some_words fits = (omega arith, omega arith)
