-- The leaves that a caller keeps in mind.
use Rattle.std.proofs.Common.{◌≡◌, ◌≢◌, ℕ, Bool, zero, suc, ◌<◌, ◌/◌, List, [], ◌∷◌, ◌++◌, length, set, replicate, slice_index_or, refl, sym, ap, ◌∙◌, subst, arith, inr}
use mathlib.Core.Option.{some, none, some-injective, some-ne-none}
use lib.ListN.{get_elem?}
use Rattle.atomic_table.specs.Table.{step, Allows}
use Rattle.atomic_table.proofs.Lists.{at_longer}
use Rattle.htss_defs.specs.declared.shape.Shape.{Shape}
use Rattle.board_core.specs.declared.tree.Reached.{Reached}
use Rattle.board_core.specs.Each.{Each, In}
use Rattle.board_core.specs.declared.account.Account.{Account}
use Rattle.board_core.specs.ClassTree.{header_of}
use Rattle.board_core.specs.KnownPages.{place_of}
use Rattle.board_core.specs.Holds.{Holds}
use Rattle.board_core.specs.Loaded.{IsPage, page_word}
use Rattle.board_core.proofs.PassLeaf.{kept_there, recall_allowed}
use Rattle.board_core.specs.Passing.{MayPassLeaf, AreKeptOf, after_kept, kept_at, MayRecall, recalled, Recalls}
use Rattle.board_core.proofs.Lists.{each_set}
use Rattle.board_core.specs.Steps.{Mine, became}
use Rattle.board_core.specs.After.{visited}
use Rattle.board.proofs.Stocks.{HasSeat}
use Rattle.board.specs.declared.seats.Tail.{Tail}
use Rattle.board.specs.Tails.{AreTails}

-- none is kept
none_kept : (k : Shape) (xs : List Reached) (n j : ℕ) (t : Tail) → get_elem? (replicate n (record { first = 0; last = 0 })) j ≡ some t → t.first ≢ 0 → AreKeptOf xs t.first t.last × IsPage k t.last
none_kept k xs zero j t e some_first = absurd (some-ne-none t (sym e))
none_kept k xs (suc n) zero t e some_first = absurd (some_first (ap (λ (z : Tail). z.first) (sym (some-injective _ t e))))
none_kept k xs (suc n) (suc j) t e some_first = none_kept k xs n j t e some_first

pub no_tails : (k : Shape) (xs : List Reached) (n : ℕ) (ts : List Tail) → ts ≡ replicate n (record { first = 0; last = 0 }) → AreTails k xs ts
no_tails k xs n ts e = record { each = λ j t there. none_kept k xs n j t (subst (λ (l : List Tail). get_elem? l j ≡ some t) e there) }

-- what was kept stays
kept_longer : (xs ys : List Reached) (first last : ℕ) → AreKeptOf xs first last → AreKeptOf (xs ++ ys) first last
kept_longer xs ys first last h = record {
  one = h.one;
  one_there = (h.one_there.0, at_longer xs ys h.one_there.0 h.one h.one_there.1);
  one_page = h.one_page;
  other = h.other;
  other_there = (h.other_there.0, at_longer xs ys h.other_there.0 h.other h.other_there.1);
  other_page = h.other_page;
  path = h.path;
}

pub tails_longer : (k : Shape) (xs ys : List Reached) (ts : List Tail) → AreTails k xs ts → AreTails k (xs ++ ys) ts
tails_longer k xs ys ts h = record { each = λ j t there some_first. let e = h.each j t there some_first in (kept_longer xs ys t.first t.last e.0, e.1) }

-- one is remembered
pub tails_set : (k : Shape) (xs : List Reached) (ts : List Tail) (i : ℕ) (t : Tail) → AreKeptOf xs t.first t.last → IsPage k t.last → AreTails k xs ts → AreTails k xs (set ts i t)
tails_set k xs ts i t kept inside h = record { each = each_set (λ (z : Tail). z.first ≢ 0 → AreKeptOf xs z.first z.last × IsPage k z.last) ts i t (λ _. (kept, inside)) (λ j z _ there. h.each j z there) }

-- the two leaves that are kept
at_first : (xs ys : List Reached) (x : Reached) → get_elem? (xs ++ x ∷ ys) (length xs) ≡ some x
at_first [] ys x = refl
at_first (z ∷ xs) ys x = at_first xs ys x

at_second : (xs : List Reached) (x y : Reached) → get_elem? (xs ++ x ∷ y ∷ []) (suc (length xs)) ≡ some y
at_second [] x y = refl
at_second (z ∷ xs) x y = at_second xs x y

pub pair_kept : (xs : List Reached) (x y : Reached) (first last : ℕ) → x.page ≡ first → y.page ≡ last → y.path ≡ x.path → AreKeptOf (xs ++ x ∷ y ∷ []) first last
pair_kept xs x y first last p q path = record {
  one = x;
  one_there = (length xs, at_first xs (y ∷ []) x);
  one_page = p;
  other = y;
  other_there = (suc (length xs), at_second xs x y);
  other_page = q;
  path = path;
}

pub keep_seat : (seen used : ℕ) (loader : Bool) (number : ℕ) (stock : List ℕ) (tails : List Tail) (next i j : ℕ) (m n : Mine) → n ≡ became m (after_kept m.0.me i j) → HasSeat seen used loader number stock tails next m → HasSeat seen used loader number stock tails next n
keep_seat seen used loader number stock tails next i j m n t h =
    let (a, b, c, d, e, f, kept, page, leaves) = h.facts in
    subst (HasSeat seen used loader number stock tails next) (sym t) record { facts = (a, b, c, d, e, f, kept, page, tails_longer m.0.shape m.0.me.tree.lasting (visited m.0.me.tree.reached i ∷ visited m.0.me.tree.reached j ∷ []) tails leaves) }

-- what is found at a place
tail_at : (k : Shape) (xs : List Reached) (ts : List Tail) (i : ℕ) → ((j : ℕ) (t : Tail) → get_elem? ts j ≡ some t → t.first ≢ 0 → AreKeptOf xs t.first t.last × IsPage k t.last) → (slice_index_or ts i (record { first = 0; last = 0 })).first ≢ 0
    → AreKeptOf xs (slice_index_or ts i (record { first = 0; last = 0 })).first (slice_index_or ts i (record { first = 0; last = 0 })).last × IsPage k (slice_index_or ts i (record { first = 0; last = 0 })).last
tail_at k xs [] i each some_first = absurd (some_first refl)
tail_at k xs (t ∷ ts) zero each some_first = each 0 t refl some_first
tail_at k xs (t ∷ ts) (suc i) each some_first = tail_at k xs ts i (λ j x there. each (suc j) x there) some_first

pub tail_known : (k : Shape) (xs : List Reached) (ts : List Tail) (i page : ℕ) → AreTails k xs ts → (slice_index_or ts i (record { first = 0; last = 0 })).first ≡ page → 0 < page
    → AreKeptOf xs page (slice_index_or ts i (record { first = 0; last = 0 })).last × IsPage k (slice_index_or ts i (record { first = 0; last = 0 })).last
tail_known k xs ts i page h is above =
    let both = tail_at k xs ts i h.each (λ none. let zero_page : page ≡ 0 = sym is ∙ none in omega arith) in
    (subst (λ (p : ℕ). AreKeptOf xs p (slice_index_or ts i (record { first = 0; last = 0 })).last) is both.0, both.1)

-- ---- the steps as the calls ask for them

pub recall_asked : (k : Shape) (slots id number page at_word : ℕ) (to : Reached) (m : Mine) → at_word ≡ page_word k page 0 → to.page ≡ page → m.0.shape ≡ k → MayRecall k m.0.me number to
    → Allows (Holds k) slots id m at_word (λ n. n) (Recalls number to (step slots at_word 0 0 none) m)
recall_asked k slots id number page at_word to m is same shape may = recall_allowed k slots id number at_word to m (is ∙ ap (λ z. page_word k z 0) (sym same)) shape may

-- the leaf that is found by its page
pub may_recall : (k l : Shape) (a : Account) (j page last : ℕ) → MayPassLeaf k a j → (visited a.tree.reached j).page ≡ page → l ≡ k → AreKeptOf a.tree.lasting page last × IsPage l last → MayRecall k a j (kept_at a.tree.lasting last) × ((kept_at a.tree.lasting last).page ≡ last)
may_recall k l a j page last may here shape both =
    let pair = both.0 in
    let there = kept_there a.tree.lasting last pair.other pair.other_there.0 pair.other_there.1 pair.other_page in (
      record {
        may = may;
        kept = inr (there.0, subst (λ (x : ℕ × ℕ). AreKeptOf a.tree.lasting x.0 x.1) (λ i. (sym here i, sym there.1 i)) pair);
        inside = subst (λ (x : Shape × ℕ). IsPage x.0 x.1) (λ i. (shape i, sym there.1 i)) both.1;
      },
      there.1,
    )

-- the rank stands in the header
pub rank_in : (x to : Reached) (header : ℕ) → length x.path ≡ 5 → header ≡ header_of (place_of (recalled x to)) → to.rank ≡ header / 32
rank_in x to header depth is = omega arith
