-- How much was loaded: word by word, block by block, number by number.
use Rattle.std.proofs.Common.{◌≡◌, ℕ, ◌+◌, ◌-◌, ◌≤◌, List, [], ◌∷◌, ◌++◌, refl, sym, ap, ◌∙◌, subst, arith, append_assoc, append-nil, length-append}
use Rattle.std.proofs.lemmas.List.Sums.{sum_by-append}
use Rattle.board_core.specs.declared.account.Account.{Account}
use Rattle.board_core.specs.declared.loads.WordLoad.{WordLoad}
use Rattle.board_core.specs.After.{after_shown, after_head, after_mark, after_fact}
use Rattle.board.specs.Seated.{Seated, with_account}
use Rattle.searcher.specs.Searched.{Loads, LoadsOnce, words_past}

pub loads_none : (a : Account) → Loads a a 0 0 0 []
loads_none a = record { shown_are = omega arith; marks_are = omega arith; words_are = omega arith; heads_are = sym (append-nil a.loads.heads) }

pub loads_both : (a b c : Account) (s t m n v w : ℕ) (gs hs : List WordLoad) → Loads a b s m v gs → Loads b c t n w hs → Loads a c (s + t) (m + n) (v + w) (gs ++ hs)
loads_both a b c s t m n v w gs hs f g = record {
  shown_are = omega (arith, f.shown_are, g.shown_are);
  marks_are = omega (arith, f.marks_are, g.marks_are);
  words_are = omega (arith, f.words_are, g.words_are);
  heads_are = g.heads_are ∙ (ap (λ l. l ++ hs) f.heads_are ∙ append_assoc a.loads.heads gs hs);
}

-- ---- one load, by what the call says of the caller

module _ (c n : Seated) where
  loads_after : (a : Account) (shown marks words : ℕ) (heads : List WordLoad) → n ≡ with_account c a → Loads c.account a shown marks words heads → Loads c.account n.account shown marks words heads
  loads_after a shown marks words heads is loads = subst (λ (x : Seated). Loads c.account x.account shown marks words heads) (sym is) loads

  pub loads_shown : (place word : ℕ) → n ≡ with_account c (after_shown c.account place word) → Loads c.account n.account 1 0 0 []
  loads_shown place word is = loads_after (after_shown c.account place word) 1 0 0 [] is
      record { shown_are = length-append c.account.loads.shown (record { place = place; word = word; front = c.account.log.seen } ∷ []); marks_are = omega arith; words_are = omega arith; heads_are = sym (append-nil c.account.loads.heads) }

  pub loads_mark : (place word : ℕ) → n ≡ with_account c (after_mark c.account place word) → Loads c.account n.account 0 1 0 []
  loads_mark place word is = loads_after (after_mark c.account place word) 0 1 0 [] is
      record { shown_are = omega arith; marks_are = length-append c.account.loads.marks (record { place = place; word = word; front = c.account.log.seen } ∷ []); words_are = omega arith; heads_are = sym (append-nil c.account.loads.heads) }

  pub loads_head : (place word : ℕ) → n ≡ with_account c (after_head c.account place word) → Loads c.account n.account 0 0 0 (record { place = place; word = word } ∷ [])
  loads_head place word is = loads_after (after_head c.account place word) 0 0 0 (record { place = place; word = word } ∷ []) is
      record { shown_are = omega arith; marks_are = omega arith; words_are = omega arith; heads_are = refl }

  pub loads_fact : (place word : ℕ) → n ≡ with_account c (after_fact c.account place word) → Loads c.account n.account 0 0 1 []
  loads_fact place word is = loads_after (after_fact c.account place word) 0 0 1 [] is record {
    shown_are = omega arith;
    marks_are = omega arith;
    words_are = let more = length-append c.account.loads.facts (record { place = place; word = word } ∷ []) in omega (arith, more);
    heads_are = sym (append-nil c.account.loads.heads);
  }

-- a word more of a block
pub loads_next : (a b c : Account) (from index : ℕ) → from ≤ index → Loads a b 0 0 (index - from) [] → Loads b c 0 0 1 [] → Loads a c 0 0 (index + 1 - from) []
loads_next a b c from index past f g = record {
  shown_are = omega (arith, f.shown_are, g.shown_are);
  marks_are = omega (arith, f.marks_are, g.marks_are);
  words_are = omega (arith, f.words_are, g.words_are, past);
  heads_are = g.heads_are ∙ (append-nil b.loads.heads ∙ f.heads_are);
}

-- the first word of a block, then its name and atom words, then its bond words
pub loads_block : (a b c d : Account) (block head low high : ℕ) → Loads a b 0 0 0 (record { place = block; word = head } ∷ []) → Loads b c 0 0 low [] → Loads c d 0 0 high [] → Loads a d 0 0 (low + high) (record { place = block; word = head } ∷ [])
loads_block a b c d block head low high f g h = record {
  shown_are = omega (arith, f.shown_are, g.shown_are, h.shown_are);
  marks_are = omega (arith, f.marks_are, g.marks_are, h.marks_are);
  words_are = omega (arith, f.words_are, g.words_are, h.words_are);
  heads_are = h.heads_are ∙ (append-nil c.loads.heads ∙ (g.heads_are ∙ (append-nil b.loads.heads ∙ f.heads_are)));
}

-- ---- numbers

pub once_none : (a : Account) → LoadsOnce a a 0
once_none a = record { shown = 0; marks = 0; words = 0; heads = []; loads = loads_none a; few_shown = omega arith; few_marks = omega arith; few_heads = omega arith; few_words = omega arith }

pub once_both : (a b c : Account) (m n : ℕ) → LoadsOnce a b m → LoadsOnce b c n → LoadsOnce a c (m + n)
once_both a b c m n f g = let first = f.few_words in let second = g.few_words in record {
  shown = f.shown + g.shown;
  marks = f.marks + g.marks;
  words = f.words + g.words;
  heads = f.heads ++ g.heads;
  loads = loads_both a b c f.shown g.shown f.marks g.marks f.words g.words f.heads g.heads f.loads g.loads;
  few_shown = omega (arith, f.few_shown, g.few_shown);
  few_marks = omega (arith, f.few_marks, g.few_marks);
  few_heads = omega (arith, f.few_heads, g.few_heads, length-append f.heads g.heads);
  few_words = omega (arith, first, second, sum_by-append (λ (h : WordLoad). words_past h.word) f.heads g.heads);
}

pub once_fewer : (a b : Account) (m n : ℕ) → m ≤ n → LoadsOnce a b m → LoadsOnce a b n
once_fewer a b m n less f = record {
  shown = f.shown;
  marks = f.marks;
  words = f.words;
  heads = f.heads;
  loads = f.loads;
  few_shown = omega (arith, f.few_shown, less);
  few_marks = omega (arith, f.few_marks, less);
  few_heads = omega (arith, f.few_heads, less);
  few_words = f.few_words;
}

-- a number whose block is not loaded
pub once_passed : (a b : Account) (marks : ℕ) → marks ≤ 1 → Loads a b 1 marks 0 [] → LoadsOnce a b 1
once_passed a b marks few loads = record { shown = 1; marks = marks; words = 0; heads = []; loads = loads; few_shown = omega arith; few_marks = few; few_heads = omega arith; few_words = omega arith }

-- a number whose block is loaded
pub once_block : (a b c : Account) (marks : ℕ) (head : WordLoad) → marks ≤ 1 → Loads a b 1 marks 0 [] → Loads b c 0 0 (words_past head.word) (head ∷ []) → LoadsOnce a c 1
once_block a b c marks head few first rest = record {
  shown = 1;
  marks = marks;
  words = words_past head.word;
  heads = head ∷ [];
  loads = record {
    shown_are = omega (arith, first.shown_are, rest.shown_are);
    marks_are = omega (arith, first.marks_are, rest.marks_are);
    words_are = omega (arith, first.words_are, rest.words_are);
    heads_are = rest.heads_are ∙ ap (λ l. l ++ head ∷ []) (first.heads_are ∙ append-nil a.loads.heads);
  };
  few_shown = omega arith;
  few_marks = few;
  few_heads = omega arith;
  few_words = omega arith;
}
