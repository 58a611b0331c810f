-- Sets of places: what a word says of each place.
use Rattle.std.proofs.Common.{◌≡◌, ◌≢◌, ℕ, ◌+◌, ◌-◌, ◌*◌, ◌/◌, ◌%◌, ◌<◌, ◌≤◌, Bool, true, false, eqb, List, [], ◌∷◌, ◌++◌, length, get_or, set, replicate, refl, sym, ap, ◌∙◌, subst, inl, inr, arith, rules, w64}
use Rattle.std.specs.Prelude.{◌^◌, bit_or, bit_and}
use Rattle.std.specs.List.{list_any}
use Rattle.std.specs.Ordering.{ord_max, nat_cmp}
use Rattle.std.specs.Int.{bit_at, bit_not, trailing_zeros}
use Rattle.std.proofs.lemmas.Bool.{cases_eq, cases_lt, cases_Bool, eq-eqb, ne_eqb, or_from, or_left, or_right}
use Rattle.std.proofs.lemmas.List.{get_or-set_same, get_or-set_other, get_or-replicate, get_or_past, get_or_push, get_or_append_left, length_push}
use Rattle.std.proofs.lemmas.List.Elements.{All-push}
use Rattle.std.proofs.lemmas.List.Folds.{list_any_none, list_any-append}
use Rattle.std.proofs.lemmas.List.Quantifiers.{all_pairs_push}
use Rattle.std.proofs.lemmas.Nat.{pow-add}
use Rattle.std.proofs.Math.Nat.{div-div-eq-div-mul, div-le_self}
use Rattle.std.proofs.lemmas.Nat.Bits.{shr_and_one, bit_at_clear_same, bit_at_clear_other, bit_at_set_same, bit_at_set_other, bit_at_above, bit_at-zero, bit_at-trailing_zeros}
use Rattle.embed.specs.Places.{place_bit, IsNextBit, AreTaken}
use Rattle.embed.proofs.Maps.{not_there}

-- ---- a set grows

pub place_bit-same : (words : List ℕ) (p : ℕ) → p / 64 < length words
    → place_bit (set words (p / 64) (bit_or (get_or words (p / 64) 0) (1 * 2 ^ (p % 64) % 18446744073709551616))) p ≡ 1
unfolding place_bit
place_bit-same words p within = ap (λ (w : ℕ). bit_at w (p % 64)) (get_or-set_same words (p / 64) _ 0 within)
    ∙ bit_at_set_same w64 (get_or words (p / 64) 0) (p % 64) (omega arith)

pub place_bit-other : (words : List ℕ) (p n : ℕ) → p / 64 < length words → n ≢ p
    → place_bit (set words (p / 64) (bit_or (get_or words (p / 64) 0) (1 * 2 ^ (p % 64) % 18446744073709551616))) n
    ≡ place_bit words n
unfolding place_bit
place_bit-other words p n within other = elim (cases_eq (n / 64) (p / 64)) [
  | inl same ↦
      let apart : n % 64 ≢ p % 64 = λ e. other (omega arith) in
      rw same (ap (λ (w : ℕ). bit_at w (n % 64)) (get_or-set_same words (p / 64) _ 0 within)
      ∙ bit_at_set_other w64 (get_or words (p / 64) 0) (p % 64) (omega arith) (n % 64) apart)
  | inr far ↦ ap (λ (w : ℕ). bit_at w (n % 64)) (get_or-set_other words (p / 64) (n / 64) _ 0 far)
]

pub place_bit-cleared : (words : List ℕ) (p : ℕ) → p / 64 < length words
    → place_bit (set words (p / 64) (bit_and (get_or words (p / 64) 0) (bit_not w64 (1 * 2 ^ (p % 64) % 18446744073709551616)))) p ≡ 0
unfolding place_bit
place_bit-cleared words p within = ap (λ (w : ℕ). bit_at w (p % 64)) (get_or-set_same words (p / 64) _ 0 within)
    ∙ bit_at_clear_same w64 (get_or words (p / 64) 0) (p % 64) (omega arith)

pub place_bit-spared : (words : List ℕ) (p n : ℕ) → p / 64 < length words → n ≢ p
    → place_bit (set words (p / 64) (bit_and (get_or words (p / 64) 0) (bit_not w64 (1 * 2 ^ (p % 64) % 18446744073709551616)))) n
    ≡ place_bit words n
unfolding place_bit
place_bit-spared words p n within other = elim (cases_eq (n / 64) (p / 64)) [
  | inl same ↦
      let apart : n % 64 ≢ p % 64 = λ e. other (omega arith) in
      rw same (ap (λ (w : ℕ). bit_at w (n % 64)) (get_or-set_same words (p / 64) _ 0 within)
      ∙ bit_at_clear_other w64 (get_or words (p / 64) 0) (p % 64) (omega arith) (n % 64) (omega arith) apart)
  | inr far ↦ ap (λ (w : ℕ). bit_at w (n % 64)) (get_or-set_other words (p / 64) (n / 64) _ 0 far)
]

pub place_bit-read : (words : List ℕ) (p : ℕ) → bit_and (get_or words (p / 64) 0 / 2 ^ (p % 64)) 1 ≡ place_bit words p
unfolding place_bit
place_bit-read words p = shr_and_one (get_or words (p / 64) 0) (p % 64)

-- a place stays in a set that another is added to
pub bit-kept : (before now : List ℕ) (y n : ℕ) → place_bit now y ≡ 1
    → ((i : ℕ) → i ≢ y → place_bit now i ≡ place_bit before i) → place_bit before n ≡ 1 → place_bit now n ≡ 1
bit-kept before now y n added others there = elim (cases_eq n y) [
  | inl same ↦ ap (place_bit now) same ∙ added
  | inr other ↦ others n other ∙ there
]

-- no place of the set is after that one
abbrev pub HasNoneAfter : List ℕ → ℕ → Type 0
HasNoneAfter words last = (p : ℕ) → last < p → place_bit words p ≡ 0

pub HasNoneAfter-more : (before now : List ℕ) (last later y : ℕ) → HasNoneAfter before last → last ≤ later → y ≤ later
    → ((n : ℕ) → n ≢ y → place_bit now n ≡ place_bit before n) → HasNoneAfter now later
HasNoneAfter-more before now last later y none le in_y others p lt =
    others p (λ same. omega arith) ∙ none p (omega arith)

-- the later of two places
pub later-of : (last y later : ℕ) → later ≡ ord_max nat_cmp last y → last < 1024 → y < 1024
    → (last ≤ later) × (y ≤ later) × (later < 1024)
later-of last y later is small near = elim (cases_lt last y) [
  | inl before ↦ grind (arith, rules)
  | inr after ↦ grind (arith, rules)
]

-- ---- no place

abbrev pub empty : List ℕ
empty = replicate 16 0

empty-at : (n : ℕ) → get_or empty n 0 ≡ 0
empty-at n = elim (cases_lt n 16) [
  | inl within ↦ get_or-replicate 16 n 0 0 within
  | inr past ↦ get_or_past empty n 0 past
]

pub place_bit-none : (p : ℕ) → place_bit empty p ≡ 0
unfolding place_bit
place_bit-none p = ap (λ (w : ℕ). bit_at w (p % 64)) (empty-at (p / 64)) ∙ bit_at-zero (p % 64)

-- ---- the next place

bit_at-rest : (w s i : ℕ) → bit_at (w / 2 ^ s) i ≡ bit_at w (s + i)
bit_at-rest w s i = ap (λ (n : ℕ). n % 2)
    (div-div-eq-div-mul w (2 ^ s) (2 ^ i) ∙ ap (λ (n : ℕ). w / n) (sym (pow-add 2 s i)))

-- what is left of the word of a place, from that place on
abbrev rest_of : List ℕ → ℕ → ℕ
rest_of words from = get_or words (from / 64) 0 / 2 ^ (from % 64)

place_bit-rest : (words : List ℕ) (from i : ℕ) → from % 64 + i < 64
    → place_bit words (from + i) ≡ bit_at (rest_of words from) i
unfolding place_bit
place_bit-rest words from i within =
    let word : (from + i) / 64 ≡ from / 64 = omega arith in
    let bit : (from + i) % 64 ≡ from % 64 + i = omega arith in
    ap (λ (n : ℕ). bit_at (get_or words n 0) ((from + i) % 64)) word
    ∙ ap (bit_at (get_or words (from / 64) 0)) bit
    ∙ sym (bit_at-rest (get_or words (from / 64) 0) (from % 64) i)

-- no place of the set is after the one and below the other
abbrev pub HasNone : List ℕ → ℕ → ℕ → Type 0
HasNone words after from = (p : ℕ) → after < p → p < from → place_bit words p ≡ 0

none-up_to : (words : List ℕ) (after from i : ℕ) → HasNone words after from → from % 64 + i ≤ 64
    → ((j : ℕ) → j < i → bit_at (rest_of words from) j ≡ 0) → HasNone words after (from + i)
none-up_to words after from i none within clear p above below = elim (cases_lt p from) [
  | inl before ↦ none p above before
  | inr later ↦
      let at : p ≡ from + (p - from) = omega arith in
      ap (place_bit words) at ∙ place_bit-rest words from (p - from) (omega arith) ∙ clear (p - from) (omega arith)
]

pub none-in_word : (words : List ℕ) (after from : ℕ) → HasNone words after from → rest_of words from ≡ 0
    → HasNone words after ((from / 64 + 1) * 64)
none-in_word words after from none empty =
    let past : from + (64 - from % 64) ≡ (from / 64 + 1) * 64 = omega arith in
    subst (λ (n : ℕ). HasNone words after n) past
    (none-up_to words after from (64 - from % 64) none (omega arith)
    (λ j lt. ap (λ (w : ℕ). bit_at w j) empty ∙ bit_at-zero j))

pub IsNextBit-at : (words : List ℕ) (after from : ℕ) → HasNone words after from → after < from
    → get_or words (from / 64) 0 < 2 ^ 64 → 0 < rest_of words from
    → IsNextBit words after (from + trailing_zeros w64 (rest_of words from))
IsNextBit-at words after from none above fits some =
    let word : ℕ = get_or words (from / 64) 0 in
    let rest : ℕ = rest_of words from in
    let low = bit_at-trailing_zeros w64 rest some (omega (arith, fits, div-le_self word (2 ^ (from % 64)))) in
    let i : ℕ = trailing_zeros w64 rest in
    let within : from % 64 + i < 64 = elim (cases_lt (from % 64 + i) 64) [
      | inl inside ↦ inside
      | inr outside ↦ absurd (omega
          (arith, low.1, bit_at-rest word (from % 64) i, bit_at_above word 64 (from % 64 + i) fits outside))
    ] in
    record {
      above = omega arith;
      set = place_bit-rest words from i within ∙ low.1;
      between = none-up_to words after from i none (omega arith) low.2;
    }

-- ---- the set of a map's places

pub AreTaken-none : (words : List ℕ) → ((p : ℕ) → place_bit words p ≡ 0) → AreTaken [] words
AreTaken-none words none = record {
  within = λ k d lt. absurd (omega arith);
  apart = λ i j d lt in_j. absurd (omega arith);
  flags = λ p small. ap (λ (b : ℕ). eqb b 1) (sym (none p));
}

-- of another place than the last, the shorter map says the same
any-push : (f : List ℕ) (p n : ℕ) → n ≢ p → list_any (λ x. eqb x n) (f ++ p ∷ []) ≡ list_any (λ x. eqb x n) f
any-push f p n other = elim (cases_Bool (list_any (λ x. eqb x n) f)) [
  | inl there ↦ list_any-append (λ x. eqb x n) f (p ∷ []) ∙ or_left _ _ there ∙ sym there
  | inr none ↦ list_any-append (λ x. eqb x n) f (p ∷ [])
      ∙ or_from _ _ none (or_from _ _ (ne_eqb p n (λ e. other (sym e))) refl) ∙ sym none
]

any-last : (f : List ℕ) (p : ℕ) → list_any (λ x. eqb x p) (f ++ p ∷ []) ≡ true
any-last f p = list_any-append (λ x. eqb x p) f (p ∷ []) ∙ or_right _ _ (or_left _ _ (eq-eqb p p refl))

pub AreTaken-push : (f longer before now : List ℕ) (p : ℕ) → AreTaken f before → p < 1024
    → list_any (λ x. eqb x p) f ≡ false → longer ≡ f ++ p ∷ [] → place_bit now p ≡ 1
    → ((n : ℕ) → n ≢ p → place_bit now n ≡ place_bit before n) → AreTaken longer now
AreTaken-push f longer before now p t small free pushed added others =
    subst (λ (g : List ℕ). AreTaken g now) (sym pushed) (record {
      within = All-push (λ x. x < 1024) f p t.within small;
      apart = all_pairs_push (λ x y. x ≢ y) f p t.apart (λ k d within. not_there f p k d within free);
      flags = λ n lt. elim (cases_eq n p) [
        | inl same ↦ rw same (any-last f p ∙ sym (eq-eqb (place_bit now p) 1 added))
        | inr other ↦ any-push f p n other ∙ t.flags n lt ∙ ap (λ (b : ℕ). eqb b 1) (sym (others n other))
      ];
    })

pub last-within : (f longer words : List ℕ) (p : ℕ) → AreTaken longer words → longer ≡ f ++ p ∷ [] → p < 1024
last-within f longer words p t pushed =
    let t-push : AreTaken (f ++ p ∷ []) words = subst (λ (g : List ℕ). AreTaken g words) pushed t in
    subst (λ (x : ℕ). x < 1024) (get_or_push f p 0 (length f) refl)
    (t-push.within (length f) 0 (omega (arith, length_push f p)))

pub AreTaken-pop : (f longer before now : List ℕ) (p : ℕ) → AreTaken longer before → longer ≡ f ++ p ∷ []
    → place_bit now p ≡ 0 → ((n : ℕ) → n ≢ p → place_bit now n ≡ place_bit before n) → AreTaken f now
AreTaken-pop f longer before now p t pushed removed others =
    let whole : AreTaken (f ++ p ∷ []) before = subst (λ (g : List ℕ). AreTaken g before) pushed t in
    let len : length (f ++ p ∷ []) ≡ length f + 1 = length_push f p in
    let in_f : (k d : ℕ) → k < length f → get_or (f ++ p ∷ []) k d ≡ get_or f k d = λ k d within.
    get_or_append_left f (p ∷ []) d k within in
    record {
      within = λ k d lt. subst (λ (x : ℕ). x < 1024) (in_f k d lt) (whole.within k d (omega arith));
      apart = λ i j d lt in_j same. whole.apart i j d lt (omega arith)
          (in_f i d (omega arith) ∙ same ∙ sym (in_f j d in_j));
      flags = λ n lt. elim (cases_eq n p) [
        | inl same ↦ rw same (list_any_none (λ x. eqb x p) f (λ k d within. ne_eqb (get_or f k d) p
            (λ is. whole.apart k (length f) d within (omega arith)
            (in_f k d within ∙ is ∙ sym (get_or_push f p d (length f) refl))))
            ∙ ap (λ (b : ℕ). eqb b 1) (sym removed))
        | inr other ↦ sym (any-push f p n other) ∙ whole.flags n lt ∙ ap (λ (b : ℕ). eqb b 1) (sym (others n other))
      ];
    }

pub has-is : (f words : List ℕ) (p : ℕ) (answer : Bool) → AreTaken f words → p < 1024
    → answer ≡ eqb (place_bit words p) 1 → answer ≡ list_any (λ x. eqb x p) f
has-is f words p answer t small answered = answered ∙ sym (t.flags p small)

pub none-outside : (f words : List ℕ) (p : ℕ) → AreTaken f words → 1024 ≤ p → list_any (λ x. eqb x p) f ≡ false
none-outside f words p t high = list_any_none (λ x. eqb x p) f
    (λ k d within. ne_eqb (get_or f k d) p (λ is. omega (arith, t.within k d within)))
