-- Fields and words of a line: what trimming leaves of columns past its end, and the first word.
use Rattle.std.proofs.Common.{◌≡◌, ◌≢◌, ◌⊎◌, ℕ, zero, suc, ◌+◌, ◌-◌, ◌<◌, eqb, not, cond, Bool, true, false, List, [], ◌∷◌, ◌++◌, length, reverse, replicate, get_or, take, drop, All, refl, sym, ap, subst, ◌∙◌, inl, inr, append_assoc, arith}
use Rattle.std.specs.Prelude.{filter}
use Rattle.std.specs.List.{slice_split}
use Rattle.std.proofs.lemmas.Bool.{ne_eqb, eqb-false, cond-true, cases_Bool}
use Rattle.std.proofs.lemmas.List.{drop-replicate, append-nil, reverse-append, length-take-le, take-append-drop, drop_more, get_or-take}
use Rattle.std.proofs.lemmas.List.Elements.{All-from_get_or}
use Rattle.std.proofs.lemmas.List.Splits.{slice_split_at, slice_split_none}
use Rattle.mol_section.specs.Fields.{trim_front, trim_ends, columns, field, words_of}

abbrev spaces : ℕ → List ℕ
spaces n = replicate n 32

spaces_trim : (n : ℕ) → trim_front (spaces n) ≡ []
spaces_trim zero = refl
spaces_trim (suc n) = spaces_trim n

drop_spaces : (k : ℕ) (line : List ℕ) (n : ℕ) → (j : ℕ) × (drop k (line ++ spaces n) ≡ drop k line ++ spaces j)
drop_spaces zero line n = (n, refl)
drop_spaces (suc k) [] n = (n - suc k, drop-replicate (suc k) n 32)
drop_spaces (suc k) (b ∷ line) n = drop_spaces k line n

take_only : (m n : ℕ) → (j : ℕ) × (take m (spaces n) ≡ spaces j)
take_only zero n = (0, refl)
take_only (suc m) zero = (0, refl)
take_only (suc m) (suc n) = let more = take_only m n in (suc more.0, ap (λ (x : List ℕ). 32 ∷ x) more.1)

take_spaces : (m : ℕ) (line : List ℕ) (n : ℕ) → (j : ℕ) × (take m (line ++ spaces n) ≡ take m line ++ spaces j)
take_spaces zero line n = (0, refl)
take_spaces (suc m) [] n = take_only (suc m) n
take_spaces (suc m) (b ∷ line) n = let more = take_spaces m line n in (more.0, ap (λ (x : List ℕ). b ∷ x) more.1)

front_spaces : (text : List ℕ) (n : ℕ) → (trim_front (text ++ spaces n) ≡ trim_front text ++ spaces n) ⊎ ((trim_front text ≡ []) × (trim_front (text ++ spaces n) ≡ []))
front_spaces [] n = inr (refl, spaces_trim n)
front_spaces (b ∷ text) n = go (cases_Bool (eqb b 32)) (front_spaces text n)
  where
    go : (eqb b 32 ≡ true) ⊎ (eqb b 32 ≡ false) → (trim_front (text ++ spaces n) ≡ trim_front text ++ spaces n) ⊎ ((trim_front text ≡ []) × (trim_front (text ++ spaces n) ≡ []))
        → (trim_front (b ∷ text ++ spaces n) ≡ trim_front (b ∷ text) ++ spaces n) ⊎ ((trim_front (b ∷ text) ≡ []) × (trim_front (b ∷ text ++ spaces n) ≡ []))
    go (inl space) more = rw space more
    go (inr other) more = rw other (inl refl)

back_spaces : (text : List ℕ) (n : ℕ) → trim_front (reverse (text ++ spaces n)) ≡ trim_front (reverse text)
back_spaces text zero = ap (λ (x : List ℕ). trim_front (reverse x)) (append-nil text)
back_spaces text (suc n) =
    ap (λ (x : List ℕ). trim_front (reverse x)) (sym (append_assoc text (32 ∷ []) (spaces n))) ∙ back_spaces (text ++ 32 ∷ []) n
    ∙ ap trim_front (reverse-append text (32 ∷ []))

trim_spaces : (text : List ℕ) (n : ℕ) → trim_ends (text ++ spaces n) ≡ trim_ends text
trim_spaces text n = go (front_spaces text n)
  where
    go : (trim_front (text ++ spaces n) ≡ trim_front text ++ spaces n) ⊎ ((trim_front text ≡ []) × (trim_front (text ++ spaces n) ≡ [])) → trim_ends (text ++ spaces n) ≡ trim_ends text
    go (inl more) = ap (λ (x : List ℕ). reverse (trim_front (reverse x))) more ∙ ap reverse (back_spaces (trim_front text) n)
    go (inr none) = ap (λ (x : List ℕ). reverse (trim_front (reverse x))) (none.1 ∙ sym none.0)

-- the columns that a line has give its field
pub field-columns : (line text : List ℕ) (first last : ℕ) → text ≡ take (last + 1 - first) (drop (first - 1) line)
    → trim_ends text ≡ field first last line
unfolding field
field-columns line text first last is =
    let dropped = drop_spaces (first - 1) line last in
    let taken = take_spaces (last + 1 - first) (drop (first - 1) line) dropped.0 in
    let whole : columns first last line ≡ text ++ spaces taken.0 = ap (take (last + 1 - first)) dropped.1 ∙ taken.1 ∙ ap (λ (x : List ℕ). x ++ spaces taken.0) (sym is) in
    sym (ap trim_ends whole ∙ trim_spaces text taken.0)

-- ---- words

abbrev is_space : ℕ → Bool
is_space b = eqb b 32

abbrev is_full : List ℕ → Bool
is_full word = not (eqb (length word) 0)

words_trim : (text : List ℕ) → words_of (trim_front text) ≡ words_of text
unfolding words_of
words_trim [] = refl
words_trim (b ∷ text) = go (words_trim text) (cases_Bool (eqb b 32))
  where
    go : words_of (trim_front text) ≡ words_of text → (eqb b 32 ≡ true) ⊎ (eqb b 32 ≡ false) → words_of (trim_front (b ∷ text)) ≡ words_of (b ∷ text)
    go more (inl space) = rw space more
    go more (inr other) = ap (λ (t : Bool). words_of (cond t (trim_front text) (b ∷ text))) other

pub trimmed : (text : List ℕ) → get_or (trim_front text) 0 0 ≢ 32
trimmed [] = λ e. absurd (omega arith)
trimmed (b ∷ text) = go (trimmed text) (cases_Bool (eqb b 32))
  where
    go : get_or (trim_front text) 0 0 ≢ 32 → (eqb b 32 ≡ true) ⊎ (eqb b 32 ≡ false) → get_or (trim_front (b ∷ text)) 0 0 ≢ 32
    go more (inl space) = rw space more
    go more (inr other) = rw other (eqb-false b 32 other)

pub words_of-nil : (text front : List ℕ) → front ≡ trim_front text → length front ≡ 0 → words_of text ≡ []
unfolding words_of
words_of-nil text [] is none = sym (words_trim text) ∙ ap words_of (sym is)
words_of-nil text (b ∷ front) is none = absurd (omega arith)

apart : (text : List ℕ) → ((k : ℕ) → k < length text → get_or text k 0 ≢ 32) → All (λ b. is_space b ≡ false) text
apart text none = All-from_get_or (λ b. is_space b ≡ false) text 0 (λ k within. ne_eqb (get_or text k 0) 32 (none k within))

full : (word : List ℕ) → 0 < length word → is_full word ≡ true
full [] some = absurd (omega arith)
full (b ∷ word) some = ap not (ne_eqb (length (b ∷ word)) 0 (omega arith))

one_word : (word : List ℕ) (words : List (List ℕ)) → 0 < length word → filter is_full (word ∷ words) ≡ word ∷ filter is_full words
one_word word words some = cond-true (is_full word) (word ∷ filter is_full words) (filter is_full words) (full word some)

pub only_word : (text front : List ℕ) → front ≡ trim_front text → 0 < length front
    → ((k : ℕ) → k < length front → get_or front k 0 ≢ 32) → words_of text ≡ front ∷ words_of []
unfolding words_of
only_word text front is some none =
    sym (words_trim text) ∙ ap words_of (sym is) ∙ ap (filter is_full) (slice_split_none is_space front (apart front none)) ∙ one_word front [] some

pub first_word : (text front : List ℕ) (i : ℕ) → front ≡ trim_front text → i < length front → get_or front i 0 ≡ 32
    → ((k : ℕ) → k < i → get_or front k 0 ≢ 32) → words_of text ≡ take i front ∷ words_of (drop i front)
unfolding words_of
first_word text front i is within space none =
    let start : get_or front 0 0 ≢ 32 = subst (λ (x : List ℕ). get_or x 0 0 ≢ 32) (sym is) (trimmed text) in
    let size : length (take i front) ≡ i = length-take-le i front (omega arith) in
    let some : 0 < i = positive i start space in
    let behind : drop i front ≡ 32 ∷ drop (i + 1) front = drop_more front i 0 within ∙ ap (λ (b : ℕ). b ∷ drop (i + 1) front) space in
    let whole : front ≡ take i front ++ 32 ∷ drop (i + 1) front = sym (take-append-drop i front) ∙ ap (λ (x : List ℕ). take i front ++ x) behind in
    let others : All (λ b. is_space b ≡ false) (take i front) = apart (take i front) (λ k lt e. none k (omega arith) (sym (get_or-take i front k 0 (omega arith)) ∙ e)) in
    sym (words_trim text) ∙ ap words_of (sym is) ∙ ap words_of whole
    ∙ ap (filter is_full) (slice_split_at is_space (take i front) 32 (drop (i + 1) front) others refl)
    ∙ one_word (take i front) (slice_split is_space (drop (i + 1) front)) (omega arith)
    ∙ ap (λ (x : List ℕ). take i front ∷ words_of x) (sym behind)
  where
    positive : (i : ℕ) → get_or front 0 0 ≢ 32 → get_or front i 0 ≡ 32 → 0 < i
    positive zero start space = absurd (start space)
    positive (suc i) start space = omega arith
