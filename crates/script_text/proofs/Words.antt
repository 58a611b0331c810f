-- The words of a plain line are names of files.
use Rattle.std.proofs.Common.{◌≡◌, ◌⊎◌, ℕ, suc, ◌≤◌, eqb, not, Bool, true, false, List, [], ◌∷◌, length, All, ap, inl, inr, arith}
use Rattle.std.specs.Prelude.{filter}
use Rattle.std.specs.List.{slice_split, onto_first, list_all}
use Rattle.std.proofs.lemmas.Bool.{ne_eqb, eqb-false, cases_Bool}
use Rattle.std.proofs.lemmas.List.Elements.{All-nil, All-cons, All-head, All-tail, All-weaker}
use Rattle.htss_defs.specs.FileName.{IsFileName}
use Rattle.mol_section.specs.Fields.{words_of}
use Rattle.script_text.specs.Grammar.{is_plain, is_printable}

abbrev is_space : ℕ → Bool
is_space b = eqb b 32

abbrev is_full : List ℕ → Bool
is_full word = not (eqb (length word) 0)

abbrev IsSeen : ℕ → Type 0
IsSeen b = (33 ≤ b) × (b ≤ 126)

abbrev IsPart : ℕ → List ℕ → Type 0
IsPart most part = (length part ≤ most) × All IsSeen part

longer : (n : ℕ) (parts : List (List ℕ)) → All (IsPart n) parts → All (IsPart (suc n)) parts
longer n = All-weaker (IsPart n) (IsPart (suc n)) (λ part is. (omega (arith, is.0), is.1))

onto : (b n : ℕ) → IsSeen b → (parts : List (List ℕ)) → All (IsPart n) parts → All (IsPart (suc n)) (onto_first b parts)
onto b n is [] all = All-cons (IsPart (suc n)) (b ∷ []) [] (omega arith, All-cons IsSeen b [] is (All-nil IsSeen)) (All-nil (IsPart (suc n)))
onto b n is (part ∷ parts) all =
    let first = All-head (IsPart n) part parts all in
    All-cons (IsPart (suc n)) (b ∷ part) parts (omega (arith, first.0), All-cons IsSeen b part is first.1) (longer n parts (All-tail (IsPart n) part parts all))

visible : (b : ℕ) → is_printable b ≡ true → eqb b 32 ≡ false → IsSeen b
visible b is other = let apart = eqb-false b 32 other in (grind arith, grind arith)

parts_of : (line : List ℕ) → list_all is_printable line ≡ true → All (IsPart (length line)) (slice_split is_space line)
parts_of [] all = All-cons (IsPart 0) [] [] (omega arith, All-nil IsSeen) (All-nil (IsPart 0))
parts_of (b ∷ line) all = go (parts_of line (grind arith)) (cases_Bool (eqb b 32))
  where
    go : All (IsPart (length line)) (slice_split is_space line) → (eqb b 32 ≡ true) ⊎ (eqb b 32 ≡ false) → All (IsPart (length (b ∷ line))) (slice_split is_space (b ∷ line))
    go more (inl space) = rw space (All-cons (IsPart (length (b ∷ line))) [] (slice_split is_space line) (omega arith, All-nil IsSeen) (longer (length line) (slice_split is_space line) more))
    go more (inr other) = rw other (onto b (length line) (visible b (grind arith) other) (slice_split is_space line) more)

full : (b : ℕ) (part : List ℕ) → is_full (b ∷ part) ≡ true
full b part = ap not (ne_eqb (length (b ∷ part)) 0 (omega arith))

names : (n : ℕ) → n ≤ 4096 → (parts : List (List ℕ)) → All (IsPart n) parts → All IsFileName (filter is_full parts)
names n short [] all = All-nil IsFileName
names n short ([] ∷ parts) all = names n short parts (All-tail (IsPart n) [] parts all)
names n short ((b ∷ part) ∷ parts) all =
    let first = All-head (IsPart n) (b ∷ part) parts all in
    rw (full b part) (All-cons IsFileName (b ∷ part) (filter is_full parts) (record { long = (omega arith, omega (arith, first.0, short)); visible = first.1 })
    (names n short parts (All-tail (IsPart n) (b ∷ part) parts all)))

pub plain_words : (line : List ℕ) → is_plain line ≡ true → All IsFileName (words_of line)
unfolding words_of
plain_words line plain = names (length line) (grind arith) (slice_split is_space line) (parts_of line (grind arith))
