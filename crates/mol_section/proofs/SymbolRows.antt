-- Symbols and charge codes: the rows of symbols are the symbols, and each is found at its own place.
use Rattle.std.proofs.Common.{◌≡◌, ℕ, ◌+◌, ◌<◌, Bool, true, false, not, cond, ◌&&◌, List, [], ◌∷◌, length, map, get_or, eqb, leb, ltb, refl, ap, subst, ◌∙◌}
use Rattle.std.specs.Prelude.{Some, None, position, option_and_then, if◌then◌else◌}
use Rattle.std.specs.List.{position_or_len, prefix_len}
use Rattle.std.specs.Str.{bytes_eq}
use lib.Chars.{codes}
use Rattle.std.proofs.lemmas.Bool.{eqb-true, cond-true, lt-ltb, agree_below, agree_below_at}
use Rattle.std.proofs.lemmas.List.{length-map}
use Rattle.std.proofs.lemmas.Option.{same_Some}
use Rattle.std.proofs.lemmas.Slice.Eq.{bytes_eq-Decides}
use Rattle.htss_defs.specs.declared.elements.TheConstants.{SYMBOLS}
use Rattle.htss_defs.specs.Elements.{symbols}
use Rattle.mol_section.specs.Fields.{trim_ends, count_of, are_digits, value_of}
use Rattle.mol_section.specs.SectionLines.{symbol_value, charge_value}
use Rattle.mol_section.specs.AtomLines.{element_place, charge_of_code}

rows_are : symbols ≡ map trim_ends SYMBOLS
rows_are = refl

prefix_len-map : {X Y : Type 0} (p : Y → Bool) (f : X → Y) (xs : List X) → prefix_len p (map f xs) ≡ prefix_len (λ x. p (f x)) xs
prefix_len-map p f [] = refl
prefix_len-map p f (x ∷ xs) = ap (λ (n : ℕ). cond (p (f x)) (1 + n) 0) (prefix_len-map p f xs)

position-map : {X Y : Type 0} (p : Y → Bool) (f : X → Y) (xs : List X) → position p (map f xs) ≡ position (λ x. p (f x)) xs
position-map p f xs = rw (length-map xs f, prefix_len-map (λ y. not (p y)) f xs) refl

pub symbol_value-place : (symbol : List ℕ) → bytes_eq symbol (codes "D") ≡ false → bytes_eq symbol (codes "T") ≡ false
    → symbol_value symbol ≡ option_and_then (λ i. Some (i + 1, 0)) (element_place symbol)
unfolding symbol_value element_place
symbol_value-place symbol d t =
    rw (d, t) (ap (λ (rows : List (List ℕ)). option_and_then (λ (i : ℕ). Some (i + 1, 0)) (position (λ (s : List ℕ). bytes_eq s symbol) rows)) rows_are
    ∙ ap (option_and_then (λ (i : ℕ). Some (i + 1, 0))) (position-map (λ (s : List ℕ). bytes_eq s symbol) trim_ends SYMBOLS))

abbrev row : ℕ → List ℕ
row i = trim_ends (get_or SYMBOLS i [])

abbrev found : ℕ → Bool
found i = eqb (position_or_len (λ r. bytes_eq (trim_ends r) (row i)) SYMBOLS) i

all_found : agree_below found (λ i. true) 118 ≡ true
all_found = refl

-- the symbol of a row is found at it
pub element_place-row : (symbol : List ℕ) (i : ℕ) → i < 118 → bytes_eq (trim_ends (get_or SYMBOLS i [])) symbol ≡ true → element_place symbol ≡ Some i
unfolding element_place
element_place-row symbol i within test =
    let same : row i ≡ symbol = (bytes_eq-Decides (row i) symbol).0 test in
    let here : position_or_len (λ r. bytes_eq (trim_ends r) (row i)) SYMBOLS ≡ i = eqb-true _ _ (agree_below_at found (λ k. true) 118 i all_found within) in
    let below : ltb i 118 ≡ true = lt-ltb i 118 within in
    subst (λ (s : List ℕ). position (λ r. bytes_eq (trim_ends r) s) SYMBOLS ≡ Some i) same
    (ap (λ (k : ℕ). cond (ltb k 118) (Some k) None) here ∙ cond-true (ltb i 118) (Some i) None below)

-- a code of at most three digits
pub charge_value-code : (text : List ℕ) (code : ℕ) → count_of text ≡ Some code → charge_value text ≡ charge_of_code code
unfolding charge_value charge_of_code count_of
charge_value-code text code is = go (eqb (length text) 0) (are_digits text) (leb (length text) 3) (value_of text) is
  where
    go : (z d s : Bool) (v : ℕ) → (if z then Some 0 else (if d && s then Some v else None)) ≡ Some code → charge_of_code (if z then 0 else (if d then v else 8)) ≡ charge_of_code code
    go true d s v same = ap charge_of_code (same_Some 0 code same)
    go false true true v same = ap charge_of_code (same_Some v code same)
    go false true false v same = absurd cc
    go false false s v same = absurd cc
