-- Equality of texts, as a test.
use Rattle.std.proofs.Common.{◌≡◌, ◌∙◌, ℕ, Bool, true, false, true≢false, List, refl, sym, subst}
use Rattle.std.specs.Str.{bytes_eq}
use Rattle.std.proofs.lemmas.Slice.Eq.{bytes_eq-Decides}
use Rattle.command_words.specs.Arguments.{is_one_of}

abbrev pub Text : Type 0
Text = List ℕ

pub same : (x y : Text) → bytes_eq x y ≡ true → x ≡ y
same x y e = (bytes_eq-Decides x y).0 e

other : (x y : Text) → bytes_eq x y ≡ false → x ≡ y → ⊥
other x y e is = true≢false (sym ((bytes_eq-Decides x y).1 is) ∙ e)

pub itself : (x : Text) → bytes_eq x x ≡ true
itself x = (bytes_eq-Decides x x).1 refl

pub equal : (x y : Text) → x ≡ y → bytes_eq x y ≡ true
equal x y e = (bytes_eq-Decides x y).1 e

pub turned : (x y : Text) → bytes_eq x y ≡ bytes_eq y x
turned x y = go (bytes_eq x y) (bytes_eq y x) refl refl
  where
    go : (a b : Bool) → bytes_eq x y ≡ a → bytes_eq y x ≡ b → bytes_eq x y ≡ bytes_eq y x
    go true b e f = e ∙ sym (equal y x (sym (same x y e)))
    go false false e f = e ∙ sym f
    go false true e f = absurd (true≢false (sym (equal x y (sym (same y x f))) ∙ e))

-- a text that is in a list is none that is not
pub apart : (xs : List Text) (x y : Text) → is_one_of xs x ≡ true → is_one_of xs y ≡ false → bytes_eq x y ≡ false
apart xs x y is not = go (bytes_eq x y) refl
  where
    go : (b : Bool) → bytes_eq x y ≡ b → b ≡ false
    go false e = refl
    go true e = absurd (true≢false (sym (subst (λ (z : Text). is_one_of xs z ≡ true) (same x y e) is) ∙ not))
