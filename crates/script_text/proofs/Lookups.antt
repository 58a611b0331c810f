-- What a map by lines holds for a line.
use Rattle.std.proofs.Common.{◌≡◌, ℕ, List, [], ◌∷◌, refl, sym, ap, ◌∙◌, eqb, cond, Bool, arith}
use Rattle.std.specs.Prelude.{Option, Some, None, IsSome}
use Rattle.std.specs.Borrow.{Bor}
use Rattle.std.specs.Option.{option_copied}
use Rattle.std.specs.Ordering.{nat_cmp, is_eq}
use Rattle.std.proofs.lemmas.Bool.Decides.{nat_tests}
use Rattle.std.specs.Map.{lookup}
use Rattle.script_text.specs.FilesByLine.{bytes_at}

same_test : (a b : ℕ) → is_eq (nat_cmp a b) ≡ eqb a b
same_test a b = grind (arith, nat_tests)

other_test : (a b : ℕ) → is_eq (nat_cmp a b) ≡ eqb b a
other_test a b = grind (arith, nat_tests)

abbrev held : List (ℕ × List ℕ) → ℕ → Option (List ℕ)
held files line = lookup (λ l. is_eq (nat_cmp line l)) files

pub looked_up : (files : List (ℕ × List ℕ)) (line : ℕ) → held files line ≡ bytes_at files line
looked_up [] line = refl
looked_up (file ∷ files) line = rw (same_test line file.0) (ap (λ (o : Option (List ℕ)). cond (eqb line file.0) (Some file.1) o) (looked_up files line))

-- a line that has bytes is found
pub found : (files : List (ℕ × List ℕ)) (line : ℕ) (got : Option (Bor (List ℕ))) → option_copied got ≡ held files line → IsSome (bytes_at files line) → IsSome got
found files line (Some bytes) is some = refl
found files line None is some = let none : None ≡ bytes_at files line = is ∙ looked_up files line in grind arith

-- what is put stands at its line alone
pub put_at : (before after : List (ℕ × List ℕ)) (line : ℕ) (bytes : List ℕ)
    → ((q : ℕ) → held after q ≡ cond (is_eq (nat_cmp line q)) (Some bytes) (held before q))
    → (asked : ℕ) → bytes_at after asked ≡ cond (eqb asked line) (Some bytes) (bytes_at before asked)
put_at before after line bytes updates asked =
    sym (looked_up after asked) ∙ updates asked ∙ ap (λ (t : Bool). cond t (Some bytes) (held before asked)) (other_test line asked)
    ∙ ap (λ (o : Option (List ℕ)). cond (eqb asked line) (Some bytes) o) (looked_up before asked)
