-- Texts written in parts.
use Rattle.std.proofs.Common.{◌≡◌, ℕ, ◌+◌, List, ◌++◌, length, take, refl, sym, ap, ◌∙◌, append_assoc, inl, inr, arith}
use Rattle.std.specs.Prelude.{Option, Some, None}
use Rattle.std.specs.Io.KnownBytes.{append_known}
use Rattle.std.proofs.lemmas.Bool.{cases_lt}
use Rattle.std.proofs.lemmas.List.{take-append-le, take_all}
use Rattle.std.proofs.Math.Seq.{take-append_seam, take-append-add}
use Rattle.outside.specs.Written.{GrewByFront}

-- a front of a text is one of a longer text
take_longer : (x y : List ℕ) (count : ℕ) → (k : ℕ) × (take k (x ++ y) ≡ take count x)
take_longer x y count = elim (cases_lt count (length x)) [
  | inl within ↦ (count, take-append-le count x y (omega arith))
  | inr past ↦ (length x, take-append_seam x y ∙ sym (take_all count x past))
]

pub GrewByFront-longer : (old new : Option (List ℕ)) (x y : List ℕ) → GrewByFront old new x → GrewByFront old new (x ++ y)
GrewByFront-longer old new x y grew = let k = take_longer x y grew.count in record { count = k.0; front = grew.front ∙ ap (append_known old) (sym k.1) }

pub append_known-twice : (old : Option (List ℕ)) (x y : List ℕ) → append_known (append_known old x) y ≡ append_known old (x ++ y)
append_known-twice None x y = refl
append_known-twice (Some text) x y = ap Some (append_assoc text x y)

-- a front of a text behind a text that was written whole
pub GrewByFront-after : (old middle new : Option (List ℕ)) (x y : List ℕ) → middle ≡ append_known old x → GrewByFront middle new y → GrewByFront old new (x ++ y)
GrewByFront-after old middle new x y whole grew = record {
  count = length x + grew.count;
  front = grew.front ∙ ap (λ k. append_known k (take grew.count y)) whole ∙ append_known-twice old x (take grew.count y) ∙ ap (append_known old) (sym (take-append-add x y grew.count));
}
