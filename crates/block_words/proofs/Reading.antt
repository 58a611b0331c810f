-- A list that grows by what a function gives.
use Rattle.std.proofs.Common.{◌≡◌, ℕ, suc, ◌+◌, ◌<◌, List, [], ◌∷◌, ◌++◌, length, take, set, sym, ap, ◌∙◌, arith}
use Rattle.std.proofs.Math.Seq.{take-suc-set}
use Rattle.board_core.specs.Blocks.{first_of}

next : (n : ℕ) → n + 1 ≡ suc n
next n = omega arith

pub first_more : {A : Type 0} (f : ℕ → A) (n : ℕ) → first_of f (n + 1) ≡ first_of f n ++ f n ∷ []
first_more f n = ap (first_of f) (next n)

-- the next byte is set
pub set_more : (f : ℕ → ℕ) (bytes : List ℕ) (n byte : ℕ) → n < length bytes → take n bytes ≡ first_of f n → byte ≡ f n → take (n + 1) (set bytes n byte) ≡ first_of f (n + 1)
set_more f bytes n byte l before is =
    ap (λ k. take k (set bytes n byte)) (next n) ∙ take-suc-set bytes n byte l ∙ (λ t. before t ++ is t ∷ []) ∙ sym (first_more f n)
