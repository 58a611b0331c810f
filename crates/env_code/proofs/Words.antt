-- Words of eight counts.
use Rattle.std.proofs.Common.{◌≡◌, ℕ, zero, suc, ◌+◌, ◌*◌, ◌<◌, min, List, get_or, refl, sym, ◌∙◌, arith}
use Rattle.std.specs.Int.{from_le_bytes, w64}
use Rattle.std.specs.Prelude.{replicate}
use Rattle.htss_defs.specs.Codes.{word_of}

-- a word by its eight lanes
unfoldable pub word : ℕ → ℕ → ℕ → ℕ → ℕ → ℕ → ℕ → ℕ → ℕ
word a b c d e f g h = a + b * 256 + c * 65536 + d * 16777216 + e * 4294967296 + f * 1099511627776 + g * 281474976710656 + h * 72057594037927936

word-sum : (a b c d e f g h : ℕ) → 0 + a * 1 + b * 256 + c * 65536 + d * 16777216 + e * 4294967296 + f * 1099511627776 + g * 281474976710656 + h * 72057594037927936 ≡ word a b c d e f g h
unfolding word
word-sum a b c d e f g h = omega arith

pub word-of : (f : ℕ → ℕ) → word_of f ≡ word (min (f 0) 255) (min (f 1) 255) (min (f 2) 255) (min (f 3) 255) (min (f 4) 255) (min (f 5) 255) (min (f 6) 255) (min (f 7) 255)
unfolding word_of
word-of f = word-sum (min (f 0) 255) (min (f 1) 255) (min (f 2) 255) (min (f 3) 255) (min (f 4) 255) (min (f 5) 255) (min (f 6) 255) (min (f 7) 255)

bytes-word : (bytes : List ℕ) → from_le_bytes w64 bytes ≡ word (get_or bytes 0 0) (get_or bytes 1 0) (get_or bytes 2 0) (get_or bytes 3 0) (get_or bytes 4 0) (get_or bytes 5 0) (get_or bytes 6 0) (get_or bytes 7 0)
unfolding word
bytes-word bytes = omega arith

-- bytes that are counts
pub word_of-bytes : (bytes : List ℕ) (f : ℕ → ℕ) → ((i : ℕ) → i < 8 → get_or bytes i 0 ≡ min (f i) 255) → from_le_bytes w64 bytes ≡ word_of f
word_of-bytes bytes f at =
    let a0 = at 0 (omega arith) in
    let a1 = at 1 (omega arith) in
    let a2 = at 2 (omega arith) in
    let a3 = at 3 (omega arith) in
    let a4 = at 4 (omega arith) in
    let a5 = at 5 (omega arith) in
    let a6 = at 6 (omega arith) in
    let a7 = at 7 (omega arith) in
    bytes-word bytes ∙ (rw (a0, a1, a2, a3, a4, a5, a6, a7) refl) ∙ sym (word-of f)

-- counts that agree as far as a lane goes
pub word_of-congr : (f h : ℕ → ℕ) → ((i : ℕ) → i < 8 → min (f i) 255 ≡ min (h i) 255) → word_of f ≡ word_of h
word_of-congr f h at =
    let a0 = at 0 (omega arith) in
    let a1 = at 1 (omega arith) in
    let a2 = at 2 (omega arith) in
    let a3 = at 3 (omega arith) in
    let a4 = at 4 (omega arith) in
    let a5 = at 5 (omega arith) in
    let a6 = at 6 (omega arith) in
    let a7 = at 7 (omega arith) in
    word-of f ∙ (rw (a0, a1, a2, a3, a4, a5, a6, a7) refl) ∙ sym (word-of h)

-- each element of a list of one value, and what stands past its end
pub get_or-all : {X : Type 0} (n i : ℕ) (x : X) → get_or (replicate n x) i x ≡ x
get_or-all zero i x = refl
get_or-all (suc n) zero x = refl
get_or-all (suc n) (suc i) x = get_or-all n i x
