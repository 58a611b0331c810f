-- The outcome of a section, from what its reader found.
use Rattle.std.proofs.Common.{◌≡◌, ◌⊎◌, ℕ, suc, ◌≤◌, true, false, eqb, List, [], ◌∷◌, length, map, refl, sym, ap, ◌∙◌, inl, inr, arith}
use Rattle.std.specs.Prelude.{Some, None, IsSome, slice_get, is_some}
use Rattle.std.proofs.lemmas.Bool.{cases_Bool}
use Rattle.std.proofs.lemmas.List.{length-map, drop_all}
use Rattle.mol_section.specs.Lines.{lines_of, raw_lines, onto_first, without_cr}
use Rattle.mol_section.specs.SectionLines.{Kind, end_mark, kinds_of, kinds_after, block_kinds}
use Rattle.mol_section.specs.SectionRecord.{HasEnd}
use Rattle.mol_section.proofs.RawLines.{raw_lines-nil}

long_first : (b : ℕ) (lines : List (List ℕ)) (n : ℕ) → length lines ≤ n → length (onto_first b lines) ≤ suc n
long_first b [] n le = omega arith
long_first b (line ∷ lines) n le = omega arith

long_raw : (bytes : List ℕ) → length (raw_lines bytes) ≤ length bytes
unfolding raw_lines
long_raw [] = omega arith
long_raw (b ∷ bs) = go (long_raw bs) (cases_Bool (eqb b 10))
  where
    go : length (raw_lines bs) ≤ length bs → (eqb b 10 ≡ true) ⊎ (eqb b 10 ≡ false) → length (raw_lines (b ∷ bs)) ≤ suc (length bs)
    go more (inl lf) = rw lf (omega arith)
    go more (inr other) = rw other (long_first b (raw_lines bs) (length bs) more)

-- there are no more lines than bytes
pub length-lines_of : (bytes : List ℕ) → length (lines_of bytes) ≤ length bytes
length-lines_of bytes = omega (arith, length-map (raw_lines bytes) without_cr, long_raw bytes)

no_kinds : kinds_of [] ≡ []
no_kinds = ap (kinds_after false) (drop_all (length (block_kinds [])) (let none : List (List ℕ) = [] in none) (omega arith))

-- a section that ends has a line
pub some_line : (lines : List (List ℕ)) → HasEnd lines → IsSome (slice_get lines 0)
some_line [] ends = let none : None ≡ Some end_mark = ap (λ (x : List Kind). slice_get x ends.0) (sym no_kinds) ∙ ends.1 in absurd cc
some_line (line ∷ lines) ends = refl

pub no_line : (bytes : List ℕ) → bytes ≡ [] → IsSome (slice_get (lines_of bytes) 0) → ⊥
no_line bytes none some =
    let same : slice_get (lines_of bytes) 0 ≡ None = ap (λ (b : List ℕ). slice_get (lines_of b) 0) none ∙ ap (λ (l : List (List ℕ)). slice_get (map without_cr l) 0) raw_lines-nil in
    let wrong : false ≡ true = sym (ap is_some same) ∙ some in
    absurd cc
