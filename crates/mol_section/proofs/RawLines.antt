-- The first line of the bytes.
use Rattle.std.proofs.Common.{◌≡◌, ◌≢◌, ℕ, zero, suc, ◌+◌, ◌-◌, ◌<◌, eqb, false, List, [], ◌∷◌, length, get_or, take, drop, map, refl, sym, ap, subst, ◌∙◌, arith}
use Rattle.std.proofs.lemmas.Bool.{eq-eqb, ne_eqb, cond-true, cond-false}
use Rattle.std.proofs.lemmas.List.{take_rest, drop-drop}
use Rattle.mol_section.specs.Lines.{raw_lines, lines_of, onto_first, without_cr}
use Rattle.mol_section.specs.Walk.{IsLineFault}

-- a line that ends at the LF at i
line_to : (bytes : List ℕ) (i : ℕ) → i < length bytes → get_or bytes i 0 ≡ 10 → ((k : ℕ) → k < i → get_or bytes k 0 ≢ 10) → raw_lines bytes ≡ take i bytes ∷ raw_lines (drop (suc i) bytes)
unfolding raw_lines
line_to [] i within lf before = absurd (omega arith)
line_to (b ∷ bs) zero within lf before = cond-true _ _ _ (eq-eqb b 10 lf)
line_to (b ∷ bs) (suc i) within lf before =
    let here : eqb b 10 ≡ false = ne_eqb b 10 (before 0 (omega arith)) in
    let rest = line_to bs i (omega arith) lf (λ k lt. before (suc k) (omega arith)) in
    cond-false _ _ _ here ∙ ap (onto_first b) rest

-- bytes with no LF are one line
last_line : (b : ℕ) (bs : List ℕ) → ((k : ℕ) → k < length (b ∷ bs) → get_or (b ∷ bs) k 0 ≢ 10) → raw_lines (b ∷ bs) ≡ (b ∷ bs) ∷ []
unfolding raw_lines
last_line b [] none = cond-false _ _ _ (ne_eqb b 10 (none 0 (omega arith)))
last_line b (c ∷ cs) none = cond-false _ _ _ (ne_eqb b 10 (none 0 (omega arith))) ∙ ap (onto_first b) (last_line c cs (λ k lt. none (suc k) (omega arith)))

pub line_before : (bytes rest : List ℕ) (i : ℕ) → i < length bytes → get_or bytes i 0 ≡ 10 → ((k : ℕ) → k < i → get_or bytes k 0 ≢ 10) → rest ≡ drop i bytes
    → raw_lines bytes ≡ take i bytes ∷ raw_lines (take (length rest - 1) (drop 1 rest))
line_before bytes rest i within lf before is =
    let e : i + 1 ≡ suc i = omega arith in
    let after : take (length rest - 1) (drop 1 rest) ≡ drop (suc i) bytes = take_rest rest 1 ∙ ap (drop 1) is ∙ drop-drop 1 i bytes ∙ ap (λ (k : ℕ). drop k bytes) e in
    line_to bytes i within lf before ∙ ap (λ (x : List ℕ). take i bytes ∷ raw_lines x) (sym after)

pub only_line : (bytes : List ℕ) → bytes ≢ [] → ((k : ℕ) → k < length bytes → get_or bytes k 0 ≢ 10) → raw_lines bytes ≡ bytes ∷ raw_lines []
unfolding raw_lines
only_line [] full none = absurd (full refl)
only_line (b ∷ bs) full none = last_line b bs none

pub raw_lines-nil : raw_lines [] ≡ []
unfolding raw_lines
raw_lines-nil = refl

cut : (line : List ℕ) (n : ℕ) → length line ≡ suc n → get_or line n 0 ≡ 13 → take n line ≡ without_cr line
cut [] n long cr = absurd cc
cut (b ∷ []) zero long cr = sym (cond-true (eqb b 13) [] (b ∷ []) (eq-eqb b 13 cr))
cut (b ∷ []) (suc n) long cr = absurd (omega arith)
cut (b ∷ c ∷ bs) zero long cr = absurd (omega arith)
cut (b ∷ c ∷ bs) (suc n) long cr = ap (λ (x : List ℕ). b ∷ x) (cut (c ∷ bs) n (omega arith) cr)

keep : (line : List ℕ) (n : ℕ) → length line ≡ suc n → get_or line n 0 ≢ 13 → line ≡ without_cr line
keep [] n long other = refl
keep (b ∷ []) zero long other = sym (cond-false (eqb b 13) [] (b ∷ []) (ne_eqb b 13 other))
keep (b ∷ []) (suc n) long other = absurd (omega arith)
keep (b ∷ c ∷ bs) zero long other = absurd (omega arith)
keep (b ∷ c ∷ bs) (suc n) long other = ap (λ (x : List ℕ). b ∷ x) (keep (c ∷ bs) n (omega arith) other)

pub without_cr_at : (line : List ℕ) → 0 < length line → get_or line (length line - 1) 0 ≡ 13 → take (length line - 1) line ≡ without_cr line
without_cr_at line full cr = cut line (length line - 1) (omega arith) cr

pub without_cr_none : (line : List ℕ) → 0 < length line → get_or line (length line - 1) 0 ≢ 13 → line ≡ without_cr line
without_cr_none line full other = keep line (length line - 1) (omega arith) other

pub lines_of_none : (bytes : List ℕ) → bytes ≡ [] → IsLineFault (lines_of bytes) 12
lines_of_none bytes none = subst (λ (b : List ℕ). IsLineFault (lines_of b) 12) (sym none) (subst (λ (l : List (List ℕ)). IsLineFault (map without_cr l) 12) (sym raw_lines-nil) refl)
