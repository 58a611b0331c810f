-- The lines of bytes that are put together.
use Rattle.std.proofs.Common.{◌≡◌, ◌≢◌, ℕ, zero, suc, inl, inr, eqb, Bool, true, false, cond, List, [], ◌∷◌, ◌++◌, length, take, get_or, map, refl, sym, ap, ◌∙◌, append_assoc, arith}
use Rattle.std.specs.Prelude.{All, not, ◌&&◌, ◌||◌, ◌==◌}
use Rattle.std.proofs.lemmas.Bool.{eq-eqb, ne_eqb, cond-true, cond-false}
use Rattle.std.proofs.lemmas.Bool.Decides.{Decides-eqb}
use Rattle.std.proofs.lemmas.List.Elements.{recursion_from_All}
use lib.Pointwise.{pointwise}
use Rattle.std.proofs.lemmas.List.{map-append}
use Rattle.std.specs.List.{AllByRecursion}
use Rattle.mol_section.specs.Lines.{raw_lines, onto_first, without_cr, lines_of, ends_section}
use Rattle.mol_section.specs.Fields.{is_blank}
use Rattle.ctfile.specs.Cut.{AreWhole, has_text}

-- no LF stands in the bytes
abbrev pub NoLf : List ℕ → Type 0
NoLf bytes = AllByRecursion (λ b. b ≢ 10) bytes

raw_some : (front : List ℕ) → (first : List ℕ) × (more : List (List ℕ)) × (raw_lines (front ++ 10 ∷ []) ≡ first ∷ more)
unfolding raw_lines
raw_some [] = ([], [], refl)
raw_some (b ∷ bs) =
    let rest = raw_some bs in
    elim (eqb b 10) as (λ v. (first : List ℕ) × (more : List (List ℕ)) × (cond v ([] ∷ raw_lines (bs ++ 10 ∷ [])) (onto_first b (raw_lines (bs ++ 10 ∷ []))) ≡ first ∷ more))
    [ true ↦ ([], raw_lines (bs ++ 10 ∷ []), refl) | false ↦ (b ∷ rest.0, rest.1, ap (onto_first b) rest.2) ]

raw_after : (front rest : List ℕ) → raw_lines (front ++ 10 ∷ rest) ≡ raw_lines (front ++ 10 ∷ []) ++ raw_lines rest
unfolding raw_lines
raw_after [] rest = refl
raw_after (b ∷ bs) rest =
    let some = raw_some bs in
    let again = raw_after bs rest in
    elim (eqb b 10) as (λ v. cond v ([] ∷ raw_lines (bs ++ 10 ∷ rest)) (onto_first b (raw_lines (bs ++ 10 ∷ rest))) ≡ cond v ([] ∷ raw_lines (bs ++ 10 ∷ [])) (onto_first b (raw_lines (bs ++ 10 ∷ []))) ++ raw_lines rest) [
      | true ↦ ap (λ (x : List (List ℕ)). [] ∷ x) again
      | false ↦ ap (onto_first b) (again ∙ ap (λ (x : List (List ℕ)). x ++ raw_lines rest) some.2) ∙ sym (ap (λ (x : List (List ℕ)). onto_first b x ++ raw_lines rest) some.2)
    ]

-- the lines of whole lines and of what comes then
pub lines_of-append : (done rest : List ℕ) → AreWhole done → lines_of (done ++ rest) ≡ lines_of done ++ lines_of rest
unfolding raw_lines
lines_of-append done rest (inl e) = ap (λ (x : List ℕ). lines_of (x ++ rest)) e ∙ sym (ap (λ (x : List ℕ). lines_of x ++ lines_of rest) e)
lines_of-append done rest (inr w) =
    ap (λ (x : List ℕ). lines_of (x ++ rest)) w.1 ∙ ap lines_of (append_assoc w.0 (10 ∷ []) rest) ∙ ap (map without_cr) (raw_after w.0 rest)
    ∙ map-append without_cr (raw_lines (w.0 ++ 10 ∷ [])) (raw_lines rest) ∙ sym (ap (λ (x : List ℕ). lines_of x ++ lines_of rest) w.1)

raw_line : (line rest : List ℕ) → NoLf line → raw_lines (line ++ 10 ∷ rest) ≡ line ∷ raw_lines rest
unfolding raw_lines
raw_line [] rest one = refl
raw_line (b ∷ line) rest one = cond-false _ _ _ (ne_eqb b 10 one.0) ∙ ap (onto_first b) (raw_line line rest one.1)

-- one line and what comes then
pub lines_of-line : (line rest : List ℕ) → NoLf line → lines_of (line ++ 10 ∷ rest) ≡ without_cr line ∷ lines_of rest
lines_of-line line rest one = ap (map without_cr) (raw_line line rest one)

raw_last : (b : ℕ) (line : List ℕ) → NoLf (b ∷ line) → raw_lines (b ∷ line) ≡ (b ∷ line) ∷ []
unfolding raw_lines
raw_last b [] one = cond-false _ _ _ (ne_eqb b 10 one.0)
raw_last b (c ∷ line) one = cond-false _ _ _ (ne_eqb b 10 one.0) ∙ ap (onto_first b) (raw_last c line one.1)

-- bytes with no LF are one line, and no bytes are none
pub lines_of-last : (line : List ℕ) → NoLf line → line ≢ [] → lines_of line ≡ without_cr line ∷ []
lines_of-last [] one full = absurd (full refl)
lines_of-last (b ∷ line) one full = ap (map without_cr) (raw_last b line one)

pub lines_of-nil : lines_of [] ≡ []
unfolding raw_lines
lines_of-nil = refl

and_false : (b : Bool) → (b && false) ≡ false
and_false true = refl
and_false false = refl

-- one byte, or none, does not begin with two
cr_short : (v : Bool) (b x y n : ℕ) (codes : List ℕ) → pointwise eqb (x ∷ y ∷ codes) (take (suc (suc n)) (cond v [] (b ∷ []))) ≡ (eqb x b && false)
cr_short true b x y n codes = sym (and_false (eqb x b))
cr_short false b x y n codes = refl

cr_last : (v : Bool) (b : ℕ) → (v ≡ true → b ≡ 13) → pointwise eqb (36 ∷ []) (take 1 (cond v [] (b ∷ []))) ≡ (eqb 36 b && true)
cr_last true b is = ap (λ (x : ℕ). eqb 36 x && true) (sym (is refl))
cr_last false b is = refl

-- a CR at the end of a line does not decide whether the line ends a section
pub ends_section-without_cr : (line : List ℕ) → ends_section (without_cr line) ≡ ends_section line
ends_section-without_cr [] = refl
ends_section-without_cr (a ∷ []) = cr_short (a == 13) a 36 36 2 (36 ∷ 36 ∷ [])
ends_section-without_cr (a ∷ b ∷ []) = ap (λ (x : Bool). eqb 36 a && x) (cr_short (b == 13) b 36 36 1 (36 ∷ []))
ends_section-without_cr (a ∷ b ∷ c ∷ []) = ap (λ (x : Bool). eqb 36 a && (eqb 36 b && x)) (cr_short (c == 13) c 36 36 0 [])
ends_section-without_cr (a ∷ b ∷ c ∷ d ∷ []) = ap (λ (x : Bool). eqb 36 a && (eqb 36 b && (eqb 36 c && x))) (cr_last (d == 13) d (Decides-eqb d 13).0)
ends_section-without_cr (a ∷ b ∷ c ∷ d ∷ e ∷ line) = refl

-- the line without its CR, from its last byte
pub without_cr-cut : (line : List ℕ) (n : ℕ) → length line ≡ suc n → get_or line n 0 ≡ 13 → take n line ≡ without_cr line
without_cr-cut [] n long cr = absurd (omega (arith, long))
without_cr-cut (b ∷ []) zero long cr = sym (cond-true _ _ _ (eq-eqb b 13 cr))
without_cr-cut (b ∷ []) (suc n) long cr = absurd (omega (arith, long))
without_cr-cut (b ∷ c ∷ bs) zero long cr = absurd (omega (arith, long))
without_cr-cut (b ∷ c ∷ bs) (suc n) long cr = ap (λ (x : List ℕ). b ∷ x) (without_cr-cut (c ∷ bs) n (omega (arith, long)) cr)

pub without_cr-same : (line : List ℕ) (n : ℕ) → length line ≡ suc n → get_or line n 0 ≢ 13 → line ≡ without_cr line
without_cr-same [] n long cr = refl
without_cr-same (b ∷ []) zero long cr = sym (cond-false _ _ _ (ne_eqb b 13 cr))
without_cr-same (b ∷ []) (suc n) long cr = absurd (omega (arith, long))
without_cr-same (b ∷ c ∷ bs) zero long cr = absurd (omega (arith, long))
without_cr-same (b ∷ c ∷ bs) (suc n) long cr = ap (λ (x : List ℕ). b ∷ x) (without_cr-same (c ∷ bs) n (omega (arith, long)) cr)

pub without_cr-nil : (line : List ℕ) → length line ≡ 0 → line ≡ without_cr line
without_cr-nil [] long = refl
without_cr-nil (b ∷ bs) long = absurd (omega (arith, long))

-- ---- whether lines have text

or_false : (b : Bool) → (b || false) ≡ b
or_false true = refl
or_false false = refl

pub has_text-here : (rest line after : List ℕ) → All (λ b. b ≢ 10) line → rest ≡ line ++ 10 ∷ after → is_blank (without_cr line) ≡ false → has_text (lines_of rest) ≡ true
has_text-here rest line after one parts text =
    ap (λ (x : List ℕ). has_text (lines_of x)) parts ∙ ap has_text (lines_of-line line after (recursion_from_All (λ b. b ≢ 10) line one)) ∙ ap (λ (x : Bool). not x || has_text (lines_of after)) text

pub has_text-next : (rest line after : List ℕ) → All (λ b. b ≢ 10) line → rest ≡ line ++ 10 ∷ after → is_blank (without_cr line) ≡ true → has_text (lines_of rest) ≡ has_text (lines_of after)
has_text-next rest line after one parts blank =
    ap (λ (x : List ℕ). has_text (lines_of x)) parts ∙ ap has_text (lines_of-line line after (recursion_from_All (λ b. b ≢ 10) line one)) ∙ ap (λ (x : Bool). not x || has_text (lines_of after)) blank

pub has_text-last : (rest : List ℕ) → All (λ b. b ≢ 10) rest → has_text (lines_of rest) ≡ not (is_blank (without_cr rest))
has_text-last [] one = ap has_text lines_of-nil
has_text-last (b ∷ bs) one = ap has_text (lines_of-last (b ∷ bs) (recursion_from_All (λ b. b ≢ 10) (b ∷ bs) one) (λ e. cc)) ∙ or_false (not (is_blank (without_cr (b ∷ bs))))
