-- Which elements a test allows, one by one.
use Rattle.std.proofs.Common.{◌≡◌, ℕ, zero, suc, ◌+◌, ◌-◌, ◌<◌, ◌≤◌, Bool, true, false, not, ◌||◌, get_or, refl, ap, ◌∙◌, inl, inr, arith}
use Rattle.std.specs.List.{list_all, range_with_len}
use Rattle.std.proofs.lemmas.Bool.{and_from, or_from, cases_eq, not_from_true, or_left, or_right, not_from_false}
use Rattle.std.proofs.lemmas.List.Folds.{list_all_at}
use Rattle.std.proofs.lemmas.List.FromFn.{length-range_with_len, get_or-range_with_len}
use Rattle.htss_defs.specs.declared.query.AtomTest.{AtomTest}
use Rattle.htss_defs.specs.Passes.{allows}
use Rattle.htss_defs.specs.Codes.{is_of_kind}
use Rattle.htss_defs.specs.Needs.{surely_of_kind}

-- the element is of the kind, unless the test does not allow it
abbrev pub is_sure : AtomTest → ℕ → ℕ → Bool
is_sure test i x = not (allows test x) || is_of_kind i x

all-range : (p : ℕ → Bool) (a n : ℕ) → ((x : ℕ) → a ≤ x → x < a + n → p x ≡ true) → list_all p (range_with_len a n) ≡ true
all-range p a zero each = refl
all-range p a (suc n) each = and_from (p a) (list_all p (range_with_len (a + 1) n)) (each a (omega arith) (omega arith)) (all-range p (a + 1) n (λ x low high. each x (omega arith) (omega arith)))

pub surely-all : (test : AtomTest) (i : ℕ) → ((x : ℕ) → 1 ≤ x → x < 119 → is_sure test i x ≡ true) → surely_of_kind test i ≡ true
unfolding surely_of_kind
surely-all test i each = all-range (is_sure test i) 1 118 (λ x low high. each x low (omega arith))

pub surely-fails : (test : AtomTest) (i x : ℕ) → 1 ≤ x → x < 119 → is_sure test i x ≡ false → surely_of_kind test i ≡ false
unfolding surely_of_kind
surely-fails test i x low high fails =
    let here : get_or (range_with_len 1 118) (x - 1) 0 ≡ x = get_or-range_with_len 1 118 (x - 1) 0 (omega arith) ∙ omega arith in
    list_all_at (is_sure test i) (range_with_len 1 118) (x - 1) 0 (omega (arith, length-range_with_len 1 118)) (ap (is_sure test i) here ∙ fails)

-- ---- one element more

pub sure-more : (test : AtomTest) (i n : ℕ) → ((x : ℕ) → 1 ≤ x → x < n → is_sure test i x ≡ true) → is_sure test i n ≡ true → (x : ℕ) → 1 ≤ x → x < n + 1 → is_sure test i x ≡ true
sure-more test i n each here x low high = elim (cases_eq x n) [
  | inl last ↦ ap (is_sure test i) last ∙ here
  | inr earlier ↦ each x low (omega arith)
]

pub sure-kind : (test : AtomTest) (i x : ℕ) → is_of_kind i x ≡ true → is_sure test i x ≡ true
sure-kind test i x kind = or_right (not (allows test x)) (is_of_kind i x) kind

pub sure-other : (test : AtomTest) (i x : ℕ) → allows test x ≡ false → is_sure test i x ≡ true
sure-other test i x other = or_left (not (allows test x)) (is_of_kind i x) (not_from_false (allows test x) other)

pub not-sure : (test : AtomTest) (i x : ℕ) → allows test x ≡ true → is_of_kind i x ≡ false → is_sure test i x ≡ false
not-sure test i x allowed other = or_from (not (allows test x)) (is_of_kind i x) (not_from_true (allows test x) allowed) other
