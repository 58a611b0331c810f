-- What is asked of all lines that pass a test, by one number.
use Rattle.std.proofs.Common.{◌≡◌, ℕ, ◌≤◌, ◌<◌, Bool, true, List, [], ◌∷◌, ap, subst, All, inl, inr, arith}
use Rattle.std.specs.Prelude.{nat_lt, slice_index_or}
use Rattle.std.proofs.lemmas.Bool.{cases_Bool, cond-true, cond-false, lt-ltb, ltb-true}
use Rattle.std.proofs.lemmas.List.Elements.{All-nil, All-cons, All-head, All-tail}
use Rattle.report_rules.specs.Dealing.{Caller, loader, searcher}
use Rattle.report_rules.specs.Rules.{Line, is_same}
use Rattle.report_audit.specs.Tallied.{most, most_before, most_by, most_where}

most_less : (n : ℕ) (xs : List ℕ) → most xs < n → All (λ m. m < n) xs
most_less n [] less = All-nil (λ m. m < n)
most_less n (x ∷ xs) less = All-cons (λ m. m < n) x xs (omega arith) (most_less n xs (omega arith))

less_most : (n : ℕ) (xs : List ℕ) → 1 ≤ n → All (λ m. m < n) xs → most xs < n
less_most n [] some each = omega arith
less_most n (x ∷ xs) some each =
    let here = All-head (λ m. m < n) x xs each in
    let rest = less_most n xs some (All-tail (λ m. m < n) x xs each) in
    omega arith

most_within : (n : ℕ) (xs : List ℕ) → most xs ≤ n → All (λ m. m ≤ n) xs
most_within n [] less = All-nil (λ m. m ≤ n)
most_within n (x ∷ xs) less = All-cons (λ m. m ≤ n) x xs (omega arith) (most_within n xs (omega arith))

within_most : (n : ℕ) (xs : List ℕ) → All (λ m. m ≤ n) xs → most xs ≤ n
within_most n [] each = omega arith
within_most n (x ∷ xs) each =
    let here = All-head (λ m. m ≤ n) x xs each in
    let rest = within_most n xs (All-tail (λ m. m ≤ n) x xs each) in
    omega arith

-- ---- the lines that pass

-- what is asked of each line that passes
abbrev Asked : (Line → Bool) → (Line → List ℕ) → (ℕ → Type 0) → Line → Type 0
Asked passes carried P one = passes one ≡ true → All P (carried one)

where_less : (passes : Line → Bool) (carried : Line → List ℕ) (n : ℕ) (lines : List Line) → most_where passes carried lines < n → All (Asked passes carried (λ m. m < n)) lines
where_less passes carried n [] less = All-nil (Asked passes carried (λ m. m < n))
where_less passes carried n (line ∷ lines) less =
    All-cons (Asked passes carried (λ m. m < n)) line lines
    (λ pass. most_less n (carried line) (omega (arith, less, cond-true (passes line) (most (carried line)) 0 pass)))
    (where_less passes carried n lines (omega (arith, less)))

less_where : (passes : Line → Bool) (carried : Line → List ℕ) (n : ℕ) (lines : List Line) → 1 ≤ n → All (Asked passes carried (λ m. m < n)) lines → most_where passes carried lines < n
less_where passes carried n [] some each = omega arith
less_where passes carried n (line ∷ lines) some each =
    let rest = less_where passes carried n lines some (All-tail (Asked passes carried (λ m. m < n)) line lines each) in
    elim (cases_Bool (passes line)) [
      | inl pass ↦ (
          let here = less_most n (carried line) some (All-head (Asked passes carried (λ m. m < n)) line lines each pass) in
          omega (arith, rest, here, cond-true (passes line) (most (carried line)) 0 pass))
      | inr other ↦ omega (arith, rest, some, cond-false (passes line) (most (carried line)) 0 other)
    ]

where_within : (passes : Line → Bool) (carried : Line → List ℕ) (n : ℕ) (lines : List Line) → most_where passes carried lines ≤ n → All (Asked passes carried (λ m. m ≤ n)) lines
where_within passes carried n [] less = All-nil (Asked passes carried (λ m. m ≤ n))
where_within passes carried n (line ∷ lines) less =
    All-cons (Asked passes carried (λ m. m ≤ n)) line lines
    (λ pass. most_within n (carried line) (omega (arith, less, cond-true (passes line) (most (carried line)) 0 pass)))
    (where_within passes carried n lines (omega (arith, less)))

within_where : (passes : Line → Bool) (carried : Line → List ℕ) (n : ℕ) (lines : List Line) → All (Asked passes carried (λ m. m ≤ n)) lines → most_where passes carried lines ≤ n
within_where passes carried n [] each = omega arith
within_where passes carried n (line ∷ lines) each =
    let rest = within_where passes carried n lines (All-tail (Asked passes carried (λ m. m ≤ n)) line lines each) in
    elim (cases_Bool (passes line)) [
      | inl pass ↦ (
          let here = within_most n (carried line) (All-head (Asked passes carried (λ m. m ≤ n)) line lines each pass) in
          omega (arith, rest, here, cond-true (passes line) (most (carried line)) 0 pass))
      | inr other ↦ omega (arith, rest, cond-false (passes line) (most (carried line)) 0 other)
    ]

-- ---- by callers

pub same_caller : (a b : Caller) → is_same a b ≡ true → a ≡ b
same_caller (loader m) (loader n) same = let e : m ≡ n = grind (arith, same) in ap loader e
same_caller (loader m) (searcher n) same = absurd cc
same_caller (searcher m) (loader n) same = absurd cc
same_caller (searcher m) (searcher n) same = let e : m ≡ n = grind (arith, same) in ap searcher e

pub is_itself : (a : Caller) → is_same a a ≡ true
is_itself (loader n) = grind arith
is_itself (searcher n) = grind arith

is_of : (a b : Caller) → a ≡ b → is_same a b ≡ true
is_of a b same = subst (λ (c : Caller). is_same a c ≡ true) same (is_itself a)

pub by_less : (caller : Caller) (carried : Line → List ℕ) (n : ℕ) (lines : List Line) → most_by caller carried lines < n → All (λ one. one.caller ≡ caller → All (λ m. m < n) (carried one)) lines
by_less caller carried n lines less = λ k d within same. where_less (λ line. is_same line.caller caller) carried n lines less k d within (is_of (slice_index_or lines k d).caller caller same)

pub less_by : (caller : Caller) (carried : Line → List ℕ) (n : ℕ) (lines : List Line) → 1 ≤ n → All (λ one. one.caller ≡ caller → All (λ m. m < n) (carried one)) lines → most_by caller carried lines < n
less_by caller carried n lines some each = less_where (λ line. is_same line.caller caller) carried n lines some (λ k d within pass. each k d within (same_caller (slice_index_or lines k d).caller caller pass))

pub by_within : (caller : Caller) (carried : Line → List ℕ) (n : ℕ) (lines : List Line) → most_by caller carried lines ≤ n → All (λ one. one.caller ≡ caller → All (λ m. m ≤ n) (carried one)) lines
by_within caller carried n lines less = λ k d within same. where_within (λ line. is_same line.caller caller) carried n lines less k d within (is_of (slice_index_or lines k d).caller caller same)

pub within_by : (caller : Caller) (carried : Line → List ℕ) (n : ℕ) (lines : List Line) → All (λ one. one.caller ≡ caller → All (λ m. m ≤ n) (carried one)) lines → most_by caller carried lines ≤ n
within_by caller carried n lines each = within_where (λ line. is_same line.caller caller) carried n lines (λ k d within pass. each k d within (same_caller (slice_index_or lines k d).caller caller pass))

-- ---- by earlier groups

pub before_less : (group : ℕ) (carried : Line → List ℕ) (n : ℕ) (lines : List Line) → most_before group carried lines < n → All (λ one. one.group < group → All (λ m. m < n) (carried one)) lines
before_less group carried n lines less = λ k d within early. where_less (λ line. nat_lt line.group group) carried n lines less k d within (lt-ltb (slice_index_or lines k d).group group early)

pub less_before : (group : ℕ) (carried : Line → List ℕ) (n : ℕ) (lines : List Line) → 1 ≤ n → All (λ one. one.group < group → All (λ m. m < n) (carried one)) lines → most_before group carried lines < n
less_before group carried n lines some each = less_where (λ line. nat_lt line.group group) carried n lines some (λ k d within pass. each k d within (ltb-true (slice_index_or lines k d).group group pass))

pub before_within : (group : ℕ) (carried : Line → List ℕ) (n : ℕ) (lines : List Line) → most_before group carried lines ≤ n → All (λ one. one.group < group → All (λ m. m ≤ n) (carried one)) lines
before_within group carried n lines less = λ k d within early. where_within (λ line. nat_lt line.group group) carried n lines less k d within (lt-ltb (slice_index_or lines k d).group group early)

pub within_before : (group : ℕ) (carried : Line → List ℕ) (n : ℕ) (lines : List Line) → All (λ one. one.group < group → All (λ m. m ≤ n) (carried one)) lines → most_before group carried lines ≤ n
within_before group carried n lines each = within_where (λ line. nat_lt line.group group) carried n lines (λ k d within pass. each k d within (ltb-true (slice_index_or lines k d).group group pass))
