-- A tally with one line more, or in a later group.
use Rattle.std.proofs.Common.{◌≡◌, ◌≢◌, ℕ, ◌+◌, ◌-◌, ◌^◌, ◌<◌, ◌≤◌, true, false, List, [], ◌∷◌, ◌++◌, replicate, All, max, min, sum_by, refl, sym, ap, subst, ◌∙◌, inl, inr, arith}
use Rattle.std.specs.Prelude.{slice_index, slice_set, nat_lt, if◌then◌else◌}
use Rattle.std.proofs.lemmas.Bool.{cases_Bool, cases_lt, cond-true, cond-false, false≢true, lt-ltb, ltb-true}
use Rattle.std.proofs.lemmas.List.{get_or-replicate, get_or-set_other, length-set}
use Rattle.std.proofs.lemmas.List.Elements.{All-head, All-nil, All-push, All-tail}
use Rattle.std.proofs.lemmas.List.Sums.{sum_by-append, sum_by-cons}
use Rattle.std.proofs.lemmas.Grind.{get_or-set_at}
use Rattle.std.proofs.Math.ListN.{get_or-eq_default}
use Rattle.report_rules.specs.Dealing.{Caller, loader, searcher}
use Rattle.report_rules.specs.Rules.{Line, is_same, marks, used_by, words_used}
use Rattle.report_audit.specs.declared.tally.Carried.{Carried}
use Rattle.report_audit.specs.declared.tally.Tally.{Tally}
use Rattle.report_audit.specs.Tallied.{most, fronts, owns, most_by, most_before, most_in, IsCaller, place_of, ArePer, IsCarried, IsTallyOf}
use Rattle.report_audit.proofs.Tallies.{is_itself, same_caller}

-- ---- a number for each caller

places_apart : (a b : Caller) → IsCaller a → IsCaller b → is_same a b ≡ false → place_of a ≢ place_of b
places_apart (loader m) (loader n) x y other same = let e : m ≡ n = omega (arith, x.0, y.0, same) in false≢true (sym other ∙ subst (λ (k : ℕ). is_same (loader m) (loader k) ≡ true) e (is_itself (loader m)))
places_apart (loader m) (searcher n) x y other same = absurd (omega (arith, x.0, x.1, same))
places_apart (searcher m) (loader n) x y other same = absurd (omega (arith, y.0, y.1, same))
places_apart (searcher m) (searcher n) x y other same = let e : m ≡ n = omega (arith, x.0, y.0, same) in false≢true (sym other ∙ subst (λ (k : ℕ). is_same (searcher m) (searcher k) ≡ true) e (is_itself (searcher m)))

place_within : (c : Caller) → IsCaller c → place_of c < 32
place_within (loader m) x = omega (arith, x.1)
place_within (searcher m) x = omega (arith, x.1)

per_note : (f g : Caller → ℕ) (numbers : List ℕ) (caller : Caller) (value : ℕ) → IsCaller caller → ArePer f numbers → value ≡ g caller → ((other : Caller) → is_same caller other ≡ false → g other ≡ f other)
    → ArePer g (slice_set numbers (place_of caller) value)
per_note f g numbers caller value is per own others = record {
  long = length-set numbers (place_of caller) value ∙ per.long;
  each = λ other is_other. elim (cases_Bool (is_same caller other)) [
    | inl same ↦ (
        let e : caller ≡ other = same_caller caller other same in
        get_or-set_at numbers (place_of caller) (place_of other) value 0 (ap place_of (sym e)) (omega (arith, place_within caller is, per.long)) ∙ own ∙ ap g e
        )
    | inr apart ↦ get_or-set_other numbers (place_of caller) (place_of other) value 0 (λ same. places_apart caller other is is_other apart (sym same)) ∙ per.each other is_other ∙ sym (others other apart)
  ];
}

-- ---- one line more

by_push : (c : Caller) (carried : Line → List ℕ) (lines : List Line) (line : Line) → most_by c carried (lines ++ line ∷ []) ≡ max (most_by c carried lines) (if is_same line.caller c then most (carried line) else 0)
by_push c carried [] line = omega arith
by_push c carried (one ∷ lines) line = omega (arith, by_push c carried lines line)

before_push : (group : ℕ) (carried : Line → List ℕ) (lines : List Line) (line : Line) → most_before group carried (lines ++ line ∷ []) ≡ max (most_before group carried lines) (if nat_lt line.group group then most (carried line) else 0)
before_push group carried [] line = omega arith
before_push group carried (one ∷ lines) line = omega (arith, before_push group carried lines line)

in_push : (carried : Line → List ℕ) (lines : List Line) (line : Line) → most_in carried (lines ++ line ∷ []) ≡ max (most_in carried lines) (most (carried line))
in_push carried [] line = omega arith
in_push carried (one ∷ lines) line = omega (arith, in_push carried lines line)

words_push : (c : Caller) (lines : List Line) (line : Line) → sum_by (used_by c) (lines ++ line ∷ []) ≡ sum_by (used_by c) lines + used_by c line
words_push c lines line = let one = sum_by-cons (used_by c) line [] in omega (arith, sum_by-append (used_by c) lines (line ∷ []), one)

-- a line of the caller, and of another
own_most : (c : Caller) (carried : Line → List ℕ) (lines : List Line) (line : Line) → line.caller ≡ c → most_by c carried (lines ++ line ∷ []) ≡ max (most_by c carried lines) (most (carried line))
own_most c carried lines line by =
    let same : is_same line.caller c ≡ true = subst (λ (x : Caller). is_same x c ≡ true) (sym by) (is_itself c) in
    omega (arith, by_push c carried lines line, cond-true (is_same line.caller c) (most (carried line)) 0 same)

other_most : (c : Caller) (carried : Line → List ℕ) (lines : List Line) (line : Line) → is_same line.caller c ≡ false → most_by c carried (lines ++ line ∷ []) ≡ most_by c carried lines
other_most c carried lines line other = omega (arith, by_push c carried lines line, cond-false (is_same line.caller c) (most (carried line)) 0 other)

own_words : (c : Caller) (lines : List Line) (line : Line) → line.caller ≡ c → sum_by (used_by c) (lines ++ line ∷ []) ≡ sum_by (used_by c) lines + words_used line.answer
own_words c lines line by =
    let same : is_same line.caller c ≡ true = subst (λ (x : Caller). is_same x c ≡ true) (sym by) (is_itself c) in
    omega (arith, words_push c lines line, cond-true (is_same line.caller c) (words_used line.answer) 0 same)

other_words : (c : Caller) (lines : List Line) (line : Line) → is_same line.caller c ≡ false → sum_by (used_by c) (lines ++ line ∷ []) ≡ sum_by (used_by c) lines
other_words c lines line other = omega (arith, words_push c lines line, cond-false (is_same line.caller c) (words_used line.answer) 0 other)

same_before : (group : ℕ) (carried : Line → List ℕ) (lines : List Line) (line : Line) → line.group ≡ group → most_before group carried (lines ++ line ∷ []) ≡ most_before group carried lines
same_before group carried lines line is =
    let late : nat_lt line.group group ≡ false = elim (cases_Bool (nat_lt line.group group)) [
      | inl less ↦ absurd (omega (arith, is, ltb-true line.group group less))
      | inr late ↦ late
    ] in
    omega (arith, before_push group carried lines line, cond-false (nat_lt line.group group) (most (carried line)) 0 late)

pub noted : (lines : List Line) (line : Line) (t : Tally) (caller : Caller) (carried : Carried) (place m f w a o : ℕ) → line.caller ≡ caller → line.group ≡ t.group → IsCaller caller → IsCarried line carried → IsTallyOf lines t
    → place ≡ place_of caller → m ≡ max (slice_index t.marks place) carried.mark → f ≡ max (slice_index t.fronts place) carried.front → w ≡ min (slice_index t.words place + carried.words) (2 ^ 64 - 1)
    → a ≡ max t.all carried.mark → o ≡ max t.own carried.own
    → IsTallyOf (lines ++ line ∷ []) (record {
      marks = slice_set t.marks place m;
      fronts = slice_set t.fronts place f;
      words = slice_set t.words place w;
      all = a;
      own = o;
      before = t.before;
      own_before = t.own_before;
      group = t.group;
    })
noted lines line t caller carried place m f w a o by in_group is has tally at m_is f_is w_is a_is o_is =
    let here : slice_index t.marks place ≡ most_by caller marks lines = ap (slice_index t.marks) at ∙ tally.marks_are.each caller is in
    let front : slice_index t.fronts place ≡ most_by caller fronts lines = ap (slice_index t.fronts) at ∙ tally.fronts_are.each caller is in
    let words : slice_index t.words place ≡ min (sum_by (used_by caller) lines) (2 ^ 64 - 1) = ap (slice_index t.words) at ∙ tally.words_are.each caller is in
    let apart : (other : Caller) → is_same caller other ≡ false → is_same line.caller other ≡ false = λ other x. subst (λ (c : Caller). is_same c other ≡ false) (sym by) x in
    record {
      marks_are = subst (λ (n : ℕ). ArePer (λ c. most_by c marks (lines ++ line ∷ [])) (slice_set t.marks n m)) (sym at)
          (per_note (λ c. most_by c marks lines) (λ c. most_by c marks (lines ++ line ∷ [])) t.marks caller m is tally.marks_are
          (omega (arith, m_is, here, has.mark, own_most caller marks lines line by)) (λ other x. other_most other marks lines line (apart other x)));
      fronts_are = subst (λ (n : ℕ). ArePer (λ c. most_by c fronts (lines ++ line ∷ [])) (slice_set t.fronts n f)) (sym at)
          (per_note (λ c. most_by c fronts lines) (λ c. most_by c fronts (lines ++ line ∷ [])) t.fronts caller f is tally.fronts_are
          (omega (arith, f_is, front, has.front, own_most caller fronts lines line by)) (λ other x. other_most other fronts lines line (apart other x)));
      words_are = subst (λ (n : ℕ). ArePer (λ c. min (sum_by (used_by c) (lines ++ line ∷ [])) (2 ^ 64 - 1)) (slice_set t.words n w)) (sym at)
          (per_note (λ c. min (sum_by (used_by c) lines) (2 ^ 64 - 1)) (λ c. min (sum_by (used_by c) (lines ++ line ∷ [])) (2 ^ 64 - 1)) t.words caller w is tally.words_are
          (omega (arith, w_is, words, has.words, own_words caller lines line by)) (λ other x. ap (λ (n : ℕ). min n (2 ^ 64 - 1)) (other_words other lines line (apart other x))));
      all = omega (arith, a_is, tally.all, has.mark, in_push marks lines line);
      own = omega (arith, o_is, tally.own, has.own, in_push owns lines line);
      before = tally.before ∙ sym (same_before t.group marks lines line in_group);
      own_before = tally.own_before ∙ sym (same_before t.group owns lines line in_group);
      groups = All-push (λ one. one.group ≤ t.group) lines line tally.groups (omega (arith, in_group));
    }

-- ---- a later group

all_before : (group : ℕ) (carried : Line → List ℕ) (lines : List Line) → All (λ one. one.group < group) lines → most_before group carried lines ≡ most_in carried lines
all_before group carried [] all = refl
all_before group carried (line ∷ lines) all =
    let here : nat_lt line.group group ≡ true = lt-ltb line.group group (All-head (λ (one : Line). one.group < group) line lines all) in
    omega (arith, cond-true (nat_lt line.group group) (most (carried line)) 0 here, all_before group carried lines (All-tail (λ (one : Line). one.group < group) line lines all))

pub entered : (lines : List Line) (t : Tally) (group : ℕ) → t.group < group → IsTallyOf lines t → IsTallyOf lines (record t { before = t.all; own_before = t.own; group = group })
entered lines t group later tally =
    let past : All (λ (one : Line). one.group < group) lines = λ k d within. let g = tally.groups k d within in omega (arith, g, later) in
    record {
      marks_are = tally.marks_are;
      fronts_are = tally.fronts_are;
      words_are = tally.words_are;
      all = tally.all;
      own = tally.own;
      before = tally.all ∙ sym (all_before group marks lines past);
      own_before = tally.own ∙ sym (all_before group owns lines past);
      groups = λ k d within. let g = past k d within in omega (arith, g);
    }

-- ---- no line

zero_at : (place : ℕ) → slice_index (replicate 32 0) place ≡ 0
zero_at place = elim (cases_lt place 32) [
  | inl within ↦ get_or-replicate 32 place 0 0 within
  | inr over ↦ get_or-eq_default (replicate 32 0) 0 over
]

per_none : ArePer (λ c. 0) (replicate 32 0)
per_none = record { long = refl; each = λ c is. zero_at (place_of c) }

pub tally_none : IsTallyOf [] (record { marks = replicate 32 0; fronts = replicate 32 0; words = replicate 32 0; all = 0; own = 0; before = 0; own_before = 0; group = 1 })
tally_none = record {
  marks_are = per_none;
  fronts_are = per_none;
  words_are = per_none;
  all = refl;
  own = refl;
  before = refl;
  own_before = refl;
  groups = All-nil (λ one. one.group ≤ 1);
}
