-- One more line takes an event.
use Rattle.std.proofs.Common.{◌≡◌, ◌≢◌, ◌⊎◌, inl, inr, ℕ, zero, suc, ◌+◌, ◌-◌, ◌<◌, ◌≤◌, Bool, true, false, List, [], ◌∷◌, ◌++◌, length, max, All, refl, sym, ap, subst, ◌∙◌, arith}
use Rattle.std.specs.Prelude.{slice_index_or, slice_set, Contains, replicate}
use Rattle.std.specs.List.{flat_map}
use Rattle.std.proofs.Math.Nat.{le-max_left}
use Rattle.std.proofs.lemmas.Bool.{cases_eq, cases_lt, false≢true}
use Rattle.std.proofs.lemmas.Grind.{flat_map-append, get_or-set_at}
use Rattle.std.proofs.lemmas.List.{get_or-set_other, length-set}
use Rattle.std.proofs.lemmas.List.Concat.{flat_map-cons}
use Rattle.std.proofs.lemmas.List.Elements.{All-cons, All-head, All-nil, All-push, All-tail, Contains-append_cases, Contains-append_left, Contains-append_right}
use Rattle.report_rules.specs.Answers.{Answer, to_record, to_search, to_withdrawal, own_number, taken, published}
use Rattle.report_text.specs.declared.report.WithdrawLine.TheVariants.{At}
use Rattle.report_rules.specs.Rules.{Line}
use Rattle.report_audit.specs.SoFars.{AreTaken, IsFree}
use Rattle.report_audit.specs.Tallied.{IsOnce, most, owns}

-- a line names at most one event
own_list : (answer : Answer) → (own_number answer ≡ []) ⊎ ((m : ℕ) × (own_number answer ≡ m ∷ []))
own_list (to_record (taken one (published number))) = inr (number, refl)
own_list (to_withdrawal number (At event)) = inr (event, refl)
own_list _ = inl refl

most_one : (m : ℕ) → most (m ∷ []) ≡ m
most_one m = grind arith

-- which is the greatest of its own, unless that is 0
owns_is : (line : Line) → 1 ≤ most (owns line) → owns line ≡ most (owns line) ∷ []
owns_is line some = elim (own_list line.answer) [
  | inl none ↦ (
      let nothing : most (owns line) ≡ 0 = ap most none in
      absurd (omega (arith, some, nothing))
      )
  | inr (m, is) ↦ (
      let same : m ≡ most (owns line) = sym (ap most is ∙ most_one m) in
      is ∙ ap (λ (k : ℕ). k ∷ []) same
      )
]

owns_none : (line : Line) (number : ℕ) → most (owns line) ≡ 0 → 1 ≤ number → All (λ own. own ≢ number) (owns line)
owns_none line number nothing some = elim (own_list line.answer) [
  | inl none ↦ subst (All (λ own. own ≢ number)) (sym none) (All-nil (λ own. own ≢ number))
  | inr (m, is) ↦ (
      let same : m ≡ most (owns line) = sym (ap most is ∙ most_one m) in
      subst (All (λ own. own ≢ number)) (sym is) (All-cons (λ own. own ≢ number) m [] (λ e. absurd (omega (arith, e, same, nothing, some))) (All-nil (λ own. own ≢ number)))
      )
]

flat_push : (lines : List Line) (line : Line) → flat_map owns (lines ++ line ∷ []) ≡ flat_map owns lines ++ flat_map owns (line ∷ [])
flat_push lines line = flat_map-append owns lines (line ∷ [])

append_none : (xs : List ℕ) → xs ++ [] ≡ xs
append_none [] = refl
append_none (x ∷ xs) = ap (λ (l : List ℕ). x ∷ l) (append_none xs)

more_held : (lines : List Line) (line : Line) (number : ℕ) → Contains (flat_map owns lines) number → Contains (flat_map owns (lines ++ line ∷ [])) number
more_held lines line number has = subst (λ (l : List ℕ). Contains l number) (sym (flat_push lines line)) (Contains-append_left (flat_map owns lines) (flat_map owns (line ∷ [])) number has)

last_held : (lines : List Line) (line : Line) (number : ℕ) → owns line ≡ number ∷ [] → Contains (flat_map owns (lines ++ line ∷ [])) number
last_held lines line number is =
    let one : flat_map owns (line ∷ []) ≡ number ∷ [] = flat_map-cons owns line [] ∙ append_none (owns line) ∙ is in
    let here : Contains (number ∷ []) number = (0, omega arith, refl) in
    subst (λ (l : List ℕ). Contains l number) (sym (flat_push lines line))
    (Contains-append_right (flat_map owns lines) (flat_map owns (line ∷ [])) number (subst (λ (l : List ℕ). Contains l number) (sym one) here))

-- a line that names none
pub taken_same : (lines : List Line) (line : Line) (flags : List Bool) → most (owns line) ≡ 0 → AreTaken lines flags → AreTaken (lines ++ line ∷ []) flags
taken_same lines line flags nothing are = record {
  free = λ number is. All-push (λ one. All (λ own. own ≢ number) (own_number one.answer)) lines line (are.free number is) (owns_none line number nothing is.some);
  held = λ number some within not. more_held lines line number (are.held number some within not);
}

-- a line that names this one
pub taken_more : (lines : List Line) (line : Line) (flags : List Bool) (own : ℕ) → own ≡ most (owns line) → 1 ≤ own → own ≤ length flags → AreTaken lines flags
    → AreTaken (lines ++ line ∷ []) (slice_set flags (own - 1) true)
taken_more lines line flags own own_is some within are =
    let is : owns line ≡ own ∷ [] = subst (λ (k : ℕ). owns line ≡ k ∷ []) (sym own_is) (owns_is line (omega (arith, some, own_is))) in
    record {
      free = λ number free.
          let other : own ≢ number = λ same. not_free number same free in
          All-push (λ one. All (λ o. o ≢ number) (own_number one.answer)) lines line (are.free number (before number other free))
          (subst (All (λ o. o ≢ number)) (sym is) (All-cons (λ o. o ≢ number) own [] other (All-nil (λ o. o ≢ number))));
      held = λ number low high not. elim (cases_eq own number) [
        | inl same ↦ last_held lines line number (subst (λ (k : ℕ). owns line ≡ k ∷ []) same is)
        | inr other ↦ more_held lines line number (are.held number low (omega (arith, high, length-set flags (own - 1) true)) (λ free. not (after number other free)))
      ];
    }
  where
    not_free : (number : ℕ) → own ≡ number → IsFree (slice_set flags (own - 1) true) number → ⊥
    not_free number same free =
        let at : number - 1 ≡ own - 1 = omega (arith, same) in
        let set : slice_index_or (slice_set flags (own - 1) true) (number - 1) true ≡ true = get_or-set_at flags (own - 1) (number - 1) true true at (omega (arith, some, within)) in
        false≢true (sym free.free ∙ set)

    apart : (number : ℕ) → own ≢ number → 1 ≤ number → number - 1 ≢ own - 1
    apart number other low same = other (omega (arith, same, low, some))

    before : (number : ℕ) → own ≢ number → IsFree (slice_set flags (own - 1) true) number → IsFree flags number
    before number other free = record {
      some = free.some;
      within = omega (arith, free.within, length-set flags (own - 1) true);
      free = sym (get_or-set_other flags (own - 1) (number - 1) true true (apart number other free.some)) ∙ free.free;
    }

    after : (number : ℕ) → own ≢ number → IsFree flags number → IsFree (slice_set flags (own - 1) true) number
    after number other free = record {
      some = free.some;
      within = omega (arith, free.within, length-set flags (own - 1) true);
      free = get_or-set_other flags (own - 1) (number - 1) true true (apart number other free.some) ∙ free.free;
    }

pub note_taken : (lines : List Line) (line : Line) (flags new : List Bool) (own : ℕ) → own ≡ most (owns line) → own ≤ length flags → (1 ≤ own → own ≤ length flags → new ≡ slice_set flags (own - 1) true) → (own ≡ 0 → new ≡ flags)
    → AreTaken lines flags → AreTaken (lines ++ line ∷ []) new
note_taken lines line flags new zero own_is within set same are = subst (AreTaken (lines ++ line ∷ [])) (sym (same refl)) (taken_same lines line flags (sym own_is) are)
note_taken lines line flags new (suc n) own_is within set same are =
    let some : 1 ≤ suc n = omega arith in
    subst (AreTaken (lines ++ line ∷ [])) (sym (set some within)) (taken_more lines line flags (suc n) own_is some within are)

-- a line has it, and no line has it
pub never_both : (lines : List Line) (number : ℕ) → IsOnce lines number → Contains (flat_map owns lines) number → ⊥
never_both [] number once has = absurd (omega (arith, has.1))
never_both (line ∷ lines) number once has =
    elim (Contains-append_cases (owns line) (flat_map owns lines) number (subst (λ (l : List ℕ). Contains l number) (flat_map-cons owns line lines) has)) [
      | inl here ↦ All-head (λ one. All (λ own. own ≢ number) (own_number one.answer)) line lines once here.0 number here.1 here.2
      | inr later ↦ never_both lines number (All-tail (λ one. All (λ own. own ≢ number) (own_number one.answer)) line lines once) later
    ]

pub taken_none : (flags : List Bool) → ((i : ℕ) (d : Bool) → i < length flags → slice_index_or flags i d ≡ false) → AreTaken [] flags
taken_none flags all = record {
  free = λ number is. All-nil (λ one. All (λ own. own ≢ number) (own_number one.answer));
  held = λ number some within not. absurd (not (record { some = some; within = within; free = all (number - 1) true (omega (arith, some, within)) }));
}
