-- What a tally says of the next line.
use Rattle.std.proofs.Common.{◌≡◌, ℕ, ◌<◌, ◌≤◌, List, All, sym, ap, subst, ◌∙◌, arith}
use Rattle.std.specs.Prelude.{slice_index}
use Rattle.report_rules.specs.Answers.{fronts_of, own_number}
use Rattle.report_rules.specs.Dealing.{Caller}
use Rattle.report_rules.specs.Rules.{IsNew, IsRefusingFront, IsSearchFront, Line, marks}
use Rattle.report_audit.specs.declared.tally.Tally.{Tally}
use Rattle.report_audit.specs.Tallied.{fronts, owns, most_by, ArePer, IsCaller, IsNext, IsOnce, IsTallyOf, place_of}
use Rattle.report_audit.proofs.Tallies.{by_less, by_within, before_less, before_within, less_by, less_before, within_by, within_before}

-- the number of the caller at its place
at_place : (of : Caller → ℕ) (numbers : List ℕ) (caller : Caller) (place : ℕ) → ArePer of numbers → IsCaller caller → place ≡ place_of caller → slice_index numbers place ≡ of caller
at_place of numbers caller place per is at = ap (slice_index numbers) at ∙ per.each caller is

module _ (lines : List Line) (line : Line) (t : Tally) (caller : Caller) (place : ℕ) (is : IsCaller caller) (at : place ≡ place_of caller) (next : IsNext t caller line) (tally : IsTallyOf lines t) where
  mark_is : slice_index t.marks place ≡ most_by caller marks lines
  mark_is = at_place (λ c. most_by c marks lines) t.marks caller place tally.marks_are is at

  front_is : slice_index t.fronts place ≡ most_by caller fronts lines
  front_is = at_place (λ c. most_by c fronts lines) t.fronts caller place tally.fronts_are is at

  pub is_new : (n : ℕ) → slice_index t.marks place < n → t.before < n → IsOnce lines n → IsNew lines line n
  is_new n own early once = record {
    loader = subst (λ (c : Caller). All (λ one. one.caller ≡ c → All (λ mark. mark < n) (marks one)) lines) (sym next.by) (by_less caller marks n lines (omega (arith, own, mark_is)));
    groups = subst (λ (g : ℕ). All (λ one. one.group < g → All (λ mark. mark < n) (marks one)) lines) (sym next.in_group) (before_less t.group marks n lines (omega (arith, early, tally.before)));
    once = once;
  }

  pub new_own : (n : ℕ) → 1 ≤ n → IsNew lines line n → slice_index t.marks place < n
  new_own n some new =
      let less = less_by caller marks n lines some (subst (λ (c : Caller). All (λ one. one.caller ≡ c → All (λ mark. mark < n) (marks one)) lines) next.by new.loader) in
      omega (arith, less, mark_is)

  pub new_early : (n : ℕ) → 1 ≤ n → IsNew lines line n → t.before < n
  new_early n some new =
      let less = less_before t.group marks n lines some (subst (λ (g : ℕ). All (λ one. one.group < g → All (λ mark. mark < n) (marks one)) lines) next.in_group new.groups) in
      omega (arith, less, tally.before)

  pub is_refusing : (front : ℕ) → slice_index t.marks place ≤ front → t.own_before ≤ front → IsRefusingFront lines line front
  is_refusing front own early = record {
    loader = subst (λ (c : Caller). All (λ one. one.caller ≡ c → All (λ mark. mark ≤ front) (marks one)) lines) (sym next.by) (by_within caller marks front lines (omega (arith, own, mark_is)));
    groups = subst (λ (g : ℕ). All (λ one. one.group < g → All (λ own. own ≤ front) (own_number one.answer)) lines) (sym next.in_group) (before_within t.group owns front lines (omega (arith, early, tally.own_before)));
  }

  pub refusing_own : (front : ℕ) → IsRefusingFront lines line front → slice_index t.marks place ≤ front
  refusing_own front refusing =
      let less = within_by caller marks front lines (subst (λ (c : Caller). All (λ one. one.caller ≡ c → All (λ mark. mark ≤ front) (marks one)) lines) next.by refusing.loader) in
      omega (arith, less, mark_is)

  pub refusing_early : (front : ℕ) → IsRefusingFront lines line front → t.own_before ≤ front
  refusing_early front refusing =
      let less = within_before t.group owns front lines (subst (λ (g : ℕ). All (λ one. one.group < g → All (λ own. own ≤ front) (own_number one.answer)) lines) next.in_group refusing.groups) in
      omega (arith, less, tally.own_before)

  pub is_searching : (front : ℕ) → slice_index t.fronts place ≤ front → t.before ≤ front → IsSearchFront lines line front
  is_searching front own early = record {
    searcher = subst (λ (c : Caller). All (λ one. one.caller ≡ c → All (λ mark. mark ≤ front) (fronts_of one.answer)) lines) (sym next.by) (by_within caller fronts front lines (omega (arith, own, front_is)));
    groups = subst (λ (g : ℕ). All (λ one. one.group < g → All (λ mark. mark ≤ front) (marks one)) lines) (sym next.in_group) (before_within t.group marks front lines (omega (arith, early, tally.before)));
  }

  pub searching_own : (front : ℕ) → IsSearchFront lines line front → slice_index t.fronts place ≤ front
  searching_own front searching =
      let less = within_by caller fronts front lines (subst (λ (c : Caller). All (λ one. one.caller ≡ c → All (λ mark. mark ≤ front) (fronts_of one.answer)) lines) next.by searching.searcher) in
      omega (arith, less, front_is)

  pub searching_early : (front : ℕ) → IsSearchFront lines line front → t.before ≤ front
  searching_early front searching =
      let less = within_before t.group marks front lines (subst (λ (g : ℕ). All (λ one. one.group < g → All (λ mark. mark ≤ front) (marks one)) lines) next.in_group searching.groups) in
      omega (arith, less, tally.before)
