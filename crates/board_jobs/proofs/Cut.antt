-- A line whose marks a front has keeps its rule in the history that is cut there.
use Rattle.std.proofs.Common.{ℕ, ◌≤◌, List, [], ◌∷◌, ◌++◌, length, take, sym, subst, All, arith}
use Rattle.std.proofs.lemmas.List.{length-take-le, take-take}
use Rattle.std.proofs.lemmas.List.Elements.{All-head}
use Rattle.htss_defs.specs.declared.history.Event.{Event}
use Rattle.htss_defs.specs.declared.history.Event.TheVariants.{Publish, Withdraw}
use Rattle.htss_defs.specs.declared.shape.Shape.{Shape}
use Rattle.htss_defs.specs.Reply.{IsReply, found, over_budget}
use Rattle.reg_model.specs.Registries.{HasRecord, IsWithdrawn}
use Rattle.reg_model.specs.Searches.{Counts}
use Rattle.report_text.specs.declared.report.WithdrawLine.TheVariants.{At, Unknown, Gone, LogFull}
use Rattle.report_rules.specs.Answers.{Answer, to_record, to_search, to_withdrawal, fronts_of, numbers_of}
use Rattle.report_rules.specs.Answers.{published, no_room, no_page, chain_full, log_full}
use Rattle.report_rules.specs.Answers.{not_accepted, taken, not_read, hits_at, over_at}
use Rattle.report_rules.specs.Rules.{Line, caller_number, KeepsAnswer}
use Rattle.board_core.proofs.BlockCauses.{event_in_first, withdraws_in_first}

module _ (k : Shape) (h : List Event) (front : ℕ) (few : front ≤ length h) where
  only : (x : ℕ) → All (λ mark. mark ≤ front) (x ∷ []) → x ≤ front
  only x all = All-head (λ mark. mark ≤ front) x [] all

  within_first : (x : ℕ) → x ≤ front → x ≤ length (take front h)
  within_first x less = omega (arith, less, length-take-le front h few)

  -- the first events of the first are those of all
  of_first : (F : List Event → Type 0) (x : ℕ) → x ≤ front → F (take x h) → F (take x (take front h))
  of_first F x less f = subst F (sym (take-take x front h less)) f

  pub keeps_cut : (earlier : List Line) (line : Line) (answer : Answer) → All (λ mark. mark ≤ front) (numbers_of answer ++ fronts_of answer) → KeepsAnswer k h earlier line answer → KeepsAnswer k (take front h) earlier line answer
  keeps_cut earlier line (to_record (not_accepted at code)) seen keeps = keeps
  keeps_cut earlier line (to_record (taken one (published number))) seen keeps = (event_in_first h front number (Publish (caller_number line.caller) one.name one.mol) keeps.0 (only number seen), keeps.1)
  keeps_cut earlier line (to_record (taken one (no_room left need))) seen keeps = keeps
  keeps_cut earlier line (to_record (taken one no_page)) seen keeps = keeps
  keeps_cut earlier line (to_record (taken one (chain_full pages))) seen keeps = keeps
  keeps_cut earlier line (to_record (taken one (log_full x))) seen keeps = (keeps.0, within_first x (only x seen), keeps.2)
  keeps_cut earlier line (to_withdrawal number (At event)) seen keeps = (event_in_first h front event (Withdraw (caller_number line.caller) number) keeps.0 (only event seen), keeps.1)
  keeps_cut earlier line (to_withdrawal number (Unknown x)) seen keeps =
      (within_first x (only x seen), of_first (λ first. HasRecord first number → ⊥) x (only x seen) keeps.1, keeps.2)
  keeps_cut earlier line (to_withdrawal number (Gone at)) seen keeps = withdraws_in_first h front at number keeps (only at seen)
  keeps_cut earlier line (to_withdrawal number (LogFull x)) seen keeps = (
    keeps.0,
    within_first x (only x seen),
    of_first (λ first. HasRecord first number) x (only x seen) keeps.2,
    of_first (λ first. IsWithdrawn first number → ⊥) x (only x seen) keeps.3,
    keeps.4,
  )
  keeps_cut earlier line (to_search (not_read at code)) seen keeps = keeps
  keeps_cut earlier line (to_search (hits_at asked budget x hits rows records)) seen keeps = (
    within_first x (only x seen),
    of_first (λ first. IsReply asked budget first (found hits)) x (only x seen) keeps.1,
    of_first (λ first. Counts asked first records) x (only x seen) keeps.2,
    keeps.3,
  )
  keeps_cut earlier line (to_search (over_at asked budget x)) seen keeps =
      (within_first x (only x seen), of_first (λ first. IsReply asked budget first over_budget) x (only x seen) keeps.1, keeps.2)
