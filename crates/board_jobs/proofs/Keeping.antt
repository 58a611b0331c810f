-- A line keeps its rule, by what its answer did to the account of its caller.
use Rattle.std.proofs.Common.{◌≡◌, ℕ, ◌+◌, ◌<◌, ◌≤◌, List, [], ◌∷◌, refl, ap, subst, ◌∙◌, All}
use Rattle.std.proofs.lemmas.List.Elements.{All-cons, All-head, All-nil, All-same}
use Rattle.htss_defs.specs.declared.history.Event.TheVariants.{Publish, Withdraw}
use Rattle.htss_defs.specs.declared.shape.Shape.{Shape}
use Rattle.report_text.specs.declared.report.WithdrawLine.TheVariants.{At, Unknown, Gone, LogFull}
use Rattle.report_rules.specs.Answers.{Answer, to_record, to_search, to_withdrawal, own_number}
use Rattle.report_rules.specs.Answers.{published, no_room, no_page, chain_full, log_full}
use Rattle.report_rules.specs.Answers.{not_accepted, taken, not_read, hits_at, over_at}
use Rattle.report_rules.specs.Dealing.{Caller, loader, searcher}
use Rattle.report_rules.specs.Rules.{Line, caller_number, KeepsAnswer}
use Rattle.board_core.specs.declared.account.Account.{Account}
use Rattle.board_core.specs.declared.entry.Entry.TheVariants as entry
use Rattle.board_core.specs.declared.entry.Reply.TheVariants.{Hits, OverBudget}
use Rattle.board_core.specs.Each.{Each}
use Rattle.board_core.specs.Words.{Parts}
use Rattle.board_core.specs.Histories.{history_of}
use Rattle.board_core.specs.Truths.{IsTrueLog}
use Rattle.board_jobs.specs.Telling.{entries_in, tells}
use Rattle.board_jobs.specs.Answering.{IsAnswered}
use Rattle.board_jobs.proofs.Chained.{answered_entries}
use Rattle.board_jobs.proofs.Places.{each_behind}
use Rattle.board_jobs.proofs.Marks.{IsOwn, Before, new_is, refusing_is, search_is}
use Rattle.board_jobs.proofs.Stand.{Stands}

-- only loaders add events
abbrev pub MayOwn : Caller → Answer → Type 0
MayOwn (loader number) answer = Unit {0}
MayOwn (searcher number) answer = own_number answer ≡ []

module _ (k : Shape) (p : Parts) where
  -- what an answer tells is true
  pub told_true : (caller : Caller) (a b : Account) (answer : Answer) → IsAnswered k caller a b answer → Stands k p b → Each (IsTrueLog k (history_of k p)) (tells caller answer)
  told_true caller a b answer is s = each_behind (IsTrueLog k (history_of k p)) (entries_in a) (tells caller answer) (subst (Each (IsTrueLog k (history_of k p))) (answered_entries k caller a b answer is) s.entries)

  -- its own number is that of an event of its caller
  owns_told : (number : ℕ) (answer : Answer) → Each (IsTrueLog k (history_of k p)) (tells (loader number) answer) → All (IsOwn (history_of k p) (loader number)) (own_number answer)
  owns_told number (to_record (not_accepted at code)) told = All-nil (IsOwn (history_of k p) (loader number))
  owns_told number (to_record (taken one (published event))) told = All-cons (IsOwn (history_of k p) (loader number)) event []
      (Publish number one.name one.mol, told 0 (entry.Published event (Publish number one.name one.mol)) refl, refl) (All-nil (IsOwn (history_of k p) (loader number)))
  owns_told number (to_record (taken one (no_room left need))) told = All-nil (IsOwn (history_of k p) (loader number))
  owns_told number (to_record (taken one no_page)) told = All-nil (IsOwn (history_of k p) (loader number))
  owns_told number (to_record (taken one (chain_full pages))) told = All-nil (IsOwn (history_of k p) (loader number))
  owns_told number (to_record (taken one (log_full front))) told = All-nil (IsOwn (history_of k p) (loader number))
  owns_told number (to_withdrawal target (At event)) told = All-cons (IsOwn (history_of k p) (loader number)) event []
      (Withdraw number target, told 0 (entry.Withdrawn event (Withdraw number target)) refl, refl) (All-nil (IsOwn (history_of k p) (loader number)))
  owns_told number (to_withdrawal target (Unknown front)) told = All-nil (IsOwn (history_of k p) (loader number))
  owns_told number (to_withdrawal target (Gone at)) told = All-nil (IsOwn (history_of k p) (loader number))
  owns_told number (to_withdrawal target (LogFull front)) told = All-nil (IsOwn (history_of k p) (loader number))
  owns_told number (to_search answer) told = All-nil (IsOwn (history_of k p) (loader number))

  pub owns_are : (caller : Caller) (answer : Answer) → MayOwn caller answer → Each (IsTrueLog k (history_of k p)) (tells caller answer) → All (IsOwn (history_of k p) caller) (own_number answer)
  owns_are (loader number) answer may told = owns_told number answer told
  owns_are (searcher number) answer none told = All-same (IsOwn (history_of k p) (searcher number)) (own_number answer) [] none (All-nil (IsOwn (history_of k p) (searcher number)))

  -- the first of marks that all have the fact
  first_of : (P : ℕ → Type 0) (x : ℕ) → All P (x ∷ []) → P x
  first_of P x all = All-head P x [] all

  pub answer_keeps : (earlier : List Line) (line : Line) (a b : Account) (answer : Answer) → IsAnswered k line.caller a b answer → Stands k p b → Before (history_of k p) earlier line a
      → Each (IsTrueLog k (history_of k p)) (tells line.caller answer) → All (IsOwn (history_of k p) line.caller) (own_number answer) → KeepsAnswer k (history_of k p) earlier line answer
  answer_keeps earlier line a b (to_record (not_accepted at code)) is s before told owns = tt
  answer_keeps earlier line a b (to_record (taken one (published number))) is s before told owns = (
    told 0 (entry.Published number (Publish (caller_number line.caller) one.name one.mol)) refl,
    new_is (history_of k p) earlier line a number before (first_of (λ n. a.log.seen < n) number is.fresh) (first_of (IsOwn (history_of k p) line.caller) number owns),
  )
  answer_keeps earlier line a b (to_record (taken one (no_room left need))) is s before told owns = (is.says.0, is.says.1, ap (λ n. left + n) before.room ∙ is.says.2)
  answer_keeps earlier line a b (to_record (taken one no_page)) is s before told owns = tt
  answer_keeps earlier line a b (to_record (taken one (chain_full pages))) is s before told owns = is.says.0
  answer_keeps earlier line a b (to_record (taken one (log_full front))) is s before told owns =
      (is.says.0, (told 0 (entry.LogFull front) refl).0, refusing_is (history_of k p) earlier line a front before (first_of (λ n. a.log.seen ≤ n) front is.fronts))
  answer_keeps earlier line a b (to_withdrawal number (At event)) is s before told owns = (
    told 0 (entry.Withdrawn event (Withdraw (caller_number line.caller) number)) refl,
    new_is (history_of k p) earlier line a event before (first_of (λ n. a.log.seen < n) event is.fresh) (first_of (IsOwn (history_of k p) line.caller) event owns),
  )
  answer_keeps earlier line a b (to_withdrawal number (Unknown front)) is s before told owns =
      let t = told 0 (entry.Unknown number front) refl in
      (t.0, t.1, refusing_is (history_of k p) earlier line a front before (first_of (λ n. a.log.seen ≤ n) front is.fronts))
  answer_keeps earlier line a b (to_withdrawal number (Gone at)) is s before told owns = told 0 (entry.Gone number at) refl
  answer_keeps earlier line a b (to_withdrawal number (LogFull front)) is s before told owns =
      let was = is.says.1 p s.may in
      (is.says.0, (told 0 (entry.LogFull front) refl).0, was.0, was.1, refusing_is (history_of k p) earlier line a front before (first_of (λ n. a.log.seen ≤ n) front is.fronts))
  answer_keeps earlier line a b (to_search (not_read at code)) is s before told owns = tt
  answer_keeps earlier line a b (to_search (hits_at asked budget front hits rows records)) is s before told owns =
      let t = told 0 (entry.Answered asked budget front (Hits hits)) refl in
      (t.0, t.1, is.says p s.may, search_is (history_of k p) earlier line a front before (first_of (λ n. a.log.seen ≤ n) front is.fronts))
  answer_keeps earlier line a b (to_search (over_at asked budget front)) is s before told owns =
      let t = told 0 (entry.Answered asked budget front OverBudget) refl in
      (t.0, t.1, search_is (history_of k p) earlier line a front before (first_of (λ n. a.log.seen ≤ n) front is.fronts))
