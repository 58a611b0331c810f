-- Groups that are done, with more files beside, and with one group more.
use Rattle.std.proofs.Common.{◌≡◌, ℕ, ◌+◌, List, [], ◌∷◌, ◌++◌, length, append_assoc, append-nil, refl, sym, ap, subst, ◌∙◌, arith}
use Rattle.std.specs.Prelude.{Option, Some, None, All, slice_index_or}
use mathlib.Core.Option.{some}
use lib.ListN.{get_elem?}
use Rattle.htss_defs.specs.declared.shape.Shape.{Shape}
use Rattle.script_text.specs.declared.script.Group.{Group}
use Rattle.script_text.specs.declared.script.Order.{Order}
use Rattle.script_text.specs.declared.script.Order.TheVariants.{Load, Withdraw, Search}
use Rattle.script_text.specs.FilesByLine.{bytes_at}
use Rattle.report_rules.specs.Answers.{JobAnswer, loaded, withdrew, searched}
use Rattle.report_rules.specs.Reports.{Done, IsAnswerTo, IsByItsFile}
use Rattle.board_core.specs.declared.account.Account.{Account}
use Rattle.board_core.specs.Each.{Each}
use Rattle.board_jobs.specs.Groups.{with_seen, HaveMet, GroupIsDone, AreGroupsDone}
use Rattle.board_jobs.proofs.Places.{map_back}

-- ---- answers, with more files beside

-- the files of the one are files of the other
abbrev pub AreKept : List (ℕ × List ℕ) → List (ℕ × List ℕ) → Type 0
AreKept old new = (line : ℕ) (bytes : List ℕ) → bytes_at old line ≡ Some bytes → bytes_at new line ≡ Some bytes

answer_kept : (old new : Option (List ℕ)) (budget : ℕ) (order : Order) (answer : JobAnswer) → ((bytes : List ℕ) → old ≡ Some bytes → new ≡ Some bytes) → IsAnswerTo old budget order answer → IsAnswerTo new budget order answer
answer_kept (Some bytes) new budget order answer kept is = subst (λ o. IsAnswerTo o budget order answer) (sym (kept bytes refl)) is
answer_kept None None budget order answer kept is = is
answer_kept None (Some bytes) budget (Load file) (loaded named answers) kept is = absurd is
answer_kept None (Some bytes) budget (Load file) (withdrew named answer) kept is = absurd is
answer_kept None (Some bytes) budget (Load file) (searched named answer) kept is = absurd is
answer_kept None (Some bytes) budget (Withdraw number) (loaded named answers) kept is = absurd is
answer_kept None (Some bytes) budget (Withdraw number) (withdrew named answer) kept is = is
answer_kept None (Some bytes) budget (Withdraw number) (searched named answer) kept is = absurd is
answer_kept None (Some bytes) budget (Search file own) (loaded named answers) kept is = absurd is
answer_kept None (Some bytes) budget (Search file own) (withdrew named answer) kept is = absurd is
answer_kept None (Some bytes) budget (Search file own) (searched named answer) kept is = absurd is

by_files_kept : (old new : List (ℕ × List ℕ)) (budget : ℕ) → AreKept old new → (done : List Done) → All (IsByItsFile old budget) done → All (IsByItsFile new budget) done
by_files_kept old new budget kept done by =
    λ k d lt.
    let one = slice_index_or done k d in
    answer_kept (bytes_at old one.dealt.job.line) (bytes_at new one.dealt.job.line) budget one.dealt.job.order one.answer (kept one.dealt.job.line) (by k d lt)

module _ (k : Shape) (old new : List (ℕ × List ℕ)) (budget : ℕ) (kept : AreKept old new) where
  pub group_kept : (number : ℕ) (group : Group) (before after : List Account) (front : ℕ) (done : List Done) → GroupIsDone k old budget number group before after front done → GroupIsDone k new budget number group before after front done
  group_kept number group before after front done one =
      record { dealt_are = one.dealt_are; by_files = by_files_kept old new budget kept done one.by_files; between = one.between; jobs = one.jobs; met = one.met }

  pub groups_kept : (number : ℕ) (groups : List Group) (before after : List Account) (front : ℕ) (done : List Done) → AreGroupsDone k old budget number groups before after front done → AreGroupsDone k new budget number groups before after front done
  groups_kept number [] before after front done are = are
  groups_kept number (group ∷ groups) before after front done (middle, met, first, rest, one, more, is) =
      (middle, met, first, rest, group_kept number group before middle met first one, groups_kept (number + 1) groups middle after front rest more, is)

-- ---- one group more

met_seen : (between after : List Account) (front : ℕ) → HaveMet between after front → Each (λ a. a.log.seen ≡ front) after
met_seen between after front met j x there =
    let back = map_back (with_seen front) between j x (subst (λ (l : List Account). get_elem? l j ≡ some x) met.after_is there) in
    ap (λ (y : Account). y.log.seen) (sym back.2)

module _ (k : Shape) (files : List (ℕ × List ℕ)) (budget : ℕ) where
  pub one_more : (number : ℕ) (groups : List Group) (group : Group) (before middle after : List Account) (front met : ℕ) (done more : List Done)
      → AreGroupsDone k files budget number groups before middle front done → GroupIsDone k files budget (number + length groups) group middle after met more
      → AreGroupsDone k files budget number (groups ++ group ∷ []) before after met (done ++ more)
  one_more number [] group before middle after front met done more (same, none, seen) one =
      let e : number + 0 ≡ number = omega arith in
      let first : GroupIsDone k files budget number group before after met more =
      subst (λ (n : ℕ). GroupIsDone k files budget n group before after met more) e
      (subst (λ (l : List Account). GroupIsDone k files budget (number + 0) group l after met more) same one) in
      (after, met, more, [], first, (refl, refl, met_seen one.between after met one.met), ap (λ (l : List Done). l ++ more) none ∙ sym (append-nil more))
  one_more number (first ∷ groups) group before middle after front met done more (between, seen, jobs, rest, one, others, is) last =
      let e : number + length (first ∷ groups) ≡ number + 1 + length groups = omega arith in
      let next = one_more (number + 1) groups group between middle after front met rest more others (subst (λ (n : ℕ). GroupIsDone k files budget n group middle after met more) e last) in
      (between, seen, jobs, rest ++ more, one, next, ap (λ (l : List Done). l ++ more) is ∙ append_assoc jobs rest more)
