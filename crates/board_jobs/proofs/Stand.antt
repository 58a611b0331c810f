-- An account of which a later one stands at a board's end: the words may be those, and its entries are true.
use Rattle.std.proofs.Common.{◌≡◌, ℕ, ◌+◌, List, [], ◌∷◌, set, sym, refl, ap, subst, ◌∙◌, arith}
use mathlib.Core.Option.{some-injective}
use mathlib.Core.Logic.{dite}
use native.Mathlib.Decide.{ℕ_discrete}
use lib.ListN.{get_elem?}
use Rattle.htss_defs.specs.declared.shape.Shape.{Shape}
use Rattle.script_text.specs.declared.script.Group.{Group}
use Rattle.report_rules.specs.Answers.{Answer, answers_of}
use Rattle.report_rules.specs.Dealing.{Caller}
use Rattle.report_rules.specs.Reports.{Done}
use Rattle.board_core.specs.declared.account.Account.{Account}
use Rattle.board_core.specs.Answers.{is_answer, answers_in}
use Rattle.board_core.specs.Each.{Each}
use Rattle.board_core.specs.Words.{Parts}
use Rattle.board_core.specs.Histories.{history_of}
use Rattle.board_core.specs.Truths.{IsTrueLog}
use Rattle.board_core.specs.Steps.{MayBe}
use Rattle.board_core.proofs.Lists.{inside}
use Rattle.board_core.proofs.Grown.{board_before, grows_quiet}
use Rattle.board_jobs.specs.Telling.{entries_in, tells}
use Rattle.board_jobs.specs.Answering.{IsAnswered, AreAnswered}
use Rattle.board_jobs.specs.Groups.{place_of, JobIsDone, AreDone, with_seen, HaveMet, AreGroupsDone}
use Rattle.board_jobs.specs.Ends.{caller_at, HaveGoneOn, IsEnd}
use Rattle.board_jobs.proofs.Chained.{answered_entries}
use Rattle.board_jobs.proofs.Places.{at_map, elem_at, each_before, each_filter, each_map, set_else, set_here}

pub record Stands (k : Shape) (p : Parts) (a : Account) : Type 0 where
  pub may : MayBe k p a
  pub entries : Each (IsTrueLog k (history_of k p)) (entries_in a)

-- ---- backwards along answers

module _ (k : Shape) (p : Parts) where
  pub stands_answered : (caller : Caller) (a b : Account) (answer : Answer) → IsAnswered k caller a b answer → Stands k p b → Stands k p a
  stands_answered caller a b answer is s = record {
    may = board_before k a b is.grows p s.may;
    entries = each_before (IsTrueLog k (history_of k p)) (entries_in a) (tells caller answer) (subst (Each (IsTrueLog k (history_of k p))) (answered_entries k caller a b answer is) s.entries);
  }

  pub stands_all : (caller : Caller) (answers : List Answer) (a b : Account) → AreAnswered k caller a b answers → Stands k p b → Stands k p a
  stands_all caller [] a b same s = subst (Stands k p) same s
  stands_all caller (answer ∷ answers) a b (between, one, rest) s = stands_answered caller a between answer one (stands_all caller answers between b rest s)

  -- what a job leaves stands, so what it found does
  pub stand_job : (before after : List Account) (one : Done) → JobIsDone k before after one → Each (Stands k p) after → Each (Stands k p) before
  stand_job before after one job all j x there =
      let place : ℕ = place_of k one.dealt.caller in
      let left : Each (Stands k p) (set before place job.new) = subst (Each (Stands k p)) job.after_is all in
      dite (ℕ_discrete j place)
      (λ same. let is : x ≡ job.old = some-injective x job.old (sym there ∙ (ap (get_elem? before) same ∙ job.there)) in
      subst (Stands k p) (sym is) (stands_all one.dealt.caller (answers_of one.answer) job.old job.new job.answered (left place job.new (set_here before place job.new (inside before place job.old job.there)))))
      (λ other. left j x (set_else before place j job.new other ∙ there))

  pub stand_jobs : (done : List Done) (before after : List Account) → AreDone k before after done → Each (Stands k p) after → Each (Stands k p) before
  stand_jobs [] before after same all = subst (Each (Stands k p)) same all
  stand_jobs (one ∷ more) before after (between, job, rest) all = stand_job before between one job (stand_jobs more between after rest all)

  pub stand_met : (before after : List Account) (front : ℕ) → HaveMet before after front → Each (Stands k p) after → Each (Stands k p) before
  stand_met before after front met all j x there =
      let seen : Stands k p (with_seen front x) = subst (Each (Stands k p)) met.after_is all j (with_seen front x) (at_map (with_seen front) before j x there) in
      record { may = board_before k x (with_seen front x) (grows_quiet x (with_seen front x) (met.most j x there) refl (λ i y here. here)) p seen.may; entries = seen.entries }

  pub stand_groups : (files : List (ℕ × List ℕ)) (budget : ℕ) (groups : List Group) (number : ℕ) (before after : List Account) (front : ℕ) (done : List Done)
      → AreGroupsDone k files budget number groups before after front done → Each (Stands k p) after → Each (Stands k p) before
  stand_groups files budget [] number before after front done (same, _, _) all = subst (Each (Stands k p)) same all
  stand_groups files budget (group ∷ groups) number before after front done (middle, met, first, rest, one, more, _) all =
      stand_jobs first before one.between one.jobs (stand_met one.between middle met one.met (stand_groups files budget groups (number + 1) middle after front rest more all))

  -- ---- the end

  pub stand_last : (last : List Account) → IsEnd k p last → Each (Stands k p) last
  stand_last last end j x there = record { may = end.may j x there; entries = each_map (IsTrueLog k (history_of k p)) (λ n. n.entry) (answers_in x.entries) (each_filter (λ n. IsTrueLog k (history_of k p) n.entry) (λ n. is_answer n.entry) x.entries (end.stories j x there).each) }

  pub stand_middle : (middle last : List Account) → HaveGoneOn k middle last → IsEnd k p last → Each (Stands k p) middle
  stand_middle middle last gone end j x there =
      let below = inside middle j x there in
      let (y, at) = elem_at last j (omega (arith, below, gone.count)) in
      let (answers, are) = gone.each j x y there at in
      stands_all (caller_at k j) answers x y are (stand_last last end j y at)
