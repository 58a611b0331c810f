-- How many insertions the jobs of groups begin: no more than the accepted records have atoms.
use Rattle.std.proofs.Common.{◌≡◌, ℕ, zero, suc, ◌+◌, ◌-◌, ◌<◌, ◌≤◌, cond, List, [], ◌∷◌, ◌++◌, length, map, set, refl, sym, ap, subst, ◌∙◌, arith, lt_of_not-le, lt-ltb}
use Rattle.std.specs.Prelude.{sum_by}
use Rattle.std.specs.List.{flat_map}
use Rattle.std.proofs.lemmas.Bool.{le-ltb}
use Rattle.std.proofs.lemmas.Grind.{flat_map-append}
use Rattle.std.proofs.lemmas.List.Concat.{flat_map-cons}
use Rattle.std.proofs.lemmas.List.Sums.{sum_by-append, sum_by-cons}
use mathlib.Core.Option.{some}
use mathlib.Core.Logic.{dite}
use native.Mathlib.Decide.{dec_le}
use lib.ListN.{get_elem?}
use Rattle.htss_defs.specs.declared.shape.Shape.{Shape}
use Rattle.script_text.specs.declared.script.Group.{Group}
use Rattle.report_rules.specs.Answers.{Answer, answers_of}
use Rattle.report_rules.specs.Dealing.{Caller}
use Rattle.report_rules.specs.Reports.{Done, done_lines}
use Rattle.report_rules.specs.Rules.{Line}
use Rattle.board_core.specs.declared.account.Account.{Account}
use Rattle.board_core.specs.declared.account.Who.TheVariants.{Loader, Searcher}
use Rattle.board_core.specs.Each.{sum_of}
use Rattle.board_core.specs.Accounts.{caller_after, is_loader}
use Rattle.board_core.specs.CountRule.{insertions_of}
use Rattle.board_core.proofs.Lists.{sum_set, sum_zero}
use Rattle.board.specs.Closed.{begun_in}
use Rattle.board_jobs.specs.Answering.{AreAnswered}
use Rattle.board_jobs.specs.Begun.{atoms_taken, atoms_loaded}
use Rattle.board_jobs.specs.Groups.{place_of, with_seen, AreDone, HaveMet, AreGroupsDone, AreNew}

-- ---- the atoms of lines

abbrev atoms_told : Line → ℕ
atoms_told line = atoms_taken line.answer

atoms_both : (xs ys : List Line) → atoms_loaded (xs ++ ys) ≡ atoms_loaded xs + atoms_loaded ys
atoms_both xs ys = sum_by-append atoms_told xs ys

-- of the lines of one job
atoms_answered : (group : ℕ) (caller : Caller) (answers : List Answer) → atoms_loaded (map (λ answer. record { group = group; caller = caller; answer = answer }) answers) ≡ sum_by atoms_taken answers
atoms_answered group caller [] = refl
atoms_answered group caller (answer ∷ answers) =
    let line : Line = record { group = group; caller = caller; answer = answer } in
    let lines : List Line = map (λ other. record { group = group; caller = caller; answer = other }) answers in
    sum_by-cons atoms_told line lines ∙ ap (λ n. atoms_taken answer + n) (atoms_answered group caller answers) ∙ sym (sum_by-cons atoms_taken answer answers)

-- ---- what is begun

-- by one caller
begun_answers : (k : Shape) (caller : Caller) (answers : List Answer) (a b : Account) → AreAnswered k caller a b answers → insertions_of b ≤ insertions_of a + sum_by atoms_taken answers
begun_answers k caller [] a b same = let is : insertions_of b ≡ insertions_of a = ap insertions_of same in omega (arith, is)
begun_answers k caller (answer ∷ answers) a b (between, one, rest) =
    let here = one.begun in
    let later = begun_answers k caller answers between b rest in
    let sum = sum_by-cons atoms_taken answer answers in omega (arith, here, later, sum)

module _ (k : Shape) where
  -- in the jobs of a group
  pub begun_jobs : (done : List Done) (before after : List Account) → AreDone k before after done → begun_in after ≤ begun_in before + atoms_loaded (flat_map done_lines done)
  begun_jobs [] before after same = let is : begun_in after ≡ begun_in before = ap begun_in same in omega (arith, is)
  begun_jobs (one ∷ more) before after (between, job, rest) =
      let place : ℕ = place_of k one.dealt.caller in
      let changed = sum_set insertions_of before place job.old job.new job.there in
      let is : begun_in between ≡ begun_in (set before place job.new) = ap begun_in job.after_is in
      let new = begun_answers k one.dealt.caller (answers_of one.answer) job.old job.new job.answered in
      let later = begun_jobs more between after rest in
      let lines : atoms_loaded (flat_map done_lines (one ∷ more)) ≡ atoms_loaded (done_lines one) + atoms_loaded (flat_map done_lines more) =
      ap atoms_loaded (flat_map-cons done_lines one more) ∙ atoms_both (done_lines one) (flat_map done_lines more) in
      let own : atoms_loaded (done_lines one) ≡ sum_by atoms_taken (answers_of one.answer) = atoms_answered one.dealt.group one.dealt.caller (answers_of one.answer) in
      omega (arith, changed, is, new, later, lines, own)

begun_seen : (front : ℕ) (accounts : List Account) → begun_in (map (with_seen front) accounts) ≡ begun_in accounts
begun_seen front [] = refl
begun_seen front (a ∷ accounts) = ap (λ n. insertions_of a + n) (begun_seen front accounts)

module _ (k : Shape) (files : List (ℕ × List ℕ)) (budget : ℕ) where
  -- in all groups
  begun_groups : (groups : List Group) (number : ℕ) (before after : List Account) (front : ℕ) (done : List Done) → AreGroupsDone k files budget number groups before after front done → begun_in after ≤ begun_in before + atoms_loaded (flat_map done_lines done)
  begun_groups [] number before after front done (same, none, _) = let is : begun_in after ≡ begun_in before = ap begun_in same in omega (arith, is)
  begun_groups (group ∷ groups) number before after front done (middle, met, first, rest, one, more, parts) =
      let mine = begun_jobs k first before one.between one.jobs in
      let still : begun_in middle ≡ begun_in one.between = ap begun_in one.met.after_is ∙ begun_seen met one.between in
      let later = begun_groups groups (number + 1) middle after front rest more in
      let lines : atoms_loaded (flat_map done_lines done) ≡ atoms_loaded (flat_map done_lines first) + atoms_loaded (flat_map done_lines rest) =
      ap (λ (d : List Done). atoms_loaded (flat_map done_lines d)) parts ∙ ap atoms_loaded (flat_map-append done_lines first rest) ∙ atoms_both (flat_map done_lines first) (flat_map done_lines rest) in
      omega (arith, mine, still, later, lines)

  -- on a new board
  pub few_begun : (groups : List Group) (before after : List Account) (front : ℕ) (done : List Done) → AreNew k before → AreGroupsDone k files budget 1 groups before after front done → begun_in after ≤ atoms_loaded (flat_map done_lines done)
  few_begun groups before after front done new are =
      let none : begun_in before ≡ 0 = sum_zero insertions_of before (λ i a there. ap insertions_of (new.1 i a there)) in
      let more = begun_groups groups 1 before after front done are in omega (arith, none, more)

-- ---- all loaders are there

is_one : (k : Shape) (i : ℕ) → i < k.loaders → is_loader (caller_after k i) ≡ 1
is_one k i before = subst (λ b. is_loader (cond b (Loader (i + 1)) (Searcher (i + 1 - k.loaders))) ≡ 1) (sym (lt-ltb i k.loaders before)) refl

is_none : (k : Shape) (i : ℕ) → k.loaders ≤ i → is_loader (caller_after k i) ≡ 0
is_none k i past = subst (λ b. is_loader (cond b (Loader (i + 1)) (Searcher (i + 1 - k.loaders))) ≡ 0) (sym (le-ltb i k.loaders past)) refl

-- from this place on
loaders_from : (k : Shape) (first : ℕ) (accounts : List Account) → ((i : ℕ) (a : Account) → get_elem? accounts i ≡ some a → a.who ≡ caller_after k (first + i))
    → sum_of (λ a. is_loader a.who) accounts ≡ (k.loaders - first) - (k.loaders - (first + length accounts))
loaders_from k first [] are = omega arith
loaders_from k first (a ∷ accounts) are =
    let start : first + 0 ≡ first = omega arith in
    let here : is_loader a.who ≡ is_loader (caller_after k first) = ap is_loader (are zero a refl) ∙ ap (λ n. is_loader (caller_after k n)) start in
    let rest = loaders_from k (first + 1) accounts (λ i b there. let next : first + suc i ≡ first + 1 + i = omega arith in are (suc i) b there ∙ ap (caller_after k) next) in
    dite (dec_le k.loaders first)
    (λ past. let none = is_none k first past in omega (arith, here, rest, none, past))
    (λ not_past. let before : first < k.loaders = lt_of_not-le not_past in let one = is_one k first before in omega (arith, here, rest, one, before))

pub all_loaders : (k : Shape) (accounts : List Account) → length accounts ≡ k.loaders + k.searchers → ((i : ℕ) (a : Account) → get_elem? accounts i ≡ some a → a.who ≡ caller_after k i) → sum_of (λ a. is_loader a.who) accounts ≡ k.loaders
all_loaders k accounts count are = let all = loaders_from k 0 accounts (λ i a there. let same : i ≡ 0 + i = omega arith in are i a there ∙ ap (caller_after k) same) in omega (arith, all, count)
