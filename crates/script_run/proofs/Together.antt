-- The own jobs of each caller, done beside each other, are the jobs of the group, done in their order.
use Rattle.std.proofs.Common.{◌≡◌, ◌≢◌, ⊎_elim, ℕ, zero, suc, Bool, true, false, List, [], ◌∷◌, length, set, get_or, map, All, refl, sym, ap, subst, ◌∙◌, arith}
use Rattle.std.proofs.lemmas.List.Elements.{All-nil, All-cons, All-head, All-tail}
use mathlib.Core.Option.{some}
use lib.ListN.{get_elem?, length-set}
use Rattle.atomic_table.proofs.Lists.{at_set}
use Rattle.htss_defs.specs.declared.shape.Shape.{Shape}
use Rattle.report_rules.specs.Answers.{answers_of}
use Rattle.report_rules.specs.Dealing.{Caller, Dealt}
use Rattle.report_rules.specs.Reports.{Done, IsByItsFile}
use Rattle.report_rules.specs.Rules.{is_same}
use Rattle.board_core.specs.declared.account.Account.{Account}
use Rattle.board_core.proofs.Lists.{inside}
use Rattle.board_jobs.specs.Answering.{AreAnswered}
use Rattle.board_jobs.specs.Ends.{caller_at}
use Rattle.board_jobs.specs.Groups.{place_of, AreDone}
use Rattle.script_run.specs.Merging.{IsMerged, places_of}
use Rattle.script_run.specs.Working.{OwnDone}
use Rattle.script_run.proofs.Own.{FirstDone, own_first, own_none, own_passed}
use Rattle.script_run.proofs.Queues.{items_first}
use Rattle.script_run.proofs.Places.{IsSeat, agree, one_there, or_there, place_at, same_caller, same_itself, there}

-- each caller has done its own of these jobs, as the list at its place tells
pub record AreOwn (k : Shape) (files : List (ℕ × List ℕ)) (budget : ℕ) (jobs : List Dealt) (before after : List Account) (owns : List (List Done)) : Type 0 where
  pub count : length after ≡ length before
  pub lists : length owns ≡ length before
  pub each : (i : ℕ) (a b : Account) (own : List Done) → get_elem? before i ≡ some a → get_elem? after i ≡ some b → get_elem? owns i ≡ some own
      → OwnDone k files budget (caller_at k i) a b jobs own

-- the jobs are done in their order, and each worker's list tells its part
pub record AreTogether (k : Shape) (files : List (ℕ × List ℕ)) (budget : ℕ) (jobs : List Dealt) (before after : List Account) (owns : List (List Done)) : Type 0 where
  pub done : List Done
  pub dealt_are : map (λ one. one.dealt) done ≡ jobs
  pub by_files : All (IsByItsFile files budget) done
  pub are_done : AreDone k before after done
  pub merged : IsMerged (places_of k jobs) owns done

-- none of these lists has anything
all_empty : (owns : List (List Done)) → ((i : ℕ) (own : List Done) → get_elem? owns i ≡ some own → own ≡ []) → (p : ℕ) → [] ≡ get_or owns p []
all_empty [] each p = refl
all_empty (own ∷ owns) each zero = sym (each 0 own refl)
all_empty (own ∷ owns) each (suc p) = all_empty owns (λ i. each (suc i)) p

not_same : (b : Bool) → (b ≡ true → ⊥) → false ≡ b
not_same true other = absurd (other refl)
not_same false other = refl

-- the rest of the jobs, after one that is the own of the caller at this place
own_rest : (k : Shape) (files : List (ℕ × List ℕ)) (budget : ℕ) (job : Dealt) (jobs : List Dealt) (before after : List Account) (owns : List (List Done)) (b between : Account) (more : List Done)
    → AreOwn k files budget (job ∷ jobs) before after owns → get_elem? after (place_of k job.caller) ≡ some b
    → OwnDone k files budget (caller_at k (place_of k job.caller)) between b jobs more
    → AreOwn k files budget jobs (set before (place_of k job.caller) between) after (set owns (place_of k job.caller) more)
own_rest k files budget job jobs before after owns b between more all last rest =
    let p : ℕ = place_of k job.caller in record {
      count = all.count ∙ sym (length-set before p between);
      lists = length-set owns p more ∙ all.lists ∙ sym (length-set before p between);
      each = λ i a' b' own' ea eb eo.
          let Goal : Type 0 = OwnDone k files budget (caller_at k i) a' b' jobs own' in
          ⊎_elim
          (λ (t : (i ≡ p) × (between ≡ a')). ⊎_elim
          (λ (u : (i ≡ p) × (more ≡ own')).
          let is : b ≡ b' = one_there after p b b' last (subst (λ (n : ℕ). get_elem? after n ≡ some b') t.0 eb) in
          subst (λ (n : ℕ). OwnDone k files budget (caller_at k n) a' b' jobs own') (sym t.0)
          (subst (λ (x : Account). OwnDone k files budget (caller_at k p) x b' jobs own') t.1
          (subst (λ (x : Account). OwnDone k files budget (caller_at k p) between x jobs own') is
          (subst (λ (x : List Done). OwnDone k files budget (caller_at k p) between b jobs x) u.1 rest))))
          (λ (u : (i ≢ p) × (get_elem? owns i ≡ some own')). absurd (u.0 t.0))
          (at_set owns p i more own' eo))
          (λ (t : (i ≢ p) × (get_elem? before i ≡ some a')). ⊎_elim
          (λ (u : (i ≡ p) × (more ≡ own')). absurd (t.0 u.0))
          (λ (u : (i ≢ p) × (get_elem? owns i ≡ some own')).
          own_passed k files budget (caller_at k i) a' b' job jobs own'
          (not_same (is_same job.caller (caller_at k i)) (λ same. t.0 (sym (place_at k i) ∙ ap (λ (c : Caller). place_of k c) (sym (same_caller job.caller (caller_at k i) same)))))
          (all.each i a' b' own' t.1 eb u.1))
          (at_set owns p i more own' eo))
          (at_set before p i between a' ea);
    }

-- the other jobs have their seats among as many accounts
seats_left : (k : Shape) (job : Dealt) (jobs : List Dealt) (before : List Account) (p : ℕ) (between : Account) → All (λ (j : Dealt). IsSeat k (length before) j.caller) (job ∷ jobs)
    → All (λ (j : Dealt). IsSeat k (length (set before p between)) j.caller) jobs
seats_left k job jobs before p between seats =
    subst (λ (n : ℕ). All (λ (j : Dealt). IsSeat k n j.caller) jobs) (sym (length-set before p between)) (All-tail (λ (j : Dealt). IsSeat k (length before) j.caller) job jobs seats)

-- a job is done, and then the rest
together_step : (k : Shape) (files : List (ℕ × List ℕ)) (budget : ℕ) (job : Dealt) (jobs : List Dealt) (before after : List Account) (owns : List (List Done)) (old b : Account) (own : List Done)
    → IsSeat k (length before) job.caller → get_elem? before (place_of k job.caller) ≡ some old → get_elem? owns (place_of k job.caller) ≡ some own
    → (step : FirstDone k files budget (caller_at k (place_of k job.caller)) old b job jobs own)
    → AreTogether k files budget jobs (set before (place_of k job.caller) step.between) after (set owns (place_of k job.caller) step.more)
    → AreTogether k files budget (job ∷ jobs) before after owns
together_step k files budget job jobs before after owns old b own seat here list step rest =
    let p : ℕ = place_of k job.caller in
    let one : Done = step.one in
    let listed : get_or owns p [] ≡ one ∷ step.more = or_there owns p own [] list ∙ step.own_is in
    let answered : AreAnswered k one.dealt.caller old step.between (answers_of one.answer) =
    subst (λ (c : Caller). AreAnswered k c old step.between (answers_of one.answer)) (seat.at ∙ ap (λ (j : Dealt). j.caller) (sym step.job_is)) step.answered in
    let at : place_of k one.dealt.caller ≡ p = ap (λ (j : Dealt). place_of k j.caller) step.job_is in
    record {
      done = one ∷ rest.done;
      dealt_are = λ i. step.job_is i ∷ rest.dealt_are i;
      by_files = All-cons (IsByItsFile files budget) one rest.done step.by_file rest.by_files;
      are_done = (
        set before p step.between,
        record {
          old = old;
          new = step.between;
          there = ap (λ (n : ℕ). get_elem? before n) at ∙ here;
          answered = answered;
          after_is = ap (λ (n : ℕ). set before n step.between) (sym at);
        },
        rest.are_done,
      );
      merged = record { count = ap suc rest.merged.count; each = items_first p (places_of k jobs) owns one step.more rest.done listed rest.merged.each };
    }

pub together : (k : Shape) (files : List (ℕ × List ℕ)) (budget : ℕ) (jobs : List Dealt) (before after : List Account) (owns : List (List Done))
    → All (λ (job : Dealt). IsSeat k (length before) job.caller) jobs → AreOwn k files budget jobs before after owns → AreTogether k files budget jobs before after owns
together k files budget [] before after owns seats all = record {
  done = [];
  dealt_are = refl;
  by_files = All-nil (IsByItsFile files budget);
  are_done = agree after before all.count (λ i b a eb ea.
      let o = there owns i (omega (arith, all.lists, inside before i a ea)) in (own_none k files budget (caller_at k i) a b o.0 (all.each i a b o.0 ea eb o.1)).0);
  merged = record {
    count = refl;
    each = all_empty owns (λ i own eo.
        let a = there before i (omega (arith, all.lists, inside owns i own eo)) in
        let b = there after i (omega (arith, all.lists, all.count, inside owns i own eo)) in
        (own_none k files budget (caller_at k i) a.0 b.0 own (all.each i a.0 b.0 own a.1 b.1 eo)).1);
  };
}
together k files budget (job ∷ jobs) before after owns seats all =
    let p : ℕ = place_of k job.caller in
    let seat : IsSeat k (length before) job.caller = All-head (λ (j : Dealt). IsSeat k (length before) j.caller) job jobs seats in
    let old = there before p seat.within in
    let last = there after p (omega (arith, seat.within, all.count)) in
    let own = there owns p (omega (arith, seat.within, all.lists)) in
    let mine : is_same job.caller (caller_at k p) ≡ true = subst (λ (c : Caller). is_same job.caller c ≡ true) (sym seat.at) (same_itself job.caller) in
    let step = own_first k files budget (caller_at k p) old.0 last.0 job jobs own.0 (sym mine) (all.each p old.0 last.0 own.0 old.1 last.1 own.1) in
    together_step k files budget job jobs before after owns old.0 last.0 own.0 seat old.1 own.1 step
    (together k files budget jobs (set before p step.between) after (set owns p step.more)
    (seats_left k job jobs before p step.between seats)
    (own_rest k files budget job jobs before after owns last.0 step.between step.more all last.1 step.rest))
