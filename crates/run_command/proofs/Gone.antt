-- Callers that did the jobs of a group have gone on by answers, and heard of a front.
use Rattle.std.proofs.Common.{◌≡◌, ⊎_elim, ℕ, ◌+◌, ◌<◌, List, [], ◌∷◌, ◌++◌, length, set, refl, sym, ap, subst, ◌∙◌, arith}
use Rattle.std.specs.Prelude.{◌≢◌}
use Rattle.std.proofs.lemmas.List.{length-map, length-set}
use mathlib.Core.Option.{some, some-injective}
use lib.ListN.{get_elem?}
use Rattle.htss_defs.specs.declared.shape.Shape.{Shape}
use Rattle.htss_defs.specs.Shapes.{IsShape}
use Rattle.script_text.specs.declared.script.Group.{Group}
use Rattle.report_text.specs.declared.report.Block.{Block}
use Rattle.report_rules.specs.Answers.{Answer, answers_of}
use Rattle.report_rules.specs.Dealing.{Caller, loader, searcher}
use Rattle.report_rules.specs.Reports.{Done}
use Rattle.board_core.specs.declared.account.Account.{Account}
use Rattle.board_core.proofs.Lists.{inside}
use Rattle.board_jobs.specs.Answering.{AreAnswered}
use Rattle.board_jobs.specs.Groups.{place_of, with_seen, JobIsDone, AreDone, GroupIsDone}
use Rattle.board_jobs.specs.Ends.{caller_at, HaveGoneOn}
use Rattle.board_jobs.proofs.Fits.{IsCaller, one_place, AllFit, all_fit}
use Rattle.board_jobs.proofs.Places.{at_map, at_set, elem_at}
use Rattle.board_jobs.proofs.Printing.{at_place}
use Rattle.run_command.specs.Hearing.{HaveGoneAndHeard}
use Rattle.run_command.specs.Runs.{IsGroupDone}

module _ (k : Shape) where
  pub gone_here : (accounts : List Account) → HaveGoneOn k accounts accounts
  gone_here accounts = record { count = refl; each = λ i a b there at. ([], some-injective b a (sym at ∙ there)) }

  answered_both : (caller : Caller) (xs ys : List Answer) (a b c : Account) → AreAnswered k caller a b xs → AreAnswered k caller b c ys → AreAnswered k caller a c (xs ++ ys)
  answered_both caller [] ys a b c same rest = subst (λ (x : Account). AreAnswered k caller x c ys) same rest
  answered_both caller (x ∷ xs) ys a b c (between, one, more) rest = (between, one, answered_both caller xs ys between b c more rest)

  gone_both : (first middle last : List Account) → HaveGoneOn k first middle → HaveGoneOn k middle last → HaveGoneOn k first last
  gone_both first middle last one two = record {
    count = two.count ∙ one.count;
    each = λ i a c there at.
        let below = inside first i a there in
        let count = one.count in
        let (b, mid) = elem_at middle i (omega (arith, below, count)) in
        let (xs, x) = one.each i a b there mid in
        let (ys, y) = two.each i b c mid at in
        (xs ++ ys, answered_both (caller_at k i) xs ys a b c x y);
  }

  place_within : (caller : Caller) → IsCaller k caller → place_of k caller < k.loaders + k.searchers
  place_within (loader number) (least, most) = omega (arith, least, most)
  place_within (searcher number) (least, most) = omega (arith, least, most)

  -- the caller of a caller's place
  caller_here : (caller : Caller) → IsCaller k caller → caller_at k (place_of k caller) ≡ caller
  caller_here caller is =
      let (fits, place) = at_place k (place_of k caller) (place_within caller is) in
      one_place k (caller_at k (place_of k caller)) caller fits is place

  gone_job : (before after : List Account) (one : Done) → IsCaller k one.dealt.caller → JobIsDone k before after one → HaveGoneOn k before after
  gone_job before after one is job = record {
    count = ap length job.after_is ∙ length-set before (place_of k one.dealt.caller) job.new;
    each = λ i a b there at.
        let put : get_elem? (set before (place_of k one.dealt.caller) job.new) i ≡ some b = subst (λ (l : List Account). get_elem? l i ≡ some b) job.after_is at in
        ⊎_elim
        (λ (t : (i ≡ place_of k one.dealt.caller) × (job.new ≡ b)).
        let old : job.old ≡ a = some-injective job.old a (sym (ap (get_elem? before) t.0 ∙ job.there) ∙ there) in
        let caller : one.dealt.caller ≡ caller_at k i = sym (ap (caller_at k) t.0 ∙ caller_here one.dealt.caller is) in (
          answers_of one.answer,
          subst (λ (c : Caller). AreAnswered k c a b (answers_of one.answer)) caller
              (subst (λ (x : Account). AreAnswered k one.dealt.caller x b (answers_of one.answer)) old
              (subst (λ (y : Account). AreAnswered k one.dealt.caller job.old y (answers_of one.answer)) t.1 job.answered)),
        ))
        (λ (t : (i ≢ place_of k one.dealt.caller) × (get_elem? before i ≡ some b)). ([], some-injective b a (sym t.1 ∙ there)))
        (at_set before (place_of k one.dealt.caller) i job.new b put);
  }

  gone_jobs : (group : ℕ) (done : List Done) (before after : List Account) → AreDone k before after done → AllFit k group done → HaveGoneOn k before after
  gone_jobs group [] before after same fit = subst (HaveGoneOn k before) (sym same) (gone_here before)
  gone_jobs group (one ∷ more) before after (between, job, rest) (first, others) =
      gone_both before between after (gone_job before between one first.is job) (gone_jobs group more between after rest others)

  pub heard_group : (files : List (ℕ × List ℕ)) (budget number : ℕ) (group : Group) (before after : List Account) (front : ℕ) (done : List Done) → IsShape k → GroupIsDone k files budget number group before after front done → HaveGoneAndHeard k before after
  heard_group files budget number group before after front done shape one = record {
    between = one.between;
    gone = gone_jobs number done before one.between one.jobs (all_fit k files budget number shape 0 0 group.jobs done one.dealt_are one.by_files);
    count = ap length one.met.after_is ∙ length-map one.between (with_seen front);
    heard = λ i a b there at.
        let here : get_elem? after i ≡ some (with_seen front a) = ap (λ (l : List Account). get_elem? l i) one.met.after_is ∙ at_map (with_seen front) one.between i a there in
        (front, one.met.most i a there, some-injective b (with_seen front a) (sym at ∙ here));
  }

  -- callers that went on and met nobody
  pub gone_only : (first last : List Account) → HaveGoneOn k first last → HaveGoneAndHeard k first last
  gone_only first last gone = record {
    between = last;
    gone = gone;
    count = refl;
    heard = λ i a b there at. (a.log.seen, omega arith, some-injective b (with_seen a.log.seen a) (sym at ∙ there));
  }

  -- callers that did nothing
  pub heard_nothing : (accounts : List Account) → HaveGoneAndHeard k accounts accounts
  heard_nothing accounts = gone_only accounts accounts (gone_here accounts)

  -- a group that is done, whatever its number
  pub heard_done : (files : List (ℕ × List ℕ)) (budget : ℕ) (group : Group) (before after : List Account) (blocks : List Block) → IsShape k → IsGroupDone k files budget group before after blocks → HaveGoneAndHeard k before after
  heard_done files budget group before after blocks shape is =
      let (front, done, one, same) = is 1 in
      heard_group files budget 1 group before after front done shape one
