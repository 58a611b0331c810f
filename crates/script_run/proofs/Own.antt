-- A caller's own jobs among those dealt, done one after the other.
use Rattle.std.proofs.Common.{◌≡◌, ℕ, Bool, true, false, cond, List, [], ◌∷◌, ◌++◌, map, flat_map, All, refl, sym, ap, subst, ◌∙◌, append-nil}
use Rattle.std.proofs.lemmas.List.{map-append}
use Rattle.std.proofs.lemmas.List.Concat.{flat_map-append}
use Rattle.std.proofs.lemmas.List.Elements.{All-nil, All-head, All-tail, All-push, filter-append}
use Rattle.htss_defs.specs.declared.shape.Shape.{Shape}
use Rattle.report_rules.specs.Answers.{Answer, answers_of}
use Rattle.report_rules.specs.Dealing.{Caller, Dealt}
use Rattle.report_rules.specs.Reports.{Done, IsByItsFile}
use Rattle.report_rules.specs.Rules.{is_same}
use Rattle.board_core.specs.declared.account.Account.{Account}
use Rattle.board_jobs.specs.Answering.{AreAnswered}
use Rattle.board_jobs.proofs.Chained.{answered_both}
use Rattle.script_run.specs.Working.{OwnDone, own_jobs}

-- the first of these jobs is the caller's own, or another's
pub own_chosen : (c : Caller) (job : Dealt) (jobs : List Dealt) (own : Bool) → own ≡ is_same job.caller c
    → own_jobs c (job ∷ jobs) ≡ cond own (job ∷ own_jobs c jobs) (own_jobs c jobs)
own_chosen c job jobs own e = ap (λ (t : Bool). cond t (job ∷ own_jobs c jobs) (own_jobs c jobs)) (sym e)

-- one job more is the caller's own, or another's
own_last : (c : Caller) (past : List Dealt) (job : Dealt) (own : Bool) → own ≡ is_same job.caller c
    → own_jobs c (past ++ job ∷ []) ≡ own_jobs c past ++ cond own (job ∷ []) []
own_last c past job own e =
    filter-append (λ (x : Dealt). is_same x.caller c) past (job ∷ [])
    ∙ ap (λ (l : List Dealt). own_jobs c past ++ l) (own_chosen c job [] own e)

-- answers that were given one after the other were given first up to some of them, and then the others
answered_apart : (k : Shape) (c : Caller) (a b : Account) (xs ys : List Answer) → AreAnswered k c a b (xs ++ ys)
    → (between : Account) × AreAnswered k c a between xs × AreAnswered k c between b ys
answered_apart k c a b [] ys f = (a, refl, f)
answered_apart k c a b (x ∷ xs) ys f = let rest = answered_apart k c f.0 b xs ys f.2 in (rest.0, (f.0, f.1, rest.1), rest.2)

abbrev dealt_of : Done → Dealt
dealt_of one = one.dealt

abbrev pub told_by : Done → List Answer
told_by one = answers_of one.answer

module _ (k : Shape) (files : List (ℕ × List ℕ)) (budget : ℕ) (c : Caller) where
  -- ---- one job more

  pub own_nothing : (a : Account) → OwnDone k files budget c a a [] []
  own_nothing a = record { dealt_are = refl; by_files = All-nil (IsByItsFile files budget); answered = refl }

  -- one of its own is done
  pub own_more : (a b d : Account) (past : List Dealt) (own : List Done) (one : Done) → true ≡ is_same one.dealt.caller c → IsByItsFile files budget one
      → AreAnswered k c b d (answers_of one.answer) → OwnDone k files budget c a b past own → OwnDone k files budget c a d (past ++ one.dealt ∷ []) (own ++ one ∷ [])
  own_more a b d past own one mine by_file answered did =
      let last : AreAnswered k c b d (flat_map told_by (one ∷ [])) = subst (λ (l : List Answer). AreAnswered k c b d l) (sym (append-nil (answers_of one.answer))) answered in
      record {
        dealt_are = map-append dealt_of own (one ∷ []) ∙ ap (λ (l : List Dealt). l ++ one.dealt ∷ []) did.dealt_are ∙ sym (own_last c past one.dealt true mine);
        by_files = All-push (IsByItsFile files budget) own one did.by_files by_file;
        answered =
            subst (λ (l : List Answer). AreAnswered k c a d l) (sym (flat_map-append told_by own (one ∷ [])))
            (answered_both k c a b d (flat_map told_by own) (flat_map told_by (one ∷ [])) did.answered last);
      }

  -- another's is passed over
  pub own_same : (a b : Account) (past : List Dealt) (job : Dealt) (own : List Done) → false ≡ is_same job.caller c
      → OwnDone k files budget c a b past own → OwnDone k files budget c a b (past ++ job ∷ []) own
  own_same a b past job own other did = record {
    dealt_are = did.dealt_are ∙ sym (append-nil (own_jobs c past)) ∙ sym (own_last c past job false other);
    by_files = did.by_files;
    answered = did.answered;
  }

  -- ---- what was done of the first job, and of the others

  pub own_none : (a b : Account) (own : List Done) → OwnDone k files budget c a b [] own → (b ≡ a) × (own ≡ [])
  own_none a b [] did = (did.answered, refl)
  own_none a b (one ∷ more) did = let none : one.dealt ∷ map dealt_of more ≡ [] = did.dealt_are in absurd cc

  -- the first was another's
  pub own_passed : (a b : Account) (job : Dealt) (jobs : List Dealt) (own : List Done) → false ≡ is_same job.caller c
      → OwnDone k files budget c a b (job ∷ jobs) own → OwnDone k files budget c a b jobs own
  own_passed a b job jobs own other did = record { dealt_are = did.dealt_are ∙ own_chosen c job jobs false other; by_files = did.by_files; answered = did.answered }

  -- the first was its own
  pub record FirstDone (a b : Account) (job : Dealt) (jobs : List Dealt) (own : List Done) : Type 0 where
    pub one : Done
    pub more : List Done
    pub between : Account
    pub own_is : own ≡ one ∷ more
    pub job_is : one.dealt ≡ job
    pub by_file : IsByItsFile files budget one
    pub answered : AreAnswered k c a between (answers_of one.answer)
    pub rest : OwnDone k files budget c between b jobs more

  first_listed : (own : List Done) (job : Dealt) (jobs : List Dealt) → map dealt_of own ≡ job ∷ jobs
      → (one : Done) × (more : List Done) × (own ≡ one ∷ more) × (one.dealt ≡ job) × (map dealt_of more ≡ jobs)
  first_listed [] job jobs e = absurd cc
  first_listed (one ∷ more) job jobs e = (one, more, refl, (cc), (cc))

  pub own_first : (a b : Account) (job : Dealt) (jobs : List Dealt) (own : List Done) → true ≡ is_same job.caller c
      → OwnDone k files budget c a b (job ∷ jobs) own → FirstDone a b job jobs own
  own_first a b job jobs own mine did =
      let list = first_listed own job (own_jobs c jobs) (did.dealt_are ∙ own_chosen c job jobs true mine) in
      let one : Done = list.0 in
      let more : List Done = list.1 in
      let by_files : All (IsByItsFile files budget) (one ∷ more) = subst (λ (l : List Done). All (IsByItsFile files budget) l) list.2 did.by_files in
      let answered : AreAnswered k c a b (answers_of one.answer ++ flat_map told_by more) = subst (λ (l : List Done). AreAnswered k c a b (flat_map told_by l)) list.2 did.answered in
      let apart = answered_apart k c a b (answers_of one.answer) (flat_map told_by more) answered in
      record {
        one = one;
        more = more;
        between = apart.0;
        own_is = list.2;
        job_is = list.3;
        by_file = All-head (IsByItsFile files budget) one more by_files;
        answered = apart.1;
        rest = record { dealt_are = list.4; by_files = All-tail (IsByItsFile files budget) one more by_files; answered = apart.2 };
      }
