-- A worker goes from job to job, and all workers beside each other.
use Rattle.std.proofs.Common.{◌≡◌, ⊎_elim, inl, inr, ℕ, zero, suc, ◌+◌, ◌<◌, ◌≤◌, Result, Ok, Err, is_ok, OnOk, OnErr, MatchBool, Bool, true, false, List, [], ◌∷◌, ◌++◌, map, flat_map, length, drop, set, get_or, All, refl, sym, ap, subst, ◌∙◌, arith, append_assoc, append-nil}
use lib.Dec.{ltb}
use Rattle.std.proofs.lemmas.List.{map-append}
use Rattle.std.proofs.lemmas.List.Elements.{All-nil, All-cons, All-head, All-tail}
use Rattle.htss_defs.specs.declared.shape.Shape.{Shape}
use Rattle.script_text.specs.declared.script.Job.{Job}
use Rattle.script_text.specs.declared.script.Order.{Order}
use Rattle.script_text.specs.declared.script.Order.TheVariants.{Load, Withdraw, Search}
use Rattle.report_text.specs.declared.report.Block.{Block}
use Rattle.report_rules.specs.Answers.{Answer}
use Rattle.report_rules.specs.Dealing.{Caller, loader, searcher, Dealt, dealt_from, caller_in_turn, loads_in, searches_in}
use Rattle.report_rules.specs.Reports.{Done, done_block}
use Rattle.report_rules.specs.Rules.{is_same}
use Rattle.board_core.specs.declared.account.Account.{Account}
use Rattle.board_core.specs.declared.account.Who.{Who}
use Rattle.board.specs.Seated.{Place, Seated, IsLoader, number_in}
use Rattle.board_jobs.proofs.Chained.{answered_both}
use Rattle.board_jobs.specs.Answering.{who_of, AreAnswered}
use Rattle.board_jobs.specs.Jobs.{IsJobDone}
use Rattle.board_jobs.specs.Calls.{IsOrderOf}
use Rattle.script_run.specs.Walking.{Broke, JobBroke, CanWork, DidJobs, DidOwn, DidAll}
use Rattle.script_run.specs.Working.{OwnBroken, OwnDone, StoppedIn}
use Rattle.script_run.proofs.Merges.{counts_few, drop_here}
use Rattle.script_run.proofs.Own.{own_more, own_nothing, own_same, told_by}
use Rattle.script_run.specs.declared.walk.Outcome.{Outcome}

-- what the caller has done of its own, up to the jobs that are left
abbrev pub SoFar : Shape → List (ℕ × List ℕ) → ℕ → List Job → Account → Account → ℕ → ℕ → List Job → List Block → Type 0
SoFar k files budget jobs first a loads searches rest blocks = (number : ℕ) (c : Caller) → who_of c ≡ first.who
    → (past : List Dealt) × (own : List Done) × (past ++ dealt_from k number loads searches rest ≡ dealt_from k number 0 0 jobs)
    × OwnDone k files budget c first a past own × (blocks ≡ map done_block own)

pub so_far_none : (k : Shape) (files : List (ℕ × List ℕ)) (budget : ℕ) (jobs : List Job) (a : Account) (blocks : List Block) → blocks ≡ [] → SoFar k files budget jobs a a 0 0 jobs blocks
so_far_none k files budget jobs a blocks none = λ number c who. ([], [], refl, own_nothing k files budget c a, none)

pub so_far_all : (k : Shape) (files : List (ℕ × List ℕ)) (budget : ℕ) (jobs : List Job) (first a : Account) (loads searches : ℕ) (rest : List Job) (blocks : List Block)
    → rest ≡ [] → SoFar k files budget jobs first a loads searches rest blocks → DidJobs k files budget jobs first a blocks
so_far_all k files budget jobs first a loads searches rest blocks none so = λ number c who.
    let s = so number c who in
    let all : s.0 ≡ dealt_from k number 0 0 jobs = sym (append-nil s.0) ∙ ap (λ (l : List Job). s.0 ++ dealt_from k number loads searches l) (sym none) ∙ s.2 in
    (s.1, subst (λ (l : List Dealt). OwnDone k files budget c first a l s.1) all s.3, s.4)

abbrev dealt_as : Shape → ℕ → ℕ → ℕ → Job → Dealt
dealt_as k number loads searches job = record { group = number; caller = caller_in_turn k loads searches job.order; job = job }

-- one job more has passed
one_passed : (k : Shape) (jobs : List Job) (number loads searches : ℕ) (job : Job) (rest later : List Job) (past : List Dealt) → rest ≡ job ∷ later
    → past ++ dealt_from k number loads searches rest ≡ dealt_from k number 0 0 jobs
    → (past ++ dealt_as k number loads searches job ∷ []) ++ dealt_from k number (loads + loads_in job.order) (searches + searches_in job.order) later ≡ dealt_from k number 0 0 jobs
one_passed k jobs number loads searches job rest later past is left =
    append_assoc past (dealt_as k number loads searches job ∷ []) (dealt_from k number (loads + loads_in job.order) (searches + searches_in job.order) later)
    ∙ ap (λ (l : List Job). past ++ dealt_from k number loads searches l) (sym is) ∙ left

-- a job of its own is done
pub so_far_own : (k : Shape) (files : List (ℕ × List ℕ)) (budget : ℕ) (jobs : List Job) (first a b : Account) (loads searches : ℕ) (job : Job) (rest later : List Job) (blocks : List Block) (block : Block)
    → rest ≡ job ∷ later → a.who ≡ first.who → ((c : Caller) → who_of c ≡ a.who → true ≡ is_same (caller_in_turn k loads searches job.order) c)
    → ((c : Caller) → who_of c ≡ a.who → IsJobDone k files budget c a b job block)
    → SoFar k files budget jobs first a loads searches rest blocks
    → SoFar k files budget jobs first b (loads + loads_in job.order) (searches + searches_in job.order) later (blocks ++ block ∷ [])
so_far_own k files budget jobs first a b loads searches job rest later blocks block is same own done so = λ number c who.
    let s = so number c who in
    let mine = done c (who ∙ sym same) in
    let one : Done = record { dealt = dealt_as k number loads searches job; answer = mine.answer } in (
      s.0 ++ one.dealt ∷ [],
      s.1 ++ one ∷ [],
      one_passed k jobs number loads searches job rest later s.0 is s.2,
      own_more k files budget c first a b s.0 s.1 one (own c (who ∙ sym same)) mine.by_file mine.answered s.3,
      ap (λ (l : List Block). l ++ block ∷ []) s.4 ∙ ap (λ (x : Block). map done_block s.1 ++ x ∷ []) mine.block_is ∙ sym (map-append done_block s.1 (one ∷ [])),
    )

-- another's job is passed over
pub so_far_other : (k : Shape) (files : List (ℕ × List ℕ)) (budget : ℕ) (jobs : List Job) (first a : Account) (loads searches : ℕ) (job : Job) (rest later : List Job) (blocks : List Block)
    → rest ≡ job ∷ later → a.who ≡ first.who → ((c : Caller) → who_of c ≡ a.who → false ≡ is_same (caller_in_turn k loads searches job.order) c)
    → SoFar k files budget jobs first a loads searches rest blocks
    → SoFar k files budget jobs first a (loads + loads_in job.order) (searches + searches_in job.order) later blocks
so_far_other k files budget jobs first a loads searches job rest later blocks is same other so = λ number c who.
    let s = so number c who in
    let one : Dealt = dealt_as k number loads searches job in (
      s.0 ++ one ∷ [],
      s.1,
      one_passed k jobs number loads searches job rest later s.0 is s.2,
      own_same k files budget c first a s.0 one s.1 (other c (who ∙ sym same)) s.3,
      s.4,
    )

-- memory ran out when so much was done
pub broke_here : (k : Shape) (files : List (ℕ × List ℕ)) (budget : ℕ) (jobs : List Job) (first a : Account) (loads searches : ℕ) (rest : List Job) (blocks : List Block)
    → SoFar k files budget jobs first a loads searches rest blocks → Broke k files budget jobs first a
broke_here k files budget jobs first a loads searches rest blocks so = λ number c who.
    let s = so number c who in
    record { past = s.0; later = dealt_from k number loads searches rest; parts = s.2; own = s.1; between = a; did = s.3; stopped = inl refl }

-- or in the next job
broke_next : (k : Shape) (files : List (ℕ × List ℕ)) (budget : ℕ) (jobs : List Job) (first a b : Account) (loads searches : ℕ) (job : Job) (rest later : List Job) (blocks : List Block)
    → rest ≡ job ∷ later → a.who ≡ first.who → ((c : Caller) → who_of c ≡ a.who → true ≡ is_same (caller_in_turn k loads searches job.order) c)
    → JobBroke k files budget a b job → SoFar k files budget jobs first a loads searches rest blocks → Broke k files budget jobs first b
broke_next k files budget jobs first a b loads searches job rest later blocks is same own broke so = λ number c who.
    let s = so number c who in
    let mine = who ∙ sym same in
    let next : List Dealt = dealt_from k number (loads + loads_in job.order) (searches + searches_in job.order) later in
    let stopped : StoppedIn k files budget c a b (dealt_from k number loads searches rest) =
    (dealt_as k number loads searches job, next, ap (λ (l : List Job). dealt_from k number loads searches l) is, own c mine, broke c mine) in
    record { past = s.0; later = dealt_from k number loads searches rest; parts = s.2; own = s.1; between = a; did = s.3; stopped = inr stopped }

-- all was done, or nothing
pub broke_all : (k : Shape) (files : List (ℕ × List ℕ)) (budget : ℕ) (jobs : List Job) (a b : Account) (blocks : List Block) → DidJobs k files budget jobs a b blocks → Broke k files budget jobs a b
broke_all k files budget jobs a b blocks did = λ number c who.
    let d = did number c who in
    record { past = dealt_from k number 0 0 jobs; later = []; parts = append-nil (dealt_from k number 0 0 jobs); own = d.0; between = b; did = d.1; stopped = inl refl }

pub broke_none : (k : Shape) (files : List (ℕ × List ℕ)) (budget : ℕ) (jobs : List Job) (a : Account) (c : Caller) (number : ℕ) → OwnBroken k files budget c a a (dealt_from k number 0 0 jobs)
broke_none k files budget jobs a c number = record { past = []; later = dealt_from k number 0 0 jobs; parts = refl; own = []; between = a; did = own_nothing k files budget c a; stopped = inl refl }

-- what was answered by then
pub broke_answers : (k : Shape) (files : List (ℕ × List ℕ)) (budget : ℕ) (c : Caller) (a b : Account) (jobs : List Dealt) → OwnBroken k files budget c a b jobs → (answers : List Answer) × AreAnswered k c a b answers
broke_answers k files budget c a b jobs broke = ⊎_elim
    (λ (same : b ≡ broke.between). (flat_map told_by broke.own, subst (λ (z : Account). AreAnswered k c a z (flat_map told_by broke.own)) (sym same) broke.did.answered))
    (λ (in_job : StoppedIn k files budget c broke.between b broke.later).
    let more = in_job.4 in
    (flat_map told_by broke.own ++ more.answers, answered_both k c a broke.between b (flat_map told_by broke.own) more.answers broke.did.answered more.answered))
    broke.stopped

-- the counts as they were computed
pub so_far_at : (k : Shape) (files : List (ℕ × List ℕ)) (budget : ℕ) (jobs : List Job) (first a : Account) (l s l' s' : ℕ) (rest : List Job) (blocks blocks' : List Block)
    → l' ≡ l → s' ≡ s → blocks' ≡ blocks → SoFar k files budget jobs first a l s rest blocks → SoFar k files budget jobs first a l' s' rest blocks'
so_far_at k files budget jobs first a l s l' s' rest blocks blocks' e f h so =
    subst (λ (x : List Block). SoFar k files budget jobs first a l' s' rest x) (sym h)
    (subst (λ (n : ℕ). SoFar k files budget jobs first a l' n rest blocks) (sym f) (subst (λ (n : ℕ). SoFar k files budget jobs first a n s rest blocks) (sym e) so))

-- how far a worker has gone in its walk over the jobs
pub record Walked (b : Place) (files : List (ℕ × List ℕ)) (budget : ℕ) (jobs : List Job) (first : Account) (c : Seated) (loads searches i : ℕ) (blocks : List Block) : Type 0 where
  pub can : CanWork b c
  pub who : c.account.who ≡ first.who
  pub few : loads + searches ≤ i
  pub so_far : SoFar b.shape files budget jobs first c.account loads searches (drop i jobs) blocks

pub walked_none : (b : Place) (files : List (ℕ × List ℕ)) (budget : ℕ) (jobs : List Job) (c : Seated) (blocks : List Block) → CanWork b c → blocks ≡ []
    → Walked b files budget jobs c.account c 0 0 0 blocks
walked_none b files budget jobs c blocks can none = record {
  can = can;
  who = refl;
  few = omega arith;
  so_far = so_far_none b.shape files budget jobs c.account blocks none;
}

pub walked_own : (b : Place) (files : List (ℕ × List ℕ)) (budget : ℕ) (jobs : List Job) (first : Account) (c d : Seated) (l s l' s' i : ℕ) (job : Job) (blocks blocks' : List Block) (block : Block) (k : Shape)
    → k ≡ b.shape → i < length jobs → job ≡ get_or jobs i job → ((x : Caller) → who_of x ≡ c.account.who → true ≡ is_same (caller_in_turn k l s job.order) x)
    → CanWork b d → d.account.who ≡ c.account.who → ((x : Caller) → who_of x ≡ c.account.who → IsJobDone b.shape files budget x c.account d.account job block)
    → l' ≡ l + loads_in job.order → s' ≡ s + searches_in job.order → blocks' ≡ blocks ++ block ∷ []
    → Walked b files budget jobs first c l s i blocks → Walked b files budget jobs first d l' s' (i + 1) blocks'
walked_own b files budget jobs first c d l s l' s' i job blocks blocks' block k shape below at own can who done el es eb w = record {
  can = can;
  who = who ∙ w.who;
  few = omega (arith, w.few, el, es, counts_few job.order);
  so_far = so_far_at b.shape files budget jobs first d.account (l + loads_in job.order) (s + searches_in job.order) l' s' (drop (i + 1) jobs) (blocks ++ block ∷ []) blocks' el es eb
      (so_far_own b.shape files budget jobs first c.account d.account l s job (drop i jobs) (drop (i + 1) jobs) blocks block (drop_here jobs i job below at) w.who
      (subst (λ (z : Shape). (x : Caller) → who_of x ≡ c.account.who → true ≡ is_same (caller_in_turn z l s job.order) x) shape own) done w.so_far);
}

pub walked_other : (b : Place) (files : List (ℕ × List ℕ)) (budget : ℕ) (jobs : List Job) (first : Account) (c : Seated) (l s l' s' i : ℕ) (job : Job) (blocks : List Block) (k : Shape)
    → k ≡ b.shape → i < length jobs → job ≡ get_or jobs i job → ((x : Caller) → who_of x ≡ c.account.who → false ≡ is_same (caller_in_turn k l s job.order) x)
    → l' ≡ l + loads_in job.order → s' ≡ s + searches_in job.order
    → Walked b files budget jobs first c l s i blocks → Walked b files budget jobs first c l' s' (i + 1) blocks
walked_other b files budget jobs first c l s l' s' i job blocks k shape below at other el es w = record {
  can = w.can;
  who = w.who;
  few = omega (arith, w.few, el, es, counts_few job.order);
  so_far = so_far_at b.shape files budget jobs first c.account (l + loads_in job.order) (s + searches_in job.order) l' s' (drop (i + 1) jobs) blocks blocks el es refl
      (so_far_other b.shape files budget jobs first c.account l s job (drop i jobs) (drop (i + 1) jobs) blocks (drop_here jobs i job below at) w.who
      (subst (λ (z : Shape). (x : Caller) → who_of x ≡ c.account.who → false ≡ is_same (caller_in_turn z l s job.order) x) shape other) w.so_far);
}

-- memory ran out in a job of its own, or when it was done
pub walked_in : (b : Place) (files : List (ℕ × List ℕ)) (budget : ℕ) (jobs all : List Job) (first : Account) (c d : Seated) (l s i : ℕ) (job : Job) (blocks : List Block) (k : Shape)
    → k ≡ b.shape → i < length jobs → job ≡ get_or jobs i job → ((x : Caller) → who_of x ≡ c.account.who → true ≡ is_same (caller_in_turn k l s job.order) x)
    → JobBroke b.shape files budget c.account d.account job → jobs ≡ all
    → Walked b files budget jobs first c l s i blocks → Broke b.shape files budget all first d.account
walked_in b files budget jobs all first c d l s i job blocks k shape below at own broke is w =
    subst (λ (x : List Job). Broke b.shape files budget x first d.account) is
    (broke_next b.shape files budget jobs first c.account d.account l s job (drop i jobs) (drop (i + 1) jobs) blocks (drop_here jobs i job below at) w.who
    (subst (λ (z : Shape). (x : Caller) → who_of x ≡ c.account.who → true ≡ is_same (caller_in_turn z l s job.order) x) shape own) broke w.so_far)

pub walked_after : (b : Place) (files : List (ℕ × List ℕ)) (budget : ℕ) (jobs all : List Job) (first : Account) (c d : Seated) (l s i : ℕ) (job : Job) (blocks : List Block) (block : Block) (k : Shape)
    → k ≡ b.shape → i < length jobs → job ≡ get_or jobs i job → ((x : Caller) → who_of x ≡ c.account.who → true ≡ is_same (caller_in_turn k l s job.order) x)
    → ((x : Caller) → who_of x ≡ c.account.who → IsJobDone b.shape files budget x c.account d.account job block) → jobs ≡ all
    → Walked b files budget jobs first c l s i blocks → Broke b.shape files budget all first d.account
walked_after b files budget jobs all first c d l s i job blocks block k shape below at own done is w =
    subst (λ (x : List Job). Broke b.shape files budget x first d.account) is
    (broke_here b.shape files budget jobs first d.account (l + loads_in job.order) (s + searches_in job.order) (drop (i + 1) jobs) (blocks ++ block ∷ [])
    (so_far_own b.shape files budget jobs first c.account d.account l s job (drop i jobs) (drop (i + 1) jobs) blocks block (drop_here jobs i job below at) w.who
    (subst (λ (z : Shape). (x : Caller) → who_of x ≡ c.account.who → true ≡ is_same (caller_in_turn z l s job.order) x) shape own) done w.so_far))

pub drop_past : (l : List Job) (i : ℕ) → length l ≤ i → drop i l ≡ []
drop_past [] zero h = refl
drop_past [] (suc i) h = refl
drop_past (x ∷ xs) zero h = absurd (omega arith)
drop_past (x ∷ xs) (suc i) h = drop_past xs i (omega arith)

pub walked_all : (b : Place) (files : List (ℕ × List ℕ)) (budget : ℕ) (jobs all : List Job) (first : Account) (c : Seated) (l s i : ℕ) (blocks : List Block)
    → length jobs ≤ i → jobs ≡ all → Walked b files budget jobs first c l s i blocks → DidJobs b.shape files budget all first c.account blocks
walked_all b files budget jobs all first c l s i blocks past is w =
    subst (λ (x : List Job). DidJobs b.shape files budget x first c.account blocks) is
    (so_far_all b.shape files budget jobs first c.account l s (drop i jobs) blocks (drop_past jobs i past) w.so_far)

-- whether there is a value, and what is known then
pub by_result : {A B : Type 0} (P Q : Type 0) (r : Result A B) (ok : Bool) → ok ≡ is_ok r → OnOk r P → OnErr r Q → MatchBool ok P Q
by_result P Q (Ok a) ok e p q = subst (λ (t : Bool). MatchBool t P Q) (sym e) p
by_result P Q (Err b) ok e p q = subst (λ (t : Bool). MatchBool t P Q) (sym e) q

who_loader : (c : Seated) (n : ℕ) → who_of (loader n) ≡ c.account.who → IsLoader c
who_loader c n e = sym e ∙ ap (λ (w : Who). who_of (loader (number_in w))) e

order_for : (k : Shape) (loads searches : ℕ) (order : Order) (c : Seated) (who : Caller) → who_of who ≡ c.account.who → true ≡ is_same (caller_in_turn k loads searches order) who → IsOrderOf c order
order_for k loads searches (Load file) c (loader n) e same = who_loader c n e
order_for k loads searches (Withdraw number) c (loader n) e same = who_loader c n e
order_for k loads searches (Load file) c (searcher n) e same = absurd cc
order_for k loads searches (Withdraw number) c (searcher n) e same = absurd cc
order_for k loads searches (Search file budget) c who e same = tt

-- what is dealt to a caller is for it
pub order_of : (k : Shape) (loads searches : ℕ) (order : Order) (c : Seated) (who : Caller) → who_of who ≡ c.account.who
    → ((x : Caller) → who_of x ≡ c.account.who → true ≡ is_same (caller_in_turn k loads searches order) x) → IsOrderOf c order
order_of k loads searches order c who e own = order_for k loads searches order c who e (own who e)

-- ---- all workers

pub all_append : (b : Place) (files : List (ℕ × List ℕ)) (budget : ℕ) (jobs : List Job) (cs ds xs ys : List Seated) (os ps : List Outcome)
    → DidAll b files budget jobs cs ds os → DidAll b files budget jobs xs ys ps → DidAll b files budget jobs (cs ++ xs) (ds ++ ys) (os ++ ps)
all_append b files budget jobs [] [] xs ys [] ps f g = g
all_append b files budget jobs (c ∷ cs) (d ∷ ds) xs ys (o ∷ os) ps f g = (f.0, all_append b files budget jobs cs ds xs ys os ps f.1 g)
all_append b files budget jobs [] [] xs ys (o ∷ os) ps f g = absurd f
all_append b files budget jobs [] (d ∷ ds) xs ys [] ps f g = absurd f
all_append b files budget jobs [] (d ∷ ds) xs ys (o ∷ os) ps f g = absurd f
all_append b files budget jobs (c ∷ cs) [] xs ys [] ps f g = absurd f
all_append b files budget jobs (c ∷ cs) [] xs ys (o ∷ os) ps f g = absurd f
all_append b files budget jobs (c ∷ cs) (d ∷ ds) xs ys [] ps f g = absurd f

pub all_apart : (P : Seated → Type 0) (cs ds : List Seated) → All P (cs ++ ds) → All P cs × All P ds
all_apart P [] ds all = (All-nil P, all)
all_apart P (c ∷ cs) ds all =
    let rest = all_apart P cs ds (All-tail P c (cs ++ ds) all) in (All-cons P c cs (All-head P c (cs ++ ds) all) rest.0, rest.1)

module _ {W : Type 0} where
  -- two halves
  pub all_halves : (f : W → Seated) (b : Place) (files : List (ℕ × List ℕ)) (budget : ℕ) (jobs : List Job) (ws xs ys us vs : List W) (os ps : List Outcome)
      → ws ≡ xs ++ us → DidAll b files budget jobs (map f xs) (map f ys) os → DidAll b files budget jobs (map f us) (map f vs) ps
      → DidAll b files budget jobs (map f ws) (map f (ys ++ vs)) (os ++ ps)
  all_halves f b files budget jobs ws xs ys us vs os ps is l r =
      subst (λ (x : List Seated). DidAll b files budget jobs x (map f (ys ++ vs)) (os ++ ps)) (sym (ap (λ (x : List W). map f x) is ∙ map-append f xs us))
      (subst (λ (x : List Seated). DidAll b files budget jobs (map f xs ++ map f us) x (os ++ ps)) (sym (map-append f ys vs))
      (all_append b files budget jobs (map f xs) (map f ys) (map f us) (map f vs) os ps l r))

  -- what holds of all holds of both halves
  pub both_halves : (f : W → Seated) (P : Seated → Type 0) (ws xs us : List W) → ws ≡ xs ++ us → All P (map f ws) → All P (map f xs) × All P (map f us)
  both_halves f P ws xs us is all =
      let those : All P (map f xs ++ map f us) = subst (λ (l : List Seated). All P l) (ap (λ (l : List W). map f l) is ∙ map-append f xs us) all in
      all_apart P (map f xs) (map f us) those

  -- what all have, the first has
  pub first_has : (f : W → Seated) (F : Seated → Type 0) (ws : List W) (v : W) → All F (map f ws) → true ≡ ltb 0 (length ws) → v ≡ get_or ws 0 v → F (f v)
  first_has f F [] v all some is = absurd (let clash : true ≡ false = some in cc)
  first_has f F (x ∷ xs) v all some is = subst (λ (z : W). F (f z)) (sym is) (All-head F (f x) (map f xs) all)

  pub all_one : (f : W → Seated) (b : Place) (files : List (ℕ × List ℕ)) (budget : ℕ) (jobs : List Job) (ws : List W) (os : List Outcome) (v w : W) (o : Outcome)
      → length ws < 2 → length os ≡ length ws → v ≡ get_or ws 0 v → DidOwn b files budget jobs (f v) (f w) o
      → DidAll b files budget jobs (map f ws) (map f (set ws 0 w)) (set os 0 o)
  all_one f b files budget jobs [] [] v w o less same is did = tt
  all_one f b files budget jobs [] (p ∷ ps) v w o less same is did = absurd (omega arith)
  all_one f b files budget jobs (x ∷ []) (p ∷ []) v w o less same is did = (subst (λ (z : W). DidOwn b files budget jobs (f z) (f w) o) is did, tt)
  all_one f b files budget jobs (x ∷ []) [] v w o less same is did = absurd (omega arith)
  all_one f b files budget jobs (x ∷ []) (p ∷ q ∷ qs) v w o less same is did = absurd (omega arith)
  all_one f b files budget jobs (x ∷ y ∷ ys) os v w o less same is did = absurd (omega arith)
