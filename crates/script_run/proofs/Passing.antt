-- A worker's gate is told where it stands, from job to job, and so are the gates of all workers.
use Rattle.std.proofs.Common.{◌≡◌, ℕ, ◌+◌, ◌<◌, ◌≤◌, Bool, true, false, cond, List, [], ◌∷◌, ◌++◌, length, drop, set, get_or, refl, sym, ap, subst, ◌∙◌, arith, append_assoc, append-nil}
use Rattle.std.specs.Prelude.{Option, None, Some, flat_map}
use Rattle.htss_defs.specs.declared.shape.Shape.{Shape}
use Rattle.script_text.specs.declared.script.Job.{Job}
use Rattle.script_text.specs.declared.script.Order.{Order}
use Rattle.report_rules.specs.Dealing.{Caller, Dealt, dealt_from, caller_in_turn, loads_in, searches_in}
use Rattle.report_rules.specs.Rules.{is_same}
use Rattle.board_core.specs.declared.account.Who.{Who}
use Rattle.board_jobs.specs.Answering.{who_of}
use Rattle.script_run.specs.declared.gate.Place.{Place}
use Rattle.script_run.specs.declared.gate.Worker.{Worker}
use Rattle.script_run.specs.declared.walk.Outcome.{Outcome}
use Rattle.script_run.specs.Passed.{passed_more}
use Rattle.script_run.specs.Passing.{before_job, after_job, around_job, around_own, own_places, HasPassed, PassedOwn, PassedFront, Passed, AllPassed}
use Rattle.script_run.proofs.Merges.{drop_here}
use Rattle.script_run.proofs.Own.{own_chosen}
use Rattle.script_run.proofs.Walks.{drop_past}

pub more_none : (before : Option (List Place)) → passed_more before [] ≡ before
more_none None = refl
more_none (Some told) = ap Some (append-nil told)

more_twice : (before : Option (List Place)) (xs ys : List Place) → passed_more (passed_more before xs) ys ≡ passed_more before (xs ++ ys)
more_twice None xs ys = refl
more_twice (Some told) xs ys = ap Some (append_assoc told xs ys)

-- the first of these jobs is the caller's own, or another's
around_chosen : (c : Caller) (job : Dealt) (jobs : List Dealt) (own : Bool) → own ≡ is_same job.caller c
    → around_own c (job ∷ jobs) ≡ cond own (around_job c job.job.line ++ around_own c jobs) (around_own c jobs)
around_chosen c job jobs true e = ap (λ (l : List Dealt). flat_map (λ (x : Dealt). around_job c x.job.line) l) (own_chosen c job jobs true e)
around_chosen c job jobs false e = ap (λ (l : List Dealt). flat_map (λ (x : Dealt). around_job c x.job.line) l) (own_chosen c job jobs false e)

-- the places of the caller's own among the jobs that come after so many
abbrev pub places_left : Shape → ℕ → ℕ → List Job → Caller → List Place
places_left k loads searches rest c = around_own c (dealt_from k 0 loads searches rest)

places_next : (k : Shape) (loads searches : ℕ) (job : Job) (rest later : List Job) (c : Caller) (own : Bool) → rest ≡ job ∷ later → own ≡ is_same (caller_in_turn k loads searches job.order) c
    → places_left k loads searches rest c
    ≡ cond own (around_job c job.line ++ places_left k (loads + loads_in job.order) (searches + searches_in job.order) later c)
    (places_left k (loads + loads_in job.order) (searches + searches_in job.order) later c)
places_next k loads searches job rest later c own is e =
    ap (λ (l : List Job). places_left k loads searches l c) is
    ∙ around_chosen c (record { group = 0; caller = caller_in_turn k loads searches job.order; job = job })
    (dealt_from k 0 (loads + loads_in job.order) (searches + searches_in job.order) later) own e

-- how far the gate has come when so many jobs are left
abbrev pub OnTheWay : Shape → List Job → Who → Option (List Place) → ℕ → ℕ → List Job → Option (List Place) → Type 0
OnTheWay k jobs who before loads searches rest now = (c : Caller) → who_of c ≡ who
    → (front : List Place) × (front ++ places_left k loads searches rest c ≡ own_places k jobs c) × HasPassed before front now

pub way_none : (k : Shape) (jobs : List Job) (who : Who) (before : Option (List Place)) → OnTheWay k jobs who before 0 0 jobs before
way_none k jobs who before = λ c mine. ([], refl, sym (more_none before))

way_at : (k : Shape) (jobs : List Job) (who : Who) (before now : Option (List Place)) (l s l' s' : ℕ) (rest : List Job) → l' ≡ l → s' ≡ s
    → OnTheWay k jobs who before l s rest now → OnTheWay k jobs who before l' s' rest now
way_at k jobs who before now l s l' s' rest e f way =
    subst (λ (n : ℕ). OnTheWay k jobs who before l' n rest now) (sym f) (subst (λ (n : ℕ). OnTheWay k jobs who before n s rest now) (sym e) way)

-- whether the next job is the caller's own, as it was asked
pub own_asked : (k asked : Shape) (l s : ℕ) (order : Order) (who now : Who) (own : Bool) → asked ≡ k → now ≡ who
    → ((c : Caller) → who_of c ≡ now → own ≡ is_same (caller_in_turn asked l s order) c) → (c : Caller) → who_of c ≡ who → own ≡ is_same (caller_in_turn k l s order) c
own_asked k asked l s order who now own shape same f = λ c mine. f c (mine ∙ sym same) ∙ ap (λ (z : Shape). is_same (caller_in_turn z l s order) c) shape

-- it was told of a job of its own
pub way_own : (k : Shape) (jobs : List Job) (who : Who) (before now next : Option (List Place)) (l s l' s' i : ℕ) (job : Job) → i < length jobs → job ≡ get_or jobs i job
    → ((c : Caller) → who_of c ≡ who → true ≡ is_same (caller_in_turn k l s job.order) c) → ((c : Caller) → who_of c ≡ who → HasPassed now (around_job c job.line) next)
    → l' ≡ l + loads_in job.order → s' ≡ s + searches_in job.order
    → OnTheWay k jobs who before l s (drop i jobs) now → OnTheWay k jobs who before l' s' (drop (i + 1) jobs) next
way_own k jobs who before now next l s l' s' i job below at own told el es way =
    way_at k jobs who before next (l + loads_in job.order) (s + searches_in job.order) l' s' (drop (i + 1) jobs) el es
    (λ c mine.
    let w = way c mine in
    let around : List Place = around_job c job.line in (
      w.0 ++ around,
      append_assoc w.0 around (places_left k (l + loads_in job.order) (s + searches_in job.order) (drop (i + 1) jobs) c)
          ∙ ap (λ (x : List Place). w.0 ++ x) (sym (places_next k l s job (drop i jobs) (drop (i + 1) jobs) c true (drop_here jobs i job below at) (own c mine)))
          ∙ w.1,
      told c mine ∙ ap (λ (x : Option (List Place)). passed_more x around) w.2 ∙ more_twice before w.0 around,
    ))

-- another's job was passed over
pub way_other : (k : Shape) (jobs : List Job) (who : Who) (before now : Option (List Place)) (l s l' s' i : ℕ) (job : Job) → i < length jobs → job ≡ get_or jobs i job
    → ((c : Caller) → who_of c ≡ who → false ≡ is_same (caller_in_turn k l s job.order) c) → l' ≡ l + loads_in job.order → s' ≡ s + searches_in job.order
    → OnTheWay k jobs who before l s (drop i jobs) now → OnTheWay k jobs who before l' s' (drop (i + 1) jobs) now
way_other k jobs who before now l s l' s' i job below at other el es way =
    way_at k jobs who before now (l + loads_in job.order) (s + searches_in job.order) l' s' (drop (i + 1) jobs) el es
    (λ c mine.
    let w = way c mine in (
      w.0,
      ap (λ (x : List Place). w.0 ++ x) (sym (places_next k l s job (drop i jobs) (drop (i + 1) jobs) c false (drop_here jobs i job below at) (other c mine))) ∙ w.1,
      w.2,
    ))

-- it was told of all
pub way_all : (k : Shape) (jobs all : List Job) (who : Who) (before now : Option (List Place)) (l s i : ℕ) → length jobs ≤ i → jobs ≡ all
    → OnTheWay k jobs who before l s (drop i jobs) now → PassedOwn k all who before now
way_all k jobs all who before now l s i past is way =
    subst (λ (x : List Job). PassedOwn k x who before now) is
    (λ c mine.
    let w = way c mine in
    w.2 ∙ ap (λ (x : List Place). passed_more before x)
    (sym (append-nil w.0) ∙ ap (λ (x : List Job). w.0 ++ places_left k l s x c) (sym (drop_past jobs i past)) ∙ w.1))

-- it was told of some
way_some : (k : Shape) (jobs all : List Job) (who : Who) (before now : Option (List Place)) (l s : ℕ) (rest : List Job) → jobs ≡ all
    → OnTheWay k jobs who before l s rest now → PassedFront k all who before now
way_some k jobs all who before now l s rest is way =
    subst (λ (x : List Job). PassedFront k x who before now) is (λ c mine. let w = way c mine in (w.0, places_left k l s rest c, w.1, w.2))

-- the job that came next was done, and then memory ran out
pub way_after : (k : Shape) (jobs all : List Job) (who : Who) (before now next : Option (List Place)) (l s i : ℕ) (job : Job) → i < length jobs → job ≡ get_or jobs i job → jobs ≡ all
    → ((c : Caller) → who_of c ≡ who → true ≡ is_same (caller_in_turn k l s job.order) c) → ((c : Caller) → who_of c ≡ who → HasPassed now (around_job c job.line) next)
    → OnTheWay k jobs who before l s (drop i jobs) now → PassedFront k all who before next
way_after k jobs all who before now next l s i job below at is own told way =
    let m : ℕ = l + loads_in job.order in
    let n : ℕ = s + searches_in job.order in
    way_some k jobs all who before next m n (drop (i + 1) jobs) is (way_own k jobs who before now next l s m n i job below at own told refl refl way)

-- memory ran out in the job that came next
pub way_stopped : (k : Shape) (jobs all : List Job) (who : Who) (before now next : Option (List Place)) (l s i : ℕ) (job : Job) → i < length jobs → job ≡ get_or jobs i job → jobs ≡ all
    → ((c : Caller) → who_of c ≡ who → true ≡ is_same (caller_in_turn k l s job.order) c) → ((c : Caller) → who_of c ≡ who → HasPassed now (before_job c job.line ∷ []) next)
    → OnTheWay k jobs who before l s (drop i jobs) now → PassedFront k all who before next
way_stopped k jobs all who before now next l s i job below at is own told way =
    subst (λ (x : List Job). PassedFront k x who before next) is
    (λ c mine.
    let w = way c mine in
    let one : List Place = before_job c job.line ∷ [] in
    let left : List Place = after_job c job.line ∷ places_left k (l + loads_in job.order) (s + searches_in job.order) (drop (i + 1) jobs) c in (
      w.0 ++ one,
      left,
      append_assoc w.0 one left
          ∙ ap (λ (x : List Place). w.0 ++ x) (sym (places_next k l s job (drop i jobs) (drop (i + 1) jobs) c true (drop_here jobs i job below at) (own c mine)))
          ∙ w.1,
      told c mine ∙ ap (λ (x : Option (List Place)). passed_more x one) w.2 ∙ more_twice before w.0 one,
    ))

-- ---- all workers

module _ {G : Type 0} (tells : G → Option (List Place)) where
  passed_append : (k : Shape) (jobs : List Job) (ws vs xs ys : List (Worker G)) (os ps : List Outcome)
      → AllPassed tells k jobs ws vs os → AllPassed tells k jobs xs ys ps → AllPassed tells k jobs (ws ++ xs) (vs ++ ys) (os ++ ps)
  passed_append k jobs [] [] xs ys [] ps f g = g
  passed_append k jobs (w ∷ ws) (v ∷ vs) xs ys (o ∷ os) ps f g = (f.0, passed_append k jobs ws vs xs ys os ps f.1 g)
  passed_append k jobs [] [] xs ys (o ∷ os) ps f g = absurd f
  passed_append k jobs [] (v ∷ vs) xs ys [] ps f g = absurd f
  passed_append k jobs [] (v ∷ vs) xs ys (o ∷ os) ps f g = absurd f
  passed_append k jobs (w ∷ ws) [] xs ys [] ps f g = absurd f
  passed_append k jobs (w ∷ ws) [] xs ys (o ∷ os) ps f g = absurd f
  passed_append k jobs (w ∷ ws) (v ∷ vs) xs ys [] ps f g = absurd f

  -- two halves
  pub passed_halves : (k : Shape) (jobs : List Job) (ws xs ys us vs : List (Worker G)) (os ps : List Outcome)
      → ws ≡ xs ++ us → AllPassed tells k jobs xs ys os → AllPassed tells k jobs us vs ps → AllPassed tells k jobs ws (ys ++ vs) (os ++ ps)
  passed_halves k jobs ws xs ys us vs os ps is l r =
      subst (λ (x : List (Worker G)). AllPassed tells k jobs x (ys ++ vs) (os ++ ps)) (sym is) (passed_append k jobs xs ys us vs os ps l r)

  pub passed_one : (k : Shape) (jobs : List Job) (ws : List (Worker G)) (os : List Outcome) (v w : Worker G) (o : Outcome)
      → length ws < 2 → length os ≡ length ws → v ≡ get_or ws 0 v → Passed k jobs v.caller.account.who (tells v.gate) (tells w.gate) o.whole
      → AllPassed tells k jobs ws (set ws 0 w) (set os 0 o)
  passed_one k jobs [] [] v w o less same is did = tt
  passed_one k jobs [] (p ∷ ps) v w o less same is did = absurd (omega arith)
  passed_one k jobs (x ∷ []) (p ∷ []) v w o less same is did =
      (subst (λ (z : Worker G). Passed k jobs z.caller.account.who (tells z.gate) (tells w.gate) o.whole) is did, tt)
  passed_one k jobs (x ∷ []) [] v w o less same is did = absurd (omega arith)
  passed_one k jobs (x ∷ []) (p ∷ q ∷ qs) v w o less same is did = absurd (omega arith)
  passed_one k jobs (x ∷ y ∷ ys) os v w o less same is did = absurd (omega arith)
