-- The places of a worker that its gate is told.
use Rattle.std.specs.Prelude.{◌≡◌, ℕ, List, [], ◌∷◌, ◌++◌, Bool, true, false, MatchBool, Option, flat_map}
use mathlib.Core.Option.{some}
use lib.ListN.{get_elem?}
use Rattle.htss_defs.specs.declared.shape.Shape.{Shape}
use Rattle.script_text.specs.declared.script.Job.{Job}
use Rattle.report_rules.specs.Dealing.{Caller, loader, searcher, Dealt, dealt_from}
use Rattle.board_core.specs.declared.account.Who.{Who}
use Rattle.board_jobs.specs.Answering.{who_of}
use Rattle.board_jobs.specs.Ends.{caller_at}
use Rattle.script_run.specs.declared.gate.Place.{Place}
use Rattle.script_run.specs.declared.gate.Place.TheVariants.{Before, After}
use Rattle.script_run.specs.declared.gate.Worker.{Worker}
use Rattle.script_run.specs.declared.walk.Outcome.{Outcome}
use Rattle.script_run.specs.Passed.{passed_more}
use Rattle.script_run.specs.Working.{own_jobs}

-- where the caller stands before and after its job on a line
abbrev pub before_job : Caller → ℕ → Place
before_job (loader number) line = Before true number line
before_job (searcher number) line = Before false number line

abbrev pub after_job : Caller → ℕ → Place
after_job (loader number) line = After true number line
after_job (searcher number) line = After false number line

abbrev pub around_job : Caller → ℕ → List Place
around_job caller line = before_job caller line ∷ after_job caller line ∷ []

-- before and after each of the caller's own among these jobs, in their order
abbrev pub around_own : Caller → List Dealt → List Place
around_own caller jobs = flat_map (λ job. around_job caller job.job.line) (own_jobs caller jobs)

-- those of a group's jobs. The group's number does not matter
abbrev pub own_places : Shape → List Job → Caller → List Place
own_places k jobs caller = around_own caller (dealt_from k 0 0 0 jobs)

-- what a gate tells afterwards: these places more
abbrev pub HasPassed : Option (List Place) → List Place → Option (List Place) → Type 0
HasPassed before places after = after ≡ passed_more before places

-- a front of these places more
abbrev pub HasPassedFront : Option (List Place) → List Place → Option (List Place) → Type 0
HasPassedFront before places after = (front : List Place) × (rest : List Place) × (front ++ rest ≡ places)
    × HasPassed before front after

-- the gate of the caller with this account has passed the places of its own jobs
abbrev pub PassedOwn : Shape → List Job → Who → Option (List Place) → Option (List Place) → Type 0
PassedOwn k jobs who before after = (caller : Caller) → who_of caller ≡ who
    → HasPassed before (own_places k jobs caller) after

-- or a front of them
abbrev pub PassedFront : Shape → List Job → Who → Option (List Place) → Option (List Place) → Type 0
PassedFront k jobs who before after = (caller : Caller) → who_of caller ≡ who
    → HasPassedFront before (own_places k jobs caller) after

-- all of them where it did all of its jobs
abbrev pub Passed : Shape → List Job → Who → Option (List Place) → Option (List Place) → Bool → Type 0
Passed k jobs who before after whole = MatchBool whole (PassedOwn k jobs who before after)
    (PassedFront k jobs who before after)

-- each worker's gate
abbrev pub AllPassed : {G : Type 0} → (G → Option (List Place)) → Shape → List Job → List (Worker G) → List (Worker G)
    → List Outcome → Type 0
AllPassed tells k jobs [] [] [] = Unit {0}
AllPassed tells k jobs (w ∷ ws) (v ∷ vs) (outcome ∷ outcomes) =
    Passed k jobs w.caller.account.who (tells w.gate) (tells v.gate) outcome.whole
    × AllPassed tells k jobs ws vs outcomes
AllPassed tells k jobs _ _ _ = ⊥

-- the gate of the worker at each place has passed before and after each job that is dealt to this caller
abbrev pub GatesPassed : {G : Type 0} → (G → Option (List Place)) → Shape → List Job → List (Worker G) → List (Worker G)
    → Type 0
GatesPassed {G} tells k jobs ws vs = (i : ℕ) (w v : Worker G) → get_elem? ws i ≡ some w → get_elem? vs i ≡ some v
    → HasPassed (tells w.gate) (own_places k jobs (caller_at k i)) (tells v.gate)

abbrev pub GatesPassedFront : {G : Type 0} → (G → Option (List Place)) → Shape → List Job → List (Worker G)
    → List (Worker G) → Type 0
GatesPassedFront {G} tells k jobs ws vs = (i : ℕ) (w v : Worker G) → get_elem? ws i ≡ some w → get_elem? vs i ≡ some v
    → HasPassedFront (tells w.gate) (own_places k jobs (caller_at k i)) (tells v.gate)
