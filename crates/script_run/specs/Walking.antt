-- What a worker does of the jobs of a group, and what all workers do.
use Rattle.std.specs.Prelude.{◌≡◌, ℕ, ◌≤◌, List, [], ◌∷◌, length, map, MatchBool}
use Rattle.htss_defs.specs.declared.shape.Shape.{Shape}
use mathlib.Core.Option.{some}
use lib.ListN.{get_elem?}
use Rattle.script_text.specs.declared.script.Group.{Group}
use Rattle.script_text.specs.declared.script.Job.{Job}
use Rattle.report_text.specs.declared.report.Block.{Block}
use Rattle.report_rules.specs.Dealing.{Caller, dealt_from, dealt_group}
use Rattle.report_rules.specs.Reports.{Done, done_block}
use Rattle.board_core.specs.declared.account.Account.{Account}
use Rattle.board.specs.Seated.{Place, Seated, IsOf}
use Rattle.board_jobs.specs.Answering.{who_of}
use Rattle.board_jobs.specs.Ends.{caller_at}
use Rattle.board_jobs.specs.Jobs.{IsReady, IsJobBroken}
use Rattle.script_run.specs.declared.walk.Outcome.{Outcome}
use Rattle.script_run.specs.Working.{OwnBroken, OwnDone}

-- one of the board's callers, ready for a job
pub record CanWork (b : Place) (c : Seated) : Type 0 where
  pub of : IsOf b c
  pub ready : IsReady c

-- it is a loader or a searcher
pub record IsWorker (b : Place) (c : Seated) : Type 0 where
  pub can : CanWork b c
  pub caller : Caller
  pub who : who_of caller ≡ c.account.who

-- the caller has done its own of these jobs, whatever the group's number, and has these blocks of them
abbrev pub DidJobs : Shape → List (ℕ × List ℕ) → ℕ → List Job → Account → Account → List Block → Type 0
DidJobs k files budget jobs a b blocks = (number : ℕ) (caller : Caller) → who_of caller ≡ a.who
    → (own : List Done) × OwnDone k files budget caller a b (dealt_from k number 0 0 jobs) own
    × (blocks ≡ map done_block own)

-- memory ran out in the job
abbrev pub JobBroke : Shape → List (ℕ × List ℕ) → ℕ → Account → Account → Job → Type 0
JobBroke k files budget a b job = (caller : Caller) → who_of caller ≡ a.who → IsJobBroken k files budget caller a b job

-- memory ran out, when the caller had done its own of the first of these jobs, whatever the group's number
abbrev pub Broke : Shape → List (ℕ × List ℕ) → ℕ → List Job → Account → Account → Type 0
Broke k files budget jobs a b = (number : ℕ) (caller : Caller) → who_of caller ≡ a.who
    → OwnBroken k files budget caller a b (dealt_from k number 0 0 jobs)

-- the caller can go on, and did its own jobs, or ran out of memory
pub record DidOwn (b : Place) (files : List (ℕ × List ℕ)) (budget : ℕ) (jobs : List Job) (c d : Seated)
    (outcome : Outcome) : Type 0 where
  pub can : CanWork b d
  pub who : d.account.who ≡ c.account.who
  pub did : MatchBool outcome.whole (DidJobs b.shape files budget jobs c.account d.account outcome.blocks.items)
      (Broke b.shape files budget jobs c.account d.account)

-- each worker did its own
abbrev pub DidAll : Place → List (ℕ × List ℕ) → ℕ → List Job → List Seated → List Seated → List Outcome → Type 0
DidAll b files budget jobs [] [] [] = Unit {0}
DidAll b files budget jobs (c ∷ cs) (d ∷ ds) (outcome ∷ outcomes) = DidOwn b files budget jobs c d outcome
    × DidAll b files budget jobs cs ds outcomes
DidAll b files budget jobs _ _ _ = ⊥

-- memory ran out in a group, whatever its number: each caller had done its own of the first jobs
pub record GroupIsBroken (k : Shape) (files : List (ℕ × List ℕ)) (budget : ℕ) (group : Group)
    (first last : List Account) : Type 0 where
  pub count : length last ≡ length first
  pub each : (i : ℕ) (a b : Account) → get_elem? first i ≡ some a → get_elem? last i ≡ some b → (number : ℕ)
      → OwnBroken k files budget (caller_at k i) a b (dealt_group k number group)
