-- What workers need, and what each does of the jobs of a group.
use Rattle.std.specs.Prelude.{◌≡◌, ◌⊎◌, ℕ, ◌+◌, ◌≤◌, List, ◌∷◌, ◌++◌, length, true, map, filter, flat_map, All}
use mathlib.Core.Option.{some}
use lib.ListN.{get_elem?}
use Rattle.htss_defs.specs.declared.shape.Shape.{Shape}
use Rattle.report_rules.specs.Answers.{answers_of}
use Rattle.report_rules.specs.Dealing.{Caller, Dealt}
use Rattle.report_rules.specs.Rules.{is_same}
use Rattle.report_rules.specs.Reports.{Done, IsByItsFile}
use Rattle.board_core.specs.declared.account.Account.{Account}
use Rattle.board_core.specs.Accounts.{caller_after}
use Rattle.board.specs.Seated.{Place, Seated, IsOf}
use Rattle.board_jobs.specs.Answering.{AreAnswered}
use Rattle.board_jobs.specs.Jobs.{IsReady, IsJobBroken}

-- the callers of a board, each at its place, at rest
pub record AreCallers (b : Place) (callers : List Seated) : Type 0 where
  pub count : length callers ≡ b.shape.loaders + b.shape.searchers
  pub each : (i : ℕ) (c : Seated) → get_elem? callers i ≡ some c → IsOf b c × (c.account.who ≡ caller_after b.shape i)
      × IsReady c

-- the caller's own among these jobs
abbrev pub own_jobs : Caller → List Dealt → List Dealt
own_jobs caller jobs = filter (λ job. is_same job.caller caller) jobs

-- a caller's own jobs among those dealt are done, in order, and no others: each has an answer by its file, and the
-- caller's account has gained these answers, in order, and no others
pub record OwnDone (k : Shape) (files : List (ℕ × List ℕ)) (budget : ℕ) (caller : Caller) (a b : Account)
    (jobs : List Dealt) (own : List Done) : Type 0 where
  pub dealt_are : map (λ one. one.dealt) own ≡ own_jobs caller jobs
  pub by_files : All (IsByItsFile files budget) own
  pub answered : AreAnswered k caller a b (flat_map (λ one. answers_of one.answer) own)

-- memory ran out in the first of these jobs, which is the caller's own
abbrev pub StoppedIn : Shape → List (ℕ × List ℕ) → ℕ → Caller → Account → Account → List Dealt → Type 0
StoppedIn k files budget caller a b jobs = (job : Dealt) × (more : List Dealt) × (jobs ≡ job ∷ more)
    × (true ≡ is_same job.caller caller) × IsJobBroken k files budget caller a b job.job

-- memory ran out: the caller had done its own of the first jobs, as above, and stopped then, or in the next job, which
-- is its own
pub record OwnBroken (k : Shape) (files : List (ℕ × List ℕ)) (budget : ℕ) (caller : Caller) (a b : Account)
    (jobs : List Dealt) : Type 0 where
  pub past : List Dealt
  pub later : List Dealt
  pub parts : past ++ later ≡ jobs
  pub own : List Done
  pub between : Account
  pub did : OwnDone k files budget caller a between past own
  pub stopped : (b ≡ between) ⊎ StoppedIn k files budget caller between b later
