-- What the jobs of groups do to the accounts of all callers, loaders first, then searchers.
use Rattle.std.specs.Prelude.{◌≡◌, ◌⊎◌, ℕ, ◌+◌, ◌-◌, ◌≤◌, List, [], ◌∷◌, ◌++◌, length, map, set, All, Contains}
use mathlib.Core.Option.{some}
use lib.ListN.{get_elem?}
use Rattle.htss_defs.specs.declared.shape.Shape.{Shape}
use Rattle.script_text.specs.declared.script.Group.{Group}
use Rattle.report_rules.specs.Answers.{answers_of}
use Rattle.report_rules.specs.Dealing.{Caller, loader, searcher, dealt_group}
use Rattle.report_rules.specs.Reports.{Done, IsByItsFile}
use Rattle.board_core.specs.declared.account.Account.{Account}
use Rattle.board_core.specs.Each.{Each}
use Rattle.board_core.specs.Accounts.{account, caller_after}
use Rattle.board_jobs.specs.Answering.{AreAnswered}

-- the place of a caller's account
abbrev pub place_of : Shape → Caller → ℕ
place_of k (loader number) = number - 1
place_of k (searcher number) = k.loaders + (number - 1)

-- a job of one caller changes its account alone
pub record JobIsDone (k : Shape) (before after : List Account) (one : Done) : Type 0 where
  pub old : Account
  pub new : Account
  pub there : get_elem? before (place_of k one.dealt.caller) ≡ some old
  pub answered : AreAnswered k one.dealt.caller old new (answers_of one.answer)
  pub after_is : after ≡ set before (place_of k one.dealt.caller) new

-- jobs in the order of the script. Callers that work beside each other change different accounts
abbrev pub AreDone : Shape → List Account → List Account → List Done → Type 0
AreDone k before after [] = after ≡ before
AreDone k before after (one ∷ more) = (between : List Account) × JobIsDone k before between one
    × AreDone k between after more

abbrev pub with_seen : ℕ → Account → Account
with_seen front a = record a { log = record a.log { seen = front } }

-- all callers have met: each has then seen this front, the greatest that one of them had seen, or 0
pub record HaveMet (before after : List Account) (front : ℕ) : Type 0 where
  pub most : Each (λ a. a.log.seen ≤ front) before
  pub reached : (front ≡ 0) ⊎ Contains (map (λ a. a.log.seen) before) front
  pub after_is : after ≡ map (with_seen front) before

-- the jobs of a group are done as they are dealt, and the callers have met
pub record GroupIsDone (k : Shape) (files : List (ℕ × List ℕ)) (budget number : ℕ) (group : Group)
    (before after : List Account) (front : ℕ) (done : List Done) : Type 0 where
  pub dealt_are : map (λ one. one.dealt) done ≡ dealt_group k number group
  pub by_files : All (IsByItsFile files budget) done
  pub between : List Account
  pub jobs : AreDone k before between done
  pub met : HaveMet between after front

-- groups, one after the other, of which the first has this number
abbrev pub AreGroupsDone : Shape → List (ℕ × List ℕ) → ℕ → ℕ → List Group → List Account → List Account → ℕ → List Done
    → Type 0
AreGroupsDone k files budget number [] before after front done = (after ≡ before) × (done ≡ [])
    × Each (λ a. a.log.seen ≡ front) before
AreGroupsDone k files budget number (group ∷ groups) before after front done = (middle : List Account) × (met : ℕ)
    × (first rest : List Done)
    × GroupIsDone k files budget number group before middle met first
    × AreGroupsDone k files budget (number + 1) groups middle after front rest × (done ≡ first ++ rest)

-- the accounts of a board's callers as it is opened
abbrev pub AreNew : Shape → List Account → Type 0
AreNew k accounts = (length accounts ≡ k.loaders + k.searchers)
    × ((i : ℕ) (a : Account) → get_elem? accounts i ≡ some a → a ≡ account (caller_after k i) 0)
