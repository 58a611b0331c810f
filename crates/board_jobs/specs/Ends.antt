-- What is known of a board at its end: its words, and the account of each caller (this project's own).
use Rattle.std.specs.Prelude.{◌≡◌, ℕ, ◌+◌, ◌-◌, List, length, nat_lt, if◌then◌else◌}
use mathlib.Core.Option.{some}
use lib.ListN.{get_elem?}
use Rattle.htss_defs.specs.declared.shape.Shape.{Shape}
use Rattle.report_rules.specs.Answers.{Answer}
use Rattle.report_rules.specs.Dealing.{Caller, loader, searcher}
use Rattle.board_core.specs.declared.account.Account.{Account}
use Rattle.board_core.specs.Each.{Each}
use Rattle.board_core.specs.Words.{Parts}
use Rattle.board_core.specs.Histories.{history_of}
use Rattle.board_core.specs.Accounts.{caller_after}
use Rattle.board_core.specs.LogRule.{IsByLoader}
use Rattle.board_core.specs.Truths.{IsTrueStory}
use Rattle.board_core.specs.Steps.{MayBe}
use Rattle.board_jobs.specs.Answering.{AreAnswered}

-- the caller of the account at this place
abbrev pub caller_at : Shape → ℕ → Caller
caller_at k i = if nat_lt i k.loaders then loader (i + 1) else searcher (i + 1 - k.loaders)

-- each caller went on from its first account to its last, by answers
pub record HaveGoneOn (k : Shape) (first last : List Account) : Type 0 where
  pub count : length last ≡ length first
  pub each : (i : ℕ) (a b : Account) → get_elem? first i ≡ some a → get_elem? last i ≡ some b → (answers : List Answer)
      × AreAnswered k (caller_at k i) a b answers

-- the words show a legal history; each account agrees with them, and is true of it; and all callers are there
pub record IsEnd (k : Shape) (p : Parts) (accounts : List Account) : Type 0 where
  pub may : Each (MayBe k p) accounts
  pub stories : Each (λ a. IsTrueStory k (history_of k p) a.who a.entries) accounts
  pub loaders : Each (IsByLoader k) (history_of k p)
  pub count : length accounts ≡ k.loaders + k.searchers
  pub callers : (i : ℕ) (a : Account) → get_elem? accounts i ≡ some a → a.who ≡ caller_after k i
