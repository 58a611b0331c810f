-- Callers that have gone on, and may have heard of more.
use Rattle.std.specs.Prelude.{◌≡◌, ℕ, ◌≤◌, List, length}
use mathlib.Core.Option.{some}
use lib.ListN.{get_elem?}
use Rattle.htss_defs.specs.declared.shape.Shape.{Shape}
use Rattle.board_core.specs.declared.account.Account.{Account}
use Rattle.board_jobs.specs.Groups.{with_seen}
use Rattle.board_jobs.specs.Ends.{HaveGoneOn}

-- each caller has gone on by answers, and may have heard of more; so it is left where memory ran out
pub record HaveGoneAndHeard (k : Shape) (first last : List Account) : Type 0 where
  pub between : List Account
  pub gone : HaveGoneOn k first between
  pub count : length last ≡ length between
  pub heard : (i : ℕ) (a b : Account) → get_elem? between i ≡ some a → get_elem? last i ≡ some b → (front : ℕ)
      × (a.log.seen ≤ front) × (b ≡ with_seen front a)
