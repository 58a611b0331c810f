-- A loader that keeps its own pages goes on so where a call leaves its pages.
use Rattle.std.proofs.Common.{◌≡◌, ℕ, ◌∙◌, ap}
use Rattle.std.specs.Prelude.{Result, Ok, Err, IfOk, IfErr, OnOk}
use Rattle.board_core.specs.declared.account.Account.{Account}
use Rattle.board.specs.Seated.{Seated, with_account}
use Rattle.board_jobs.proofs.Chained.{loader_stays, stocked_after}
use Rattle.board_tests.specs.Loading.{CanLoad}

-- its account became this one
pub loads_with : (c d : Seated) (a : Account) → d ≡ with_account c a → a.who ≡ c.account.who → a.pool ≡ c.account.pool → CanLoad c → CanLoad d
loads_with c d a is who pool h = (
  loader_stays c d (ap (λ (x : Seated). x.account.who) is ∙ who) h.0,
  stocked_after c d (ap (λ (x : Seated). x.account.pool) is ∙ pool) (ap (λ (x : Seated). x.stock) is) h.1,
)

-- whichever way a call ended
pub either_way : {E : Type 0} {C : Type 0} (r : Result ℕ E) (P : ℕ → Type 0) (Q : E → Type 0) → IfOk r P → IfErr r Q → ((n : ℕ) → P n → C) → ((e : E) → Q e → C) → C
either_way (Ok n) P Q ok err f g = f n ok
either_way (Err e) P Q ok err f g = g e err

pub on_ok : {A E : Type 0} {P : Type 0} (r : Result A E) → P → OnOk r P
on_ok (Ok x) is = is
on_ok (Err e) is = tt
