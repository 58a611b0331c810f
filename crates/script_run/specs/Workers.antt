-- The callers of workers, and their accounts.
use Rattle.std.specs.Prelude.{List, map}
use Rattle.board_core.specs.declared.account.Account.{Account}
use Rattle.board.specs.Seated.{Seated}
use Rattle.script_run.specs.declared.gate.Worker.{Worker}

abbrev pub callers_of : {G : Type 0} → List (Worker G) → List Seated
callers_of ws = map (λ w. w.caller) ws

abbrev pub accounts_of : {G : Type 0} → List (Worker G) → List Account
accounts_of ws = map (λ w. w.caller.account) ws
