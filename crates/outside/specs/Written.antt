-- What a write leaves, and when it may fail (this project's own).
use Rattle.std.specs.Prelude.{◌≡◌, ℕ, ◌<◌, ◌≤◌, List, length, take, Option, Result, OnErr, IfOk}
use Rattle.std.specs.Io.KnownBytes.{append_known}
use Rattle.outside.specs.Causes.{Rose}

-- what a write leaves of the count of faults, and when it may fail
pub record WriteCauses {E : Type 0} (before now : ℕ) (piece : List ℕ)
    (result : Result ℕ E) : Type 0 where
  pub later : before ≤ now
  pub failed : OnErr result (Rose before now)
  pub nothing : IfOk result (λ n. n ≡ 0 → 0 < length piece → Rose before now)

-- what is written grew by some first bytes of the text
pub record GrewByFront (old new : Option (List ℕ)) (text : List ℕ) : Type 0 where
  pub count : ℕ
  pub front : new ≡ append_known old (take count text)
