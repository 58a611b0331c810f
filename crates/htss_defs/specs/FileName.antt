-- What the name of a file in a script is (this project's own): one word of printable bytes.
use Rattle.std.specs.Prelude.{ℕ, ◌≤◌, List, length, All}

pub record IsFileName (bytes : List ℕ) : Type 0 where
  pub long : (1 ≤ length bytes) × (length bytes ≤ 4096)
  pub visible : All (λ byte. (33 ≤ byte) × (byte ≤ 126)) bytes
