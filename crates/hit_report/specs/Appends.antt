-- What a writer that appends leaves of the text it was lent.
use Rattle.std.specs.Prelude.{◌≡◌, ℕ, List, length, take}

-- the text before is still the front of the text
pub record KeepsFront (old new : List ℕ) : Type 0 where
  pub kept : take (length old) new ≡ old
