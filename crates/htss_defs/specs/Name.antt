-- What the name of a record is (CTfile Formats, "The Header Block", line 1; which bytes a name keeps is this project's
-- own).
use Rattle.std.specs.Prelude.{◌≢◌, ℕ, ◌≤◌, ◌-◌, List, length, All, Some, slice_get}

-- a byte of printable ASCII, the space among them
abbrev pub IsVisible : ℕ → Type 0
IsVisible byte = (32 ≤ byte) × (byte ≤ 126)

pub record IsName (bytes : List ℕ) : Type 0 where
  pub short : length bytes ≤ 80
  pub visible : All IsVisible bytes
  pub no_space_first : slice_get bytes 0 ≢ Some 32
  pub no_space_last : slice_get bytes (length bytes - 1) ≢ Some 32
