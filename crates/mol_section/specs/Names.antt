-- The name in a header line.
use Rattle.std.specs.Prelude.{ℕ, List, map, take, ◌&&◌, nat_le, if◌then◌else◌}

abbrev pub visible_byte : ℕ → ℕ
visible_byte b = if nat_le 32 b && nat_le b 126 then b else 63

-- the first 80 bytes of a line, those that are not printable as `?`
abbrev pub visible : List ℕ → List ℕ
visible line = map visible_byte (take 80 line)
