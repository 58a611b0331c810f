-- The bytes of files, by the line that each was put for (this project's own).
use Rattle.std.specs.Prelude.{ℕ, List, [], ◌∷◌, Option, None, Some, ◌==◌, if◌then◌else◌}

-- the bytes of the line, if it has any
abbrev pub bytes_at : List (ℕ × List ℕ) → ℕ → Option (List ℕ)
bytes_at [] line = None
bytes_at (file ∷ files) line = if line == file.0 then Some file.1 else bytes_at files line
