-- Lists without repetition (this project's own).
use Rattle.std.specs.Prelude.{ℕ, List, [], ◌∷◌}
use Rattle.board_core.specs.Each.{In}

abbrev pub AreDifferent : List ℕ → Type 0
AreDifferent [] = Unit {0}
AreDifferent (x ∷ xs) = (In x xs → ⊥) × AreDifferent xs
