-- A fact of each element, read by its place, and a sum over the elements (this project's own).
use Rattle.std.specs.Prelude.{◌≡◌, ℕ, ◌+◌, List, [], ◌∷◌}
use mathlib.Core.Option.{some}
use lib.ListN.{get_elem?}

abbrev pub Each : {A : Type 0} → (A → Type 0) → List A → Type 0
Each {A} F xs = (j : ℕ) (x : A) → get_elem? xs j ≡ some x → F x

abbrev pub In : {A : Type 0} → A → List A → Type 0
In x xs = (j : ℕ) × (get_elem? xs j ≡ some x)

abbrev pub sum_of : {A : Type 0} → (A → ℕ) → List A → ℕ
sum_of f [] = 0
sum_of f (x ∷ xs) = f x + sum_of f xs
