-- Which leaves a caller holds (this project's own): those that it has reached since its pin.
use Rattle.std.specs.Prelude.{ℕ, Bool, true, false, List, [], ◌∷◌}
use Rattle.board_core.specs.declared.tree.Reached.{Reached}

abbrev pub leaf_of : Bool → ℕ → List ℕ → List ℕ
leaf_of true p ps = p ∷ ps
leaf_of false p ps = ps

abbrev pub held_in : List Reached → List ℕ
held_in [] = []
held_in (r ∷ rs) = leaf_of r.leaf r.page (held_in rs)
