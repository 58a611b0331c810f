-- Distances in a graph (textbook): the distance of two places is the least number of bonds of a walk between them.
use Rattle.std.specs.Prelude.{ℕ, zero, suc, ◌+◌, List, Bool, ◌==◌, ◌&&◌, ◌||◌}
use Rattle.std.specs.List.{list_any, count_by, range_with_len}
use Rattle.htss_defs.specs.declared.graph.Ends.{Ends}
use Rattle.htss_defs.specs.Graph.{Graph, joins}

abbrev pub graph_places : Graph → List ℕ
graph_places g = range_with_len 1 g.atoms

abbrev pub are_bonded : Graph → ℕ → ℕ → Bool
are_bonded g x y = list_any (λ e. joins e x y) g.bonds

-- a walk of n bonds leads from x to y
unfoldable pub has_walk : Graph → ℕ → ℕ → ℕ → Bool
has_walk g zero x y = x == y
has_walk g (suc n) x y = list_any (λ z. has_walk g n x z && are_bonded g z y) (graph_places g)

-- y is within distance k of x: a walk of at most k bonds leads there
unfoldable pub is_within : Graph → ℕ → ℕ → ℕ → Bool
is_within g k x y = list_any (λ n. has_walk g n x y) (range_with_len 0 (k + 1))

-- how many places within distance k of x, x itself included, pass a test
unfoldable pub count_within : Graph → ℕ → ℕ → (ℕ → Bool) → ℕ
count_within g k x test = count_by (λ y. is_within g k x y && test y) (graph_places g)

abbrev pub is_end : Ends → ℕ → Bool
is_end e x = e.first == x || e.second == x

-- the number of bonds at x
unfoldable pub degree : Graph → ℕ → ℕ
degree g x = count_by (λ e. is_end e x) g.bonds
