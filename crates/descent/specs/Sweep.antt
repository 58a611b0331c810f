-- A descent that is done: each page that it reached was read to its end, and each code that covers was followed (this
-- project's own).
use Rattle.std.specs.Prelude.{◌≡◌, ℕ, ◌+◌, ◌⊎◌, Bool, false, List, [], ◌∷◌, ◌++◌, length}
use mathlib.Core.Option.{some}
use lib.ListN.{get_elem?}
use Rattle.board_core.specs.declared.tree.Link.TheVariants.{Absent}
use Rattle.board_core.specs.declared.tree.Reached.{Reached}
use Rattle.board_core.specs.Each.{In}
use Rattle.board_core.specs.KnownPages.{IsEnd, IsMate}

-- the codes from level d on cover, each at its level
abbrev pub AllCover : (ℕ → ℕ → Type 0) → ℕ → List ℕ → Type 0
AllCover covers d [] = Unit {0}
AllCover covers d (c ∷ cs) = covers d c × AllCover covers (d + 1) cs

-- the chain at this path was read to its end by this page
pub record IsWhole (rs : List Reached) (on : List ℕ) (leaf : Bool) (x : Reached) : Type 0 where
  pub mate : IsMate rs on leaf x
  pub end : IsEnd leaf x

-- covers d c: the code c covers at depth d
pub record IsSwept (covers : ℕ → ℕ → Type 0) (rs : List Reached) : Type 0 where
  pub root : (x : Reached) × IsWhole rs [] false x
  pub down : (y : Reached) → In y rs → y.leaf ≡ false → (i c : ℕ) → get_elem? y.slots i ≡ some c
      → covers (length y.path) c
      → (get_elem? y.links i ≡ some Absent) ⊎ ((leaf : Bool) × (x : Reached) × IsWhole rs (y.path ++ c ∷ []) leaf x)
