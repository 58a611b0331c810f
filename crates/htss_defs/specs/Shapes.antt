-- The limits of the shape of a board (this project's own).
use Rattle.std.specs.Prelude.{◌≤◌}
use Rattle.htss_defs.specs.declared.shape.Shape.{Shape}
use Rattle.htss_defs.specs.declared.shape.Field.{Field}
use Rattle.htss_defs.specs.declared.shape.Field.TheVariants.{Loaders, Searchers, Pages, Room, Log, Chain}

-- the part is within its limits
abbrev pub IsWithin : Shape → Field → Type 0
IsWithin shape Loaders = (1 ≤ shape.loaders) × (shape.loaders ≤ 16)
IsWithin shape Searchers = (1 ≤ shape.searchers) × (shape.searchers ≤ 16)
IsWithin shape Pages = (16 ≤ shape.pages) × (shape.pages ≤ 4194304)
IsWithin shape Room = (10 ≤ shape.room) × (shape.room ≤ 16777216)
IsWithin shape Log = (1 ≤ shape.log) × (shape.log ≤ 1048576)
IsWithin shape Chain = (2 ≤ shape.chain) × (shape.chain ≤ 65535)

abbrev pub IsShape : Shape → Type 0
IsShape shape = (field : Field) → IsWithin shape field

-- the parts that stand before this one are within their limits
abbrev pub AreWithinBefore : Shape → Field → Type 0
AreWithinBefore shape Loaders = Unit {0}
AreWithinBefore shape Searchers = IsWithin shape Loaders
AreWithinBefore shape Pages = IsWithin shape Loaders × IsWithin shape Searchers
AreWithinBefore shape Room = IsWithin shape Loaders × IsWithin shape Searchers × IsWithin shape Pages
AreWithinBefore shape Log = IsWithin shape Loaders × IsWithin shape Searchers × IsWithin shape Pages
    × IsWithin shape Room
AreWithinBefore shape Chain = IsWithin shape Loaders × IsWithin shape Searchers × IsWithin shape Pages
    × IsWithin shape Room × IsWithin shape Log

-- the first part, in their order, that is out of its limits
pub record IsFirstOutside (shape : Shape) (field : Field) : Type 0 where
  pub before : AreWithinBefore shape field
  pub here : IsWithin shape field → ⊥
