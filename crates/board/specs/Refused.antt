-- Why no board was opened.
use Rattle.htss_defs.specs.declared.shape.Shape.{Shape}
use Rattle.htss_defs.specs.Shapes.{IsShape, IsFirstOutside}
use Rattle.board.specs.declared.open.OpenError.{OpenError}
use Rattle.board.specs.declared.open.OpenError.TheVariants.{Shape as Outside, OutOfMemory}

-- the shape's first part that is out of its limits is named; memory is told of where the shape is within its limits
abbrev pub IsCause : Shape → OpenError → Type 0
IsCause shape (Outside field) = IsFirstOutside shape field
IsCause shape OutOfMemory = IsShape shape
