-- What a loader needs to stage records.
use Rattle.board.specs.Seated.{Seated, IsLoader}
use Rattle.class_tree.specs.Inserting.{IsStocked}

-- a loader that keeps each own page for later
abbrev pub CanLoad : Seated → Type 0
CanLoad c = IsLoader c × IsStocked c
