use Rattle.std.proofs.Common.{refl}
use Rattle.ctfile.proofs.Answered.{HasRead-empty}
use Rattle.ctfile.proofs.unmarked.UnmarkedReader.new.Goals as goal

pub returns-clause-read : goal.returns-clause-read
returns-clause-read c = HasRead-empty _ c.new.ensures refl refl refl
