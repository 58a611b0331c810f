use Rattle.std.proofs.Common.{ap, length, arith}
use Rattle.std.proofs.lemmas.List.{length-drop}
use Rattle.ctfile.proofs.Looked.{IsLooked-nil}
use Rattle.ctfile.proofs.cut.Pending.pass.Goals as goal

pub invariant_of-self : goal.invariant_of-self
invariant_of-self c = (omega (arith, c.requires, ap length c.self.view_is, length-drop c.self.inside.start c.self.inside.bytes.items, c.self.invariant.0), IsLooked-nil _)
