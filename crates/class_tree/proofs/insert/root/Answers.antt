use Rattle.std.proofs.Common.{arith}
use Rattle.htss_defs.specs.declared.shape.Field.TheVariants.{Pages}
use Rattle.class_tree.proofs.insert.root.Goals as goal

pub returns-clause-page : goal.returns-clause-page
returns-clause-page c = let least = (c.shape-limits.ensures.limits Pages).0 in (omega arith, omega arith)
