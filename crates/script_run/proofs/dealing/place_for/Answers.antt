use Rattle.std.proofs.Common.{arith}
use Rattle.std.proofs.lemmas.Nat.{mod_below}
use Rattle.htss_defs.specs.declared.shape.Field.TheVariants.{Loaders, Searchers}
use Rattle.script_run.proofs.dealing.place_for.Goals as goal

pub nonzero_rem-result : goal.nonzero_rem-result
nonzero_rem-result c = (c.requires Searchers).0

pub overflow_add-result : goal.overflow_add-result
overflow_add-result c = omega (arith, (c.requires Loaders).1, (c.requires Searchers).1, mod_below c.args.count.searches c.args.shape.searchers (c.requires Searchers).0)

pub nonzero_rem-result-in-Load : goal.nonzero_rem-result-in-Load
nonzero_rem-result-in-Load c = (c.requires Loaders).0

pub returns-in-Search-clause-within : goal.returns-in-Search-clause-within
returns-in-Search-clause-within c = omega (arith, mod_below c.args.count.searches c.args.shape.searchers (c.requires Searchers).0)

pub returns-in-Load-clause-within : goal.returns-in-Load-clause-within
returns-in-Load-clause-within c = omega (arith, mod_below c.args.count.loads c.args.shape.loaders (c.requires Loaders).0)
