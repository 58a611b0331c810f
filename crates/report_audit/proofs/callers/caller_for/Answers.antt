use Rattle.std.proofs.Common.{arith}
use Rattle.std.proofs.lemmas.Nat.{mod_below}
use Rattle.htss_defs.specs.declared.shape.Field.TheVariants.{Loaders, Searchers}
use Rattle.report_audit.proofs.callers.caller_for.Goals as goal

pub nonzero_rem-result : goal.nonzero_rem-result
nonzero_rem-result c = (c.requires Searchers).0

pub overflow_add-result : goal.overflow_add-result
overflow_add-result c = omega (arith, (c.requires Searchers).1, mod_below c.args.laid.searches c.args.shape.searchers (c.requires Searchers).0)

pub overflow_cast-result-in-Search : goal.overflow_cast-result-in-Search
overflow_cast-result-in-Search c = omega (arith, (c.requires Searchers).1, mod_below c.args.laid.searches c.args.shape.searchers (c.requires Searchers).0)

pub nonzero_rem-result-in-Load : goal.nonzero_rem-result-in-Load
nonzero_rem-result-in-Load c = (c.requires Loaders).0

pub overflow_add-result-in-Load : goal.overflow_add-result-in-Load
overflow_add-result-in-Load c = omega (arith, (c.requires Loaders).1, mod_below c.args.laid.loads c.args.shape.loaders (c.requires Loaders).0)

pub overflow_cast-result-in-Load-2 : goal.overflow_cast-result-in-Load-2
overflow_cast-result-in-Load-2 c = omega (arith, (c.requires Loaders).1, mod_below c.args.laid.loads c.args.shape.loaders (c.requires Loaders).0)

pub returns-in-Search-clause-within : goal.returns-in-Search-clause-within
returns-in-Search-clause-within c =
    let below = mod_below c.args.laid.searches c.args.shape.searchers (c.requires Searchers).0 in
    (omega arith, omega (arith, (c.requires Searchers).1, below))

pub returns-in-Load-clause-within : goal.returns-in-Load-clause-within
returns-in-Load-clause-within c =
    let below = mod_below c.args.laid.loads c.args.shape.loaders (c.requires Loaders).0 in
    (omega arith, omega (arith, (c.requires Loaders).1, below))
