use Rattle.std.proofs.Common.{List, sym, subst}
use Rattle.std.specs.Prelude.{IfNone, IfOk, IfSome}
use Rattle.htss_defs.specs.declared.history.Hit.{Hit}
use Rattle.report_text.specs.declared.report.SearchLine.{SearchLine}
use Rattle.report_text.specs.declared.report.SearchLine.TheVariants as search
use Rattle.report_audit.specs.BlockChecks.{IsFaultySearch, IsKeptSearch}
use Rattle.report_audit.proofs.searches.take_search.Goals as goal

pub returns-in-Refused-clause-kept : goal.returns-in-Refused-clause-kept
returns-in-Refused-clause-kept c = subst (λ (a : SearchLine). IfNone c.take_refusal.result (IsKeptSearch c.args.told.now c.args.so_far.now c.take_refusal.new.so_far c.args.caller c.args.budget c.args.read.now a)) (sym c.in-Refused.is) (c.take_refusal.ensures.kept c.args.told.now c.args.budget)

pub returns-in-Refused-clause-fault : goal.returns-in-Refused-clause-fault
returns-in-Refused-clause-fault c = subst (λ (a : SearchLine). IfSome c.take_refusal.result (IsFaultySearch c.args.told.now c.args.so_far.now c.args.caller c.args.budget c.args.read.now a)) (sym c.in-Refused.is) (c.take_refusal.ensures.fault c.args.told.now c.args.budget)

pub returns-in-Hits-clause-kept : goal.returns-in-Hits-clause-kept
returns-in-Hits-clause-kept c = subst (λ (a : SearchLine). IfOk c.take_hits.result (λ found. IfNone found (IsKeptSearch c.args.told.now c.args.so_far.now c.take_hits.new.so_far c.args.caller c.args.budget c.args.read.now a))) (sym c.in-Hits.is)
    (subst (λ (hs : List Hit). IfOk c.take_hits.result (λ found. IfNone found (IsKeptSearch c.args.told.now c.args.so_far.now c.take_hits.new.so_far c.args.caller c.args.budget c.args.read.now (search.Hits c.in-Hits.front hs c.in-Hits.rows c.in-Hits.records)))) c.as_slice.ensures (c.take_hits.ensures.kept c.in-Hits.rows))

pub returns-in-Hits-clause-fault : goal.returns-in-Hits-clause-fault
returns-in-Hits-clause-fault c = subst (λ (a : SearchLine). IfOk c.take_hits.result (λ found. IfSome found (IsFaultySearch c.args.told.now c.args.so_far.now c.args.caller c.args.budget c.args.read.now a))) (sym c.in-Hits.is)
    (subst (λ (hs : List Hit). IfOk c.take_hits.result (λ found. IfSome found (IsFaultySearch c.args.told.now c.args.so_far.now c.args.caller c.args.budget c.args.read.now (search.Hits c.in-Hits.front hs c.in-Hits.rows c.in-Hits.records)))) c.as_slice.ensures (c.take_hits.ensures.fault c.in-Hits.rows))

pub returns-in-OverBudget-clause-kept : goal.returns-in-OverBudget-clause-kept
returns-in-OverBudget-clause-kept c = subst (λ (a : SearchLine). IfOk c.take_over.result (λ found. IfNone found (IsKeptSearch c.args.told.now c.args.so_far.now c.take_over.new.so_far c.args.caller c.args.budget c.args.read.now a))) (sym c.in-OverBudget.is) (c.take_over.ensures.kept)

pub returns-in-OverBudget-clause-fault : goal.returns-in-OverBudget-clause-fault
returns-in-OverBudget-clause-fault c = subst (λ (a : SearchLine). IfOk c.take_over.result (λ found. IfSome found (IsFaultySearch c.args.told.now c.args.so_far.now c.args.caller c.args.budget c.args.read.now a))) (sym c.in-OverBudget.is) (c.take_over.ensures.fault)
