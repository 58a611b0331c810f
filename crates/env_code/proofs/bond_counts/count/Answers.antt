use Rattle.std.proofs.Common.{refl, subst}
use Rattle.std.proofs.lemmas.Bool.{both_ways}
use Rattle.htss_defs.specs.declared.graph.Ends.{Ends}
use Rattle.env_code.specs.BondCounts.{IsOneMore}
use Rattle.env_code.proofs.Tallies.{HasCounts-counted}
use Rattle.env_code.proofs.bond_counts.count.Goals as goal

pub returns-then-passes : goal.returns-then-passes
returns-then-passes c bonds test is has = HasCounts-counted bonds c.args.bond test c.args.passes c.args.counts.now c.raise.new.counts is has
    (λ _. subst (λ (e : Ends). IsOneMore e c.args.counts.now c.raise.new.counts) c.ends.ensures c.raise.ensures)
    (λ failed. absurd (both_ways c.args.passes failed c.if-passes.true))

pub returns-else-passes : goal.returns-else-passes
returns-else-passes c bonds test is has = HasCounts-counted bonds c.args.bond test c.args.passes c.args.counts.now c.args.counts.now is has
    (λ passed. absurd (both_ways c.args.passes c.if-passes.false passed))
    (λ _. refl)
