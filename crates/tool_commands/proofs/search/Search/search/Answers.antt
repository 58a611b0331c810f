use Rattle.std.proofs.Common.{◌+◌, sym, refl, subst}
use Rattle.htss_defs.specs.Embedding.{IsLeastEmbedding}
use Rattle.tool_commands.proofs.Searching.{HitsHold-hit, HitsHold-none_found, IsOver-spent}
use Rattle.tool_commands.proofs.search.Search.search.Goals as goal

pub returns-in_ok-push_hit-in-Yes-clause-holds : goal.returns-in_ok-push_hit-in-Yes-clause-holds
returns-in_ok-push_hit-in-Yes-clause-holds c = λ records at holds.
    let t = c.args.self.now in
    let screened = c.requires.screened in
    let least = subst (λ m. IsLeastEmbedding t.matcher c.args.mol.now m) (sym c.as_slice-map.ensures.value) (c.least_map.ensures.yes c.in-Yes.is) in
    HitsHold-hit t.matcher t.budget c.args.left c.least_map.new.budget t.lines.items c.push_hit.new.text.items t.count (t.count + 1) records
    (record { name = c.args.name.now; mol = c.args.mol.now }) (record { number = t.number; name = c.bytes.result.now; map = c.as_slice-map.result.now })
    holds screened (c.least_map.ensures.paid (λ spent. absurd cc)) least at c.bytes.ensures.items c.in_ok-push_hit-in-Yes.ensures.ok refl

pub returns-in-No-clause-holds : goal.returns-in-No-clause-holds
returns-in-No-clause-holds c = λ records at holds.
    let t = c.args.self.now in
    let screened = c.requires.screened in
    HitsHold-none_found t.matcher t.budget c.args.left c.least_map.new.budget t.lines.items t.count records (record { name = c.args.name.now; mol = c.args.mol.now })
    holds screened (c.least_map.ensures.paid (λ spent. absurd cc)) (c.least_map.ensures.no c.in-No.is)

pub returns-in-Spent-clause-holds : goal.returns-in-Spent-clause-holds
returns-in-Spent-clause-holds c = λ records at holds.
    let t = c.args.self.now in
    let screened = c.requires.screened in
    IsOver-spent t.matcher t.budget c.args.left t.lines.items t.count records (record { name = c.args.name.now; mol = c.args.mol.now }) holds screened (c.least_map.ensures.spent c.in-Spent.is)
