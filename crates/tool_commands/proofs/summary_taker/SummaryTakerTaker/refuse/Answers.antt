use Rattle.tool_commands.proofs.Summed.{SummaryHolds-refused}
use Rattle.tool_commands.proofs.summary_taker.SummaryTakerTaker.refuse.Goals as goal

pub returns-clause-holds : goal.returns-clause-holds
returns-clause-holds c = λ outcomes long holds.
    let t = c.args.self.now in
    SummaryHolds-refused t.matcher t.records t.atoms t.bonds t.hits c.args._line c.args._code outcomes holds
