use Rattle.tool_commands.proofs.Searching.{HitsHold-none}
use Rattle.tool_commands.proofs.search.Search.new.Goals as goal

pub returns-clause-holds : goal.returns-clause-holds
returns-clause-holds c = rw c.new-4.ensures.items (HitsHold-none c.args.query.now c.args.budget)
