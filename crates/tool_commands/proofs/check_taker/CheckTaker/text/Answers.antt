use Rattle.tool_commands.proofs.Taken.{check_text-from}
use Rattle.tool_commands.proofs.check_taker.CheckTaker.text.Goals as goal

pub returns : goal.returns
returns c = λ outcomes holds. check_text-from _ _ _ _ _ outcomes holds c.args.self.counted c.in_ok-push_records.ensures.ok
