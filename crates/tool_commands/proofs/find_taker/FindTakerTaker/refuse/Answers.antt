use Rattle.std.proofs.Common.{◌+◌, ap, sym, ◌∙◌}
use Rattle.tool_commands.proofs.Taken.{FindHolds-refused}
use Rattle.tool_commands.proofs.find_taker.FindTakerTaker.refuse.Goals as goal

pub returns-clause-holds : goal.returns-clause-holds
returns-clause-holds c = λ outcomes long holds.
    FindHolds-refused _ _ _ _ _ _ _ _ c.args.place c.args.line c.args.code outcomes holds (c.requires ∙ ap (λ n. n + 1) (sym long)) c.in_ok-push_refused.ensures.ok
