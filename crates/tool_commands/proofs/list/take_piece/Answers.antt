use Rattle.std.proofs.Common.{◌++◌}
use Rattle.std.proofs.lemmas.Result.{on_ok_weaker}
use Rattle.tool_commands.proofs.list.take_piece.Goals as goal

pub returns-clause-more : goal.returns-clause-more
returns-clause-more g c =
    on_ok_weaker c.drain.result (λ more. λ stream outcomes has holds. more (stream ++ c.args.piece.now) outcomes (c.in_ok-feed.ensures.read stream outcomes has) holds) c.drain.ensures.more
