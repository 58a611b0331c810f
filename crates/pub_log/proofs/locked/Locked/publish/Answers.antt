use Rattle.std.proofs.Common.{◌+◌, ◌^◌, ◌<◌, ◌≤◌, [], ◌∷◌, arith}
use Rattle.board_core.specs.declared.entry.Entry.TheVariants.{LogFull}
use Rattle.board_core.specs.Words.{total_of}
use Rattle.board.proofs.NextWord.{total_small}
use Rattle.pub_log.proofs.Others.{others_published, others_freed}
use Rattle.pub_log.proofs.locked.Locked.publish.Goals as goal

pub append_publication-requires-clause-small : goal.append_publication-requires-clause-small
append_publication-requires-clause-small c =
    let inside : c.args.staged.block + 3 ≤ total_of c.args.board.now.shape = c.requires.staged.written.place.until in
    let small : total_of c.args.board.now.shape < 2 ^ 40 = total_small c.args.board.now.shape c.shape.ensures.limits in omega arith

pub returns-then-front-shape-clause-others : goal.returns-then-front-shape-clause-others
returns-then-front-shape-clause-others c = others_freed _ _ _ (LogFull c.args.caller.now.account.log.seen ∷ []) c.free_full.ensures.after

pub returns-clause-others : goal.returns-clause-others
returns-clause-others c = others_published _ _ _ _ c.args.staged c.append_publication.ensures
