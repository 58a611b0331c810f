use Rattle.std.proofs.Common.{[], ◌∷◌}
use Rattle.board_core.specs.declared.entry.Entry.TheVariants.{Gone}
use Rattle.pub_log.proofs.Reasons.{told_free}
use Rattle.pub_log.proofs.frees.free_gone.Goals as goal

pub returns-clause-told : goal.returns-clause-told
returns-clause-told c =
    let entry = Gone c.args.number c.args.at in
    told_free c.args.board.now.shape c.args.caller.now c.free_with.new.caller entry (entry ∷ []) c.free_with.ensures c.requires.gone
