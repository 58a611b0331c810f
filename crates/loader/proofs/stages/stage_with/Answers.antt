use Rattle.std.proofs.Common.{ℕ, ◌+◌, ◌≤◌, [], ◌∷◌, length, sym, ap, ◌∙◌, subst}
use Rattle.htss_defs.specs.declared.record.NamedMol.{NamedMol}
use Rattle.board_core.specs.declared.entry.Entry.TheVariants.{DataFull}
use Rattle.board_core.specs.Blocks.{atoms_in}
use Rattle.board_core.specs.Rows.{words_of}
use Rattle.loader.specs.Stages.{staging, told_of}
use Rattle.loader.proofs.Staged.{others_answered, others_after, rows_new, atoms_enough, staged_now}
use Rattle.loader.proofs.stages.stage_with.Goals as goal

pub returns-then-left-need-clause-others : goal.returns-then-left-need-clause-others
returns-then-left-need-clause-others c = others_answered c.args.board.now.shape c.args.caller.now c.note_full.new.caller (DataFull c.saturating_sub-left.result c.size-need.result ∷ []) c.note_full.ensures.after

pub insert_rows-requires-clause-atoms : goal.insert_rows-requires-clause-atoms
insert_rows-requires-clause-atoms c =
    let d = c.store_block-block.new.caller in
    subst (λ (p : ℕ). length c.atoms.result.now ≤ atoms_in (words_of c.args.board.now.shape d.account.who d.account.room.used p 0)) (sym c.store_block-block.ensures.place)
    (atoms_enough c.args.board.now.shape d (staging c.args.board.now.shape c.args.caller.now.account c.new-writer.result.name c.new-writer.result.mol) (length c.atoms.result.now) c.store_block-block.ensures.written
    (ap (λ l. length l) c.atoms.ensures.items ∙ ap (λ (w : NamedMol). length w.mol.atoms) (sym c.new-writer.ensures)))

pub insert_rows-requires-clause-fresh : goal.insert_rows-requires-clause-fresh
insert_rows-requires-clause-fresh c =
    rows_new c.args.board.now.shape c.args.caller.now c.store_block-block.new.caller (staging c.args.board.now.shape c.args.caller.now.account c.new-writer.result.name c.new-writer.result.mol) c.store_block-block.result
    c.store_block-block.ensures.place c.store_block-block.ensures.after c.store_block-block.ensures.rows c.store_block-block.ensures.before

pub returns-in-Ok-clause-fresh : goal.returns-in-Ok-clause-fresh
returns-in-Ok-clause-fresh c =
    let w = c.new-writer.ensures in
    staged_now c.args.board.now.shape c.store_block-block.new.caller c.insert_rows.new.caller (staging c.args.board.now.shape c.args.caller.now.account c.new-writer.result.name c.new-writer.result.mol) c.new.result
    c.store_block-block.result (length c.atoms.result.now) c.store_block-block.ensures.written c.in-Ok.ensures.all c.store_block-block.ensures.place
    (ap (λ l. length l) c.atoms.ensures.items ∙ ap (λ (x : NamedMol). length x.mol.atoms) (sym w))
    (c.new.ensures ∙ (λ i. record { block = c.store_block-block.ensures.place i; name = (sym w i).name; mol = (sym w i).mol }))

pub returns-in-Ok-clause-others : goal.returns-in-Ok-clause-others
returns-in-Ok-clause-others c =
    others_after c.args.board.now.shape c.args.caller.now c.store_block-block.new.caller c.insert_rows.new.caller.account (staging c.args.board.now.shape c.args.caller.now.account c.new-writer.result.name c.new-writer.result.mol)
    c.store_block-block.result (length c.atoms.result.now) (length c.atoms.result.now) [] c.store_block-block.ensures.after c.in-Ok.ensures.all

pub returns-in-Err-clause-others : goal.returns-in-Err-clause-others
returns-in-Err-clause-others c =
    let stopped = c.in-Err.ensures.stopped in
    others_after c.args.board.now.shape c.args.caller.now c.store_block-block.new.caller c.insert_rows.new.caller.account (staging c.args.board.now.shape c.args.caller.now.account c.new-writer.result.name c.new-writer.result.mol)
    c.store_block-block.result (stopped.count + 1) stopped.count (told_of c.in-Err.refused ∷ []) c.store_block-block.ensures.after stopped.left
