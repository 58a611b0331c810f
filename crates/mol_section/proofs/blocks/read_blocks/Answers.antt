use Rattle.std.proofs.Common.{arith}
use Rattle.std.proofs.lemmas.Result.{err_from_is_err_and}
use Rattle.mol_section.proofs.Walking.{due_block, block_stop, block_line, block_fault, blocks_end}
use Rattle.mol_section.proofs.blocks.read_blocks.Goals as goal

pub returns-in_err-line-clause-stop : goal.returns-in_err-line-clause-stop
returns-in_err-line-clause-stop g c =
    let p = err_from_is_err_and c.from_residual.result c.from_residual.ensures.1 in
    rw (p.1, p.2) (block_fault c.in_err-line.field-0.0 (omega arith) c.loop-i.invariant c.in_err-line.ensures.fault)

pub take-requires : goal.take-requires
take-requires g c =
    let at = c.loop-i.invariant in
    record { due = (_, _, at.parts, at.kept, due_block c.part_at.result c.in_ok-line.ensures.line c.part_at.ensures at) }

pub returns-in_err-take-clause-stop : goal.returns-in_err-take-clause-stop
returns-in_err-take-clause-stop g c =
    let p = err_from_is_err_and c.from_residual-in_err-take.result c.from_residual-in_err-take.ensures.1 in
    rw (p.1, p.2) (block_stop c.part_at.result c.in_ok-line.ensures.line c.part_at.ensures c.loop-i.invariant c.in_err-take.field-0.0 c.in_ok-line.ensures.short c.in_err-take.ensures.stop)

pub loop-i-preserved : goal.loop-i-preserved
loop-i-preserved g c = rw c.in_ok-line.ensures.passed (block_line c.part_at.result c.in_ok-line.ensures.line c.part_at.ensures c.loop-i.invariant c.in_ok-line.ensures.short c.in_ok-take.ensures.taken)

pub returns-clause-at : goal.returns-clause-at
returns-clause-at g c = blocks_end (omega arith) c.loop-i.invariant
