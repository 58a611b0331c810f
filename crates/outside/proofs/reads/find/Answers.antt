use Rattle.std.proofs.Common.{arith}
use Rattle.outside.proofs.Finding.{bytes_of-drop}
use Rattle.outside.proofs.reads.find.Goals as goal

pub returns-then-eq : goal.returns-then-eq
returns-then-eq c =
    let step = bytes_of-drop c.args.files.now c.args.name.now c.loop-file.file-index c.file-item.result c.loop-file-test.true c.file-item.is in
    grind (arith, step, c.eq.ensures, c.if-eq.true, c.as_str.ensures, c.as_slice.ensures, c.loop-file.invariant)

pub loop-file-preserved : goal.loop-file-preserved
loop-file-preserved c =
    let step = bytes_of-drop c.args.files.now c.args.name.now c.loop-file.file-index c.file-item.result c.loop-file-test.true c.file-item.is in
    grind (arith, step, c.eq.ensures, c.if-eq.false, c.as_str.ensures, c.loop-file.invariant)
