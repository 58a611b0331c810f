use Rattle.std.proofs.Common.{◌≡◌, ◌++◌, take, ap, sym, subst, ◌∙◌, arith, rules}
use Rattle.std.proofs.lemmas.List.{length-append, length-take}
use Rattle.outside.specs.Files.{HasFront, WasRead}
use Rattle.tool_commands.proofs.list.read_list.Goals as goal

pub loop-count-preserved : goal.loop-count-preserved
loop-count-preserved g c =
    let inv = c.loop-count.invariant in
    let s = inv.so_far in
    let count = c.in-Ok-read_piece.count in
    let read = c.in-Ok-read_piece.ensures.goes_on s.front s.long (subst (λ t. HasFront t c.args.name.now s.front) (sym inv.goes_on.told) s.is_front) in
    let taken = c.in-Ok-take_piece.ensures.more s.front s.outcomes s.read s.holds in
    record {
      unfinished = c.in-Ok-take_piece.ensures.open;
      asked = c.in-Ok-take_piece.ensures.asked ∙ inv.asked;
      taken = c.in-Ok-take_piece.ensures.taken;
      fed = search rules;
      within = c.in-Ok-read_piece.ensures.bound.1;
      goes_on = record { told = c.read_piece.ensures.told ∙ inv.goes_on.told; absent = omega (arith, inv.goes_on.absent, c.read_piece.ensures.absent_later); faults = omega (arith, inv.goes_on.faults, c.read_piece.ensures.faults_later) };
      so_far = record {
        front = s.front ++ take count c.read_piece.new.piece;
        outcomes = taken.0;
        is_front = subst (λ t. HasFront t c.args.name.now (s.front ++ take count c.read_piece.new.piece)) inv.goes_on.told read;
        long = omega (arith, length-append s.front (take count c.read_piece.new.piece), length-take count c.read_piece.new.piece, s.long, c.in-Ok-read_piece.ensures.bound.0);
        read = search rules;
        holds = taken.2;
      };
    }

pub returns-in-Ok-drain-clause-read : goal.returns-in-Ok-drain-clause-read
returns-in-Ok-drain-clause-read g c =
    let inv = c.loop-count.invariant in
    let s = inv.so_far in
    let finished = c.finish.ensures.read s.front s.outcomes s.read in
    let drained = c.in-Ok-drain.ensures.more s.front s.outcomes finished s.holds in
    let over = c.in-Ok-drain.ensures.finished ∙ ap (λ r. r.finished) c.finish.ensures.finished in
    let none : c.in-Ok-eq0.field-0 ≡ 0 = search rules in
    let whole = c.in-Ok-eq0.ensures.end none s.front s.long (subst (λ t. HasFront t c.args.name.now s.front) (sym inv.goes_on.told) s.is_front) in
    (drained.0, record { bytes = s.front; read = subst (λ t. WasRead t c.args.name.now s.front) inv.goes_on.told whole; are = c.in-Ok-drain.ensures.all over s.front drained.0 drained.1 }, drained.2)
