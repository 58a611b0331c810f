use Rattle.std.proofs.Common.{◌≡◌, false, drop, sym, ap, subst, ◌∙◌, arith}
use Rattle.std.proofs.lemmas.Bool.{false≢true}
use Rattle.std.proofs.lemmas.List.{take_rest}
use Rattle.ctfile.specs.Cut.{NoSection}
use Rattle.ctfile.proofs.Looked.{if_none, HasPassed-few, NoSection-from}
use Rattle.ctfile.proofs.cut.Pending.next_taken.Goals.{in-Some, in-None, in-None-2}
use Rattle.ctfile.proofs.cut.Pending.next_taken.Goals as goal

pub overflow_add-result : goal.overflow_add-result
overflow_add-result c =
    let within = rw c.in-Some.is at c.look-found.ensures.within in
    omega (arith, within, HasPassed-few _ _ _ c.look-found.ensures.looked.passed)

pub returns-clause-needs_more : goal.returns-clause-needs_more
returns-clause-needs_more c =
    elim c.match-found.branch [
      | in-Some w ↦ rw w.result-is tt
      | in-None w ↦ if_none c.match-found.result (c.args.finished ≡ false → NoSection c.args.self.now) (λ e. absurd (false≢true (sym e ∙ w.if-finished.true)))
      | in-None-2 w ↦ if_none c.match-found.result (c.args.finished ≡ false → NoSection c.args.self.now) (λ e. subst NoSection (take_rest c.deref.result.now c.self.inside.start ∙ ap (drop c.self.inside.start) c.deref.ensures.value ∙ c.self.view_is) (NoSection-from _ _ _ c.look-found.ensures.looked.passed (rw w.in-None-2.is at c.look-found.ensures.none)))
    ]
