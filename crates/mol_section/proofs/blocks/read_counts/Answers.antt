use Rattle.std.proofs.Common.{ℕ, ◌≡◌, ◌+◌, ap, ◌∙◌, arith}
use Rattle.std.proofs.lemmas.Result.{err_from_is_err_and}
use Rattle.mol_section.proofs.Walking.{header_line, header_fault, fault_stop, refused_stop, counts_stop, counts_line, is_counted, blocks_start}
use Rattle.mol_section.proofs.blocks.read_counts.Goals as goal

pub returns-in_err-next-clause-stop : goal.returns-in_err-next-clause-stop
returns-in_err-next-clause-stop g c =
    let p = err_from_is_err_and c.from_residual.result c.from_residual.ensures.1 in
    let inv = c.loop.invariant in
    rw (p.1, p.2) (fault_stop _ c.in_err-next.field-0.0 (λ code. header_fault g.D.Draft.refusals _ _ c.loop.counter code (omega arith) inv.at) (rw inv.passed at c.in_err-next.ensures.fault))

pub loop-preserved : goal.loop-preserved
loop-preserved g c = record {
  at = header_line g.D.Draft.refusals _ _ _ _ c.loop.counter (λ i. (g.met.D.Draft.plain _ i).0) c.in_ok-next.ensures.line (omega arith) c.in_ok-next.ensures.short c.loop.invariant.at;
  passed = c.in_ok-next.ensures.passed ∙ ap (λ (n : ℕ). n + 1) c.loop.invariant.passed;
}

pub returns-in_err-line-clause-stop : goal.returns-in_err-line-clause-stop
returns-in_err-line-clause-stop g c =
    let p = err_from_is_err_and c.from_residual-in_err-line.result c.from_residual-in_err-line.ensures.1 in
    let inv = c.loop.invariant in
    rw (p.1, p.2) (fault_stop _ c.in_err-line.field-0.0 (λ code. header_fault g.D.Draft.refusals _ _ c.loop.counter code (omega arith) inv.at) (rw inv.passed at c.in_err-line.ensures.fault))

pub returns-in-Err-clause-stop : goal.returns-in-Err-clause-stop
returns-in-Err-clause-stop g c =
    let three : c.loop.counter ≡ 3 = omega arith in
    let at = rw three at c.loop.invariant.at in
    let here = counts_line g.D.Draft.refusals _ _ _ _ c.in_ok-line.ensures.line at in
    counts_stop g.D.Draft.refusals _ _ _ _ _ c.in_ok-line.ensures.line c.in_ok-line.ensures.short at (g.met.D.Draft.counted _ 3 _ (rw here c.in-Err.ensures.refused))

pub returns-in_err-draft-clause-stop : goal.returns-in_err-draft-clause-stop
returns-in_err-draft-clause-stop g c =
    let p = err_from_is_err_and c.from_residual-in_err-draft.result c.from_residual-in_err-draft.ensures.1 in
    let three : c.loop.counter ≡ 3 = omega arith in
    let at = rw three at c.loop.invariant.at in
    let counted = is_counted g.D.Draft.refusals _ _ _ _ c.in-Ok.sizes c.in_ok-line.ensures.line at c.in-Ok.ensures.accepted c.in-Ok.ensures.atoms in
    rw (p.1, p.2) (refused_stop c.in_err-draft.field-0.0 (λ code. counts_stop g.D.Draft.refusals _ _ _ _ code c.in_ok-line.ensures.line c.in_ok-line.ensures.short at) (c.in_err-draft.ensures.stop _ 3 counted))

pub returns-clause-at : goal.returns-clause-at
returns-clause-at g c = λ graph empty.
    let three : c.loop.counter ≡ 3 = omega arith in
    let at = rw three at c.loop.invariant.at in
    let ok = c.in-Ok.ensures in
    let counted = is_counted g.D.Draft.refusals _ _ _ _ c.in-Ok.sizes c.in_ok-line.ensures.line at ok.accepted ok.atoms in
    let started = c.in_ok-draft.ensures.started _ 3 counted in
    let place : c.next-2.new.self.passed ≡ 4 = omega (arith, c.in_ok-line.ensures.passed, c.loop.invariant.passed) in
    rw place (blocks_start g.D.Draft.refusals _ _ _ _ c.in-Ok.sizes graph (g.D.Draft.holds c.in_ok-draft.draft) c.in_ok-line.ensures.line c.in_ok-line.ensures.short at counted ok.bonds ok.lists
    (record { some = ok.some; few = ok.few; few_bonds = ok.few_bonds }) started.0 started.1 empty)
