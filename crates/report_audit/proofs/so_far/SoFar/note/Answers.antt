use Rattle.std.proofs.Common.{◌≡◌, ℕ, ◌∙◌, ◌-◌, ◌≤◌, Bool, List, [], ◌∷◌, ◌++◌, drop, length, take, true, ap, sym, subst, arith}
use Rattle.std.specs.Prelude.{slice_set}
use Rattle.std.proofs.Math.Seq.{take-append_seam}
use Rattle.report_audit.specs.SoFars.{AreTaken}
use Rattle.report_audit.proofs.Taking.{note_taken}
use Rattle.report_audit.proofs.so_far.SoFar.note.Goals as goal

pub returns-clause-lines : goal.returns-clause-lines
returns-clause-lines c = λ lines line by group carried within so_far.
    let new = c.take.new.taken in
    let old = c.args.self.now.taken in
    let same = c.deref_mut.ensures.value in
    let old_long = ap length same in
    let full : old.len ≡ length new = omega (arith, old.ok.0, c.take.auto.taken, old_long) in
    let back : take old.len (new ++ drop (length new) old.items) ≡ new = ap (λ (n : ℕ). take n (new ++ drop (length new) old.items)) full ∙ take-append_seam new (drop (length new) old.items) in
    record {
      tally = c.note.ensures.tally lines line by group carried so_far.tally;
      taken = subst (AreTaken (lines ++ line ∷ [])) (sym back)
          (note_taken lines line old.items new c.args.carried.own carried.own within
          (λ some less. c.take.ensures.set some (subst (λ (l : List Bool). c.args.carried.own ≤ length l) (sym same) less) ∙ ap (λ (l : List Bool). slice_set l (c.args.carried.own - 1) true) same)
          (λ none. c.take.ensures.zero none ∙ same) so_far.taken);
    }
