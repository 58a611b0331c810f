use Rattle.std.proofs.Common.{◌≤◌, length, ap, subst, sym, ◌∙◌, arith}
use Rattle.ring_bonds.specs.declared.forest.Forest.{Forest}
use Rattle.ring_bonds.specs.Marking.{AreDone, IsMarking}
use Rattle.ring_bonds.specs.Visits.{IsUnseen}
use Rattle.ring_bonds.proofs.Rings.{marked-ring}
use Rattle.ring_bonds.proofs.Tops.{AreRises-of, AreDone-more, AreTops-start, AreTops-unseen}
use Rattle.std.proofs.lemmas.Bool.{false≢true}
use Rattle.ring_bonds.proofs.marking.Marking.mark_all.Goals as goal

pub loop-bond-init : goal.loop-bond-init
loop-bond-init c = record {
  valid = record {
    forest = c.search.ensures.forest;
    tops = AreTops-start _ _ _ c.requires.flags c.requires.tops;
    sound = record { rings = λ k marked. absurd (false≢true (sym (c.requires.flags k) ∙ marked)) };
  };
  done = record { each = λ k within. absurd (omega arith) };
  places = c.search.ensures.past;
}

pub loop-bond-preserved : goal.loop-bond-preserved
loop-bond-preserved c = record {
  valid = c.mark.ensures.valid;
  done = AreDone-more _ c.loop-bond.self c.mark.new.self _ c.loop-bond.invariant.done c.mark.ensures.forest c.mark.ensures.grows c.mark.ensures.done;
  places = λ x past. subst (λ (f : Forest). IsUnseen f x) (sym c.mark.ensures.forest) (c.loop-bond.invariant.places x past);
}

pub returns : goal.returns
returns c =
    let g = c.args.graph.now in
    let m = c.loop-bond.self in
    let valid : IsMarking g m = c.loop-bond.invariant.valid in
    let all : length g.bonds ≤ c.loop-bond.bond = omega (arith, ap length c.bonds-bond-end.ensures.items) in
    let done : AreDone g m.visits.forest m.flags (length g.bonds) = record { each = λ j within. c.loop-bond.invariant.done.each j (omega arith) } in
    record {
      rings = λ k. (valid.sound.rings k, marked-ring g m.visits.forest m.flags k valid.forest.trees (AreRises-of g m.visits.forest c.bonds-bond-end.ensures.valid valid.forest.trees) done);
      places = c.loop-bond.invariant.places;
      tops = λ x past within. AreTops-unseen m.visits.forest m.flags m.tops x valid.tops within (c.loop-bond.invariant.places x past);
    }
