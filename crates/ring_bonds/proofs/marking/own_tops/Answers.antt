use Rattle.std.proofs.Common.{◌≡◌, ℕ, get_or, set, subst, sym, inl, inr, ◌∙◌, arith}
use Rattle.std.proofs.lemmas.Bool.{cases_eq}
use Rattle.std.proofs.lemmas.List.{length-set, get_or-set_same, get_or-set_other}
use Rattle.ring_bonds.proofs.marking.own_tops.Goals as goal

pub loop-x-preserved : goal.loop-x-preserved
loop-x-preserved c = record {
  size = length-set c.loop-x.tops c.loop-x.x c.loop-x.x ∙ c.loop-x.invariant.size;
  own = λ y within was. elim (cases_eq y c.loop-x.x) [
    | inl last ↦ subst (λ (z : ℕ). get_or (set c.loop-x.tops c.loop-x.x c.loop-x.x) z 0 ≡ z) (sym last) (get_or-set_same c.loop-x.tops c.loop-x.x c.loop-x.x 0 (omega arith))
    | inr other ↦ get_or-set_other c.loop-x.tops c.loop-x.x y c.loop-x.x 0 other ∙ c.loop-x.invariant.own y within (λ le. was (omega arith))
  ];
}

pub returns : goal.returns
returns c y within was = c.loop-x.invariant.own y within (λ le. was (omega arith))
