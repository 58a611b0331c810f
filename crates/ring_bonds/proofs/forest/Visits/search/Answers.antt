use Rattle.std.proofs.Common.{ℕ, ◌<◌, subst, sym, inl, inr, arith}
use Rattle.std.proofs.lemmas.Bool.{cases_eq}
use Rattle.ring_bonds.specs.Forest.{tree_of}
use Rattle.ring_bonds.proofs.Visits.{AreVisits-none, IsForest-of, IsUnseen-past}
use Rattle.ring_bonds.proofs.forest.Visits.search.Goals as goal

pub loop-root-init : goal.loop-root-init
loop-root-init c = record { visits = AreVisits-none _ _ c.requires; seen = λ x low less. absurd (omega arith) }

pub loop-root-preserved : goal.loop-root-preserved
loop-root-preserved c = record {
  visits = c.search_from.ensures.visits;
  seen = λ x low less. elim (cases_eq x c.loop-root.root) [
    | inl last ↦ subst (λ (y : ℕ). 0 < tree_of c.search_from.new.self.forest y) (sym last) c.search_from.ensures.seen
    | inr earlier ↦
        let was : 0 < tree_of c.loop-root.self.forest x = c.loop-root.invariant.seen x low (omega arith) in
        subst (λ (t : ℕ). 0 < t) (sym (c.search_from.ensures.later.trees x was)) was
  ];
}

pub returns-clause-forest : goal.returns-clause-forest
returns-clause-forest c = IsForest-of _ _ c.atoms-root-end.ensures.valid c.loop-root.invariant.visits (λ x low less. c.loop-root.invariant.seen x low (omega arith))

pub returns-clause-past : goal.returns-clause-past
returns-clause-past c x past = IsUnseen-past _ _ x c.loop-root.invariant.visits past
