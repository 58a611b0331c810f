use Rattle.std.proofs.Common.{refl, sym, ◌∙◌, arith}
use Rattle.env_cover.proofs.AtomCover.{allowed-at, none-covers}
use Rattle.env_cover.proofs.cover.allows_some.Goals as goal

pub returns-then-allows-clause-allowed : goal.returns-then-allows-clause-allowed
returns-then-allows-clause-allowed c =
    (λ _. allowed-at c.args.need.now c.args.mol.now c.atoms-atom-items.result.now c.loop-atom.atom-index c.atoms-atom-items.ensures.items (omega arith) (sym c.allows.ensures ∙ c.if-allows.true), λ _. refl)

pub returns-clause-none : goal.returns-clause-none
returns-clause-none c _ = none-covers c.args.need.now c.args.mol.now c.atoms-atom-items.result.now c.atoms-atom-items.ensures.items c.atoms-atom-items.ensures.valid (λ k within. c.loop-atom.invariant k (omega arith))
