use Rattle.std.proofs.Common.{sym, ◌∙◌}
use Rattle.std.proofs.lemmas.Bool.{false≢true}
use Rattle.env_cover.proofs.AtomCover.{neither, unallowed, unreached}
use Rattle.env_cover.proofs.cover.covers_atom.Goals as goal

pub returns-then-not-allows-clause-covers : goal.returns-then-not-allows-clause-covers
returns-then-not-allows-clause-covers c = neither _ (unallowed c.args.need.now c.args.mol.now c.atoms.result.now c.args.atom c.atoms.ensures.items c.atoms.ensures.valid c.requires.some c.requires.within (sym c.allows.ensures ∙ c.if-not-allows.true))

pub returns-then-not-reaches-clause-covers : goal.returns-then-not-reaches-clause-covers
returns-then-not-reaches-clause-covers c = neither _ (unreached c.args.need.now c.args.mol.now c.args.atom c.own_word.result c.own_word.ensures (λ has. false≢true (sym c.if-not-reaches.true ∙ c.reaches.ensures.1 has)))
