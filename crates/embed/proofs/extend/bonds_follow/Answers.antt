use Rattle.std.proofs.Common.{sym, ◌∙◌, inl, inr}
use Rattle.std.proofs.lemmas.Bool.{cases_Bool}
use Rattle.embed.proofs.Lands.{no_bond}
use Rattle.embed.proofs.Anchors.{follows, follows-not}
use Rattle.embed.proofs.extend.bonds_follow.Goals as goal

pub returns-then-bond_passes : goal.returns-then-bond_passes
returns-then-bond_passes c = elim (cases_Bool c.bonds_keep.result) [
  | inl kept ↦ kept ∙ sym (follows c.args.target.now.query.now c.args.target.now.mol.now _ _ c.args.map.now
      c.args.anchor c.args.p c.args.k no_bond _ _ c.requires.valid c.bonds.ensures.valid c.args.target.now.bonds_is
      c.args.target.now.asked_is c.requires.anchor c.requires.joined c.bonds.ensures.items c.bond_passes.ensures
      c.if-bond_passes.true (c.bonds_keep.ensures.kept kept))
  | inr lost ↦ lost ∙ sym (c.bonds_keep.ensures.lost lost)
]

pub returns-else-bond_passes : goal.returns-else-bond_passes
returns-else-bond_passes c = c.if-bond_passes.false
    ∙ sym (follows-not c.args.target.now.query.now c.args.target.now.mol.now _ _ c.args.map.now
    c.args.anchor c.args.p c.args.k no_bond _ _ c.requires.valid c.bonds.ensures.valid c.args.target.now.bonds_is
    c.requires.anchor c.requires.joined c.bonds.ensures.items c.bond_passes.ensures c.if-bond_passes.false)
