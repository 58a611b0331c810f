use Rattle.std.proofs.Common.{sym}
use Rattle.embed.proofs.Lands.{no_bond, bond_lands-none, bond_lands-found}
use Rattle.embed.proofs.extend.bond_lands.Goals as goal

pub returns-in-Some : goal.returns-in-Some
returns-in-Some c = bond_lands-found _ _ c.args.asked _ _ c.in-Some.k no_bond _ _ c.bonds.ensures.valid
    c.args.target.now.bonds_is c.in-Some.ensures.some c.bonds.ensures.items c.bond_passes.ensures

pub returns-in-None : goal.returns-in-None
returns-in-None c = sym (bond_lands-none _ _ c.args.asked _ _ c.args.target.now.bonds_is c.in-None.ensures.none)
