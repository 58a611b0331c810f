use Rattle.std.proofs.lemmas.Bool.{false≢true}
use Rattle.htss_defs.specs.QueryGraph.{IsQuery}
use Rattle.tool_commands.proofs.PlainRing.{plain_ring-is}
use Rattle.tool_commands.proofs.generate.plain_ring.Goals as goal

pub unreachable-requires : goal.unreachable-requires
unreachable-requires c =
    let is : IsQuery (record { atoms = c.in_ok-atoms.atoms.items; bonds = c.in_ok-bonds.bonds.items }) =
    rw (c.in_ok-atoms.ensures.items, c.in_ok-bonds.ensures.items, c.ring_bond.ensures, c.ring_bond-2.ensures, c.ring_bond-3.ensures, c.ring_bond-4.ensures, c.ring_bond-5.ensures, c.ring_bond-6.ensures) plain_ring-is in
    false≢true (c.in-None.ensures.some.1 is)
