use Rattle.htss_defs.specs.Molecule.{Molecule}
use Rattle.env_code.specs.Coders.{IsCoder}
use Rattle.matching_tests.proofs.codes.stops_at_255.Given as goal

abbrev pub invariant-loop-hydrogen : goal.invariant-loop-hydrogen
invariant-loop-hydrogen l =
    let mol : Molecule = record { atoms = l.mol-inside.atoms.items; bonds = l.mol-inside.bonds.items } in
    IsCoder mol l.coder
