use Rattle.std.proofs.Common.{◌≡◌, ℕ, take, drop, map, All}
use Rattle.mol_section.specs.AtomLines.{IsAtomFrom}
use Rattle.mol_section.specs.PropertyLines.{no_charge}
use Rattle.mol_section.proofs.properties.clear_charges.Given as goal

abbrev pub invariant-loop-i : goal.invariant-loop-i
invariant-loop-i l = record {
  cleared : take l.i l.atoms ≡ map no_charge (take l.i l.fn.atoms);
  left : drop l.i l.atoms ≡ drop l.i l.fn.atoms;
  valid : (least : ℕ) → All (IsAtomFrom least) l.fn.atoms → All (IsAtomFrom least) l.atoms;
}
