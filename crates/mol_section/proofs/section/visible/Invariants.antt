use Rattle.std.proofs.Common.{◌≡◌, map, take}
use Rattle.mol_section.specs.Names.{visible_byte}
use Rattle.mol_section.proofs.section.visible.Given as goal

abbrev pub invariant-loop-byte : goal.invariant-loop-byte
invariant-loop-byte l = l.text.items ≡ map visible_byte (take l.byte-index l.byte-items)
