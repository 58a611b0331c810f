use Rattle.std.proofs.Common.{◌≡◌, ◌++◌, take}
use Rattle.std.specs.List.{flat_map}
use Rattle.script_text.specs.Generator.{atom_line}
use Rattle.script_text.proofs.making.append_atoms.Given as goal

abbrev pub invariant-loop-atom : goal.invariant-loop-atom
invariant-loop-atom l = l.text.items ≡ l.initial.text.items ++ flat_map atom_line (take l.atom-index l.tree)
