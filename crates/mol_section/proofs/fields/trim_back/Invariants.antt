use Rattle.std.proofs.Common.{◌≡◌, ◌≤◌, length, reverse}
use Rattle.mol_section.specs.Fields.{trim_front}
use Rattle.mol_section.proofs.fields.trim_back.Given as goal

abbrev pub invariant-loop-rest : goal.invariant-loop-rest
invariant-loop-rest l = record {
  same : reverse (trim_front (reverse l.rest)) ≡ reverse (trim_front (reverse l.text));
  short : length l.rest ≤ length l.text;
}

abbrev pub decreases-loop-rest : goal.decreases-loop-rest
decreases-loop-rest l = length l.rest
