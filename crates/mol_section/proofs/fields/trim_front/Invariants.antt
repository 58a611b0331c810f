use Rattle.std.proofs.Common.{◌≡◌, ◌≤◌, length}
use Rattle.mol_section.specs.Fields.{trim_front}
use Rattle.mol_section.proofs.fields.trim_front.Given as goal

abbrev pub invariant-loop-rest : goal.invariant-loop-rest
invariant-loop-rest l = record {
  same : trim_front l.rest ≡ trim_front l.text;
  short : length l.rest ≤ length l.text;
}

abbrev pub decreases-loop-rest : goal.decreases-loop-rest
decreases-loop-rest l = length l.rest
