use Rattle.std.proofs.Common.{◌≡◌, ◌++◌, ◌-◌}
use Rattle.env_code.specs.Coders.{IsCoder}
use Rattle.tool_commands.proofs.CodesLines.{first_lines}
use Rattle.tool_commands.proofs.codes.push_lines.Given as goal

abbrev pub invariant-loop-atom : goal.invariant-loop-atom
invariant-loop-atom l = record {
  loaded : IsCoder l.mol l.coder;
  lines : l.text.items ≡ l.initial.text.items ++ first_lines l.mol (l.atom - 1);
}
