use Rattle.std.proofs.Common.{◌+◌, ◌-◌, ◌≤◌}
use Rattle.script_text.specs.Generator.{made_file, records_from, IsMadeTo}
use Rattle.script_text.proofs.making.make_file.Given as goal

abbrev pub invariant-loop-place : goal.invariant-loop-place
invariant-loop-place g l = record {
  made : IsMadeTo (g.K.Sink.written l.fn.out) (g.K.Sink.written l.out) (made_file l.count l.seed) (records_from (l.count - l.place) (l.place + 1) l.state);
  faults : g.K.Sink.faults l.fn.out ≤ g.K.Sink.faults l.out;
}
