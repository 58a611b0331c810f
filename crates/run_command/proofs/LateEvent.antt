-- A report where a line of group 1 says that the log is full, and a line of group 2 adds the event that fills it, breaks the rule of the second line.
use Rattle.std.proofs.Common.{◌<◌, [], ◌∷◌, arith}
use Rattle.htss_defs.specs.declared.shape.Shape.{Shape}
use Rattle.htss_defs.specs.declared.history.Event.TheVariants.{Publish}
use Rattle.htss_defs.specs.declared.record.NamedMol.{NamedMol}
use Rattle.report_rules.specs.Answers.{to_record, published, log_full, taken}
use Rattle.report_rules.specs.Dealing.{loader}
use Rattle.report_rules.specs.Rules.{Line, KeepsRule}

abbrev pub full : NamedMol → Line
full one = record { group = 1; caller = loader 1; answer = to_record (taken one (log_full 1)) }

abbrev pub adds : NamedMol → Line
adds one = record { group = 2; caller = loader 2; answer = to_record (taken one (published 1)) }

pub late_event : (k : Shape) (one : NamedMol) → KeepsRule k (Publish 2 one.name one.mol ∷ []) (full one ∷ []) (adds one) → ⊥
late_event k one kept =
    let marks = kept.1.groups 0 (full one) (omega arith) (omega arith) in
    let below : 1 < 1 = marks 0 0 (omega arith) in omega (arith, below)
