use Rattle.std.proofs.Common.{◌++◌, ap, ◌∙◌, append_assoc}
use Rattle.std.proofs.lemmas.Result.{on_ok_weaker}
use Rattle.hit_report.specs.RecordLines.{query_refused_line, refusal_text}
use Rattle.hit_report.proofs.record_lines.append_query_refused.Goals as goal

pub returns-clause-ok : goal.returns-clause-ok
unfolding query_refused_line
returns-clause-ok c = on_ok_weaker c.append_refusal.result
    (λ grown. grown ∙ ap (λ x. x ++ refusal_text c.args.line c.args.code) c.in_ok-append_bytes.ensures.ok ∙ append_assoc c.args.text.now.items _ (refusal_text c.args.line c.args.code))
    c.append_refusal.ensures.ok
