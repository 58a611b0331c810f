use Rattle.std.proofs.Common.{All, subst}
use Rattle.std.proofs.lemmas.List.{take_all}
use Rattle.std.proofs.lemmas.List.Elements.{All-more}
use Rattle.report_text.specs.Typed.{IsTypedLoadLine}
use Rattle.report_text.proofs.typed.are_load_lines.Goals as goal

pub loop-answer-preserved : goal.loop-answer-preserved
loop-answer-preserved c =
    All-more IsTypedLoadLine c.args.answers.now c.loop-answer.answer-index c.answer-item.result c.loop-answer-test.true c.loop-answer.invariant
    (subst IsTypedLoadLine c.answer-item.is c.is_load_line.ensures)

pub returns : goal.returns
returns c = subst (All IsTypedLoadLine) (take_all c.loop-answer.answer-index c.args.answers.now c.loop-answer-test.false) c.loop-answer.invariant
