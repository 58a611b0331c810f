use Rattle.std.proofs.Common.{◌∙◌}
use Rattle.report_lines.proofs.WordsRead.{all_front, dropped_back, none_back, taken_front}
use Rattle.report_lines.proofs.words.cut_word.Goals as goal

pub returns-in-None-clause-word : goal.returns-in-None-clause-word
returns-in-None-clause-word c = all_front c.args.text.now c.in-None.ensures.missing

pub returns-in-None-clause-rest : goal.returns-in-None-clause-rest
returns-in-None-clause-rest c = none_back c.args.text.now c.in-None.ensures.missing

pub returns-in-Some-clause-word : goal.returns-in-Some-clause-word
returns-in-Some-clause-word c =
    c.split_at.ensures.front ∙ taken_front c.args.text.now c.in-Some.end c.in-Some.ensures.within c.in-Some.ensures.found c.in-Some.ensures.first

pub returns-in-Some-clause-rest : goal.returns-in-Some-clause-rest
returns-in-Some-clause-rest c =
    c.split_at.ensures.back ∙ dropped_back c.args.text.now c.in-Some.end c.in-Some.ensures.within c.in-Some.ensures.found c.in-Some.ensures.first
