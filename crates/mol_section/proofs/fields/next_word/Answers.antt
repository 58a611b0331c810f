use Rattle.std.proofs.Common.{arith}
use Rattle.mol_section.proofs.Texts.{words_of-nil, only_word, first_word}
use Rattle.mol_section.proofs.fields.next_word.Goals as goal

pub returns-then-is_empty-clause-none : goal.returns-then-is_empty-clause-none
returns-then-is_empty-clause-none c = words_of-nil _ _ c.trim_front-text.ensures.text (grind (arith, c.is_empty.ensures, c.if-is_empty.true))

pub returns-in-None-clause-word : goal.returns-in-None-clause-word
returns-in-None-clause-word c = only_word _ _ c.trim_front-text.ensures.text (grind (arith, c.is_empty.ensures, c.if-is_empty.false)) c.in-None.ensures.missing

pub returns-in-Some-clause-word : goal.returns-in-Some-clause-word
returns-in-Some-clause-word c =
    rw (c.split_at.ensures.front, c.split_at.ensures.back) (first_word _ _ _ c.trim_front-text.ensures.text c.in-Some.ensures.within c.in-Some.ensures.found c.in-Some.ensures.first)
