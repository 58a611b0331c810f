use Rattle.std.proofs.Common.{◌^◌, sym, ap, ◌∙◌}
use Rattle.script_text.specs.Grammar.{is_numeral, number_below}
use Rattle.script_text.proofs.Numerals.{number_below-none, number_below-parsed, numeral_utf8, read_value}
use Rattle.script_text.proofs.numbers.record_number.Goals as goal

pub returns-then-not-is_numeral : goal.returns-then-not-is_numeral
returns-then-not-is_numeral c = sym (number_below-none 10 _ _ (sym c.is_numeral.ensures ∙ c.if-not-is_numeral.true))

pub text_of-requires : goal.text_of-requires
text_of-requires c = numeral_utf8 10 _ (sym c.is_numeral.ensures ∙ c.if-not-is_numeral.false)

pub returns-in-Ok : goal.returns-in-Ok
returns-in-Ok c =
    let is = ap (is_numeral 10) c.text_of.ensures ∙ sym c.is_numeral.ensures ∙ c.if-not-is_numeral.false in
    sym (ap read_value c.in-Ok.is) ∙ number_below-parsed 10 32 _ c.parse.result is c.parse.ensures.value.0 ∙ ap (number_below 10 (2 ^ 32)) c.text_of.ensures

pub returns-in-Err : goal.returns-in-Err
returns-in-Err c =
    let is = ap (is_numeral 10) c.text_of.ensures ∙ sym c.is_numeral.ensures ∙ c.if-not-is_numeral.false in
    sym (ap read_value c.in-Err.is) ∙ number_below-parsed 10 32 _ c.parse.result is c.parse.ensures.value.0 ∙ ap (number_below 10 (2 ^ 32)) c.text_of.ensures
