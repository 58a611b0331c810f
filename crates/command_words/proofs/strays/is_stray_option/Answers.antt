use Rattle.std.proofs.Common.{ap, ap₂, sym, ◌∙◌, ◌&&◌, not, option_map, Bool}
use Rattle.std.specs.Prelude.{Option}
use Rattle.std.specs.Borrow.{Bor}
use Rattle.command_words.specs.Arguments.{is_one_of}
use Rattle.command_words.specs.ClapCommand.{options_of}
use Rattle.command_words.proofs.Texts.{Text}
use Rattle.command_words.proofs.StrayWords.{stray_alone, stray_with_value}
use Rattle.command_words.proofs.strays.is_stray_option.Goals as goal

pub returns-in_default-Some : goal.returns-in_default-Some
returns-in_default-Some c =
    ap not c.is_one_of.ensures
    ∙ stray_with_value (options_of c.args.valued.now c.args.flags.now) c.args.text.now c.split_value.result.0.now c.in_default-Some.field-0-1.now
    (ap (λ (v : Option (Bor Text)). (c.split_value.result.0.now, option_map (λ s. s.now) v)) (sym c.in_default-Some.is-1) ∙ c.split_value.ensures)

pub returns-then-not-is_one_of : goal.returns-then-not-is_one_of
returns-then-not-is_one_of c =
    let none = sym c.if-not-is_one_of.true ∙ c.is_one_of-in_default-None.ensures in
    ap₂ (λ (a b : Bool). not a && not b) none c.is_one_of-then-not-is_one_of.ensures
    ∙ stray_alone (options_of c.args.valued.now c.args.flags.now) c.args.text.now c.split_value.result.0.now
    (ap (λ (v : Option (Bor Text)). (c.split_value.result.0.now, option_map (λ s. s.now) v)) (sym c.in_default-None.is-1) ∙ c.split_value.ensures)

pub returns-else-not-is_one_of : goal.returns-else-not-is_one_of
returns-else-not-is_one_of c =
    let some = sym c.if-not-is_one_of.false ∙ c.is_one_of-in_default-None.ensures in
    ap not c.if-not-is_one_of.false ∙ ap (λ (a : Bool). not a && not (is_one_of (options_of c.args.valued.now c.args.flags.now).flags c.split_value.result.0.now)) some
    ∙ stray_alone (options_of c.args.valued.now c.args.flags.now) c.args.text.now c.split_value.result.0.now
    (ap (λ (v : Option (Bor Text)). (c.split_value.result.0.now, option_map (λ s. s.now) v)) (sym c.in_default-None.is-1) ∙ c.split_value.ensures)
