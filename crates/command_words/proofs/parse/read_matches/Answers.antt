use Rattle.std.proofs.Common.{sym, not, ◌∙◌, map, string_bytes}
use Rattle.clap.specs.Simple.{app_of}
use Rattle.command_words.specs.Arguments.{is_stray, kind_of_word}
use Rattle.command_words.specs.ClapCommand.{options_of}
use Rattle.command_words.proofs.ClapReading.{all_texts, is_free, left_err, left_none, left_some}
use Rattle.command_words.proofs.parse.read_matches.Goals as goal

pub returns-then-not-has_no_stray : goal.returns-then-not-has_no_stray
returns-then-not-has_no_stray c =
    let o = options_of c.args.valued.now c.args.flags.now in
    left_none o c.requires (map string_bytes c.args.words.now)
    (sym (c.has_no_stray.ensures ∙ all_texts (λ word. not (is_stray (kind_of_word o word))) string_bytes c.args.words.now) ∙ c.if-not-has_no_stray.true)

pub returns-in-Ok : goal.returns-in-Ok
returns-in-Ok c =
    let o = options_of c.args.valued.now c.args.flags.now in
    left_some o c.requires (map string_bytes c.args.words.now)
    (sym (c.has_no_stray.ensures ∙ all_texts (λ word. not (is_stray (kind_of_word o word))) string_bytes c.args.words.now) ∙ c.if-not-has_no_stray.false)
    (app_of c.in_ok-command.command) c.in_ok-command.ensures c.in-Ok.matches c.in-Ok.ensures.matches
    (c.in-Ok.ensures.kinds (is_free o c.requires (map string_bytes c.args.words.now) (app_of c.in_ok-command.command) c.in_ok-command.ensures))

pub returns : goal.returns
returns c =
    let o = options_of c.args.valued.now c.args.flags.now in
    left_err o c.requires (map string_bytes c.args.words.now)
    (sym (c.has_no_stray.ensures ∙ all_texts (λ word. not (is_stray (kind_of_word o word))) string_bytes c.args.words.now) ∙ c.if-not-has_no_stray.false)
    (app_of c.in_ok-command.command) c.in_ok-command.ensures c.in-Err.error
    (c.in-Err.ensures.kinds (is_free o c.requires (map string_bytes c.args.words.now) (app_of c.in_ok-command.command) c.in_ok-command.ensures))
    (λ memory. c.in_default.not-OutOfMemory (c.kind.ensures ∙ memory))
