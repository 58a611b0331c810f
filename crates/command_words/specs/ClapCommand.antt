-- The command of `clap` that reads words once none of them is a stray one, and what its matches say.
use Rattle.std.specs.Prelude.{◌≡◌, ⊤, ℕ, List, [], Option, Some, None, true, false, fold, map, option_map, unwrap_or}
use Rattle.std.specs.Prelude.{if◌then◌else◌, codes}
use Rattle.std.specs.Borrow.{Bor}
use Rattle.clap.specs.Matches.{first_value, found_of, matched_of, one_text, raw_values}
use Rattle.clap.specs.Walk.{Rule}
use Rattle.clap.specs.Simple.{App, new_app, new_rule, on_top, with_rule}
use Rattle.clap.specs.declared.builder.action.ArgAction.TheVariants.{Append, SetTrue}
use Rattle.clap.specs.declared.parser.matches.ArgMatches.{ArgMatches}
use Rattle.command_words.specs.Arguments.{Argument, Options, has_flag, is_one_of, operands, option_value}

-- the options with these names
abbrev pub options_of : List (Bor (List ℕ)) → List (Bor (List ℕ)) → Options
options_of valued flags = record { valued = map (λ s. s.now) valued; flags = map (λ s. s.now) flags }

-- the words that are no option
abbrev pub words_argument : Rule
words_argument = record (new_rule (codes "words")) { action = Some Append }

abbrev pub valued_argument : List ℕ → Rule
valued_argument name = record (new_rule name) { long = Some name }

abbrev pub flag_argument : List ℕ → Rule
flag_argument name = record (new_rule name) { long = Some name; action = Some SetTrue }

abbrev pub words_app : App
words_app = with_rule (on_top (λ s. record s { no_binary_name = true; disable_help_flag = true })
    (new_app (codes "htss"))) words_argument

abbrev pub with_valued : App → List (List ℕ) → App
with_valued app valued = fold (λ a name. with_rule a (valued_argument name)) app valued

abbrev pub with_flags : App → List (List ℕ) → App
with_flags app flags = fold (λ a name. with_rule a (flag_argument name)) app flags

-- the command with these options
abbrev pub app_for : Options → App
app_for options = with_flags (with_valued words_app options.valued) options.flags

-- the words that the matches hold, which are no option
abbrev pub words_said : ArgMatches → List (List ℕ)
words_said matches = unwrap_or (option_map raw_values (matched_of (found_of matches) (codes "words"))) []

-- the value that the matches hold for an option
abbrev pub value_said : ArgMatches → List ℕ → Option (List ℕ)
value_said matches name = first_value (found_of matches) name

-- the matches say what the arguments do
pub record SaysArguments (options : Options) (matches : ArgMatches) (arguments : List Argument) : Type 0 where
  pub words : words_said matches ≡ operands arguments
  pub value : (name : List ℕ) → is_one_of options.valued name ≡ true → is_one_of options.flags name ≡ false
      → value_said matches name ≡ option_value name arguments
  pub flag : (name : List ℕ) → is_one_of options.valued name ≡ false → is_one_of options.flags name ≡ true
      → one_text (found_of matches) name ≡ Some (if has_flag name arguments then codes "true" else codes "false")

-- there are matches exactly where there are arguments, and they say the same
abbrev pub AreMatchesOf : Options → Option (List Argument) → Option ArgMatches → Type 0
AreMatchesOf options None None = ⊤
AreMatchesOf options (Some arguments) (Some matches) = SaysArguments options matches arguments
AreMatchesOf options _ _ = ⊥

-- what the command needs of the names of options: none is empty or that of the other words
abbrev pub AreNames : Options → Type 0
AreNames options = (is_one_of options.valued [] ≡ false) × (is_one_of options.flags [] ≡ false)
    × (is_one_of options.valued (codes "words") ≡ false) × (is_one_of options.flags (codes "words") ≡ false)
