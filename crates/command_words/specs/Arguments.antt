-- What the words after a command say (this project's own).
use Rattle.std.specs.Prelude.{ℕ, List, [], ◌∷◌, map, Option, Some, None, Bool, true, false, not, ◌&&◌, ◌||◌, ◌==◌}
use Rattle.std.specs.Prelude.{if◌then◌else◌}
use Rattle.std.specs.List.{list_all, list_any}
use Rattle.std.specs.Option.{option_map}
use Rattle.std.specs.Str.{bytes_eq}

-- a word that stands by itself, an option with its value, or an option that takes none
pub data Argument : Type 0 where
  operand : (word : List ℕ) → Argument
  option : (name value : List ℕ) → Argument
  flag : (name : List ℕ) → Argument

-- the options of a command that take a value, and those that take none
pub record Options : Type 0 where
  pub valued : List (List ℕ)
  pub flags : List (List ℕ)

abbrev pub is_one_of : List (List ℕ) → List ℕ → Bool
is_one_of names name = list_any (λ one. bytes_eq one name) names

-- what stands before the first `=`, and what stands after it, where there is one
abbrev pub before_equals : List ℕ → List ℕ
before_equals [] = []
before_equals (b ∷ bs) = if b == 61 then [] else b ∷ before_equals bs

abbrev pub after_equals : List ℕ → Option (List ℕ)
after_equals [] = None
after_equals (b ∷ bs) = if b == 61 then Some bs else after_equals bs

-- what a word is by itself: `alone` is an option whose value is the next word
pub data Word : Type 0 where
  plain : (word : List ℕ) → Word
  alone : (name : List ℕ) → Word
  with_value : (name value : List ℕ) → Word
  switch : (name : List ℕ) → Word
  stray : Word

-- a word that begins with `--`, by what follows on that
abbrev pub option_word : Options → List ℕ → Option (List ℕ) → Word
option_word options name (Some value) = if is_one_of options.valued name then with_value name value else stray
option_word options name None =
    if is_one_of options.valued name then alone name
    else (if is_one_of options.flags name then switch name
    else stray)

-- a word that is empty, is `--`, or begins with `-` and is no option of the command, is a stray one
abbrev pub kind_of_word : Options → List ℕ → Word
kind_of_word options [] = stray
kind_of_word options (first ∷ []) = if first == 45 then stray else plain (first ∷ [])
kind_of_word options (first ∷ second ∷ rest) =
    if not (first == 45) then plain (first ∷ second ∷ rest)
    else (if second == 45 then option_word options (before_equals rest) (after_equals rest)
    else stray)

abbrev pub is_stray : Word → Bool
is_stray stray = true
is_stray _ = false

-- no word is a stray one
abbrev pub has_no_stray : Options → List (List ℕ) → Bool
has_no_stray options words = list_all (λ word. not (is_stray (kind_of_word options word))) words

-- the arguments that the words spell, where they spell any: `--x v` and `--x=v` are the same
abbrev pub arguments_of : List Word → Option (List Argument)
arguments_of [] = Some []
arguments_of (plain word ∷ words) = option_map (λ rest. operand word ∷ rest) (arguments_of words)
arguments_of (with_value name value ∷ words) = option_map (λ rest. option name value ∷ rest) (arguments_of words)
arguments_of (switch name ∷ words) = option_map (λ rest. flag name ∷ rest) (arguments_of words)
arguments_of (alone name ∷ plain value ∷ words) = option_map (λ rest. option name value ∷ rest) (arguments_of words)
arguments_of (alone name ∷ _) = None
arguments_of (stray ∷ words) = None

-- the words that stand by themselves
abbrev pub operands : List Argument → List (List ℕ)
operands [] = []
operands (operand word ∷ arguments) = word ∷ operands arguments
operands (option name value ∷ arguments) = operands arguments
operands (flag name ∷ arguments) = operands arguments

-- the names of the options
abbrev pub names : List Argument → List (List ℕ)
names [] = []
names (operand word ∷ arguments) = names arguments
names (option name value ∷ arguments) = name ∷ names arguments
names (flag name ∷ arguments) = name ∷ names arguments

-- each option stands at most once
abbrev pub are_distinct : List (List ℕ) → Bool
are_distinct [] = true
are_distinct (name ∷ others) = not (is_one_of others name) && are_distinct others

-- the value of an option, where it stands
abbrev pub option_value : List ℕ → List Argument → Option (List ℕ)
option_value asked [] = None
option_value asked (operand word ∷ arguments) = option_value asked arguments
option_value asked (option name value ∷ arguments) =
    if bytes_eq name asked then Some value else option_value asked arguments
option_value asked (flag name ∷ arguments) = option_value asked arguments

-- an option that takes no value stands
abbrev pub has_flag : List ℕ → List Argument → Bool
has_flag asked [] = false
has_flag asked (operand word ∷ arguments) = has_flag asked arguments
has_flag asked (option name value ∷ arguments) = has_flag asked arguments
has_flag asked (flag name ∷ arguments) = bytes_eq name asked || has_flag asked arguments

-- the arguments of a command with these options, each at most once
abbrev pub once_each : Option (List Argument) → Option (List Argument)
once_each None = None
once_each (Some arguments) = if are_distinct (names arguments) then Some arguments else None

unfoldable pub arguments : Options → List (List ℕ) → Option (List Argument)
arguments options words = once_each (arguments_of (map (kind_of_word options) words))
