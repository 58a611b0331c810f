-- What clap makes of arguments, one by one.
use Rattle.std.proofs.Common.{◌&&◌, Bool, true, false, not, List, [], ◌∷◌}
use Rattle.clap.specs.Kinds.{Kinds, or_else}
use Rattle.clap.specs.Walk.{Row, used}
use Rattle.clap.specs.Faults.{use_fault}
use Rattle.command_words.specs.Arguments.{Argument, flag, is_one_of, operand}
use Rattle.command_words.specs.Arguments.{option as an_option}
use Rattle.command_words.proofs.Texts.{Text}
use Rattle.command_words.proofs.ClapRules.{flag_rule, valued_rule, words_rule}

abbrev pub used_by : Argument → List Row → List Row
used_by (operand word) rows = used words_rule (word ∷ []) rows
used_by (an_option name value) rows = used (valued_rule name) (value ∷ []) rows
used_by (flag name) rows = used (flag_rule name) [] rows

abbrev pub fault_by : Argument → List Row → Kinds
fault_by (operand word) rows = use_fault false words_rule (word ∷ []) rows
fault_by (an_option name value) rows = use_fault false (valued_rule name) (value ∷ []) rows
fault_by (flag name) rows = use_fault false (flag_rule name) [] rows

abbrev pub rows_with : List Argument → List Row → List Row
rows_with [] rows = rows
rows_with (a ∷ arguments) rows = rows_with arguments (used_by a rows)

abbrev pub faults_with : List Argument → List Row → Kinds
faults_with [] rows = []
faults_with (a ∷ arguments) rows = or_else (fault_by a rows) (faults_with arguments (used_by a rows))

-- the argument is one of the command's
abbrev pub is_known : List Text → List Text → Argument → Bool
is_known valued flags (operand word) = true
is_known valued flags (an_option name value) = is_one_of valued name
is_known valued flags (flag name) = not (is_one_of valued name) && is_one_of flags name
