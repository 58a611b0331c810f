-- What the words of a command line ask for (this project's own).
use Rattle.std.specs.Prelude.{⊤, ◌≤◌, ℕ, ◌-◌, ◌^◌, List, [], ◌∷◌, Option, Some, None, Bool, ◌&&◌, nat_le, if◌then◌else◌}
use Rattle.std.specs.Option.{option_map}
use Rattle.std.specs.Str.{bytes_eq}
use lib.Chars.{codes}
use Rattle.htss_defs.specs.declared.shape.Shape.{Shape}
use Rattle.htss_defs.specs.Shapes.{IsShape}
use Rattle.script_text.specs.Grammar.{number_below}
use Rattle.command_words.specs.Arguments.{Argument, Options, arguments, has_flag, operands, option_value}
use Rattle.command_words.specs.declared.command.Command.{Command}
use Rattle.command_words.specs.declared.command.Command.TheVariants.{Audit, Check, Codes, Find, Make, Run}

-- to find the records of an SDfile into which a query embeds, under a budget; to check the records of an SDfile; to
-- tell the codes of the atoms of a molfile; to make a file of records; to run a script on a registry; to audit a report
-- of such a run
pub data Task : Type 0 where
  find_in : (sdf query : List ℕ) (budget : ℕ) → Task
  check_of : (sdf : List ℕ) → Task
  codes_of : (mol : List ℕ) → Task
  make_of : (count seed : ℕ) (summary : Bool) → Task
  run_of : (script : List ℕ) (shape : Shape) (budget : ℕ) → Task
  audit_of : (script report : List ℕ) → Task

-- ---- numbers

-- the value of 1 to 20 digits, leading zeros allowed, where it lies between these
abbrev pub within : ℕ → ℕ → Option ℕ → Option ℕ
within least most None = None
within least most (Some n) = if nat_le least n && nat_le n most then Some n else None

unfoldable pub number_in : ℕ → ℕ → List ℕ → Option ℕ
number_in least most word = within least most (number_below 20 (2 ^ 64) word)

-- the number that an option gives, or the one that stands for it where it is not given
abbrev pub given_or : ℕ → ℕ → ℕ → Option (List ℕ) → Option ℕ
given_or default least most None = Some default
given_or default least most (Some word) = number_in least most word

-- 0 to 2^64 - 1, or 10,000,000,000
abbrev pub budget_given : List Argument → Option ℕ
budget_given arguments = given_or 10000000000 0 (2 ^ 64 - 1) (option_value (codes "budget") arguments)

-- ---- the commands

abbrev pub no_options : Options
no_options = record { valued = []; flags = [] }

abbrev pub find_options : Options
find_options = record { valued = codes "budget" ∷ []; flags = [] }

abbrev pub make_options : Options
make_options = record { valued = []; flags = codes "summary" ∷ [] }

abbrev pub run_options : Options
run_options = record {
  valued = codes "loaders" ∷ codes "searchers" ∷ codes "pages" ∷ codes "room" ∷ codes "log" ∷ codes "chain"
      ∷ codes "budget" ∷ [];
  flags = [];
}

abbrev pub find_with : List (List ℕ) → Option ℕ → Option Task
find_with (sdf ∷ query ∷ []) (Some budget) = Some (find_in sdf query budget)
find_with _ _ = None

abbrev pub find_task : Option (List Argument) → Option Task
find_task None = None
find_task (Some arguments) = find_with (operands arguments) (budget_given arguments)

-- the one word, where there is one and no other
abbrev pub only : List (List ℕ) → Option (List ℕ)
only (word ∷ []) = Some word
only _ = None

-- the one file of a command without options
abbrev pub one_file : Option (List Argument) → Option (List ℕ)
one_file None = None
one_file (Some arguments) = only (operands arguments)

abbrev pub make_with : Option ℕ → Option ℕ → Bool → Option Task
make_with (Some count) (Some seed) summary = Some (make_of count seed summary)
make_with _ _ summary = None

abbrev pub make_words : List (List ℕ) → Bool → Option Task
make_words (count ∷ seed ∷ []) summary = make_with (number_in 1 100000 count) (number_in 0 (2 ^ 64 - 1) seed) summary
make_words _ summary = None

abbrev pub make_task : Option (List Argument) → Option Task
make_task None = None
make_task (Some arguments) = make_words (operands arguments) (has_flag (codes "summary") arguments)

-- the shape, where each of its numbers is given and in its limits, or left out
abbrev pub shape_of : Option ℕ → Option ℕ → Option ℕ → Option ℕ → Option ℕ → Option ℕ → Option Shape
shape_of (Some loaders) (Some searchers) (Some pages) (Some room) (Some log) (Some chain) =
    Some (record { loaders = loaders; searchers = searchers; pages = pages; room = room; log = log; chain = chain })
shape_of _ _ _ _ _ _ = None

-- the shape that the values of options give
abbrev pub shape_said : (List ℕ → Option (List ℕ)) → Option Shape
shape_said value =
    shape_of
    (given_or 2 1 16 (value (codes "loaders")))
    (given_or 2 1 16 (value (codes "searchers")))
    (given_or 1048576 16 4194304 (value (codes "pages")))
    (given_or 4194304 10 16777216 (value (codes "room")))
    (given_or 1048576 1 1048576 (value (codes "log")))
    (given_or 65535 2 65535 (value (codes "chain")))

abbrev pub run_with : Option (List ℕ) → Option Shape → Option ℕ → Option Task
run_with (Some script) (Some shape) (Some budget) = Some (run_of script shape budget)
run_with _ _ _ = None

abbrev pub run_task : Option (List Argument) → Option Task
run_task None = None
run_task (Some arguments) = run_with (only (operands arguments)) (shape_said (λ name. option_value name arguments))
    (budget_given arguments)

abbrev pub audit_with : List (List ℕ) → Option Task
audit_with (script ∷ report ∷ []) = Some (audit_of script report)
audit_with _ = None

abbrev pub audit_task : Option (List Argument) → Option Task
audit_task None = None
audit_task (Some arguments) = audit_with (operands arguments)

-- the task of the words after the program's name, of which the first is the command, where they are a command line
unfoldable pub task_of : List (List ℕ) → Option Task
task_of [] = None
task_of (command ∷ words) =
    if bytes_eq command (codes "find") then find_task (arguments find_options words)
    else (if bytes_eq command (codes "check") then option_map check_of (one_file (arguments no_options words))
    else (if bytes_eq command (codes "codes") then option_map codes_of (one_file (arguments no_options words))
    else (if bytes_eq command (codes "make") then make_task (arguments make_options words)
    else (if bytes_eq command (codes "run") then run_task (arguments run_options words)
    else (if bytes_eq command (codes "audit") then audit_task (arguments no_options words)
    else None)))))

-- the task of a command of the code
abbrev pub command_task : Command → Task
command_task (Find sdf query budget) = find_in sdf.now query.now budget
command_task (Check sdf) = check_of sdf.now
command_task (Codes mol) = codes_of mol.now
command_task (Make count seed summary) = make_of count seed summary
command_task (Run script shape budget) = run_of script.now shape budget
command_task (Audit script report) = audit_of script.now report.now

-- the shape that a script runs on and the count of the records to be made are in their limits
abbrev pub IsInLimits : Command → Type 0
IsInLimits (Make count seed summary) = (1 ≤ count) × (count ≤ 100000)
IsInLimits (Run script shape budget) = IsShape shape
IsInLimits _ = ⊤
