-- How many insertions the answers to the records of loads may have begun: one an atom (this project's own).
use Rattle.std.specs.Prelude.{ℕ, List, length, sum_by}
use Rattle.report_rules.specs.Answers.{Answer, to_record, taken}
use Rattle.report_rules.specs.Rules.{Line}

-- the atoms of the record that a load has answered to, where its file has one
abbrev pub atoms_taken : Answer → ℕ
atoms_taken (to_record (taken one fate)) = length one.mol.atoms
atoms_taken _ = 0

-- those of all accepted records of which these lines tell: a file that is loaded twice counts twice
abbrev pub atoms_loaded : List Line → ℕ
atoms_loaded lines = sum_by (λ line. atoms_taken line.answer) lines
