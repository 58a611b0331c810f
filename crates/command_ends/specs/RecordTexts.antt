-- What is printed of the records of a file (this project's own).
use Rattle.std.specs.Prelude.{ℕ, ◌+◌, List, [], ◌∷◌, ◌++◌, length}
use Rattle.std.specs.List.{flat_map, range_with_len}
use Rattle.htss_defs.specs.declared.record.NamedMol.{NamedMol}
use Rattle.htss_defs.specs.Molecule.{Molecule}
use Rattle.htss_defs.specs.Codes.{codes_at}
use Rattle.mol_section.specs.SectionRecord.{Outcome, accepted, refused}
use Rattle.hit_report.specs.RecordLines.{ok_line, refused_line, records_line}
use Rattle.hit_report.specs.CodesLines.{codes_line}

-- the records that are accepted, in order
abbrev pub accepted_records : List Outcome → List NamedMol
accepted_records [] = []
accepted_records (accepted name mol ∷ outcomes) = record { name = name; mol = mol } ∷ accepted_records outcomes
accepted_records (refused line code ∷ outcomes) = accepted_records outcomes

-- how many are refused
abbrev pub refused_count : List Outcome → ℕ
refused_count [] = 0
refused_count (accepted name mol ∷ outcomes) = refused_count outcomes
refused_count (refused line code ∷ outcomes) = refused_count outcomes + 1

-- the lines of the refused records among those from this place on
abbrev pub refused_lines : ℕ → List Outcome → List ℕ
refused_lines place [] = []
refused_lines place (accepted name mol ∷ outcomes) = refused_lines (place + 1) outcomes
refused_lines place (refused line code ∷ outcomes) = refused_line place line code ++ refused_lines (place + 1) outcomes

-- a line for each record from this place on
abbrev pub check_lines : ℕ → List Outcome → List ℕ
check_lines place [] = []
check_lines place (accepted name mol ∷ outcomes) = ok_line place (length mol.atoms) (length mol.bonds) name
    ++ check_lines (place + 1) outcomes
check_lines place (refused line code ∷ outcomes) = refused_line place line code ++ check_lines (place + 1) outcomes

-- the text of `check`
abbrev pub check_text : List Outcome → List ℕ
check_text outcomes = check_lines 1 outcomes ++ records_line (length outcomes) (length (accepted_records outcomes))
    (refused_count outcomes)

-- a line for each atom of a molecule
abbrev pub codes_lines : Molecule → List ℕ
codes_lines mol = flat_map (λ place. codes_line place (codes_at mol place)) (range_with_len 1 (length mol.atoms))

-- the text of `codes`
abbrev pub codes_text : Outcome → List ℕ
codes_text (accepted name mol) = codes_lines mol
codes_text (refused line code) = refused_line 1 line code
