-- Worked examples of the record list, computed.
use Rattle.std.proofs.Common.{◌≡◌, ℕ, List, [], ◌∷◌, length, map, refl, pos}
use Rattle.std.specs.Prelude.{Option, None, Some, negsuc, false}
use Rattle.std.specs.List.{zip, range_with_len}
use lib.Chars.{codes}
use Rattle.mol_section.specs.Fields.{field, count_of, number_of, signed_of, words_of}
use Rattle.mol_section.specs.SectionLines.{kinds_of, refusal, symbol_value, charge_value, line_entries, listed_charge, listed_mass}
use Rattle.mol_section.specs.Lines.{lines_of, raw_lines}
use Rattle.mol_section.specs.SectionRecord.{molecule_of, name_of}

abbrev refusals : List (List ℕ) → List (Option ℕ)
refusals lines = map (λ (i, kind). refusal lines i kind) (zip (range_with_len 0 (length lines)) (kinds_of lines))

abbrev carbon : List ℕ
carbon = codes "c\n\n\n  1  0  0  0  0  0  0  0  0  0999 V2000\n    0.0000    0.0000    0.0000 C   0  0\nM  END\n"

carbon_passes : refusals (lines_of carbon) ≡ None ∷ None ∷ None ∷ None ∷ None ∷ None ∷ []
unfolding raw_lines field count_of number_of signed_of words_of symbol_value charge_value line_entries listed_charge listed_mass
carbon_passes = refl

carbon_molecule : molecule_of (lines_of carbon) ≡ record { atoms = record { element = 6; charge = pos 0; mass = 0 } ∷ []; bonds = [] }
unfolding raw_lines field count_of number_of signed_of words_of symbol_value charge_value line_entries listed_charge listed_mass
carbon_molecule = refl

cut_line : refusals (lines_of (codes "c\n\n\n  1  0  0  0  0  0  0  0  0  0999 V2000\n    0.0000    0.0000    0.0000 \nM  END\n")) ≡ None ∷ None ∷ None ∷ None ∷ Some 4 ∷ None ∷ []
unfolding raw_lines field count_of number_of signed_of words_of symbol_value charge_value line_entries listed_charge listed_mass
cut_line = refl

carriage_returns : refusals (lines_of (codes "c\r\n\r\n\r\n  1  0  0  0  0  0  0  0  0  0999 V2000\r\n    0.0000    0.0000    0.0000 C   0  0\r\nM  END\r\n")) ≡ None ∷ None ∷ None ∷ None ∷ None ∷ None ∷ []
unfolding raw_lines field count_of number_of signed_of words_of symbol_value charge_value line_entries listed_charge listed_mass
carriage_returns = refl

bond_type_five : refusals (lines_of (codes "\n\n\n  2  1  0  0  0  0  0  0  0  0999 V2000\n    0.0000    0.0000    0.0000 C   0  0\n    0.0000    0.0000    0.0000 C   0  0\n  1  2  5  0\nM  END\n")) ≡ None ∷ None ∷ None ∷ None ∷ None ∷ None ∷ Some 9 ∷ None ∷ []
unfolding raw_lines field count_of number_of signed_of words_of symbol_value charge_value line_entries listed_charge listed_mass
bond_type_five = refl

abbrev charged : List ℕ
charged = codes "\n\n\n  2  1  0  0  0  0  0  0  0  0999 V2000\n    0.0000    0.0000    0.0000 N   0  3\n    0.0000    0.0000    0.0000 O   0  0\n  1  2  1  0\nM  CHG  1   2  -1\nM  END\n"

charged_passes : refusals (lines_of charged) ≡ None ∷ None ∷ None ∷ None ∷ None ∷ None ∷ None ∷ None ∷ None ∷ []
unfolding raw_lines field count_of number_of signed_of words_of symbol_value charge_value line_entries listed_charge listed_mass
charged_passes = refl

charged_molecule : molecule_of (lines_of charged) ≡ record {
  atoms = record { element = 7; charge = pos 0; mass = 0 } ∷ record { element = 8; charge = negsuc 0; mass = 0 } ∷ [];
  bonds = record { first = 1; second = 2; kind = 1; ring = false } ∷ [];
}
unfolding raw_lines field count_of number_of signed_of words_of symbol_value charge_value line_entries listed_charge listed_mass
charged_molecule = refl

deuterium : molecule_of (lines_of (codes "\n\n\n  1  0  0  0  0  0  0  0  0  0999 V2000\n    0.0000    0.0000    0.0000 D   0  0\nM  END\n")) ≡ record { atoms = record { element = 1; charge = pos 0; mass = 2 } ∷ []; bonds = [] }
unfolding raw_lines field count_of number_of signed_of words_of symbol_value charge_value line_entries listed_charge listed_mass
deuterium = refl

empty_record : refusals (lines_of (codes "\n\n\n  0  0  0  0  0  0  0  0  0  0999 V3000\nM  END\n")) ≡ None ∷ None ∷ None ∷ Some 2 ∷ None ∷ []
unfolding raw_lines field count_of number_of signed_of words_of symbol_value charge_value line_entries listed_charge listed_mass
empty_record = refl

no_atoms : refusals (lines_of (codes "\n\n\n  0  0  0  0  0  0  0  0  0  0999 V2000\nM  END\n")) ≡ None ∷ None ∷ None ∷ Some 14 ∷ None ∷ []
unfolding raw_lines field count_of number_of signed_of words_of symbol_value charge_value line_entries listed_charge listed_mass
no_atoms = refl

foreign_name : name_of (195 ∷ codes "a ") ≡ codes "?a"
foreign_name = refl
