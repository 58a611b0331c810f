-- Worked examples of queries, computed.
use Rattle.std.proofs.Common.{◌≡◌, ℕ, List, [], ◌∷◌, length, map, refl, pos}
use Rattle.std.specs.Prelude.{Option, None, Some}
use Rattle.std.specs.List.{zip, range_with_len}
use lib.Chars.{codes}
use Rattle.htss_defs.specs.declared.query.AtomTest.TheVariants.{OneOf, NoneOf}
use Rattle.mol_section.specs.Lines.{lines_of, raw_lines}
use Rattle.mol_section.specs.Fields.{field, count_of, number_of, signed_of, words_of}
use Rattle.mol_section.specs.SectionLines.{kinds_of, symbol_value, charge_value, line_entries, listed_charge, listed_mass}
use Rattle.query_mol.specs.QueryRecord.{query_of, query_refusal}

abbrev refusals : List (List ℕ) → List (Option ℕ)
refusals lines = map (λ (i, kind). query_refusal lines i kind) (zip (range_with_len 0 (length lines)) (kinds_of lines))

abbrev listed : List ℕ
listed = codes "\n\n\n  1  0  1  0  0  0  0  0  0  0999 V2000\n    0.0000    0.0000    0.0000 L   0  0\n  1 F    1   6\nM  ALS   1  2 F N   O   \nM  END\n"

listed_passes : refusals (lines_of listed) ≡ None ∷ None ∷ None ∷ None ∷ None ∷ None ∷ None ∷ None ∷ []
unfolding raw_lines field count_of number_of signed_of words_of line_entries listed_charge listed_mass symbol_value charge_value
listed_passes = refl

listed_query : query_of (lines_of listed) ≡ record { atoms = record { test = OneOf (record { 0 = 384 }); charge = pos 0; mass = 0 } ∷ []; bonds = [] }
unfolding raw_lines field count_of number_of signed_of words_of line_entries listed_charge listed_mass symbol_value charge_value
listed_query = refl

excluding_query : query_of (lines_of (codes "\n\n\n  1  0  1  0  0  0  0  0  0  0999 V2000\n    0.0000    0.0000    0.0000 L   0  0\n  1 F    1   6\nM  ALS   1  2 T N   O   \nM  END\n")) ≡ record { atoms = record { test = NoneOf (record { 0 = 384 }); charge = pos 0; mass = 0 } ∷ []; bonds = [] }
unfolding raw_lines field count_of number_of signed_of words_of line_entries listed_charge listed_mass symbol_value charge_value
excluding_query = refl

no_list : refusals (lines_of (codes "\n\n\n  1  0  0  0  0  0  0  0  0  0999 V2000\n    0.0000    0.0000    0.0000 L   0  0\nM  END\n")) ≡ None ∷ None ∷ None ∷ None ∷ None ∷ Some 21 ∷ []
unfolding raw_lines field count_of number_of signed_of words_of line_entries listed_charge listed_mass symbol_value charge_value
no_list = refl

topology_three : refusals (lines_of (codes "\n\n\n  2  1  0  0  0  0  0  0  0  0999 V2000\n    0.0000    0.0000    0.0000 C   0  0\n    0.0000    0.0000    0.0000 C   0  0\n  1  2  1  0     3\nM  END\n")) ≡ None ∷ None ∷ None ∷ None ∷ None ∷ None ∷ Some 22 ∷ None ∷ []
unfolding raw_lines field count_of number_of signed_of words_of line_entries listed_charge listed_mass symbol_value charge_value
topology_three = refl
