-- One more record is taken.
use Rattle.std.proofs.Common.{◌≡◌, ℕ, ◌+◌, List, [], ◌∷◌, ◌++◌, length, refl, sym, ap, subst, ◌∙◌, append_assoc, arith}
use Rattle.std.specs.Prelude.{Option}
use Rattle.std.proofs.lemmas.List.{append-nil, length-append, length_push}
use Rattle.htss_defs.specs.declared.record.NamedMol.{NamedMol}
use Rattle.htss_defs.specs.Molecule.{Molecule}
use Rattle.htss_defs.specs.QueryGraph.{QueryGraph}
use Rattle.hit_report.specs.RecordLines.{ok_line, refused_line, records_line}
use Rattle.mol_section.specs.SectionRecord.{Outcome, accepted, refused}
use Rattle.command_ends.specs.RecordTexts.{accepted_records, refused_count, refused_lines, check_lines, check_text}
use Rattle.tool_commands.specs.Searches.{SearchHolds}
use Rattle.tool_commands.specs.Takers.{CheckHolds, FindHolds}

-- ---- the words on a list with one more outcome

pub accepted_records-push : (outcomes : List Outcome) (one : Outcome) → accepted_records (outcomes ++ one ∷ []) ≡ accepted_records outcomes ++ accepted_records (one ∷ [])
accepted_records-push [] one = refl
accepted_records-push (accepted name mol ∷ outcomes) one = ap (λ (x : List NamedMol). record { name = name; mol = mol } ∷ x) (accepted_records-push outcomes one)
accepted_records-push (refused line code ∷ outcomes) one = accepted_records-push outcomes one

refused_count-push : (outcomes : List Outcome) (one : Outcome) → refused_count (outcomes ++ one ∷ []) ≡ refused_count outcomes + refused_count (one ∷ [])
refused_count-push [] one = omega arith
refused_count-push (accepted name mol ∷ outcomes) one = refused_count-push outcomes one
refused_count-push (refused line code ∷ outcomes) one = omega (arith, refused_count-push outcomes one)

later : (place : ℕ) (outcomes : List Outcome) (o : Outcome) → place + 1 + length outcomes ≡ place + length (o ∷ outcomes)
later place outcomes o = omega arith

refused_lines-push : (place : ℕ) (outcomes : List Outcome) (one : Outcome) → refused_lines place (outcomes ++ one ∷ []) ≡ refused_lines place outcomes ++ refused_lines (place + length outcomes) (one ∷ [])
refused_lines-push place [] one = ap (λ (p : ℕ). refused_lines p (one ∷ [])) (omega arith)
refused_lines-push place (accepted name mol ∷ outcomes) one =
    refused_lines-push (place + 1) outcomes one ∙ ap (λ (p : ℕ). refused_lines (place + 1) outcomes ++ refused_lines p (one ∷ [])) (later place outcomes (accepted name mol))
refused_lines-push place (refused line code ∷ outcomes) one =
    ap (λ (x : List ℕ). refused_line place line code ++ x) (refused_lines-push (place + 1) outcomes one ∙ ap (λ (p : ℕ). refused_lines (place + 1) outcomes ++ refused_lines p (one ∷ [])) (later place outcomes (refused line code)))
    ∙ sym (append_assoc (refused_line place line code) (refused_lines (place + 1) outcomes) (refused_lines (place + length (refused line code ∷ outcomes)) (one ∷ [])))

line_of : ℕ → Outcome → List ℕ
line_of place one = check_lines place (one ∷ [])

check_lines-push : (place : ℕ) (outcomes : List Outcome) (one : Outcome) → check_lines place (outcomes ++ one ∷ []) ≡ check_lines place outcomes ++ check_lines (place + length outcomes) (one ∷ [])
check_lines-push place [] one = ap (λ (p : ℕ). check_lines p (one ∷ [])) (omega arith)
check_lines-push place (accepted name mol ∷ outcomes) one =
    ap (λ (x : List ℕ). ok_line place (length mol.atoms) (length mol.bonds) name ++ x) (check_lines-push (place + 1) outcomes one ∙ ap (λ (p : ℕ). check_lines (place + 1) outcomes ++ check_lines p (one ∷ [])) (later place outcomes (accepted name mol)))
    ∙ sym (append_assoc (ok_line place (length mol.atoms) (length mol.bonds) name) (check_lines (place + 1) outcomes) (check_lines (place + length (accepted name mol ∷ outcomes)) (one ∷ [])))
check_lines-push place (refused line code ∷ outcomes) one =
    ap (λ (x : List ℕ). refused_line place line code ++ x) (check_lines-push (place + 1) outcomes one ∙ ap (λ (p : ℕ). check_lines (place + 1) outcomes ++ check_lines p (one ∷ [])) (later place outcomes (refused line code)))
    ∙ sym (append_assoc (refused_line place line code) (check_lines (place + 1) outcomes) (check_lines (place + length (refused line code ∷ outcomes)) (one ∷ [])))

-- ---- `check`

pub CheckHolds-accepted : (text longer : List ℕ) (a a' r place atoms bonds : ℕ) (shown name : List ℕ) (mol : Molecule) (outcomes : List Outcome) → CheckHolds text a r outcomes → place ≡ length outcomes + 1
    → longer ≡ text ++ ok_line place atoms bonds shown → atoms ≡ length mol.atoms → bonds ≡ length mol.bonds → shown ≡ name → a' ≡ a + 1 → CheckHolds longer a' r (outcomes ++ accepted name mol ∷ [])
CheckHolds-accepted text longer a a' r place atoms bonds shown name mol outcomes holds at grown atoms-is bonds-is name-is more = record {
  text_is = grown
      ∙ ap (λ (x : List ℕ). x ++ ok_line place atoms bonds shown) holds.text_is
      ∙ ap (λ (x : List ℕ). check_lines 1 outcomes ++ x) (line ∙ sym (append-nil (ok_line (1 + length outcomes) (length mol.atoms) (length mol.bonds) name)))
      ∙ sym (check_lines-push 1 outcomes (accepted name mol));
  accepted_is = omega (arith, more, holds.accepted_is, ap length (accepted_records-push outcomes (accepted name mol)), length_push (accepted_records outcomes) (record { name = name; mol = mol }));
  refused_is = omega (arith, holds.refused_is, refused_count-push outcomes (accepted name mol));
}
  where
    line : ok_line place atoms bonds shown ≡ ok_line (1 + length outcomes) (length mol.atoms) (length mol.bonds) name
    line =
        ap (λ (p : ℕ). ok_line p atoms bonds shown) (omega (arith, at))
        ∙ ap (λ (n : ℕ). ok_line (1 + length outcomes) n bonds shown) atoms-is
        ∙ ap (λ (n : ℕ). ok_line (1 + length outcomes) (length mol.atoms) n shown) bonds-is
        ∙ ap (λ (n : List ℕ). ok_line (1 + length outcomes) (length mol.atoms) (length mol.bonds) n) name-is

pub CheckHolds-refused : (text longer : List ℕ) (a r r' place line code : ℕ) (outcomes : List Outcome) → CheckHolds text a r outcomes → place ≡ length outcomes + 1
    → longer ≡ text ++ refused_line place line code → r' ≡ r + 1 → CheckHolds longer a r' (outcomes ++ refused line code ∷ [])
CheckHolds-refused text longer a r r' place line code outcomes holds at grown more = record {
  text_is = grown
      ∙ ap (λ (x : List ℕ). x ++ refused_line place line code) holds.text_is
      ∙ ap (λ (x : List ℕ). check_lines 1 outcomes ++ x) (ap (λ (p : ℕ). refused_line p line code) (omega (arith, at)) ∙ sym (append-nil (refused_line (1 + length outcomes) line code)))
      ∙ sym (check_lines-push 1 outcomes (refused line code));
  accepted_is = omega (arith, holds.accepted_is, ap length (accepted_records-push outcomes (refused line code)), length-append (accepted_records outcomes) []);
  refused_is = omega (arith, more, holds.refused_is, refused_count-push outcomes (refused line code));
}

all_counted : (outcomes : List Outcome) → length (accepted_records outcomes) + refused_count outcomes ≡ length outcomes
all_counted [] = refl
all_counted (accepted name mol ∷ outcomes) = omega (arith, all_counted outcomes)
all_counted (refused line code ∷ outcomes) = omega (arith, all_counted outcomes)

pub check_text-from : (text whole : List ℕ) (a r place : ℕ) (outcomes : List Outcome) → CheckHolds text a r outcomes → a + r ≡ place → whole ≡ text ++ records_line place a r → whole ≡ check_text outcomes
check_text-from text whole a r place outcomes holds sum grown =
    grown ∙ ap (λ (x : List ℕ). x ++ records_line place a r) holds.text_is
    ∙ ap (λ (n : ℕ). check_lines 1 outcomes ++ records_line n a r) (sym sum ∙ omega (arith, holds.accepted_is, holds.refused_is, all_counted outcomes))
    ∙ ap (λ (n : ℕ). check_lines 1 outcomes ++ records_line (length outcomes) n r) holds.accepted_is
    ∙ ap (λ (n : ℕ). check_lines 1 outcomes ++ records_line (length outcomes) (length (accepted_records outcomes)) n) holds.refused_is

-- ---- `find`

pub FindHolds-none : (query : QueryGraph) (budget : ℕ) (left : Option ℕ) (lines : List ℕ) (count number : ℕ) → SearchHolds query budget left lines count [] → number ≡ 0 → FindHolds query budget [] left lines count number []
FindHolds-none query budget left lines count number holds none = record { refused_is = refl; search = holds; number_is = none }

pub FindHolds-accepted : (query : QueryGraph) (budget : ℕ) (refused_text : List ℕ) (left left' : Option ℕ) (lines lines' : List ℕ) (count count' number number' : ℕ) (name : List ℕ) (mol : Molecule) (outcomes : List Outcome)
    → FindHolds query budget refused_text left lines count number outcomes → SearchHolds query budget left' lines' count' (accepted_records outcomes ++ record { name = name; mol = mol } ∷ []) → number' ≡ number + 1
    → FindHolds query budget refused_text left' lines' count' number' (outcomes ++ accepted name mol ∷ [])
FindHolds-accepted query budget refused_text left left' lines lines' count count' number number' name mol outcomes holds search number-is =
    let e : NamedMol = record { name = name; mol = mol } in
    let pushed = accepted_records-push outcomes (accepted name mol) in
    record {
      refused_is = holds.refused_is ∙ sym (refused_lines-push 1 outcomes (accepted name mol) ∙ append-nil (refused_lines 1 outcomes));
      search = subst (λ (x : List NamedMol). SearchHolds query budget left' lines' count' x) (sym pushed) search;
      number_is = omega (arith, number-is, holds.number_is, ap length pushed, length_push (accepted_records outcomes) e);
    }

pub FindHolds-refused : (query : QueryGraph) (budget : ℕ) (refused_text longer : List ℕ) (left : Option ℕ) (lines : List ℕ) (count number place line code : ℕ) (outcomes : List Outcome) → FindHolds query budget refused_text left lines count number outcomes
    → place ≡ length outcomes + 1 → longer ≡ refused_text ++ refused_line place line code → FindHolds query budget longer left lines count number (outcomes ++ refused line code ∷ [])
FindHolds-refused query budget refused_text longer left lines count number place line code outcomes holds at grown =
    let pushed = accepted_records-push outcomes (refused line code) ∙ append-nil (accepted_records outcomes) in
    record {
      refused_is = grown
          ∙ ap (λ (x : List ℕ). x ++ refused_line place line code) holds.refused_is
          ∙ ap (λ (x : List ℕ). refused_lines 1 outcomes ++ x) (ap (λ (p : ℕ). refused_line p line code) (omega (arith, at)) ∙ sym (append-nil (refused_line (1 + length outcomes) line code)))
          ∙ sym (refused_lines-push 1 outcomes (refused line code));
      search = subst (λ (x : List NamedMol). SearchHolds query budget left lines count x) (sym pushed) holds.search;
      number_is = holds.number_is ∙ ap length (sym pushed);
    }
