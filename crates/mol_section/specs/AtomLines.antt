-- What an atom line says, and the rows of symbols that the reader searches.
use Rattle.std.specs.Prelude.{◌≡◌, ◌==◌, ◌||◌, ◌≤◌, ◌≤ℤ◌, ℕ, ℤ, pos, negsuc, List, position, Option, Some, None}
use Rattle.std.specs.Prelude.{if◌then◌else◌}
use Rattle.std.specs.Str.{bytes_eq}
use Rattle.htss_defs.specs.declared.elements.TheConstants.{SYMBOLS}
use Rattle.htss_defs.specs.declared.mol.Atom.{Atom}
use Rattle.htss_defs.specs.Molecule.{IsAtom}
use Rattle.mol_section.specs.Fields.{field, trim_ends}
use Rattle.mol_section.specs.SectionLines.{atom_refusal, symbol_value, charge_value}

-- the first row with this symbol
unfoldable pub element_place : List ℕ → Option ℕ
element_place symbol = position (λ row. bytes_eq (trim_ends row) symbol) SYMBOLS

unfoldable pub charge_of_code : ℕ → Option ℤ
charge_of_code code =
    if code == 0 || code == 4 then Some (pos 0)
    else (if code == 1 then Some (pos 3)
    else (if code == 2 then Some (pos 2)
    else (if code == 3 then Some (pos 1)
    else (if code == 5 then Some (negsuc 0)
    else (if code == 6 then Some (negsuc 1)
    else (if code == 7 then Some (negsuc 2)
    else None))))))

-- the line is accepted, and says this of its atom
pub record SaysAtom (line : List ℕ) (atom : Atom) : Type 0 where
  pub passes : atom_refusal line ≡ None
  pub symbol : symbol_value (field 32 34 line) ≡ Some (atom.element, atom.mass)
  pub charge : charge_value (field 37 39 line) ≡ Some atom.charge
  pub valid : IsAtom atom

-- an atom as its line and the properties give it; its element has at least this number, 0 where its symbol may be none
-- of the table
pub record IsAtomFrom (least : ℕ) (a : Atom) : Type 0 where
  pub element : (least ≤ a.element) × (a.element ≤ 118)
  pub charge : (negsuc 14 ≤ℤ a.charge) × (a.charge ≤ℤ pos 15)
  pub mass : a.mass ≤ 999
