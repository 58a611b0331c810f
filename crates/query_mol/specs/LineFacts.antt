-- What an atom line and a bond line say, and what the reader keeps of them.
use Rattle.std.specs.Prelude.{◌≡◌, ℕ, List, Option, None, Some, unwrap_or, IfSome, is_some, All, if◌then◌else◌}
use Rattle.std.specs.Str.{bytes_eq}
use lib.Chars.{codes}
use Rattle.htss_defs.specs.declared.query.AtomTest.{AtomTest}
use Rattle.htss_defs.specs.declared.query.QueryBond.{QueryBond}
use Rattle.htss_defs.specs.Graph.{Graph, AreApart}
use Rattle.htss_defs.specs.QueryGraph.{IsAtomTest, IsQueryBond, query_bond_ends}
use Rattle.mol_section.specs.Fields.{field}
use Rattle.mol_section.specs.SectionLines.{symbol_value, charge_value}
use Rattle.mol_section.specs.AtomLines.{IsAtomFrom}
use Rattle.mol_section.specs.BondLines.{graph_refusal}
use Rattle.query_mol.specs.declared.atoms.AtomLine.{AtomLine}
use Rattle.query_mol.specs.QueryLines.{query_atom_refusal, topology_value}
use Rattle.query_mol.specs.QueryRecord.{symbol_test, query_bond_of}

-- the element and the mass of a symbol, or 0 and 0
abbrev pub value_or_none : List ℕ → ℕ × ℕ
value_or_none symbol = unwrap_or (symbol_value symbol) (0, 0)

-- the test that a symbol gives by itself: L waits for a list
unfoldable pub told_symbol : List ℕ → Option AtomTest
told_symbol symbol = if bytes_eq symbol (codes "L") then None else Some (symbol_test symbol)

-- the line is accepted, and says this of its atom
pub record SaysQueryAtom (line : List ℕ) (says : AtomLine) : Type 0 where
  pub passes : query_atom_refusal line ≡ None
  pub test : says.test ≡ told_symbol (field 32 34 line)
  pub mass : says.atom.mass ≡ (value_or_none (field 32 34 line)).1
  pub charge : charge_value (field 37 39 line) ≡ Some says.atom.charge
  pub element : says.atom.element ≡ (value_or_none (field 32 34 line)).0
  pub valid : IsAtomFrom 0 says.atom
  pub valid_test : IfSome says.test IsAtomTest

-- the refusal of a bond line, where the bonds before it are those of the graph: that of ends and type comes first
unfoldable pub query_graph_refusal : Graph → List ℕ → Option ℕ
query_graph_refusal graph line =
    let first = graph_refusal 8 graph line in
    if is_some first then first else (if is_some (topology_value (field 16 18 line)) then None else Some 22)

-- the line is accepted, and says this of its bond
pub record SaysQueryBond (graph : Graph) (line : List ℕ) (bond : QueryBond) : Type 0 where
  pub passes : query_graph_refusal graph line ≡ None
  pub says : bond ≡ query_bond_of line
  pub valid : IsQueryBond graph.atoms bond
  pub apart : All (λ e. AreApart e (query_bond_ends bond)) graph.bonds
