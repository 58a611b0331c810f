-- The query of a section, or the line that is refused. (CTfile Formats, "The Header Block", "The Atom Block", "The Bond
-- Block" and "The Properties Block", as QueryLines reads them. What is refused is this project's own.)
use Rattle.std.specs.Prelude.{◌≡◌, ◌⊎◌, ℕ, ◌+◌, ◌<◌, ◌^◌, pos, List, [], ◌∷◌, length, map, fold, slice_get, bit_or}
use Rattle.std.specs.Prelude.{Option, None, Some, unwrap_or, is_some, Bool, true, false, not, ◌&&◌, ◌==◌, nat_lt}
use Rattle.std.specs.Prelude.{if◌then◌else◌}
use Rattle.std.specs.List.{list_any, zip, range_with_len, filter_map}
use Rattle.std.specs.Str.{bytes_eq}
use lib.Chars.{codes}
use Rattle.htss_defs.specs.declared.query.AtomTest.{AtomTest}
use Rattle.htss_defs.specs.declared.query.AtomTest.TheVariants.{Element, Any, NotHydrogen, NotCarbonHydrogen, OneOf}
use Rattle.htss_defs.specs.declared.query.AtomTest.TheVariants.{NoneOf}
use Rattle.htss_defs.specs.declared.query.QueryAtom.{QueryAtom}
use Rattle.htss_defs.specs.declared.query.QueryBond.{QueryBond}
use Rattle.htss_defs.specs.QueryGraph.{QueryGraph}
use Rattle.htss_defs.specs.Marked.{IsMarkedQuery, unmarked_query}
use Rattle.mol_section.specs.Fields.{field}
use Rattle.mol_section.specs.SectionLines.{Kind, counts, atom, bond, atom_list, property, end_mark, after_end, kinds_of}
use Rattle.mol_section.specs.SectionLines.{line_at, atom_count, bond_lines_before, bond_first, bond_second, bond_kind}
use Rattle.mol_section.specs.SectionLines.{counts_refusal}
use Rattle.mol_section.specs.SectionLines.{symbol_value, charge_value, listed_charge, listed_mass, lists_charges}
use Rattle.mol_section.specs.SectionLines.{lists_masses}
use Rattle.mol_section.specs.SectionRecord.{HasEnd, all_entries, last_entry, lines_of_kind, sets_charges_aside}
use Rattle.query_mol.specs.QueryLines.{query_atom_refusal, query_bond_refusal, query_property_refusal, topology_value}
use Rattle.query_mol.specs.QueryLines.{AtomList, old_list_of, new_list_of, is_new_list}

-- the lines of atom lists
abbrev pub list_lines : List (List ℕ) → List (List ℕ)
list_lines lines = filter_map (λ (line, is). if is_atom_list is then Some line else None) (zip lines (kinds_of lines))
  where
    is_atom_list : Kind → Bool
    is_atom_list atom_list = true
    is_atom_list _ = false

-- the last list of an atom: the lists of `M  ALS` lines supersede the old list lines
abbrev pub last_list : ℕ → List AtomList → Option AtomList → Option AtomList
last_list place [] found = found
last_list place (one ∷ lists) found = last_list place lists (if one.place == place then Some one else found)

abbrev pub old_lists : List (List ℕ) → List AtomList
old_lists lines = filter_map (old_list_of (atom_count lines)) (list_lines lines)

abbrev pub new_lists : List (List ℕ) → List AtomList
new_lists lines = filter_map (λ line. if is_new_list line then new_list_of (atom_count lines) line else None)
    (lines_of_kind property lines)

-- the list of the atom at this place, where it has one
abbrev pub list_of : List (List ℕ) → ℕ → Option AtomList
list_of lines place = last_list place (new_lists lines) (last_list place (old_lists lines) None)

-- the elements as a set: bit e stands for element e
abbrev pub set_of : List ℕ → ℕ
set_of elements = fold (λ set e. bit_or set (2 ^ e)) 0 elements

abbrev pub list_test : AtomList → AtomTest
list_test one = if one.excludes then NoneOf (record { 0 = set_of one.elements }) else OneOf
    (record { 0 = set_of one.elements })

-- the test of a symbol that has no list
abbrev pub symbol_test : List ℕ → AtomTest
symbol_test symbol =
    if bytes_eq symbol (codes "A") then NotHydrogen
    else (if bytes_eq symbol (codes "Q") then NotCarbonHydrogen
    else (if bytes_eq symbol (codes "*") then Any
    else Element (unwrap_or (symbol_value symbol) (0, 0)).0))

-- a list sets the test of its atom, whatever its symbol
abbrev pub test_of : Option AtomList → List ℕ → AtomTest
test_of None symbol = symbol_test symbol
test_of (Some one) symbol = list_test one

abbrev pub query_atom_of : List (List ℕ) → ℕ × List ℕ → QueryAtom
query_atom_of lines (place, line) =
    let symbol = field 32 34 line in
    let properties = lines_of_kind property lines in
    let block_charge = if sets_charges_aside properties then pos 0 else unwrap_or (charge_value (field 37 39 line))
    (pos 0) in
    record {
      test = test_of (list_of lines place) symbol;
      charge = last_entry block_charge place (all_entries listed_charge lists_charges (atom_count lines) properties);
      mass = last_entry (unwrap_or (symbol_value symbol) (0, 0)).1 place
          (all_entries listed_mass lists_masses (atom_count lines) properties);
    }

abbrev pub query_bond_of : List ℕ → QueryBond
query_bond_of line = record {
  first = bond_first line;
  second = bond_second line;
  kind = bond_kind line;
  topology = unwrap_or (topology_value (field 16 18 line)) 0;
  ring = false;
}

-- the query of a section that is not refused, its bonds not marked yet
abbrev pub query_of : List (List ℕ) → QueryGraph
query_of lines =
    let atom_lines = lines_of_kind atom lines in
    record {
      atoms = map (query_atom_of lines) (zip (range_with_len 1 (length atom_lines)) atom_lines);
      bonds = map query_bond_of (lines_of_kind bond lines);
    }

-- an atom L has no list
abbrev pub lacks_list : List (List ℕ) → Bool
lacks_list lines =
    let atom_lines = lines_of_kind atom lines in
    list_any (λ (place, line). bytes_eq (field 32 34 line) (codes "L") && not (is_some (list_of lines place)))
    (zip (range_with_len 1 (length atom_lines)) atom_lines)

abbrev pub query_counts_refusal : List (List ℕ) → List ℕ → Option ℕ
query_counts_refusal lines line =
    if is_some (counts_refusal line) then counts_refusal line else
    (if nat_lt 64 (atom_count lines) then Some 20 else None)

abbrev pub query_kind_refusal : List (List ℕ) → ℕ → Kind → Option ℕ
query_kind_refusal lines i counts = query_counts_refusal lines (line_at lines i)
query_kind_refusal lines i atom = query_atom_refusal (line_at lines i)
query_kind_refusal lines i bond = query_bond_refusal (atom_count lines) (bond_lines_before lines i) (line_at lines i)
query_kind_refusal lines i atom_list =
    if is_some (old_list_of (atom_count lines) (line_at lines i)) then None else Some 21
query_kind_refusal lines i property = query_property_refusal (atom_count lines) (line_at lines i)
query_kind_refusal lines i end_mark = if lacks_list lines then Some 21 else None
query_kind_refusal lines i _ = None

abbrev pub query_refusal : List (List ℕ) → ℕ → Kind → Option ℕ
query_refusal lines i after_end = None
query_refusal lines i kind = if nat_lt 4096 (length (line_at lines i)) then Some 13 else query_kind_refusal lines i kind

-- the refusal of line i of the section, counted from 0
abbrev pub QueryLineRefusal : List (List ℕ) → ℕ → Option ℕ → Type 0
QueryLineRefusal lines i code = (kind : Kind) × (slice_get (kinds_of lines) i ≡ Some kind)
    × (query_refusal lines i kind ≡ code)

abbrev pub AcceptsQueryLines : List (List ℕ) → ℕ → Type 0
AcceptsQueryLines lines n = (i : ℕ) → i < n → QueryLineRefusal lines i None

-- no line is refused, there is an end mark, and the query is that of the lines, its ring bonds marked
pub record IsAcceptedQuery (lines : List (List ℕ)) (q : QueryGraph) : Type 0 where
  pub passes : AcceptsQueryLines lines (length lines)
  pub ends : HasEnd lines
  pub query_is : unmarked_query q ≡ query_of lines
  pub marked : IsMarkedQuery q

-- the first line that is refused, counted from 1, or the line after the last where there is no end mark
pub record IsRefusedQueryAt (lines : List (List ℕ)) (i code : ℕ) : Type 0 where
  pub before : AcceptsQueryLines lines i
  pub here : QueryLineRefusal lines i (Some code)

pub record HasNoQueryEnd (lines : List (List ℕ)) (i code : ℕ) : Type 0 where
  pub passes : AcceptsQueryLines lines (length lines)
  pub none : HasEnd lines → ⊥
  pub at : i ≡ length lines
  pub code_is : code ≡ 12

abbrev pub IsRefusedQuery : List (List ℕ) → ℕ → ℕ → Type 0
IsRefusedQuery lines line code = (i : ℕ) × (line ≡ i + 1) × (IsRefusedQueryAt lines i code ⊎ HasNoQueryEnd lines i code)
