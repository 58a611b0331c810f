-- The tests of the atoms as the reader keeps them: none where an atom L waits for its list.
use Rattle.std.specs.Prelude.{ℕ, ◌-◌, List, length, map, Option, None, Some, slice_set}
use Rattle.std.specs.Prelude.{if◌then◌else◌}
use Rattle.std.specs.List.{zip, range_with_len, filter_map}
use Rattle.htss_defs.specs.declared.query.AtomTest.{AtomTest}
use Rattle.htss_defs.specs.declared.query.AtomTest.TheVariants.{OneOf, NoneOf}
use Rattle.mol_section.specs.Fields.{field}
use Rattle.query_mol.specs.declared.lists.Listed.{Listed}
use Rattle.query_mol.specs.QueryLines.{AtomList, old_list_of, new_list_of, is_new_list}
use Rattle.query_mol.specs.QueryRecord.{last_list, list_test}
use Rattle.query_mol.specs.LineFacts.{told_symbol}

abbrev pub listed_test : Listed → AtomTest
listed_test one = if one.excludes then NoneOf one.elements else OneOf one.elements

-- the tests after a list
abbrev pub with_list : List (Option AtomTest) → Option AtomList → List (Option AtomTest)
with_list tests None = tests
with_list tests (Some one) = slice_set tests (one.place - 1) (Some (list_test one))

unfoldable pub with_new_list : ℕ → List ℕ → List (Option AtomTest) → List (Option AtomTest)
with_new_list atoms line tests = if is_new_list line then with_list tests (new_list_of atoms line) else tests

-- a list gives the test of its atom, whatever its symbol
abbrev pub told_test : Option AtomList → List ℕ → Option AtomTest
told_test None symbol = told_symbol symbol
told_test (Some one) symbol = Some (list_test one)

abbrev pub news : ℕ → List (List ℕ) → List AtomList
news size properties = filter_map (λ line. if is_new_list line then new_list_of size line else None) properties

abbrev pub olds : ℕ → List (List ℕ) → List AtomList
olds size lists = filter_map (old_list_of size) lists

abbrev pub list_at : ℕ → List (List ℕ) → List (List ℕ) → ℕ → Option AtomList
list_at size lists properties place = last_list place (news size properties) (last_list place (olds size lists) None)

-- the tests of these atom lines, after these lines of lists
abbrev pub told_tests : ℕ → List (List ℕ) → List (List ℕ) → List (List ℕ) → List (Option AtomTest)
told_tests size lists properties lines =
    map (λ (place, line). told_test (list_at size lists properties place) (field 32 34 line))
    (zip (range_with_len 1 (length lines)) lines)
