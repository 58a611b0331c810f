-- The atoms and the bonds that were read, as a query.
use Rattle.std.proofs.Common.{◌≡◌, ◌⊎◌, ℕ, ◌+◌, Bool, true, false, List, [], ◌∷◌, ◌++◌, length, map, All, refl, sym, ap, subst, ◌∙◌, inl, inr, arith}
use Rattle.std.specs.Prelude.{Option, Some, None, IfSome, is_some, ◌&&◌, if◌then◌else◌}
use Rattle.std.specs.List.{zip, range_with_len, filter_map, list_all}
use Rattle.std.specs.Str.{bytes_eq}
use Rattle.std.proofs.lemmas.List.{append-nil, length-map}
use Rattle.std.proofs.lemmas.List.Elements.{All-nil, All-cons, All-head, All-tail}
use Rattle.std.proofs.lemmas.Option.{same_Some}
use lib.Chars.{codes}
use Rattle.htss_defs.specs.declared.mol.Atom.{Atom}
use Rattle.htss_defs.specs.declared.query.AtomTest.{AtomTest}
use Rattle.htss_defs.specs.declared.query.QueryAtom.{QueryAtom}
use Rattle.htss_defs.specs.declared.query.QueryBond.{QueryBond}
use Rattle.mol_section.specs.AtomLines.{IsAtomFrom}
use Rattle.htss_defs.specs.Graph.{Graph}
use Rattle.htss_defs.specs.QueryGraph.{QueryGraph, IsAtomTest, IsQueryAtom, IsQueryBond, IsQuery}
use Rattle.htss_defs.specs.Marked.{IsMarkedQuery, unmarked_query, unmarked_query_bond}
use Rattle.mol_section.specs.Fields.{field}
use Rattle.mol_section.specs.SectionRecord.{atom_of}
use Rattle.mol_section.specs.Walk.{Parts, IsStop, IsRead}
use Rattle.mol_section.specs.Records.{made_atoms}
use Rattle.query_mol.specs.QueryLines.{AtomList}
use Rattle.query_mol.specs.QueryRecord.{IsAcceptedQuery, IsRefusedQuery, query_kind_refusal, query_of, query_bond_of, test_of, list_test, symbol_test}
use Rattle.query_mol.specs.LineFacts.{told_symbol}
use Rattle.query_mol.specs.Tests.{told_test, told_tests, list_at}
use Rattle.query_mol.specs.QueryAtoms.{told_atom, told_atoms}
use Rattle.query_mol.specs.QueryKept.{KeepsQuery}
use Rattle.query_mol.proofs.Drafts.{end_code, size_atoms, size_tests}

-- ---- what was read is a query

abbrev IsTold : Option AtomTest → Type 0
IsTold t = IfSome t IsAtomTest

long_told : (atoms : List Atom) (tests : List (Option AtomTest)) → list_all (λ t. is_some t) tests ≡ true → length tests ≡ length atoms → length (told_atoms atoms tests) ≡ length atoms
long_told [] tests told same = refl
long_told (a ∷ atoms) [] told same = absurd (omega arith)
long_told (a ∷ atoms) (None ∷ tests) told same = absurd cc
long_told (a ∷ atoms) (Some t ∷ tests) told same = let more = long_told atoms tests told (omega arith) in omega arith

valid_told : (atoms : List Atom) (tests : List (Option AtomTest)) → All (IsAtomFrom 0) atoms → All IsTold tests → All IsQueryAtom (told_atoms atoms tests)
valid_told [] tests valid told = All-nil IsQueryAtom
valid_told (a ∷ atoms) [] valid told = All-nil IsQueryAtom
valid_told (a ∷ atoms) (None ∷ tests) valid told = valid_told atoms tests (All-tail (IsAtomFrom 0) a atoms valid) (All-tail IsTold None tests told)
valid_told (a ∷ atoms) (Some t ∷ tests) valid told =
    let one = All-head (IsAtomFrom 0) a atoms valid in
    All-cons IsQueryAtom (record { test = t; charge = a.charge; mass = a.mass }) (told_atoms atoms tests)
    (record { test = All-head IsTold (Some t) tests told; charge = one.charge; mass = one.mass })
    (valid_told atoms tests (All-tail (IsAtomFrom 0) a atoms valid) (All-tail IsTold (Some t) tests told))

-- ---- it is the query of the lines

abbrev Numbered : Type 0
Numbered = ℕ × List ℕ

-- an atom of a query by its two halves
joined : (xs : List Numbered) (f : Numbered → Atom) (g : Numbered → Option AtomTest) (h : Numbered → QueryAtom)
    → ((x : Numbered) (t : AtomTest) → g x ≡ Some t → ◌≡◌ {A = QueryAtom} (record { test = t; charge = (f x).charge; mass = (f x).mass }) (h x))
    → list_all (λ t. is_some t) (map g xs) ≡ true → told_atoms (map f xs) (map g xs) ≡ map h xs
joined [] f g h same told = refl
joined (x ∷ xs) f g h same told = go (g x) refl told (joined xs f g h same)
  where
    go : (o : Option AtomTest) → g x ≡ o → (is_some o && list_all (λ t. is_some t) (map g xs)) ≡ true
        → (list_all (λ t. is_some t) (map g xs) ≡ true → told_atoms (map f xs) (map g xs) ≡ map h xs)
        → filter_map told_atom ((f x, o) ∷ zip (map f xs) (map g xs)) ≡ map h (x ∷ xs)
    go None is told more = absurd cc
    go (Some t) is told more =
        let here : ◌≡◌ {A = QueryAtom} (record { test = t; charge = (f x).charge; mass = (f x).mass }) (h x) = same x t is in
        let rest : told_atoms (map f xs) (map g xs) ≡ map h xs = more told in
        cc

test_told : (o : Option AtomList) (symbol : List ℕ) (t : AtomTest) → told_test o symbol ≡ Some t → t ≡ test_of o symbol
unfolding told_symbol
test_told (Some one) symbol t is = sym (same_Some (list_test one) t is)
test_told None symbol t is = go (bytes_eq symbol (codes "L")) is
  where
    go : (b : Bool) → (if b then None else Some (symbol_test symbol)) ≡ Some t → t ≡ symbol_test symbol
    go true is = absurd cc
    go false is = sym (same_Some (symbol_test symbol) t is)

-- an atom and a query by the lines of each kind
abbrev atom_by : ℕ → List (List ℕ) → List (List ℕ) → Numbered → QueryAtom
atom_by size lists properties (place, line) =
    let made = atom_of size properties (place, line) in
    record { test = test_of (list_at size lists properties place) (field 32 34 line); charge = made.charge; mass = made.mass }

abbrev query_by : ℕ → List (List ℕ) → List (List ℕ) → List (List ℕ) → List (List ℕ) → QueryGraph
query_by size lists properties atom_lines bond_lines = record {
  atoms = map (atom_by size lists properties) (zip (range_with_len 1 (length atom_lines)) atom_lines);
  bonds = map query_bond_of bond_lines;
}

atoms_by : (size : ℕ) (lists properties atom_lines : List (List ℕ)) → list_all (λ t. is_some t) (told_tests size lists properties atom_lines) ≡ true
    → told_atoms (made_atoms size properties atom_lines) (told_tests size lists properties atom_lines) ≡ map (atom_by size lists properties) (zip (range_with_len 1 (length atom_lines)) atom_lines)
atoms_by size lists properties atom_lines told =
    joined (zip (range_with_len 1 (length atom_lines)) atom_lines) (atom_of size properties) (λ (x : Numbered). told_test (list_at size lists properties x.0) (field 32 34 x.1)) (atom_by size lists properties)
    (λ x t is. ap (λ (a : AtomTest). record { test = a; charge = (atom_of size properties x).charge; mass = (atom_of size properties x).mass }) (test_told (list_at size lists properties x.0) (field 32 34 x.1) t is))
    told

no_flags : (lines : List (List ℕ)) → map unmarked_query_bond (map query_bond_of lines) ≡ map query_bond_of lines
no_flags [] = refl
no_flags (line ∷ lines) = ap (λ (x : List QueryBond). query_bond_of line ∷ x) (no_flags lines)

-- ---- the atoms are told one after the other

pub last_told : {S T : Type 0} {P : S → Type 0} {Q : T → Type 0} (told all : List QueryAtom) (atoms : List Atom) (tests : List (Option AtomTest))
    → ((u : S) × ((length atoms ≡ 0) × P u)) ⊎ ((u : T) × ((length tests ≡ 0) × Q u)) → told ++ told_atoms atoms tests ≡ all → told ≡ all
last_told told all [] tests ends so_far = sym (append-nil told) ∙ so_far
last_told told all (a ∷ atoms) [] ends so_far = sym (append-nil told) ∙ so_far
last_told told all (a ∷ atoms) (t ∷ tests) (inl end) so_far = absurd (omega (arith, end.1.0))
last_told told all (a ∷ atoms) (t ∷ tests) (inr end) so_far = absurd (omega (arith, end.1.0))

-- ---- the whole

module _ {lines : List (List ℕ)} {graph : Graph} {atoms : List Atom} {tests : List (Option AtomTest)} {bonds : List QueryBond} {aside : Bool} (read : IsRead query_kind_refusal lines graph (KeepsQuery atoms tests bonds aside)) where
  told_all : list_all (λ t. is_some t) tests ≡ true
  told_all = go (list_all (λ t. is_some t) tests) (sym (end_code lines read.kept read.are read.end_passes.0 (list_all (λ t. is_some t) tests) refl) ∙ read.end_passes.1)
    where
      go : (b : Bool) → ◌≡◌ {A = Option ℕ} (if b then None else Some 21) None → b ≡ true
      go true e = refl
      go false e = absurd cc

  pub is_query : IsQuery (record { atoms = told_atoms atoms tests; bonds = bonds })
  is_query =
      let size : length atoms ≡ read.parts.size = size_atoms read.kept read.counted.all_atoms in
      let long : length (told_atoms atoms tests) ≡ read.parts.size = long_told atoms tests told_all (size_tests read.kept read.counted.all_atoms ∙ sym size) ∙ size in
      record {
        atoms = (omega (arith, long, read.counted.some), omega (arith, long, read.kept.few));
        bonds = omega (arith, ap length read.kept.bonds_are, length-map read.parts.bonds query_bond_of, read.counted.few_bonds);
        each_atom = valid_told atoms tests read.kept.valid_atoms read.kept.valid_tests;
        each_bond = subst (λ (k : ℕ). All (IsQueryBond k) bonds) (sym long) read.kept.valid_bonds;
        no_pair_twice = read.kept.apart;
      }

  abbrev built : Parts → QueryGraph
  built parts = query_by parts.size parts.lists parts.properties parts.atoms parts.bonds

  query_is : unmarked_query (record { atoms = told_atoms atoms tests; bonds = bonds }) ≡ query_of lines
  query_is =
      let p = read.parts in
      let told : list_all (λ t. is_some t) (told_tests read.parts.size read.parts.lists read.parts.properties read.parts.atoms) ≡ true = ap (list_all (λ t. is_some t)) (sym read.kept.tests_are) ∙ told_all in
      let atoms_are : told_atoms atoms tests ≡ map (atom_by read.parts.size read.parts.lists read.parts.properties) (zip (range_with_len 1 (length read.parts.atoms)) read.parts.atoms) =
      ap (λ (a : List Atom). told_atoms a tests) read.kept.atoms_are ∙ ap (told_atoms (made_atoms read.parts.size read.parts.properties read.parts.atoms)) read.kept.tests_are
      ∙ atoms_by read.parts.size read.parts.lists read.parts.properties read.parts.atoms told in
      let bonds_are : map unmarked_query_bond bonds ≡ map query_bond_of read.parts.bonds = ap (map unmarked_query_bond) read.kept.bonds_are ∙ no_flags read.parts.bonds in
      ap (λ (a : List QueryAtom). record { atoms = a; bonds = map unmarked_query_bond bonds }) atoms_are
      ∙ ap (λ (b : List QueryBond). record { atoms = map (atom_by read.parts.size read.parts.lists read.parts.properties) (zip (range_with_len 1 (length read.parts.atoms)) read.parts.atoms); bonds = b }) bonds_are
      ∙ sym (ap built read.are)

  pub is_accepted : (told : List QueryAtom) (query : QueryGraph) → told ≡ told_atoms atoms tests → unmarked_query query ≡ unmarked_query (record { atoms = told; bonds = bonds }) → IsMarkedQuery query → IsAcceptedQuery lines query
  is_accepted told query told_is same marked = record {
    passes = read.passes;
    ends = read.ends;
    query_is = same ∙ ap (λ (a : List QueryAtom). unmarked_query (record { atoms = a; bonds = bonds })) told_is ∙ query_is;
    marked = marked;
  }

pub is_refused : (lines : List (List ℕ)) (line code : ℕ) → IsStop query_kind_refusal lines line code → IsRefusedQuery lines (line + 1) code
is_refused lines line code stop = (
  line,
  refl,
  elim stop.why [
    | inl at ↦ inl (record { before = at.0; here = at.1 })
    | inr ends ↦ inr (record { passes = ends.0; none = ends.1; at = ends.2; code_is = ends.3 })
  ],
)
