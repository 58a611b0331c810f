-- What the lines of a query make of its draft.
use Rattle.std.proofs.Common.{◌≡◌, ℕ, suc, ℤ, ◌+◌, ◌<◌, ◌≤◌, pos, Bool, true, false, not, ◌||◌, ◌&&◌, eqb, leb, List, [], ◌∷◌, ◌++◌, length, map, All, refl, sym, ap, subst, ◌∙◌, arith}
use Rattle.std.specs.Prelude.{Option, Some, None, IfSome, is_some, unwrap_or, AllPairs, nat_lt, if◌then◌else◌}
use Rattle.std.specs.List.{zip, range_with_len, list_any, list_all}
use Rattle.std.specs.Str.{bytes_eq}
use Rattle.std.proofs.lemmas.Bool.{lt-ltb, le-ltb}
use Rattle.std.proofs.lemmas.List.{map-append, length-map}
use Rattle.std.proofs.lemmas.List.Elements.{All-nil, All-push}
use lib.Chars.{codes}
use Rattle.htss_defs.specs.declared.graph.Ends.{Ends}
use Rattle.htss_defs.specs.declared.mol.Atom.{Atom}
use Rattle.htss_defs.specs.declared.query.AtomTest.{AtomTest}
use Rattle.htss_defs.specs.declared.query.QueryBond.{QueryBond}
use Rattle.htss_defs.specs.Adjacency.{with_bond}
use Rattle.htss_defs.specs.Graph.{Graph, joins}
use Rattle.htss_defs.specs.QueryGraph.{IsAtomTest, IsQueryBond, AreQueryBondsApart, query_bond_ends}
use Rattle.mol_section.specs.Fields.{field, number_of}
use Rattle.mol_section.specs.SectionLines.{counts, atom, bond, atom_list, property, end_mark, kinds_of, counts_refusal, property_refusal, first_code, is_place, atom_count, line_at, bond_lines_before, ends_of, bond_first, bond_second, bond_kind}
use Rattle.mol_section.specs.SectionRecord.{atom_of, sets_charges_aside}
use Rattle.mol_section.specs.AtomLines.{IsAtomFrom}
use Rattle.mol_section.specs.PropertyLines.{with_property, sets_aside}
use Rattle.mol_section.specs.Walk.{Parts, no_parts, with_line, parts_of, IsGraphOf, IsHere}
use Rattle.mol_section.specs.declared.draft.Part.TheVariants.{Atom as AtomLine, Bond as BondLine, List as ListLine, Property as PropertyLine}
use Rattle.mol_section.proofs.Made.{made_atoms-push, aside-push, numbered-push}
use Rattle.mol_section.proofs.Records.{made_push, atoms_long, graph_refusal-lines as earlier_lines, graph_more, apart_more}
use Rattle.query_mol.specs.declared.atoms.AtomLine.{AtomLine as Says}
use Rattle.query_mol.specs.QueryLines.{AtomList, old_list_of, new_list_of, is_new_list, query_atom_refusal, query_bond_refusal, query_property_refusal, topology_value}
use Rattle.query_mol.specs.QueryRecord.{symbol_test, query_bond_of, query_kind_refusal, lacks_list}
use Rattle.query_mol.specs.LineFacts.{SaysQueryAtom, SaysQueryBond, query_graph_refusal, told_symbol, value_or_none}
use Rattle.query_mol.specs.Tests.{told_test, told_tests, list_at, with_list, with_new_list}
use Rattle.query_mol.specs.QueryKept.{KeepsQuery}
use Rattle.query_mol.proofs.Told.{told_old, told_new, valid_list, valid_new}

abbrev IsTold : Option AtomTest → Type 0
IsTold t = IfSome t IsAtomTest

-- ---- the counts line

counts_code : (lines : List (List ℕ)) (n size : ℕ) (b : Bool) → counts_refusal (line_at lines n) ≡ None → atom_count lines ≡ size → nat_lt 64 size ≡ b → query_kind_refusal lines n counts ≡ (if b then Some 20 else None)
counts_code lines n size b passes size-is many =
    ap (λ (o : Option ℕ). if is_some o then o else (if nat_lt 64 (atom_count lines) then Some 20 else None)) passes
    ∙ ap (λ (k : ℕ). if nat_lt 64 k then Some 20 else None) size-is ∙ ap (λ (b : Bool). if b then Some 20 else None) many

pub counts_many : (lines : List (List ℕ)) (n size : ℕ) → counts_refusal (line_at lines n) ≡ None → atom_count lines ≡ size → 64 < size → query_kind_refusal lines n counts ≡ Some 20
counts_many lines n size passes size-is many = counts_code lines n size true passes size-is (lt-ltb 64 size many)

pub counts_few : (lines : List (List ℕ)) (n size : ℕ) → counts_refusal (line_at lines n) ≡ None → atom_count lines ≡ size → size ≤ 64 → query_kind_refusal lines n counts ≡ None
counts_few lines n size passes size-is few = counts_code lines n size false passes size-is (le-ltb 64 size few)

pub keeps_none : (size : ℕ) (atoms : List Atom) (tests : List (Option AtomTest)) (bonds : List QueryBond) → size ≤ 64 → atoms ≡ [] → tests ≡ [] → bonds ≡ [] → KeepsQuery atoms tests bonds false (no_parts size)
keeps_none size atoms tests bonds few no_atoms no_tests no_bonds = record {
  few = few;
  atoms_are = no_atoms;
  valid_atoms = subst (All (IsAtomFrom 0)) (sym no_atoms) (All-nil (IsAtomFrom 0));
  tests_are = no_tests;
  valid_tests = subst (All IsTold) (sym no_tests) (All-nil IsTold);
  bonds_are = no_bonds;
  valid_bonds = subst (All (IsQueryBond size)) (sym no_bonds) (All-nil (IsQueryBond size));
  apart = subst (AllPairs AreQueryBondsApart) (sym no_bonds) (λ i j d before within. absurd (omega arith));
  aside_is = refl;
}

-- ---- atom lines

says_atom : (size place : ℕ) (line : List ℕ) (says : Says) → SaysQueryAtom line says → says.atom ≡ atom_of size [] (place, line)
says_atom size place line says s =
    ap (λ (k : ℕ). record { element = k; charge = says.atom.charge; mass = says.atom.mass }) s.element
    ∙ ap (λ (k : ℕ). record { element = (value_or_none (field 32 34 line)).0; charge = says.atom.charge; mass = k }) s.mass
    ∙ ap (λ (o : Option ℤ). record { element = (value_or_none (field 32 34 line)).0; charge = unwrap_or o (pos 0); mass = (value_or_none (field 32 34 line)).1 }) (sym s.charge)

abbrev tell : ℕ → List (List ℕ) → List (List ℕ) → ℕ × List ℕ → Option AtomTest
tell size lists properties (place, line) = told_test (list_at size lists properties place) (field 32 34 line)

module _ {lines : List (List ℕ)} {n : ℕ} {line : List ℕ} {parts : Parts} {graph : Graph} where
  pub atom_refused : {code : Option ℕ} → IsHere AtomLine lines n line parts graph → query_atom_refusal line ≡ code → query_kind_refusal lines n atom ≡ code
  atom_refused here is = ap query_atom_refusal here.here ∙ is

  module _ {atoms : List Atom} {tests : List (Option AtomTest)} {bonds : List QueryBond} {aside : Bool} where
    pub atom_taken : (longer : List Atom) (told : List (Option AtomTest)) (says : Says) → longer ≡ atoms ++ says.atom ∷ [] → told ≡ tests ++ says.test ∷ [] → SaysQueryAtom line says
        → KeepsQuery atoms tests bonds aside parts → IsHere AtomLine lines n line parts graph
        → (query_kind_refusal lines n atom ≡ None) × KeepsQuery longer told bonds aside (with_line atom line parts) × IsGraphOf graph (with_line atom line parts)
    atom_taken longer told says longer-is told-is s keeps here = (
      atom_refused here s.passes,
      record {
        few = keeps.few;
        atoms_are = made_push parts.size parts.properties parts.atoms line atoms longer says.atom here.due.1 (says_atom parts.size (1 + length parts.atoms) line says s) keeps.atoms_are longer-is;
        valid_atoms = subst (All (IsAtomFrom 0)) (sym longer-is) (All-push (IsAtomFrom 0) atoms says.atom keeps.valid_atoms s.valid);
        tests_are = told-is
            ∙ ap (λ (x : List (Option AtomTest)). x ++ says.test ∷ []) (keeps.tests_are ∙ ap (λ (x : List (List ℕ)). told_tests parts.size x parts.properties parts.atoms) here.due.0
            ∙ ap (λ (x : List (List ℕ)). told_tests parts.size [] x parts.atoms) here.due.1)
            ∙ ap (λ (x : Option AtomTest). told_tests parts.size [] [] parts.atoms ++ x ∷ []) s.test
            ∙ sym (map-append (tell parts.size [] []) _ ((1 + length parts.atoms, line) ∷ []))
            ∙ sym (ap (map (tell parts.size [] [])) (numbered-push 1 parts.atoms line))
            ∙ ap (λ (x : List (List ℕ)). told_tests parts.size [] x (parts.atoms ++ line ∷ [])) (sym here.due.1)
            ∙ ap (λ (x : List (List ℕ)). told_tests parts.size x parts.properties (parts.atoms ++ line ∷ [])) (sym here.due.0);
        valid_tests = subst (All IsTold) (sym told-is) (All-push IsTold tests says.test keeps.valid_tests s.valid_test);
        bonds_are = keeps.bonds_are;
        valid_bonds = keeps.valid_bonds;
        apart = keeps.apart;
        aside_is = keeps.aside_is;
      },
      record { atoms = here.graph_is.atoms; bonds_are = here.graph_is.bonds_are },
    )

-- ---- bond lines

first_four : (a b c d e : Bool) (i j k l m : ℕ) → first_code ((a, i) ∷ (b, j) ∷ (c, k) ∷ (d, l) ∷ (e, m) ∷ [])
    ≡ (let four = first_code ((a, i) ∷ (b, j) ∷ (c, k) ∷ (d, l) ∷ []) in if is_some four then four else (if e then None else Some m))
first_four false b c d e i j k l m = refl
first_four true false c d e i j k l m = refl
first_four true true false d e i j k l m = refl
first_four true true true false e i j k l m = refl
first_four true true true true e i j k l m = refl

graph_refusal-lines : (graph : Graph) (earlier : List (List ℕ)) (line : List ℕ) → graph.bonds ≡ map ends_of earlier → query_graph_refusal graph line ≡ query_bond_refusal graph.atoms earlier line
unfolding query_graph_refusal
graph_refusal-lines graph earlier line are =
    ap (λ (o : Option ℕ). if is_some o then o else (if is_some (topology_value (field 16 18 line)) then None else Some 22)) (earlier_lines 8 graph earlier line are)
    ∙ sym (first_four
    (is_some (number_of (field 1 3 line)) && is_some (number_of (field 4 6 line)) && is_some (number_of (field 7 9 line)))
    (is_place graph.atoms (bond_first line) && is_place graph.atoms (bond_second line) && not (eqb (bond_first line) (bond_second line)))
    (leb 1 (bond_kind line) && leb (bond_kind line) 8)
    (not (list_any (λ other. joins (ends_of other) (bond_first line) (bond_second line)) earlier))
    (is_some (topology_value (field 16 18 line))) 7 8 9 10 22)

ends_are : (lines : List (List ℕ)) → map query_bond_ends (map query_bond_of lines) ≡ map ends_of lines
ends_are [] = refl
ends_are (line ∷ lines) = ap (λ (x : List Ends). ends_of line ∷ x) (ends_are lines)

module _ {lines : List (List ℕ)} {n : ℕ} {line : List ℕ} {parts : Parts} {graph : Graph} where
  pub bond_refused : {code : Option ℕ} → IsHere BondLine lines n line parts graph → query_graph_refusal graph line ≡ code → query_kind_refusal lines n bond ≡ code
  bond_refused here is =
      ap (λ (x : List ℕ). query_bond_refusal (atom_count lines) (bond_lines_before lines n) x) here.here
      ∙ ap (λ (x : List (List ℕ)). query_bond_refusal (atom_count lines) x line) here.due.0
      ∙ ap (λ (k : ℕ). query_bond_refusal k parts.bonds line) (here.size_is ∙ sym here.graph_is.atoms)
      ∙ sym (graph_refusal-lines graph parts.bonds line here.graph_is.bonds_are) ∙ is

  module _ {atoms : List Atom} {tests : List (Option AtomTest)} {bonds : List QueryBond} {aside : Bool} where
    pub bond_taken : (longer : List QueryBond) (b : QueryBond) (now : Graph) → longer ≡ bonds ++ b ∷ [] → SaysQueryBond graph line b → now ≡ with_bond graph (query_bond_ends b)
        → KeepsQuery atoms tests bonds aside parts → IsHere BondLine lines n line parts graph
        → (query_kind_refusal lines n bond ≡ None) × KeepsQuery atoms tests longer aside (with_line bond line parts) × IsGraphOf now (with_line bond line parts)
    bond_taken longer b now longer-is says now-is keeps here =
        let are : graph.bonds ≡ map query_bond_ends bonds = here.graph_is.bonds_are ∙ sym (ends_are parts.bonds) ∙ ap (map query_bond_ends) (sym keeps.bonds_are) in
        let valid : IsQueryBond parts.size b = subst (λ (k : ℕ). IsQueryBond k b) here.graph_is.atoms says.valid in (
          bond_refused here says.passes,
          record {
            few = keeps.few;
            atoms_are = keeps.atoms_are;
            valid_atoms = keeps.valid_atoms;
            tests_are = keeps.tests_are;
            valid_tests = keeps.valid_tests;
            bonds_are = longer-is ∙ ap (λ (x : List QueryBond). x ++ b ∷ []) keeps.bonds_are ∙ ap (λ (x : QueryBond). map query_bond_of parts.bonds ++ x ∷ []) says.says
                ∙ sym (map-append query_bond_of parts.bonds (line ∷ []));
            valid_bonds = subst (All (IsQueryBond parts.size)) (sym longer-is) (All-push (IsQueryBond parts.size) bonds b keeps.valid_bonds valid);
            apart = subst (AllPairs AreQueryBondsApart) (sym longer-is) (apart_more query_bond_ends bonds b graph.bonds are keeps.apart says.apart);
            aside_is = keeps.aside_is;
          },
          graph_more line (query_bond_ends b) (ap query_bond_ends says.says) now-is here.graph_is,
        )

-- ---- the lines of lists and of properties

tests_long : (size : ℕ) (lists properties lines : List (List ℕ)) (tests : List (Option AtomTest)) → tests ≡ told_tests size lists properties lines → length tests ≡ length lines
tests_long size lists properties lines tests are = ap length are ∙ length-map _ (tell size lists properties) ∙ long_numbered 1 lines
  where
    long_numbered : (k : ℕ) (lines : List (List ℕ)) → length (zip (range_with_len k (length lines)) lines) ≡ length lines
    long_numbered k [] = refl
    long_numbered k (line ∷ lines) = ap suc (long_numbered (k + 1) lines)

abbrev reads_list : ℕ → List ℕ → Bool
reads_list size line = not (is_new_list line) || is_some (new_list_of size line)

abbrev property_code : Option ℕ → Bool → Option ℕ
property_code refusal reads = first_code ((not (is_some refusal), 11) ∷ (reads, 21) ∷ [])

module _ {parts : Parts} {atoms : List Atom} {tests : List (Option AtomTest)} {bonds : List QueryBond} {aside : Bool} (keeps : KeepsQuery atoms tests bonds aside parts) where
  pub size_tests : length parts.atoms ≡ parts.size → length tests ≡ parts.size
  size_tests all = tests_long parts.size parts.lists parts.properties parts.atoms tests keeps.tests_are ∙ all

  pub size_atoms : length parts.atoms ≡ parts.size → length atoms ≡ parts.size
  size_atoms all = atoms_long parts.size parts.properties parts.atoms atoms keeps.atoms_are ∙ all

  -- there are at most 999 of each
  pub few_tests : length parts.atoms ≡ parts.size → length tests ≤ 999
  few_tests all = omega (arith, size_tests all, keeps.few)

  pub few_atoms : length parts.atoms ≡ parts.size → length atoms ≤ 999
  few_atoms all = omega (arith, size_atoms all, keeps.few)

  module _ {lines : List (List ℕ)} {n : ℕ} {line : List ℕ} {graph : Graph} where
    -- the tests are lent as a list of their own
    list_code : (lent : List (Option AtomTest)) (b : Bool) → lent ≡ tests → b ≡ is_some (old_list_of (length lent) line) → IsHere ListLine lines n line parts graph → query_kind_refusal lines n atom_list ≡ (if b then None else Some 21)
    list_code lent b same read here =
        ap (λ (x : List ℕ). if is_some (old_list_of (atom_count lines) x) then None else Some 21) here.here
        ∙ ap (λ (k : ℕ). if is_some (old_list_of k line) then None else Some 21) (here.size_is ∙ sym (ap length same ∙ size_tests here.due.0))
        ∙ ap (λ (b : Bool). if b then None else Some 21) (sym read)

    pub list_refused : (lent : List (Option AtomTest)) (b : Bool) → lent ≡ tests → b ≡ is_some (old_list_of (length lent) line) → b ≡ false → IsHere ListLine lines n line parts graph → query_kind_refusal lines n atom_list ≡ Some 21
    list_refused lent b same read not_read here = list_code lent b same read here ∙ ap (λ (b : Bool). if b then None else Some 21) not_read

    pub list_taken : (lent told : List (Option AtomTest)) (b : Bool) → lent ≡ tests → b ≡ is_some (old_list_of (length lent) line) → b ≡ true → told ≡ with_list lent (old_list_of (length lent) line) → IsHere ListLine lines n line parts graph
        → (query_kind_refusal lines n atom_list ≡ None) × KeepsQuery atoms told bonds aside (with_line atom_list line parts) × IsGraphOf graph (with_line atom_list line parts)
    list_taken lent told b same read is_read told-is here =
        let size : length lent ≡ parts.size = ap length same ∙ size_tests here.due.0 in
        let some : is_some (old_list_of parts.size line) ≡ true = ap (λ (k : ℕ). is_some (old_list_of k line)) (sym size) ∙ sym read ∙ is_read in
        let from : told ≡ with_list tests (old_list_of parts.size line) = told-is ∙ ap (λ (x : List (Option AtomTest)). with_list x (old_list_of (length lent) line)) same ∙ ap (λ (k : ℕ). with_list tests (old_list_of k line)) size in (
          list_code lent b same read here ∙ ap (λ (b : Bool). if b then None else Some 21) is_read,
          record {
            few = keeps.few;
            atoms_are = keeps.atoms_are;
            valid_atoms = keeps.valid_atoms;
            tests_are = from ∙ ap (λ (x : List (Option AtomTest)). with_list x (old_list_of parts.size line)) (keeps.tests_are ∙ ap (λ (x : List (List ℕ)). told_tests parts.size parts.lists x parts.atoms) here.due.1)
                ∙ told_old parts.size parts.lists parts.atoms line some ∙ ap (λ (x : List (List ℕ)). told_tests parts.size (parts.lists ++ line ∷ []) x parts.atoms) (sym here.due.1);
            valid_tests = subst (All IsTold) (sym from) (valid_list tests (old_list_of parts.size line) keeps.valid_tests);
            bonds_are = keeps.bonds_are;
            valid_bonds = keeps.valid_bonds;
            apart = keeps.apart;
            aside_is = keeps.aside_is;
          },
          record { atoms = here.graph_is.atoms; bonds_are = here.graph_is.bonds_are },
        )

    module _ (lent : List Atom) (same : lent ≡ atoms) (here : IsHere PropertyLine lines n line parts graph) where
      refusal_is : {o : Option ℕ} → property_refusal (length lent) line ≡ o → query_kind_refusal lines n property ≡ property_code o (reads_list parts.size line)
      refusal_is is =
          ap (λ (x : List ℕ). query_property_refusal (atom_count lines) x) here.here ∙ ap (λ (k : ℕ). query_property_refusal k line) here.size_is
          ∙ ap (λ (o : Option ℕ). property_code o (reads_list parts.size line)) (ap (λ (k : ℕ). property_refusal k line) (sym (ap length same ∙ size_atoms here.due)) ∙ is)

      pub property_refused : property_refusal (length lent) line ≡ Some 11 → query_kind_refusal lines n property ≡ Some 11
      property_refused is = refusal_is is

      module _ (tests_lent : List (Option AtomTest)) (b : Bool) (same_tests : tests_lent ≡ tests) (read : b ≡ reads_list (length tests_lent) line) (passes : property_refusal (length lent) line ≡ None) where
        reads : reads_list parts.size line ≡ b
        reads = ap (λ (k : ℕ). reads_list k line) (sym (ap length same_tests ∙ size_tests here.due)) ∙ sym read

        pub new_list_refused : b ≡ false → query_kind_refusal lines n property ≡ Some 21
        new_list_refused not_read = refusal_is passes ∙ ap (property_code None) (reads ∙ not_read)

        pub property_taken : (changed : List Atom) (told : List (Option AtomTest)) (now : Bool) → b ≡ true → changed ≡ with_property aside line lent → now ≡ (aside || sets_aside line)
            → ((least : ℕ) → All (IsAtomFrom least) lent → All (IsAtomFrom least) changed) → told ≡ with_new_list (length tests_lent) line tests_lent
            → (query_kind_refusal lines n property ≡ None) × KeepsQuery changed told bonds now (with_line property line parts) × IsGraphOf graph (with_line property line parts)
        property_taken changed told now is_read changed-is now-is valid told-is =
            let from : told ≡ with_new_list parts.size line tests = told-is ∙ ap (λ (k : ℕ). with_new_list k line tests_lent) (ap length same_tests ∙ size_tests here.due) ∙ ap (with_new_list parts.size line) same_tests in (
              refusal_is passes ∙ ap (property_code None) (reads ∙ is_read),
              record {
                few = keeps.few;
                atoms_are = changed-is ∙ ap (with_property aside line) same ∙ ap (λ (b : Bool). with_property b line atoms) keeps.aside_is ∙ ap (with_property (sets_charges_aside parts.properties) line) keeps.atoms_are
                    ∙ made_atoms-push parts.size parts.properties line parts.atoms here.due;
                valid_atoms = valid 0 (subst (All (IsAtomFrom 0)) (sym same) keeps.valid_atoms);
                tests_are = from ∙ ap (with_new_list parts.size line) keeps.tests_are ∙ told_new parts.size parts.lists parts.properties parts.atoms line (reads ∙ is_read);
                valid_tests = subst (All IsTold) (sym from) (valid_new parts.size line tests keeps.valid_tests);
                bonds_are = keeps.bonds_are;
                valid_bonds = keeps.valid_bonds;
                apart = keeps.apart;
                aside_is = now-is ∙ ap (λ (b : Bool). b || sets_aside line) keeps.aside_is ∙ sym (aside-push parts.properties line);
              },
              record { atoms = here.graph_is.atoms; bonds_are = here.graph_is.bonds_are },
            )

-- ---- the end mark

lacks_one : (o : Option AtomList) (symbol : List ℕ) → (bytes_eq symbol (codes "L") && not (is_some o)) ≡ not (is_some (told_test o symbol))
unfolding told_symbol
lacks_one None symbol = go (bytes_eq symbol (codes "L"))
  where
    go : (b : Bool) → (b && true) ≡ not (is_some (if b then None else Some (symbol_test symbol)))
    go true = refl
    go false = refl
lacks_one (Some one) symbol = go (bytes_eq symbol (codes "L"))
  where
    go : (b : Bool) → (b && false) ≡ false
    go true = refl
    go false = refl

not_both : (a b : Bool) → (not a || not b) ≡ not (a && b)
not_both true b = refl
not_both false b = refl

lacks_all : (f : ℕ → Option AtomList) (xs : List (ℕ × List ℕ)) → list_any (λ (place, line). bytes_eq (field 32 34 line) (codes "L") && not (is_some (f place))) xs
    ≡ not (list_all (λ t. is_some t) (map (λ (place, line). told_test (f place) (field 32 34 line)) xs))
lacks_all f [] = refl
lacks_all f (x ∷ xs) =
    ap (λ (b : Bool). b || list_any (λ (place, line). bytes_eq (field 32 34 line) (codes "L") && not (is_some (f place))) xs) (lacks_one (f x.0) (field 32 34 x.1))
    ∙ ap (λ (b : Bool). not (is_some (told_test (f x.0) (field 32 34 x.1))) || b) (lacks_all f xs)
    ∙ not_both (is_some (told_test (f x.0) (field 32 34 x.1))) (list_all (λ t. is_some t) (map (λ (place, line). told_test (f place) (field 32 34 line)) xs))

abbrev lacks_of : Parts → Bool
lacks_of parts =
    list_any (λ (place, line). bytes_eq (field 32 34 line) (codes "L") && not (is_some (list_at parts.size parts.lists parts.properties place))) (zip (range_with_len 1 (length parts.atoms)) parts.atoms)

module _ (lines : List (List ℕ)) {parts : Parts} {atoms : List Atom} {tests : List (Option AtomTest)} {bonds : List QueryBond} {aside : Bool} (keeps : KeepsQuery atoms tests bonds aside parts) (are : parts_of (atom_count lines) lines (kinds_of lines) ≡ parts) where
  -- whether an atom waits for its list
  pub lacks : lacks_list lines ≡ not (list_all (λ t. is_some t) tests)
  lacks = ap lacks_of are ∙ lacks_all (list_at parts.size parts.lists parts.properties) (zip (range_with_len 1 (length parts.atoms)) parts.atoms)
      ∙ ap (λ (x : List (Option AtomTest)). not (list_all (λ t. is_some t) x)) (sym keeps.tests_are)

  pub end_code : (n : ℕ) (b : Bool) → b ≡ list_all (λ t. is_some t) tests → query_kind_refusal lines n end_mark ≡ (if b then None else Some 21)
  end_code n b told = ap (λ (b : Bool). if b then Some 21 else None) (lacks ∙ ap not (sym told)) ∙ go b
    where
      go : (b : Bool) → ◌≡◌ {A = Option ℕ} (if not b then Some 21 else None) (if b then None else Some 21)
      go true = refl
      go false = refl
