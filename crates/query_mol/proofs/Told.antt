-- What the lists make of the tests.
use Rattle.std.proofs.Common.{◌≡◌, ◌≢◌, ℕ, zero, suc, ◌+◌, ◌-◌, ◌<◌, ◌≤◌, Bool, true, false, not, ◌||◌, eqb, leb, List, [], ◌∷◌, ◌++◌, length, take, drop, map, set, All, refl, sym, ap, subst, ◌∙◌, arith}
use Rattle.std.specs.Prelude.{Option, Some, None, IfSome, option_and_then, is_some, if◌then◌else◌}
use Rattle.std.specs.List.{zip, range_with_len, filter_map}
use Rattle.std.proofs.lemmas.Bool.{cond-true, cond-false, eq-eqb, ne_eqb, and_parts, leb-true}
use Rattle.std.proofs.lemmas.List.{append-nil, length-set, take_at}
use Rattle.std.proofs.lemmas.List.Elements.{filter_map-append, All-set}
use Rattle.std.proofs.lemmas.Option.{same_Some}
use Rattle.htss_defs.specs.declared.query.AtomTest.{AtomTest}
use Rattle.mol_section.specs.Fields.{field, number_of}
use Rattle.mol_section.specs.SectionLines.{is_place}
use Rattle.query_mol.specs.QueryLines.{AtomList, old_list_of, new_list_of, is_new_list, old_list, new_list, place_word, excludes_value, count_word, elements_of, element_number, element_symbol}
use Rattle.htss_defs.specs.declared.query.AtomTest.TheVariants.{OneOf, NoneOf}
use Rattle.htss_defs.specs.QueryGraph.{IsAtomTest}
use Rattle.query_mol.specs.QueryRecord.{last_list, list_test, set_of}
use Rattle.query_mol.specs.Tests.{told_test, told_tests, list_at, news, olds, with_list, with_new_list}

abbrev Numbered : Type 0
Numbered = ℕ × List ℕ

abbrev numbered : ℕ → List (List ℕ) → List Numbered
numbered k lines = zip (range_with_len k (length lines)) lines

same_told : (f g : Numbered → Option AtomTest) (k p : ℕ) (lines : List (List ℕ)) → p < k → ((j : ℕ) (line : List ℕ) → j ≢ p → f (j, line) ≡ g (j, line)) → map f (numbered k lines) ≡ map g (numbered k lines)
same_told f g k p [] lt same = refl
same_told f g k p (line ∷ lines) lt same =
    let head : f (k, line) ≡ g (k, line) = same k line (omega arith) in
    let rest : map f (numbered (k + 1) lines) ≡ map g (numbered (k + 1) lines) = same_told f g (k + 1) p lines (omega arith) same in
    cc

set_told : (f g : Numbered → Option AtomTest) (t : Option AtomTest) (k i p : ℕ) (lines : List (List ℕ)) → p ≡ k + i → ((line : List ℕ) → t ≡ g (p, line)) → ((j : ℕ) (line : List ℕ) → j ≢ p → f (j, line) ≡ g (j, line))
    → set (map f (numbered k lines)) i t ≡ map g (numbered k lines)
set_told f g t k i p [] place here same = refl
set_told f g t k zero p (line ∷ lines) place here same =
    let e : p ≡ k = omega arith in
    let head : t ≡ g (k, line) = here line ∙ ap (λ (j : ℕ). g (j, line)) e in
    let rest : map f (numbered (k + 1) lines) ≡ map g (numbered (k + 1) lines) = same_told f g (k + 1) p lines (omega arith) same in
    cc
set_told f g t k (suc i) p (line ∷ lines) place here same =
    let head : f (k, line) ≡ g (k, line) = same k line (omega arith) in
    let rest : set (map f (numbered (k + 1) lines)) i t ≡ map g (numbered (k + 1) lines) = set_told f g t (k + 1) i p lines (omega arith) here same in
    cc

last_push : (place : ℕ) (lists : List AtomList) (one : AtomList) (found : Option AtomList) → last_list place (lists ++ one ∷ []) found ≡ (if eqb one.place place then Some one else last_list place lists found)
last_push place [] one found = refl
last_push place (l ∷ lists) one found = last_push place lists one (if eqb l.place place then Some l else found)

last_here : (lists : List AtomList) (one : AtomList) (found : Option AtomList) → last_list one.place (lists ++ one ∷ []) found ≡ Some one
last_here lists one found = last_push one.place lists one found ∙ cond-true (eqb one.place one.place) (Some one) (last_list one.place lists found) (eq-eqb one.place one.place refl)

last_other : (place : ℕ) (lists : List AtomList) (one : AtomList) (found : Option AtomList) → place ≢ one.place → last_list place lists found ≡ last_list place (lists ++ one ∷ []) found
last_other place lists one found other = sym (last_push place lists one found ∙ cond-false (eqb one.place place) (Some one) (last_list place lists found) (ne_eqb one.place place (λ e. other (sym e))))

pushed : (f : List ℕ → Option AtomList) (lines : List (List ℕ)) (line : List ℕ) (one : AtomList) → f line ≡ Some one → filter_map f (lines ++ line ∷ []) ≡ filter_map f lines ++ one ∷ []
pushed f lines line one is = filter_map-append f lines (line ∷ []) ∙ ap (λ (x : List AtomList). filter_map f lines ++ x) (rw is refl)

not_pushed : (f : List ℕ → Option AtomList) (lines : List (List ℕ)) (line : List ℕ) → f line ≡ None → filter_map f (lines ++ line ∷ []) ≡ filter_map f lines
not_pushed f lines line is = filter_map-append f lines (line ∷ []) ∙ ap (λ (x : List AtomList). filter_map f lines ++ x) (rw is refl) ∙ append-nil (filter_map f lines)

abbrev tell : ℕ → List (List ℕ) → List (List ℕ) → Numbered → Option AtomTest
tell size lists properties (place, line) = told_test (list_at size lists properties place) (field 32 34 line)

-- ---- the place of a list is a place

place_is : (n : ℕ) (o : Option ℕ) (p : ℕ) → option_and_then (λ p. if is_place n p then Some p else None) o ≡ Some p → 1 ≤ p
place_is n None p e = absurd cc
place_is n (Some q) p e = go (is_place n q) refl e
  where
    go : (b : Bool) → is_place n q ≡ b → (if b then Some q else None) ≡ Some p → 1 ≤ p
    go true is same = subst (λ (k : ℕ). 1 ≤ k) (same_Some q p same) (leb-true 1 q (and_parts (leb 1 q) (leb q n) is).0)
    go false is same = absurd cc

old_parts : (n : ℕ) (place : Option ℕ) (letter : Option Bool) (count : Option ℕ) (elements : ℕ → Option (List ℕ)) (one : AtomList)
    → ((p : ℕ) → place ≡ Some p → 1 ≤ p)
    → option_and_then (λ (p : ℕ). option_and_then (λ (x : Bool). option_and_then (λ (n : ℕ). option_and_then (λ (es : List ℕ). Some (record { place = p; excludes = x; elements = es })) (elements n)) count) letter) place ≡ Some one
    → 1 ≤ one.place
old_parts n None letter count elements one low e = absurd cc
old_parts n (Some p) None count elements one low e = absurd cc
old_parts n (Some p) (Some x) None elements one low e = absurd cc
old_parts n (Some p) (Some x) (Some k) elements one low e = go (elements k) e
  where
    go : (o : Option (List ℕ)) → option_and_then (λ (es : List ℕ). Some (record { place = p; excludes = x; elements = es })) o ≡ Some one → 1 ≤ one.place
    go None e = absurd cc
    go (Some es) e = subst (λ (l : AtomList). 1 ≤ l.place) (same_Some (record { place = p; excludes = x; elements = es }) one e) (low p refl)

old_place : (n : ℕ) (words : List (List ℕ)) (one : AtomList) → old_list n words ≡ Some one → 1 ≤ one.place
old_place n [] one e = absurd cc
old_place n (a ∷ []) one e = absurd cc
old_place n (a ∷ b ∷ []) one e = absurd cc
old_place n (a ∷ b ∷ c ∷ words) one e =
    old_parts n (place_word n a) (excludes_value b) (count_word 5 c) (λ k. elements_of element_number k words) one (λ p is. place_is n (number_of a) p is) e

new_parts : (n : ℕ) (place : Option ℕ) (count : Option ℕ) (letter : Option Bool) (elements : ℕ → Option (List ℕ)) (one : AtomList)
    → ((p : ℕ) → place ≡ Some p → 1 ≤ p)
    → option_and_then (λ (p : ℕ). option_and_then (λ (n : ℕ). option_and_then (λ (x : Bool). option_and_then (λ (es : List ℕ). Some (record { place = p; excludes = x; elements = es })) (elements n)) letter) count) place ≡ Some one
    → 1 ≤ one.place
new_parts n None count letter elements one low e = absurd cc
new_parts n (Some p) None letter elements one low e = absurd cc
new_parts n (Some p) (Some k) None elements one low e = absurd cc
new_parts n (Some p) (Some k) (Some x) elements one low e = go (elements k) e
  where
    go : (o : Option (List ℕ)) → option_and_then (λ (es : List ℕ). Some (record { place = p; excludes = x; elements = es })) o ≡ Some one → 1 ≤ one.place
    go None e = absurd cc
    go (Some es) e = subst (λ (l : AtomList). 1 ≤ l.place) (same_Some (record { place = p; excludes = x; elements = es }) one e) (low p refl)

new_place : (n : ℕ) (words : List (List ℕ)) (one : AtomList) → new_list n words ≡ Some one → 1 ≤ one.place
new_place n [] one e = absurd cc
new_place n (a ∷ []) one e = absurd cc
new_place n (a ∷ b ∷ []) one e = absurd cc
new_place n (a ∷ b ∷ c ∷ words) one e =
    new_parts n (place_word n a) (count_word 16 b) (excludes_value c) (λ k. elements_of element_symbol k words) one (λ p is. place_is n (number_of a) p is) e

-- ---- one list more

told_old_one : (size : ℕ) (lists lines : List (List ℕ)) (line : List ℕ) (one : AtomList) → old_list_of size line ≡ Some one
    → set (told_tests size lists [] lines) (one.place - 1) (Some (list_test one)) ≡ told_tests size (lists ++ line ∷ []) [] lines
told_old_one size lists lines line one is =
    let low : 1 ≤ one.place = old_place size _ one is in
    let more : olds size (lists ++ line ∷ []) ≡ olds size lists ++ one ∷ [] = pushed (old_list_of size) lists line one is in
    set_told (tell size lists []) (tell size (lists ++ line ∷ []) []) (Some (list_test one)) 1 (one.place - 1) one.place lines (omega arith)
    (λ l. ap (λ (o : Option AtomList). told_test o (field 32 34 l)) (sym (ap (λ (x : List AtomList). last_list one.place x None) more ∙ last_here (olds size lists) one None)))
    (λ j l other. ap (λ (o : Option AtomList). told_test o (field 32 34 l)) (last_other j (olds size lists) one None other ∙ sym (ap (λ (x : List AtomList). last_list j x None) more)))

pub told_old : (size : ℕ) (lists lines : List (List ℕ)) (line : List ℕ) → is_some (old_list_of size line) ≡ true
    → with_list (told_tests size lists [] lines) (old_list_of size line) ≡ told_tests size (lists ++ line ∷ []) [] lines
told_old size lists lines line some = go (old_list_of size line) refl some
  where
    go : (o : Option AtomList) → old_list_of size line ≡ o → is_some o ≡ true → with_list (told_tests size lists [] lines) o ≡ told_tests size (lists ++ line ∷ []) [] lines
    go None is some = absurd cc
    go (Some one) is some = told_old_one size lists lines line one is

abbrev new_of : ℕ → List ℕ → Option AtomList
new_of size line = if is_new_list line then new_list_of size line else None

told_new_one : (size : ℕ) (lists properties lines : List (List ℕ)) (line : List ℕ) (one : AtomList) → new_of size line ≡ Some one → 1 ≤ one.place
    → set (told_tests size lists properties lines) (one.place - 1) (Some (list_test one)) ≡ told_tests size lists (properties ++ line ∷ []) lines
told_new_one size lists properties lines line one is low =
    let more : news size (properties ++ line ∷ []) ≡ news size properties ++ one ∷ [] = pushed (new_of size) properties line one is in
    set_told (tell size lists properties) (tell size lists (properties ++ line ∷ [])) (Some (list_test one)) 1 (one.place - 1) one.place lines (omega arith)
    (λ l. ap (λ (o : Option AtomList). told_test o (field 32 34 l))
    (sym (ap (λ (x : List AtomList). last_list one.place x (last_list one.place (olds size lists) None)) more ∙ last_here (news size properties) one (last_list one.place (olds size lists) None))))
    (λ j l other. ap (λ (o : Option AtomList). told_test o (field 32 34 l))
    (last_other j (news size properties) one (last_list j (olds size lists) None) other ∙ sym (ap (λ (x : List AtomList). last_list j x (last_list j (olds size lists) None)) more)))

pub told_new : (size : ℕ) (lists properties lines : List (List ℕ)) (line : List ℕ) → (not (is_new_list line) || is_some (new_list_of size line)) ≡ true
    → with_new_list size line (told_tests size lists properties lines) ≡ told_tests size lists (properties ++ line ∷ []) lines
unfolding with_new_list
told_new size lists properties lines line well = go (is_new_list line) (new_list_of size line) refl refl well
  where
    go : (b : Bool) (o : Option AtomList) → is_new_list line ≡ b → new_list_of size line ≡ o → (not b || is_some o) ≡ true
        → (if b then with_list (told_tests size lists properties lines) o else told_tests size lists properties lines) ≡ told_tests size lists (properties ++ line ∷ []) lines
    go true None b o well = absurd cc
    go true (Some one) b o well = told_new_one size lists properties lines line one (cond-true (is_new_list line) (new_list_of size line) None b ∙ o) (new_place size _ one o)
    go false o b is well =
        let none : news size (properties ++ line ∷ []) ≡ news size properties = not_pushed (new_of size) properties line (cond-false (is_new_list line) (new_list_of size line) None b) in
        ap (λ (x : List AtomList). map (λ (n : Numbered). told_test (last_list n.0 x (last_list n.0 (olds size lists) None)) (field 32 34 n.1)) (numbered 1 lines)) (sym none)

-- ---- the tests stay tests

abbrev IsTold : Option AtomTest → Type 0
IsTold t = IfSome t IsAtomTest

list_test-is : (one : AtomList) → IsAtomTest (list_test one)
list_test-is one = go one.excludes
  where
    go : (b : Bool) → IsAtomTest (if b then NoneOf (record { 0 = set_of one.elements }) else OneOf (record { 0 = set_of one.elements }))
    go true = tt
    go false = tt

pub valid_list : (tests : List (Option AtomTest)) (o : Option AtomList) → All IsTold tests → All IsTold (with_list tests o)
valid_list tests None valid = valid
valid_list tests (Some one) valid = All-set IsTold tests (one.place - 1) (Some (list_test one)) (list_test-is one) valid

pub valid_new : (size : ℕ) (line : List ℕ) (tests : List (Option AtomTest)) → All IsTold tests → All IsTold (with_new_list size line tests)
unfolding with_new_list
valid_new size line tests valid = go (is_new_list line)
  where
    go : (b : Bool) → All IsTold (if b then with_list tests (new_list_of size line) else tests)
    go true = valid_list tests (new_list_of size line) valid
    go false = valid

pub long_list : (tests : List (Option AtomTest)) (o : Option AtomList) → length (with_list tests o) ≡ length tests
long_list tests None = refl
long_list tests (Some one) = length-set tests (one.place - 1) (Some (list_test one))

pub long_new : (size : ℕ) (line : List ℕ) (tests : List (Option AtomTest)) → length (with_new_list size line tests) ≡ length tests
unfolding with_new_list
long_new size line tests = go (is_new_list line)
  where
    go : (b : Bool) → length (if b then with_list tests (new_list_of size line) else tests) ≡ length tests
    go true = long_list tests (new_list_of size line)
    go false = refl

-- a slice that was lent from a vector, written back
pub written : {X : Type 0} (new items lent : List X) (len : ℕ) → lent ≡ items → length new ≡ length lent → length items ≡ len → take len (new ++ drop (length new) items) ≡ new
written new items lent len is same long =
    let size : len ≡ length new = omega (arith, ap length is) in
    take_at new (drop (length new) items) len (sym size)
