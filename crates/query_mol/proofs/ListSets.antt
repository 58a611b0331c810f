-- The elements of an atom list, read one after the other as a loop does.
use Rattle.std.proofs.Common.{◌≡◌, ◌⊎◌, ℕ, suc, ◌+◌, ◌-◌, ◌≤◌, ◌<◌, List, [], ◌∷◌, Bool, true, false, eqb, refl, sym, ap, ◌∙◌, inl, inr, arith}
use Rattle.std.specs.Prelude.{Option, Some, None, fold, option_and_then, position, if◌then◌else◌}
use Rattle.std.specs.Option.{option_map}
use Rattle.std.specs.Str.{bytes_eq}
use Rattle.std.proofs.lemmas.Bool.{cases_Bool, eq-eqb, ne_eqb, cond-true, cond-false}
use Rattle.std.proofs.lemmas.Option.{same_Some}
use Rattle.std.proofs.lemmas.Slice.Eq.{bytes_eq-Decides}
use lib.Chars.{codes}
use Rattle.htss_defs.specs.Elements.{symbols}
use Rattle.mol_section.specs.SectionLines.{symbol_value}
use Rattle.htss_defs.specs.declared.query.ElementSet.{ElementSet}
use Rattle.query_mol.specs.QueryLines.{AtomList, elements_of, element_symbol, place_word, excludes_value, count_word, old_list, new_list}
use Rattle.query_mol.specs.QueryRecord.{set_of}
use Rattle.query_mol.specs.ListWords.{with_element, three, element_value, listed_of}

-- the elements that begin with one that was read
abbrev begun : Option (List ℕ) → Option ℕ → Option (List ℕ)
begun more value = option_and_then (λ e. option_and_then (λ rest. Some (e ∷ rest)) more) value

module _ (value : List ℕ → Option ℕ) where
  abbrev sets : ℕ → ℕ → List (List ℕ) → Option ℕ
  sets set n words = option_map (fold with_element set) (elements_of value n words)

  put_first : (set e : ℕ) (more : Option (List ℕ)) → option_map (fold with_element set) (option_and_then (λ rest. Some (e ∷ rest)) more) ≡ option_map (fold with_element (with_element set e)) more
  put_first set e None = refl
  put_first set e (Some rest) = refl

  unrolled : (set count i : ℕ) (words after : List (List ℕ)) (word : List ℕ) → i < count → words ≡ word ∷ after
      → sets set (count - i) words ≡ option_map (fold with_element set) (begun (elements_of value (count - (i + 1)) after) (value word))
  unrolled set count i words after word lt are =
      let k : count - i ≡ suc (count - (i + 1)) = omega arith in
      ap (λ (n : ℕ). sets set n words) k ∙ ap (sets set (suc (count - (i + 1)))) are

  pub goes_on : (set e count i : ℕ) (words after : List (List ℕ)) (word : List ℕ) (total : Option ℕ) → i < count → words ≡ word ∷ after → value word ≡ Some e
      → sets set (count - i) words ≡ total → sets (with_element set e) (count - (i + 1)) after ≡ total
  goes_on set e count i words after word total lt are is so_far =
      sym (put_first set e (elements_of value (count - (i + 1)) after))
      ∙ sym (unrolled set count i words after word lt are ∙ ap (λ (o : Option ℕ). option_map (fold with_element set) (begun (elements_of value (count - (i + 1)) after) o)) is) ∙ so_far

  pub no_element : (set count i : ℕ) (words after : List (List ℕ)) (word : List ℕ) (total : Option ℕ) → i < count → words ≡ word ∷ after → value word ≡ None
      → sets set (count - i) words ≡ total → None ≡ total
  no_element set count i words after word total lt are is so_far =
      sym (unrolled set count i words after word lt are ∙ ap (λ (o : Option ℕ). option_map (fold with_element set) (begun (elements_of value (count - (i + 1)) after) o)) is) ∙ so_far

  pub no_word : (set count i : ℕ) (words : List (List ℕ)) (total : Option ℕ) → i < count → words ≡ [] → sets set (count - i) words ≡ total → None ≡ total
  no_word set count i words total lt none so_far =
      let k : count - i ≡ suc (count - (i + 1)) = omega arith in
      sym (ap (λ (n : ℕ). sets set n words) k ∙ ap (sets set (suc (count - (i + 1)))) none) ∙ so_far

  pub is_done : (set count i : ℕ) (words : List (List ℕ)) (total : Option ℕ) → count ≤ i → sets set (count - i) words ≡ total → Some set ≡ total
  is_done set count i words total le so_far =
      let k : count - i ≡ 0 = omega arith in
      sym (ap (λ (n : ℕ). sets set n words) k) ∙ so_far

-- the symbols of the table are those that stand for no isotope
abbrev plain : Option (ℕ × ℕ) → Option ℕ
plain value = option_and_then (λ (x : ℕ × ℕ). if eqb x.1 0 then Some x.0 else None) value

plain_place : (o : Option ℕ) → option_and_then (λ (i : ℕ). Some (i + 1)) o ≡ plain (option_and_then (λ (i : ℕ). Some (i + 1, 0)) o)
plain_place None = refl
plain_place (Some i) = refl

pub element_symbol-plain : (word : List ℕ) → element_symbol word ≡ plain (symbol_value word)
unfolding symbol_value
element_symbol-plain word = go (cases_Bool (bytes_eq word (codes "D"))) (cases_Bool (bytes_eq word (codes "T")))
  where
    go : (bytes_eq word (codes "D") ≡ true) ⊎ (bytes_eq word (codes "D") ≡ false) → (bytes_eq word (codes "T") ≡ true) ⊎ (bytes_eq word (codes "T") ≡ false)
        → element_symbol word ≡ plain (symbol_value word)
    go (inl d) t = rw d (ap element_symbol ((bytes_eq-Decides word (codes "D")).0 d))
    go (inr d) (inl t) = rw (d, t) (ap element_symbol ((bytes_eq-Decides word (codes "T")).0 t))
    go (inr d) (inr t) = rw (d, t) (plain_place (position (λ (s : List ℕ). bytes_eq s word) symbols))

pub plain_none : (word : List ℕ) → None ≡ symbol_value word → None ≡ element_symbol word
plain_none word none = sym (element_symbol-plain word ∙ ap plain (sym none))

pub plain_isotope : (word : List ℕ) (element mass : ℕ) → Some (element, mass) ≡ symbol_value word → 0 < mass → None ≡ element_symbol word
plain_isotope word element mass value some = sym (element_symbol-plain word ∙ ap plain (sym value) ∙ cond-false (eqb mass 0) (Some element) None (ne_eqb mass 0 (λ e. absurd (omega arith))))

pub plain_element : (word : List ℕ) (element mass : ℕ) → Some (element, mass) ≡ symbol_value word → mass ≡ 0 → Some element ≡ element_symbol word
plain_element word element mass value none = sym (element_symbol-plain word ∙ ap plain (sym value) ∙ cond-true (eqb mass 0) (Some element) None (eq-eqb mass 0 none))

-- ---- an atom list by its parts

module _ (atoms : ℕ) (words ws : List (List ℕ)) (a b c : List ℕ) where
  abbrev numbers : ℕ → Option (List ℕ)
  numbers n = elements_of (element_value false) n ws

  abbrev names : ℕ → Option (List ℕ)
  names n = elements_of (element_value true) n ws

  abbrev with_elements : ℕ → Bool → Option (List ℕ) → Option AtomList
  with_elements p x es = option_and_then (λ (es : List ℕ). Some (record { place = p; excludes = x; elements = es })) es

  abbrev old_chain : Option ℕ → Option Bool → Option ℕ → Option AtomList
  old_chain place excludes count =
      option_and_then (λ (p : ℕ). option_and_then (λ (x : Bool). option_and_then (λ (n : ℕ). with_elements p x (numbers n)) count) excludes) place

  abbrev new_chain : Option ℕ → Option ℕ → Option Bool → Option AtomList
  new_chain place count excludes =
      option_and_then (λ (p : ℕ). option_and_then (λ (n : ℕ). option_and_then (λ (x : Bool). with_elements p x (names n)) excludes) count) place

  old_is : Some (a, b, c, ws) ≡ three words → old_list atoms words ≡ old_chain (place_word atoms a) (excludes_value b) (count_word 5 c)
  unfolding three element_value
  old_is e = go words e
    where
      go : (words : List (List ℕ)) → Some (a, b, c, ws) ≡ three words → old_list atoms words ≡ old_chain (place_word atoms a) (excludes_value b) (count_word 5 c)
      go [] e = absurd cc
      go (x ∷ []) e = absurd cc
      go (x ∷ y ∷ []) e = absurd cc
      go (x ∷ y ∷ z ∷ more) e = ap (λ (w : List ℕ × List ℕ × List ℕ × List (List ℕ)). old_list atoms (w.0 ∷ w.1 ∷ w.2 ∷ w.3)) (sym (same_Some (a, b, c, ws) (x, y, z, more) e))

  new_is : Some (a, b, c, ws) ≡ three words → new_list atoms words ≡ new_chain (place_word atoms a) (count_word 16 b) (excludes_value c)
  unfolding three element_value
  new_is e = go words e
    where
      go : (words : List (List ℕ)) → Some (a, b, c, ws) ≡ three words → new_list atoms words ≡ new_chain (place_word atoms a) (count_word 16 b) (excludes_value c)
      go [] e = absurd cc
      go (x ∷ []) e = absurd cc
      go (x ∷ y ∷ []) e = absurd cc
      go (x ∷ y ∷ z ∷ more) e = ap (λ (w : List ℕ × List ℕ × List ℕ × List (List ℕ)). new_list atoms (w.0 ∷ w.1 ∷ w.2 ∷ w.3)) (sym (same_Some (a, b, c, ws) (x, y, z, more) e))

  no_elements : (p : ℕ) (x : Bool) (es : Option (List ℕ)) → None ≡ option_map set_of es → None ≡ option_map listed_of (with_elements p x es)
  no_elements p x None e = refl
  no_elements p x (Some es) e = absurd cc

  all_elements : (p : ℕ) (x : Bool) (s : ElementSet) (es : Option (List ℕ)) → Some s.0 ≡ option_map set_of es
      → Some (record { place = p; excludes = x; elements = s }) ≡ option_map listed_of (with_elements p x es)
  all_elements p x s None e = absurd cc
  all_elements p x s (Some es) e = ap (λ (n : ℕ). Some (record { place = p; excludes = x; elements = record { 0 = n } })) (same_Some s.0 (set_of es) e)

  module _ (e : Some (a, b, c, ws) ≡ three words) where
    pub old_no_place : None ≡ place_word atoms a → None ≡ option_map listed_of (old_list atoms words)
    old_no_place none = sym (ap (option_map listed_of) (old_is e ∙ ap (λ (o : Option ℕ). old_chain o (excludes_value b) (count_word 5 c)) (sym none)))

    pub new_no_place : None ≡ place_word atoms a → None ≡ option_map listed_of (new_list atoms words)
    new_no_place none = sym (ap (option_map listed_of) (new_is e ∙ ap (λ (o : Option ℕ). new_chain o (count_word 16 b) (excludes_value c)) (sym none)))

    old_with : (p : ℕ) → Some p ≡ place_word atoms a → old_list atoms words ≡ old_chain (Some p) (excludes_value b) (count_word 5 c)
    old_with p place = old_is e ∙ ap (λ (o : Option ℕ). old_chain o (excludes_value b) (count_word 5 c)) (sym place)

    new_with : (p : ℕ) → Some p ≡ place_word atoms a → new_list atoms words ≡ new_chain (Some p) (count_word 16 b) (excludes_value c)
    new_with p place = new_is e ∙ ap (λ (o : Option ℕ). new_chain o (count_word 16 b) (excludes_value c)) (sym place)

    pub old_no_letter : (p : ℕ) → Some p ≡ place_word atoms a → None ≡ excludes_value b → None ≡ option_map listed_of (old_list atoms words)
    old_no_letter p place none = sym (ap (option_map listed_of) (old_with p place ∙ ap (λ (o : Option Bool). old_chain (Some p) o (count_word 5 c)) (sym none)))

    pub new_no_count : (p : ℕ) → Some p ≡ place_word atoms a → None ≡ count_word 16 b → None ≡ option_map listed_of (new_list atoms words)
    new_no_count p place none = sym (ap (option_map listed_of) (new_with p place ∙ ap (λ (o : Option ℕ). new_chain (Some p) o (excludes_value c)) (sym none)))

    pub old_no_count : (p : ℕ) (x : Bool) → Some p ≡ place_word atoms a → Some x ≡ excludes_value b → None ≡ count_word 5 c → None ≡ option_map listed_of (old_list atoms words)
    old_no_count p x place letter none =
        sym (ap (option_map listed_of) (old_with p place ∙ ap (λ (o : Option Bool). old_chain (Some p) o (count_word 5 c)) (sym letter) ∙ ap (old_chain (Some p) (Some x)) (sym none)))

    pub new_no_letter : (p n : ℕ) → Some p ≡ place_word atoms a → Some n ≡ count_word 16 b → None ≡ excludes_value c → None ≡ option_map listed_of (new_list atoms words)
    new_no_letter p n place count none =
        sym (ap (option_map listed_of) (new_with p place ∙ ap (λ (o : Option ℕ). new_chain (Some p) o (excludes_value c)) (sym count) ∙ ap (new_chain (Some p) (Some n)) (sym none)))

    old_whole : (p : ℕ) (x : Bool) (n : ℕ) → Some p ≡ place_word atoms a → Some x ≡ excludes_value b → Some n ≡ count_word 5 c → old_list atoms words ≡ with_elements p x (numbers n)
    old_whole p x n place letter count =
        old_with p place ∙ ap (λ (o : Option Bool). old_chain (Some p) o (count_word 5 c)) (sym letter) ∙ ap (old_chain (Some p) (Some x)) (sym count)

    new_whole : (p : ℕ) (x : Bool) (n : ℕ) → Some p ≡ place_word atoms a → Some n ≡ count_word 16 b → Some x ≡ excludes_value c → new_list atoms words ≡ with_elements p x (names n)
    new_whole p x n place count letter =
        new_with p place ∙ ap (λ (o : Option ℕ). new_chain (Some p) o (excludes_value c)) (sym count) ∙ ap (new_chain (Some p) (Some n)) (sym letter)

    pub old_no_elements : (p : ℕ) (x : Bool) (n : ℕ) → Some p ≡ place_word atoms a → Some x ≡ excludes_value b → Some n ≡ count_word 5 c
        → None ≡ option_map set_of (numbers n) → None ≡ option_map listed_of (old_list atoms words)
    old_no_elements p x n place letter count none = no_elements p x (numbers n) none ∙ sym (ap (option_map listed_of) (old_whole p x n place letter count))

    pub new_no_elements : (p : ℕ) (x : Bool) (n : ℕ) → Some p ≡ place_word atoms a → Some n ≡ count_word 16 b → Some x ≡ excludes_value c
        → None ≡ option_map set_of (names n) → None ≡ option_map listed_of (new_list atoms words)
    new_no_elements p x n place count letter none = no_elements p x (names n) none ∙ sym (ap (option_map listed_of) (new_whole p x n place count letter))

    pub old_all : (p : ℕ) (x : Bool) (n : ℕ) (s : ElementSet) → Some p ≡ place_word atoms a → Some x ≡ excludes_value b → Some n ≡ count_word 5 c
        → Some s.0 ≡ option_map set_of (numbers n) → Some (record { place = p; excludes = x; elements = s }) ≡ option_map listed_of (old_list atoms words)
    old_all p x n s place letter count es = all_elements p x s (numbers n) es ∙ sym (ap (option_map listed_of) (old_whole p x n place letter count))

    pub new_all : (p : ℕ) (x : Bool) (n : ℕ) (s : ElementSet) → Some p ≡ place_word atoms a → Some n ≡ count_word 16 b → Some x ≡ excludes_value c
        → Some s.0 ≡ option_map set_of (names n) → Some (record { place = p; excludes = x; elements = s }) ≡ option_map listed_of (new_list atoms words)
    new_all p x n s place count letter es = all_elements p x s (names n) es ∙ sym (ap (option_map listed_of) (new_whole p x n place count letter))

-- too few words
pub old_few : (atoms : ℕ) (words : List (List ℕ)) → None ≡ three words → None ≡ option_map listed_of (old_list atoms words)
unfolding three
old_few atoms [] e = refl
old_few atoms (x ∷ []) e = refl
old_few atoms (x ∷ y ∷ []) e = refl
old_few atoms (x ∷ y ∷ z ∷ more) e = absurd cc

pub new_few : (atoms : ℕ) (words : List (List ℕ)) → None ≡ three words → None ≡ option_map listed_of (new_list atoms words)
unfolding three
new_few atoms [] e = refl
new_few atoms (x ∷ []) e = refl
new_few atoms (x ∷ y ∷ []) e = refl
new_few atoms (x ∷ y ∷ z ∷ more) e = absurd cc
