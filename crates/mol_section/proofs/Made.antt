-- What property lines make of the atoms.
use Rattle.std.proofs.Common.{◌≡◌, ◌≢◌, ℕ, zero, suc, ◌+◌, ◌-◌, ◌<◌, ◌≤◌, ℤ, pos, Bool, true, false, ◌||◌, eqb, leb, List, [], ◌∷◌, ◌++◌, length, map, set, get_or, refl, sym, ap, subst, ◌∙◌, append_assoc, arith}
use Rattle.std.specs.Prelude.{Option, Some, None, fold, unwrap_or, option_and_then, if◌then◌else◌}
use Rattle.std.specs.List.{zip, range_with_len}
use Rattle.std.proofs.lemmas.Bool.{cond-true, cond-false, eq-eqb, ne_eqb, or_parts, and_parts, leb-true}
use Rattle.std.proofs.lemmas.List.{append-nil}
use Rattle.std.proofs.lemmas.List.Sums.{fold_push}
use Rattle.std.proofs.lemmas.List.Folds.{list_any-append}
use Rattle.std.proofs.lemmas.Option.{same_Some, option_and_then_some}
use lib.Chars.{codes}
use Rattle.htss_defs.specs.declared.mol.Atom.{Atom}
use Rattle.mol_section.specs.Fields.{field, begins, number_of}
use Rattle.mol_section.specs.SectionLines.{symbol_value, charge_value, entries, listed_entries, line_entries, listed_charge, listed_mass, lists_charges, lists_masses, is_place}
use Rattle.mol_section.specs.SectionRecord.{last_entry, all_entries, sets_charges_aside}
use Rattle.mol_section.specs.PropertyLines.{no_atom, put_charge, put_mass, no_charge, sets_aside, set_aside, put_charges, put_masses, with_property, entries_if}
use Rattle.mol_section.specs.Records.{made_atoms}

abbrev Numbered : Type 0
Numbered = ℕ × List ℕ

abbrev made : Bool → List (ℕ × ℤ) → List (ℕ × ℕ) → Numbered → Atom
made aside charges masses (place, line) =
    let symbol = unwrap_or (symbol_value (field 32 34 line)) (0, 0) in
    record {
      element = symbol.0;
      charge = last_entry (if aside then pos 0 else unwrap_or (charge_value (field 37 39 line)) (pos 0)) place charges;
      mass = last_entry symbol.1 place masses;
    }

abbrev numbered : ℕ → List (List ℕ) → List Numbered
numbered k lines = zip (range_with_len k (length lines)) lines

abbrev all_made : Bool → List (ℕ × ℤ) → List (ℕ × ℕ) → List (List ℕ) → List Atom
all_made aside charges masses lines = map (made aside charges masses) (numbered 1 lines)

pub length-made : (f : Numbered → Atom) (k : ℕ) (lines : List (List ℕ)) → length (map f (numbered k lines)) ≡ length lines
length-made f k [] = refl
length-made f k (line ∷ lines) = ap suc (length-made f (k + 1) lines)

-- ---- one atom is set

same_made : (f g : Numbered → Atom) (k p : ℕ) (lines : List (List ℕ)) → p < k → ((j : ℕ) (line : List ℕ) → j ≢ p → f (j, line) ≡ g (j, line))
    → map f (numbered k lines) ≡ map g (numbered k lines)
same_made f g k p [] lt same = refl
same_made f g k p (line ∷ lines) lt same =
    let head : f (k, line) ≡ g (k, line) = same k line (omega arith) in
    let rest : map f (numbered (k + 1) lines) ≡ map g (numbered (k + 1) lines) = same_made f g (k + 1) p lines (omega arith) same in
    cc

set_made : (f g : Numbered → Atom) (change : Atom → Atom) (k i p : ℕ) (lines : List (List ℕ)) → p ≡ k + i → i < length lines
    → ((line : List ℕ) → g (p, line) ≡ change (f (p, line))) → ((j : ℕ) (line : List ℕ) → j ≢ p → f (j, line) ≡ g (j, line))
    → set (map f (numbered k lines)) i (change (get_or (map f (numbered k lines)) i no_atom)) ≡ map g (numbered k lines)
set_made f g change k i p [] place within here same = absurd (omega arith)
set_made f g change k zero p (line ∷ lines) place within here same =
    let e : p ≡ k = omega arith in
    let head : change (f (k, line)) ≡ g (k, line) = ap (λ (j : ℕ). change (f (j, line))) (sym e) ∙ sym (here line) ∙ ap (λ (j : ℕ). g (j, line)) e in
    let rest : map f (numbered (k + 1) lines) ≡ map g (numbered (k + 1) lines) = same_made f g (k + 1) p lines (omega arith) same in
    cc
set_made f g change k (suc i) p (line ∷ lines) place within here same =
    let head : f (k, line) ≡ g (k, line) = same k line (omega arith) in
    let rest : set (map f (numbered (k + 1) lines)) i (change (get_or (map f (numbered (k + 1) lines)) i no_atom)) ≡ map g (numbered (k + 1) lines) =
    set_made f g change (k + 1) i p lines (omega arith) (omega arith) here same in
    cc

last_entry-push : {V : Type 0} (x : V) (place : ℕ) (before : List (ℕ × V)) (e : ℕ × V) → last_entry x place (before ++ e ∷ []) ≡ (if eqb e.0 place then e.1 else last_entry x place before)
last_entry-push {V} x place before e = fold_push (λ (v : V) (entry : ℕ × V). if eqb entry.0 place then entry.1 else v) x before e

last_here : {V : Type 0} (x : V) (p : ℕ) (before : List (ℕ × V)) (v : V) → last_entry x p (before ++ (p, v) ∷ []) ≡ v
last_here x p before v = last_entry-push x p before (p, v) ∙ cond-true (eqb p p) v (last_entry x p before) (eq-eqb p p refl)

last_other : {V : Type 0} (x : V) (j p : ℕ) (before : List (ℕ × V)) (v : V) → j ≢ p → last_entry x j before ≡ last_entry x j (before ++ (p, v) ∷ [])
last_other x j p before v other = sym (last_entry-push x j before (p, v) ∙ cond-false (eqb p j) v (last_entry x j before) (ne_eqb p j (λ e. other (sym e))))

-- places among n atoms
abbrev AtPlaces : {V : Type 0} → ℕ → List (ℕ × V) → Type 0
AtPlaces n [] = Unit {0}
AtPlaces n (e ∷ es) = ((1 ≤ e.0) × (e.0 ≤ n)) × AtPlaces n es

block_charge : Bool → List ℕ → ℤ
block_charge aside line = if aside then pos 0 else unwrap_or (charge_value (field 37 39 line)) (pos 0)

one_charge : (aside : Bool) (charges : List (ℕ × ℤ)) (masses : List (ℕ × ℕ)) (lines : List (List ℕ)) (p : ℕ) (v : ℤ) → 1 ≤ p → p ≤ length lines
    → put_charge (all_made aside charges masses lines) (p, v) ≡ all_made aside (charges ++ (p, v) ∷ []) masses lines
one_charge aside charges masses lines p v low high =
    set_made (made aside charges masses) (made aside (charges ++ (p, v) ∷ []) masses) (λ (a : Atom). record a { charge = v }) 1 (p - 1) p lines (omega arith) (omega arith)
    (λ line. ap (λ (z : ℤ). record (made aside charges masses (p, line)) { charge = z }) (last_here _ p charges v))
    (λ j line other. ap (λ (z : ℤ). record (made aside charges masses (j, line)) { charge = z }) (last_other _ j p charges v other))

one_mass : (aside : Bool) (charges : List (ℕ × ℤ)) (masses : List (ℕ × ℕ)) (lines : List (List ℕ)) (p v : ℕ) → 1 ≤ p → p ≤ length lines
    → put_mass (all_made aside charges masses lines) (p, v) ≡ all_made aside charges (masses ++ (p, v) ∷ []) lines
one_mass aside charges masses lines p v low high =
    set_made (made aside charges masses) (made aside charges (masses ++ (p, v) ∷ [])) (λ (a : Atom). record a { mass = v }) 1 (p - 1) p lines (omega arith) (omega arith)
    (λ line. ap (λ (z : ℕ). record (made aside charges masses (p, line)) { mass = z }) (last_here _ p masses v))
    (λ j line other. ap (λ (z : ℕ). record (made aside charges masses (j, line)) { mass = z }) (last_other _ j p masses v other))

more_charges : (aside : Bool) (charges more : List (ℕ × ℤ)) (masses : List (ℕ × ℕ)) (lines : List (List ℕ)) → AtPlaces (length lines) more
    → fold put_charge (all_made aside charges masses lines) more ≡ all_made aside (charges ++ more) masses lines
more_charges aside charges [] masses lines places = ap (λ (c : List (ℕ × ℤ)). all_made aside c masses lines) (sym (append-nil charges))
more_charges aside charges (e ∷ more) masses lines places =
    ap (λ (a : List Atom). fold put_charge a more) (one_charge aside charges masses lines e.0 e.1 places.0.0 places.0.1)
    ∙ more_charges aside (charges ++ e ∷ []) more masses lines places.1
    ∙ ap (λ (c : List (ℕ × ℤ)). all_made aside c masses lines) (append_assoc charges (e ∷ []) more)

more_masses : (aside : Bool) (charges : List (ℕ × ℤ)) (masses more : List (ℕ × ℕ)) (lines : List (List ℕ)) → AtPlaces (length lines) more
    → fold put_mass (all_made aside charges masses lines) more ≡ all_made aside charges (masses ++ more) lines
more_masses aside charges masses [] lines places = ap (λ (c : List (ℕ × ℕ)). all_made aside charges c lines) (sym (append-nil masses))
more_masses aside charges masses (e ∷ more) lines places =
    ap (λ (a : List Atom). fold put_mass a more) (one_mass aside charges masses lines e.0 e.1 places.0.0 places.0.1)
    ∙ more_masses aside charges (masses ++ e ∷ []) more lines places.1
    ∙ ap (λ (c : List (ℕ × ℕ)). all_made aside charges c lines) (append_assoc masses (e ∷ []) more)

-- ---- the entries of a line stand at places

place_is : (n : ℕ) (o : Option ℕ) (p : ℕ) → option_and_then (λ p. if is_place n p then Some p else None) o ≡ Some p → (1 ≤ p) × (p ≤ n)
place_is n None p e = absurd cc
place_is n (Some q) p e = go (is_place n q) refl e
  where
    go : (b : Bool) → is_place n q ≡ b → (if b then Some q else None) ≡ Some p → (1 ≤ p) × (p ≤ n)
    go true is same =
        let parts = and_parts _ _ is in
        subst (λ (k : ℕ). (1 ≤ k) × (k ≤ n)) (same_Some q p same) (leb-true 1 q parts.0, leb-true q n parts.1)
    go false is same = absurd cc

entries_places : {V : Type 0} (value : List ℕ → Option V) (n count : ℕ) (words : List (List ℕ)) (es : List (ℕ × V)) → entries value n count words ≡ Some es → AtPlaces n es
entries_places value n zero words [] e = tt
entries_places value n zero words (x ∷ es) e = absurd cc
entries_places value n (suc count) [] es e = absurd cc
entries_places value n (suc count) (place ∷ []) es e = absurd cc
entries_places {V} value n (suc count) (place ∷ word ∷ words) es e =
    go (option_and_then (λ p. if is_place n p then Some p else None) (number_of place)) (value word) (entries value n count words) refl (entries_places value n count words) e
  where
    go : (p : Option ℕ) (v : Option V) (rest : Option (List (ℕ × V))) → option_and_then (λ p. if is_place n p then Some p else None) (number_of place) ≡ p
        → ((es : List (ℕ × V)) → rest ≡ Some es → AtPlaces n es)
        → option_and_then (λ p. option_and_then (λ v. option_and_then (λ rest. Some ((p, v) ∷ rest)) rest) v) p ≡ Some es → AtPlaces n es
    go None v rest is more e = absurd cc
    go (Some p) None rest is more e = absurd cc
    go (Some p) (Some v) None is more e = absurd cc
    go (Some p) (Some v) (Some r) is more e = subst (λ (x : List (ℕ × V)). AtPlaces n x) (same_Some ((p, v) ∷ r) es e) (place_is n (number_of place) p is, more r refl)

listed_places : {V : Type 0} (value : List ℕ → Option V) (n : ℕ) (words : List (List ℕ)) (es : List (ℕ × V)) → listed_entries value n words ≡ Some es → AtPlaces n es
listed_places value n [] es e = absurd cc
listed_places {V} value n (count ∷ words) es e = option_and_then_some (λ k. if leb k 8 then entries value n k words else None) (number_of count) es e
    (λ k is found. go k (leb k 8) found)
  where
    go : (k : ℕ) (b : Bool) → (if b then entries value n k words else None) ≡ Some es → AtPlaces n es
    go k true found = entries_places value n k words es found
    go k false found = absurd cc

if_places : {V : Type 0} (is_of : Bool) (n : ℕ) (o : Option (List (ℕ × V))) → ((es : List (ℕ × V)) → o ≡ Some es → AtPlaces n es) → AtPlaces n (entries_if is_of o)
if_places false n o all = tt
if_places true n None all = tt
if_places true n (Some es) all = all es refl

line_places : {V : Type 0} (value : List ℕ → Option V) (is_of : Bool) (n : ℕ) (line : List ℕ) → AtPlaces n (entries_if is_of (line_entries value n line))
unfolding line_entries
line_places value is_of n line = if_places is_of n (line_entries value n line) (listed_places value n _)

-- ---- one property more

all_entries-push : {V : Type 0} (value : List ℕ → Option V) (is_of : List ℕ → Bool) (n : ℕ) (properties : List (List ℕ)) (line : List ℕ)
    → all_entries value is_of n (properties ++ line ∷ []) ≡ all_entries value is_of n properties ++ entries_if (is_of line) (line_entries value n line)
all_entries-push value is_of n [] line = append-nil (entries_if (is_of line) (line_entries value n line))
all_entries-push {V} value is_of n (p ∷ properties) line =
    ap (λ (x : List (ℕ × V)). entries_if (is_of p) (line_entries value n p) ++ x) (all_entries-push value is_of n properties line)
    ∙ sym (append_assoc (entries_if (is_of p) (line_entries value n p)) (all_entries value is_of n properties) (entries_if (is_of line) (line_entries value n line)))

or_nothing : (b : Bool) → (b || false) ≡ b
or_nothing true = refl
or_nothing false = refl

pub aside-push : (properties : List (List ℕ)) (line : List ℕ) → sets_charges_aside (properties ++ line ∷ []) ≡ (sets_charges_aside properties || sets_aside line)
aside-push properties line = list_any-append sets_aside properties (line ∷ []) ∙ ap (λ (b : Bool). sets_charges_aside properties || b) (or_nothing (sets_aside line))

no_charges : (n : ℕ) (properties : List (List ℕ)) → sets_charges_aside properties ≡ false → all_entries listed_charge lists_charges n properties ≡ []
no_charges n [] none = refl
no_charges n (p ∷ properties) none =
    let parts = or_parts (sets_aside p) (sets_charges_aside properties) none in
    let first = or_parts (lists_charges p) (begins p (codes "M  RAD")) parts.0 in
    let here : entries_if (lists_charges p) (line_entries listed_charge n p) ≡ [] = cond-false (lists_charges p) (unwrap_or (line_entries listed_charge n p) []) [] first.0 in
    ap (λ (x : List (ℕ × ℤ)). x ++ all_entries listed_charge lists_charges n properties) here ∙ no_charges n properties parts.1

clear_made : (masses : List (ℕ × ℕ)) (lines : List Numbered) → map no_charge (map (made false [] masses) lines) ≡ map (made true [] masses) lines
clear_made masses [] = refl
clear_made masses (line ∷ lines) = ap (λ (x : List Atom). made true [] masses line ∷ x) (clear_made masses lines)

set_aside-made : (aside : Bool) (charges : List (ℕ × ℤ)) (masses : List (ℕ × ℕ)) (line : List ℕ) (lines : List (List ℕ)) → (aside ≡ false → charges ≡ [])
    → set_aside aside line (all_made aside charges masses lines) ≡ all_made (aside || sets_aside line) charges masses lines
unfolding set_aside
set_aside-made true charges masses line lines none = refl
set_aside-made false charges masses line lines none = go (sets_aside line)
  where
    clear : map no_charge (all_made false charges masses lines) ≡ all_made true charges masses lines
    clear = ap (λ (c : List (ℕ × ℤ)). map no_charge (all_made false c masses lines)) (none refl) ∙ clear_made masses (numbered 1 lines) ∙ ap (λ (c : List (ℕ × ℤ)). all_made true c masses lines) (sym (none refl))

    go : (b : Bool) → (if b then map no_charge (all_made false charges masses lines) else all_made false charges masses lines) ≡ all_made b charges masses lines
    go true = clear
    go false = refl

put_charges-made : (n : ℕ) (aside : Bool) (charges : List (ℕ × ℤ)) (masses : List (ℕ × ℕ)) (line : List ℕ) (lines : List (List ℕ)) → length lines ≡ n
    → put_charges line (all_made aside charges masses lines) ≡ all_made aside (charges ++ entries_if (lists_charges line) (line_entries listed_charge n line)) masses lines
unfolding put_charges
put_charges-made n aside charges masses line lines size =
    ap (λ (k : ℕ). fold put_charge (all_made aside charges masses lines) (entries_if (lists_charges line) (line_entries listed_charge k line))) (length-made (made aside charges masses) 1 lines ∙ size)
    ∙ more_charges aside charges (entries_if (lists_charges line) (line_entries listed_charge n line)) masses lines
    (subst (λ (k : ℕ). AtPlaces k (entries_if (lists_charges line) (line_entries listed_charge n line))) (sym size) (line_places listed_charge (lists_charges line) n line))

put_masses-made : (n : ℕ) (aside : Bool) (charges : List (ℕ × ℤ)) (masses : List (ℕ × ℕ)) (line : List ℕ) (lines : List (List ℕ)) → length lines ≡ n
    → put_masses line (all_made aside charges masses lines) ≡ all_made aside charges (masses ++ entries_if (lists_masses line) (line_entries listed_mass n line)) lines
unfolding put_masses
put_masses-made n aside charges masses line lines size =
    ap (λ (k : ℕ). fold put_mass (all_made aside charges masses lines) (entries_if (lists_masses line) (line_entries listed_mass k line))) (length-made (made aside charges masses) 1 lines ∙ size)
    ∙ more_masses aside charges masses (entries_if (lists_masses line) (line_entries listed_mass n line)) lines
    (subst (λ (k : ℕ). AtPlaces k (entries_if (lists_masses line) (line_entries listed_mass n line))) (sym size) (line_places listed_mass (lists_masses line) n line))

-- the atoms after one property line more
pub made_atoms-push : (n : ℕ) (properties : List (List ℕ)) (line : List ℕ) (lines : List (List ℕ)) → length lines ≡ n
    → with_property (sets_charges_aside properties) line (made_atoms n properties lines) ≡ made_atoms n (properties ++ line ∷ []) lines
made_atoms-push n properties line lines size =
    let aside : Bool = sets_charges_aside properties in
    let charges : List (ℕ × ℤ) = all_entries listed_charge lists_charges n properties in
    let masses : List (ℕ × ℕ) = all_entries listed_mass lists_masses n properties in
    let now : Bool = sets_charges_aside properties || sets_aside line in
    let charges_now : List (ℕ × ℤ) = charges ++ entries_if (lists_charges line) (line_entries listed_charge n line) in
    ap (λ (a : List Atom). put_masses line (put_charges line a)) (set_aside-made aside charges masses line lines (no_charges n properties))
    ∙ ap (put_masses line) (put_charges-made n now charges masses line lines size)
    ∙ put_masses-made n now charges_now masses line lines size
    ∙ ap (λ (b : Bool). all_made b charges_now (masses ++ entries_if (lists_masses line) (line_entries listed_mass n line)) lines) (sym (aside-push properties line))
    ∙ ap (λ (c : List (ℕ × ℤ)). all_made (sets_charges_aside (properties ++ line ∷ [])) c (masses ++ entries_if (lists_masses line) (line_entries listed_mass n line)) lines) (sym (all_entries-push listed_charge lists_charges n properties line))
    ∙ ap (λ (m : List (ℕ × ℕ)). all_made (sets_charges_aside (properties ++ line ∷ [])) (all_entries listed_charge lists_charges n (properties ++ line ∷ [])) m lines) (sym (all_entries-push listed_mass lists_masses n properties line))

-- one atom line more
pub numbered-push : (k : ℕ) (lines : List (List ℕ)) (line : List ℕ) → zip (range_with_len k (length (lines ++ line ∷ []))) (lines ++ line ∷ []) ≡ zip (range_with_len k (length lines)) lines ++ (k + length lines, line) ∷ []
numbered-push k [] line = let e : k ≡ k + 0 = omega arith in ap (λ (j : ℕ). (j, line) ∷ []) e
numbered-push k (l ∷ lines) line =
    let e : k + 1 + length lines ≡ k + suc (length lines) = omega arith in
    ap (λ (x : List Numbered). (k, l) ∷ x) (numbered-push (k + 1) lines line ∙ ap (λ (j : ℕ). numbered (k + 1) lines ++ (j, line) ∷ []) e)
