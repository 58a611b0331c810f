-- Entries of a property line, read one after the other as a loop does.
use Rattle.std.proofs.Common.{◌≡◌, ℕ, suc, length, take, drop, ◌-◌, ◌+◌, ◌≤◌, ◌<◌, List, [], ◌∷◌, Bool, true, false, not, ◌||◌, leb, refl, sym, ap, ◌∙◌, arith}
use Rattle.std.specs.Prelude.{Option, Some, None, fold, option_and_then, is_some, unwrap_or, if◌then◌else◌}
use Rattle.std.specs.Option.{option_map}
use Rattle.std.proofs.lemmas.Option.{same_Some}
use Rattle.htss_defs.specs.declared.mol.Atom.{Atom}
use Rattle.std.proofs.lemmas.List.{take_rest}
use Rattle.mol_section.specs.Fields.{number_of, words_of}
use Rattle.mol_section.specs.SectionLines.{entries, listed_entries, line_entries, is_place}
use Rattle.mol_section.specs.PropertyLines.{count_at, place_at, value_at, entry_at, entries_if}

-- the entries that begin with a place that was read
abbrev placed : {V : Type 0} → Option (V × List (List ℕ)) → (List (List ℕ) → Option (List (ℕ × V))) → ℕ → Option (List (ℕ × V))
placed None more p = None
placed (Some v) more p = option_and_then (λ rest. Some ((p, v.0) ∷ rest)) (more v.1)

-- the same, of an entry
abbrev entered : {V : Type 0} → (List (List ℕ) → Option (List (ℕ × V))) → Option (ℕ × V × List (List ℕ)) → Option (List (ℕ × V))
entered more None = None
entered more (Some e) = option_and_then (λ rest. Some ((e.0, e.1) ∷ rest)) (more e.2)

module _ {V : Type 0} (value : List ℕ → Option V) (put : List Atom → ℕ × V → List Atom) where
  by_value : (p : ℕ) (v : Option V) (words : List (List ℕ)) (more : List (List ℕ) → Option (List (ℕ × V)))
      → option_and_then (λ v. option_and_then (λ rest. Some ((p, v) ∷ rest)) (more words)) v ≡ entered more (option_and_then (λ (x : V × List (List ℕ)). Some (p, x.0, x.1)) (option_and_then (λ v. Some (v, words)) v))
  by_value p None words more = refl
  by_value p (Some v) words more = refl

  by_place : (b : Bool) (p : ℕ) (word : List ℕ) (words : List (List ℕ)) (more : List (List ℕ) → Option (List (ℕ × V)))
      → option_and_then (λ p. option_and_then (λ v. option_and_then (λ rest. Some ((p, v) ∷ rest)) (more words)) (value word)) (if b then Some p else None)
      ≡ entered more (option_and_then (λ (x : ℕ × List (List ℕ)). option_and_then (λ (v : V × List (List ℕ)). Some (x.0, v.0, v.1)) (value_at value x.1)) (if b then Some (p, word ∷ words) else None))
  unfolding value_at
  by_place true p word words more = by_value p (value word) words more
  by_place false p word words more = refl

  by_number : (atoms : ℕ) (o : Option ℕ) (word : List ℕ) (words : List (List ℕ)) (more : List (List ℕ) → Option (List (ℕ × V)))
      → option_and_then (λ p. option_and_then (λ v. option_and_then (λ rest. Some ((p, v) ∷ rest)) (more words)) (value word)) (option_and_then (λ p. if is_place atoms p then Some p else None) o)
      ≡ entered more (option_and_then (λ (x : ℕ × List (List ℕ)). option_and_then (λ (v : V × List (List ℕ)). Some (x.0, v.0, v.1)) (value_at value x.1)) (option_and_then (λ p. if is_place atoms p then Some (p, word ∷ words) else None) o))
  by_number atoms None word words more = refl
  by_number atoms (Some p) word words more = by_place (is_place atoms p) p word words more

  no_value : (b : Bool) (p : ℕ) (more : List (List ℕ) → Option (List (ℕ × V)))
      → None ≡ entered more (option_and_then (λ (x : ℕ × List (List ℕ)). option_and_then (λ (v : V × List (List ℕ)). Some (x.0, v.0, v.1)) (value_at value x.1)) (if b then Some (p, []) else None))
  unfolding value_at
  no_value true p more = refl
  no_value false p more = refl

  no_word : (atoms : ℕ) (o : Option ℕ) (more : List (List ℕ) → Option (List (ℕ × V)))
      → None ≡ entered more (option_and_then (λ (x : ℕ × List (List ℕ)). option_and_then (λ (v : V × List (List ℕ)). Some (x.0, v.0, v.1)) (value_at value x.1)) (option_and_then (λ p. if is_place atoms p then Some (p, []) else None) o))
  no_word atoms None more = refl
  no_word atoms (Some p) more = no_value (is_place atoms p) p more

  step : (atoms n : ℕ) (words : List (List ℕ)) → entries value atoms (suc n) words ≡ entered (entries value atoms n) (entry_at value atoms words)
  unfolding entry_at place_at
  step atoms n [] = refl
  step atoms n (place ∷ []) = no_word atoms (number_of place) (entries value atoms n)
  step atoms n (place ∷ word ∷ words) = by_number atoms (number_of place) word words (entries value atoms n)

  put_first : (atoms : List Atom) (e : ℕ × V) (rest : Option (List (ℕ × V)))
      → option_map (fold put atoms) (option_and_then (λ r. Some (e ∷ r)) rest) ≡ option_map (fold put (put atoms e)) rest
  put_first atoms e None = refl
  put_first atoms e (Some rest) = refl

  pub goes_on : (atoms : List Atom) (size count i : ℕ) (words after : List (List ℕ)) (p : ℕ) (v : V) (total : Option (List Atom))
      → i < count → Some (p, v, after) ≡ entry_at value size words
      → option_map (fold put atoms) (entries value size (count - i) words) ≡ total
      → option_map (fold put (put atoms (p, v))) (entries value size (count - (i + 1)) after) ≡ total
  goes_on atoms size count i words after p v total lt read so_far =
      let k : count - i ≡ suc (count - (i + 1)) = omega arith in
      let more : List (List ℕ) → Option (List (ℕ × V)) = entries value size (count - (i + 1)) in
      let whole : entries value size (count - i) words ≡ entered more (Some (p, v, after)) = ap (λ (n : ℕ). entries value size n words) k ∙ step size (count - (i + 1)) words ∙ ap (entered more) (sym read) in
      sym (put_first atoms (p, v) (more after)) ∙ sym (ap (option_map (fold put atoms)) whole) ∙ so_far

  pub ends : (atoms : List Atom) (size count i : ℕ) (words : List (List ℕ)) (total : Option (List Atom))
      → i < count → None ≡ entry_at value size words
      → option_map (fold put atoms) (entries value size (count - i) words) ≡ total → None ≡ total
  ends atoms size count i words total lt read so_far =
      let k : count - i ≡ suc (count - (i + 1)) = omega arith in
      let more : List (List ℕ) → Option (List (ℕ × V)) = entries value size (count - (i + 1)) in
      let whole : entries value size (count - i) words ≡ None = ap (λ (n : ℕ). entries value size n words) k ∙ step size (count - (i + 1)) words ∙ ap (entered more) (sym read) in
      sym (ap (option_map (fold put atoms)) whole) ∙ so_far

  pub is_done : (atoms : List Atom) (size count i : ℕ) (words : List (List ℕ)) (total : Option (List Atom))
      → count ≤ i → option_map (fold put atoms) (entries value size (count - i) words) ≡ total → Some atoms ≡ total
  is_done atoms size count i words total le so_far =
      let k : count - i ≡ 0 = omega arith in
      sym (ap (λ (n : ℕ). option_map (fold put atoms) (entries value size n words)) k) ∙ so_far

  abbrev counted : ℕ → Option (ℕ × List (List ℕ)) → Option (List (ℕ × V))
  counted size None = None
  counted size (Some c) = entries value size c.0 c.1

  by_size : (b : Bool) (n size : ℕ) (words : List (List ℕ)) → (if b then entries value size n words else None) ≡ counted size (if b then Some (n, words) else None)
  by_size true n size words = refl
  by_size false n size words = refl

  by_count : (o : Option ℕ) (size : ℕ) (words : List (List ℕ))
      → option_and_then (λ n. if leb n 8 then entries value size n words else None) o ≡ counted size (option_and_then (λ n. if leb n 8 then Some (n, words) else None) o)
  by_count None size words = refl
  by_count (Some n) size words = by_size (leb n 8) n size words

  -- the entries of a line, by their number
  listed : (size : ℕ) (words : List (List ℕ)) → listed_entries value size words ≡ counted size (count_at words)
  unfolding count_at
  listed size [] = refl
  listed size (count ∷ words) = by_count (number_of count) size words

  pub no_count : (size : ℕ) (words : List (List ℕ)) → None ≡ count_at words → listed_entries value size words ≡ None
  no_count size words none = listed size words ∙ ap (counted size) (sym none)

  pub starts : (size count : ℕ) (words after : List (List ℕ)) → Some (count, after) ≡ count_at words → entries value size (count - 0) after ≡ listed_entries value size words
  starts size count words after read =
      let k : count - 0 ≡ count = omega arith in
      ap (λ (n : ℕ). entries value size n after) k ∙ ap (counted size) read ∙ sym (listed size words)

  result_is : (r : Bool) (old new : List Atom) (o : Option (List (ℕ × V))) → (if r then Some new else None) ≡ option_map (fold put old) o
      → (r ≡ is_some o) × (r ≡ true → new ≡ fold put old (unwrap_or o []))
  result_is true old new None e = absurd cc
  result_is false old new None e = (refl, λ is. absurd cc)
  result_is true old new (Some es) e = (refl, λ _. same_Some new (fold put old es) e)
  result_is false old new (Some es) e = absurd cc

  -- what a loop over the text of a line says of the line
  pub line_is : (size : ℕ) (line text : List ℕ) (r : Bool) (old new : List Atom) → text ≡ take (length line - 6) (drop 6 line)
      → (if r then Some new else None) ≡ option_map (fold put old) (listed_entries value size (words_of text))
      → (r ≡ is_some (line_entries value size line)) × (r ≡ true → new ≡ fold put old (unwrap_or (line_entries value size line) []))
  unfolding line_entries
  line_is size line text r old new is read =
      result_is r old new (listed_entries value size (words_of (drop 6 line))) (read ∙ ap (λ (t : List ℕ). option_map (fold put old) (listed_entries value size (words_of t))) (is ∙ take_rest line 6))

pub passes_lists : (lists is r : Bool) → lists ≡ true → r ≡ is → r ≡ (not lists || is)
passes_lists true is r lists e = e
passes_lists false is r lists e = absurd cc

pub puts_lists : {V : Type 0} (put : List Atom → ℕ × V → List Atom) (lists : Bool) (o : Option (List (ℕ × V))) (old new : List Atom) → lists ≡ true
    → new ≡ fold put old (unwrap_or o []) → new ≡ fold put old (entries_if lists o)
puts_lists put true o old new lists e = e
puts_lists put false o old new lists e = absurd cc
