-- Lists of items, one for each place, and the one list of them all.
use Rattle.std.proofs.Common.{◌≡◌, ℕ, zero, suc, ◌<◌, ◌==◌, eqb, Bool, true, false, cond, List, [], ◌∷◌, ◌++◌, map, filter, zip, length, take, drop, set, get_or, refl, sym, ap, ◌∙◌, arith, eqb-true, eq-eqb}
use Rattle.std.proofs.lemmas.Bool.{eqb-false}
use Rattle.std.proofs.lemmas.List.{get_or-set_same, get_or-set_other, length-map, nil_from_length}
use lib.ListN.{get_or-map}
use Rattle.script_run.specs.Merging.{AreQueues, IsMerged, items_at}

-- for each place the next of its list, if it has one
abbrev pub in_turn : {A : Type 0} → List ℕ → List (List A) → List A
in_turn [] queues = []
in_turn (place ∷ places) queues = take 1 (get_or queues place []) ++ in_turn places (set queues place (drop 1 (get_or queues place [])))

abbrev times : ℕ → List ℕ → ℕ
times p places = length (filter (λ (at : ℕ). at == p) places)

-- one place more is the one that is asked for, or another
times_next : (p place : ℕ) (places : List ℕ) (here : Bool) → eqb place p ≡ here → times p (place ∷ places) ≡ cond here (suc (times p places)) (times p places)
times_next p place places true e = ap (λ (t : Bool). length (cond t (place ∷ filter (λ (at : ℕ). at == p) places) (filter (λ (at : ℕ). at == p) places))) e
times_next p place places false e = ap (λ (t : Bool). length (cond t (place ∷ filter (λ (at : ℕ). at == p) places) (filter (λ (at : ℕ). at == p) places))) e

module _ {A : Type 0} where
  abbrev at_place : ℕ → ℕ × A → Bool
  at_place p one = one.0 == p

  abbrev item_of : ℕ × A → A
  item_of one = one.1

  items_next : (p place : ℕ) (places : List ℕ) (x : A) (items : List A) (here : Bool) → eqb place p ≡ here
      → items_at p (place ∷ places) (x ∷ items) ≡ cond here (x ∷ items_at p places items) (items_at p places items)
  items_next p place places x items true e = ap (λ (t : Bool). map item_of (cond t ((place, x) ∷ filter (at_place p) (zip places items)) (filter (at_place p) (zip places items)))) e
  items_next p place places x items false e = ap (λ (t : Bool). map item_of (cond t ((place, x) ∷ filter (at_place p) (zip places items)) (filter (at_place p) (zip places items)))) e

  -- there are as many as the place is listed
  count_from : (xs : List A) (m : ℕ) (x : A) (here : Bool) → length xs ≡ m → length (cond here (x ∷ xs) xs) ≡ cond here (suc m) m
  count_from xs m x true e = ap suc e
  count_from xs m x false e = e

  items_count : (p : ℕ) (places : List ℕ) (items : List A) → length items ≡ length places → length (items_at p places items) ≡ times p places
  items_count p [] [] same = refl
  items_count p [] (x ∷ items) same = absurd (omega arith)
  items_count p (place ∷ places) [] same = absurd (omega arith)
  items_count p (place ∷ places) (x ∷ items) same =
      ap length (items_next p place places x items (eqb place p) refl)
      ∙ count_from (items_at p places items) (times p places) x (eqb place p) (items_count p places items (omega arith))
      ∙ sym (times_next p place places (eqb place p) refl)

  -- ---- the first item comes from the list of the first place

  within : (queues : List (List A)) (place : ℕ) (x : A) (rest : List A) → get_or queues place [] ≡ x ∷ rest → place < length queues
  within [] place x rest e = absurd cc
  within (q ∷ queues) zero x rest e = omega arith
  within (q ∷ queues) (suc place) x rest e = let more = within queues place x rest e in omega arith

  -- the list of the first place without its first item, and the other lists
  rest_at : (queues : List (List A)) (place p : ℕ) (x : A) (rest : List A) (here : Bool) → eqb place p ≡ here → get_or queues place [] ≡ x ∷ rest
      → get_or queues p [] ≡ cond here (x ∷ get_or (set queues place rest) p []) (get_or (set queues place rest) p [])
  rest_at queues place p x rest true e first =
      let same : place ≡ p = eqb-true place p e in
      ap (λ (n : ℕ). get_or queues n []) (sym same) ∙ first
      ∙ ap (λ (l : List A). x ∷ l) (sym (get_or-set_same queues place rest [] (within queues place x rest first)))
      ∙ ap (λ (n : ℕ). x ∷ get_or (set queues place rest) n []) same
  rest_at queues place p x rest false e first = sym (get_or-set_other queues place p rest [] (λ same. eqb-false place p e (sym same)))

  pub items_first : (place : ℕ) (places : List ℕ) (queues : List (List A)) (x : A) (rest items : List A) → get_or queues place [] ≡ x ∷ rest
      → ((p : ℕ) → items_at p places items ≡ get_or (set queues place rest) p []) → (p : ℕ) → items_at p (place ∷ places) (x ∷ items) ≡ get_or queues p []
  items_first place places queues x rest items first more p =
      items_next p place places x items (eqb place p) refl
      ∙ ap (λ (l : List A). cond (eqb place p) (x ∷ l) l) (more p)
      ∙ sym (rest_at queues place p x rest (eqb place p) refl first)

  -- ---- what is taken in turn is the one list

  counts_from : (here : Bool) (xs : List A) (x : A) (m : ℕ) → length (cond here (x ∷ xs) xs) ≡ cond here (suc m) m → length xs ≡ m
  counts_from true xs x m e = omega arith
  counts_from false xs x m e = e

  queues_rest : (place : ℕ) (places : List ℕ) (queues : List (List A)) (x : A) (rest : List A) → get_or queues place [] ≡ x ∷ rest
      → AreQueues (place ∷ places) queues → AreQueues places (set queues place rest)
  queues_rest place places queues x rest first all = λ p.
      counts_from (eqb place p) (get_or (set queues place rest) p []) x (times p places)
      (ap length (sym (rest_at queues place p x rest (eqb place p) refl first)) ∙ all p ∙ times_next p place places (eqb place p) refl)

  turn_merged : (place : ℕ) (places : List ℕ) (queues : List (List A)) (q : List A) → get_or queues place [] ≡ q → AreQueues (place ∷ places) queues
      → ((later : List (List A)) → AreQueues places later → IsMerged places later (in_turn places later))
      → IsMerged (place ∷ places) queues (take 1 q ++ in_turn places (set queues place (drop 1 q)))
  turn_merged place places queues [] first all go =
      let none : 0 ≡ times place (place ∷ places) = ap length (sym first) ∙ all place in
      let one = times_next place place places true (eq-eqb place place refl) in
      absurd (omega arith)
  turn_merged place places queues (x ∷ rest) first all go =
      let more = go (set queues place rest) (queues_rest place places queues x rest first all) in
      record { count = ap suc more.count; each = items_first place places queues x rest (in_turn places (set queues place rest)) first more.each }

  pub turns_merged : (places : List ℕ) (queues : List (List A)) → AreQueues places queues → IsMerged places queues (in_turn places queues)
  turns_merged [] queues all = record { count = refl; each = λ p. sym (nil_from_length (get_or queues p []) (all p)) }
  turns_merged (place ∷ places) queues all =
      turn_merged place places queues (get_or queues place []) refl all (λ later queue. turns_merged places later queue)

  -- ---- there is one such list

  rest_same : (here : Bool) (x y : A) (xs ys : List A) → cond here (x ∷ xs) xs ≡ cond here (y ∷ ys) ys → xs ≡ ys
  rest_same true x y xs ys e = cc
  rest_same false x y xs ys e = e

  first_same : (x y : A) (xs ys : List A) → x ∷ xs ≡ y ∷ ys → x ≡ y
  first_same x y xs ys e = cc

  same_items : (places : List ℕ) (xs ys : List A) → length xs ≡ length places → length ys ≡ length places
      → ((p : ℕ) → items_at p places xs ≡ items_at p places ys) → xs ≡ ys
  same_items [] [] [] f g all = refl
  same_items [] (x ∷ xs) ys f g all = absurd (omega arith)
  same_items [] [] (y ∷ ys) f g all = absurd (omega arith)
  same_items (place ∷ places) [] ys f g all = absurd (omega arith)
  same_items (place ∷ places) (x ∷ xs) [] f g all = absurd (omega arith)
  same_items (place ∷ places) (x ∷ xs) (y ∷ ys) f g all =
      let itself : eqb place place ≡ true = eq-eqb place place refl in
      let first : x ≡ y =
      first_same x y (items_at place places xs) (items_at place places ys)
      (sym (items_next place place places x xs true itself) ∙ all place ∙ items_next place place places y ys true itself) in
      let rest : xs ≡ ys =
      same_items places xs ys (omega arith) (omega arith) (λ p.
      rest_same (eqb place p) x y (items_at p places xs) (items_at p places ys)
      (sym (items_next p place places x xs (eqb place p) refl) ∙ all p ∙ items_next p place places y ys (eqb place p) refl)) in
      λ i. first i ∷ rest i

  pub one_merged : (places : List ℕ) (queues : List (List A)) (xs ys : List A) → IsMerged places queues xs → IsMerged places queues ys → xs ≡ ys
  one_merged places queues xs ys f g = same_items places xs ys f.count g.count (λ p. f.each p ∙ sym (g.each p))

  -- a merged list is made of lists that fit
  pub merged_queues : (places : List ℕ) (queues : List (List A)) (items : List A) → IsMerged places queues items → AreQueues places queues
  merged_queues places queues items m = λ p. ap length (sym (m.each p)) ∙ items_count p places items m.count

-- ---- lists that were mapped

module _ {A B : Type 0} (f : A → B) where
  cond_mapped : (here : Bool) (x : A) (xs : List A) → cond here (f x ∷ map f xs) (map f xs) ≡ map f (cond here (x ∷ xs) xs)
  cond_mapped true x xs = refl
  cond_mapped false x xs = refl

  items_mapped : (p : ℕ) (places : List ℕ) (items : List A) → items_at p places (map f items) ≡ map f (items_at p places items)
  items_mapped p [] items = refl
  items_mapped p (place ∷ places) [] = refl
  items_mapped p (place ∷ places) (x ∷ items) =
      items_next p place places (f x) (map f items) (eqb place p) refl
      ∙ ap (λ (l : List B). cond (eqb place p) (f x ∷ l) l) (items_mapped p places items)
      ∙ cond_mapped (eqb place p) x (items_at p places items)
      ∙ sym (ap (map f) (items_next p place places x items (eqb place p) refl))

  pub merged_mapped : (places : List ℕ) (queues : List (List A)) (items : List A) → IsMerged places queues items
      → IsMerged places (map (λ (l : List A). map f l) queues) (map f items)
  merged_mapped places queues items m = record {
    count = length-map items f ∙ m.count;
    each = λ p. items_mapped p places items ∙ ap (map f) (m.each p) ∙ sym (get_or-map (λ (l : List A). map f l) queues p []);
  }
