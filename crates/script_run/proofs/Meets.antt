-- Callers that hear of each other.
use Rattle.std.proofs.Common.{◌≡◌, ℕ, zero, suc, ◌+◌, ◌<◌, ◌≤◌, max, ◌⊎◌, inl, inr, ⊎_elim, List, [], ◌∷◌, ◌++◌, map, length, take, drop, set, get_or, All, Contains, refl, sym, ap, subst, ◌∙◌, arith}
use Rattle.std.proofs.lemmas.List.{take_more}
use Rattle.std.proofs.lemmas.List.Elements.{All-nil, All-cons, All-head, All-tail}
use lib.ListN.{get_or-map}
use lib.Seq.{map-set_same}
use Rattle.board.specs.Seated.{Seated, with_account}
use Rattle.board_core.specs.After.{after_hear}
use Rattle.script_run.specs.Meeting.{IsMostSeen, SawMost, seen_at}

-- the greatest of a front and of those that the callers have seen, one after the other
abbrev pub most_seen : ℕ → List Seated → ℕ
most_seen front [] = front
most_seen front (c ∷ cs) = most_seen (max front c.account.log.seen) cs

pub most_push : (n : ℕ) (cs : List Seated) (c : Seated) → most_seen n (cs ++ c ∷ []) ≡ max (most_seen n cs) c.account.log.seen
most_push n [] c = refl
most_push n (x ∷ cs) c = most_push (max n x.account.log.seen) cs c

pub most_from : (n : ℕ) (cs : List Seated) → n ≤ most_seen n cs
most_from n [] = omega arith
most_from n (c ∷ cs) = let h = most_from (max n c.account.log.seen) cs in omega arith

-- nobody has seen more
pub most_of : (n : ℕ) (cs : List Seated) → All (λ (c : Seated). c.account.log.seen ≤ most_seen n cs) cs
most_of n [] = All-nil (λ (c : Seated). c.account.log.seen ≤ n)
most_of n (c ∷ cs) =
    let h = most_from (max n c.account.log.seen) cs in
    All-cons (λ (x : Seated). x.account.log.seen ≤ most_seen (max n c.account.log.seen) cs) c cs (omega arith) (most_of (max n c.account.log.seen) cs)

abbrev seen_by : Seated → ℕ
seen_by c = c.account.log.seen

front_there : (xs : List ℕ) (n : ℕ) → Contains (n ∷ xs) n
front_there xs n = (0, omega arith, refl)

later_there : (xs : List ℕ) (x n : ℕ) → Contains xs n → Contains (x ∷ xs) n
later_there xs x n at = (suc at.0, omega (arith, at.1), at.2)

one_of_two : (n m most : ℕ) → most ≡ max n m → (most ≡ n) ⊎ (most ≡ m)
one_of_two n m most is = grind arith

-- it is the front, or one of them has seen it
most_one : (n : ℕ) (cs : List Seated) → (most_seen n cs ≡ n) ⊎ Contains (map seen_by cs) (most_seen n cs)
most_one n [] = inl refl
most_one n (c ∷ cs) =
    let most : ℕ = most_seen (max n c.account.log.seen) cs in
    let there : most ≡ c.account.log.seen → Contains (map seen_by (c ∷ cs)) most =
    λ (e : most ≡ c.account.log.seen). subst (λ (m : ℕ). Contains (c.account.log.seen ∷ map seen_by cs) m) (sym e) (front_there (map seen_by cs) c.account.log.seen) in
    ⊎_elim
    (λ (e : most ≡ max n c.account.log.seen). ⊎_elim (λ (f : most ≡ n). inl f) (λ (f : most ≡ c.account.log.seen). inr (there f)) (one_of_two n c.account.log.seen most e))
    (λ (later : Contains (map seen_by cs) most). inr (later_there (map seen_by cs) c.account.log.seen most later))
    (most_one (max n c.account.log.seen) cs)

pub is_most : (n : ℕ) (cs : List Seated) → IsMostSeen n cs (most_seen n cs)
is_most n cs = record { front_within = most_from n cs; seen_within = most_of n cs; one_of_them = most_one n cs }

-- what the first has seen counts as what one of them has seen
first_most : (c : Seated) (cs : List Seated) (most : ℕ) → IsMostSeen c.account.log.seen cs most → IsMostSeen 0 (c ∷ cs) most
first_most c cs most is = record {
  front_within = omega arith;
  seen_within = All-cons (λ (x : Seated). x.account.log.seen ≤ most) c cs is.front_within is.seen_within;
  one_of_them = inr (⊎_elim
      (λ (e : most ≡ c.account.log.seen). subst (λ (m : ℕ). Contains (c.account.log.seen ∷ map seen_by cs) m) (sym e) (front_there (map seen_by cs) c.account.log.seen))
      (λ (later : Contains (map seen_by cs) most). later_there (map seen_by cs) c.account.log.seen most later)
      is.one_of_them);
}

-- the caller that has heard of one more
pub hear_next : (start now next x : Seated) (cs : List Seated) (i n : ℕ) → i < length cs → x ≡ get_or cs i x → n ≡ x.account.log.seen
    → now ≡ seen_at (most_seen start.account.log.seen (take i cs)) start → next ≡ with_account now (after_hear now.account n)
    → next ≡ seen_at (most_seen start.account.log.seen (take (i + 1) cs)) start
hear_next start now next x cs i n below at told before after =
    let m : ℕ = most_seen start.account.log.seen (take i cs) in
    let e : max m n ≡ most_seen start.account.log.seen (take (i + 1) cs) =
    ap (λ (t : ℕ). max m t) told ∙ sym (most_push start.account.log.seen (take i cs) x)
    ∙ ap (λ (l : List Seated). most_seen start.account.log.seen l) (ap (λ (y : Seated). take i cs ++ y ∷ []) at ∙ sym (take_more cs i x below)) in
    after ∙ ap (λ (c : Seated). with_account c (after_hear c.account n)) before ∙ ap (λ (t : ℕ). seen_at t start) e

module _ {W : Type 0} where
  -- the first and the others
  pub all_first : (P : Seated → Type 0) (f : W → Seated) (ws : List W) (w : W) (rest : List W) → ws ≡ w ∷ rest → All P (map f ws) → P (f w)
  all_first P f ws w rest is all = All-head P (f w) (map f rest) (subst (λ (l : List W). All P (map f l)) is all)

  pub all_others : (P : Seated → Type 0) (f : W → Seated) (ws : List W) (w : W) (rest : List W) → ws ≡ w ∷ rest → All P (map f ws) → All P (map f rest)
  all_others P f ws w rest is all = All-tail P (f w) (map f rest) (subst (λ (l : List W). All P (map f l)) is all)

  -- the first has heard of the others, and told them
  pub all_met : (f : W → Seated) (ws : List W) (w : W) (rest : List W) (most : ℕ) (heard now : Seated) (others told : List Seated) → ws ≡ w ∷ rest
      → IsMostSeen (f w).account.log.seen (map f rest) most → heard ≡ seen_at most (f w) → others ≡ map f rest
      → now ≡ heard → told ≡ map (seen_at heard.account.log.seen) others → SawMost (map f ws) (now ∷ told)
  all_met f ws w rest most heard now others told is greatest hears same stays tells =
      let seen : heard.account.log.seen ≡ most = ap seen_by hears in
      let first : now ≡ seen_at most (f w) = stays ∙ hears in
      let later : told ≡ map (seen_at most) (map f rest) = tells ∙ ap (λ (n : ℕ). map (seen_at n) others) seen ∙ ap (map (seen_at most)) same in
      record {
        most = most;
        is_most = subst (λ (l : List W). IsMostSeen 0 (map f l) most) (sym is) (first_most (f w) (map f rest) most greatest);
        after_is = (λ i. first i ∷ later i) ∙ ap (λ (l : List W). map (seen_at most) (map f l)) (sym is);
      }

  pub as_many : (f : W → Seated) (ws : List W) → length (map f ws) ≡ length ws
  as_many f [] = refl
  as_many f (w ∷ ws) = ap suc (as_many f ws)

  -- one element was changed, and what is read of it stays
  pub read_same : (f : W → Seated) (ws : List W) (cs : List Seated) (i : ℕ) (w d : W) → map f ws ≡ cs → f w ≡ f (get_or ws i d) → map f (set ws i w) ≡ cs
  read_same f ws cs i w d is e = map-set_same f ws i w d e ∙ is

  pub read_at : (f : W → Seated) (ws : List W) (cs : List Seated) (i : ℕ) (d : W) → map f ws ≡ cs → f (get_or ws i d) ≡ get_or cs i (f d)
  read_at f ws cs i d is = sym (get_or-map f ws i d) ∙ ap (λ (l : List Seated). get_or l i (f d)) is

module _ {A : Type 0} where
  -- the first i are changed, the others not yet
  abbrev pub turned : (A → A) → ℕ → List A → List A
  turned f i xs = map f (take i xs) ++ drop i xs

  pub turned_at : (f : A → A) (i : ℕ) (xs : List A) (d : A) → get_or (turned f i xs) i d ≡ get_or xs i d
  turned_at f zero xs d = refl
  turned_at f (suc i) [] d = refl
  turned_at f (suc i) (x ∷ xs) d = turned_at f i xs d

  turned_next : (f : A → A) (i : ℕ) (xs : List A) (d : A) → i < length xs → set (turned f i xs) i (f (get_or xs i d)) ≡ turned f (suc i) xs
  turned_next f i [] d below = absurd (omega arith)
  turned_next f zero (x ∷ xs) d below = refl
  turned_next f (suc i) (x ∷ xs) d below = ap (λ (l : List A). f x ∷ l) (turned_next f i xs d (omega arith))

  pub turn_next : (f : A → A) (i : ℕ) (xs : List A) (y d : A) → i < length xs → y ≡ f (get_or xs i d) → set (turned f i xs) i y ≡ turned f (i + 1) xs
  turn_next f i xs y d below is = let n : suc i ≡ i + 1 = omega arith in
      ap (λ (z : A). set (turned f i xs) i z) is ∙ turned_next f i xs d below ∙ ap (λ (m : ℕ). turned f m xs) n

  pub turned_all : (f : A → A) (i : ℕ) (xs : List A) → length xs ≤ i → turned f i xs ≡ map f xs
  turned_all f zero [] all = refl
  turned_all f (suc i) [] all = refl
  turned_all f zero (x ∷ xs) all = absurd (omega arith)
  turned_all f (suc i) (x ∷ xs) all = ap (λ (l : List A). f x ∷ l) (turned_all f i xs (omega arith))

-- the other has heard of a front that is no less than its own
pub tell_one : (x next : Seated) (n m : ℕ) → x.account.log.seen ≤ m → n ≡ m → next ≡ with_account x (after_hear x.account n) → next ≡ seen_at m x
tell_one x next n m less told after = let e : max x.account.log.seen n ≡ m = omega arith in after ∙ ap (λ (t : ℕ). seen_at t x) e
