-- The number of the event that publishes a block, by its first mark.
use Rattle.std.proofs.Common.{◌≡◌, ℕ, zero, suc, get_or, ◌+◌, ◌<◌, ◌≤◌, ◌⊎◌, List, [], ◌∷◌, ◌++◌, length, refl, sym, ap, ◌∙◌, subst, arith, ⊎_elim, inl, inr, lt_of_not-le}
use mathlib.Core.Option.{some}
use mathlib.Core.Logic.{dite}
use native.Mathlib.Decide.{dec_le, ℕ_discrete}
use lib.ListN.{get_elem?}
use Rattle.std.specs.Prelude.{Contains}
use Rattle.std.proofs.lemmas.List.{length_push}
use Rattle.std.proofs.lemmas.List.Elements.{Contains-append_left, Contains-push}
use Rattle.std.proofs.lemmas.List.{get_or_append_left, get_or_push, get_or_default}
use Rattle.std.proofs.lemmas.List.Sorted.{All-permutation, Contains-permutation}
use Rattle.std.specs.Prelude.{IsPermutation}
use Rattle.htss_defs.specs.declared.shape.Shape.{Shape}
use Rattle.board_core.specs.declared.account.Account.{Account}
use Rattle.board_core.specs.declared.loads.ShownLoad.{ShownLoad}
use Rattle.board_core.specs.declared.room.Row.{Row}
use Rattle.board_core.specs.Each.{Each}
use Rattle.board_core.specs.Words.{Parts}
use Rattle.board_core.specs.Blocks.{shown_at}
use Rattle.board_core.specs.Histories.{block_at}
use Rattle.board_core.specs.MarkRule.{ShowsAt}
use Rattle.board_core.specs.FactRule.{MarkStands}
use Rattle.board_core.specs.After.{after_mark}
use Rattle.board_core.specs.Loaded.{Grows, IsInTable, KnowsRow}
use Rattle.board_core.specs.Steps.{MayBe, FirstMark}
use Rattle.board.specs.Seated.{Seated, with_account}
use Rattle.board_core.proofs.Lists.{at_last, inside}
use Rattle.board_core.proofs.Grown.{board_before, code_stays}
use Rattle.descent.specs.Standing.{HasAtom}
use Rattle.searcher.specs.Walking.{AreEarly, AreNumbered, IsNumberOf}

-- the row is still known
pub row_stays : (k : Shape) (a b : Account) (block : ℕ) → Grows a b → KnowsRow a block → KnowsRow b block
row_stays k a b block grown (atom, code, word, has) = (atom, code, word, code_stays k a b grown block atom code word has)

pub rows_stay : (k : Shape) (a b : Account) (rows : List Row) → Grows a b → Each (λ r. KnowsRow a r.block × IsInTable k r.block) rows → Each (λ r. KnowsRow b r.block × IsInTable k r.block) rows
rows_stay k a b rows grown all j r there = let h = all j r there in (row_stays k a b r.block grown h.0, h.1)

pub atoms_stay : (k : Shape) (a b : Account) (rows : List Row) → Grows a b → Each (HasAtom a) rows → Each (HasAtom b) rows
atoms_stay k a b rows grown all j r there =
    let h = all j r there in
    let x = h.loaded in record {
      head = h.head;
      loaded = record { load = x.load; index = x.index; loaded = grown.heads x.index x.load x.loaded; place = x.place; found = x.found };
      above = h.above;
      most = h.most;
    }

-- ---- one block

-- a mark that was loaded at this front, and the mark that stands there now
record MarkNow (last front mark now : ℕ) : Type 0 where
  seen : front ≤ last
  told : 0 < mark → mark ≤ front → now ≡ mark
  later : (mark ≡ 0) ⊎ (front < mark) → (now ≡ 0) ⊎ (front < now)

module _ (k : Shape) (a : Account) (front block mark : ℕ) (seen : a.log.seen ≡ front) (known : KnowsRow a block) (p : Parts) (m : MayBe k p (after_mark a (block + shown_at) mark)) where
  abbrev now : ℕ
  now = block_at k p.regions block shown_at

  first : FirstMark k p block
  first = let has = known.3 in subst (FirstMark k p) has.row.0 (m.agrees.firsts has.index has.load has.loaded)

  stands : MarkNow p.log.front front mark now
  stands =
      let new : ShownLoad = record { place = block + shown_at; word = mark; front = a.log.seen } in
      let s : MarkStands k p.regions p.log.front new = m.agrees.blocks.marks (length a.loads.marks) new (at_last a.loads.marks new (length a.loads.marks) refl) in
      subst (λ (z : ℕ). MarkNow p.log.front z mark now) seen record { seen = s.seen; told = s.told; later = s.later }

  pub none_here : (mark ≡ 0) ⊎ (front < mark) → (n : ℕ) → n ≤ front → ShowsAt p.log.front p.log.slots block n → ⊥
  none_here free n early shows =
      let above = shows.above in
      let is : now ≡ n = first.stands n shows in
      ⊎_elim (λ (z : now ≡ 0). absurd (omega arith)) (λ (z : front < now). absurd (omega arith)) (stands.later free)

  pub one_here : 0 < mark → mark ≤ front → (n : ℕ) → ShowsAt p.log.front p.log.slots block n → mark ≡ n
  one_here above within n shows = sym (stands.told above within) ∙ first.stands n shows

  pub shown_here : 0 < mark → mark ≤ front → ShowsAt p.log.front p.log.slots block mark
  shown_here above within = let early = stands.seen in first.told mark above (omega arith) (stands.told above within)

number_in : (k : Shape) (a : Account) (front block mark : ℕ) → a.log.seen ≡ front → KnowsRow a block → mark ≤ front → IsNumberOf k (after_mark a (block + shown_at) mark) front block mark
number_in k a front block mark seen known within = record {
  early = within;
  only = λ p m n early shows. dite (ℕ_discrete mark 0)
      (λ none. absurd (none_here k a front block mark seen known p m (inl none) n early shows))
      (λ some_mark. one_here k a front block mark seen known p m (omega arith) within n shows);
  shows = λ p m above. shown_here k a front block mark seen known p m above within;
}

number_past : (k : Shape) (a : Account) (front block mark : ℕ) → a.log.seen ≡ front → KnowsRow a block → front < mark → IsNumberOf k (after_mark a (block + shown_at) mark) front block 0
number_past k a front block mark seen known past = record {
  early = omega arith;
  only = λ p m n early shows. absurd (none_here k a front block mark seen known p m (inr past) n early shows);
  shows = λ p m above. absurd (omega arith);
}

module _ (k : Shape) (c n : Seated) (front block mark : ℕ) (is : n ≡ with_account c (after_mark c.account (block + shown_at) mark)) (seen : c.account.log.seen ≡ front) (known : KnowsRow c.account block) where
  pub number_marked : mark ≤ front → IsNumberOf k n.account front block mark
  number_marked within = subst (λ (x : Seated). IsNumberOf k x.account front block mark) (sym is) (number_in k c.account front block mark seen known within)

  pub number_unmarked : front < mark → IsNumberOf k n.account front block 0
  number_unmarked past = subst (λ (x : Seated). IsNumberOf k x.account front block 0) (sym is) (number_past k c.account front block mark seen known past)

-- ---- the blocks of rows, up to a place

abbrev pub AreNumberedTo : Shape → Account → ℕ → List Row → ℕ → List ℕ → Type 0
AreNumberedTo k a front rows index numbers = (i : ℕ) (r : Row) → i < index → get_elem? rows i ≡ some r → AreNumbered k a front r.block numbers

pub numbered_none : (k : Shape) (a : Account) (front : ℕ) (rows : List Row) (numbers : List ℕ) → AreNumberedTo k a front rows 0 numbers
numbered_none k a front rows numbers i r below there = absurd (omega arith)

some_same : {A : Type 0} (x y : A) → some x ≡ some y → x ≡ y
some_same x y e = cc

-- more numbers, and more loaded
numbered_later : (k : Shape) (a b : Account) (front block : ℕ) (numbers more : List ℕ) → Grows a b → ((n : ℕ) → Contains numbers n → Contains more n) → AreNumbered k a front block numbers → AreNumbered k b front block more
numbered_later k a b front block numbers more grown longer all p m n early shows = longer n (all p (board_before k a b grown p m) n early shows)

numbered_next : (k : Shape) (a b : Account) (front index : ℕ) (rows : List Row) (row : Row) (numbers more : List ℕ) → Grows a b → get_elem? rows index ≡ some row → ((n : ℕ) → Contains numbers n → Contains more n) → AreNumbered k b front row.block more
    → AreNumberedTo k a front rows index numbers → AreNumberedTo k b front rows (index + 1) more
numbered_next k a b front index rows row numbers more grown here longer last all i r below there = dite (ℕ_discrete i index)
    (λ same. let e : some row ≡ some r = sym here ∙ (ap (λ (z : ℕ). get_elem? rows z) (sym same) ∙ there) in
    subst (λ (x : Row). AreNumbered k b front x.block more) (some_same row r e) last)
    (λ other. numbered_later k a b front r.block numbers more grown longer (all i r (omega arith) there))

-- a number was found
pub numbered_more : (k : Shape) (a b : Account) (front index number : ℕ) (rows : List Row) (row : Row) (numbers : List ℕ) → Grows a b → get_elem? rows index ≡ some row → IsNumberOf k b front row.block number → AreNumberedTo k a front rows index numbers → AreNumberedTo k b front rows (index + 1) (numbers ++ number ∷ [])
numbered_more k a b front index number rows row numbers grown here is all = numbered_next k a b front index rows row numbers (numbers ++ number ∷ []) grown here (λ n h. Contains-append_left numbers (number ∷ []) n h)
    (λ p m n early shows. subst (λ (x : ℕ). Contains (numbers ++ number ∷ []) x) (is.only p m n early shows) (Contains-push numbers number)) all

-- none was
pub numbered_passed : (k : Shape) (a b : Account) (front index number : ℕ) (rows : List Row) (row : Row) (numbers : List ℕ) → Grows a b → get_elem? rows index ≡ some row → number ≡ 0 → IsNumberOf k b front row.block number → AreNumberedTo k a front rows index numbers → AreNumberedTo k b front rows (index + 1) numbers
numbered_passed k a b front index number rows row numbers grown here none is all = numbered_next k a b front index rows row numbers numbers grown here (λ n h. h)
    (λ p m n early shows. let above = shows.above in let same = is.only p m n early shows in absurd (omega arith)) all

pub early_more : (front number : ℕ) (numbers : List ℕ) → AreEarly front numbers → 0 < number → number ≤ front → AreEarly front (numbers ++ number ∷ [])
early_more front number numbers all above within i inside =
    let long = length_push numbers number in
    dite (dec_le (length numbers) i)
    (λ last. let at : length numbers ≡ i = omega arith in
    subst (λ (z : ℕ). (0 < z) × (z ≤ front)) (sym (get_or_push numbers number 0 i at)) (above, within))
    (λ before. subst (λ (z : ℕ). (0 < z) × (z ≤ front)) (sym (get_or_append_left numbers (number ∷ []) 0 i (lt_of_not-le before))) (all i (lt_of_not-le before)))

pub early_none : (front : ℕ) → AreEarly front []
early_none front i inside = absurd (omega arith)

pub numbered_all : (k : Shape) (a : Account) (front index : ℕ) (rows : List Row) (numbers : List ℕ) → length rows ≤ index → AreNumberedTo k a front rows index numbers → Each (λ r. AreNumbered k a front r.block numbers) rows
numbered_all k a front index rows numbers whole all j r there = let below = inside rows j r there in all j r (omega arith) there

pub row_at : (rows : List Row) (i : ℕ) (d : Row) → i < length rows → get_elem? rows i ≡ some (get_or rows i d)
row_at [] i d less = absurd (omega arith)
row_at (x ∷ xs) zero d less = refl
row_at (x ∷ xs) (suc i) d less = row_at xs i d (omega arith)

-- ---- in another order

pub early_shuffled : (front : ℕ) (numbers more : List ℕ) → IsPermutation numbers more → AreEarly front numbers → AreEarly front more
early_shuffled front numbers more same all i inside = All-permutation (λ x. (0 < x) × (x ≤ front)) numbers more same (λ j d below. subst (λ (z : ℕ). (0 < z) × (z ≤ front)) (sym (get_or_default numbers j d 0 below)) (all j below)) i 0 inside

pub numbered_shuffled : (k : Shape) (a : Account) (front : ℕ) (rows : List Row) (numbers more : List ℕ) → IsPermutation numbers more → Each (λ r. AreNumbered k a front r.block numbers) rows → Each (λ r. AreNumbered k a front r.block more) rows
numbered_shuffled k a front rows numbers more same all j r there p m n early shows = Contains-permutation numbers more n same (all j r there p m n early shows)
