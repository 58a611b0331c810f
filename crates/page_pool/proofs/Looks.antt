-- Looks at the states of pages: one page, one look after another, and what they say of the board.
use Rattle.std.proofs.Common.{◌≡◌, ◌≢◌, ℕ, zero, suc, Bool, true, false, ◌+◌, ◌-◌, ◌<◌, ◌≤◌, ◌⊎◌, inl, inr, ⊎_elim, List, [], ◌∷◌, ◌++◌, length, refl, sym, ap, ◌∙◌, subst, arith, append-nil, append_assoc, length-append}
use Rattle.std.specs.Prelude.{MatchBool, IsTrue}
use mathlib.Core.Option.{some, some-injective, some-ne-none}
use lib.ListN.{get_elem?}
use Rattle.htss_defs.specs.declared.shape.Shape.{Shape}
use Rattle.board_core.specs.declared.account.Account.{Account}
use Rattle.board_core.specs.declared.loads.StateLoad.{StateLoad}
use Rattle.board_core.specs.declared.pool.PoolAccount.{PoolAccount}
use Rattle.board_core.specs.declared.entry.Entry.TheVariants.{NoPage}
use Rattle.board_core.specs.Histories.{history_of}
use Rattle.board_core.specs.Truths.{IsTrueLog, IsTrueRoom, IsTruePool}
use Rattle.board_core.specs.Sheets.{owns}
use Rattle.board_core.specs.StateRule.{StatesStand}
use Rattle.board_core.specs.Loaded.{IsPage}
use Rattle.board_core.specs.After.{after_state, after_page, after_lost}
use Rattle.board_core.specs.Steps.{AreTrue, MayTakePage}
use Rattle.board_core.proofs.Lists.{each_none, each_cons, at_longer, at_last}
use Rattle.board.specs.Seated.{Place, Seated, IsOf, IsLoader, IsLost, with_account, number_of}
use Rattle.page_pool.specs.Taking.{AreBetween, AreRound, with_looks, WasLoaded, WasLost, WasBusy, HasLooked, HasTaken}
use Rattle.board_core.specs.ChainRule.{IsToldChain}
use Rattle.board_core.specs.CountRule.{most_own}

abbrev loaded : ℕ → ℕ → StateLoad
loaded page word = record { page = page; word = word }

-- ---- one page

pub may_take : (k : Shape) (c d : Seated) (page state low : ℕ) → d ≡ with_account c (after_state c.account page state) → IsLoader c → IsPage k page → c.account.pool.low ≡ low → k.loaders + k.searchers ≤ c.account.pool.passed → length c.account.pool.own < most_own → state ≢ 1 → state ≤ low → MayTakePage k d.account (number_of d) page state
may_take k c d page state low is loader inside_page least all few other below = subst (λ (x : Seated). MayTakePage k x.account (number_of x) page state) (sym is) record {
  who = loader;
  inside = inside_page;
  other = other;
  seen = (length c.account.loads.states, loaded page state, at_last c.account.loads.states (loaded page state) (length c.account.loads.states) refl, refl, refl);
  below = λ _. omega arith;
  scanned = λ _. all;
  few = few;
}

-- ---- the order of loads

between_one : (page word : ℕ) → AreBetween page (page + 1) (loaded page word ∷ [])
between_one page word = record { pages = first; count = refl }
  where
    first : (i : ℕ) (l : StateLoad) → get_elem? (loaded page word ∷ []) i ≡ some l → l.page ≡ page + i
    first zero l there = let same = ap (λ (x : StateLoad). x.page) (some-injective (loaded page word) l there) in omega arith
    first (suc i) l there = absurd (some-ne-none l (sym there))

-- a place of two lists is one of the first or of the second
at_either : {A : Type 0} (xs ys : List A) (i : ℕ) (a : A) → get_elem? (xs ++ ys) i ≡ some a → (get_elem? xs i ≡ some a) ⊎ ((j : ℕ) × (i ≡ length xs + j) × (get_elem? ys j ≡ some a))
at_either [] ys i a there = inr (i, omega arith, there)
at_either (x ∷ xs) ys zero a there = inl there
at_either {A} (x ∷ xs) ys (suc i) a there = ⊎_elim
    (λ (t : get_elem? xs i ≡ some a). inl t)
    (λ (t : (j : ℕ) × (i ≡ length xs + j) × (get_elem? ys j ≡ some a)). let e = t.1 in inr (t.0, omega arith, t.2))
    (at_either xs ys i a there)

between_both : (f m u : ℕ) (ss ts : List StateLoad) → AreBetween f m ss → AreBetween m u ts → AreBetween f u (ss ++ ts)
between_both f m u ss ts a b = let first = a.count in let second = b.count in record {
  pages = λ i l there. ⊎_elim
      (λ (t : get_elem? ss i ≡ some l). a.pages i l t)
      (λ (t : (j : ℕ) × (i ≡ length ss + j) × (get_elem? ts j ≡ some l)). let e = t.1 in let page = b.pages t.0 l t.2 in omega arith)
      (at_either ss ts i l there);
  count = let both = length-append ss ts in omega arith;
}

round_first : (pages next u : ℕ) (ss : List StateLoad) → 0 < next → u ≤ pages + 1 → AreBetween next u ss → AreRound pages next ss
round_first pages next u ss above within a = let count = a.count in record { order = λ i l there. inl (a.pages i l there); most = omega arith }

round_both : (pages next u : ℕ) (ss ts : List StateLoad) → u ≤ next → AreBetween next (pages + 1) ss → AreBetween 1 u ts → AreRound pages next (ss ++ ts)
round_both pages next u ss ts before a b = let first = a.count in record {
  order = λ i l there. ⊎_elim
      (λ (t : get_elem? ss i ≡ some l). inl (a.pages i l t))
      (λ (t : (j : ℕ) × (i ≡ length ss + j) × (get_elem? ts j ≡ some l)). let e = t.1 in let page = b.pages t.0 l t.2 in inr (omega arith))
      (at_either ss ts i l there);
  most = let second = b.count in let both = length-append ss ts in omega arith;
}

-- no more exchanges than loads, in both of two looks
fewer_both : (ss ts ls ms : List StateLoad) → length ls ≤ length ss → length ms ≤ length ts → length (ls ++ ms) ≤ length (ss ++ ts)
fewer_both ss ts ls ms a b = let loads = length-append ss ts in let exchanges = length-append ls ms in omega arith

-- ---- one page's look

one_page : (page p : ℕ) → page ≤ p → p < page + 1 → page ≡ p
one_page page p from until = omega arith

-- only loaded: the lost exchanges are as they were
no_more : (c d : Seated) (page state : ℕ) (f : Account → Account) → d ≡ with_account c (f (after_state c.account page state)) → d ≡ with_account c (f (with_looks c.account (loaded page state ∷ []) []))
no_more c d page state f is = is ∙ ap (λ (l : List StateLoad). with_account c (f (record c.account { loads = record c.account.loads { states = c.account.loads.states ++ loaded page state ∷ []; lost = l } }))) (sym (append-nil c.account.loads.lost))

pub looked_busy : (low page state : ℕ) (c d : Seated) → d ≡ with_account c (after_state c.account page state) → (state ≡ 1) ⊎ (low < state) → HasLooked (AreBetween page (page + 1)) low page (page + 1) c d
looked_busy low page state c d is busy = record {
  states = loaded page state ∷ [];
  lost = [];
  order = between_one page state;
  fewer = omega arith;
  busy = λ p from until. inl record { index = 0; load = loaded page state; there = refl; page_is = one_page page p from until; busy = busy };
  after = no_more c d page state (λ a. a) is;
}

pub exchanged : (b : Bool) (low page state : ℕ) (c m d : Seated) → m ≡ with_account c (after_state c.account page state) → MatchBool b (d ≡ with_account m (after_page m.account page)) (IsLost m d page state) → (IsTrue b → owns page m.account.pool.own ≡ 0)
    → MatchBool b (HasTaken (AreBetween page (page + 1)) c d page) (HasLooked (AreBetween page (page + 1)) low page (page + 1) c d)
exchanged true low page state c m d is after fresh = record {
  states = loaded page state ∷ [];
  lost = [];
  order = between_one page state;
  fewer = omega arith;
  fresh = ap (λ (x : Seated). owns page x.account.pool.own) (sym is) ∙ fresh refl;
  after = no_more c d page state (λ a. after_page a page) (after ∙ ap (λ (x : Seated). with_account x (after_page x.account page)) is);
}
exchanged false low page state c m d is (found, other, after) fresh = record {
  states = loaded page state ∷ [];
  lost = loaded page found ∷ [];
  order = between_one page state;
  fewer = omega arith;
  busy = λ p from until. inr record { index = 0; load = loaded page state; there = refl; page_is = one_page page p from until; lost_index = 0; found = loaded page found; lost_there = refl; found_page = one_page page p from until; changed = other };
  after = after ∙ ap (λ (x : Seated). with_account x (after_lost x.account page found)) is;
}

-- ---- one look after another

pub looked_none : (low from : ℕ) (c : Seated) → HasLooked (AreBetween from from) low from from c c
looked_none low from c = record {
  states = [];
  lost = [];
  order = record { pages = λ i l there. absurd (some-ne-none l (sym there)); count = omega arith };
  fewer = omega arith;
  busy = λ p above below. absurd (omega arith);
  after = λ i. with_account c (record c.account { loads = record c.account.loads { states = sym (append-nil c.account.loads.states) i; lost = sym (append-nil c.account.loads.lost) i } });
}

-- what stands in the second of two lists
at_second : {A : Type 0} (xs ys : List A) (i : ℕ) (a : A) → get_elem? ys i ≡ some a → (j : ℕ) × (get_elem? (xs ++ ys) j ≡ some a)
at_second [] ys i a there = (i, there)
at_second (x ∷ xs) ys i a there = let t = at_second xs ys i a there in (suc t.0, t.1)

busy_first : (low : ℕ) (ss ls ts ms : List StateLoad) (p : ℕ) → WasBusy low ss ls p → WasBusy low (ss ++ ts) (ls ++ ms) p
busy_first low ss ls ts ms p w = ⊎_elim
    (λ (b : WasLoaded low ss p). inl record { index = b.index; load = b.load; there = at_longer ss ts b.index b.load b.there; page_is = b.page_is; busy = b.busy })
    (λ (b : WasLost ss ls p). inr record { index = b.index; load = b.load; there = at_longer ss ts b.index b.load b.there; page_is = b.page_is; lost_index = b.lost_index; found = b.found; lost_there = at_longer ls ms b.lost_index b.found b.lost_there; found_page = b.found_page; changed = b.changed })
    w

busy_second : (low : ℕ) (ss ls ts ms : List StateLoad) (p : ℕ) → WasBusy low ts ms p → WasBusy low (ss ++ ts) (ls ++ ms) p
busy_second low ss ls ts ms p w = ⊎_elim
    (λ (b : WasLoaded low ts p). let t = at_second ss ts b.index b.load b.there in inl record { index = t.0; load = b.load; there = t.1; page_is = b.page_is; busy = b.busy })
    (λ (b : WasLost ts ms p). let t = at_second ss ts b.index b.load b.there in let u = at_second ls ms b.lost_index b.found b.lost_there in
    inr record { index = t.0; load = b.load; there = t.1; page_is = b.page_is; lost_index = u.0; found = b.found; lost_there = u.1; found_page = b.found_page; changed = b.changed })
    w

-- the account after both
looks_both : (c d e : Seated) (f : Account → Account) (ss ls ts ms : List StateLoad) → d ≡ with_account c (with_looks c.account ss ls) → e ≡ with_account d (f (with_looks d.account ts ms)) → e ≡ with_account c (f (with_looks c.account (ss ++ ts) (ls ++ ms)))
looks_both c d e f ss ls ts ms first second = second ∙ (ap (λ (x : Seated). with_account x (f (with_looks x.account ts ms))) first
    ∙ (λ i. with_account c (f (record c.account { loads = record c.account.loads { states = append_assoc c.account.loads.states ss ts i; lost = append_assoc c.account.loads.lost ls ms i } }))))

-- two looks, each of which says of some pages that they were busy
looked_parts : (O P Q : List StateLoad → Type 0) → ((ss ts : List StateLoad) → O ss → P ts → Q (ss ++ ts)) → (low f m g n from until : ℕ) (c d e : Seated) → ((p : ℕ) → from ≤ p → p < until → ((f ≤ p) × (p < m)) ⊎ ((g ≤ p) × (p < n))) → HasLooked O low f m c d → HasLooked P low g n d e → HasLooked Q low from until c e
looked_parts O P Q both low f m g n from until c d e each a b = record {
  states = a.states ++ b.states;
  lost = a.lost ++ b.lost;
  order = both a.states b.states a.order b.order;
  fewer = fewer_both a.states b.states a.lost b.lost a.fewer b.fewer;
  busy = λ p above below. ⊎_elim
      (λ (t : (f ≤ p) × (p < m)). busy_first low a.states a.lost b.states b.lost p (a.busy p t.0 t.1))
      (λ (t : (g ≤ p) × (p < n)). busy_second low a.states a.lost b.states b.lost p (b.busy p t.0 t.1))
      (each p above below);
  after = looks_both c d e (λ x. x) a.states a.lost b.states b.lost a.after b.after;
}

less_or : (p m : ℕ) → (p < m) ⊎ (m ≤ p)
less_or p zero = inr (omega arith)
less_or zero (suc m) = inl (omega arith)
less_or (suc p) (suc m) = ⊎_elim (λ (t : p < m). inl (omega arith)) (λ (t : m ≤ p). inr (omega arith)) (less_or p m)

pub looked_next : (low from page : ℕ) (c d e : Seated) → HasLooked (AreBetween from page) low from page c d → HasLooked (AreBetween page (page + 1)) low page (page + 1) d e → HasLooked (AreBetween from (page + 1)) low from (page + 1) c e
looked_next low from page c d e a b = looked_parts (AreBetween from page) (AreBetween page (page + 1)) (AreBetween from (page + 1)) (between_both from page (page + 1)) low from page page (page + 1) from (page + 1) c d e (λ p above below. ⊎_elim (λ (t : p < page). inl (above, t)) (λ (t : page ≤ p). inr (t, below)) (less_or p page)) a b

pub looked_round : (low next pages : ℕ) (c d e : Seated) → HasLooked (AreBetween next (pages + 1)) low next (pages + 1) c d → HasLooked (AreBetween 1 next) low 1 next d e → HasLooked (AreRound pages next) low 1 (pages + 1) c e
looked_round low next pages c d e a b = looked_parts (AreBetween next (pages + 1)) (AreBetween 1 next) (AreRound pages next) (λ ss ts. round_both pages next next ss ts (omega arith)) low next (pages + 1) 1 next 1 (pages + 1) c d e (λ p above below. ⊎_elim (λ (t : p < next). inr (above, t)) (λ (t : next ≤ p). inl (t, below)) (less_or p next)) a b

taken_parts : (O P Q : List StateLoad → Type 0) → ((ss ts : List StateLoad) → O ss → P ts → Q (ss ++ ts)) → (low from until page : ℕ) (c d e : Seated) → HasLooked O low from until c d → HasTaken P d e page → HasTaken Q c e page
taken_parts O P Q both low from until page c d e a t = record {
  states = a.states ++ t.states;
  lost = a.lost ++ t.lost;
  order = both a.states t.states a.order t.order;
  fewer = fewer_both a.states t.states a.lost t.lost a.fewer t.fewer;
  fresh = ap (λ (x : Seated). owns page x.account.pool.own) (sym a.after) ∙ t.fresh;
  after = looks_both c d e (λ x. after_page x page) a.states a.lost t.states t.lost a.after t.after;
}

pub taken_next : (low from page : ℕ) (c d e : Seated) → HasLooked (AreBetween from page) low from page c d → HasTaken (AreBetween page (page + 1)) d e page → HasTaken (AreBetween from (page + 1)) c e page
taken_next low from page c d e a t = taken_parts (AreBetween from page) (AreBetween page (page + 1)) (AreBetween from (page + 1)) (between_both from page (page + 1)) low from page page c d e a t

pub taken_first : (pages next page : ℕ) (c d : Seated) → 0 < next → page ≤ pages → HasTaken (AreBetween next (page + 1)) c d page → HasTaken (AreRound pages next) c d page
taken_first pages next page c d above within t = record { states = t.states; lost = t.lost; order = round_first pages next (page + 1) t.states above (omega arith) t.order; fewer = t.fewer; fresh = t.fresh; after = t.after }

pub taken_round : (low next pages page : ℕ) (c d e : Seated) → page < next → HasLooked (AreBetween next (pages + 1)) low next (pages + 1) c d → HasTaken (AreBetween 1 (page + 1)) d e page → HasTaken (AreRound pages next) c e page
taken_round low next pages page c d e before a t = taken_parts (AreBetween next (pages + 1)) (AreBetween 1 (page + 1)) (AreRound pages next) (λ ss ts. round_both pages next (page + 1) ss ts (omega arith)) low next (pages + 1) page c d e a t

-- ---- what a look leaves

pub looked_of : (O : List StateLoad → Type 0) (low from until : ℕ) (b : Place) (c d : Seated) → HasLooked O low from until c d → IsOf b c → IsOf b d
looked_of O low from until b c d a of = subst (IsOf b) (sym a.after) record { table = of.table; shape = of.shape }

pub looked_loader : (O : List StateLoad → Type 0) (low from until : ℕ) (c d : Seated) → HasLooked O low from until c d → IsLoader c → IsLoader d
looked_loader O low from until c d a loader = subst IsLoader (sym a.after) loader

pub looked_pool : (O : List StateLoad → Type 0) (low from until : ℕ) (c d : Seated) → HasLooked O low from until c d → d.account.pool ≡ c.account.pool
looked_pool O low from until c d a = ap (λ (x : Seated). x.account.pool) a.after

pub looked_low : (O : List StateLoad → Type 0) (low from until : ℕ) (c d : Seated) → HasLooked O low from until c d → c.account.pool.low ≡ low → d.account.pool.low ≡ low
looked_low O low from until c d a is = ap (λ (x : PoolAccount). x.low) (looked_pool O low from until c d a) ∙ is

pub looked_passed : (O : List StateLoad → Type 0) (low from until n : ℕ) (c d : Seated) → HasLooked O low from until c d → n ≤ c.account.pool.passed → n ≤ d.account.pool.passed
looked_passed O low from until n c d a most = subst (λ (x : PoolAccount). n ≤ x.passed) (sym (looked_pool O low from until c d a)) most

-- ---- no page is free

some_state : (low n : ℕ) → (n ≡ 1) ⊎ (low < n) → n ≢ 0
some_state low n c z = ⊎_elim (λ (t : n ≡ 1). omega arith) (λ (t : low < n). omega arith) c

not_free : (O : List StateLoad → Type 0) (f : ℕ → ℕ) (low : ℕ) (c d : Seated) (from until p : ℕ) → HasLooked O low from until c d → StatesStand f d.account.loads → from ≤ p → p < until → f p ≢ 0
not_free O f low c d from until p a stand above below =
    let stands : StatesStand f (with_looks c.account a.states a.lost).loads = subst (λ (x : Seated). StatesStand f x.account.loads) a.after stand in
    ⊎_elim
    (λ (b : WasLoaded low a.states p). let t = at_second c.account.loads.states a.states b.index b.load b.there in
    subst (λ (z : ℕ). f z ≢ 0) b.page_is (stands.seen t.0 b.load t.1 (some_state low b.load.word b.busy)))
    (λ (b : WasLost a.states a.lost p). let t = at_second c.account.loads.lost a.lost b.lost_index b.found b.lost_there in
    subst (λ (z : ℕ). f z ≢ 0) b.found_page (stands.lost t.0 b.found t.1))
    (a.busy p above below)

pub none_true : (O : List StateLoad → Type 0) (k : Shape) (low : ℕ) (c d : Seated) → HasLooked O low 1 (k.pages + 1) c d → AreTrue k d.account (NoPage ∷ [])
none_true O k low c d a = record {
  silent = refl;
  each = λ p known agrees. each_cons (IsTrueLog k (history_of k p)) NoPage [] tt (each_none (IsTrueLog k (history_of k p)));
  rooms = each_cons (IsTrueRoom (k.room - length d.account.room.used)) NoPage [] tt (each_none (IsTrueRoom (k.room - length d.account.room.used)));
  pages = λ f stand. each_cons (IsTruePool k f) NoPage [] (λ p above within. not_free O f low c d 1 (k.pages + 1) p a stand above (omega arith)) (each_none (IsTruePool k f));
  chains = each_cons (IsToldChain k d.account) NoPage [] tt (each_none (IsToldChain k d.account));
}
