-- A page more is reached: the next one of a chain, or the one behind a link.
use Rattle.std.proofs.Common.{◌≡◌, ◌≢◌, ℕ, zero, suc, ◌+◌, ◌<◌, ◌≤◌, Bool, false, List, [], ◌∷◌, ◌++◌, length, set, refl, sym, ap, ◌∙◌, subst, arith, get_or-set_same, get_or-set_other, length-set, length-append}
use mathlib.Core.Option.{some-ne-none}
use mathlib.Core.Logic.{dite}
use native.Mathlib.Decide.{ℕ_discrete}
use lib.ListN.{get_elem?}
use Rattle.htss_defs.specs.declared.shape.Shape.{Shape}
use Rattle.board_core.specs.declared.account.Account.{Account}
use Rattle.board_core.specs.declared.tree.Link.TheVariants.{Unread, Absent, To}
use Rattle.board_core.specs.declared.tree.Reached.{Reached}
use Rattle.board_core.specs.Each.{In}
use Rattle.board_core.specs.Loaded.{IsPage}
use Rattle.board_core.specs.After.{root, visited, led, next_of, with_link, with_more, after_link, after_more}
use Rattle.board.specs.Seated.{Seated, with_account}
use Rattle.class_tree.specs.declared.walks.Stop.{Stop}
use Rattle.class_tree.specs.Walking.{here, rest_of, Shown, shown_of, AreHigh, IsFresh, IsAt, Goes}
use Rattle.class_tree.proofs.Pages.{visited_before, visited_last}
use Rattle.class_tree.proofs.Loadings.{lists_of, grows_same, grows_on, grows_equal}

-- ---- the same pages, of which the same is shown

pub record SameShown (a b : Account) : Type 0 where
  pub size : length b.tree.reached ≡ length a.tree.reached
  pub shown : (j : ℕ) → shown_of (visited b.tree.reached j) ≡ shown_of (visited a.tree.reached j)

pub equal_shown : (a b : Account) → b.tree.reached ≡ a.tree.reached → SameShown a b
equal_shown a b e = record { size = ap length e; shown = λ j. ap (λ (l : List Reached). shown_of (visited l j)) e }

-- what is known of a page without its slots changes nothing of that
pub set_shown : (a b : Account) (number : ℕ) (x : Reached) → number < length a.tree.reached → b.tree.reached ≡ set a.tree.reached number x → shown_of x ≡ shown_of (visited a.tree.reached number) → SameShown a b
set_shown a b number x within e same = record {
  size = ap length e ∙ length-set a.tree.reached number x;
  shown = λ j. ap (λ (l : List Reached). shown_of (visited l j)) e ∙ dite (ℕ_discrete j number)
      (λ is. ap (λ (i : ℕ). shown_of (visited (set a.tree.reached number x) i)) is ∙ (ap shown_of (get_or-set_same a.tree.reached number x root within) ∙ (same ∙ ap (λ (i : ℕ). shown_of (visited a.tree.reached i)) (sym is))))
      (λ other. ap shown_of (get_or-set_other a.tree.reached number j x root other));
}

fresh_if : (path : List ℕ) (code : ℕ) (x y : Reached) → shown_of x ≡ shown_of y → (y.leaf ≡ false → y.path ≡ path → In code y.slots → ⊥) → x.leaf ≡ false → x.path ≡ path → In code x.slots → ⊥
fresh_if path code x y e h inner on seen = h (sym (ap (λ (z : Shown). z.place.leaf) e) ∙ inner) (sym (ap (λ (z : Shown). z.place.path) e) ∙ on) (subst (λ (z : Shown). In code z.slots) e seen)

high_if : (depth : ℕ) (x y : Reached) → shown_of x ≡ shown_of y → (y.leaf ≡ false → length y.path ≤ depth) → x.leaf ≡ false → length x.path ≤ depth
high_if depth x y e h inner =
    let old = h (sym (ap (λ (z : Shown). z.place.leaf) e) ∙ inner) in
    let same = ap (λ (z : Shown). length z.place.path) e in omega arith

pub same_fresh : (a b : Account) (path : List ℕ) (code : ℕ) → SameShown a b → IsFresh a path code → IsFresh b path code
same_fresh a b path code s h j less inner on seen = fresh_if path code (visited b.tree.reached j) (visited a.tree.reached j) (s.shown j) (h j (let size = s.size in omega arith)) inner on seen

pub same_high : (a b : Account) (depth : ℕ) → SameShown a b → AreHigh a depth → AreHigh b depth
same_high a b depth s h j less inner = high_if depth (visited b.tree.reached j) (visited a.tree.reached j) (s.shown j) (h j (let size = s.size in omega arith)) inner

-- ---- a page more

pub record Grown (a b : Account) (z : Reached) : Type 0 where
  pub size : length b.tree.reached ≡ length a.tree.reached + 1
  pub shown : (j : ℕ) → j < length a.tree.reached → shown_of (visited b.tree.reached j) ≡ shown_of (visited a.tree.reached j)
  pub last : visited b.tree.reached (length a.tree.reached) ≡ z

set_grown : (a b : Account) (number : ℕ) (x z : Reached) → number < length a.tree.reached → b.tree.reached ≡ set a.tree.reached number x ++ z ∷ [] → shown_of x ≡ shown_of (visited a.tree.reached number) → Grown a b z
set_grown a b number x z within e same =
    let rs : List Reached = set a.tree.reached number x in
    let long : length rs ≡ length a.tree.reached = length-set a.tree.reached number x in
    let set_only = set_shown a (record a { tree = record a.tree { reached = rs } }) number x within refl same in record {
      size = ap length e ∙ (length-append rs (z ∷ []) ∙ ap (λ (n : ℕ). n + 1) long);
      shown = λ j less. ap (λ (l : List Reached). shown_of (visited l j)) e ∙ (ap shown_of (visited_before rs z j (omega arith)) ∙ set_only.shown j);
      last = ap (λ (l : List Reached). visited l (length a.tree.reached)) e ∙ (ap (visited (rs ++ z ∷ [])) (sym long) ∙ visited_last rs z);
    }

pub grown_more : (a : Account) (s : Stop) (n : ℕ) → s.number < length a.tree.reached → n ≢ 0 → Grown a (after_more a s.number n) (next_of (here a s) n)
grown_more a s zero within some_n = absurd (some_n refl)
grown_more a s (suc n) within some_n = set_grown a (after_more a s.number (suc n)) s.number (with_more (To (suc n)) (here a s)) (next_of (here a s) (suc n)) within refl refl

pub none_more : (a : Account) (s : Stop) → s.number < length a.tree.reached → SameShown a (after_more a s.number 0)
none_more a s within = set_shown a (after_more a s.number 0) s.number (with_more Absent (here a s)) within refl refl

pub grown_link : (a : Account) (s : Stop) (i c n : ℕ) (leaf : Bool) → s.number < length a.tree.reached → n ≢ 0 → Grown a (after_link a s.number i c n leaf) (led (here a s) i c n leaf)
grown_link a s i c zero leaf within some_n = absurd (some_n refl)
grown_link a s i c (suc n) leaf within some_n = set_grown a (after_link a s.number i c (suc n) leaf) s.number (with_link i (To (suc n)) (here a s)) (led (here a s) i c (suc n) leaf) within refl refl

pub none_link : (a : Account) (s : Stop) (i c : ℕ) (leaf : Bool) → s.number < length a.tree.reached → SameShown a (after_link a s.number i c 0 leaf)
none_link a s i c leaf within = set_shown a (after_link a s.number i c 0 leaf) s.number (with_link i Absent (here a s)) within refl refl

-- nothing is known of the new page's slots
pub grown_fresh : (a b : Account) (z : Reached) (path : List ℕ) (code : ℕ) → Grown a b z → z.slots ≡ [] → IsFresh a path code → IsFresh b path code
grown_fresh a b z path code g none h j less inner on seen = dite (ℕ_discrete j (length a.tree.reached))
    (λ is. let (i, there) = seen in some-ne-none code (sym there ∙ ap (λ (l : List ℕ). get_elem? l i) (ap (λ (n : ℕ). (visited b.tree.reached n).slots) is ∙ (ap (λ (x : Reached). x.slots) g.last ∙ none))))
    (λ other. let before : j < length a.tree.reached = (let size = g.size in omega arith) in fresh_if path code (visited b.tree.reached j) (visited a.tree.reached j) (g.shown j before) (h j before) inner on seen)

pub grown_high : (a b : Account) (z : Reached) (depth : ℕ) → Grown a b z → (z.leaf ≡ false → length z.path ≤ depth) → AreHigh a depth → AreHigh b depth
grown_high a b z depth g new h j less inner = dite (ℕ_discrete j (length a.tree.reached))
    (λ is. let e : visited b.tree.reached j ≡ z = ap (visited b.tree.reached) is ∙ g.last in high_if depth (visited b.tree.reached j) z (ap shown_of e) new inner)
    (λ other. let before : j < length a.tree.reached = (let size = g.size in omega arith) in high_if depth (visited b.tree.reached j) (visited a.tree.reached j) (g.shown j before) (h j before) inner)

-- the walk goes on to the new page
pub grown_at : (k : Shape) (a b : Account) (next : Stop) (z : Reached) → Grown a b z → 0 < b.pool.announced → IsPage k next.page → next.number ≡ length a.tree.reached → z.page ≡ next.page → z.slots ≡ [] → z.more ≡ Unread → z.zero ≡ false → IsAt k b next z.path z.rank z.leaf 0
grown_at k a b next z g pinned inside number page none unread not_zero =
    let e : here b next ≡ z = ap (visited b.tree.reached) number ∙ g.last in record {
      pinned = pinned;
      inside = inside;
      last = g.size ∙ ap (λ (n : ℕ). n + 1) (sym number);
      there = ap (λ (x : Reached). x.page) e ∙ page;
      on = ap (λ (x : Reached). x.path) e;
      at = ap (λ (x : Reached). x.rank) e;
      kind = ap (λ (x : Reached). x.leaf) e;
      size = ap (λ (x : Reached). length x.slots) e ∙ ap length none;
      unread = ap (λ (x : Reached). x.more) e ∙ unread;
      not_zero = ap (λ (x : Reached). x.zero) e ∙ not_zero;
    }

-- ---- all else stays

pub rest_more : (a : Account) (j n : ℕ) → rest_of (after_more a j n) ≡ rest_of a
rest_more a j zero = refl
rest_more a j (suc n) = refl

pub rest_link : (a : Account) (j i c n : ℕ) (leaf : Bool) → rest_of (after_link a j i c n leaf) ≡ rest_of a
rest_link a j i c zero leaf = refl
rest_link a j i c (suc n) leaf = refl

pub lists_more : (a : Account) (j n : ℕ) → lists_of (after_more a j n) ≡ lists_of a
lists_more a j zero = refl
lists_more a j (suc n) = refl

pub lists_link : (a : Account) (j i c n : ℕ) (leaf : Bool) → lists_of (after_link a j i c n leaf) ≡ lists_of a
lists_link a j i c zero leaf = refl
lists_link a j i c (suc n) leaf = refl

pub goes_same : (n : ℕ) (c : Seated) → Goes n c c
goes_same n c = record { table = refl; shape = refl; rest = refl; grows = grows_same c.account; longer = omega arith; stays = λ j less. refl }

pub goes_on : (n m : ℕ) (c d e : Seated) → n ≤ m → Goes n c d → Goes m d e → Goes n c e
goes_on n m c d e most first then = record {
  table = then.table ∙ first.table;
  shape = then.shape ∙ first.shape;
  rest = then.rest ∙ first.rest;
  grows = grows_on c.account d.account e.account first.grows then.grows;
  longer = (let a = first.longer in let b = then.longer in omega arith);
  stays = λ j less. then.stays j (omega arith) ∙ first.stays j less;
}

pub shown_goes : (n : ℕ) (c d : Seated) (b : Account) → d ≡ with_account c b → rest_of b ≡ rest_of c.account → lists_of b ≡ lists_of c.account → SameShown c.account b → Goes n c d
shown_goes n c d b e rest lists s = subst (Goes n c) (sym e) record { table = refl; shape = refl; rest = rest; grows = grows_equal c.account b lists; longer = (let size = s.size in omega arith); stays = λ j less. s.shown j }

pub grown_goes : (n : ℕ) (c d : Seated) (b : Account) (z : Reached) → n ≤ length c.account.tree.reached → d ≡ with_account c b → rest_of b ≡ rest_of c.account → lists_of b ≡ lists_of c.account → Grown c.account b z → Goes n c d
grown_goes n c d b z most e rest lists g = subst (Goes n c) (sym e) record { table = refl; shape = refl; rest = rest; grows = grows_equal c.account b lists; longer = (let size = g.size in omega arith); stays = λ j less. g.shown j (omega arith) }
