-- A walk goes along a chain of leaves of the last depth: it passes those that have a next page, and comes to the last one.
use Rattle.std.proofs.Common.{◌≡◌, ◌≢◌, ℕ, zero, suc, ◌+◌, ◌<◌, ◌≤◌, true, false, List, [], ◌∷◌, ◌++◌, length, take, drop, refl, sym, ap, ◌∙◌, subst, arith, take-append-drop, length-append}
use Rattle.std.specs.Prelude.{Option, Some, None, Result, Ok, Err, MatchResult}
use mathlib.Core.Logic.{dite}
use native.Mathlib.Decide.{ℕ_discrete}
use Rattle.htss_defs.specs.declared.shape.Shape.{Shape}
use Rattle.board_core.specs.declared.account.Account.{Account}
use Rattle.board_core.specs.declared.entry.Entry.TheVariants.{ChainFull as ChainWasFull}
use Rattle.board_core.specs.declared.pool.PoolAccount.{PoolAccount}
use Rattle.board_core.specs.declared.tree.Reached.{Reached}
use Rattle.board_core.specs.Each.{In}
use Rattle.board_core.specs.ClassTree.{Place as TreePlace, page_room}
use Rattle.board_core.specs.ChainRule.{HasWalked}
use Rattle.board_core.specs.KnownPages.{place_of, IsMate}
use Rattle.board_core.specs.Loaded.{IsPage}
use Rattle.board_core.specs.After.{visited, after_answer, next_of}
use Rattle.board_core.specs.Passing.{MayPassLeaf, after_passed, recalled, after_recalled}
use Rattle.board_core.specs.Steps.{MayLink}
use Rattle.board_core.proofs.PageLoads.{at_visit}
use Rattle.board_core.proofs.PassedFull.{full_read, full_behind}
use Rattle.board_core.specs.declared.account.Who.{Who}
use Rattle.board_core.specs.declared.account.Who.TheVariants.{Loader}
use Rattle.board.specs.Seated.{Place, Seated, IsOf, IsLoader, number_in, with_account}
use Rattle.class_tree.specs.declared.walks.Stop.{Stop}
use Rattle.class_tree.specs.declared.walks.Ranked.{Ranked}
use Rattle.class_tree.specs.declared.walks.Target.{Target}
use Rattle.class_tree.specs.declared.insert.InsertError.{InsertError}
use Rattle.class_tree.specs.declared.insert.InsertError.TheVariants.{ChainFull}
use Rattle.class_tree.specs.Inserting.{IsStocked, WasFull, HasFullChain}
use Rattle.class_tree.specs.Linking.{IsNextLeaf, IsPastLeaf, GoesBehind, GoesPast, IsFirst, KeepsPages, ComesTo, KeepsMind, FindsFull, FillsOr}
use Rattle.class_tree.specs.Refusing.{WasRefused, WasFullChain, Stops}
use Rattle.class_tree.specs.Walking.{here, Shown, Rest, rest_of, IsTarget, shown_of, IsAt, IsAtLeaf, Goes, Reads, Places}
use Rattle.class_tree.proofs.Pages.{within, target_kept, visited_before, visited_last}
use Rattle.class_tree.proofs.Grown.{Grown, grown_at, grown_goes, equal_shown, shown_goes, goes_on, goes_same}
use Rattle.class_tree.proofs.Loadings.{lists_of}
use Rattle.class_tree.proofs.Chain.{depth_is}
use Rattle.class_tree.proofs.Searching.{goes_less, reads_goes, refused_on, chain_refused, chain_stops, stops_on, has_walked}
use Rattle.class_tree.proofs.Entering.{goes_places}
use Rattle.class_tree.proofs.Leaves.{deep_enough}
use Rattle.class_tree.proofs.Counting.{reads_counts, may_on}

-- ---- one load

pub may_pass : (k : Shape) (a : Account) (s : Stop) (rank known : ℕ) (t : Target) → IsAtLeaf k a s 5 rank known t → MayPassLeaf k a s.number
may_pass k a s rank known t h = record {
  visit = record { reached = within k a s (take 5 t.codes) rank known true h.at; inside = subst (IsPage k) (sym h.at.there) h.at.inside };
  pinned = h.at.pinned;
  leaf = h.at.kind;
  deep = deep_enough (length (here a s).path) (ap length h.at.on ∙ depth_is k a t 5 h.deep h.target);
}

-- no next page was there, and nothing is known that was not
pub none_passed : (c d : Seated) (j n : ℕ) → d ≡ with_account c (after_passed c.account j n) → n ≡ 0 → d ≡ c
none_passed c d j n e none = e ∙ ap (λ (z : ℕ). with_account c (after_passed c.account j z)) none

rest_passed : (a : Account) (j n : ℕ) → rest_of (after_passed a j n) ≡ rest_of a
rest_passed a j zero = refl
rest_passed a j (suc n) = refl

lists_passed : (a : Account) (j n : ℕ) → lists_of (after_passed a j n) ≡ lists_of a
lists_passed a j zero = refl
lists_passed a j (suc n) = refl

counts_passed : (a : Account) (j n : ℕ) → (after_passed a j n).counts ≡ a.counts
counts_passed a j zero = refl
counts_passed a j (suc n) = refl

pool_passed : (a : Account) (j n : ℕ) → (after_passed a j n).pool ≡ a.pool
pool_passed a j zero = refl
pool_passed a j (suc n) = refl

grown_passed : (a : Account) (s : Stop) (n : ℕ) → n ≢ 0 → Grown a (after_passed a s.number n) (next_of (here a s) n)
grown_passed a s zero some_n = absurd (some_n refl)
grown_passed a s (suc n) some_n = record {
  size = length-append a.tree.reached (next_of (here a s) (suc n) ∷ []);
  shown = λ j less. ap shown_of (visited_before a.tree.reached (next_of (here a s) (suc n)) j less);
  last = visited_last a.tree.reached (next_of (here a s) (suc n));
}

-- the walk stands at the next leaf
pub passed : (k : Shape) (c d : Seated) (s next : Stop) (rank n : ℕ) (t : Target) → IsAtLeaf k c.account s 5 rank 0 t → d ≡ with_account c (after_passed c.account s.number n) → n ≢ 0 → IsPage k n → next ≡ record { page = n; number = s.number + 1 } → IsPastLeaf k c d s next 5 rank t
passed k c d s next rank n t h e some_n inside is =
    let a : Account = c.account in
    let b : Account = after_passed a s.number n in
    let z : Reached = next_of (here a s) n in
    let g = grown_passed a s n some_n in
    let same : d.account ≡ b = ap (λ (x : Seated). x.account) e in
    let number : next.number ≡ s.number + 1 = ap (λ (x : Stop). x.number) is in
    let pinned : 0 < b.pool.announced = subst (λ (p : PoolAccount). 0 < p.announced) (sym (pool_passed a s.number n)) h.at.pinned in
    let at : IsAt k b next z.path z.rank z.leaf 0 = grown_at k a b next z g pinned (subst (λ (x : Stop). IsPage k x.page) (sym is) inside) (number ∙ sym h.at.last) (sym (ap (λ (x : Stop). x.page) is)) refl refl refl in
    let stands : IsAt k b next (take 5 t.codes) (rank + 1) true 0 = subst (λ (x : TreePlace). IsAt k b next x.path x.rank x.leaf 0) (λ i. record { path = h.at.on i; rank = h.at.at i + 1; leaf = h.at.kind i; from = z.from; way = z.way }) at in record {
      goes = grown_goes s.number c d b z (let last = h.at.last in omega arith) e (rest_passed a s.number n) (lists_passed a s.number n) g;
      place = ap (λ (x : Account). place_of (here x s)) same ∙ ap (λ (x : Shown). x.place) (g.shown s.number (within k a s (take 5 t.codes) rank 0 true h.at));
      page = ap (λ (x : Account). (here x s).page) same ∙ ap (λ (x : Shown). x.page) (g.shown s.number (within k a s (take 5 t.codes) rank 0 true h.at));
      number = number;
      leaf = record {
        at = subst (λ (x : Account). IsAt k x next (take 5 t.codes) (rank + 1) true 0) (sym same) stands;
        deep = h.deep;
        target = target_kept k a d.account t (ap rest_of same ∙ rest_passed a s.number n) h.target;
      };
      linked = ap (λ (x : Account). x.counts) same ∙ counts_passed a s.number n;
    }

-- ---- the last leaf was read

-- the walk goes on behind it all the same
past_next : (k : Shape) (c d e : Seated) (s next : Stop) (depth rank : ℕ) (t : Target) → Reads c d s.number → IsNextLeaf k d e s next depth rank t → IsPastLeaf k c e s next depth rank t
past_next k c d e s next depth rank t reads n = record {
  goes = goes_on s.number (s.number + 1) c d e (omega arith) (reads_goes s.number c d reads) n.goes;
  place = ap (λ (x : Shown). x.place) (n.goes.stays s.number (omega arith)) ∙ reads.place;
  page = ap (λ (x : Shown). x.page) (n.goes.stays s.number (omega arith)) ∙ reads.page;
  number = n.number;
  leaf = n.leaf;
  linked = n.linked ∙ reads_counts s.number c d reads;
}

past_behind : (k : Shape) (c d e : Seated) (s : Stop) (depth rank : ℕ) (t : Target) (o : Option Stop) → Reads c d s.number → GoesBehind k d e s depth rank t o → GoesPast k c e s depth rank t o
past_behind k c d e s depth rank t None reads g = goes_places s.number c d e t.row (reads_goes s.number c d reads) g
past_behind k c d e s depth rank t (Some next) reads g = past_next k c d e s next depth rank t reads g

pub past : {E : Type 0} → (k : Shape) (b c d e : Seated) (s : Stop) (depth rank : ℕ) (t : Target) (r : Result (Option Stop) E) → c ≡ b → Reads c d s.number
    → MatchResult r (λ o. GoesBehind k d e s depth rank t o) (λ _. WasRefused k d e 1) → MatchResult r (λ o. GoesPast k b e s depth rank t o) (λ _. WasRefused k b e 1)
past k b c d e s depth rank t (Ok o) same reads g = past_behind k b d e s depth rank t o (subst (λ (x : Seated). Reads x d s.number) same reads) g
past k b c d e s depth rank t (Err x) same reads g = refused_on k s.number b d e 1 (reads_goes s.number b d (subst (λ (y : Seated). Reads y d s.number) same reads)) g

pub some_past : (k : Shape) (c d : Seated) (s : Stop) (depth rank : ℕ) (t : Target) (o : Option Stop) (next : Stop) → o ≡ Some next → GoesPast k c d s depth rank t o → IsPastLeaf k c d s next depth rank t
some_past k c d s depth rank t o next e g = subst (GoesPast k c d s depth rank t) e g

-- ---- the loop

-- the page of this rank in the chain of leaves was reached before
pub record WasPassed (a : Account) (n : ℕ) (path : List ℕ) (rank : ℕ) : Type 0 where
  pub number : ℕ
  pub before : number < n
  pub on : (visited a.tree.reached number).path ≡ path
  pub kind : (visited a.tree.reached number).leaf ≡ true
  pub at : (visited a.tree.reached number).rank ≡ rank

-- those from this rank on were passed
abbrev pub ArePassed : Account → ℕ → List ℕ → ℕ → ℕ → Type 0
ArePassed a n path start rank = (r : ℕ) → start ≤ r → r < rank → WasPassed a n path r

pub record IsAlongLeaves (k : Shape) (c d : Seated) (first : Stop) (from : Ranked) (s : Stop) (rank : ℕ) (t : Target) : Type 0 where
  pub leaf : IsAtLeaf k d.account s 5 rank 0 t
  pub goes : Goes 0 c d
  pub linked : d.account.counts ≡ c.account.counts
  pub passed : ArePassed d.account s.number (take 5 t.codes) from.rank rank
  pub number : s.number + from.rank ≡ from.stop.number + rank
  pub first_is : IsFirst k d.account first t
  pub before : first.number ≤ s.number

pub leaves_first : (k : Shape) (c : Seated) (first : Stop) (from : Ranked) (t : Target) → IsFirst k c.account first t → first.number ≤ from.stop.number → IsAtLeaf k c.account from.stop 5 from.rank 0 t → IsAlongLeaves k c c first from from.stop from.rank t
leaves_first k c first from t f before h = record { leaf = h; goes = goes_same 0 c; linked = refl; passed = λ r low less. absurd (omega arith); number = omega arith; first_is = f; before = before }

pub leaves_may : (k : Shape) (c d : Seated) (first : Stop) (from : Ranked) (s : Stop) (rank : ℕ) (t : Target) → IsAlongLeaves k c d first from s rank t → MayLink c.account 1 → MayLink d.account 1
leaves_may k c d first from s rank t h may = may_on 1 c.account d.account h.goes.rest h.linked may

-- a page that stands where it stood
same_passed : (a b : Account) (n m j : ℕ) (path : List ℕ) (rank : ℕ) → place_of (visited b.tree.reached j) ≡ place_of (visited a.tree.reached j) → j < m → (visited a.tree.reached j).path ≡ path → (visited a.tree.reached j).leaf ≡ true → (visited a.tree.reached j).rank ≡ rank → WasPassed b m path rank
same_passed a b n m j path rank e less on kind at = record {
  number = j;
  before = less;
  on = ap (λ (p : TreePlace). p.path) e ∙ on;
  kind = ap (λ (p : TreePlace). p.leaf) e ∙ kind;
  at = ap (λ (p : TreePlace). p.rank) e ∙ at;
}

-- one page more was passed
passed_on : (k : Shape) (a b : Account) (s : Stop) (path : List ℕ) (start rank known : ℕ) → ArePassed a s.number path start rank → IsAt k a s path rank true known → ((j : ℕ) → j < s.number + 1 → place_of (visited b.tree.reached j) ≡ place_of (visited a.tree.reached j)) → ArePassed b (s.number + 1) path start (rank + 1)
passed_on k a b s path start rank known before at stays r low less = dite (ℕ_discrete r rank)
    (λ is. subst (λ (z : ℕ). WasPassed b (s.number + 1) path z) (sym is) (same_passed a b s.number (s.number + 1) s.number path rank (stays s.number (omega arith)) (omega arith) at.on at.kind at.at))
    (λ other. let w = before r low (omega arith) in let in_reach = w.before in same_passed a b s.number (s.number + 1) w.number path r (stays w.number (omega arith)) (omega arith) w.on w.kind w.at)

-- the first leaf stands where it stood
first_kept : (k : Shape) (a b : Account) (first : Stop) (t : Target) → first.number < length b.tree.reached → (here b first).page ≡ (here a first).page → place_of (here b first) ≡ place_of (here a first) → IsFirst k a first t → IsFirst k b first t
first_kept k a b first t reached page place h = record {
  inside = h.inside;
  reached = reached;
  there = page ∙ h.there;
  on = ap (λ (p : TreePlace). p.path) place ∙ h.on;
  at = ap (λ (p : TreePlace). p.rank) place ∙ h.at;
  kind = ap (λ (p : TreePlace). p.leaf) place ∙ h.kind;
}

first_past : (k : Shape) (d e : Seated) (first s next : Stop) (rank : ℕ) (t : Target) → IsFirst k d.account first t → first.number ≤ s.number → IsPastLeaf k d e s next 5 rank t → IsFirst k e.account first t
first_past k d e first s next rank t h before n =
    let reached : first.number < length e.account.tree.reached = (let old = h.reached in let longer = n.goes.longer in omega arith) in dite (ℕ_discrete first.number s.number)
    (λ is. first_kept k d.account e.account first t reached
    (ap (λ (z : ℕ). (visited e.account.tree.reached z).page) is ∙ (n.page ∙ ap (λ (z : ℕ). (visited d.account.tree.reached z).page) (sym is)))
    (ap (λ (z : ℕ). place_of (visited e.account.tree.reached z)) is ∙ (n.place ∙ ap (λ (z : ℕ). place_of (visited d.account.tree.reached z)) (sym is))) h)
    (λ other. let shown = n.goes.stays first.number (omega arith) in first_kept k d.account e.account first t reached (ap (λ (x : Shown). x.page) shown) (ap (λ (x : Shown). x.place) shown) h)

first_read : (k : Shape) (d e : Seated) (first s : Stop) (t : Target) → IsFirst k d.account first t → Reads d e s.number → IsFirst k e.account first t
first_read k d e first s t h n =
    let reached : first.number < length e.account.tree.reached = (let old = h.reached in let size = n.size in omega arith) in dite (ℕ_discrete first.number s.number)
    (λ is. first_kept k d.account e.account first t reached
    (ap (λ (z : ℕ). (visited e.account.tree.reached z).page) is ∙ (n.page ∙ ap (λ (z : ℕ). (visited d.account.tree.reached z).page) (sym is)))
    (ap (λ (z : ℕ). place_of (visited e.account.tree.reached z)) is ∙ (n.place ∙ ap (λ (z : ℕ). place_of (visited d.account.tree.reached z)) (sym is))) h)
    (λ other. let same = n.others first.number other in first_kept k d.account e.account first t reached (ap (λ (x : Reached). x.page) same) (ap place_of same) h)

pub leaves_next : (k : Shape) (c d e : Seated) (first : Stop) (from : Ranked) (s next : Stop) (rank : ℕ) (t : Target) → IsAlongLeaves k c d first from s rank t → IsPastLeaf k d e s next 5 rank t → IsAlongLeaves k c e first from next (rank + 1) t
leaves_next k c d e first from s next rank t h n = record {
  leaf = n.leaf;
  linked = n.linked ∙ h.linked;
  goes = goes_on 0 0 c d e (omega arith) h.goes (goes_less 0 s.number d e (omega arith) n.goes);
  passed = subst (λ (m : ℕ). ArePassed e.account m (take 5 t.codes) from.rank (rank + 1)) (sym n.number)
      (passed_on k d.account e.account s (take 5 t.codes) from.rank rank 0 h.passed h.leaf.at (λ j less. dite (ℕ_discrete j s.number)
      (λ is. ap (λ (z : ℕ). place_of (visited e.account.tree.reached z)) is ∙ (n.place ∙ ap (λ (z : ℕ). place_of (visited d.account.tree.reached z)) (sym is)))
      (λ other. ap (λ (x : Shown). x.place) (n.goes.stays j (omega arith)))));
  number = (let now = n.number in let before = h.number in omega arith);
  first_is = first_past k d e first s next rank t h.first_is h.before n;
  before = (let now = n.number in let old = h.before in omega arith);
}

-- ---- what is kept in mind

pub leaves_mind : (k : Shape) (c e f : Seated) (first : Stop) (from : Ranked) (s : Stop) (rank : ℕ) (t : Target) → IsAlongLeaves k c e first from s rank t → KeepsMind e f → IsAlongLeaves k c f first from s rank t
leaves_mind k c e f first from s rank t h m =
    let b : Account = record e.account { tree = record e.account.tree { lasting = f.account.tree.lasting } } in
    let at = h.leaf.at in
    let o = h.first_is in
    subst (λ (x : Seated). IsAlongLeaves k c x first from s rank t) (sym m) record {
      leaf = record {
        at = record { pinned = at.pinned; inside = at.inside; last = at.last; there = at.there; on = at.on; at = at.at; kind = at.kind; size = at.size; unread = at.unread; not_zero = at.not_zero };
        deep = h.leaf.deep;
        target = target_kept k e.account b t refl h.leaf.target;
      };
      goes = goes_on 0 0 c e (with_account e b) (omega arith) h.goes (shown_goes 0 e (with_account e b) b refl refl refl (equal_shown e.account b refl));
      linked = h.linked;
      passed = λ r low less. let w = h.passed r low less in record { number = w.number; before = w.before; on = w.on; kind = w.kind; at = w.at };
      number = h.number;
      first_is = record { inside = o.inside; reached = o.reached; there = o.there; on = o.on; at = o.at; kind = o.kind };
      before = h.before;
    }

pub mind_of : (b : Place) (c d : Seated) → KeepsMind c d → IsOf b c → IsOf b d
mind_of b c d m of = subst (IsOf b) (sym m) record { table = of.table; shape = of.shape }

pub mind_stocked : (c d : Seated) → KeepsMind c d → IsStocked c → IsStocked d
mind_stocked c d m s = subst IsStocked (sym m) record { own = s.own; few = s.few; size = s.size; clean = s.clean }

pub mind_loader : (c d : Seated) → KeepsMind c d → IsLoader c → IsLoader d
mind_loader c d m l = subst IsLoader (sym m) l

-- the first leaf may be passed
pub may_first : (k : Shape) (a : Account) (s : Stop) (t : Target) → IsFirst k a s t → IsTarget k a t → 0 < a.pool.announced → MayPassLeaf k a s.number
may_first k a s t h target pinned = record {
  visit = record { reached = h.reached; inside = subst (IsPage k) (sym h.there) h.inside };
  pinned = pinned;
  leaf = h.kind;
  deep = deep_enough (length (here a s).path) (ap length h.on ∙ depth_is k a t 5 (omega arith) target);
}

-- ---- the full chain

pub leaves_walked : (k : Shape) (a : Account) (s : Stop) (depth rank : ℕ) (t : Target) → IsAtLeaf k a s depth rank 14 t → rank + 1 ≡ k.chain → 2 ≤ k.chain → HasWalked a k.chain
leaves_walked k a s depth rank t h end several = has_walked k a s (take depth t.codes) rank true h.at end several

-- from the first leaf to the last one, which was read
leaves_read : (k : Shape) (c d e : Seated) (first : Stop) (from : Ranked) (s : Stop) (rank : ℕ) (t : Target) → IsAlongLeaves k c d first from s rank t → Reads d e s.number → Goes 0 c e
leaves_read k c d e first from s rank t h reads = goes_on 0 0 c d e (omega arith) h.goes (goes_less 0 s.number d e (omega arith) (reads_goes s.number d e reads))

-- each page but the last is full, since the one behind it was reached; the last was read to its end
passed_full : (k : Shape) (a : Account) (s : Stop) (path : List ℕ) (rank : ℕ) → ArePassed a (s.number + 1) path 0 (rank + 1) → IsAt k a s path rank true 14 → (r : ℕ) → r < rank + 1 → WasFull k a path true r
passed_full k a s path rank all at r less =
    let w = all r (omega arith) less in
    let x : Reached = visited a.tree.reached w.number in
    let here_x : In x a.tree.reached = (w.number, at_visit a.tree.reached w.number (let in_reach = w.before in let last = at.last in omega arith)) in dite (ℕ_discrete r rank)
    (λ is. let y : Reached = here a s in
    let here_y : In y a.tree.reached = (s.number, at_visit a.tree.reached s.number (let last = at.last in omega arith)) in record {
      page = y;
      mate = record { there = here_y; path = at.on; kind = at.kind };
      rank_is = at.at ∙ sym is;
      full = λ p vs b. full_read k p vs a b y here_y (let size = at.size in let room : page_room y.leaf ≡ 14 = ap page_room at.kind in omega arith);
      read = λ inner. absurd (let clash : true ≡ false = inner in cc);
    })
    (λ other. let v = all (r + 1) (omega arith) (omega arith) in
    let y : Reached = visited a.tree.reached v.number in
    let here_y : In y a.tree.reached = (v.number, at_visit a.tree.reached v.number (let in_reach = v.before in let last = at.last in omega arith)) in record {
      page = x;
      mate = record { there = here_x; path = w.on; kind = w.kind };
      rank_is = w.at;
      full = λ p vs b. full_behind k p vs a b x y here_x here_y w.kind (v.on ∙ sym w.on) (v.kind ∙ sym w.kind) (v.at ∙ ap (λ (z : ℕ). z + 1) (sym w.at));
      read = λ inner. absurd (let clash : true ≡ false = inner in cc);
    })

leaf_chain : (k : Shape) (c d e : Seated) (first : Stop) (from : Ranked) (s : Stop) (rank : ℕ) (t : Target) → IsAlongLeaves k c d first from s rank t → Reads d e s.number → IsAtLeaf k e.account s 5 rank 14 t → rank + 1 ≡ k.chain → from.rank ≡ 0 → HasFullChain k e.account t.row
leaf_chain k c d e first from s rank t h reads full end zero_rank =
    let path : List ℕ = take 5 t.codes in
    let old : ArePassed d.account s.number path 0 rank = λ r low less. h.passed r (omega arith) less in
    let all : ArePassed e.account (s.number + 1) path 0 (rank + 1) = passed_on k d.account e.account s path 0 rank 0 old h.leaf.at (λ j less. dite (ℕ_discrete j s.number)
    (λ is. ap (λ (z : ℕ). place_of (visited e.account.tree.reached z)) is ∙ (reads.place ∙ ap (λ (z : ℕ). place_of (visited d.account.tree.reached z)) (sym is)))
    (λ other. ap place_of (reads.others j other))) in record {
      path = path;
      leaf = true;
      below = (drop 5 t.codes, sym full.target.codes_are ∙ sym (take-append-drop 5 t.codes));
      full = λ r less. passed_full k e.account s path rank all full.at r (omega arith);
      none = λ clash. absurd (let e : true ≡ false = clash in cc);
    }

pub finds_full : (k : Shape) (c d e : Seated) (first : Stop) (from : Ranked) (s : Stop) (rank : ℕ) (t : Target) → IsAlongLeaves k c d first from s rank t → Reads d e s.number → IsAtLeaf k e.account s 5 rank 14 t → rank + 1 ≡ k.chain → 2 ≤ k.chain → k.chain ≤ 65536 → FindsFull k c e first from s t
finds_full k c d e first from s rank t h reads full end several most = record {
  goes = leaves_read k c d e first from s rank t h reads;
  counts = reads_counts s.number d e reads ∙ h.linked;
  first_is = first_read k d e first s t h.first_is reads;
  walked = leaves_walked k e.account s 5 rank t full end several;
  target = full.target;
  pinned = full.at.pinned;
  size = full.at.last;
  number = (let number = h.number in omega arith);
  full = leaf_chain k c d e first from s rank t h reads full end;
}

-- ---- a leaf that is kept in mind

first_of_leaf : (k : Shape) (a : Account) (s : Stop) (t : Target) → IsAtLeaf k a s 5 0 0 t → IsFirst k a s t
first_of_leaf k a s t h = record { inside = h.at.inside; reached = within k a s (take 5 t.codes) 0 0 true h.at; there = h.at.there; on = h.at.on; at = h.at.at; kind = h.at.kind }

-- the walk stands at it
gone : (k : Shape) (c d : Seated) (first next : Stop) (rank : ℕ) (to : Reached) (t : Target) → IsFirst k c.account first t → IsTarget k c.account t → 0 < c.account.pool.announced → IsPage k next.page → next.number ≡ length c.account.tree.reached → to.page ≡ next.page → to.rank ≡ rank → d ≡ with_account c (after_recalled c.account first.number to)
    → Goes 0 c d × KeepsPages c d × IsFirst k d.account first t × IsAtLeaf k d.account next 5 rank 0 t
gone k c d first next rank to t f target pinned inside number page at e =
    let a : Account = c.account in
    let z : Reached = recalled (here a first) to in
    let b : Account = after_recalled a first.number to in
    let g : Grown a b z = record {
      size = length-append a.tree.reached (z ∷ []);
      shown = λ j less. ap shown_of (visited_before a.tree.reached z j less);
      last = visited_last a.tree.reached z;
    } in
    let stays : here b first ≡ here a first = visited_before a.tree.reached z first.number f.reached in
    let old : IsAt k b next z.path z.rank z.leaf 0 = grown_at k a b next z g pinned inside number page refl refl refl in
    subst (λ (x : Seated). Goes 0 c x × KeepsPages c x × IsFirst k x.account first t × IsAtLeaf k x.account next 5 rank 0 t) (sym e) (
      grown_goes 0 c (with_account c b) b z (omega arith) refl refl refl g,
      record { pool = refl; stock = refl; counts = refl },
      first_kept k a b first t (let size = g.size in let reached = f.reached in omega arith) (ap (λ (x : Reached). x.page) stays) (ap place_of stays) f,
      record {
        at = subst (λ (x : List ℕ × ℕ). IsAt k b next x.0 x.1 true 0) (λ i. (f.on i, at i)) old;
        deep = omega arith;
        target = target_kept k a b t refl target;
      },
    )

pub comes_none : (k : Shape) (c d : Seated) (first : Stop) (t : Target) → IsAtLeaf k c.account first 5 0 0 t → 2 ≤ k.chain → d ≡ c → ComesTo k c d first (record { stop = first; rank = 0 }) t
comes_none k c d first t h several e = subst (λ (x : Seated). ComesTo k c x first (record { stop = first; rank = 0 }) t) (sym e) record {
  goes = goes_same 0 c;
  pages = record { pool = refl; stock = refl; counts = refl };
  first_is = first_of_leaf k c.account first t h;
  leaf = h;
  number = omega arith;
  less = omega arith;
}

pub comes_some : (k : Shape) (c d : Seated) (first : Stop) (page rank : ℕ) (to : Reached) (t : Target) → IsAtLeaf k c.account first 5 0 0 t → to.page ≡ page → to.rank ≡ rank → IsPage k page → rank < k.chain → d ≡ with_account c (after_recalled c.account first.number to)
    → ComesTo k c d first (record { stop = record { page = page; number = first.number + 1 }; rank = rank }) t
comes_some k c d first page rank to t h same at inside less e =
    let g = gone k c d first (record { page = page; number = first.number + 1 }) rank to t (first_of_leaf k c.account first t h) h.target h.at.pinned inside (sym h.at.last) same at e in
    record { goes = g.0; pages = g.1; first_is = g.2; leaf = g.3; number = omega arith; less = less }

-- the first leaf was reached again
pub comes_again : (k : Shape) (c d : Seated) (first last : Stop) (t : Target) → IsFirst k c.account first t → IsTarget k c.account t → 0 < c.account.pool.announced → length c.account.tree.reached ≡ last.number + 1 → d ≡ with_account c (after_recalled c.account first.number (here c.account first))
    → Goes 0 c d × KeepsPages c d × IsFirst k d.account (record { page = first.page; number = last.number + 1 }) t × IsAtLeaf k d.account (record { page = first.page; number = last.number + 1 }) 5 0 0 t
comes_again k c d first last t f target pinned size e =
    let again : Stop = record { page = first.page; number = last.number + 1 } in
    let g = gone k c d first again 0 (here c.account first) t f target pinned f.inside (sym size) f.there f.at e in
    (g.0, g.1, first_of_leaf k d.account again t g.3, g.3)

pub pages_stocked : (c d : Seated) → KeepsPages c d → IsStocked c → IsStocked d
pages_stocked c d p s = subst (λ (x : PoolAccount × List ℕ). IsStocked (record d { account = record d.account { pool = x.0 }; stock = x.1 })) (λ i. (sym p.pool i, sym p.stock i)) record { own = s.own; few = s.few; size = s.size; clean = s.clean }

pub goes_loader : (n : ℕ) (c d : Seated) → Goes n c d → IsLoader c → IsLoader d
goes_loader n c d g loader = subst (λ (w : Who). w ≡ Loader (number_in w)) (sym (ap (λ (x : Rest). x.who) g.rest)) loader

-- ---- what is answered

pub some_fills : (k : Shape) (c d : Seated) (first : Stop) (from : Ranked) (t : Target) (o : Option Stop) (last : Stop) → o ≡ Some last → FillsOr k c d first from t o → FindsFull k c d first from last t
some_fills k c d first from t o last e g = subst (FillsOr k c d first from t) e g

-- the chain is full from its first leaf on
pub fills_stop : (k : Shape) (c d e f : Seated) (first : Stop) (from : Ranked) (last : Stop) (t : Target) (x : InsertError) → Goes 0 c d → FindsFull k d e first from last t → from.rank ≡ 0 → f ≡ with_account e (after_answer e.account (ChainWasFull k.chain ∷ [])) → x ≡ ChainFull k.chain → Stops k c f t.row x
fills_stop k c d e f first from last t x g finds zero_rank after is = chain_stops k c f t.row x is (chain_refused k 0 c e f t.row (goes_on 0 0 c d e (omega arith) g finds.goes) (finds.full zero_rank) after)

pub fills_on : (k : Shape) (c d e f : Seated) (first : Stop) (from : Ranked) (last : Stop) (t : Target) (r : Result (Unit {0}) InsertError) → Goes 0 c d → FindsFull k d e first from last t → MatchResult r (λ _. Places e f t.row) (λ x. Stops k e f t.row x) → MatchResult r (λ _. Places c f t.row) (λ x. Stops k c f t.row x)
fills_on k c d e f first from last t (Ok u) g finds p = goes_places 0 c e f t.row (goes_on 0 0 c d e (omega arith) g finds.goes) p
fills_on k c d e f first from last t (Err x) g finds s = stops_on k 0 c e f t.row x (goes_on 0 0 c d e (omega arith) g finds.goes) s
