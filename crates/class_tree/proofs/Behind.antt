-- A link is followed: to the page that hangs there, or to a new leaf with the row.
use Rattle.std.proofs.Common.{◌≡◌, ◌≢◌, ℕ, zero, suc, ◌+◌, ◌*◌, ◌%◌, ◌<◌, Bool, true, false, List, [], ◌∷◌, ◌++◌, length, get_or, take, refl, sym, ap, ◌∙◌, subst, arith, get_or-set_same, ◌≤◌}
use Rattle.std.specs.Prelude.{Option, Some, Result, Ok, Err, MatchResult}
use mathlib.Core.Logic.{dite}
use native.Mathlib.Decide.{ℕ_discrete}
use lib.ListN.{get_elem?}
use Rattle.htss_defs.specs.declared.shape.Shape.{Shape}
use Rattle.board_core.specs.declared.account.Account.{Account}
use Rattle.board_core.specs.declared.pool.PoolAccount.{PoolAccount}
use Rattle.board_core.specs.declared.tree.Link.TheVariants.{Absent}
use Rattle.board_core.specs.declared.tree.Reached.{Reached}
use Rattle.board_core.specs.ClassTree.{Place as TreePlace, kind_of, header_of}
use Rattle.board_core.specs.KnownPages.{place_of}
use Rattle.board_core.specs.Loaded.{IsPage, IsToPlace, HasStored, one_word, leaf_place}
use Rattle.board_core.specs.After.{root, visited, with_link, after_link, led}
use Rattle.board_core.specs.Steps.{MayLoadLink, MayLinkLeaf, MayLink}
use Rattle.board.specs.Seated.{Seated, with_account, with_stock}
use Rattle.class_tree.specs.declared.walks.Stop.{Stop}
use Rattle.class_tree.specs.declared.walks.Slot.{Slot}
use Rattle.class_tree.specs.declared.walks.Target.{Target}
use Rattle.class_tree.specs.declared.link.Step.{Step}
use Rattle.class_tree.specs.declared.link.Step.TheVariants.{Placed, Down}
use Rattle.class_tree.specs.declared.insert.InsertError.{InsertError}
use Rattle.class_tree.specs.Inserting.{IsStocked}
use Rattle.class_tree.specs.Linking.{IsBehind, IsBehindFull, IsLed, ComesIn, GoesBelow, GoesOn, FollowsTo}
use Rattle.board_core.specs.declared.room.Row.{Row}
use Rattle.class_tree.specs.Refusing.{LacksPages, Stops}
use Rattle.class_tree.specs.Stocked.{IsStockedBut, IsReady}
use Rattle.class_tree.specs.Walking.{here, Rest, rest_of, AreHigh, IsAt, HasCode, IsDown, IsAtLeaf, Goes, Reads}
use Rattle.class_tree.proofs.Pages.{target_kept, within}
use Rattle.class_tree.proofs.Grown.{equal_shown, same_high, grown_link, none_link, grown_goes, shown_goes, rest_link, lists_link, goes_on, goes_same}
use Rattle.class_tree.proofs.Pairs.{pair_of, pair_kept, face_of, longer_path, codes_long, behind_link}
use Rattle.class_tree.proofs.Chain.{depth_is, stored_header, but_same}
use Rattle.class_tree.proofs.Searching.{stops_on, reads_goes, goes_less, lacks_on}
use Rattle.class_tree.proofs.Entering.{to_place, goes_places}
use Rattle.board_core.specs.declared.tree.Counts.{Counts}
use Rattle.class_tree.proofs.Counting.{counts_link, reads_counts, may_on}

-- ---- at a link

-- nothing hangs there
zero_at : (k : Shape) (a : Account) (s : Stop) (path : List ℕ) (rank known i c : ℕ) (leaf b : Bool) → IsAt k a s path rank leaf known → IsAt k (after_link a s.number i c 0 b) s path rank leaf known
zero_at k a s path rank known i c leaf b h =
    let less = within k a s path rank known leaf h in
    let e : here (after_link a s.number i c 0 b) s ≡ with_link i Absent (here a s) = get_or-set_same a.tree.reached s.number (with_link i Absent (here a s)) root less in record {
      pinned = h.pinned;
      inside = h.inside;
      last = (none_link a s i c b less).size ∙ h.last;
      there = ap (λ (x : Reached). x.page) e ∙ h.there;
      on = ap (λ (x : Reached). x.path) e ∙ h.on;
      at = ap (λ (x : Reached). x.rank) e ∙ h.at;
      kind = ap (λ (x : Reached). x.leaf) e ∙ h.kind;
      size = ap (λ (x : Reached). length x.slots) e ∙ h.size;
      unread = ap (λ (x : Reached). x.more) e ∙ h.unread;
      not_zero = ap (λ (x : Reached). x.zero) e ∙ h.not_zero;
    }

pub same_at : (k : Shape) (a b : Account) (s : Stop) (path : List ℕ) (rank known : ℕ) (leaf : Bool) → b.tree.reached ≡ a.tree.reached → b.pool.announced ≡ a.pool.announced → IsAt k a s path rank leaf known → IsAt k b s path rank leaf known
same_at k a b s path rank known leaf e pin h =
    let f : here b s ≡ here a s = ap (λ (l : List Reached). visited l s.number) e in record {
      pinned = (let old = h.pinned in omega arith);
      inside = h.inside;
      last = ap length e ∙ h.last;
      there = ap (λ (x : Reached). x.page) f ∙ h.there;
      on = ap (λ (x : Reached). x.path) f ∙ h.on;
      at = ap (λ (x : Reached). x.rank) f ∙ h.at;
      kind = ap (λ (x : Reached). x.leaf) f ∙ h.kind;
      size = ap (λ (x : Reached). length x.slots) f ∙ h.size;
      unread = ap (λ (x : Reached). x.more) f ∙ h.unread;
      not_zero = ap (λ (x : Reached). x.zero) f ∙ h.not_zero;
    }

code_zero : (k : Shape) (a : Account) (x : Slot) (depth i c : ℕ) (b : Bool) (t : Target) → HasCode k a x depth t → HasCode k (after_link a x.stop.number i c 0 b) x depth t
code_zero k a x depth i c b t h =
    let less = within k a x.stop (take depth t.codes) h.rank h.known false h.at in
    let e : here (after_link a x.stop.number i c 0 b) x.stop ≡ with_link i Absent (here a x.stop) = get_or-set_same a.tree.reached x.stop.number (with_link i Absent (here a x.stop)) root less in record {
      rank = h.rank;
      known = h.known;
      at = zero_at k a x.stop (take depth t.codes) h.rank h.known i c false b h.at;
      deep = h.deep;
      target = target_kept k a (after_link a x.stop.number i c 0 b) t refl h.target;
      room = h.room;
      there = ap (λ (y : Reached). get_elem? y.slots x.index) e ∙ h.there;
      high = same_high a (after_link a x.stop.number i c 0 b) depth (none_link a x.stop i c b less) h.high;
    }

code_same : (k : Shape) (a b : Account) (x : Slot) (depth : ℕ) (t : Target) → rest_of b ≡ rest_of a → b.tree.reached ≡ a.tree.reached → HasCode k a x depth t → HasCode k b x depth t
code_same k a b x depth t rest e h = record {
  rank = h.rank;
  known = h.known;
  at = same_at k a b x.stop (take depth t.codes) h.rank h.known false e (ap (λ (r : Rest). r.announced) rest) h.at;
  deep = h.deep;
  target = target_kept k a b t rest h.target;
  room = h.room;
  there = ap (λ (l : List Reached). get_elem? (visited l x.stop.number).slots x.index) e ∙ h.there;
  high = same_high a b depth (equal_shown a b e) h.high;
}

pub may_load_link : (k : Shape) (a : Account) (x : Slot) (depth : ℕ) (t : Target) → HasCode k a x depth t → MayLoadLink k a x.stop.number x.index (get_or t.codes depth 0)
may_load_link k a x depth t h = record {
  visit = record { reached = within k a x.stop (take depth t.codes) h.rank h.known false h.at; inside = subst (IsPage k) (sym h.at.there) h.at.inside };
  pinned = h.at.pinned;
  inner = h.at.kind;
  code = h.there;
  not_zero = h.at.not_zero;
  unread = h.at.unread;
}

-- ---- behind a link

is_behind : (k : Shape) (a b : Account) (x : Slot) (next : Stop) (depth n : ℕ) (leaf : Bool) (t : Target) → HasCode k a x depth t → b ≡ after_link a x.stop.number x.index (get_or t.codes depth 0) n leaf → n ≢ 0 → IsPage k n → next ≡ record { page = n; number = x.stop.number + 1 } → IsBehind k b x next depth t
is_behind k a b x next depth n leaf t h e some_n inside is =
    let number : next.number ≡ x.stop.number + 1 = ap (λ (y : Stop). y.number) is in
    let r = behind_link k a b x next depth n leaf t (pair_of k a x depth t h) h.deep h.target h.high (number ∙ sym h.at.last) e some_n inside (ap (λ (y : Stop). y.page) is) in record {
      leaf = leaf;
      at = r.at;
      deep = h.deep;
      target = r.target;
      fresh = λ _. r.fresh;
      high = λ _. r.high;
      pair = r.pair;
      above = r.above;
      other = λ same. omega arith;
    }

pub led_read : (k : Shape) (c d : Seated) (x : Slot) (next : Stop) (depth n : ℕ) (t : Target) → HasCode k c.account x depth t → (leaf : Bool) × (d ≡ with_account c (after_link c.account x.stop.number x.index (get_or t.codes depth 0) n leaf)) → n ≢ 0 → IsPage k n → next ≡ record { page = n; number = x.stop.number + 1 } → IsLed k c d x next depth t
led_read k c d x next depth n t h (leaf, e) some_n inside is =
    let a : Account = c.account in
    let code : ℕ = get_or t.codes depth 0 in
    let less = within k a x.stop (take depth t.codes) h.rank h.known false h.at in record {
      goes = grown_goes 0 c d (after_link a x.stop.number x.index code n leaf) (led (here a x.stop) x.index code n leaf) (omega arith) e (rest_link a x.stop.number x.index code n leaf) (lists_link a x.stop.number x.index code n leaf) (grown_link a x.stop x.index code n leaf less some_n);
      number = ap (λ (x : Stop). x.number) is;
      behind = is_behind k a d.account x next depth n leaf t h (ap (λ (y : Seated). y.account) e) some_n inside is;
      linked = ap (λ (y : Seated). y.account.counts) e ∙ counts_link a x.stop.number x.index code n leaf;
    }

-- nothing hung there, and a new leaf is ready
pub record IsAtLink (k : Shape) (c e : Seated) (x : Slot) (depth : ℕ) (t : Target) : Type 0 where
  pub goes : Goes 0 c e
  pub code : HasCode k e.account x depth t
  pub linked : e.account.counts ≡ c.account.counts

pub at_link : (k : Shape) (c d e : Seated) (x : Slot) (depth word page header first : ℕ) (t : Target) → HasCode k c.account x depth t → (leaf : Bool) × (d ≡ with_account c (after_link c.account x.stop.number x.index (get_or t.codes depth 0) word leaf)) → word ≡ 0 → IsReady k d e page header first → IsAtLink k c e x depth t
at_link k c d e x depth word page header first t h (leaf, load) none ready =
    let a : Account = c.account in
    let code : ℕ = get_or t.codes depth 0 in
    let less = within k a x.stop (take depth t.codes) h.rank h.known false h.at in
    let zero_load : d ≡ with_account c (after_link a x.stop.number x.index code 0 leaf) = load ∙ ap (λ (n : ℕ). with_account c (after_link a x.stop.number x.index code n leaf)) none in record {
      goes = goes_on 0 (length d.account.tree.reached) c d e (omega arith) (shown_goes 0 c d (after_link a x.stop.number x.index code 0 leaf) zero_load refl refl (none_link a x.stop x.index code leaf less)) ready.goes;
      code = code_same k d.account e.account x depth t ready.goes.rest ready.reached (subst (λ (y : Seated). HasCode k y.account x depth t) (sym zero_load) (code_zero k a x depth x.index code leaf t h));
      linked = ready.linked ∙ ap (λ (y : Seated). y.account.counts) zero_load;
    }

pub may_link : (k : Shape) (c d e : Seated) (x : Slot) (depth word page header : ℕ) (t : Target) → HasCode k c.account x depth t → (leaf : Bool) × (d ≡ with_account c (after_link c.account x.stop.number x.index (get_or t.codes depth 0) word leaf)) → word ≡ 0
    → header ≡ kind_of true + 4 * (depth + 1) + 32 * 0 → IsReady k d e page header t.entry → MayLink c.account 1 → MayLinkLeaf k e.account x.stop.number x.index (get_or t.codes depth 0) page t.row
may_link k c d e x depth word page header t h load none is ready may =
    let end = at_link k c d e x depth word page header t.entry t h load none ready in
    let w = end.code in
    let code : ℕ = get_or t.codes depth 0 in
    let size = codes_long k e.account t w.target in
    let path : (here e.account x.stop).path ++ code ∷ [] ≡ take (depth + 1) t.codes = (λ i. w.at.on i ++ code ∷ []) ∙ longer_path t.codes depth (let deep = w.deep in omega arith) in
    let long : length (take (depth + 1) t.codes) ≡ depth + 1 = depth_is k e.account t (depth + 1) (let deep = w.deep in omega arith) w.target in
    let header_is : header ≡ header_of (leaf_place (here e.account x.stop) x.index code) = is ∙ (λ i. kind_of true + 4 * sym (ap length path ∙ long) i + 32 * 0) in record {
      load = may_load_link k e.account x depth t w;
      new = subst (λ (n : ℕ). HasStored e.account page (one_word (header_of (leaf_place (here e.account x.stop) x.index code)) n)) (sym w.target.entry) (stored_header e.account page header (header_of (leaf_place (here e.account x.stop) x.index code)) t.entry header_is ready.stored);
      row = subst (λ (p : List ℕ). IsToPlace k e.account p t.row) (sym path) (to_place k e.account t (depth + 1) w.target);
      few = may_on 1 c.account e.account end.goes.rest end.linked may;
    }

pub link_pool : (a : Account) (j i c n : ℕ) (leaf : Bool) → (after_link a j i c n leaf).pool ≡ a.pool
link_pool a j i c zero leaf = refl
link_pool a j i c (suc n) leaf = refl

pub link_stocked : (c d : Seated) (j i code found : ℕ) → IsStocked c → (leaf : Bool) × (d ≡ with_account c (after_link c.account j i code found leaf)) → IsStocked d
link_stocked c d j i code found s (leaf, link) = subst IsStocked (sym link) (subst (λ (p : PoolAccount). IsStocked (with_account c (record (after_link c.account j i code found leaf) { pool = p }))) (sym (link_pool c.account j i code found leaf)) record { own = s.own; few = s.few; size = s.size; clean = s.clean })

pub link_but : (k : Shape) (d e f : Seated) (j i c page header first found : ℕ) → IsReady k d e page header first → (leaf : Bool) × (f ≡ with_account e (after_link e.account j i c found leaf)) → IsStockedBut f page
link_but k d e f j i c page header first found ready (leaf, link) = but_same e f page ready.but (ap (λ (x : Seated). x.stock) link) (ap (λ (x : Seated). x.account.pool) link ∙ link_pool e.account j i c found leaf)

pub link_lost : (k : Shape) (c d e f g : Seated) (x : Slot) (next : Stop) (depth word found page header : ℕ) (t : Target) → HasCode k c.account x depth t → (leaf : Bool) × (d ≡ with_account c (after_link c.account x.stop.number x.index (get_or t.codes depth 0) word leaf)) → word ≡ 0
    → IsReady k d e page header t.entry → (leaf : Bool) × (f ≡ with_account e (after_link e.account x.stop.number x.index (get_or t.codes depth 0) found leaf)) → found ≢ 0 → IsPage k found → g ≡ with_stock f (f.stock ++ page ∷ []) → next ≡ record { page = found; number = x.stop.number + 1 } → IsLed k c g x next depth t
link_lost k c d e f g x next depth word found page header t h load none ready link some_n inside keep is =
    let end = at_link k c d e x depth word page header t.entry t h load none ready in
    let now = led_read k e f x next depth found t end.code link some_n inside is in
    let goes_f = goes_on 0 0 c e f (omega arith) end.goes now.goes in
    subst (λ (y : Seated). IsLed k c y x next depth t) (sym keep) record {
      goes = record { table = goes_f.table; shape = goes_f.shape; rest = goes_f.rest; grows = goes_f.grows; longer = goes_f.longer; stays = goes_f.stays };
      number = now.number;
      behind = now.behind;
      linked = now.linked ∙ end.linked;
    }

-- ---- the kind of the page behind a link

kind_leaf : (leaf : Bool) (depth rank header : ℕ) → header ≡ kind_of leaf + 4 * depth + 32 * rank → header % 4 ≡ 1 → leaf ≡ true
kind_leaf true depth rank header is one = refl
kind_leaf false depth rank header is one = absurd (omega arith)

kind_inner : (leaf : Bool) (depth rank header : ℕ) → header ≡ kind_of leaf + 4 * depth + 32 * rank → header % 4 ≢ 1 → leaf ≡ false
kind_inner true depth rank header is other = absurd (other (omega arith))
kind_inner false depth rank header is other = refl

-- an inner chain is there
pub comes_higher : (k : Shape) (c d : Seated) (x : Slot) (s : Stop) (depth header : ℕ) (t : Target) → IsBehind k c.account x s depth t → d ≡ c → header ≡ header_of (place_of (here c.account s)) → ((here c.account s).leaf ≡ false → length (here c.account s).path < 5) → header % 4 ≢ 1 → ComesIn k c d s s (depth + 1) t
comes_higher k c d x s depth header t h same is shallow other =
    let inner : (here c.account s).leaf ≡ false = kind_inner (here c.account s).leaf (length (here c.account s).path) (here c.account s).rank header is other in
    let kind : h.leaf ≡ false = sym h.at.kind ∙ inner in
    let long = depth_is k c.account t (depth + 1) (let deep = h.deep in omega arith) h.target in
    let path : length (here c.account s).path ≡ length (take (depth + 1) t.codes) = ap length h.at.on in
    let low = shallow inner in record {
      goes = subst (Goes 0 c) (sym same) (goes_same 0 c);
      linked = (let e = ap (λ (y : Seated). y.account.counts.linked) same in omega arith);
      number = omega arith;
      low = omega arith;
      down = subst (λ (y : Seated). IsDown k y.account s (depth + 1) t) (sym same) record {
        at = subst (λ (b : Bool). IsAt k c.account s (take (depth + 1) t.codes) 0 b 0) kind h.at;
        target = h.target;
        fresh = h.fresh kind;
        high = h.high kind;
      };
    }

-- a leaf is there
leaf_kind : (k : Shape) (a : Account) (x : Slot) (s : Stop) (depth header : ℕ) (t : Target) (h : IsBehind k a x s depth t) → header ≡ header_of (place_of (here a s)) → header % 4 ≡ 1 → h.leaf ≡ true
leaf_kind k a x s depth header t h is one = sym h.at.kind ∙ kind_leaf (here a s).leaf (length (here a s).path) (here a s).rank header is one

pub comes_leaf : (k : Shape) (c d : Seated) (x : Slot) (s : Stop) (depth header : ℕ) (t : Target) → IsBehind k c.account x s depth t → d ≡ c → header ≡ header_of (place_of (here c.account s)) → header % 4 ≡ 1 → IsAtLeaf k d.account s (depth + 1) 0 0 t
comes_leaf k c d x s depth header t h same is one =
    subst (λ (y : Seated). IsAtLeaf k y.account s (depth + 1) 0 0 t) (sym same) record {
      at = subst (λ (b : Bool). IsAt k c.account s (take (depth + 1) t.codes) 0 b 0) (leaf_kind k c.account x s depth header t h is one) h.at;
      deep = (let deep = h.deep in omega arith);
      target = h.target;
    }

-- and it is of the last depth
pub comes_last : (k : Shape) (c d : Seated) (x : Slot) (s : Stop) (depth header : ℕ) (t : Target) → IsBehind k c.account x s depth t → d ≡ c → header ≡ header_of (place_of (here c.account s)) → header % 4 ≡ 1 → depth ≡ 4 → IsAtLeaf k d.account s 5 0 0 t
comes_last k c d x s depth header t h same is one last = subst (λ (n : ℕ). IsAtLeaf k d.account s n 0 0 t) (let e : depth + 1 ≡ 5 = omega arith in e) (comes_leaf k c d x s depth header t h same is one)

-- reading a page on changes no path
reads_high : (c d : Seated) (n depth : ℕ) → Reads c d n → AreHigh c.account depth → AreHigh d.account depth
reads_high c d n depth r high j less inner =
    let e : place_of (visited d.account.tree.reached j) ≡ place_of (visited c.account.tree.reached j) = dite (ℕ_discrete j n)
    (λ is. ap (λ (m : ℕ). place_of (visited d.account.tree.reached m)) is ∙ (r.place ∙ ap (λ (m : ℕ). place_of (visited c.account.tree.reached m)) (sym is)))
    (λ other. ap place_of (r.others j other)) in
    let most = high j (let size = r.size in omega arith) (sym (ap (λ (p : TreePlace). p.leaf) e) ∙ inner) in
    let same : length (visited d.account.tree.reached j).path ≡ length (visited c.account.tree.reached j).path = ap (λ (p : TreePlace). length p.path) e in omega arith

-- the leaf was read to its end
pub comes_full : (k : Shape) (c d e : Seated) (x : Slot) (s : Stop) (depth header : ℕ) (t : Target) → IsBehind k c.account x s depth t → d ≡ c → header ≡ header_of (place_of (here c.account s)) → header % 4 ≡ 1 → depth ≢ 4 → Reads d e s.number → IsAtLeaf k e.account s (depth + 1) 0 14 t → IsBehindFull k e.account x s depth t
comes_full k c d e x s depth header t h same is one other reads full =
    let both : Reads c e s.number = subst (λ (y : Seated). Reads y e s.number) same reads in record {
      leaf = full;
      low = (let deep = h.deep in omega arith);
      pair = pair_kept k c.account e.account x depth t h.pair (ap (λ (y : Seated). y.account.pool.announced) both.only) (let size = both.size in omega arith) (ap face_of (both.others x.stop.number h.other));
      above = reads_high c e s.number depth both (h.above (leaf_kind k c.account x s depth header t h is one));
      other = h.other;
    }

-- after the leaf was read the walk came further
goes_read : (c d e : Seated) (n : ℕ) → d ≡ c → Reads d e n → Goes 0 c e
goes_read c d e n same reads = goes_less 0 n c e (omega arith) (reads_goes n c e (subst (λ (y : Seated). Reads y e n) same reads))

pub comes_after : (k : Shape) (c d e f : Seated) (s next : Stop) (depth : ℕ) (t : Target) → d ≡ c → Reads d e s.number → ComesIn k e f s next depth t → ComesIn k c f s next depth t
comes_after k c d e f s next depth t same reads h = record { goes = goes_on 0 0 c e f (omega arith) (goes_read c d e s.number same reads) h.goes; linked = (let a = ap (λ (y : Seated). y.account.counts.linked) same in let b = ap (λ (y : Counts). y.linked) (reads_counts s.number d e reads) in let more = h.linked in omega arith); number = h.number; low = h.low; down = h.down }

pub lacks_after : (k : Shape) (c d e f : Seated) (n : ℕ) (row : Row) → d ≡ c → Reads d e n → LacksPages k e f row → LacksPages k c f row
lacks_after k c d e f n row same reads l = lacks_on k 0 c e f row (goes_read c d e n same reads) l

-- ---- down a level

pub follows : (k : Shape) (c d e : Seated) (x : Slot) (next : Stop) (depth : ℕ) (t : Target) (s : Step) → IsLed k c d x next depth t → GoesOn k d e next depth t s → FollowsTo k c e x depth t s
follows k c d e x next depth t Placed l g = goes_places 0 c d e t.row l.goes g
follows k c d e x next depth t (Down to) l g = record {
  goes = goes_on 0 0 c d e (omega arith) l.goes g.goes;
  linked = (let same = ap (λ (y : Counts). y.linked) l.linked in let more = g.linked in omega arith);
  number = (let now = g.number in let before = l.number in omega arith);
  low = g.low;
  down = g.down;
}

pub follow_result : (k : Shape) (c d e : Seated) (x : Slot) (o : Option Stop) (next : Stop) (depth : ℕ) (t : Target) (r : Result Step InsertError) → o ≡ Some next → GoesBelow k c d x depth t o → MatchResult r (λ s. GoesOn k d e next depth t s) (λ y. Stops k d e t.row y) → MatchResult r (λ s. FollowsTo k c e x depth t s) (λ y. Stops k c e t.row y)
follow_result k c d e x o next depth t (Ok s) is led g = follows k c d e x next depth t s (subst (GoesBelow k c d x depth t) is led) g
follow_result k c d e x o next depth t (Err y) is led g = let l : IsLed k c d x next depth t = subst (GoesBelow k c d x depth t) is led in stops_on k 0 c d e t.row y l.goes g
