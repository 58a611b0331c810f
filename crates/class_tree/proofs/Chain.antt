-- A chain goes on at its next page, which another has linked, or which this walk makes and links.
use Rattle.std.proofs.Common.{◌≡◌, ◌≢◌, ℕ, zero, suc, ◌+◌, ◌*◌, ◌<◌, ◌≤◌, Bool, false, List, [], ◌∷◌, ◌++◌, length, get_or, take, refl, sym, ap, ◌∙◌, subst, arith, get_or-set_same, length-append, length-take-le}
use mathlib.Core.Option.{some}
use mathlib.Core.Logic.{dite}
use native.Mathlib.Decide.{ℕ_discrete}
use Rattle.htss_defs.specs.declared.shape.Shape.{Shape}
use Rattle.board_core.specs.declared.account.Account.{Account}
use Rattle.board_core.specs.declared.account.Who.{Who}
use Rattle.board_core.specs.declared.account.Who.TheVariants.{Loader}
use Rattle.board_core.specs.declared.pool.Own.{Own}
use Rattle.board_core.specs.declared.pool.PoolAccount.{PoolAccount}
use Rattle.board_core.specs.declared.tree.Link.TheVariants.{Absent}
use Rattle.board_core.specs.declared.tree.Reached.{Reached}
use Rattle.board_core.specs.Sheets.{owns}
use Rattle.board_core.specs.MarkRule.{IsAmong}
use Rattle.board_core.specs.ClassTree.{page_room, kind_of, header_of}
use Rattle.board_core.specs.Loaded.{IsPage, HasStored, IsToClaim, one_word, next_place}
use Rattle.board_core.specs.After.{root, visited, with_more, after_more, after_inner, let_go, next_of, after_next, after_slot, more_linked}
use Rattle.board_core.specs.Steps.{MayLoadMore, MayLinkInner, MayLink}
use Rattle.board_core.proofs.Lists.{at_longer, at_last}
use Rattle.board_core.proofs.PageSums.{without_here, without_else}
use Rattle.board.specs.Seated.{Seated, IsLoader, number_in, with_account, with_stock}
use Rattle.class_tree.specs.declared.walks.Stop.{Stop}
use Rattle.class_tree.specs.declared.walks.Target.{Target}
use Rattle.class_tree.specs.Inserting.{IsStocked}
use Rattle.class_tree.specs.Stocked.{IsStockedBut, IsReady}
use Rattle.class_tree.specs.Walking.{here, Rest, rest_of, AreHigh, IsFresh, IsAt, IsTarget, IsSeeking, Goes, IsNext, IsMadeBehind}
use Rattle.class_tree.proofs.Pages.{within, target_kept, reads_slot}
use Rattle.class_tree.proofs.Finding.{to_claim, stands_within, code_stands}
use Rattle.class_tree.proofs.Grown.{equal_shown, same_fresh, same_high, Grown, grown_more, none_more, grown_fresh, grown_high, grown_at, rest_more, lists_more, goes_on, shown_goes, grown_goes}
use Rattle.board_core.specs.declared.tree.Counts.{Counts}
use Rattle.board_core.proofs.CountFrame.{as_many}
use Rattle.class_tree.proofs.Counting.{counts_more, may_on}

-- ---- whose the caller is

pub goes_loader : (n : ℕ) (c d : Seated) → Goes n c d → IsLoader c → IsLoader d
goes_loader n c d g loader = subst (λ (w : Who). w ≡ Loader (number_in w)) (sym (ap (λ (x : Rest). x.who) g.rest)) loader

-- ---- the stock

-- an own page leaves the stock's account for the tree
pub stocked_without : (c d : Seated) (page : ℕ) → IsStockedBut c page → d.stock ≡ c.stock → d.account.pool.own ≡ let_go page c.account.pool.own → d.account.pool.parted ≡ c.account.pool.parted → IsStocked d
stocked_without c d page but stock own parted = record {
  own = λ q mine. subst (λ (l : List ℕ). IsAmong l q) (sym stock) (dite (ℕ_discrete q page)
      (λ is. let none : owns q d.account.pool.own ≡ 0 = ap (λ (z : ℕ). owns z d.account.pool.own) is ∙ (ap (owns page) own ∙ without_here (λ (o : Own). o.page) page c.account.pool.own) in absurd (omega arith))
      (λ other. but.own q other (let same : owns q d.account.pool.own ≡ owns q c.account.pool.own = ap (owns q) own ∙ without_else (λ (o : Own). o.page) (λ _. 1) page q (λ e. other (sym e)) c.account.pool.own in omega arith)));
  few = (let left : length d.account.pool.own ≡ length (let_go page c.account.pool.own) = ap length own in let many = as_many page c.account.pool.own in let mine = but.mine in let few = but.few in let same = ap length stock in omega arith);
  size = (let same = ap length stock in let room = but.room in omega arith);
  clean = parted ∙ but.clean;
}

pub but_same : (c d : Seated) (page : ℕ) → IsStockedBut c page → d.stock ≡ c.stock → d.account.pool ≡ c.account.pool → IsStockedBut d page
but_same c d page but stock pool = record {
  own = λ q other mine. subst (λ (l : List ℕ). IsAmong l q) (sym stock) (but.own q other (subst (λ (p : PoolAccount). 0 < owns q p.own) pool mine));
  few = (let own : length d.account.pool.own ≡ length c.account.pool.own = ap (λ (p : PoolAccount). length p.own) pool in let same = ap length stock in let few = but.few in omega arith);
  mine = subst (λ (p : PoolAccount). 0 < owns page p.own) (sym pool) but.mine;
  apart = λ among. but.apart (subst (λ (l : List ℕ). IsAmong l page) stock among);
  room = (let same = ap length stock in let room = but.room in omega arith);
  clean = ap (λ (p : PoolAccount). p.parted) pool ∙ but.clean;
}

-- the page is kept
pub stocked_again : (c d : Seated) (page : ℕ) → IsStockedBut c page → d ≡ with_stock c (c.stock ++ page ∷ []) → IsStocked d
stocked_again c d page but e = subst IsStocked (sym e) record {
  own = λ q mine. dite (ℕ_discrete q page)
      (λ is. (length c.stock, at_last c.stock page (length c.stock) refl ∙ ap some (sym is)))
      (λ other. let (i, there) = but.own q other mine in (i, at_longer c.stock (page ∷ []) i q there));
  few = (let longer = length-append c.stock (page ∷ []) in let few = but.few in omega arith);
  size = (let longer = length-append c.stock (page ∷ []) in let room = but.room in omega arith);
  clean = but.clean;
}

-- ---- a page that was read to its end

pub record IsWhole (k : Shape) (a : Account) (s : Stop) (path : List ℕ) (rank : ℕ) (leaf : Bool) : Type 0 where
  pub pinned : 0 < a.pool.announced
  pub inside : IsPage k s.page
  pub last : length a.tree.reached ≡ s.number + 1
  pub there : (here a s).page ≡ s.page
  pub on : (here a s).path ≡ path
  pub at : (here a s).rank ≡ rank
  pub kind : (here a s).leaf ≡ leaf
  pub full : length (here a s).slots ≡ page_room leaf
  pub not_zero : (here a s).zero ≡ false

pub whole : (k : Shape) (a : Account) (s : Stop) (path : List ℕ) (rank : ℕ) (leaf : Bool) → IsAt k a s path rank leaf (page_room leaf) → IsWhole k a s path rank leaf
whole k a s path rank leaf h = record { pinned = h.pinned; inside = h.inside; last = h.last; there = h.there; on = h.on; at = h.at; kind = h.kind; full = h.size; not_zero = h.not_zero }

pub whole_less : (k : Shape) (a : Account) (s : Stop) (path : List ℕ) (rank : ℕ) (leaf : Bool) → IsWhole k a s path rank leaf → s.number < length a.tree.reached
whole_less k a s path rank leaf h = let last = h.last in omega arith

pub whole_zero : (k : Shape) (a : Account) (s : Stop) (path : List ℕ) (rank : ℕ) (leaf : Bool) → IsWhole k a s path rank leaf → IsWhole k (after_more a s.number 0) s path rank leaf
whole_zero k a s path rank leaf h =
    let less = whole_less k a s path rank leaf h in
    let e : here (after_more a s.number 0) s ≡ with_more Absent (here a s) = get_or-set_same a.tree.reached s.number (with_more Absent (here a s)) root less in record {
      pinned = h.pinned;
      inside = h.inside;
      last = (none_more a s less).size ∙ h.last;
      there = ap (λ (x : Reached). x.page) e ∙ h.there;
      on = ap (λ (x : Reached). x.path) e ∙ h.on;
      at = ap (λ (x : Reached). x.rank) e ∙ h.at;
      kind = ap (λ (x : Reached). x.leaf) e ∙ h.kind;
      full = ap (λ (x : Reached). length x.slots) e ∙ h.full;
      not_zero = ap (λ (x : Reached). x.zero) e ∙ h.not_zero;
    }

pub whole_same : (k : Shape) (a b : Account) (s : Stop) (path : List ℕ) (rank : ℕ) (leaf : Bool) → b.tree.reached ≡ a.tree.reached → b.pool.announced ≡ a.pool.announced → IsWhole k a s path rank leaf → IsWhole k b s path rank leaf
whole_same k a b s path rank leaf e pin h =
    let f : here b s ≡ here a s = ap (λ (l : List Reached). visited l s.number) e in record {
      pinned = (let old = h.pinned in omega arith);
      inside = h.inside;
      last = ap length e ∙ h.last;
      there = ap (λ (x : Reached). x.page) f ∙ h.there;
      on = ap (λ (x : Reached). x.path) f ∙ h.on;
      at = ap (λ (x : Reached). x.rank) f ∙ h.at;
      kind = ap (λ (x : Reached). x.leaf) f ∙ h.kind;
      full = ap (λ (x : Reached). length x.slots) f ∙ h.full;
      not_zero = ap (λ (x : Reached). x.zero) f ∙ h.not_zero;
    }

pub may_load_more : (k : Shape) (a : Account) (s : Stop) (path : List ℕ) (rank : ℕ) (leaf : Bool) → IsWhole k a s path rank leaf → MayLoadMore k a s.number
may_load_more k a s path rank leaf h = record {
  visit = record { reached = whole_less k a s path rank leaf h; inside = subst (IsPage k) (sym h.there) h.inside };
  pinned = h.pinned;
  full = h.full ∙ ap page_room (sym h.kind);
  not_zero = h.not_zero;
}

-- the next page
pub next_at : (k : Shape) (a b : Account) (s next : Stop) (path : List ℕ) (rank n : ℕ) (leaf : Bool) → IsWhole k a s path rank leaf → b ≡ after_more a s.number n → n ≢ 0 → IsPage k n → next ≡ record { page = n; number = s.number + 1 } → IsAt k b next path (rank + 1) leaf 0
next_at k a b s next path rank n leaf h e some_n inside is =
    let g = grown_more a s n (whole_less k a s path rank leaf h) some_n in
    let page : next.page ≡ n = ap (λ (x : Stop). x.page) is in
    subst (λ (x : Account). IsAt k x next path (rank + 1) leaf 0) (sym e)
    (subst (λ (x : List ℕ × ℕ × Bool). IsAt k (after_more a s.number n) next x.0 x.1 x.2 0) (λ i. (h.on i, (ap (λ (z : ℕ). z + 1) h.at) i, h.kind i))
    (grown_at k a (after_more a s.number n) next (next_of (here a s) n) g
    (subst (λ (x : Rest). 0 < x.announced) (sym (rest_more a s.number n)) h.pinned)
    (subst (IsPage k) (sym page) inside) (ap (λ (x : Stop). x.number) is ∙ sym h.last) (sym page) refl refl refl))

-- ---- the next page of an inner chain

-- what is looked for
pub record Seeks (k : Shape) (a : Account) (depth : ℕ) (t : Target) : Type 0 where
  pub deep : depth < 5
  pub target : IsTarget k a t
  pub fresh : IsFresh a (take depth t.codes) (get_or t.codes depth 0)
  pub high : AreHigh a depth

pub seeks : (k : Shape) (a : Account) (s : Stop) (depth rank known : ℕ) (t : Target) → IsSeeking k a s depth rank known t → Seeks k a depth t
seeks k a s depth rank known t h = record { deep = h.deep; target = h.target; fresh = h.fresh; high = h.high }

pub depth_is : (k : Shape) (a : Account) (t : Target) (depth : ℕ) → depth ≤ 5 → IsTarget k a t → length (take depth t.codes) ≡ depth
depth_is k a t depth deep h = length-take-le depth t.codes (let long : length t.codes ≡ 5 = ap length h.codes_are in omega arith)

seeks_zero : (k : Shape) (a : Account) (s : Stop) (depth : ℕ) (t : Target) → s.number < length a.tree.reached → Seeks k a depth t → Seeks k (after_more a s.number 0) depth t
seeks_zero k a s depth t less h = let same = none_more a s less in record {
  deep = h.deep;
  target = target_kept k a (after_more a s.number 0) t refl h.target;
  fresh = same_fresh a (after_more a s.number 0) (take depth t.codes) (get_or t.codes depth 0) same h.fresh;
  high = same_high a (after_more a s.number 0) depth same h.high;
}

seeks_same : (k : Shape) (a b : Account) (depth : ℕ) (t : Target) → rest_of b ≡ rest_of a → b.tree.reached ≡ a.tree.reached → Seeks k a depth t → Seeks k b depth t
seeks_same k a b depth t rest e h = let same = equal_shown a b e in record {
  deep = h.deep;
  target = target_kept k a b t rest h.target;
  fresh = same_fresh a b (take depth t.codes) (get_or t.codes depth 0) same h.fresh;
  high = same_high a b depth same h.high;
}

seeks_next : (k : Shape) (a b : Account) (s next : Stop) (depth rank n : ℕ) (t : Target) → IsWhole k a s (take depth t.codes) rank false → Seeks k a depth t → b ≡ after_more a s.number n → n ≢ 0 → IsPage k n → next ≡ record { page = n; number = s.number + 1 } → IsSeeking k b next depth (rank + 1) 0 t
seeks_next k a b s next depth rank n t w h e some_n inside is =
    let g = grown_more a s n (whole_less k a s (take depth t.codes) rank false w) some_n in
    let long = depth_is k a t depth (let deep = h.deep in omega arith) h.target in record {
      at = next_at k a b s next (take depth t.codes) rank n false w e some_n inside is;
      deep = h.deep;
      target = target_kept k a b t (ap rest_of e ∙ rest_more a s.number n) h.target;
      fresh = subst (λ (x : Account). IsFresh x (take depth t.codes) (get_or t.codes depth 0)) (sym e) (grown_fresh a (after_more a s.number n) (next_of (here a s) n) (take depth t.codes) (get_or t.codes depth 0) g refl h.fresh);
      high = subst (λ (x : Account). AreHigh x depth) (sym e) (grown_high a (after_more a s.number n) (next_of (here a s) n) depth g (λ _. let path : length (here a s).path ≡ length (take depth t.codes) = ap length w.on in omega arith) h.high);
    }

-- the page was there
pub next_read : (k : Shape) (c d : Seated) (s next : Stop) (depth rank n : ℕ) (t : Target) → IsSeeking k c.account s depth rank 7 t → d ≡ with_account c (after_more c.account s.number n) → n ≢ 0 → IsPage k n → next ≡ record { page = n; number = s.number + 1 } → IsNext k c d s next depth rank t × (d.account.counts ≡ c.account.counts)
next_read k c d s next depth rank n t h e some_n inside is =
    let w = whole k c.account s (take depth t.codes) rank false h.at in
    let less = whole_less k c.account s (take depth t.codes) rank false w in (
      record {
        goes = grown_goes (s.number + 1) c d (after_more c.account s.number n) (next_of (here c.account s) n) (omega arith) e (rest_more c.account s.number n) (lists_more c.account s.number n) (grown_more c.account s n less some_n);
        number = ap (λ (x : Stop). x.number) is;
        seeking = seeks_next k c.account d.account s next depth rank n t w (seeks k c.account s depth rank 7 t h) (ap (λ (x : Seated). x.account) e) some_n inside is;
      },
      ap (λ (x : Seated). x.account.counts) e ∙ counts_more c.account s.number n,
    )

-- no page was there, and a new one is ready
pub record IsAtEnd (k : Shape) (c e : Seated) (s : Stop) (path : List ℕ) (rank : ℕ) (leaf : Bool) : Type 0 where
  pub goes : Goes (s.number + 1) c e
  pub whole_page : IsWhole k e.account s path rank leaf
  pub linked : e.account.counts ≡ c.account.counts

pub at_end_of : (k : Shape) (c d e : Seated) (s : Stop) (path : List ℕ) (rank word page header first : ℕ) (leaf : Bool) → IsWhole k c.account s path rank leaf → d ≡ with_account c (after_more c.account s.number word) → word ≡ 0 → IsReady k d e page header first → IsAtEnd k c e s path rank leaf
at_end_of k c d e s path rank word page header first leaf w load none ready =
    let less = whole_less k c.account s path rank leaf w in
    let zero_load : d ≡ with_account c (after_more c.account s.number 0) = load ∙ ap (λ (n : ℕ). with_account c (after_more c.account s.number n)) none in
    let zero_whole : IsWhole k d.account s path rank leaf = subst (λ (x : Seated). IsWhole k x.account s path rank leaf) (sym zero_load) (whole_zero k c.account s path rank leaf w) in record {
      goes = goes_on (s.number + 1) (length d.account.tree.reached) c d e (let last = zero_whole.last in omega arith) (shown_goes (s.number + 1) c d (after_more c.account s.number 0) zero_load refl refl (none_more c.account s less)) ready.goes;
      whole_page = whole_same k d.account e.account s path rank leaf ready.reached (ap (λ (x : Rest). x.announced) ready.goes.rest) zero_whole;
      linked = ready.linked ∙ ap (λ (x : Seated). x.account.counts) zero_load;
    }

pub end_seeks : (k : Shape) (c d e : Seated) (s : Stop) (depth rank word page header first : ℕ) (t : Target) → IsSeeking k c.account s depth rank 7 t → d ≡ with_account c (after_more c.account s.number word) → word ≡ 0 → IsReady k d e page header first → Seeks k e.account depth t
end_seeks k c d e s depth rank word page header first t h load none ready =
    let zero_load : d ≡ with_account c (after_more c.account s.number 0) = load ∙ ap (λ (n : ℕ). with_account c (after_more c.account s.number n)) none in
    let less = within k c.account s (take depth t.codes) rank 7 false h.at in
    seeks_same k d.account e.account depth t ready.goes.rest ready.reached
    (subst (λ (x : Seated). Seeks k x.account depth t) (sym zero_load) (seeks_zero k c.account s depth t less (seeks k c.account s depth rank 7 t h)))

-- the words of the new page are those that the link asks for
pub stored_header : (a : Account) (page header other first : ℕ) → header ≡ other → HasStored a page (one_word header first) → HasStored a page (one_word other first)
stored_header a page header other first e h = subst (λ (n : ℕ). HasStored a page (one_word n first)) e h

pub next_header : (x : Reached) (path : List ℕ) (depth rank header : ℕ) (leaf : Bool) → x.path ≡ path → length path ≡ depth → x.rank ≡ rank → x.leaf ≡ leaf → header ≡ kind_of leaf + 4 * depth + 32 * (rank + 1) → header ≡ header_of (next_place x)
next_header x path depth rank header leaf on long at kind is =
    let a : length x.path ≡ depth = ap length on ∙ long in
    is ∙ (λ i. kind_of (sym kind i) + 4 * sym a i + 32 * (sym at i + 1))

pub may_link_inner : (k : Shape) (c d e : Seated) (s : Stop) (depth rank word page header : ℕ) (t : Target) → IsSeeking k c.account s depth rank 7 t → rank + 1 < k.chain → d ≡ with_account c (after_more c.account s.number word) → word ≡ 0
    → header ≡ kind_of false + 4 * depth + 32 * (rank + 1) → IsReady k d e page header (get_or t.codes depth 0) → MayLink c.account 1 → MayLinkInner k e.account s.number page (get_or t.codes depth 0)
may_link_inner k c d e s depth rank word page header t h room load none is ready may =
    let code : ℕ = get_or t.codes depth 0 in
    let path : List ℕ = take depth t.codes in
    let end = at_end_of k c d e s path rank word page header code false (whole k c.account s path rank false h.at) load none ready in
    let w = end.whole_page in
    let f = end_seeks k c d e s depth rank word page header code t h load none ready in
    let long = depth_is k e.account t depth (let deep = h.deep in omega arith) f.target in record {
      may = record {
        load = may_load_more k e.account s path rank false w;
        rank = (let at = w.at in omega arith);
        new = stored_header e.account page header _ code (next_header (here e.account s) path depth rank header false w.on long w.at w.kind is) ready.stored;
        few = may_on 1 c.account e.account end.goes.rest end.linked may;
      };
      inner = w.kind;
      claim = subst (λ (p : List ℕ). IsToClaim k e.account p code) (sym w.on) (to_claim k e.account t depth f.deep f.target f.fresh);
    }

-- the same pages were reached before
grown_back : (a b e : Account) (z : Reached) → b.tree.reached ≡ a.tree.reached → Grown b e z → Grown a e z
grown_back a b e z same g = subst (λ (l : List Reached). Grown (record a { tree = record a.tree { reached = l } }) e z) same record { size = g.size; shown = g.shown; last = g.last }

-- the new page is the next one
pub inner_won : (k : Shape) (c d e f : Seated) (s next : Stop) (depth rank word page header : ℕ) (t : Target) → IsSeeking k c.account s depth rank 7 t → d ≡ with_account c (after_more c.account s.number word) → word ≡ 0
    → IsReady k d e page header (get_or t.codes depth 0) → f ≡ with_account e (after_more (after_inner e.account page) s.number page) → next ≡ record { page = page; number = s.number + 1 } → IsNext k c f s next depth rank t
inner_won k c d e f s next depth rank word page header t h load none ready link is =
    let path : List ℕ = take depth t.codes in
    let end = at_end_of k c d e s path rank word page header (get_or t.codes depth 0) false (whole k c.account s path rank false h.at) load none ready in
    let g = end_seeks k c d e s depth rank word page header (get_or t.codes depth 0) t h load none ready in
    let b : Account = after_inner e.account page in
    let w : IsWhole k b s path rank false = whole_same k e.account b s path rank false refl refl end.whole_page in
    let less = whole_less k b s path rank false w in
    let some_n : page ≢ 0 = (let above = ready.inside.0 in λ z. omega arith) in record {
      goes = goes_on (s.number + 1) (s.number + 1) c e f (omega arith) end.goes (grown_goes (s.number + 1) e f (after_more b s.number page) (next_of (here b s) page) (omega arith) link (rest_more b s.number page) (lists_more b s.number page) (grown_back e.account b (after_more b s.number page) (next_of (here b s) page) refl (grown_more b s page less some_n)));
      number = ap (λ (x : Stop). x.number) is;
      seeking = seeks_next k b f.account s next depth rank page t w (seeks_same k e.account b depth t refl refl g) (ap (λ (x : Seated). x.account) link) some_n ready.inside is;
    }

-- and the code stands in its first slot
pub inner_made : (k : Shape) (c d e f : Seated) (s next : Stop) (depth rank word page header : ℕ) (t : Target) → IsSeeking k c.account s depth rank 7 t → d ≡ with_account c (after_more c.account s.number word) → word ≡ 0
    → IsReady k d e page header (get_or t.codes depth 0) → f ≡ with_account e (after_next e.account s.number page (get_or t.codes depth 0)) → next ≡ record { page = page; number = s.number + 1 } → IsMadeBehind k c f s next depth rank t
inner_made k c d e f s next depth rank word page header t h load none ready link is =
    let code : ℕ = get_or t.codes depth 0 in
    let m : Seated = with_account e (after_more (after_inner e.account page) s.number page) in
    let n : IsNext k c m s next depth rank t = inner_won k c d e m s next depth rank word page header t h load none ready refl is in
    let end = at_end_of k c d e s (take depth t.codes) rank word page header code false (whole k c.account s (take depth t.codes) rank false h.at) load none ready in
    let last : length e.account.tree.reached ≡ next.number = end.whole_page.last ∙ sym n.number in
    let read : f ≡ with_account m (after_slot m.account next.number code) = link ∙ ap (λ (z : ℕ). with_account m (after_slot m.account z code)) last in
    let counts : f.account.counts ≡ more_linked 1 e.account.counts = ap (λ (x : Seated). x.account.counts) read ∙ counts_more (after_inner e.account page) s.number page in
    let before = ap (λ (x : Counts). x.linked) end.linked in
    let after = ap (λ (x : Counts). x.linked) counts in record {
      middle = m;
      on = n;
      reads = reads_slot m f next code (stands_within k m.account next depth (rank + 1) 0 t n.seeking) read;
      code = code_stands k m f next depth (rank + 1) 0 code t n.seeking (omega arith) read (h.target.some_code depth h.deep) refl;
      linked = omega arith;
    }

pub made_loader : (k : Shape) (c d : Seated) (s next : Stop) (depth rank : ℕ) (t : Target) → IsMadeBehind k c d s next depth rank t → IsLoader c → IsLoader d
made_loader k c d s next depth rank t m loader =
    subst (λ (w : Who). w ≡ Loader (number_in w)) (sym (ap (λ (x : Seated). x.account.who) m.reads.only)) (goes_loader (s.number + 1) c m.middle m.on.goes loader)

-- another was faster
pub inner_lost : (k : Shape) (c d e f g : Seated) (s next : Stop) (depth rank word found page header : ℕ) (t : Target) → IsSeeking k c.account s depth rank 7 t → d ≡ with_account c (after_more c.account s.number word) → word ≡ 0
    → IsReady k d e page header (get_or t.codes depth 0) → f ≡ with_account e (after_more e.account s.number found) → found ≢ 0 → IsPage k found → g ≡ with_stock f (f.stock ++ page ∷ []) → next ≡ record { page = found; number = s.number + 1 } → IsNext k c g s next depth rank t × (g.account.counts ≡ c.account.counts)
inner_lost k c d e f g s next depth rank word found page header t h load none ready link some_n inside keep is =
    let path : List ℕ = take depth t.codes in
    let end = at_end_of k c d e s path rank word page header (get_or t.codes depth 0) false (whole k c.account s path rank false h.at) load none ready in
    let x = end_seeks k c d e s depth rank word page header (get_or t.codes depth 0) t h load none ready in
    let less = whole_less k e.account s path rank false end.whole_page in
    let goes_f = goes_on (s.number + 1) (s.number + 1) c e f (omega arith) end.goes (grown_goes (s.number + 1) e f (after_more e.account s.number found) (next_of (here e.account s) found) (omega arith) link (rest_more e.account s.number found) (lists_more e.account s.number found) (grown_more e.account s found less some_n)) in
    let seeking_f = seeks_next k e.account f.account s next depth rank found t end.whole_page x (ap (λ (x : Seated). x.account) link) some_n inside is in
    let counts : f.account.counts ≡ c.account.counts = ap (λ (x : Seated). x.account.counts) link ∙ (counts_more e.account s.number found ∙ end.linked) in
    subst (λ (y : Seated). IsNext k c y s next depth rank t × (y.account.counts ≡ c.account.counts)) (sym keep) (
      record {
        goes = record { table = goes_f.table; shape = goes_f.shape; rest = goes_f.rest; grows = goes_f.grows; longer = goes_f.longer; stays = goes_f.stays };
        number = ap (λ (x : Stop). x.number) is;
        seeking = seeking_f;
      },
      counts,
    )

-- ---- the stock after the link

pub more_pool : (a : Account) (j n : ℕ) → (after_more a j n).pool ≡ a.pool
more_pool a j zero = refl
more_pool a j (suc n) = refl

pub more_stocked : (c d : Seated) (j n : ℕ) → IsStocked c → d ≡ with_account c (after_more c.account j n) → IsStocked d
more_stocked c d j n s load = subst IsStocked (sym load) (subst (λ (p : PoolAccount). IsStocked (with_account c (record (after_more c.account j n) { pool = p }))) (sym (more_pool c.account j n)) record { own = s.own; few = s.few; size = s.size; clean = s.clean })

pub won_stocked : (k : Shape) (d e f : Seated) (s : Stop) (page header first : ℕ) → IsReady k d e page header first → f ≡ with_account e (after_next e.account s.number page first) → IsStocked f
won_stocked k d e f s page header first ready link = stocked_without e f page ready.but (ap (λ (x : Seated). x.stock) link)
    (ap (λ (x : Seated). x.account.pool.own) link ∙ ap (λ (p : PoolAccount). p.own) (more_pool (after_inner e.account page) s.number page))
    (ap (λ (x : Seated). x.account.pool.parted) link ∙ ap (λ (p : PoolAccount). p.parted) (more_pool (after_inner e.account page) s.number page))

pub lost_but : (k : Shape) (d e f : Seated) (s : Stop) (page header first found : ℕ) → IsReady k d e page header first → f ≡ with_account e (after_more e.account s.number found) → IsStockedBut f page
lost_but k d e f s page header first found ready link = but_same e f page ready.but (ap (λ (x : Seated). x.stock) link) (ap (λ (x : Seated). x.account.pool) link ∙ more_pool e.account s.number found)
