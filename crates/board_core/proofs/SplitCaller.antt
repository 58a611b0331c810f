-- A seat is split: the opener makes the next caller.
use Rattle.std.proofs.Common.{◌≤◌}
use Rattle.std.proofs.Common.{◌≡◌, ◌≢◌, ℕ, ◌+◌, ◌<◌, List, [], ◌∷◌, ◌++◌, set, sym, refl, ap, ◌∙◌, subst, arith}
use mathlib.Core.Option.{some}
use mathlib.Core.Logic.{dite}
use native.Mathlib.Decide.{ℕ_discrete}
use lib.ListN.{get_elem?}
use Rattle.atomic_table.specs.Table.{Splits}
use Rattle.htss_defs.specs.declared.shape.Shape.{Shape}
use Rattle.htss_defs.specs.declared.history.Event.{Event}
use Rattle.board_core.specs.declared.account.Account.{Account}
use Rattle.board_core.specs.declared.account.View.{View}
use Rattle.board_core.specs.declared.account.Who.{Who}
use Rattle.board_core.specs.declared.account.Who.TheVariants.{Opener, Loader, Gone}
use Rattle.board_core.specs.declared.log.Holding.{Holding}
use Rattle.board_core.specs.declared.log.Holding.TheVariants.{Away, Taken, Fronted}
use Rattle.board_core.specs.Each.{Each}
use Rattle.board_core.specs.Words.{LogWords, Parts, parts_of}
use Rattle.board_core.specs.Histories.{history_of}
use Rattle.board_core.specs.Accounts.{account, with_me, view, total}
use Rattle.board_core.specs.SeatRule.{SeatRule, WhoFits, made}
use Rattle.board_core.specs.LogRule.{Hand, hand_of, is_held, word_or_0, Holds as HoldsLock, HandFits, LogRule}
use Rattle.board_core.specs.Truths.{IsTrueLog, IsTrueStory, own_events}
use Rattle.board_core.specs.StoryRule.{StoryRule}
use Rattle.board_core.specs.LoadRule.{LoadFits}
use Rattle.board_core.specs.RoomRule.{Store, store_of, RoomFits, ShowsSealed, RoomRule}
use Rattle.board_core.specs.Swept.{IsSweptOn}
use Rattle.board_core.specs.Rows.{HasRow}
use Rattle.board_core.proofs.SweptFrame.{OwnSwept, swept_views}
use Rattle.board_core.proofs.RoomFrame.{none_fits}
use Rattle.board_core.proofs.Some.{some_changed, some_more}
use Rattle.board_core.specs.Truths.{IsTrueRoom}
use Rattle.std.proofs.Common.{◌-◌, length}
use Rattle.board_core.proofs.MarkSeats.{marks_caller}
use Rattle.board_core.proofs.RecordFrame.{records_caller}
use Rattle.board_core.proofs.FactFrame.{facts_caller}
use Rattle.board_core.proofs.PoolSeats.{pool_caller}
use Rattle.board_core.specs.Truths.{IsTruePool}
use Rattle.board_core.proofs.OwnFrame.{own_caller}
use Rattle.board_core.specs.Holds.{Rule, Holds}
use Rattle.board_core.proofs.Lists.{each_none, each_kept, each_snoc}
use Rattle.board_core.proofs.Everyone.{mine, changed, total_changed, each_more, total_more}
use Rattle.board_core.proofs.LogFrame.{hand_at, quiet_fits, free_quiet}
use Rattle.board_core.specs.Accounts.{made_by, is_opener, is_seat, seat_of, caller_after}
use Rattle.board_core.specs.After.{after_made}
use Rattle.board_core.proofs.Callers.{seat_none, seat_this, seat_that, seat_after, fits_after, none_after, own_after, made_is}
use Rattle.board_core.specs.Rows.{codes_in}
use Rattle.board_core.specs.OldRows.{IsOldRow}
use Rattle.board_core.proofs.RowFrame.{rows_caller, placed_begun}
use Rattle.board_core.proofs.TreeFrame.{tree_caller}
use Rattle.board_core.proofs.PoolSeats.{sheet_caller}
use Rattle.board_core.specs.Sheets.{Sheet, sheet_of}
use Rattle.board_core.specs.ChainRule.{IsTrueChain, ChainRule}
use Rattle.std.proofs.Common.{sym, subst}
use Rattle.board_core.proofs.PublishedFrame.{published_caller}
use Rattle.board_core.proofs.OldMoved.{no_old, pins_same, pin_here}

-- the sums, where one view was changed and one added
split_total : (f : Account → ℕ) (vs : List View) (id : ℕ) (v : View) (a : Account) (n : View) → get_elem? vs id ≡ some v → n.kept ≡ [] → total f (set vs id (with_me v a) ++ n ∷ []) + f v.me ≡ total f vs + f a + f n.me
split_total f vs id v a n at none_kept = let sum = total_more f (set vs id (with_me v a)) n none_kept in let first = total_changed f vs id v a at in omega arith

abbrev left_of : View → View
left_of v = with_me v (after_made v.me)

abbrev right_of : Shape → ℕ → View
right_of k m = view k (account (caller_after k m) 0)

caller_seats : (k : Shape) (vs : List View) (id m : ℕ) (v : View) → SeatRule k vs → get_elem? vs id ≡ some v → v.me.who ≡ Opener m → v.shape ≡ k → m < k.loaders + k.searchers → SeatRule k (set vs id (left_of v) ++ right_of k m ∷ [])
caller_seats k vs id m v r at is shape room =
    let all : List View = set vs id (left_of v) ++ right_of k m ∷ [] in
    let new : Who = caller_after k m in
    let none_new = none_after k m in
    let old_made : made vs ≡ m = made_is k vs id m v r at is in
    let mine_made : made_by v.me.who ≡ m = ap made_by is in
    let as_many : made all ≡ m + 1 = (let sum : made all + made_by v.me.who ≡ made vs + (made_by v.me.who + 1) + made_by new = split_total (λ x. made_by x.who) vs id v (after_made v.me) (right_of k m) at refl in let z = none_new.1 in omega arith) in
    let seats : (c : ℕ) → 0 < c → total (λ x. is_seat k c x.who) all ≡ total (λ x. is_seat k c x.who) vs + is_seat k c new = λ c above.
    let sum : total (λ x. is_seat k c x.who) all + is_seat k c v.me.who ≡ total (λ x. is_seat k c x.who) vs + is_seat k c (Opener (made_by v.me.who + 1)) + is_seat k c new = split_total (λ x. is_seat k c x.who) vs id v (after_made v.me) (right_of k m) at refl in
    let a = seat_none k c v.me.who (ap (seat_of k) is) above in
    let b = seat_none k c (Opener (made_by v.me.who + 1)) refl above in omega arith
    in record {
      shapes = each_snoc (λ (u : View). u.me.who ≢ Gone → u.shape ≡ k) (set vs id (left_of v)) (right_of k m) (λ _. refl) (each_kept (λ (u : View). u.me.who ≢ Gone → u.shape ≡ k) vs id (left_of v) (λ _. shape) r.shapes);
      limits = each_more (λ x. WhoFits k x.who) (set vs id (left_of v)) (account new 0) (right_of k m) refl refl (fits_after k m room)
          (changed (λ x. WhoFits k x.who) vs id v (after_made v.me) at (omega arith) r.limits);
      one_opener =
          let sum : total (λ x. is_opener x.who) all + is_opener v.me.who ≡ total (λ x. is_opener x.who) vs + 1 + is_opener new = split_total (λ x. is_opener x.who) vs id v (after_made v.me) (right_of k m) at refl in
          let one : is_opener v.me.who ≡ 1 = ap is_opener is in
          let z = none_new.0 in
          let before = r.one_opener in omega arith;
      callers = λ c above within. dite (ℕ_discrete c (m + 1))
          (λ same. let sum = seats c above in let this = seat_this k c new (seat_after k m ∙ sym same) in let before = r.none_past c (omega arith) in omega arith)
          (λ other. let sum = seats c above in let that = seat_that k c new (λ e. other (sym e ∙ seat_after k m)) in let before = r.callers c above (omega arith) in omega arith);
      none_past = λ c past. let sum = seats c (omega arith) in let that = seat_that k c new (λ e. let z = seat_after k m in omega arith) in let before = r.none_past c (omega arith) in omega arith;
    }

opener_clash : {m n : ℕ} → Opener m ≡ Loader n → ⊥
opener_clash e = cc

opener_free : (w : LogWords) (x : Hand) (m : ℕ) (b : Holding) → x.who ≡ Opener m → HoldsLock w x b → is_held b ≡ 0
opener_free w x m Away is holds = refl
opener_free w x m Taken is holds = absurd (opener_clash (sym is ∙ holds.0))
opener_free w x m Fronted is holds = absurd (opener_clash (sym is ∙ holds.0))

other_who : (w : LogWords) (x : Hand) (who : Who) (b : Holding) → is_held b ≡ 0 → HoldsLock w x b → HoldsLock w record { who = who; log = x.log } b
other_who w x who Away free holds = holds
other_who w x who Taken free holds = absurd (omega arith)
other_who w x who Fronted free holds = absurd (omega arith)

caller_log : (k : Shape) (w : LogWords) (h : List Event) (vs : List View) (id m : ℕ) (v : View) → LogRule k w h vs → get_elem? vs id ≡ some v → v.me.who ≡ Opener m → LogRule k w h (set vs id (left_of v) ++ right_of k m ∷ [])
caller_log k w h vs id m v r at is =
    let f = hand_at k w h vs id v r at in
    let free = opener_free w (hand_of v.me) m v.me.log.holding is f.holds in record {
      front = r.front;
      counted = r.counted;
      legal = r.legal;
      callers = r.callers;
      blank = r.blank;
      next = (let sum = split_total (λ x. word_or_0 x.log.pending.logged) vs id v (after_made v.me) (right_of k m) at refl in let before = r.next in omega arith);
      lock = (let sum = split_total (λ x. is_held x.log.holding) vs id v (after_made v.me) (right_of k m) at refl in let before = r.lock in omega arith);
      hands = each_more (λ x. HandFits k w h (hand_of x)) (set vs id (left_of v)) (account (caller_after k m) 0) (right_of k m) refl refl (quiet_fits k w h (hand_of (account (caller_after k m) 0)) (omega arith) refl refl)
          (changed (λ x. HandFits k w h (hand_of x)) vs id v (after_made v.me) at
          (quiet_fits k w h (hand_of (after_made v.me)) f.seen (other_who w (hand_of v.me) (Opener (made_by v.me.who + 1)) v.me.log.holding free f.holds) (free_quiet w (hand_of v.me) v.me.log.holding free f.holds))
          r.hands);
    }

caller_stories : (k : Shape) (h : List Event) (vs : List View) (id m : ℕ) (v : View) → SeatRule k vs → StoryRule k h vs → get_elem? vs id ≡ some v → v.me.who ≡ Opener m → StoryRule k h (set vs id (left_of v) ++ right_of k m ∷ [])
caller_stories k h vs id m v seats r at is =
    let all : List View = set vs id (left_of v) ++ right_of k m ∷ [] in
    let new : Who = caller_after k m in
    let old_made : made vs ≡ m = made_is k vs id m v seats at is in
    let own : IsTrueStory k h v.me.who v.me.entries = mine (λ x. IsTrueStory k h x.who x.entries) vs id v at r.stories in record {
      stories = each_more (λ x. IsTrueStory k h x.who x.entries) (set vs id (left_of v)) (account new 0) (right_of k m) refl refl
          record { each = each_none (λ e. IsTrueLog k h e.entry); own = own_after k m h (r.none_before (m + 1) (omega arith)) }
          (changed (λ x. IsTrueStory k h x.who x.entries) vs id v (after_made v.me) at record { each = own.each; own = sym (ap (own_events h) is) ∙ own.own } r.stories);
      none_before = λ c past. r.none_before c (
          let sum : made all + made_by v.me.who ≡ made vs + (made_by v.me.who + 1) + made_by new = split_total (λ x. made_by x.who) vs id v (after_made v.me) (right_of k m) at refl in omega arith
          );
    }

-- an account that has no region
other_store : (k : Shape) (regions : ℕ → ℕ) (m n : ℕ) (a : Store) → a.who ≡ Opener m → RoomFits k regions a → RoomFits k regions record { who = Opener n; room = a.room; pending = a.pending }
other_store k regions m n a is f =
    let g : RoomFits k regions record { who = Opener m; room = a.room; pending = a.pending } = subst (λ (w : Who). RoomFits k regions record { who = w; room = a.room; pending = a.pending }) is f in
    record { within = g.within; stands = g.stands; sealed = g.sealed; in_order = g.in_order; shows = g.shows; logged = g.logged }

caller_rooms : (k : Shape) (regions : ℕ → ℕ) (front : ℕ) (slots : ℕ → ℕ) (vs : List View) (id m : ℕ) (v : View) → RoomRule k regions front slots vs → get_elem? vs id ≡ some v → v.me.who ≡ Opener m → RoomRule k regions front slots (set vs id (left_of v) ++ right_of k m ∷ [])
caller_rooms k regions front slots vs id m v r at is = record {
  rooms = each_more (λ x. RoomFits k regions (store_of x)) (set vs id (left_of v)) (account (caller_after k m) 0) (right_of k m) refl refl (none_fits k regions (caller_after k m))
      (changed (λ x. RoomFits k regions (store_of x)) vs id v (after_made v.me) at (other_store k regions m (made_by v.me.who + 1) (store_of v.me) is (mine (λ x. RoomFits k regions (store_of x)) vs id v at r.rooms)) r.rooms);
  named = λ i behind kind. some_more (ShowsSealed (slots i)) (set vs id (left_of v)) (right_of k m)
      (some_changed (ShowsSealed (slots i)) vs id v (after_made v.me) at (λ t. absurd (opener_clash (sym is ∙ t.0))) (r.named i behind kind));
}

pub caller : (k : Shape) (p : Parts) (h : List Event) (vs : List View) (id m : ℕ) (v : View) → Rule k p h vs → get_elem? vs id ≡ some v → v.me.who ≡ Opener m → v.shape ≡ k → m < k.loaders + k.searchers → Rule k p h (set vs id (left_of v) ++ right_of k m ∷ [])
caller k p h vs id m v r at is shape room = record {
  seats = caller_seats k vs id m v r.seats at is shape room;
  log = caller_log k p.log h vs id m v r.log at is;
  stories = caller_stories k h vs id m v r.seats r.stories at is;
  loads = each_more (λ x. Each (LoadFits k p.log) x.loads.shown) (set vs id (left_of v)) (account (caller_after k m) 0) (right_of k m) refl refl (each_none (LoadFits k p.log))
      (changed (λ x. Each (LoadFits k p.log) x.loads.shown) vs id v (after_made v.me) at (mine (λ x. Each (LoadFits k p.log) x.loads.shown) vs id v at r.loads) r.loads);
  full = each_more (λ x. Each (λ e. IsTrueRoom (k.room - length x.room.used) e.entry) x.entries) (set vs id (left_of v)) (account (caller_after k m) 0) (right_of k m) refl refl (each_none (λ e. IsTrueRoom (k.room - length {A = ℕ} []) e.entry))
      (changed (λ x. Each (λ e. IsTrueRoom (k.room - length x.room.used) e.entry) x.entries) vs id v (after_made v.me) at (mine (λ x. Each (λ e. IsTrueRoom (k.room - length x.room.used) e.entry) x.entries) vs id v at r.full) r.full);
  rooms = caller_rooms k p.regions p.log.front p.log.slots vs id m v r.rooms at is;
  marks = marks_caller k p vs id m v r.marks at;
  records = records_caller k vs id m v r.records at is;
  facts = facts_caller k p.regions p.log.front vs id m v r.facts at;
  own = own_caller p.pages k vs id m v r.own at;
  pool = pool_caller k p.pool vs id m v r.seats r.pool at is;
  rows = rows_caller k vs id m v r.rows at is;
  pins = each_more (λ x. x.tree.front ≤ p.log.front) (set vs id (left_of v)) (account (caller_after k m) 0) (right_of k m) refl refl (omega arith) (pins_same p.log.front p.log.front vs id v (after_made v.me) r.pins at (omega arith) (pin_here p.log.front vs id v r.pins at));
  published = published_caller k vs id m v r.published at is;
  tree = tree_caller k p.pool.states p.pages (codes_in k p.regions) (IsOldRow k p.regions p.log.slots) vs id m v (no_old k p.regions p.log.slots) (λ n. placed_begun k vs n r.rows) at (sheet_caller p.pool.states k vs id m v at) r.tree;
  chains = subst (λ (x : Sheet). ChainRule k p.pages x (set vs id (left_of v) ++ right_of k m ∷ [])) (sym (sheet_caller p.pool.states k vs id m v at)) (each_more (λ x. Each (λ e. IsTrueChain k p.pages (sheet_of p.pool.states vs) e.entry) x.entries) (set vs id (left_of v)) (account (caller_after k m) 0) (right_of k m) refl refl (each_none (λ e. IsTrueChain k p.pages (sheet_of p.pool.states vs) e.entry))
      (changed (λ x. Each (λ e. IsTrueChain k p.pages (sheet_of p.pool.states vs) e.entry) x.entries) vs id v (after_made v.me) at (mine (λ x. Each (λ e. IsTrueChain k p.pages (sheet_of p.pool.states vs) e.entry) x.entries) vs id v at r.chains) r.chains));
  swept = swept_views k p vs (set vs id (left_of v) ++ right_of k m ∷ []) (set vs id (left_of v) ++ right_of k m ∷ []) (λ n t. some_more (λ x. HasRow n x.tree.placed) (set vs id (left_of v)) (right_of k m) (some_changed (λ x. HasRow n x.tree.placed) vs id v (after_made v.me) at (λ y. y) t))
      (each_more (OwnSwept k p vs) (set vs id (left_of v)) (account (caller_after k m) 0) (right_of k m) refl refl (each_none (λ e. IsSweptOn k p vs e.entry)) (changed (OwnSwept k p vs) vs id v (after_made v.me) at (mine (OwnSwept k p vs) vs id v at r.swept) r.swept));
  empty = each_more (λ x. Each (λ e. IsTruePool k p.pool.states e.entry) x.entries) (set vs id (left_of v)) (account (caller_after k m) 0) (right_of k m) refl refl (each_none (λ e. IsTruePool k p.pool.states e.entry))
      (changed (λ x. Each (λ e. IsTruePool k p.pool.states e.entry) x.entries) vs id v (after_made v.me) at (mine (λ x. Each (λ e. IsTruePool k p.pool.states e.entry) x.entries) vs id v at r.empty) r.empty);
}

not_gone : {m : ℕ} → Opener m ≡ Gone → ⊥
not_gone e = cc

pub caller_splits : (k : Shape) (id m : ℕ) (v : View) → v.me.who ≡ Opener m → m < k.loaders + k.searchers → Splits (Holds k) id v (with_me v (after_made v.me)) (view v.shape (account (caller_after v.shape (made_by v.me.who)) 0))
caller_splits k id m v is room s h at =
    let p : Parts = parts_of k s.words in
    let shape : v.shape ≡ k = h.rule.seats.shapes id v at (λ e. not_gone (sym is ∙ e)) in record {
      wide = h.wide;
      rule = subst (λ (x : Shape × ℕ). Rule k p (history_of k p) (set s.views id (left_of v) ++ view x.0 (account (caller_after x.0 x.1) 0) ∷ [])) (λ i. (sym shape i, sym (ap made_by is) i))
          (caller k p (history_of k p) s.views id m v h.rule at is shape room);
    }
