-- A seat is split: a note of the front that was seen.
use Rattle.std.proofs.Common.{◌≡◌, ◌≢◌, ℕ, ◌≤◌, List, [], ◌∷◌, ◌++◌, sym, refl, ap, ◌∙◌, subst, arith}
use mathlib.Core.Option.{some}
use lib.ListN.{get_elem?}
use Rattle.atomic_table.specs.Table.{Splits}
use Rattle.atomic_table.proofs.Lists.{set_again}
use Rattle.htss_defs.specs.declared.shape.Shape.{Shape}
use Rattle.htss_defs.specs.declared.history.Event.{Event}
use Rattle.board_core.specs.declared.account.Account.{Account}
use Rattle.board_core.specs.declared.account.View.{View}
use Rattle.board_core.specs.declared.account.Who.{Who}
use Rattle.board_core.specs.declared.account.Who.TheVariants.{Note, Gone}
use Rattle.board_core.specs.Each.{Each}
use Rattle.board_core.specs.Words.{LogWords, Parts, parts_of}
use Rattle.board_core.specs.Histories.{history_of}
use Rattle.board_core.specs.Accounts.{account, view, total}
use Rattle.board_core.specs.SeatRule.{SeatRule, WhoFits, made}
use Rattle.board_core.specs.LogRule.{hand_of, is_held, word_or_0, HandFits, LogRule}
use Rattle.board_core.specs.Truths.{IsTrueLog, IsTrueStory}
use Rattle.board_core.specs.StoryRule.{StoryRule}
use Rattle.board_core.specs.LoadRule.{LoadFits}
use Rattle.board_core.specs.RoomRule.{store_of, RoomFits, ShowsSealed}
use Rattle.board_core.specs.Swept.{IsSweptOn}
use Rattle.board_core.specs.Rows.{HasRow}
use Rattle.board_core.proofs.SweptFrame.{OwnSwept, swept_views}
use Rattle.board_core.proofs.RoomFrame.{none_fits}
use Rattle.board_core.proofs.Some.{some_more}
use Rattle.board_core.specs.Truths.{IsTrueRoom}
use Rattle.std.proofs.Common.{◌-◌, length}
use Rattle.board_core.proofs.MarkSeats.{marks_note}
use Rattle.board_core.proofs.RecordFrame.{records_note}
use Rattle.board_core.proofs.FactFrame.{facts_note}
use Rattle.board_core.proofs.PoolSeats.{pool_note}
use Rattle.board_core.specs.Truths.{IsTruePool}
use Rattle.board_core.proofs.OwnFrame.{own_note}
use Rattle.board_core.specs.Holds.{Rule, Holds}
use Rattle.board_core.proofs.Lists.{each_none, each_snoc}
use Rattle.board_core.proofs.Everyone.{each_more, total_more}
use Rattle.board_core.proofs.LogFrame.{hand_at, quiet_fits}
use Rattle.board_core.specs.Accounts.{made_by, is_opener, is_seat}
use Rattle.board_core.proofs.Callers.{seat_none}
use Rattle.board_core.specs.Rows.{codes_in}
use Rattle.board_core.specs.OldRows.{IsOldRow}
use Rattle.board_core.proofs.RowFrame.{rows_note, placed_begun}
use Rattle.board_core.proofs.TreeFrame.{tree_note}
use Rattle.board_core.proofs.PoolSeats.{sheet_note}
use Rattle.board_core.specs.Sheets.{Sheet, sheet_of}
use Rattle.board_core.specs.ChainRule.{IsTrueChain, ChainRule}
use Rattle.std.proofs.Common.{sym, subst}
use Rattle.board_core.proofs.PublishedFrame.{published_note}
use Rattle.board_core.proofs.OldMoved.{no_old}

note_seats : (k : Shape) (vs : List View) (n : View) (front : ℕ) → SeatRule k vs → n.me ≡ account Note front → n.kept ≡ [] → n.shape ≡ k → SeatRule k (vs ++ n ∷ [])
note_seats k vs n front r is none_kept shape =
    let count : (f : Who → ℕ) → f Note ≡ 0 → total (λ x. f x.who) (vs ++ n ∷ []) ≡ total (λ x. f x.who) vs = λ f blank.
    let sum = total_more (λ x. f x.who) vs n none_kept in let new : f n.me.who ≡ 0 = ap (λ (x : Account). f x.who) is ∙ blank in omega arith
    in
    let as_many : made (vs ++ n ∷ []) ≡ made vs = count made_by refl in record {
      shapes = each_snoc (λ (u : View). u.me.who ≢ Gone → u.shape ≡ k) vs n (λ _. shape) r.shapes;
      limits = each_more (λ x. WhoFits k x.who) vs (account Note front) n is none_kept tt r.limits;
      one_opener = count is_opener refl ∙ r.one_opener;
      callers = λ c above within. count (is_seat k c) (seat_none k c Note refl above) ∙ r.callers c above (omega arith);
      none_past = λ c past. count (is_seat k c) (seat_none k c Note refl (omega arith)) ∙ r.none_past c (omega arith);
    }

note_log : (k : Shape) (w : LogWords) (h : List Event) (vs : List View) (n : View) (front : ℕ) → LogRule k w h vs → n.me ≡ account Note front → n.kept ≡ [] → front ≤ w.front → LogRule k w h (vs ++ n ∷ [])
note_log k w h vs n front r is none_kept seen =
    let count : (f : Account → ℕ) → f (account Note front) ≡ 0 → total f (vs ++ n ∷ []) ≡ total f vs = λ f blank.
    let sum = total_more f vs n none_kept in let new : f n.me ≡ 0 = ap f is ∙ blank in omega arith
    in record {
      front = r.front;
      counted = r.counted;
      legal = r.legal;
      callers = r.callers;
      blank = r.blank;
      next = r.next ∙ sym (count (λ x. word_or_0 x.log.pending.logged) refl);
      lock = count (λ x. is_held x.log.holding) refl ∙ r.lock;
      hands = each_more (λ x. HandFits k w h (hand_of x)) vs (account Note front) n is none_kept (quiet_fits k w h (hand_of (account Note front)) seen refl refl) r.hands;
    }

note_stories : (k : Shape) (h : List Event) (vs : List View) (n : View) (front : ℕ) → StoryRule k h vs → n.me ≡ account Note front → n.kept ≡ [] → StoryRule k h (vs ++ n ∷ [])
note_stories k h vs n front r is none_kept =
    let as_many : made (vs ++ n ∷ []) ≡ made vs = (let sum = total_more (λ x. made_by x.who) vs n none_kept in let new : made_by n.me.who ≡ 0 = ap (λ (x : Account). made_by x.who) is in omega arith) in record {
      stories = each_more (λ x. IsTrueStory k h x.who x.entries) vs (account Note front) n is none_kept record { each = each_none (λ e. IsTrueLog k h e.entry); own = refl } r.stories;
      none_before = λ c past. r.none_before c (omega arith);
    }

pub note : (k : Shape) (p : Parts) (h : List Event) (vs : List View) (id : ℕ) (v : View) → Rule k p h vs → get_elem? vs id ≡ some v → v.me.who ≢ Gone → Rule k p h (vs ++ view v.shape (account Note v.me.log.seen) ∷ [])
note k p h vs id v r at here =
    let front : ℕ = v.me.log.seen in
    let n : View = view v.shape (account Note front) in record {
      seats = note_seats k vs n front r.seats refl refl (r.seats.shapes id v at here);
      log = note_log k p.log h vs n front r.log refl refl (hand_at k p.log h vs id v r.log at).seen;
      stories = note_stories k h vs n front r.stories refl refl;
      loads = each_more (λ x. Each (LoadFits k p.log) x.loads.shown) vs (account Note front) n refl refl (each_none (LoadFits k p.log)) r.loads;
      full = each_more (λ x. Each (λ e. IsTrueRoom (k.room - length x.room.used) e.entry) x.entries) vs (account Note front) n refl refl (each_none (λ e. IsTrueRoom (k.room - length {A = ℕ} []) e.entry)) r.full;
      rooms = record {
        rooms = each_more (λ x. RoomFits k p.regions (store_of x)) vs (account Note front) n refl refl (none_fits k p.regions Note) r.rooms.rooms;
        named = λ i behind kind. some_more (ShowsSealed (p.log.slots i)) vs n (r.rooms.named i behind kind);
      };
      marks = marks_note k p vs v r.marks;
      records = records_note k vs v.shape front r.records;
      facts = facts_note k p.regions p.log.front vs v.shape front r.facts;
      own = own_note p.pages vs v.shape front r.own;
      pool = pool_note k p.pool vs v.shape front r.pool;
      rows = rows_note k vs v.shape front r.rows;
      pins = each_more (λ x. x.tree.front ≤ p.log.front) vs (account Note front) n refl refl (omega arith) r.pins;
      published = published_note k vs v.shape front r.published;
      tree = tree_note k p.pool.states p.pages (codes_in k p.regions) (IsOldRow k p.regions p.log.slots) vs v.shape front (no_old k p.regions p.log.slots) (λ n. placed_begun k vs n r.rows) (sheet_note p.pool.states vs v.shape front) r.tree;
      chains = subst (λ (x : Sheet). ChainRule k p.pages x (vs ++ n ∷ [])) (sym (sheet_note p.pool.states vs v.shape front)) (each_more (λ x. Each (λ e. IsTrueChain k p.pages (sheet_of p.pool.states vs) e.entry) x.entries) vs (account Note front) n refl refl (each_none (λ e. IsTrueChain k p.pages (sheet_of p.pool.states vs) e.entry)) r.chains);
      swept = swept_views k p vs (vs ++ n ∷ []) (vs ++ n ∷ []) (λ m t. some_more (λ x. HasRow m x.tree.placed) vs n t) (each_more (OwnSwept k p vs) vs (account Note front) n refl refl (each_none (λ e. IsSweptOn k p vs e.entry)) r.swept);
      empty = each_more (λ x. Each (λ e. IsTruePool k p.pool.states e.entry) x.entries) vs (account Note front) n refl refl (each_none (λ e. IsTruePool k p.pool.states e.entry)) r.empty;
    }

pub note_splits : (k : Shape) (id : ℕ) (v : View) → v.me.who ≢ Gone → Splits (Holds k) id v v (view v.shape (account Note v.me.log.seen))
note_splits k id v here s h at = let p : Parts = parts_of k s.words in record {
  wide = h.wide;
  rule = subst (λ (l : List View). Rule k p (history_of k p) (l ++ view v.shape (account Note v.me.log.seen) ∷ [])) (sym (set_again s.views id v at)) (note k p (history_of k p) s.views id v h.rule at here);
}
