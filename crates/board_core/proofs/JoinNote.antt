-- A seat is joined: a note is heard.
use Rattle.std.proofs.Common.{subst, suc, zero, [], ◌∷◌, ◌≡◌, ◌≢◌, ℕ, ◌+◌, ◌≤◌, List, max, set, sym, refl, ap, ◌∙◌, arith}
use mathlib.Core.Option.{some, some-injective, some-ne-none}
use lib.ListN.{get_elem?}
use Rattle.atomic_table.specs.Table.{Joins}
use Rattle.htss_defs.specs.declared.shape.Shape.{Shape}
use Rattle.htss_defs.specs.declared.history.Event.{Event}
use Rattle.board_core.specs.declared.account.Account.{Account}
use Rattle.board_core.specs.declared.account.View.{View}
use Rattle.board_core.specs.declared.account.Who.TheVariants.{Loader, Note, Gone}
use Rattle.board_core.specs.declared.log.Holding.{Holding}
use Rattle.board_core.specs.declared.log.Holding.TheVariants.{Away, Taken, Fronted}
use Rattle.board_core.specs.Each.{Each, sum_of}
use Rattle.board_core.specs.Words.{LogWords, Parts, parts_of}
use Rattle.board_core.specs.Histories.{history_of}
use Rattle.board_core.specs.Accounts.{account, with_me, gone, view, accounts_in, total}
use Rattle.board_core.specs.SeatRule.{WhoFits, made}
use Rattle.board_core.specs.LogRule.{Hand, hand_of, is_held, word_or_0, Holds as HoldsLock, HandFits, LogRule}
use Rattle.board_core.specs.Truths.{IsTrueLog, IsTrueStory}
use Rattle.board_core.specs.LoadRule.{LoadFits}
use Rattle.board_core.specs.RoomRule.{store_of, RoomFits, ShowsSealed}
use Rattle.board_core.specs.Swept.{IsSweptOn}
use Rattle.board_core.specs.Rows.{HasRow}
use Rattle.board_core.proofs.RoomFrame.{none_fits}
use Rattle.board_core.proofs.Some.{some_left}
use Rattle.board_core.proofs.FullFrame.{full_same}
use Rattle.board_core.proofs.EmptyFrame.{empty_same}
use Rattle.board_core.specs.Truths.{IsTrueRoom}
use Rattle.std.proofs.Common.{◌-◌, length}
use Rattle.board_core.proofs.MarkSeats.{marks_hear}
use Rattle.board_core.proofs.RecordFrame.{records_note_goes}
use Rattle.board_core.proofs.FactFrame.{facts_note_goes}
use Rattle.board_core.proofs.PoolSeats.{pool_note_goes}
use Rattle.board_core.specs.Truths.{IsTruePool}
use Rattle.board_core.proofs.OwnFrame.{own_left}
use Rattle.board_core.specs.Holds.{Rule, Holds}
use Rattle.board_core.specs.After.{after_hear}
use Rattle.board_core.proofs.Lists.{each_none, each_kept}
use Rattle.board_core.proofs.Everyone.{changed, total_same, each_left, total_left}
use Rattle.board_core.proofs.LogFrame.{hand_at, quiet_fits}
use Rattle.board_core.proofs.StoryFrame.{stories_same}
use Rattle.board_core.proofs.LoadFrame.{loads_same, not_later}
use Rattle.board_core.proofs.Stepped.{by_log}
use Rattle.atomic_table.proofs.Lists.{set_else}
use Rattle.board_core.specs.Accounts.{made_by, is_opener, is_seat}
use Rattle.board_core.proofs.Callers.{seat_none}
use Rattle.board_core.specs.Rows.{codes_in}
use Rattle.board_core.specs.OldRows.{IsOldRow}
use Rattle.board_core.proofs.RowFrame.{rows_left, placed_begun}
use Rattle.board_core.proofs.TreeFrame.{tree_note_goes}
use Rattle.board_core.proofs.PoolSeats.{sheet_note_goes}
use Rattle.board_core.proofs.SweptFrame.{OwnSwept, swept_here, swept_views}
use Rattle.board_core.proofs.ChainFrame.{chains_same}
use Rattle.board_core.specs.Sheets.{Sheet, sheet_of}
use Rattle.board_core.specs.ChainRule.{IsTrueChain, ChainRule}
use Rattle.std.proofs.Common.{sym, subst}
use Rattle.board_core.proofs.PublishedFrame.{published_left}
use Rattle.board_core.proofs.OldMoved.{no_old}

-- ---- a note's seat goes

left_same : (f : Account → ℕ) (vs : List View) (other front : ℕ) (w : View) → get_elem? vs other ≡ some w → w ≡ view w.shape (account Note front) → f (account Note front) ≡ 0 → f (account Gone 0) ≡ 0 → total f (set vs other gone) ≡ total f vs
left_same f vs other front w there is blank none_gone =
    let sum : total f (set vs other gone) + sum_of f (accounts_in w) ≡ total f vs = total_left f vs other w there none_gone in
    let of_note : sum_of f (accounts_in w) ≡ f (account Note front) + 0 = ap (λ (x : View). sum_of f (accounts_in x)) is in omega arith

note_clash : {n : ℕ} → Note ≡ Loader n → ⊥
note_clash e = cc

no_row : (n front : ℕ) (w : View) → w ≡ view w.shape (account Note front) → (i : ℕ) × (a : Account) × (get_elem? (accounts_in w) i ≡ some a) × HasRow n a.tree.placed → ⊥
no_row n front w is t = none_placed front (subst (λ (x : View). (i : ℕ) × (a : Account) × (get_elem? (accounts_in x) i ≡ some a) × HasRow n a.tree.placed) is t)
  where
    none_placed : (front : ℕ) → (i : ℕ) × (a : Account) × (get_elem? (account Note front ∷ []) i ≡ some a) × HasRow n a.tree.placed → ⊥
    none_placed front (zero, a, there, r) = let none_here : HasRow n [] = subst (λ (x : Account). HasRow n x.tree.placed) (sym (some-injective (account Note front) a there)) r in some-ne-none none_here.0 (sym none_here.1.1)
    none_placed front (suc i, a, there, r) = some-ne-none a (sym there)

no_note : (word front : ℕ) (w : View) → w ≡ view w.shape (account Note front) → (i : ℕ) × (a : Account) × (get_elem? (accounts_in w) i ≡ some a) × ShowsSealed word a → ⊥
no_note word front w is t = no_one word front (subst (λ (x : View). (i : ℕ) × (a : Account) × (get_elem? (accounts_in x) i ≡ some a) × ShowsSealed word a) is t)
  where
    no_one : (word front : ℕ) → (i : ℕ) × (a : Account) × (get_elem? (account Note front ∷ []) i ≡ some a) × ShowsSealed word a → ⊥
    no_one word front (zero, a, there, shown) = note_clash (ap (λ (x : Account). x.who) (some-injective (account Note front) a there) ∙ shown.0)
    no_one word front (suc i, a, there, shown) = some-ne-none a (sym there)

pub note_goes : (k : Shape) (p : Parts) (h : List Event) (vs : List View) (other front : ℕ) (w : View) → Rule k p h vs → get_elem? vs other ≡ some w → w ≡ view w.shape (account Note front) → Rule k p h (set vs other gone)
note_goes k p h vs other front w r there is =
    let count : (f : Account → ℕ) → f (account Note front) ≡ 0 → f (account Gone 0) ≡ 0 → total f (set vs other gone) ≡ total f vs = λ f blank none_gone. left_same f vs other front w there is blank none_gone in
    let as_many : made (set vs other gone) ≡ made vs = count (λ x. made_by x.who) refl refl in record {
      seats = record {
        shapes = each_kept (λ (u : View). u.me.who ≢ Gone → u.shape ≡ k) vs other gone (λ here. absurd (here refl)) r.seats.shapes;
        limits = each_left (λ x. WhoFits k x.who) vs other tt r.seats.limits;
        one_opener = count (λ x. is_opener x.who) refl refl ∙ r.seats.one_opener;
        callers = λ c above within. count (λ x. is_seat k c x.who) (seat_none k c Note refl above) (seat_none k c Gone refl above) ∙ r.seats.callers c above (omega arith);
        none_past = λ c past. count (λ x. is_seat k c x.who) (seat_none k c Note refl (omega arith)) (seat_none k c Gone refl (omega arith)) ∙ r.seats.none_past c (omega arith);
      };
      log = record {
        front = r.log.front;
        counted = r.log.counted;
        legal = r.log.legal;
        callers = r.log.callers;
        blank = r.log.blank;
        next = r.log.next ∙ sym (count (λ x. word_or_0 x.log.pending.logged) refl refl);
        lock = count (λ x. is_held x.log.holding) refl refl ∙ r.log.lock;
        hands = each_left (λ x. HandFits k p.log h (hand_of x)) vs other (quiet_fits k p.log h (hand_of (account Gone 0)) (omega arith) refl refl) r.log.hands;
      };
      stories = record {
        stories = each_left (λ x. IsTrueStory k h x.who x.entries) vs other record { each = each_none (λ e. IsTrueLog k h e.entry); own = refl } r.stories.stories;
        none_before = λ c past. r.stories.none_before c (omega arith);
      };
      loads = each_left (λ x. Each (LoadFits k p.log) x.loads.shown) vs other (each_none (LoadFits k p.log)) r.loads;
      full = each_left (λ x. Each (λ e. IsTrueRoom (k.room - length x.room.used) e.entry) x.entries) vs other (each_none (λ e. IsTrueRoom (k.room - length {A = ℕ} []) e.entry)) r.full;
      rooms = record {
        rooms = each_left (λ x. RoomFits k p.regions (store_of x)) vs other (none_fits k p.regions Gone) r.rooms.rooms;
        named = λ i behind kind. some_left (ShowsSealed (p.log.slots i)) vs other w there (λ t. no_note (p.log.slots i) front w is t) (r.rooms.named i behind kind);
      };
      marks = marks_hear k p vs other front w r.marks there is;
      records = records_note_goes k vs other r.records;
      facts = facts_note_goes k p.regions p.log.front vs other front w r.facts there is;
      own = own_left p.pages vs other r.own;
      pool = pool_note_goes k p.pool vs other front w r.pool there is;
      rows = rows_left k vs other r.rows;
      pins = each_left (λ x. x.tree.front ≤ p.log.front) vs other (omega arith) r.pins;
      published = published_left k vs other r.published;
      tree = tree_note_goes k p.pool.states p.pages (codes_in k p.regions) (IsOldRow k p.regions p.log.slots) vs other front w (no_old k p.regions p.log.slots) (λ n. placed_begun k vs n r.rows) there is (sheet_note_goes p.pool.states vs other front w there is) r.tree;
      chains = subst (λ (x : Sheet). ChainRule k p.pages x (set vs other gone)) (sym (sheet_note_goes p.pool.states vs other front w there is)) (each_left (λ x. Each (λ e. IsTrueChain k p.pages (sheet_of p.pool.states vs) e.entry) x.entries) vs other (each_none (λ e. IsTrueChain k p.pages (sheet_of p.pool.states vs) e.entry)) r.chains);
      swept = swept_views k p vs (set vs other gone) (set vs other gone) (λ n t. some_left (λ x. HasRow n x.tree.placed) vs other w there (λ y. no_row n front w is y) t) (each_left (OwnSwept k p vs) vs other (each_none (λ e. IsSweptOn k p vs e.entry)) r.swept);
      empty = each_left (λ x. Each (λ e. IsTruePool k p.pool.states e.entry) x.entries) vs other (each_none (λ e. IsTruePool k p.pool.states e.entry)) r.empty;
    }

-- ---- the hearer's front

-- the front stays where the caller had it already
heard_holds : (w : LogWords) (x : Hand) (front : ℕ) (b : Holding) → front ≤ w.front → HoldsLock w x b → HoldsLock w record { who = x.who; log = record { seen = max x.log.seen front; holding = x.log.holding; pending = x.log.pending } } b
heard_holds w x front Away seen holds = holds
heard_holds w x front Taken seen holds = holds
heard_holds w x front Fronted seen holds = let same : x.log.seen ≡ w.front = holds.1 in (holds.0, omega arith)

hear_log : (k : Shape) (w : LogWords) (h : List Event) (vs : List View) (id front : ℕ) (v : View) → LogRule k w h vs → get_elem? vs id ≡ some v → front ≤ w.front → LogRule k w h (set vs id (with_me v (after_hear v.me front)))
hear_log k w h vs id front v r at seen = let f = hand_at k w h vs id v r at in let own = f.seen in record {
  front = r.front;
  counted = r.counted;
  legal = r.legal;
  callers = r.callers;
  blank = r.blank;
  next = r.next ∙ sym (total_same (λ x. word_or_0 x.log.pending.logged) vs id v (after_hear v.me front) at refl);
  lock = total_same (λ x. is_held x.log.holding) vs id v (after_hear v.me front) at refl ∙ r.lock;
  hands = changed (λ x. HandFits k w h (hand_of x)) vs id v (after_hear v.me front) at
      record { seen = omega arith; holds = heard_holds w (hand_of v.me) front v.me.log.holding seen f.holds; shows = f.shows; ends = f.ends; logged = f.logged } r.hands;
}

pub hear : (k : Shape) (p : Parts) (h : List Event) (vs : List View) (id front : ℕ) (v : View) → Rule k p h vs → get_elem? vs id ≡ some v → front ≤ p.log.front → Rule k p h (set vs id (with_me v (after_hear v.me front)))
hear k p h vs id front v r at seen = by_log k p p h h vs id v (after_hear v.me front) r at
    record { who = refl; pool_words = refl; page_words = refl; pool = refl; tree = refl; counts = refl; epochs = refl; states = refl; lost = refl }
    record { words = refl; front = refl; slots = refl; store = refl }
    record { heads = refl; facts = refl; codes = refl; marks = refl }
    (hear_log k p.log h vs id front v r.log at seen)
    (stories_same k h vs id v (after_hear v.me front) r.stories at refl refl)
    (full_same k vs id v (after_hear v.me front) r.full at refl refl)
    (empty_same k p.pool.states vs id v (after_hear v.me front) r.empty at refl)
    (chains_same k p.pages p.pool.states vs id v (after_hear v.me front) r.chains at refl refl)
    (swept_here k p h vs id v (after_hear v.me front) r at refl)
    (loads_same k p.log p.log vs id v (after_hear v.me front) r.loads at (not_later p.log p.log refl refl) refl)

pub note_joins : (k : Shape) (id other front : ℕ) (v w : View) → w ≡ view w.shape (account Note front) → Joins (Holds k) id v other w (with_me v (after_hear v.me w.me.log.seen)) gone
note_joins k id other front v w is s h at apart moved_there =
    let p : Parts = parts_of k s.words in
    let told : ℕ = w.me.log.seen in
    let mid : List View = set s.views id (with_me v (after_hear v.me told)) in
    let there : get_elem? s.views other ≡ some w = sym (set_else s.views id other (with_me v (after_hear v.me told)) apart) ∙ moved_there in
    let seen = (hand_at k p.log (history_of k p) s.views other w h.rule.log there).seen in record {
      wide = h.wide;
      rule = note_goes k p (history_of k p) mid other front w (hear k p (history_of k p) s.views id told v h.rule at seen) moved_there is;
    }
