-- A seat is joined: a caller is gathered, and its account is kept as it was.
use Rattle.std.proofs.Common.{◌≤◌}
use Rattle.std.proofs.Common.{[], ◌≡◌, ◌≢◌, ℕ, List, set, sym, refl, ◌∙◌, arith}
use mathlib.Core.Option.{some}
use lib.ListN.{get_elem?}
use Rattle.atomic_table.specs.Table.{Joins}
use Rattle.htss_defs.specs.declared.shape.Shape.{Shape}
use Rattle.htss_defs.specs.declared.history.Event.{Event}
use Rattle.board_core.specs.declared.account.Account.{Account}
use Rattle.board_core.specs.declared.account.View.{View}
use Rattle.board_core.specs.declared.account.Who.TheVariants.{Gone}
use Rattle.board_core.specs.Each.{Each}
use Rattle.board_core.specs.Words.{Parts, parts_of}
use Rattle.board_core.specs.Histories.{history_of}
use Rattle.board_core.specs.Accounts.{account, keeping, gone, total}
use Rattle.board_core.specs.SeatRule.{WhoFits, made}
use Rattle.board_core.specs.LogRule.{hand_of, is_held, word_or_0, HandFits}
use Rattle.board_core.specs.Truths.{IsTrueLog, IsTrueStory}
use Rattle.board_core.specs.LoadRule.{LoadFits}
use Rattle.board_core.specs.RoomRule.{store_of, RoomFits, ShowsSealed}
use Rattle.board_core.specs.Swept.{IsSweptOn}
use Rattle.board_core.specs.Rows.{HasRow}
use Rattle.board_core.proofs.SweptFrame.{OwnSwept, swept_views}
use Rattle.board_core.proofs.RoomFrame.{none_fits}
use Rattle.board_core.proofs.Some.{some_gathered}
use Rattle.board_core.specs.Truths.{IsTrueRoom}
use Rattle.std.proofs.Common.{◌-◌, length}
use Rattle.board_core.proofs.MarkSeats.{marks_gather}
use Rattle.board_core.proofs.RecordFrame.{records_gather}
use Rattle.board_core.proofs.FactFrame.{facts_gather}
use Rattle.board_core.proofs.PoolSeats.{pool_gather}
use Rattle.board_core.specs.Truths.{IsTruePool}
use Rattle.board_core.proofs.OwnFrame.{own_gather}
use Rattle.board_core.specs.Holds.{Rule, Holds}
use Rattle.board_core.proofs.Lists.{each_none, each_kept}
use Rattle.board_core.proofs.Everyone.{each_gathered, total_gathered}
use Rattle.board_core.proofs.LogFrame.{quiet_fits}
use Rattle.atomic_table.proofs.Lists.{set_else}
use Rattle.board_core.specs.Accounts.{made_by, is_opener, is_seat}
use Rattle.board_core.proofs.Callers.{seat_none}
use Rattle.board_core.specs.Rows.{codes_in}
use Rattle.board_core.specs.OldRows.{IsOldRow}
use Rattle.board_core.proofs.RowFrame.{rows_gather, placed_begun}
use Rattle.board_core.proofs.TreeFrame.{tree_gather}
use Rattle.board_core.proofs.PoolSeats.{sheet_gather}
use Rattle.board_core.specs.Sheets.{Sheet, sheet_of}
use Rattle.board_core.specs.ChainRule.{IsTrueChain, ChainRule}
use Rattle.std.proofs.Common.{sym, subst}
use Rattle.board_core.proofs.PublishedFrame.{published_gather}
use Rattle.board_core.proofs.OldMoved.{no_old}

pub gather : (k : Shape) (p : Parts) (h : List Event) (vs : List View) (id other : ℕ) (v w : View) → Rule k p h vs → get_elem? vs id ≡ some v → ¬ (other ≡ id) → get_elem? vs other ≡ some w → Rule k p h (set (set vs id (keeping v w)) other gone)
gather k p h vs id other v w r at apart there =
    let all : List View = set (set vs id (keeping v w)) other gone in
    let count : (f : Account → ℕ) → f (account Gone 0) ≡ 0 → total f all ≡ total f vs = λ f none_gone. total_gathered f vs id other v w at apart there none_gone in
    let as_many : made all ≡ made vs = count (λ x. made_by x.who) refl in record {
      seats = record {
        shapes = each_kept (λ (u : View). u.me.who ≢ Gone → u.shape ≡ k) (set vs id (keeping v w)) other gone (λ here. absurd (here refl))
            (each_kept (λ (u : View). u.me.who ≢ Gone → u.shape ≡ k) vs id (keeping v w) (r.seats.shapes id v at) r.seats.shapes);
        limits = each_gathered (λ x. WhoFits k x.who) vs id other v w at there tt r.seats.limits;
        one_opener = count (λ x. is_opener x.who) refl ∙ r.seats.one_opener;
        callers = λ c above within. count (λ x. is_seat k c x.who) (seat_none k c Gone refl above) ∙ r.seats.callers c above (omega arith);
        none_past = λ c past. count (λ x. is_seat k c x.who) (seat_none k c Gone refl (omega arith)) ∙ r.seats.none_past c (omega arith);
      };
      log = record {
        front = r.log.front;
        counted = r.log.counted;
        legal = r.log.legal;
        callers = r.log.callers;
        blank = r.log.blank;
        next = r.log.next ∙ sym (count (λ x. word_or_0 x.log.pending.logged) refl);
        lock = count (λ x. is_held x.log.holding) refl ∙ r.log.lock;
        hands = each_gathered (λ x. HandFits k p.log h (hand_of x)) vs id other v w at there (quiet_fits k p.log h (hand_of (account Gone 0)) (omega arith) refl refl) r.log.hands;
      };
      stories = record {
        stories = each_gathered (λ x. IsTrueStory k h x.who x.entries) vs id other v w at there record { each = each_none (λ e. IsTrueLog k h e.entry); own = refl } r.stories.stories;
        none_before = λ c past. r.stories.none_before c (omega arith);
      };
      full = each_gathered (λ x. Each (λ e. IsTrueRoom (k.room - length x.room.used) e.entry) x.entries) vs id other v w at there (each_none (λ e. IsTrueRoom (k.room - length {A = ℕ} []) e.entry)) r.full;
      rooms = record {
        rooms = each_gathered (λ x. RoomFits k p.regions (store_of x)) vs id other v w at there (none_fits k p.regions Gone) r.rooms.rooms;
        named = λ i behind kind. some_gathered (ShowsSealed (p.log.slots i)) vs id other v w at apart there (r.rooms.named i behind kind);
      };
      marks = marks_gather k p vs id other v w r.marks at apart there;
      records = records_gather k vs id other v w r.records at there;
      facts = facts_gather k p.regions p.log.front vs id other v w r.facts at apart there;
      own = own_gather p.pages vs id other v w r.own at there;
      pool = pool_gather k p.pool vs id other v w r.pool at apart there;
      rows = rows_gather k vs id other v w r.rows at there;
      pins = each_gathered (λ x. x.tree.front ≤ p.log.front) vs id other v w at there (omega arith) r.pins;
      published = published_gather k vs id other v w r.published at there;
      tree = tree_gather k p.pool.states p.pages (codes_in k p.regions) (IsOldRow k p.regions p.log.slots) vs id other v w (no_old k p.regions p.log.slots) (λ n. placed_begun k vs n r.rows) at apart there (sheet_gather p.pool.states vs id other v w at apart there) r.tree;
      chains = subst (λ (x : Sheet). ChainRule k p.pages x all) (sym (sheet_gather p.pool.states vs id other v w at apart there)) (each_gathered (λ x. Each (λ e. IsTrueChain k p.pages (sheet_of p.pool.states vs) e.entry) x.entries) vs id other v w at there (each_none (λ e. IsTrueChain k p.pages (sheet_of p.pool.states vs) e.entry)) r.chains);
      swept = swept_views k p vs all all (λ n t. some_gathered (λ x. HasRow n x.tree.placed) vs id other v w at apart there t) (each_gathered (OwnSwept k p vs) vs id other v w at there (each_none (λ e. IsSweptOn k p vs e.entry)) r.swept);
      empty = each_gathered (λ x. Each (λ e. IsTruePool k p.pool.states e.entry) x.entries) vs id other v w at there (each_none (λ e. IsTruePool k p.pool.states e.entry)) r.empty;
      loads = each_gathered (λ x. Each (LoadFits k p.log) x.loads.shown) vs id other v w at there (each_none (LoadFits k p.log)) r.loads;
    }

pub caller_joins : (k : Shape) (id other : ℕ) (v w : View) → Joins (Holds k) id v other w (keeping v w) gone
caller_joins k id other v w s h at apart moved_there =
    let p : Parts = parts_of k s.words in record {
      wide = h.wide;
      rule = gather k p (history_of k p) s.views id other v w h.rule at apart (sym (set_else s.views id other (keeping v w) apart) ∙ moved_there);
    }
