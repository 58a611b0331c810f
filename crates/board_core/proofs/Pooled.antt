-- What all steps of the pool owe the table: the parts of the rule that they leave alone, and the whole from its parts.
use Rattle.std.proofs.Common.{◌≡◌, ◌≢◌, ℕ, suc, ◌+◌, ◌-◌, ◌<◌, ◌≤◌, List, length, set, get_or, sym, refl, ap, ◌∙◌, arith}
use mathlib.Core.Option.{some}
use lib.ListN.{get_elem?}
use Rattle.htss_defs.specs.declared.shape.Shape.{Shape}
use Rattle.htss_defs.specs.declared.history.Event.{Event}
use Rattle.board_core.specs.declared.account.Account.{Account}
use Rattle.board_core.specs.declared.account.View.{View}
use Rattle.board_core.specs.declared.account.Who.{Who}
use Rattle.board_core.specs.declared.account.Who.TheVariants.{Opener, Loader, Searcher, Note, Gone}
use Rattle.board_core.specs.Words.{Parts, PoolWords, parts_of, states_at, stored, total_of}
use Rattle.board_core.specs.Accounts.{with_me, seat_of}
use Rattle.board_core.specs.SeatRule.{WhoFits}
use Rattle.board_core.specs.PoolRule.{PoolRule}
use Rattle.board_core.specs.Loaded.{IsPage}
use Rattle.board_core.specs.OwnRule.{OwnRule}
use Rattle.board_core.specs.Sheets.{sheet_of, IsLinked, owns, parts}
use Rattle.board_core.specs.Accounts.{total}
use Rattle.board_core.specs.Rows.{codes_in}
use Rattle.board_core.specs.OldRows.{IsOldRow}
use Rattle.board_core.specs.TreeRule.{TreeRule}
use Rattle.board_core.specs.Holds.{Rule}
use Rattle.board_core.proofs.Everyone.{total_same}
use Rattle.board_core.proofs.RowFrame.{rows_same, placed_begun}
use Rattle.board_core.proofs.TreeFrame.{lift_same, keeps_same, tree_lifted}
use Rattle.board_core.proofs.SeatFrame.{seats_same}
use Rattle.board_core.proofs.LogFrame.{log_same}
use Rattle.board_core.proofs.StoryFrame.{stories_same}
use Rattle.board_core.proofs.LoadFrame.{loads_same, not_later}
use Rattle.board_core.proofs.RoomFrame.{rooms_same}
use Rattle.board_core.proofs.FullFrame.{full_same}
use Rattle.board_core.proofs.MarkFrame.{marks_same}
use Rattle.board_core.proofs.RecordFrame.{records_same}
use Rattle.board_core.proofs.FactFrame.{facts_same}
use Rattle.board_core.proofs.EmptyFrame.{empty_later}
use Rattle.board_core.proofs.Stored.{part_at}
use Rattle.board_core.proofs.Changed.{set_state}
use Rattle.board_core.specs.declared.room.RoomAccount.{RoomAccount}
use Rattle.board_core.proofs.TreeFrame.{rows_stay}
use Rattle.board_core.proofs.SweptFrame.{swept_step, swept_here}
use Rattle.board_core.proofs.ChainFrame.{chains_later, same_pages}
use Rattle.board_core.specs.declared.log.LogAccount.{LogAccount}
use Rattle.board_core.proofs.PublishedFrame.{published_same}
use Rattle.board_core.proofs.OldMoved.{no_old, pins_same}

-- the step leaves all that is not of the pool, the tree or the counts
pub record LeavesLog (a b : Account) : Type 0 where
  pub who : b.who ≡ a.who
  pub log : b.log ≡ a.log
  pub room : b.room ≡ a.room
  pub entries : b.entries ≡ a.entries
  pub shown : b.loads.shown ≡ a.loads.shown
  pub heads : b.loads.heads ≡ a.loads.heads
  pub facts : b.loads.facts ≡ a.loads.facts
  pub codes : b.loads.codes ≡ a.loads.codes
  pub marks : b.loads.marks ≡ a.loads.marks

-- and the rows that were begun and placed
pub record SameRows (a b : Account) : Type 0 where
  pub begun : b.tree.begun ≡ a.tree.begun
  pub placed : b.tree.placed ≡ a.tree.placed

-- where the same pages are linked, and the caller knows of the tree what it knew
pub tree_stays : (k : Shape) (p : Parts) (h : List Event) (g : ℕ → ℕ) (vs : List View) (id : ℕ) (v : View) (a : Account) → Rule k p h vs → get_elem? vs id ≡ some v → a.tree ≡ v.me.tree
    → ((q : ℕ) → IsLinked (sheet_of p.pool.states vs) q → IsLinked (sheet_of g (set vs id (with_me v a))) q) → ((q : ℕ) → IsLinked (sheet_of g (set vs id (with_me v a))) q → IsLinked (sheet_of p.pool.states vs) q)
    → TreeRule k g p.pages (codes_in k p.regions) (IsOldRow k p.regions p.log.slots) (set vs id (with_me v a))
tree_stays k p h g vs id v a r at same more less = tree_lifted k p.pool.states g p.pages (codes_in k p.regions) (codes_in k p.regions) (IsOldRow k p.regions p.log.slots) (IsOldRow k p.regions p.log.slots) vs (set vs id (with_me v a)) (λ j u spot i x there r o. o) (no_old k p.regions p.log.slots) more less
    (λ _ _. refl) (λ n. placed_begun k vs n r.rows) (lift_same vs id v a at same) (keeps_same vs id v a at same) r.tree

-- where no page's numbers change
pub linked_kept : (f : ℕ → ℕ) (vs : List View) (id : ℕ) (v : View) (a : Account) → get_elem? vs id ≡ some v → ((q : ℕ) → owns q a.pool.own ≡ owns q v.me.pool.own) → ((q : ℕ) → parts q a.pool.parted ≡ parts q v.me.pool.parted)
    → (q : ℕ) → IsLinked (sheet_of f vs) q → IsLinked (sheet_of f (set vs id (with_me v a))) q
linked_kept f vs id v a at own parted q l = record {
  busy = l.busy;
  owned = total_same (λ x. owns q x.pool.own) vs id v a at (own q) ∙ l.owned;
  parted = total_same (λ x. parts q x.pool.parted) vs id v a at (parted q) ∙ l.parted;
}

pub tree_kept : (k : Shape) (p : Parts) (h : List Event) (vs : List View) (id : ℕ) (v : View) (a : Account) → Rule k p h vs → get_elem? vs id ≡ some v → a.tree ≡ v.me.tree
    → ((q : ℕ) → owns q a.pool.own ≡ owns q v.me.pool.own) → ((q : ℕ) → parts q a.pool.parted ≡ parts q v.me.pool.parted) → TreeRule k p.pool.states p.pages (codes_in k p.regions) (IsOldRow k p.regions p.log.slots) (set vs id (with_me v a))
tree_kept k p h vs id v a r at same own parted =
    let o : (q : ℕ) → total (λ x. owns q x.pool.own) (set vs id (with_me v a)) ≡ total (λ x. owns q x.pool.own) vs = λ q. total_same (λ x. owns q x.pool.own) vs id v a at (own q) in
    let u : (q : ℕ) → total (λ x. parts q x.pool.parted) (set vs id (with_me v a)) ≡ total (λ x. parts q x.pool.parted) vs = λ q. total_same (λ x. parts q x.pool.parted) vs id v a at (parted q) in
    tree_stays k p h p.pool.states vs id v a r at same
    (λ q l. record { busy = l.busy; owned = o q ∙ l.owned; parted = u q ∙ l.parted })
    (λ q l. record { busy = l.busy; owned = sym (o q) ∙ l.owned; parted = sym (u q) ∙ l.parted })

-- a step of the pool, after which no page is free that was not. All other parts are framed here
pub by_pool : (k : Shape) (p : Parts) (w : PoolWords) (h : List Event) (vs : List View) (id : ℕ) (v : View) (a : Account) → Rule k p h vs → get_elem? vs id ≡ some v → LeavesLog v.me a
    → ((q : ℕ) → p.pool.states q ≢ 0 → w.states q ≢ 0) → PoolRule k w (set vs id (with_me v a)) → OwnRule p.pages (set vs id (with_me v a)) → SameRows v.me a → a.tree.front ≤ p.log.front → ((q : ℕ) → IsLinked (sheet_of p.pool.states vs) q → IsLinked (sheet_of w.states (set vs id (with_me v a))) q) → TreeRule k w.states p.pages (codes_in k p.regions) (IsOldRow k p.regions p.log.slots) (set vs id (with_me v a)) → Rule k (record p { pool = w }) h (set vs id (with_me v a))
by_pool k p w h vs id v a r at rest busy pool own alike pinned linked tree = record {
  pins = pins_same p.log.front p.log.front vs id v a r.pins at (omega arith) pinned;
  chains = chains_later k p.pages p.pages (sheet_of p.pool.states vs) (sheet_of w.states (set vs id (with_me v a))) vs id v a r.chains at (same_pages p.pages (sheet_of p.pool.states vs) (sheet_of w.states (set vs id (with_me v a))) linked) rest.entries;
  swept = swept_step k p (record p { pool = w }) h vs id v a r at (λ j u there i x here b s in_list t _ _ _. refl) (not_later p.log p.log refl refl) (rows_stay vs id v a at (λ x. x.tree.placed) alike.placed) (swept_here k p h vs id v a r at rest.entries);
  seats = seats_same k vs id v a r.seats at rest.who;
  log = log_same k p.log h vs id v a r.log at (λ i. record { who = rest.who i; log = rest.log i });
  stories = stories_same k h vs id v a r.stories at rest.who rest.entries;
  loads = loads_same k p.log p.log vs id v a r.loads at (not_later p.log p.log refl refl) rest.shown;
  rooms = rooms_same k p.regions p.log.front p.log.slots vs id v a r.rooms at (λ i. record { who = rest.who i; room = rest.room i; pending = (rest.log i).pending });
  full = full_same k vs id v a r.full at rest.room rest.entries;
  marks = marks_same k p.regions p.log.front p.log.slots vs id v a r.marks at (λ i. record { who = rest.who i; room = rest.room i; pending = (rest.log i).pending });
  records = records_same k vs id v a r.records at rest.who (ap (λ (x : RoomAccount). x.used) rest.room) (ap (λ (x : RoomAccount). x.sealed) rest.room);
  facts = facts_same k p.regions p.log.front p.log.front vs id v a r.facts at (ap (λ (x : RoomAccount). x.sealed) rest.room) record { heads = rest.heads; facts = rest.facts; codes = rest.codes; marks = rest.marks } (omega arith);
  pool = pool;
  own = own;
  empty = empty_later k p.pool.states w.states vs id v a r.empty at busy rest.entries;
  rows = rows_same k vs id v a r.rows at rest.who (ap (λ (x : RoomAccount). x.used) rest.room) (ap (λ (x : RoomAccount). x.sealed) rest.room) alike.begun alike.placed;
  published = published_same k vs id v a r.published at rest.who (ap (λ (x : RoomAccount). x.used) rest.room) (ap (λ (x : RoomAccount). x.published) rest.room) (ap (λ (x : LogAccount). x.pending.shows) rest.log) alike.placed;
  tree = tree;
}

-- ---- the word of a page's state, by the number of the page

pub state_at : (k : Shape) (ws : List ℕ) (p : ℕ) → IsPage k p → (parts_of k ws).pool.states p ≡ get_or ws (states_at k + (p - 1)) 0
state_at k ws p inside = from_last p (p - 1) (let above = inside.0 in omega arith) (let most = inside.1 in omega arith)
  where
    from_last : (n i : ℕ) → n ≡ suc i → i < k.pages → (parts_of k ws).pool.states n ≡ get_or ws (states_at k + i) 0
    from_last n i is within = ap (parts_of k ws).pool.states is ∙ part_at (states_at k) k.pages ws i within

pub put_state : (k : Shape) (ws : List ℕ) (p n : ℕ) → length ws ≡ total_of k → IsPage k p → parts_of k (set ws (states_at k + (p - 1)) n) ≡ record (parts_of k ws) { pool = record (parts_of k ws).pool { states = stored (parts_of k ws).pool.states p n } }
put_state k ws p n long inside = set_state k ws (p - 1) n long (let above = inside.0 in let most = inside.1 in omega arith)
    ∙ ap (λ (z : ℕ). record (parts_of k ws) { pool = record (parts_of k ws).pool { states = stored (parts_of k ws).pool.states z n } }) (let above = inside.0 in let e : suc (p - 1) ≡ p = omega arith in e)

-- ---- the place of a caller among the seats

pub seat_within : (k : Shape) (who : Who) → WhoFits k who → seat_of k who ≤ k.loaders + k.searchers
seat_within k (Opener n) f = omega arith
seat_within k (Loader n) f = let most = f.1 in omega arith
seat_within k (Searcher n) f = let most = f.1 in omega arith
seat_within k Note f = omega arith
seat_within k Gone f = omega arith
