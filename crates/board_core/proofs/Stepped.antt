-- What all steps of the log owe the table: the parts of the rule that they leave alone, and the whole from its parts.
use Rattle.std.proofs.Common.{◌≡◌, ℕ, ◌+◌, ◌-◌, List, length, set, get_or, sym, ap, ◌∙◌, subst, length-set, arith}
use mathlib.Core.Option.{some}
use lib.ListN.{get_elem?}
use lib.Seq.{set-get_or}
use Rattle.atomic_table.specs.Table.{State, keeps, stepped}
use Rattle.htss_defs.specs.declared.shape.Shape.{Shape}
use Rattle.htss_defs.specs.declared.history.Event.{Event}
use Rattle.board_core.specs.declared.account.Account.{Account}
use Rattle.board_core.specs.declared.account.View.{View}
use Rattle.board_core.specs.Words.{Parts, parts_of}
use Rattle.board_core.specs.Histories.{history_of}
use Rattle.board_core.specs.Accounts.{with_me}
use Rattle.board_core.specs.LogRule.{LogRule}
use Rattle.board_core.specs.StoryRule.{StoryRule}
use Rattle.board_core.specs.LoadRule.{LoadRule}
use Rattle.board_core.specs.FullRule.{FullRule}
use Rattle.board_core.specs.EmptyRule.{EmptyRule}
use Rattle.board_core.specs.RoomRule.{SameSealed}
use Rattle.board_core.specs.Sheets.{sheet_of, owns}
use Rattle.board_core.specs.Rows.{codes_in, RowRule}
use Rattle.board_core.specs.OldRows.{IsOldRow}
use Rattle.board_core.specs.TreeRule.{TreeRule}
use Rattle.board_core.proofs.PoolFrame.{sheet_same}
use Rattle.board_core.proofs.RowFrame.{rows_same, codes_stay, placed_begun}
use Rattle.board_core.proofs.SweptFrame.{OwnSwept, swept_step}
use Rattle.board_core.proofs.TreeFrame.{rows_stay, linked_same, lift_same, keeps_same, tree_lifted}
use Rattle.board_core.specs.PoolRule.{PoolRule}
use Rattle.board_core.specs.Held.{held_in}
use Rattle.board_core.specs.declared.tree.TreeAccount.{TreeAccount}
use Rattle.board_core.specs.Words.{PoolWords, regions_at}
use Rattle.board_core.proofs.PoolFrame.{pool_same}
use Rattle.board_core.specs.declared.tree.Counts.{Counts}
use Rattle.board_core.specs.CountRule.{insertions_of}
use Rattle.board_core.proofs.CountFrame.{SameCounts}
use Rattle.board_core.specs.RoomRule.{store_of, RoomRule}
use Rattle.board_core.specs.MarkRule.{MarkRule}
use Rattle.board_core.specs.RecordRule.{RecordRule}
use Rattle.board_core.specs.FactRule.{FactRule}
use Rattle.board_core.specs.RoomRule.{Store}
use Rattle.board_core.proofs.RoomFrame.{rooms_same}
use Rattle.board_core.proofs.MarkFrame.{marks_same}
use Rattle.board_core.proofs.RecordFrame.{records_same}
use Rattle.board_core.proofs.FactFrame.{SameLoads, facts_same}
use Rattle.board_core.specs.OwnRule.{OwnRule}
use Rattle.board_core.specs.declared.pool.PoolAccount.{PoolAccount}
use Rattle.board_core.proofs.OwnFrame.{own_same}
use Rattle.board_core.specs.Holds.{Rule, Holds}
use Rattle.board_core.proofs.SeatFrame.{seats_same}
use Rattle.board_core.specs.declared.entry.Entry.{Entry}
use Rattle.board_core.specs.Each.{Each}
use Rattle.board_core.specs.Rows.{IsPlaced}
use Rattle.board_core.specs.KnownRule.{Knows}
use Rattle.board_core.specs.ChainRule.{ChainRule, IsTrueChain, IsToldChain}
use Rattle.board_core.proofs.Everyone.{mine}
use Rattle.board_core.proofs.ChainFrame.{chains_true}
use Rattle.board_core.specs.PublishedRule.{PublishedRule}
use Rattle.board_core.proofs.PublishedFrame.{published_same}
use Rattle.std.proofs.Common.{◌≤◌}
use Rattle.board_core.proofs.LoadFrame.{IsLater}
use Rattle.board_core.proofs.OldMoved.{old_before, no_old, pins_same, pin_here}

abbrev pub St : Type 0
St = State (Unit {0}) View

-- the step leaves the words and facets of the pool, of the tree and of the counts, and whose the account is
pub record LeavesRest (p q : Parts) (a b : Account) : Type 0 where
  pub who : b.who ≡ a.who
  pub pool_words : q.pool ≡ p.pool
  pub page_words : q.pages ≡ p.pages
  pub pool : b.pool ≡ a.pool
  pub tree : b.tree ≡ a.tree
  pub counts : b.counts ≡ a.counts
  pub epochs : b.loads.epochs ≡ a.loads.epochs
  pub states : b.loads.states ≡ a.loads.states
  pub lost : b.loads.lost ≡ a.loads.lost

same_counts : (p q : Parts) (a b : Account) → LeavesRest p q a b → SameCounts a b
same_counts p q a b rest = record {
  own = ap (λ (x : PoolAccount). length x.own) rest.pool;
  linked = ap (λ (x : Counts). x.linked) rest.counts;
  begun = let e : insertions_of b ≡ insertions_of a = ap (λ (t : TreeAccount). length t.begun) rest.tree in omega arith;
}

-- and the words of the regions and the log but for the lock, and what is known of them
pub record LeavesRegions (p q : Parts) (a b : Account) : Type 0 where
  pub words : q.regions ≡ p.regions
  pub front : q.log.front ≡ p.log.front
  pub slots : q.log.slots ≡ p.log.slots
  pub store : store_of b ≡ store_of a

-- a step of the log that changes the regions or what is known of them. Parts of the pool, the tree and the counts are framed here
pub by_region : (k : Shape) (p q : Parts) (h g : List Event) (vs : List View) (id : ℕ) (v : View) (a : Account) → Rule k p h vs → get_elem? vs id ≡ some v → LeavesRest p q v.me a
    → LogRule k q.log g (set vs id (with_me v a)) → StoryRule k g (set vs id (with_me v a)) → FullRule k (set vs id (with_me v a)) → EmptyRule k q.pool.states (set vs id (with_me v a)) → ChainRule k q.pages (sheet_of q.pool.states (set vs id (with_me v a))) (set vs id (with_me v a)) → OwnSwept k p vs a → LoadRule k q.log (set vs id (with_me v a)) → RoomRule k q.regions q.log.front q.log.slots (set vs id (with_me v a))
    → MarkRule k q.regions q.log.front q.log.slots (set vs id (with_me v a)) → RecordRule k (set vs id (with_me v a)) → FactRule k q.regions q.log.front (set vs id (with_me v a)) → RowRule k (set vs id (with_me v a)) → PublishedRule k (set vs id (with_me v a)) → SameSealed k p.regions q.regions vs → IsLater p.log q.log → Rule k q g (set vs id (with_me v a))
by_region k p q h g vs id v a r at rest log stories full empty chains swept loads rooms marks records facts rows published same later = record {
  seats = seats_same k vs id v a r.seats at rest.who;
  log = log;
  stories = stories;
  loads = loads;
  rooms = rooms;
  full = full;
  marks = marks;
  records = records;
  facts = facts;
  pool = subst (λ (w : PoolWords). PoolRule k w (set vs id (with_me v a))) (sym rest.pool_words)
      (pool_same k p.pool vs id v a r.pool at rest.who rest.pool (same_counts p q v.me a rest) (ap (λ (t : TreeAccount). held_in t.reached) rest.tree) rest.epochs rest.states rest.lost);
  own = subst (λ (w : ℕ → ℕ → ℕ). OwnRule w (set vs id (with_me v a))) (sym rest.page_words) (own_same p.pages vs id v a r.own at (ap (λ (x : PoolAccount). x.own) rest.pool));
  empty = empty;
  rows = rows;
  published = published;
  pins = pins_same p.log.front q.log.front vs id v a r.pins at later.front (subst (λ (t : TreeAccount). t.front ≤ p.log.front) (sym rest.tree) (pin_here p.log.front vs id v r.pins at));
  chains = chains;
  swept = swept_step k p q h vs id v a r at same later (rows_stay vs id v a at (λ x. x.tree.placed) (ap (λ (t : TreeAccount). t.placed) rest.tree)) swept;
  tree = subst (λ (x : (ℕ → ℕ) × (ℕ → ℕ → ℕ)). TreeRule k x.0 x.1 (codes_in k q.regions) (IsOldRow k q.regions q.log.slots) (set vs id (with_me v a))) (λ i. ((sym rest.pool_words i).states, sym rest.page_words i))
      (let sheet : sheet_of p.pool.states (set vs id (with_me v a)) ≡ sheet_of p.pool.states vs = sheet_same p.pool.states vs id v a at (λ n. ap (λ (x : PoolAccount). owns n x.own) rest.pool) (ap (λ (x : PoolAccount). x.parted) rest.pool) in
      tree_lifted k p.pool.states p.pool.states p.pages (codes_in k p.regions) (codes_in k q.regions) (IsOldRow k p.regions p.log.slots) (IsOldRow k q.regions q.log.slots) vs (set vs id (with_me v a))
      (λ j u spot i x there n o. old_before k p.regions q.regions p.log q.log vs x.tree.front n r.rooms same later (r.pins j u spot i x there) o) (no_old k q.regions q.log.slots)
      (linked_same (sheet_of p.pool.states vs) (sheet_of p.pool.states (set vs id (with_me v a))) sheet) (linked_same (sheet_of p.pool.states (set vs id (with_me v a))) (sheet_of p.pool.states vs) (sym sheet))
      (codes_stay k p.regions q.regions vs r.rooms.rooms r.rows same) (λ n. placed_begun k vs n r.rows) (lift_same vs id v a at rest.tree) (keeps_same vs id v a at rest.tree) r.tree);
}

-- what is answered of a full chain, by what the caller has read
pub chains_here : (k : Shape) (p : Parts) (h : List Event) (vs : List View) (id : ℕ) (v : View) (es : List Entry) → Rule k p h vs → get_elem? vs id ≡ some v → Each (IsToldChain k v.me) es → Each (IsTrueChain k p.pages (sheet_of p.pool.states vs)) es
chains_here k p h vs id v es r at told = chains_true p.pages (sheet_of p.pool.states vs) r.tree.place (codes_in k p.regions) (IsPlaced vs) r.tree.tree k v.me ((IsOldRow k p.regions p.log.slots) v.me.tree.front) es
    (mine (λ x. Knows p.pages (sheet_of p.pool.states vs) r.tree.place (codes_in k p.regions) (IsPlaced vs) (IsOldRow k p.regions p.log.slots) x.tree) vs id v at r.tree.known).known told

-- a step of the log alone. Parts of the regions are framed here, but what was loaded of blocks
pub by_load : (k : Shape) (p q : Parts) (h g : List Event) (vs : List View) (id : ℕ) (v : View) (a : Account) → Rule k p h vs → get_elem? vs id ≡ some v → LeavesRest p q v.me a → LeavesRegions p q v.me a
    → LogRule k q.log g (set vs id (with_me v a)) → StoryRule k g (set vs id (with_me v a)) → FullRule k (set vs id (with_me v a)) → EmptyRule k q.pool.states (set vs id (with_me v a)) → ChainRule k q.pages (sheet_of q.pool.states (set vs id (with_me v a))) (set vs id (with_me v a)) → OwnSwept k p vs a → LoadRule k q.log (set vs id (with_me v a)) → FactRule k q.regions q.log.front (set vs id (with_me v a)) → Rule k q g (set vs id (with_me v a))
by_load k p q h g vs id v a r at rest regions log stories full empty chains swept loads facts =
    let move : (F : (ℕ → ℕ) → ℕ → (ℕ → ℕ) → Type 0) → F p.regions p.log.front p.log.slots → F q.regions q.log.front q.log.slots = λ F t. subst (λ (x : (ℕ → ℕ) × ℕ × (ℕ → ℕ)). F x.0 x.1 x.2) (λ i. (sym regions.words i, sym regions.front i, sym regions.slots i)) t in
    by_region k p q h g vs id v a r at rest log stories full empty chains swept loads
    (move (λ x y z. RoomRule k x y z (set vs id (with_me v a))) (rooms_same k p.regions p.log.front p.log.slots vs id v a r.rooms at regions.store))
    (move (λ x y z. MarkRule k x y z (set vs id (with_me v a))) (marks_same k p.regions p.log.front p.log.slots vs id v a r.marks at regions.store))
    (records_same k vs id v a r.records at rest.who (ap (λ (x : Store). x.room.used) regions.store) (ap (λ (x : Store). x.room.sealed) regions.store))
    facts
    (rows_same k vs id v a r.rows at rest.who (ap (λ (x : Store). x.room.used) regions.store) (ap (λ (x : Store). x.room.sealed) regions.store) (ap (λ (x : TreeAccount). x.begun) rest.tree) (ap (λ (x : TreeAccount). x.placed) rest.tree))
    (published_same k vs id v a r.published at rest.who (ap (λ (x : Store). x.room.used) regions.store) (ap (λ (x : Store). x.room.published) regions.store) (ap (λ (x : Store). x.pending.shows) regions.store) (ap (λ (x : TreeAccount). x.placed) rest.tree))
    (λ j u there i x here b s in_list t _ _ _. ap (λ (f : ℕ → ℕ). f (s.place + t - regions_at k)) regions.words)
    record { front = (let e = regions.front in omega arith); slots = λ i _. ap (λ (f : ℕ → ℕ). f i) regions.slots }

-- a step of the log that loads nothing of blocks
pub by_log : (k : Shape) (p q : Parts) (h g : List Event) (vs : List View) (id : ℕ) (v : View) (a : Account) → Rule k p h vs → get_elem? vs id ≡ some v → LeavesRest p q v.me a → LeavesRegions p q v.me a → SameLoads a.loads v.me.loads
    → LogRule k q.log g (set vs id (with_me v a)) → StoryRule k g (set vs id (with_me v a)) → FullRule k (set vs id (with_me v a)) → EmptyRule k q.pool.states (set vs id (with_me v a)) → ChainRule k q.pages (sheet_of q.pool.states (set vs id (with_me v a))) (set vs id (with_me v a)) → OwnSwept k p vs a → LoadRule k q.log (set vs id (with_me v a)) → Rule k q g (set vs id (with_me v a))
by_log k p q h g vs id v a r at rest regions alike log stories full empty chains swept loads = by_load k p q h g vs id v a r at rest regions log stories full empty chains swept loads
    (subst (λ (x : (ℕ → ℕ) × ℕ). FactRule k x.0 x.1 (set vs id (with_me v a))) (λ i. (sym regions.words i, sym regions.front i))
    (facts_same k p.regions p.log.front p.log.front vs id v a r.facts at (ap (λ (x : Store). x.room.sealed) regions.store) alike (omega arith)))

-- a step that leaves the words as they were
pub still : (k : Shape) (s : St) (i id : ℕ) (cs : List _) (v : View) (a : Account) → Holds k s → Rule k (parts_of k s.words) (history_of k (parts_of k s.words)) (set s.views id (with_me v a))
    → Holds k (stepped s i (get_or s.words i 0) id cs (with_me v a) keeps)
still k s i id cs v a h r = subst (λ (ws : List ℕ). Holds k record { words = ws; homes = s.homes; views = set s.views id (with_me v a) }) (sym (set-get_or s.words i 0)) record { wide = h.wide; rule = r }

-- a step that stores n at word i
pub words_moved : (k : Shape) (s : St) (i n id : ℕ) (cs : List _) (v : View) (a : Account) (q : Parts) → Holds k s → parts_of k (set s.words i n) ≡ q → Rule k q (history_of k q) (set s.views id (with_me v a))
    → Holds k (stepped s i n id cs (with_me v a) keeps)
words_moved k s i n id cs v a q h is r = record {
  wide = length-set s.words i n ∙ h.wide;
  rule = subst (λ (p : Parts). Rule k p (history_of k p) (set s.views id (with_me v a))) (sym is) r;
}
