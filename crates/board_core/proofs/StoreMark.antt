-- A mark of a block is stored: that it is published, or that its number is withdrawn.
use Rattle.std.proofs.Common.{◌≡◌, ℕ, ◌+◌, ◌-◌, ◌<◌, ◌≤◌, List, set, sym, refl, ap, ◌∙◌, subst, arith, inl, inr}
use mathlib.Core.Option.{some, none}
use lib.ListN.{get_elem?}
use Rattle.atomic_table.specs.Table.{step, keeps, Allows}
use Rattle.board_core.specs.Histories.{block_at}
use Rattle.htss_defs.specs.declared.shape.Shape.{Shape}
use Rattle.htss_defs.specs.declared.history.Event.{Event}
use Rattle.board_core.specs.declared.account.Account.{Account}
use Rattle.board_core.specs.declared.account.View.{View}
use Rattle.board_core.specs.declared.log.Holding.TheVariants.{Fronted}
use Rattle.board_core.specs.declared.log.Ending.{Ending}
use Rattle.board_core.specs.Each.{Each}
use Rattle.board_core.specs.Words.{LogWords, Parts, parts_of, stored, regions_at}
use Rattle.board_core.specs.Histories.{history_of, IsOpen}
use Rattle.board_core.specs.Accounts.{with_me}
use Rattle.board_core.specs.LogRule.{hand_of, is_held, word_or_0, Holds as HoldsLock, HandFits, LogRule}
use Rattle.board_core.specs.LoadRule.{LoadFits}
use Rattle.board_core.proofs.FullFrame.{full_same}
use Rattle.board_core.proofs.EmptyFrame.{empty_same}
use Rattle.board_core.specs.Holds.{Rule, Holds}
use Rattle.board_core.specs.After.{after_shows, after_ends}
use Rattle.board_core.specs.Steps.{Mine, MayMark, MayPublish, MayEnd, Shows, Ends}
use Rattle.board_core.specs.FactRule.{BlocksStand, FactRule}
use Rattle.board_core.specs.Blocks.{shown_at, ended_at}
use Rattle.board_core.proofs.MarkWord.{shows_sealed}
use Rattle.board_core.proofs.MarkStore.{first_not_told, last_not_told, shows_marks, ends_marks, ends_open, loaded_shows}
use Rattle.board_core.proofs.RecordFrame.{records_same}
use Rattle.board_core.proofs.FactFrame.{facts_same, facts_marked}
use Rattle.board_core.proofs.Everyone.{mine, changed, total_same}
use Rattle.board_core.proofs.LogFrame.{hand_at, same_some, owner}
use Rattle.board_core.proofs.StoryFrame.{stories_same}
use Rattle.board_core.proofs.LoadFrame.{loads_same, not_later}
use Rattle.board_core.specs.Words.{regions_size}
use Rattle.board_core.specs.RoomRule.{store_of, IsSealed, IsMark, RoomFits, ShowsSealed, RoomRule}
use Rattle.board_core.proofs.RoomFrame.{history_kept}
use Rattle.board_core.proofs.Some.{some_changed}
use Rattle.board_core.proofs.Owner.{IsAt, mark_rooms, mark_same}
use Rattle.board_core.proofs.Stepped.{by_region, words_moved}
use Rattle.board_core.proofs.Changed.{set_region}
use Rattle.board_core.specs.RoomRule.{SameSealed}
use Rattle.board_core.proofs.RowFrame.{rows_same}
use Rattle.board_core.proofs.SweptFrame.{swept_here}
use Rattle.board_core.proofs.ChainFrame.{chains_same}
use Rattle.board_core.proofs.PublishedFrame.{published_same, published_shows}

marked_holds : (w : LogWords) (a b : Account) → a.log.holding ≡ Fronted → b.who ≡ a.who → b.log.seen ≡ a.log.seen → HoldsLock w (hand_of a) a.log.holding → HoldsLock w (hand_of b) a.log.holding
marked_holds w a b e who seen holds = let own = owner w (hand_of a) a.log.holding e holds in subst (HoldsLock w (hand_of b)) (sym e) (who ∙ own.0, seen ∙ own.1)

pub shows_log : (k : Shape) (w : LogWords) (h : List Event) (vs : List View) (id block : ℕ) (v : View) → LogRule k w h vs → get_elem? vs id ≡ some v → MayMark k v.me → LogRule k w h (set vs id (with_me v (after_shows v.me block)))
shows_log k w h vs id block v r at may =
    let a : Account = after_shows v.me block in
    let f = hand_at k w h vs id v r at in
    let here : v.me.log.seen ≡ w.front = (owner w (hand_of v.me) v.me.log.holding may.holding f.holds).1 in
    let in_log = may.room in
    let room : w.front < k.log = omega arith in record {
      front = r.front;
      counted = r.counted;
      legal = r.legal;
      callers = r.callers;
      blank = r.blank;
      next = r.next ∙ sym (total_same (λ x. word_or_0 x.log.pending.logged) vs id v a at refl);
      lock = total_same (λ x. is_held x.log.holding) vs id v a at refl ∙ r.lock;
      hands = changed (λ x. HandFits k w h (hand_of x)) vs id v a at
          record { seen = f.seen; holds = marked_holds w v.me a may.holding refl refl f.holds; shows = λ _ _. room; ends = f.ends; logged = f.logged } r.hands;
    }

-- the number is open: published, and not ended
pub ends_log : (k : Shape) (w : LogWords) (h : List Event) (vs : List View) (id : ℕ) (v : View) (e : Ending) → LogRule k w h vs → get_elem? vs id ≡ some v → MayMark k v.me → IsOpen h e.target → LogRule k w h (set vs id (with_me v (after_ends v.me e)))
ends_log k w h vs id v e r at may stands =
    let a : Account = after_ends v.me e in
    let f = hand_at k w h vs id v r at in
    let here : v.me.log.seen ≡ w.front = (owner w (hand_of v.me) v.me.log.holding may.holding f.holds).1 in
    let in_log = may.room in
    let room : w.front < k.log = omega arith in record {
      front = r.front;
      counted = r.counted;
      legal = r.legal;
      callers = r.callers;
      blank = r.blank;
      next = r.next ∙ sym (total_same (λ x. word_or_0 x.log.pending.logged) vs id v a at refl);
      lock = total_same (λ x. is_held x.log.holding) vs id v a at refl ∙ r.lock;
      hands = changed (λ x. HandFits k w h (hand_of x)) vs id v a at
          record {
            seen = f.seen;
            holds = marked_holds w v.me a may.holding refl refl f.holds;
            shows = f.shows;
            ends = λ other is. (room, subst (λ (x : Ending). IsOpen h x.target) (same_some e other is) stands);
            logged = f.logged;
          } r.hands;
    }

-- ---- rooms

-- the mark of a publication is of an own block
shows_rooms : (k : Shape) (regions : ℕ → ℕ) (front : ℕ) (slots : ℕ → ℕ) (vs : List View) (id block : ℕ) (v : View) → RoomRule k regions front slots vs → get_elem? vs id ≡ some v → IsSealed v.me.room.sealed block → RoomRule k regions front slots (set vs id (with_me v (after_shows v.me block)))
shows_rooms k regions front slots vs id block v r at sealed = let f = mine (λ x. RoomFits k regions (store_of x)) vs id v at r.rooms in record {
  rooms = changed (λ x. RoomFits k regions (store_of x)) vs id v (after_shows v.me block) at
      record { within = f.within; stands = f.stands; sealed = f.sealed; in_order = f.in_order; shows = λ other e. subst (IsSealed v.me.room.sealed) (same_some block other e) sealed; logged = f.logged } r.rooms;
  named = λ i behind kind. some_changed (ShowsSealed (slots i)) vs id v (after_shows v.me block) at (λ t. t) (r.named i behind kind);
}

ends_rooms : (k : Shape) (regions : ℕ → ℕ) (front : ℕ) (slots : ℕ → ℕ) (vs : List View) (id : ℕ) (v : View) (e : Ending) → RoomRule k regions front slots vs → get_elem? vs id ≡ some v → RoomRule k regions front slots (set vs id (with_me v (after_ends v.me e)))
ends_rooms k regions front slots vs id v e r at = let f = mine (λ x. RoomFits k regions (store_of x)) vs id v at r.rooms in record {
  rooms = changed (λ x. RoomFits k regions (store_of x)) vs id v (after_ends v.me e) at record { within = f.within; stands = f.stands; sealed = f.sealed; in_order = f.in_order; shows = f.shows; logged = f.logged } r.rooms;
  named = λ i behind kind. some_changed (ShowsSealed (slots i)) vs id v (after_ends v.me e) at (λ t. t) (r.named i behind kind);
}

-- ---- the whole

abbrev with_region : Parts → ℕ → ℕ → Parts
with_region p i n = record p { regions = stored p.regions i n }

-- a mark of a block of some account is stored: the history, the rooms and what was loaded
record Marked (k : Shape) (p : Parts) (vs : List View) (i n : ℕ) : Type 0 where
  same : history_of k (with_region p i n) ≡ history_of k p
  rooms : RoomRule k (stored p.regions i n) p.log.front p.log.slots vs
  facts : FactRule k (stored p.regions i n) p.log.front vs
  stay : SameSealed k p.regions (stored p.regions i n) vs

marked : (k : Shape) (p : Parts) (vs : List View) (b : Account) (i n : ℕ) → Rule k p (history_of k p) vs → IsAt vs b → IsMark b.room.sealed (regions_at k + i) → p.log.front < n → ¬ ((0 < p.regions i) × (p.regions i ≤ p.log.front)) → Marked k p vs i n
marked k p vs b i n r q mark past not_told = record {
  same = history_kept k p (stored p.regions i n) vs r.rooms (mark_same k p.regions vs b i n r.seats r.rooms.rooms q mark);
  rooms = record { rooms = mark_rooms k p.regions vs b i n r.seats r.rooms.rooms q mark; named = r.rooms.named };
  facts = facts_marked k p.regions p.log.front p.log.slots vs b i n r.facts r.seats r.rooms q mark past not_told;
  stay = mark_same k p.regions vs b i n r.seats r.rooms.rooms q mark;
}

-- the word of the regions at a mark's place
mark_word : (k : Shape) (regions : ℕ → ℕ) (front block at i : ℕ) → regions_at k + i ≡ block + at → ¬ ((0 < block_at k regions block at) × (block_at k regions block at ≤ front)) → ¬ ((0 < regions i) × (regions i ≤ front))
mark_word k regions front block at i place not_told = let same : block + at - regions_at k ≡ i = omega arith in subst (λ (z : ℕ). ¬ ((0 < regions z) × (regions z ≤ front))) same not_told

pub shows : (k : Shape) (p : Parts) (vs : List View) (id block i n : ℕ) (v : View) → Rule k p (history_of k p) vs → get_elem? vs id ≡ some v → MayPublish k v.me block → regions_at k + i ≡ block + 1 → n ≡ v.me.log.seen + 1
    → Rule k (with_region p i n) (history_of k (with_region p i n)) (set vs id (with_me v (after_shows v.me block)))
shows k p vs id block i n v r at may place number =
    let a : Account = after_shows v.me block in
    let q : Parts = with_region p i n in
    let h : List Event = history_of k p in
    let own : IsAt vs v.me = record { view_place = id; seen_view = v; at = at; place = 0; there = refl } in
    let sealed = may.sealed in
    let here : v.me.log.seen ≡ p.log.front = (owner p.log (hand_of v.me) v.me.log.holding may.may.holding (hand_at k p.log h vs id v r.log at).holds).1 in
    let new = marked k p vs v.me i n r own (sealed.0, sealed.1, sealed.2, inl (place ∙ ap (λ z. z + 1) (sym sealed.3))) (omega arith) (mark_word k p.regions p.log.front block shown_at i place (first_not_told k p vs id block v r.marks at may)) in
    subst (λ (g : List Event). Rule k q g (set vs id (with_me v a))) (sym new.same)
    (by_region k p q h h vs id v a r at
    record { who = refl; pool_words = refl; page_words = refl; pool = refl; tree = refl; counts = refl; epochs = refl; states = refl; lost = refl }
    (shows_log k p.log h vs id block v r.log at may.may)
    (stories_same k h vs id v a r.stories at refl refl)
    (full_same k vs id v a r.full at refl refl)
    (empty_same k p.pool.states vs id v a r.empty at refl)
    (chains_same k p.pages p.pool.states vs id v a r.chains at refl refl)
    (swept_here k p h vs id v a r at refl)
    (loads_same k p.log p.log vs id v a r.loads at (not_later p.log p.log refl refl) refl)
    (shows_rooms k q.regions p.log.front p.log.slots vs id block v new.rooms at sealed)
    (shows_marks k p vs id block i n v r.marks r.seats r.log r.rooms at may place number)
    (records_same k vs id v a r.records at refl refl refl)
    (facts_same k q.regions p.log.front p.log.front vs id v a new.facts at refl record { heads = refl; facts = refl; codes = refl; marks = refl } (omega arith))
    (rows_same k vs id v a r.rows at refl refl refl refl refl)
    (published_shows k vs id block v r.published at may.placed)
    new.stay
    (not_later p.log p.log refl refl))

pub ends : (k : Shape) (p : Parts) (vs : List View) (id i n : ℕ) (v : View) (e : Ending) → Rule k p (history_of k p) vs → get_elem? vs id ≡ some v → MayEnd k v.me e → regions_at k + i ≡ e.block + 2 → n ≡ v.me.log.seen + 1
    → Rule k (with_region p i n) (history_of k (with_region p i n)) (set vs id (with_me v (after_ends v.me e)))
ends k p vs id i n v e r at may place number =
    let a : Account = after_ends v.me e in
    let q : Parts = with_region p i n in
    let h : List Event = history_of k p in
    let shown = mine (λ x. Each (LoadFits k p.log) x.loads.shown) vs id v at r.loads in
    let stand = (mine (λ x. BlocksStand k p.regions p.log.front x.loads) vs id v at r.facts.stand).marks in
    let (j, u, there, spot, b, its, sealed) = shows_sealed k p.regions p.log.front p.log.slots vs e.block e.target r.rooms (loaded_shows k p.log v.me e.target e.block shown may.loaded) in
    let owner_is : IsAt vs b = record { view_place = j; seen_view = u; at = there; place = spot; there = its } in
    let here : v.me.log.seen ≡ p.log.front = (owner p.log (hand_of v.me) v.me.log.holding may.may.holding (hand_at k p.log h vs id v r.log at).holds).1 in
    let new = marked k p vs b i n r owner_is (sealed.0, sealed.1, sealed.2, inr (place ∙ ap (λ z. z + 2) (sym sealed.3))) (omega arith) (mark_word k p.regions p.log.front e.block ended_at i place (last_not_told k p vs id v e r.log stand at may)) in
    subst (λ (g : List Event). Rule k q g (set vs id (with_me v a))) (sym new.same)
    (by_region k p q h h vs id v a r at
    record { who = refl; pool_words = refl; page_words = refl; pool = refl; tree = refl; counts = refl; epochs = refl; states = refl; lost = refl }
    (ends_log k p.log h vs id v e r.log at may.may (ends_open k p vs id v e r.marks r.seats r.log r.rooms r.loads stand at may))
    (stories_same k h vs id v a r.stories at refl refl)
    (full_same k vs id v a r.full at refl refl)
    (empty_same k p.pool.states vs id v a r.empty at refl)
    (chains_same k p.pages p.pool.states vs id v a r.chains at refl refl)
    (swept_here k p h vs id v a r at refl)
    (loads_same k p.log p.log vs id v a r.loads at (not_later p.log p.log refl refl) refl)
    (ends_rooms k q.regions p.log.front p.log.slots vs id v e new.rooms at)
    (ends_marks k p vs id i n v e r.marks r.seats r.log r.rooms r.loads stand at may place number)
    (records_same k vs id v a r.records at refl refl refl)
    (facts_same k q.regions p.log.front p.log.front vs id v a new.facts at refl record { heads = refl; facts = refl; codes = refl; marks = refl } (omega arith))
    (rows_same k vs id v a r.rows at refl refl refl refl refl)
    (published_same k vs id v a r.published at refl refl refl refl refl)
    new.stay
    (not_later p.log p.log refl refl))

pub shows_allowed : (k : Shape) (slots id place i n block : ℕ) (m : Mine) → place ≡ regions_at k + i → i < regions_size k → place ≡ block + 1 → n ≡ m.0.me.log.seen + 1 → MayPublish k m.0.me block
    → Allows (Holds k) slots id m place (λ _. n) (λ _. Shows block (step slots place n 0 none) m n)
shows_allowed k slots id place i n block m is inside first number may s h _ at _ = (
  with_me m.0 (after_shows m.0.me block),
  keeps,
  tt,
  words_moved k s place n id m.1 m.0 (after_shows m.0.me block) (with_region (parts_of k s.words) i n) h (ap (λ (z : ℕ). parts_of k (set s.words z n)) is ∙ set_region k s.words i n h.wide inside)
      (shows k (parts_of k s.words) s.views id block i n m.0 h.rule at may (sym is ∙ first) number),
  refl,
)

pub ends_allowed : (k : Shape) (slots id place i n : ℕ) (m : Mine) (e : Ending) → place ≡ regions_at k + i → i < regions_size k → place ≡ e.block + 2 → n ≡ m.0.me.log.seen + 1 → MayEnd k m.0.me e
    → Allows (Holds k) slots id m place (λ _. n) (λ _. Ends e (step slots place n 0 none) m n)
ends_allowed k slots id place i n m e is inside second number may s h _ at _ = (
  with_me m.0 (after_ends m.0.me e),
  keeps,
  tt,
  words_moved k s place n id m.1 m.0 (after_ends m.0.me e) (with_region (parts_of k s.words) i n) h (ap (λ (z : ℕ). parts_of k (set s.words z n)) is ∙ set_region k s.words i n h.wide inside)
      (ends k (parts_of k s.words) s.views id i n m.0 e h.rule at may (sym is ∙ second) number),
  refl,
)
