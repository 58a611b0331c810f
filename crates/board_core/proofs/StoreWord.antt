-- A word of the own region is stored, past those that are used.
use Rattle.std.proofs.Common.{◌≡◌, ◌≢◌, ℕ, ◌+◌, ◌*◌, ◌-◌, ◌<◌, ◌≤◌, List, [], ◌∷◌, ◌++◌, length, set, sym, refl, ap, ◌∙◌, subst, arith}
use mathlib.Core.Option.{some, none}
use lib.ListN.{get_elem?}
use Rattle.atomic_table.specs.Table.{step, keeps, Allows}
use Rattle.htss_defs.specs.declared.shape.Shape.{Shape}
use Rattle.htss_defs.specs.declared.history.Event.{Event}
use Rattle.board_core.specs.declared.account.Account.{Account}
use Rattle.board_core.specs.declared.account.View.{View}
use Rattle.board_core.specs.declared.account.Who.{Who}
use Rattle.board_core.specs.declared.account.Who.TheVariants.{Loader, Gone}
use Rattle.board_core.specs.Each.{Each}
use Rattle.board_core.specs.Words.{Parts, parts_of, stored, regions_at}
use Rattle.board_core.specs.Histories.{history_of}
use Rattle.board_core.specs.Accounts.{with_me}
use Rattle.board_core.specs.SeatRule.{WhoFits}
use Rattle.board_core.proofs.FullFrame.{full_later}
use Rattle.board_core.proofs.EmptyFrame.{empty_same}
use Rattle.board_core.specs.Holds.{Rule, Holds}
use Rattle.board_core.specs.Steps.{Mine}
use Rattle.board_core.proofs.Lists.{each_none, each_cons}
use Rattle.board_core.proofs.Everyone.{mine}
use Rattle.board_core.proofs.LogFrame.{log_same}
use Rattle.board_core.proofs.StoryFrame.{stories_same}
use Rattle.board_core.proofs.LoadFrame.{loads_same, not_later}
use Rattle.std.proofs.lemmas.List.{length_push}
use Rattle.board_core.specs.declared.room.Sealed.{Sealed}
use Rattle.board_core.specs.Words.{regions_size}
use Rattle.board_core.specs.After.{after_word}
use Rattle.board_core.specs.Rows.{RowsFit}
use Rattle.board_core.specs.Steps.{MayStore, MaySeal, IsKnownRoom, Stores}
use Rattle.board_core.specs.RoomRule.{store_of, region_of, SealedFits, RoomFits}
use Rattle.board_core.proofs.RoomFrame.{history_kept, size_least}
use Rattle.board_core.specs.MarkRule.{AreListed}
use Rattle.board_core.proofs.Owner.{region_least, further}
use Rattle.board_core.proofs.Stepped.{St, by_region, words_moved}
use Rattle.board_core.proofs.Changed.{set_region}
use Rattle.board_core.proofs.WordRoom.{Adds, next_at, word_rooms, word_same, in_order_none, in_order_more}
use Rattle.board_core.proofs.MarkWord.{word_marks}
use Rattle.board_core.proofs.RecordFrame.{records_word}
use Rattle.board_core.proofs.FactFrame.{facts_word}
use Rattle.board_core.proofs.RowFrame.{rows_word}
use Rattle.board_core.proofs.SweptFrame.{swept_here}
use Rattle.board_core.proofs.ChainFrame.{chains_same}
use Rattle.board_core.proofs.PublishedFrame.{published_word}

pub store_word : (k : Shape) (p : Parts) (vs : List View) (id loader word : ℕ) (v : View) (more : List Sealed) → Rule k p (history_of k p) vs → get_elem? vs id ≡ some v → MayStore k v.me loader → Adds k v.me word more → Each (MaySeal k v.me word) more
    → Rule k (record p { regions = stored p.regions (next_at k v.me) word }) (history_of k (record p { regions = stored p.regions (next_at k v.me) word })) (set vs id (with_me v (after_word v.me word more)))
store_word k p vs id loader word v more r at may adds seals =
    let a : Account = after_word v.me word more in
    let h : List Event = history_of k p in
    let q : Parts = record p { regions = stored p.regions (next_at k v.me) word } in
    subst (λ (g : List Event). Rule k q g (set vs id (with_me v a))) (sym (history_kept k p q.regions vs r.rooms (word_same k p.regions vs id loader word v r.seats r.rooms.rooms at may)))
    (by_region k p q h h vs id v a r at
    record { who = refl; pool_words = refl; page_words = refl; pool = refl; tree = refl; counts = refl; epochs = refl; states = refl; lost = refl }
    (log_same k p.log h vs id v a r.log at refl)
    (stories_same k h vs id v a r.stories at refl refl)
    (full_later k vs id v a r.full at (let longer = length_push v.me.room.used word in omega arith) refl)
    (empty_same k p.pool.states vs id v a r.empty at refl)
    (chains_same k p.pages p.pool.states vs id v a r.chains at refl refl)
    (swept_here k p h vs id v a r at refl)
    (loads_same k p.log p.log vs id v a r.loads at (not_later p.log p.log refl refl) refl)
    (word_rooms k p.regions p.log.front p.log.slots vs id loader word v more r.seats r.rooms at may adds)
    (word_marks k p.regions p.log.front p.log.slots vs id loader word v more r.marks r.seats r.rooms at may seals)
    (records_word k p.regions vs id word v more r.records r.rooms.rooms at seals)
    (facts_word k p.regions p.log.front p.log.slots vs id loader word v more r.facts r.seats r.rooms at may)
    (rows_word k p.regions vs id word v more r.rows r.rooms.rooms at)
    (published_word k p.regions vs id word v more r.published r.rooms.rooms r.marks.listed at)
    (word_same k p.regions vs id loader word v r.seats r.rooms.rooms at may)
    (not_later p.log p.log refl refl))

-- the place is in the table's regions
next_inside : (k : Shape) (a : Account) (loader : ℕ) → MayStore k a loader → WhoFits k a.who → (region_of k a.who + length a.room.used ≡ regions_at k + next_at k a) × (next_at k a < regions_size k)
next_inside k a loader may fits =
    let least = region_least k a.who in
    let limits : WhoFits k (Loader loader) = subst (WhoFits k) may.who fits in
    let above = limits.0 in
    let below = limits.1 in
    let gap = further (loader - 1) k.loaders k.room (omega arith) in
    let low : ℕ = (loader - 1) * k.room in
    let high : ℕ = k.loaders * k.room in
    let gap' : low + k.room ≤ high = gap in
    let begin : region_of k a.who ≡ regions_at k + low = ap (region_of k) may.who in
    let room = may.room in (omega arith, inside_it (region_of k a.who) (regions_at k) low (length a.room.used) k.room high begin room gap')
  where
    inside_it : (from base low used room high : ℕ) → from ≡ base + low → used < room → low + room ≤ high → from + used - base < high
    inside_it from base low used room high e u g = omega arith

-- what the rule says of the room
known_room : (k : Shape) (regions : ℕ → ℕ) (a : Account) → RoomFits k regions (store_of a) → AreListed a.room → RowsFit k a.who a.room.used a.room.sealed a.tree → IsKnownRoom k a
known_room k regions a f listed rows = record {
  before = λ j s there. let t = f.sealed j s there in let until = t.until in let least = size_least (region_of k a.who) a.room.used s t in omega arith;
  within = λ j s there. (f.sealed j s there).until;
  listed = listed;
  placed = λ j r there. let begun = rows.placed j r there in (rows.begun begun.0 r begun.1).sealed;
}

-- a loader is not gone
loader_stays : (who : Who) (loader : ℕ) → who ≡ Loader loader → who ≢ Gone
loader_stays who loader is gone = cc

stored_allowed : (k : Shape) (slots id place loader word : ℕ) (m : Mine) (more : List Sealed) → place ≡ region_of k m.0.me.who + length m.0.me.room.used → MayStore k m.0.me loader → ((s : St) → Holds k s → get_elem? s.views id ≡ some m.0 → Adds k m.0.me word more) → Each (MaySeal k m.0.me word) more
    → Allows (Holds k) slots id m place (λ _. word) (λ _. Stores more (step slots place word 0 none) m word)
stored_allowed k slots id place loader word m more is may adds seals s h _ at _ =
    let p : Parts = parts_of k s.words in
    let a : Account = after_word m.0.me word more in
    let next = next_inside k m.0.me loader may (mine (λ x. WhoFits k x.who) s.views id m.0 at h.rule.seats.limits) in (
      with_me m.0 a,
      keeps,
      tt,
      words_moved k s place word id m.1 m.0 a (record p { regions = stored p.regions (next_at k m.0.me) word }) h
          (ap (λ (z : ℕ). parts_of k (set s.words z word)) (is ∙ next.0) ∙ set_region k s.words (next_at k m.0.me) word h.wide next.1)
          (store_word k p s.views id loader word m.0 more h.rule at may (adds s h at) seals),
      record {
        after = refl;
        room = subst (λ (z : Shape). IsKnownRoom z m.0.me) (sym (h.rule.seats.shapes id m.0 at (loader_stays m.0.me.who loader may.who)))
            (known_room k p.regions m.0.me (mine (λ x. RoomFits k p.regions (store_of x)) s.views id m.0 at h.rule.rooms.rooms) (mine (λ x. AreListed x.room) s.views id m.0 at h.rule.marks.listed)
            (mine (λ x. RowsFit k x.who x.room.used x.room.sealed x.tree) s.views id m.0 at h.rule.rows));
      },
    )

-- a word that completes no block, and one that completes a block
pub word_allowed : (k : Shape) (slots id place loader word : ℕ) (m : Mine) → place ≡ region_of k m.0.me.who + length m.0.me.room.used → MayStore k m.0.me loader → Allows (Holds k) slots id m place (λ _. word) (λ _. Stores [] (step slots place word 0 none) m word)
word_allowed k slots id place loader word m is may = stored_allowed k slots id place loader word m [] is may (λ s h at. record {
  fits = each_none (SealedFits (region_of k m.0.me.who) (m.0.me.room.used ++ word ∷ []));
  in_order = in_order_none m.0.me.room.sealed (mine (λ x. RoomFits k (parts_of k s.words).regions (store_of x)) s.views id m.0 at h.rule.rooms.rooms).in_order;
}) (each_none (MaySeal k m.0.me word))

pub seal_allowed : (k : Shape) (slots id place loader word : ℕ) (m : Mine) (new : Sealed) → place ≡ region_of k m.0.me.who + length m.0.me.room.used → MayStore k m.0.me loader → MaySeal k m.0.me word new
    → Allows (Holds k) slots id m place (λ _. word) (λ _. Stores (new ∷ []) (step slots place word 0 none) m word)
seal_allowed k slots id place loader word m new is may seals = stored_allowed k slots id place loader word m (new ∷ []) is may (λ s h at. record {
  fits = each_cons (SealedFits (region_of k m.0.me.who) (m.0.me.room.used ++ word ∷ [])) new [] seals.fits (each_none (SealedFits (region_of k m.0.me.who) (m.0.me.room.used ++ word ∷ [])));
  in_order = in_order_more m.0.me.room.sealed new (mine (λ x. RoomFits k (parts_of k s.words).regions (store_of x)) s.views id m.0 at h.rule.rooms.rooms).in_order seals.past;
}) (each_cons (MaySeal k m.0.me word) new [] seals (each_none (MaySeal k m.0.me word)))
