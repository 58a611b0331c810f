-- The log word of an event is stored, past the front.
use Rattle.std.proofs.Common.{◌≡◌, ℕ, ◌+◌, ◌^◌, ◌<◌, ◌⊎◌, List, set, sym, refl, ap, ◌∙◌, subst, arith, inl, inr}
use mathlib.Core.Option.{some, none}
use lib.ListN.{get_elem?}
use Rattle.atomic_table.specs.Table.{step, keeps, Allows}
use Rattle.htss_defs.specs.declared.shape.Shape.{Shape}
use Rattle.htss_defs.specs.declared.history.Event.{Event}
use Rattle.board_core.specs.declared.account.Account.{Account}
use Rattle.board_core.specs.declared.account.View.{View}
use Rattle.board_core.specs.declared.account.Who.TheVariants.{Loader}
use Rattle.board_core.specs.declared.log.Holding.{Holding}
use Rattle.board_core.specs.declared.log.Holding.TheVariants.{Fronted}
use Rattle.board_core.specs.Words.{LogWords, Parts, parts_of, stored, log_at}
use Rattle.board_core.specs.Histories.{history_of, IsOpen, MayShow}
use Rattle.board_core.specs.Accounts.{with_me, total}
use Rattle.board_core.specs.LogRule.{Hand, hand_of, is_held, word_or_0, Holds as HoldsLock, IsNext, HandFits, LogRule}
use Rattle.board_core.specs.RoomRule.{store_of, IsSealed, RoomFits, SomeAccount, ShowsSealed, RoomRule}
use Rattle.board_core.proofs.Some.{some_changed}
use Rattle.board_core.proofs.FullFrame.{full_same}
use Rattle.board_core.proofs.EmptyFrame.{empty_same}
use Rattle.board_core.specs.Holds.{Rule, Holds}
use Rattle.board_core.specs.After.{after_logged}
use Rattle.board_core.specs.Steps.{Mine, IsPublicationOf, IsWithdrawalOf, MayLog, Logs}
use Rattle.board_core.proofs.Everyone.{mine, changed, moved, total_changed, total_same, total_only}
use Rattle.board_core.proofs.LogFrame.{hand_at, same_some, free_quiet, free_fits, owner, others_free}
use Rattle.board_core.proofs.StoryFrame.{stories_same}
use Rattle.board_core.proofs.LoadFrame.{loads_same}
use Rattle.board_core.proofs.MarkEvent.{event_marks}
use Rattle.board_core.proofs.RecordFrame.{records_same}
use Rattle.board_core.proofs.FactFrame.{facts_same}
use Rattle.board_core.proofs.Stepped.{by_region, words_moved}
use Rattle.board_core.specs.LogWord.{kind_in, loader_in, target_in}
use Rattle.board_core.proofs.Stored.{stored_here, stored_else}
use Rattle.board_core.proofs.Changed.{set_slot}
use Rattle.board_core.proofs.Fields.{target_back, loader_back, kind_back}
use Rattle.board_core.proofs.Shown.{history_same}
use Rattle.board_core.proofs.RowFrame.{rows_same}
use Rattle.board_core.proofs.SweptFrame.{swept_here}
use Rattle.board_core.proofs.ChainFrame.{chains_same}
use Rattle.board_core.proofs.PublishedFrame.{published_same}

not_two : {n : ℕ} → n ≡ 1 → n ≡ 2 → ⊥
not_two a b = omega arith

-- what is pending may be shown by the word
pending_may : (k : Shape) (w : LogWords) (h : List Event) (a : Account) (loader word : ℕ) → loader < 2 ^ 8 → HandFits k w h (hand_of a) → IsPublicationOf a loader word ⊎ IsWithdrawalOf a loader word → (loader_in word ≡ loader) × MayShow h word
pending_may k w h a loader word small f (inl t) =
    let back : kind_in word ≡ 1 = ap kind_in t.3 ∙ kind_back 1 loader t.0 small t.2 in
    (ap loader_in t.3 ∙ loader_back 1 loader t.0 small t.2, λ two. absurd (not_two back two))
pending_may k w h a loader word small f (inr t) =
    let target : ℕ = t.0.target in
    (ap loader_in t.3 ∙ loader_back 2 loader target small t.2, λ _. subst (IsOpen h) (sym (ap target_in t.3 ∙ target_back 2 loader target small t.2)) (f.ends t.0 t.1).1)

same_loader : {a b : ℕ} → Loader a ≡ Loader b → a ≡ b
same_loader e = cc

-- nobody else has a log word pending
free_word : (w : LogWords) (x : Hand) (b : Holding) → is_held b ≡ 0 → HoldsLock w x b → word_or_0 x.log.pending.logged ≡ 0
free_word w x b free holds = ap (λ p. word_or_0 p.logged) (free_quiet w x b free holds)

logged_holds : (w u : LogWords) (a : Account) (word : ℕ) → u.lock ≡ w.lock → u.front ≡ w.front → a.log.holding ≡ Fronted → HoldsLock w (hand_of a) a.log.holding → HoldsLock u (hand_of (after_logged a word)) a.log.holding
logged_holds w u a word lock front e holds = let own = owner w (hand_of a) a.log.holding e holds in
    subst (HoldsLock u (hand_of (after_logged a word))) (sym e) (own.0 ∙ ap (λ z. Loader z) (sym lock), own.1 ∙ sym front)

pub event_log : (k : Shape) (w : LogWords) (h : List Event) (vs : List View) (id loader word : ℕ) (v : View) → LogRule k w h vs → get_elem? vs id ≡ some v → MayLog k v.me loader word
    → LogRule k (record w { slots = stored w.slots w.front word }) h (set vs id (with_me v (after_logged v.me word)))
event_log k w h vs id loader word v r at may =
    let a : Account = after_logged v.me word in
    let u : LogWords = record w { slots = stored w.slots w.front word } in
    let f = hand_at k w h vs id v r at in
    let own = owner w (hand_of v.me) v.me.log.holding may.holding f.holds in
    let here : v.me.log.seen ≡ w.front = own.1 in
    let in_log = may.room in
    let room : w.front < k.log = omega arith in
    let loader_is : loader ≡ w.lock = same_loader (sym may.who ∙ own.0) in
    let shown = pending_may k w h v.me loader word may.small f may.kind in
    let stands : IsNext k u h word = record { room = room; there = stored_here w.slots w.front word; own = shown.0 ∙ loader_is; may = shown.1 } in record {
      front = r.front;
      counted = r.counted;
      legal = r.legal;
      callers = r.callers;
      blank = λ i past. stored_else w.slots w.front word i (λ e. omega arith) ∙ r.blank i past;
      next =
          let sum = total_changed (λ x. word_or_0 x.log.pending.logged) vs id v a at in
          let only : total (λ x. word_or_0 x.log.pending.logged) vs ≡ word_or_0 v.me.log.pending.logged = total_only (λ x. HandFits k w h (hand_of x)) (λ x. word_or_0 x.log.pending.logged) vs id v at refl
          (λ x other fits. free_word w (hand_of x) x.log.holding (others_free k w h vs v.me r may.holding x other) fits.holds) r.hands in
          let none_before : word_or_0 v.me.log.pending.logged ≡ 0 = ap word_or_0 may.not_yet in
          let there = stored_here w.slots w.front word in omega arith;
      lock = total_same (λ x. is_held x.log.holding) vs id v a at refl ∙ r.lock;
      hands = moved (λ x. HandFits k w h (hand_of x)) (λ x. HandFits k u h (hand_of x)) vs id v a at
          record {
            seen = f.seen;
            holds = logged_holds w u v.me word refl refl may.holding f.holds;
            shows = f.shows;
            ends = f.ends;
            logged = λ other e. subst (IsNext k u h) (same_some word other e) stands;
          }
          (λ x other fits. free_fits k w u h h (hand_of x) (others_free k w h vs v.me r may.holding x other) (omega arith) fits) r.hands;
    }

-- the block that the word shows is the one that is pending
pending_sealed : (k : Shape) (regions : ℕ → ℕ) (a : Account) (loader word : ℕ) → loader < 2 ^ 8 → RoomFits k regions (store_of a) → IsPublicationOf a loader word ⊎ IsWithdrawalOf a loader word → ¬ (kind_in word ≡ 2) → IsSealed a.room.sealed (target_in word)
pending_sealed k regions a loader word small f (inl t) not_a_withdrawal = subst (IsSealed a.room.sealed) (sym (ap target_in t.3 ∙ target_back 1 loader t.0 small t.2)) (f.shows t.0 t.1)
pending_sealed k regions a loader word small f (inr t) not_a_withdrawal = absurd (not_a_withdrawal (ap kind_in t.3 ∙ kind_back 2 loader t.0.target small t.2))

pub event_rooms : (k : Shape) (regions : ℕ → ℕ) (front : ℕ) (slots : ℕ → ℕ) (vs : List View) (id word : ℕ) (v : View) → RoomRule k regions front slots vs → get_elem? vs id ≡ some v → (¬ (kind_in word ≡ 2) → IsSealed v.me.room.sealed (target_in word))
    → RoomRule k regions front (stored slots front word) (set vs id (with_me v (after_logged v.me word)))
event_rooms k regions front slots vs id word v r at sealed =
    let a : Account = after_logged v.me word in
    let f = mine (λ x. RoomFits k regions (store_of x)) vs id v at r.rooms in record {
      rooms = changed (λ x. RoomFits k regions (store_of x)) vs id v a at
          record {
            within = f.within;
            stands = f.stands;
            sealed = f.sealed;
            in_order = f.in_order;
            shows = f.shows;
            logged = λ other e. subst (λ (w : ℕ). ¬ (kind_in w ≡ 2) → IsSealed v.me.room.sealed (target_in w)) (same_some word other e) sealed;
          } r.rooms;
      named = λ i behind kind. let same : stored slots front word i ≡ slots i = stored_else slots front word i (λ e. omega arith) in
          subst (λ (w : ℕ). SomeAccount (ShowsSealed w) (set vs id (with_me v a))) (sym same)
          (some_changed (ShowsSealed (slots i)) vs id v a at (λ t. t) (r.named i behind (subst (λ (w : ℕ). ¬ (kind_in w ≡ 2)) same kind)));
    }

pub store_event : (k : Shape) (p : Parts) (h : List Event) (vs : List View) (id loader word : ℕ) (v : View) → Rule k p h vs → get_elem? vs id ≡ some v → MayLog k v.me loader word
    → Rule k (record p { log = record p.log { slots = stored p.log.slots p.log.front word } }) h (set vs id (with_me v (after_logged v.me word)))
store_event k p h vs id loader word v r at may =
    let u : LogWords = record p.log { slots = stored p.log.slots p.log.front word } in by_region k p (record p { log = u }) h h vs id v (after_logged v.me word) r at
    record { who = refl; pool_words = refl; page_words = refl; pool = refl; tree = refl; counts = refl; epochs = refl; states = refl; lost = refl }
    (event_log k p.log h vs id loader word v r.log at may)
    (stories_same k h vs id v (after_logged v.me word) r.stories at refl refl)
    (full_same k vs id v (after_logged v.me word) r.full at refl refl)
    (empty_same k p.pool.states vs id v (after_logged v.me word) r.empty at refl)
    (chains_same k p.pages p.pool.states vs id v (after_logged v.me word) r.chains at refl refl)
    (swept_here k p h vs id v (after_logged v.me word) r at refl)
    (loads_same k p.log u vs id v (after_logged v.me word) r.loads at record { front = omega arith; slots = λ i behind. stored_else p.log.slots p.log.front word i (λ e. omega arith) } refl)
    (event_rooms k p.regions p.log.front p.log.slots vs id word v r.rooms at (pending_sealed k p.regions v.me loader word may.small (mine (λ x. RoomFits k p.regions (store_of x)) vs id v at r.rooms.rooms) may.kind))
    (event_marks k p.regions p.log.front p.log.slots vs id loader word v r.marks at may)
    (records_same k vs id v (after_logged v.me word) r.records at refl refl refl)
    (facts_same k p.regions p.log.front p.log.front vs id v (after_logged v.me word) r.facts at refl record { heads = refl; facts = refl; codes = refl; marks = refl } (omega arith))
    (rows_same k vs id v (after_logged v.me word) r.rows at refl refl refl refl refl)
    (published_same k vs id v (after_logged v.me word) r.published at refl refl refl refl refl)
    (λ j u there i x here b s in_list t _ _ _. refl)
    record { front = omega arith; slots = λ i behind. stored_else p.log.slots p.log.front word i (λ e. omega arith) }

pub event_allowed : (k : Shape) (slots id place loader word : ℕ) (m : Mine) → place ≡ log_at k + m.0.me.log.seen → MayLog k m.0.me loader word → Allows (Holds k) slots id m place (λ _. word) (λ _. Logs (step slots place word 0 none) m word)
event_allowed k slots id place loader word m is may s h _ at _ =
    let p : Parts = parts_of k s.words in
    let f = hand_at k p.log (history_of k p) s.views id m.0 h.rule.log at in
    let here : m.0.me.log.seen ≡ p.log.front = (owner p.log (hand_of m.0.me) m.0.me.log.holding may.holding f.holds).1 in
    let room = may.room in
    let q : Parts = record p { log = record p.log { slots = stored p.log.slots p.log.front word } } in
    let same : history_of k q ≡ history_of k p = history_same k p q refl refl (λ i behind. stored_else p.log.slots p.log.front word i (λ e. omega arith)) in (
      with_me m.0 (after_logged m.0.me word),
      keeps,
      tt,
      words_moved k s place word id m.1 m.0 (after_logged m.0.me word) q h
          (ap (λ (z : ℕ). parts_of k (set s.words z word)) (is ∙ ap (λ z. log_at k + z) here) ∙ set_slot k s.words p.log.front word h.wide (omega arith))
          (subst (λ (g : List Event). Rule k q g (set s.views id (with_me m.0 (after_logged m.0.me word)))) (sym same) (store_event k p (history_of k p) s.views id loader word m.0 h.rule at may)),
      refl,
    )
