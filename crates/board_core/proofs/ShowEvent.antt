-- The front moves by one: the event whose word stands there is shown.
use Rattle.std.proofs.Common.{◌≡◌, ◌≢◌, ℕ, ◌+◌, ◌<◌, ◌≤◌, cond, List, [], ◌∷◌, ◌++◌, length, set, sym, refl, ap, ◌∙◌, subst, arith, length-append, lt_of_not-le, eq-eqb}
use mathlib.Core.Option.{some, none}
use mathlib.Core.Logic.{dite}
use native.Mathlib.Decide.{ℕ_discrete, dec_le}
use lib.ListN.{get_elem?}
use Rattle.atomic_table.specs.Table.{step, keeps, Allows}
use Rattle.std.specs.Prelude.{Option, Some, None}
use Rattle.atomic_table.proofs.Lists.{set_here}
use Rattle.board_core.proofs.Lists.{inside}
use Rattle.board_core.specs.declared.room.RoomAccount.{RoomAccount}
use Rattle.htss_defs.specs.declared.shape.Shape.{Shape}
use Rattle.htss_defs.specs.declared.history.Event.{Event}
use Rattle.board_core.specs.declared.account.Account.{Account}
use Rattle.board_core.specs.declared.account.View.{View}
use Rattle.board_core.specs.declared.account.Who.{Who}
use Rattle.board_core.specs.declared.account.Who.TheVariants.{Loader}
use Rattle.board_core.specs.declared.log.Holding.TheVariants.{Fronted}
use Rattle.board_core.specs.declared.loads.Loads.{Loads}
use Rattle.board_core.specs.Words.{LogWords, Parts, parts_of}
use Rattle.board_core.specs.Histories.{history_of, event_of, caller_of, MayFollow}
use Rattle.board_core.specs.Accounts.{with_me, total, IsOther}
use Rattle.board_core.specs.SeatRule.{SeatRule, WhoFits, made}
use Rattle.board_core.specs.LogRule.{hand_of, is_held, word_or_0, Holds as HoldsLock, HandFits, IsByLoader, LogRule}
use Rattle.board_core.specs.Truths.{IsTrueLog, IsTrueStory, told_in, own_events, entry_of}
use Rattle.board_core.specs.StoryRule.{StoryRule}
use Rattle.board_core.specs.Steps.{event_by}
use Rattle.board_core.specs.RoomRule.{Store, store_of, IsSealed, RoomFits, SomeAccount, ShowsSealed, RoomRule}
use Rattle.board_core.proofs.RoomFrame.{event_told}
use Rattle.board_core.proofs.Some.{some_changed}
use Rattle.std.proofs.Common.{◌-◌, length}
use Rattle.board_core.proofs.FullFrame.{full_more, event_room}
use Rattle.board_core.proofs.EmptyFrame.{empty_more, event_pool}
use Rattle.board_core.specs.Holds.{Rule, Holds}
use Rattle.board_core.specs.After.{with_published, noted, after_event}
use Rattle.board_core.specs.Steps.{Mine, MayShowEvent, ShowsEvent}
use Rattle.board_core.proofs.Lists.{each_none, each_cons, each_snoc, each_append}
use Rattle.board_core.specs.LogWord.{kind_in, loader_in, target_in}
use Rattle.board_core.proofs.Everyone.{mine, changed, at_most, moved, total_changed, total_same}
use Rattle.board_core.proofs.LogFrame.{none_some, hand_at, quiet_fits, free_fits, owner, others_free}
use Rattle.board_core.proofs.StoryFrame.{before_same, told_in-append, true_more, story_later}
use Rattle.board_core.proofs.LoadFrame.{loads_same}
use Rattle.board_core.proofs.MarkShow.{shown_marks}
use Rattle.board_core.proofs.RecordFrame.{records_same}
use Rattle.board_core.proofs.FactFrame.{facts_same}
use Rattle.board_core.proofs.Stepped.{by_region, words_moved}
use Rattle.board_core.specs.Accounts.{nothing, is_seat}
use Rattle.htss_defs.specs.declared.history.Event.TheVariants.{Publish, Withdraw}
use Rattle.htss_defs.specs.History.{HasEvent}
use Rattle.board_core.proofs.Changed.{set_front}
use Rattle.board_core.proofs.Events.{event_last, legal_more, by_other, by_this}
use Rattle.board_core.proofs.Shown.{history_grown, caller_shown, may_follow}
use Rattle.board_core.proofs.RowFrame.{rows_same}
use Rattle.board_core.specs.Sheets.{sheet_of}
use Rattle.board_core.proofs.SweptFrame.{swept_more, event_swept}
use Rattle.board_core.proofs.ChainFrame.{chains_more, event_chain}
use Rattle.board_core.proofs.PublishedFrame.{published_event}

shown_holds : (w u : LogWords) (a : Account) (e : Event) → u.lock ≡ w.lock → u.front ≡ w.front + 1 → a.log.holding ≡ Fronted → HoldsLock w (hand_of a) a.log.holding → HoldsLock u (hand_of (after_event a e)) a.log.holding
shown_holds w u a e lock front held holds = let own = owner w (hand_of a) a.log.holding held holds in
    subst (HoldsLock u (hand_of (after_event a e))) (sym held) (own.0 ∙ ap (λ z. Loader z) (sym lock), ap (λ z. z + 1) own.1 ∙ sym front)

pub shown_log : (k : Shape) (w : LogWords) (h : List Event) (vs : List View) (id word : ℕ) (v : View) (e : Event) → LogRule k w h vs → get_elem? vs id ≡ some v → MayShowEvent v.me word → IsByLoader k e → MayFollow h e
    → LogRule k (record w { front = w.front + 1 }) (h ++ e ∷ []) (set vs id (with_me v (after_event v.me e)))
shown_log k w h vs id word v e r at may by follows =
    let a : Account = after_event v.me e in
    let u : LogWords = record w { front = w.front + 1 } in
    let f = hand_at k w h vs id v r at in
    let own = owner w (hand_of v.me) v.me.log.holding may.holding f.holds in
    let here : v.me.log.seen ≡ w.front = own.1 in
    let next = f.logged word may.logged in
    let room = next.room in
    let count = r.counted in record {
      front = omega arith;
      counted = omega (arith, length-append h (e ∷ []), count);
      legal = legal_more h e r.legal follows;
      callers = each_snoc (IsByLoader k) h e by r.callers;
      blank = λ i past. r.blank i (omega arith);
      next =
          let sum = total_changed (λ x. word_or_0 x.log.pending.logged) vs id v a at in
          let before : word_or_0 v.me.log.pending.logged ≡ word = ap word_or_0 may.logged in
          let stood : w.slots w.front ≡ word = next.there in
          let all = r.next in
          let blank_next : w.slots (w.front + 1) ≡ 0 = r.blank (w.front + 1) (omega arith) in omega arith;
      lock = total_same (λ x. is_held x.log.holding) vs id v a at refl ∙ r.lock;
      hands = moved (λ x. HandFits k w h (hand_of x)) (λ x. HandFits k u (h ++ e ∷ []) (hand_of x)) vs id v a at
          (quiet_fits k u (h ++ e ∷ []) (hand_of a) (omega arith) (shown_holds w u v.me e refl refl may.holding f.holds) refl)
          (λ x other fits. free_fits k w u h (h ++ e ∷ []) (hand_of x) (others_free k w h vs v.me r may.holding x other) (omega arith) fits) r.hands;
    }

-- ---- true accounts

-- two loaders' accounts differ in their number
seat_one : (k : Shape) (who : Who) (c : ℕ) → who ≡ Loader c → is_seat k c who ≡ 1
seat_one k who c is = ap (is_seat k c) is ∙ ap (λ b. cond b 1 0) (eq-eqb c c refl)

seat_most : (k : Shape) (vs : List View) (c : ℕ) → 0 < c → SeatRule k vs → total (λ x. is_seat k c x.who) vs ≤ 1
seat_most k vs c above r = dite (dec_le c (made vs))
    (λ within. let one = r.callers c above within in omega arith)
    (λ past. let zero_seats = r.none_past c (lt_of_not-le past) in omega arith)

other_loader : (k : Shape) (vs : List View) (v : View) (c : ℕ) → 0 < c → SeatRule k vs → v.me.who ≡ Loader c → (x : Account) → IsOther vs v.me x → x.who ≢ Loader c
other_loader k vs v c above r is x other also =
    let sum : is_seat k c x.who + is_seat k c v.me.who ≤ total (λ y. is_seat k c y.who) vs = other (λ y. is_seat k c y.who) in
    let a = seat_one k x.who c also in
    let b = seat_one k v.me.who c is in
    let most = seat_most k vs c above r in omega arith

loader_made : (k : Shape) (vs : List View) (id : ℕ) (v : View) (c : ℕ) → SeatRule k vs → get_elem? vs id ≡ some v → v.me.who ≡ Loader c → c ≤ made vs
loader_made k vs id v c r at is = dite (dec_le c (made vs)) (λ within. within)
    (λ past. let zero_seats = r.none_past c (lt_of_not-le past) in
    let most : is_seat k c v.me.who ≤ total (λ y. is_seat k c y.who) vs = at_most (λ y. is_seat k c y.who) vs id v at in
    let one = seat_one k v.me.who c is in absurd (omega arith))

told_event : (l : Loads) (number : ℕ) (e : Event) → told_in (noted l (entry_of number e ∷ [])) ≡ (number, e) ∷ []
told_event l number (Publish caller name mol) = refl
told_event l number (Withdraw caller target) = refl

true_event : (k : Shape) (h : List Event) (number : ℕ) (e : Event) → HasEvent h number e → IsTrueLog k h (entry_of number e)
true_event k h number (Publish caller name mol) has = has
true_event k h number (Withdraw caller target) has = has

own_event : (h : List Event) (e : Event) (who : Who) (number : ℕ) → who ≡ Loader (caller_of e) → number ≡ length h + 1 → own_events (h ++ e ∷ []) who ≡ own_events h who ++ (number, e) ∷ []
own_event h e who number is next = subst (λ (x : Who). own_events (h ++ e ∷ []) x ≡ own_events h x ++ (number, e) ∷ []) (sym is) (by_this h e (caller_of e) number refl next)

shown_story : (k : Shape) (h : List Event) (e : Event) (a : Account) (number : ℕ) → number ≡ length h + 1 → a.who ≡ Loader (caller_of e) → IsTrueStory k h a.who a.entries
    → IsTrueStory k (h ++ e ∷ []) a.who (a.entries ++ noted a.loads (entry_of number e ∷ []))
shown_story k h e a number is who t = record {
  each = each_append (λ n. IsTrueLog k (h ++ e ∷ []) n.entry) a.entries (noted a.loads (entry_of number e ∷ [])) (λ j n there. true_more k h e n.entry (t.each j n there))
      (each_cons (λ n. IsTrueLog k (h ++ e ∷ []) n.entry) _ [] (true_event k (h ++ e ∷ []) number e (subst (λ n. HasEvent (h ++ e ∷ []) n e) (sym is) (event_last h e))) (each_none (λ n. IsTrueLog k (h ++ e ∷ []) n.entry)));
  own = own_event h e a.who number who is ∙ (ap (λ l. l ++ (number, e) ∷ []) t.own ∙ (ap (λ l. told_in a.entries ++ l) (sym (told_event a.loads number e)) ∙ sym (told_in-append a.entries (noted a.loads (entry_of number e ∷ [])))));
}

pub shown_stories : (k : Shape) (h : List Event) (vs : List View) (id : ℕ) (v : View) (e : Event) → SeatRule k vs → StoryRule k h vs → get_elem? vs id ≡ some v → v.me.who ≡ Loader (caller_of e) → 0 < caller_of e → v.me.log.seen ≡ length h
    → StoryRule k (h ++ e ∷ []) (set vs id (with_me v (after_event v.me e)))
shown_stories k h vs id v e seats r at who above count = record {
  stories = moved (λ x. IsTrueStory k h x.who x.entries) (λ x. IsTrueStory k (h ++ e ∷ []) x.who x.entries) vs id v (after_event v.me e) at
      (shown_story k h e v.me (v.me.log.seen + 1) (ap (λ z. z + 1) count) who (mine (λ x. IsTrueStory k h x.who x.entries) vs id v at r.stories))
      (λ x other t. story_later k h e x.who x.entries (other_loader k vs v (caller_of e) above seats who x other) t) r.stories;
  none_before = before_same (h ++ e ∷ []) vs id v (after_event v.me e) at refl
      (λ c past. let born = loader_made k vs id v (caller_of e) seats at who in by_other h e c (λ same. omega arith) ∙ r.none_before c past);
}

-- ---- rooms

published_fits : (k : Shape) (regions : ℕ → ℕ) (o : Option ℕ) (a : Store) → RoomFits k regions a → RoomFits k regions record { who = a.who; room = with_published o a.room; pending = nothing }
published_fits k regions (Some block) a f = record { within = f.within; stands = f.stands; sealed = f.sealed; in_order = f.in_order; shows = λ b e. absurd (none_some b e); logged = λ word e. absurd (none_some word e) }
published_fits k regions None a f = record { within = f.within; stands = f.stands; sealed = f.sealed; in_order = f.in_order; shows = λ b e. absurd (none_some b e); logged = λ word e. absurd (none_some word e) }

published_used : (o : Option ℕ) (r : RoomAccount) → length (with_published o r).used ≡ length r.used
published_used (Some block) r = refl
published_used None r = refl

kept_used : (o : Option ℕ) (r : RoomAccount) → (with_published o r).used ≡ r.used
kept_used (Some block) r = refl
kept_used None r = refl

kept_sealed : (o : Option ℕ) (r : RoomAccount) → (with_published o r).sealed ≡ r.sealed
kept_sealed (Some block) r = refl
kept_sealed None r = refl

published_sealed : (o : Option ℕ) (r : RoomAccount) (place : ℕ) → IsSealed r.sealed place → IsSealed (with_published o r).sealed place
published_sealed (Some block) r place t = t
published_sealed None r place t = t

pub shown_rooms : (k : Shape) (regions : ℕ → ℕ) (front : ℕ) (slots : ℕ → ℕ) (vs : List View) (id word : ℕ) (v : View) (e : Event) → RoomRule k regions front slots vs → get_elem? vs id ≡ some v → v.me.log.pending.logged ≡ Some word → slots front ≡ word → v.me.who ≡ Loader (loader_in word)
    → RoomRule k regions (front + 1) slots (set vs id (with_me v (after_event v.me e)))
shown_rooms k regions front slots vs id word v e r at logged there who =
    let a : Account = after_event v.me e in
    let f = mine (λ x. RoomFits k regions (store_of x)) vs id v at r.rooms in
    let sealed_too : (place : ℕ) → IsSealed v.me.room.sealed place → IsSealed a.room.sealed place = published_sealed v.me.log.pending.shows v.me.room in record {
      rooms = changed (λ x. RoomFits k regions (store_of x)) vs id v a at (published_fits k regions v.me.log.pending.shows (store_of v.me) f) r.rooms;
      named = λ i behind kind. dite (ℕ_discrete i front)
          (λ same. let is : word ≡ slots i = sym there ∙ ap slots (sym same) in
          subst (λ (w : ℕ). ¬ (kind_in w ≡ 2) → SomeAccount (ShowsSealed w) (set vs id (with_me v a))) is
          (λ not_two. (id, with_me v a, set_here vs id (with_me v a) (inside vs id v at), 0, a, refl, (who, sealed_too (target_in word) (f.logged word logged not_two))))
          kind)
          (λ other. some_changed (ShowsSealed (slots i)) vs id v a at (λ t. (t.0, sealed_too (target_in (slots i)) t.1)) (r.named i (omega arith) kind));
    }

-- ---- the whole

pub show_event : (k : Shape) (p : Parts) (vs : List View) (id word : ℕ) (v : View) (e : Event) → Rule k p (history_of k p) vs → get_elem? vs id ≡ some v → MayShowEvent v.me word → event_of k p.regions word ≡ e
    → Rule k (record p { log = record p.log { front = p.log.front + 1 } }) (history_of k p ++ e ∷ []) (set vs id (with_me v (after_event v.me e)))
show_event k p vs id word v e r at may is =
    let h : List Event = history_of k p in
    let u : LogWords = record p.log { front = p.log.front + 1 } in
    let f = hand_at k p.log h vs id v r.log at in
    let own = owner p.log (hand_of v.me) v.me.log.holding may.holding f.holds in
    let next = f.logged word may.logged in
    let caller : caller_of e ≡ p.log.lock = ap caller_of (sym is) ∙ (caller_shown k p.regions word ∙ next.own) in
    let who : v.me.who ≡ Loader (caller_of e) = own.0 ∙ ap (λ z. Loader z) (sym caller) in
    let by : IsByLoader k e = subst (WhoFits k) who (mine (λ x. WhoFits k x.who) vs id v at r.seats.limits) in
    let follows : MayFollow h e = subst (MayFollow h) is (may_follow k p.regions h word next.may) in
    by_region k p (record p { log = u }) h (h ++ e ∷ []) vs id v (after_event v.me e) r at
    record { who = refl; pool_words = refl; page_words = refl; pool = refl; tree = refl; counts = refl; epochs = refl; states = refl; lost = refl }
    (shown_log k p.log h vs id word v e r.log at may by follows)
    (shown_stories k h vs id v e r.seats r.stories at who by.0 (own.1 ∙ sym r.log.counted))
    (full_more k vs id v (after_event v.me e) (entry_of (v.me.log.seen + 1) e ∷ []) r.full at (event_room (k.room - length v.me.room.used) (v.me.log.seen + 1) e) (published_used v.me.log.pending.shows v.me.room) refl)
    (empty_more k p.pool.states vs id v (after_event v.me e) (entry_of (v.me.log.seen + 1) e ∷ []) r.empty at (event_pool k p.pool.states (v.me.log.seen + 1) e) refl)
    (chains_more k p.pages p.pool.states vs id v (after_event v.me e) (entry_of (v.me.log.seen + 1) e ∷ []) r.chains at refl (event_chain k p.pages (sheet_of p.pool.states vs) (v.me.log.seen + 1) e) refl)
    (swept_more k p h vs id v (after_event v.me e) (entry_of (v.me.log.seen + 1) e ∷ []) r at (event_swept k p vs (v.me.log.seen + 1) e) refl)
    (loads_same k p.log u vs id v (after_event v.me e) r.loads at record { front = omega arith; slots = λ i _. refl } refl)
    (shown_rooms k p.regions p.log.front p.log.slots vs id word v e r.rooms at may.logged next.there (own.0 ∙ ap (λ z. Loader z) (sym next.own)))
    (shown_marks k p vs id word v e r.marks r.seats r.log r.rooms at may)
    (records_same k vs id v (after_event v.me e) r.records at refl (kept_used v.me.log.pending.shows v.me.room) (kept_sealed v.me.log.pending.shows v.me.room))
    (facts_same k p.regions p.log.front (p.log.front + 1) vs id v (after_event v.me e) r.facts at (kept_sealed v.me.log.pending.shows v.me.room) record { heads = refl; facts = refl; codes = refl; marks = refl } (omega arith))
    (rows_same k vs id v (after_event v.me e) r.rows at refl (kept_used v.me.log.pending.shows v.me.room) (kept_sealed v.me.log.pending.shows v.me.room) refl refl)
    (published_event k vs id v (after_event v.me e) r.published at refl (kept_used v.me.log.pending.shows v.me.room) refl refl refl)
    (λ j u there i x here b s in_list t _ _ _. refl)
    record { front = omega arith; slots = λ i _. refl }

pub show_allowed : (k : Shape) (slots id n word : ℕ) (m : Mine) (e : Event) → n ≡ m.0.me.log.seen + 1 → MayShowEvent m.0.me word → event_by k m.0.me word ≡ e → Allows (Holds k) slots id m 0 (λ _. n) (λ _. ShowsEvent e (step slots 0 n 0 none) m n)
show_allowed k slots id n word m e is may knows s h _ at _ =
    let p : Parts = parts_of k s.words in
    let f = hand_at k p.log (history_of k p) s.views id m.0 h.rule.log at in
    let here : m.0.me.log.seen ≡ p.log.front = (owner p.log (hand_of m.0.me) m.0.me.log.holding may.holding f.holds).1 in
    let next = f.logged word may.logged in
    let stored_fits = mine (λ x. RoomFits k p.regions (store_of x)) s.views id m.0 at h.rule.rooms.rooms in
    let q : Parts = record p { log = record p.log { front = p.log.front + 1 } } in
    let shows : event_of k p.regions word ≡ e = event_told k p.regions (store_of m.0.me) word stored_fits (stored_fits.logged word may.logged) ∙ knows in
    let grown : history_of k q ≡ history_of k p ++ e ∷ [] = history_grown k p ∙ ap (λ (x : Event). history_of k p ++ x ∷ []) (ap (event_of k p.regions) next.there ∙ shows) in (
      with_me m.0 (after_event m.0.me e),
      keeps,
      tt,
      words_moved k s 0 n id m.1 m.0 (after_event m.0.me e) q h
          (ap (λ (z : ℕ). parts_of k (set s.words 0 z)) (is ∙ ap (λ z. z + 1) here) ∙ set_front k s.words (p.log.front + 1) h.wide)
          (subst (λ (g : List Event). Rule k q g (set s.views id (with_me m.0 (after_event m.0.me e)))) (sym grown) (show_event k p s.views id word m.0 e h.rule at may shows)),
      refl,
    )
