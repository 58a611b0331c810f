-- A loaded epoch is announced, or the announcement is taken back: what was reached is dropped.
use Rattle.std.proofs.Common.{◌≡◌, ◌≢◌, ℕ, suc, ◌+◌, ◌-◌, ◌<◌, ◌≤◌, List, [], set, sym, refl, ap, ◌∙◌, arith, length}
use mathlib.Core.Option.{some, none, some-ne-none}
use mathlib.Core.Logic.{dite}
use native.Mathlib.Decide.{ℕ_discrete}
use lib.ListN.{get_elem?}
use Rattle.atomic_table.specs.Table.{step, keeps, Allows}
use Rattle.htss_defs.specs.declared.shape.Shape.{Shape}
use Rattle.htss_defs.specs.declared.history.Event.{Event}
use Rattle.board_core.specs.declared.account.Account.{Account}
use Rattle.board_core.specs.declared.account.View.{View}
use Rattle.board_core.specs.declared.tree.TreeAccount.{TreeAccount}
use Rattle.board_core.specs.Each.{Each}
use Rattle.board_core.specs.Words.{Parts, PoolWords, parts_of, stored}
use Rattle.board_core.specs.Histories.{history_of}
use Rattle.board_core.specs.Accounts.{with_me, total, IsOther, seat_of, is_seat}
use Rattle.board_core.specs.Held.{held_in}
use Rattle.board_core.specs.Sheets.{Sheet, sheet_of, stamp_of}
use Rattle.board_core.specs.SeatRule.{SeatRule, WhoFits, made}
use Rattle.board_core.specs.HeldRule.{HeldFits}
use Rattle.board_core.specs.PoolRule.{PoolRule}
use Rattle.board_core.specs.Holds.{Rule, Holds}
use Rattle.board_core.specs.After.{after_pin, after_unpin}
use Rattle.board_core.specs.Steps.{Mine, MayPin, Pins, Unpins}
use Rattle.board_core.proofs.Everyone.{mine, at_most}
use Rattle.board_core.proofs.Callers.{seat_this}
use Rattle.board_core.proofs.PoolFrame.{pool_claim, claim_here, scans_here, states_same}
use Rattle.board_core.proofs.Stepped.{words_moved}
use Rattle.board_core.proofs.Stored.{stored_here, stored_else}
use Rattle.board_core.proofs.OwnFrame.{own_same}
use Rattle.board_core.proofs.Pooled.{linked_kept, SameRows, by_pool, seat_within}
use Rattle.board_core.proofs.Changed.{set_announced}
use Rattle.board_core.specs.Rows.{codes_in, IsPlaced}
use Rattle.board_core.specs.ClassTree.{Place, Tree}
use Rattle.board_core.specs.KnownPages.{Lasts}
use Rattle.board_core.specs.KnownRule.{Knows}
use Rattle.board_core.specs.OldRows.{IsOldRow}
use Rattle.board_core.proofs.RowFrame.{placed_begun}
use Rattle.board_core.proofs.TreeFrame.{tree_told, knows_nothing, knows_root}
use Rattle.board_core.proofs.OldMoved.{pin_here}
use Rattle.board_core.proofs.OldRows.{old_placed}
use Rattle.board_core.proofs.LogFrame.{hand_at}

-- a caller with this announcement, and with nothing reached that it holds
abbrev announcing : Account → ℕ → TreeAccount → Account
announcing a e t = record a { pool = record a.pool { announced = e }; tree = t }

-- the caller is made, and nobody else has its place
was_made : (k : Shape) (vs : List View) (id c : ℕ) (v : View) → SeatRule k vs → get_elem? vs id ≡ some v → seat_of k v.me.who ≡ c → c ≤ made vs
was_made k vs id c v r at is =
    let one = seat_this k c v.me.who is in
    let some_there : is_seat k c v.me.who ≤ total (λ x. is_seat k c x.who) vs = at_most (λ x. is_seat k c x.who) vs id v at in
    dite (ℕ_discrete (c - made vs) 0) (λ within. omega arith) (λ past. let none = r.none_past c (omega arith) in absurd (omega arith))

alone_at : (k : Shape) (vs : List View) (c : ℕ) (a x : Account) → SeatRule k vs → 0 < c → c ≤ made vs → seat_of k a.who ≡ c → IsOther vs a x → seat_of k x.who ≢ c
alone_at k vs c a x r above within is other same =
    let both : is_seat k c x.who + is_seat k c a.who ≤ total (λ y. is_seat k c y.who) vs = other (λ y. is_seat k c y.who) in
    let one = seat_this k c a.who is in
    let two = seat_this k c x.who same in
    let all = r.callers c above within in omega arith

pub announce_pool : (k : Shape) (w : PoolWords) (vs : List View) (id i e : ℕ) (v : View) (t : TreeAccount) → SeatRule k vs → PoolRule k w vs → get_elem? vs id ≡ some v → seat_of k v.me.who ≡ suc i → e ≤ w.epoch → held_in t.reached ≡ [] → t.begun ≡ v.me.tree.begun
    → PoolRule k (record w { announced = stored w.announced i e }) (set vs id (with_me v (announcing v.me e t)))
announce_pool k w vs id i e v t seats r at is past bare begun =
    let a : Account = announcing v.me e t in
    let s : Sheet = sheet_of w.states vs in
    let within : suc i ≤ made vs = was_made k vs id (suc i) v seats at is in
    let old = claim_here k w vs id v r at in
    let nobody : (F : ℕ → Type 0) → Each F (held_in t.reached) = λ F j q h. absurd (some-ne-none q (sym h ∙ ap (λ (l : List ℕ). get_elem? l j) bare)) in
    let here : (z : ℕ) → z ≡ suc i → stored w.announced i e (z - 1) ≡ e = λ z same. let place : z - 1 ≡ i = omega arith in ap (stored w.announced i e) place ∙ stored_here w.announced i e in
    pool_claim k w vs id v r at (record w { announced = stored w.announced i e }) a (λ p. refl) refl refl record { own = refl; linked = refl; begun = let as_long : length t.begun ≡ length v.me.tree.begun = ap length begun in omega arith } (omega arith) r.epochs.most refl
    (λ x other above. stored_else w.announced i e (seat_of k x.who - 1) (λ same. alone_at k vs (suc i) v.me x seats (omega arith) within is other (omega arith)))
    (λ j later. stored_else w.announced i e j (λ same. omega arith))
    record { stored = λ _. here (seat_of k v.me.who) is; idle = λ z. absurd (omega arith); past = past; epochs = old.epochs; risen = old.risen; first = old.first; low = old.low }
    (nobody (HeldFits s e))
    (scans_here k w vs id v r at)
    (λ j u there n x here_x _ _. nobody (λ p. 0 < stamp_of s p → x.pool.low ≤ stamp_of s p))
    (λ _ _. nobody (λ p. 0 < stamp_of s p → v.me.pool.low ≤ stamp_of s p))
    (states_same w.states vs id v a r.states at refl refl)

pub announce : (k : Shape) (p : Parts) (h : List Event) (vs : List View) (id i e : ℕ) (v : View) (t : TreeAccount) → Rule k p h vs → get_elem? vs id ≡ some v → seat_of k v.me.who ≡ suc i → e ≤ p.pool.epoch → held_in t.reached ≡ [] → SameRows v.me (announcing v.me e t) → t.front ≤ p.log.front → ((m : ℕ → Place) → Tree p.pages (sheet_of p.pool.states vs) m (codes_in k p.regions) (IsPlaced vs) → Each (Lasts (sheet_of p.pool.states vs) m) v.me.tree.lasting → Knows p.pages (sheet_of p.pool.states vs) m (codes_in k p.regions) (IsPlaced vs) (IsOldRow k p.regions p.log.slots) t)
    → Rule k (record p { pool = record p.pool { announced = stored p.pool.announced i e } }) h (set vs id (with_me v (announcing v.me e t)))
announce k p h vs id i e v t r at is past bare alike pinned knows = by_pool k p (record p.pool { announced = stored p.pool.announced i e }) h vs id v (announcing v.me e t) r at
    record { who = refl; log = refl; room = refl; entries = refl; shown = refl; heads = refl; facts = refl; codes = refl; marks = refl }
    (λ q busy. busy)
    (announce_pool k p.pool vs id i e v t r.seats r.pool at is past bare alike.begun)
    (own_same p.pages vs id v (announcing v.me e t) r.own at refl)
    alike
    pinned
    (linked_kept p.pool.states vs id v (announcing v.me e t) at (λ _. refl) (λ _. refl))
    (tree_told k p.pool.states p.pages (codes_in k p.regions) (IsOldRow k p.regions p.log.slots) vs id v (announcing v.me e t) at (λ _. refl) refl alike.begun alike.placed (λ n. placed_begun k vs n r.rows) r.tree (knows r.tree.place r.tree.tree (mine (λ x. Knows p.pages (sheet_of p.pool.states vs) r.tree.place (codes_in k p.regions) (IsPlaced vs) (IsOldRow k p.regions p.log.slots) x.tree) vs id v at r.tree.known).lasts))

-- the caller's place among all callers, from 0
inside_callers : (k : Shape) (p : Parts) (h : List Event) (vs : List View) (id i : ℕ) (v : View) → Rule k p h vs → get_elem? vs id ≡ some v → seat_of k v.me.who ≡ suc i → i < k.loaders + k.searchers
inside_callers k p h vs id i v r at is = let most = seat_within k v.me.who (mine (λ x. WhoFits k x.who) vs id v at r.seats.limits) in omega arith

pub pin_allowed : (k : Shape) (slots id i at_word e : ℕ) (m : Mine) → at_word ≡ 3 + i → seat_of k m.0.me.who ≡ suc i → MayPin m.0.me e → Allows (Holds k) slots id m at_word (λ _. e) (λ _. Pins (step slots at_word e 0 none) m 0)
pin_allowed k slots id i at_word e m is seat may s h _ at _ =
    let p : Parts = parts_of k s.words in
    let r = h.rule in
    let past : e ≤ p.pool.epoch = ((claim_here k p.pool s.views id m.0 r.pool at).epochs may.loaded.0 e may.loaded.1).1 in
    let inside = inside_callers k p (history_of k p) s.views id i m.0 r at seat in (
      with_me m.0 (after_pin m.0.me e),
      keeps,
      tt,
      words_moved k s at_word e id m.1 m.0 (after_pin m.0.me e) _ h (ap (λ (z : ℕ). parts_of k (set s.words z e)) is ∙ set_announced k s.words i e h.wide inside)
          (announce k p (history_of k p) s.views id i e m.0 (after_pin m.0.me e).tree r at seat past refl record { begun = refl; placed = refl } (hand_at k p.log (history_of k p) s.views id m.0 r.log at).seen
          (λ w t l. knows_root p.pages (sheet_of p.pool.states s.views) w (codes_in k p.regions) (IsPlaced s.views) (IsOldRow k p.regions p.log.slots) t (after_pin m.0.me e).tree refl (λ n o. old_placed k p (history_of k p) s.views m.0.me.log.seen n r (hand_at k p.log (history_of k p) s.views id m.0 r.log at).seen o) l)),
      refl,
    )

pub unpin_allowed : (k : Shape) (slots id i at_word : ℕ) (m : Mine) → at_word ≡ 3 + i → seat_of k m.0.me.who ≡ suc i → Allows (Holds k) slots id m at_word (λ _. 0) (λ _. Unpins (step slots at_word 0 0 none) m 0)
unpin_allowed k slots id i at_word m is seat s h _ at _ =
    let p : Parts = parts_of k s.words in
    let r = h.rule in
    let inside = inside_callers k p (history_of k p) s.views id i m.0 r at seat in (
      with_me m.0 (after_unpin m.0.me),
      keeps,
      tt,
      words_moved k s at_word 0 id m.1 m.0 (after_unpin m.0.me) _ h (ap (λ (z : ℕ). parts_of k (set s.words z 0)) is ∙ set_announced k s.words i 0 h.wide inside)
          (announce k p (history_of k p) s.views id i 0 m.0 (after_unpin m.0.me).tree r at seat (omega arith) refl record { begun = refl; placed = refl } (pin_here p.log.front s.views id m.0 r.pins at)
          (λ w t l. knows_nothing p.pages (sheet_of p.pool.states s.views) w (codes_in k p.regions) (IsPlaced s.views) (IsOldRow k p.regions p.log.slots) (after_unpin m.0.me).tree refl (λ n o. old_placed k p (history_of k p) s.views m.0.me.tree.front n r (pin_here p.log.front s.views id m.0 r.pins at) o) l)),
      refl,
    )
