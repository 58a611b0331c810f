-- The two marks of blocks, where the front moves by one: the event that was pending is shown.
use Rattle.std.proofs.Common.{◌≡◌, ℕ, suc, ◌+◌, ◌-◌, ◌<◌, ◌≤◌, Bool, cond, List, [], ◌∷◌, ◌++◌, set, sym, refl, ap, ◌∙◌, subst, arith, inl, ⊎_elim, length, eq-eqb}
use Rattle.std.specs.Prelude.{Option, Some, None}
use mathlib.Core.Option.{some}
use mathlib.Core.Logic.{dite}
use native.Mathlib.Decide.{ℕ_discrete, dec_le}
use lib.ListN.{get_elem?}
use Rattle.atomic_table.proofs.Lists.{set_again, at_longer}
use Rattle.htss_defs.specs.declared.shape.Shape.{Shape}
use Rattle.htss_defs.specs.declared.history.Event.{Event}
use Rattle.htss_defs.specs.declared.history.Event.TheVariants.{Publish, Withdraw}
use Rattle.htss_defs.specs.History.{HasEvent, IsLegal}
use Rattle.board_core.specs.declared.account.Account.{Account}
use Rattle.board_core.specs.declared.account.View.{View}
use Rattle.board_core.specs.declared.log.Ending.{Ending}
use Rattle.board_core.specs.declared.log.Pending.{Pending}
use Rattle.board_core.specs.declared.room.RoomAccount.{RoomAccount}
use Rattle.board_core.specs.declared.room.Sealed.{Sealed}
use Rattle.board_core.specs.Each.{Each}
use Rattle.board_core.specs.Words.{LogWords, Parts}
use Rattle.board_core.specs.LogWord.{kind_in, loader_in, target_in}
use Rattle.board_core.specs.Blocks.{shown_at, ended_at, name_in, molecule_in}
use Rattle.board_core.specs.Histories.{block_at, event_of, history_of}
use Rattle.board_core.specs.Accounts.{nothing, with_me, EachAccount, IsOther}
use Rattle.board_core.specs.SeatRule.{SeatRule, WhoFits}
use Rattle.board_core.specs.LogRule.{hand_of, HandFits, LogRule}
use Rattle.board_core.specs.RoomRule.{store_of, IsSealed, RoomFits, SomeAccount, RoomRule}
use Rattle.board_core.specs.MarkRule.{ShowsAt, EndsAt, MarkFits, is_shown_by, is_ended_by, PendingFits, IsAmong, AreListed, MarksFit, MarkRule}
use Rattle.board_core.specs.After.{with_published, after_event}
use Rattle.board_core.specs.Steps.{MayShowEvent}
use Rattle.board_core.proofs.Everyone.{mine, changed, moved}
use Rattle.board_core.proofs.Lists.{at_end}
use Rattle.board_core.proofs.LogFrame.{none_some, same_some, nothing_shows, nothing_ends, hand_at, free_quiet, others_free}
use Rattle.board_core.proofs.EventAt.{event_shown}
use Rattle.board_core.proofs.Owner.{mark_in_room, not_other}
use Rattle.board_core.proofs.MarkFrame.{shows_moved, ends_moved, quiet_pending}

-- what is pending with the caller that shows its event: nobody else has a block pending, the word that is shown is that of what is
-- pending, and withdrawals behind the front name earlier numbers
record IsShowing (k : Shape) (regions : ℕ → ℕ) (front : ℕ) (slots : ℕ → ℕ) (vs : List View) (p : Pending) : Type 0 where
  fits : PendingFits k regions front slots p
  word : p.logged ≡ Some (slots front)
  shows : (block : ℕ) → SomeAccount (is_shown_by block) vs → p.shows ≡ Some block
  ends : (block : ℕ) → SomeAccount (is_ended_by block) vs → (e : Ending) × (p.ends ≡ Some e) × (e.block ≡ block)
  earlier : (i : ℕ) → i < front → kind_in (slots i) ≡ 2 → target_in (slots i) < i + 1

-- the number of the event that is shown
next : (slots : ℕ → ℕ) (front number : ℕ) → number ≡ front + 1 → slots (number - 1) ≡ slots front
next slots front number is = ap slots (let back : number - 1 ≡ front = omega arith in back)

module _ (k : Shape) (regions : ℕ → ℕ) (front : ℕ) (slots : ℕ → ℕ) (vs : List View) (p : Pending) (h : IsShowing k regions front slots vs p) where
  -- a publication and a withdrawal are never both pending
  not_both : (block : ℕ) (e : Ending) → p.shows ≡ Some block → p.ends ≡ Some e → ⊥
  not_both block e is also = none_some e (sym (h.fits.shows block is).0 ∙ also)

  kind_shows : (block : ℕ) → p.shows ≡ Some block → ¬ (kind_in (slots front) ≡ 2)
  kind_shows block is two = let t = h.fits.withdrawal (slots front) h.word two in not_both block t.0 is t.1

  kind_ends : (e : Ending) → p.ends ≡ Some e → kind_in (slots front) ≡ 2
  kind_ends e is = dite (ℕ_discrete (kind_in (slots front)) 2) (λ two. two) (λ other. absurd (not_both (target_in (slots front)) e (h.fits.publication (slots front) h.word other) is))

  -- the block that is pending is the one that the word publishes
  shown_next : (block : ℕ) → p.shows ≡ Some block → ShowsAt (front + 1) slots block (front + 1)
  shown_next block is = let back = next slots front (front + 1) refl in record {
    above = omega arith;
    within = omega arith;
    kind = subst (λ (w : ℕ). ¬ (kind_in w ≡ 2)) (sym back) (kind_shows block is);
    names = ap target_in back ∙ same_some (target_in (slots front)) block (sym (h.fits.publication (slots front) h.word (kind_shows block is)) ∙ is);
  }

  next_shown : (block number : ℕ) → number ≡ front + 1 → ShowsAt (front + 1) slots block number → p.shows ≡ Some block
  next_shown block number last s =
      let back = next slots front number last in
      h.fits.publication (slots front) h.word (subst (λ (w : ℕ). ¬ (kind_in w ≡ 2)) back s.kind) ∙ ap (λ (z : ℕ). Some z) (sym (ap target_in back) ∙ s.names)

  -- and the number that is pending is the one that the word withdraws
  ended_next : (e : Ending) → p.ends ≡ Some e → EndsAt (front + 1) slots e.block (front + 1)
  ended_next e is =
      let back = next slots front (front + 1) refl in
      let two = kind_ends e is in
      let t = h.fits.withdrawal (slots front) h.word two in
      let same : t.0 ≡ e = same_some t.0 e (sym t.1 ∙ is) in
      let target : e.target ≡ target_in (slots (front + 1 - 1)) = ap (λ (x : Ending). x.target) (sym same) ∙ (t.2 ∙ ap target_in (sym back)) in
      let old = (h.fits.ends e is).0 in
      let within = old.within in record {
        above = omega arith;
        within = omega arith;
        kind = ap kind_in back ∙ two;
        shown = subst (ShowsAt (front + 1) slots e.block) target (shows_moved front (front + 1) slots slots e.block e.target (λ i _. refl) (omega arith) old);
      }

  next_ended : (block number : ℕ) → number ≡ front + 1 → EndsAt (front + 1) slots block number → (e : Ending) × (p.ends ≡ Some e) × (e.block ≡ block)
  next_ended block number last s =
      let back = next slots front number last in
      let t = h.fits.withdrawal (slots front) h.word (ap kind_in (sym back) ∙ s.kind) in
      let target : t.0.target ≡ target_in (slots (number - 1)) = t.2 ∙ ap target_in (sym back) in
      let old = (h.fits.ends t.0 t.1).0 in
      (t.0, t.1, sym old.names ∙ (ap (λ (z : ℕ). target_in (slots (z - 1))) target ∙ s.shown.names))

  -- ---- events behind the old front

  old_ended : (block number : ℕ) → number ≤ front → EndsAt (front + 1) slots block number → EndsAt front slots block number
  old_ended block number within s =
      let above = s.above in
      let before = h.earlier (number - 1) (omega arith) s.kind in
      ends_moved (front + 1) front slots slots block number (λ i _. refl) within (omega arith) s

  more_ended : (block number : ℕ) → EndsAt front slots block number → EndsAt (front + 1) slots block number
  more_ended block number s =
      let within = s.within in
      let shown = s.shown.within in
      ends_moved front (front + 1) slots slots block number (λ i _. refl) (omega arith) (omega arith) s

  -- ---- the marks of a block

  past_none : (mark : ℕ) → front + 1 < mark → mark ≡ front + 1 → ⊥
  past_none mark past is = omega arith

  first_shown : (ws : List View) (block mark : ℕ) → mark ≡ block_at k regions block shown_at → MarkFits front (ShowsAt front slots block) (SomeAccount (is_shown_by block) vs) mark → MarkFits (front + 1) (ShowsAt (front + 1) slots block) (SomeAccount (is_shown_by block) ws) mark
  first_shown ws block mark is f = record {
    told = λ above within. dite (dec_le mark front)
        (λ old. shows_moved front (front + 1) slots slots block mark (λ i _. refl) within (f.told above old))
        (λ later. let t = f.ahead (omega arith) in subst (ShowsAt (front + 1) slots block) (sym t.0) (shown_next block (h.shows block t.1)));
    ahead = λ past. absurd (past_none mark past (f.ahead (omega arith)).0);
    stands = λ number s. dite (dec_le number front)
        (λ old. f.stands number (shows_moved (front + 1) front slots slots block number (λ i _. refl) old s))
        (λ later. let within = s.within in
        let last : number ≡ front + 1 = omega arith in
        is ∙ ((h.fits.shows block (next_shown block number last s)).1 ∙ sym last));
  }

  last_shown : (ws : List View) (block mark : ℕ) → mark ≡ block_at k regions block ended_at → MarkFits front (EndsAt front slots block) (SomeAccount (is_ended_by block) vs) mark → MarkFits (front + 1) (EndsAt (front + 1) slots block) (SomeAccount (is_ended_by block) ws) mark
  last_shown ws block mark is f = record {
    told = λ above within. dite (dec_le mark front)
        (λ old. more_ended block mark (f.told above old))
        (λ later. let t = f.ahead (omega arith) in
        let e = h.ends block t.1 in
        subst (EndsAt (front + 1) slots block) (sym t.0) (subst (λ (z : ℕ). EndsAt (front + 1) slots z (front + 1)) e.2 (ended_next e.0 e.1)));
    ahead = λ past. absurd (past_none mark past (f.ahead (omega arith)).0);
    stands = λ number s. dite (dec_le number front)
        (λ old. f.stands number (old_ended block number old s))
        (λ later. let within = s.within in
        let last : number ≡ front + 1 = omega arith in
        let e = next_ended block number last s in
        is ∙ (ap (λ (z : ℕ). block_at k regions z ended_at) (sym e.2) ∙ ((h.fits.ends e.0 e.1).1 ∙ sym last)));
  }

  -- where the block is noted as published if it is the one that was pending
  shown_fits : (ws : List View) (published more : List ℕ) (s : Sealed) → (IsAmong published s.place → IsAmong more s.place) → (p.shows ≡ Some s.place → IsAmong more s.place) → MarksFit k regions front slots vs published s → MarksFit k regions (front + 1) slots ws more s
  shown_fits ws published more s keeps new f = record {
    first = first_shown ws s.place _ refl f.first;
    last = last_shown ws s.place _ refl f.last;
    noted = λ number t. dite (dec_le number front)
        (λ old. keeps (f.noted number (shows_moved (front + 1) front slots slots s.place number (λ i _. refl) old t)))
        (λ later. let within = t.within in new (next_shown s.place number (omega arith) t));
  }

-- ---- the blocks that are noted as published

among_end : (places : List ℕ) (place : ℕ) → IsAmong (places ++ place ∷ []) place
among_end [] place = (0, refl)
among_end (x ∷ xs) place = let t = among_end xs place in (suc t.0, t.1)

published_more : (o : Option ℕ) (r : RoomAccount) (place : ℕ) → IsAmong r.published place → IsAmong (with_published o r).published place
published_more (Some block) r place t = (t.0, at_longer r.published (block ∷ []) t.0 place t.1)
published_more None r place t = t

published_new : (o : Option ℕ) (r : RoomAccount) (place : ℕ) → o ≡ Some place → IsAmong (with_published o r).published place
published_new o r place is = subst (λ (x : Option ℕ). IsAmong (with_published x r).published place) (sym is) (among_end r.published place)

published_sealed : (o : Option ℕ) (r : RoomAccount) → (with_published o r).sealed ≡ r.sealed
published_sealed (Some block) r = refl
published_sealed None r = refl

-- the block that was pending is sealed, and so all that is noted as published is
published_listed : (o : Option ℕ) (r : RoomAccount) → ((block : ℕ) → o ≡ Some block → IsSealed r.sealed block) → AreListed r → AreListed (with_published o r)
published_listed (Some block) r pending all place t = ⊎_elim (λ (old : get_elem? r.published t.0 ≡ some place). all place (t.0, old)) (λ (new : (t.0 ≡ length r.published) × (block ≡ place)). subst (IsSealed r.sealed) new.1 (pending block refl)) (at_end r.published block place t.0 t.1)
published_listed None r pending all place t = all place t

-- ---- the caller that shows the event

-- nobody else has anything pending
only_mine : (k : Shape) (p : Parts) (h : List Event) (vs : List View) (id : ℕ) (v : View) (word : ℕ) (F : Account → Type 0) → LogRule k p.log h vs → get_elem? vs id ≡ some v → MayShowEvent v.me word → ((x : Account) → x.log.pending ≡ nothing → F x → ⊥) → SomeAccount F vs → F v.me
only_mine k p h vs id v word F r at may quiet (j, u, there, i, x, here, f) =
    let all : EachAccount (λ y. F y → F v.me) (set vs id v) = moved (λ y. HandFits k p.log h (hand_of y)) (λ y. F y → F v.me) vs id v v.me at (λ t. t)
    (λ y other fits t. absurd (quiet y (free_quiet p.log (hand_of y) y.log.holding (others_free k p.log h vs v.me r may.holding y other) fits.holds) t)) r.hands in
    subst (EachAccount (λ y. F y → F v.me)) (set_again vs id v at) all j u there i x here f

-- the event of a withdrawal's word
pub withdrawal_event : (k : Shape) (regions : ℕ → ℕ) (word : ℕ) → kind_in word ≡ 2 → event_of k regions word ≡ Withdraw (loader_in word) (target_in word)
withdrawal_event k regions word two =
    let block : ℕ → ℕ = block_at k regions (target_in word) in ap (λ (b : Bool). cond b (Withdraw (loader_in word) (target_in word)) (Publish (loader_in word) (name_in block) (molecule_in block))) (eq-eqb (kind_in word) 2 two)

-- withdrawals name earlier numbers
named_earlier : (k : Shape) (p : Parts) (i : ℕ) → IsLegal (history_of k p) → i < p.log.front → kind_in (p.log.slots i) ≡ 2 → target_in (p.log.slots i) < i + 1
named_earlier k p i legal behind two =
    let word : ℕ = p.log.slots i in
    (legal.earlier (i + 1) (target_in word) record { caller = loader_in word; event = subst (HasEvent (history_of k p) (i + 1)) (withdrawal_event k p.regions word two) (event_shown k p i behind) }).0

is_showing : (k : Shape) (p : Parts) (vs : List View) (id word : ℕ) (v : View) → MarkRule k p.regions p.log.front p.log.slots vs → LogRule k p.log (history_of k p) vs → get_elem? vs id ≡ some v → MayShowEvent v.me word → IsShowing k p.regions p.log.front p.log.slots vs v.me.log.pending
is_showing k p vs id word v r log at may =
    let h : List Event = history_of k p in
    let is = (hand_at k p.log h vs id v log at).logged word may.logged in record {
      fits = mine (λ x. PendingFits k p.regions p.log.front p.log.slots x.log.pending) vs id v at r.pending;
      word = may.logged ∙ ap (λ (z : ℕ). Some z) (sym is.there);
      shows = λ block. only_mine k p h vs id v word (is_shown_by block) log at may (λ x quiet. nothing_shows x.log.pending block quiet);
      ends = λ block. only_mine k p h vs id v word (is_ended_by block) log at may (λ x quiet t. nothing_ends x.log.pending t.0 quiet t.1);
      earlier = λ i. named_earlier k p i log.legal;
    }

-- a sealed block of another account isn't the one that is pending
other_block : (k : Shape) (regions : ℕ → ℕ) (vs : List View) (a x : Account) (b : ℕ) (s : Sealed) → SeatRule k vs → WhoFits k a.who → WhoFits k x.who → RoomFits k regions (store_of a) → RoomFits k regions (store_of x) → IsOther vs a x → get_elem? x.room.sealed b ≡ some s → a.log.pending.shows ≡ Some s.place → ⊥
other_block k regions vs a x b s seats fits_a fits_x room_a room_x other in_list is =
    let t = room_a.shows s.place is in
    not_other k vs a x (s.place + 1) seats fits_a fits_x other (mark_in_room k regions (store_of a) (s.place + 1) room_a (t.0, t.1, t.2, inl (ap (λ z. z + 1) (sym t.3)))) (mark_in_room k regions (store_of x) (s.place + 1) room_x (b, s, in_list, inl refl))

-- ---- the whole

-- what is read of an account
record IsKnown (k : Shape) (regions : ℕ → ℕ) (front : ℕ) (slots : ℕ → ℕ) (vs : List View) (h : List Event) (log : LogWords) (a : Account) : Type 0 where
  who : WhoFits k a.who
  hand : HandFits k log h (hand_of a)
  room : RoomFits k regions (store_of a)
  marks : Each (MarksFit k regions front slots vs a.room.published) a.room.sealed

pub shown_marks : (k : Shape) (p : Parts) (vs : List View) (id word : ℕ) (v : View) (e : Event) → MarkRule k p.regions p.log.front p.log.slots vs → SeatRule k vs → LogRule k p.log (history_of k p) vs → RoomRule k p.regions p.log.front p.log.slots vs → get_elem? vs id ≡ some v → MayShowEvent v.me word
    → MarkRule k p.regions (p.log.front + 1) p.log.slots (set vs id (with_me v (after_event v.me e)))
shown_marks k p vs id word v e r seats log rooms at may =
    let a : Account = after_event v.me e in
    let ws : List View = set vs id (with_me v a) in
    let h : List Event = history_of k p in
    let showing = is_showing k p vs id word v r log at may in
    let known : EachAccount (IsKnown k p.regions p.log.front p.log.slots vs h p.log) vs = λ j u there i x here. record { who = seats.limits j u there i x here; hand = log.hands j u there i x here; room = rooms.rooms j u there i x here; marks = r.marks j u there i x here } in
    let own = mine (IsKnown k p.regions p.log.front p.log.slots vs h p.log) vs id v at known in record {
      pending = moved (IsKnown k p.regions p.log.front p.log.slots vs h p.log) (λ x. PendingFits k p.regions (p.log.front + 1) p.log.slots x.log.pending) vs id v a at (quiet_pending k p.regions (p.log.front + 1) p.log.slots a.log.pending refl)
          (λ x other f. quiet_pending k p.regions (p.log.front + 1) p.log.slots x.log.pending (free_quiet p.log (hand_of x) x.log.holding (others_free k p.log h vs v.me log may.holding x other) f.hand.holds)) known;
      marks = moved (IsKnown k p.regions p.log.front p.log.slots vs h p.log) (λ x. Each (MarksFit k p.regions (p.log.front + 1) p.log.slots ws x.room.published) x.room.sealed) vs id v a at
          (subst (λ (l : List Sealed). Each (MarksFit k p.regions (p.log.front + 1) p.log.slots ws a.room.published) l) (sym (published_sealed v.me.log.pending.shows v.me.room))
          (λ b s in_list. shown_fits k p.regions p.log.front p.log.slots vs v.me.log.pending showing ws v.me.room.published a.room.published s
          (published_more v.me.log.pending.shows v.me.room s.place) (published_new v.me.log.pending.shows v.me.room s.place) (own.marks b s in_list)))
          (λ x other f b s in_list. shown_fits k p.regions p.log.front p.log.slots vs v.me.log.pending showing ws x.room.published x.room.published s
          (λ t. t) (λ is. absurd (other_block k p.regions vs v.me x b s seats own.who f.who own.room f.room other in_list is)) (f.marks b s in_list)) known;
      listed = changed (λ x. AreListed x.room) vs id v a at (published_listed v.me.log.pending.shows v.me.room own.room.shows (mine (λ x. AreListed x.room) vs id v at r.listed)) r.listed;
    }
