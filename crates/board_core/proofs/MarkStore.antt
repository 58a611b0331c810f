-- The marks of blocks, where one of them is stored: it is the front + 1, and its event is pending in the caller that has the lock.
use Rattle.std.proofs.Common.{◌≡◌, ℕ, ◌+◌, ◌-◌, ◌<◌, ◌≤◌, ◌⊎◌, Bool, cond, List, set, sym, refl, ap, ◌∙◌, subst, arith, inl, inr, ⊎_elim, eq-eqb, ne_eqb}
use Rattle.std.specs.Prelude.{Some}
use mathlib.Core.Option.{some}
use mathlib.Core.Logic.{dite}
use native.Mathlib.Decide.{ℕ_discrete}
use lib.ListN.{get_elem?}
use Rattle.atomic_table.proofs.Lists.{set_here}
use Rattle.htss_defs.specs.declared.shape.Shape.{Shape}
use Rattle.htss_defs.specs.declared.history.Event.{Event}
use Rattle.htss_defs.specs.declared.history.Event.TheVariants.{Publish, Withdraw}
use Rattle.htss_defs.specs.Molecule.{Molecule}
use Rattle.htss_defs.specs.History.{HasEvent, Withdraws}
use Rattle.board_core.specs.declared.account.Account.{Account}
use Rattle.board_core.specs.declared.account.View.{View}
use Rattle.board_core.specs.declared.log.Ending.{Ending}
use Rattle.board_core.specs.declared.log.Holding.TheVariants.{Fronted}
use Rattle.board_core.specs.declared.log.Pending.{Pending}
use Rattle.board_core.specs.declared.room.Sealed.{Sealed}
use Rattle.board_core.specs.Each.{Each}
use Rattle.board_core.specs.Words.{LogWords, Parts, regions_at, stored}
use Rattle.board_core.specs.LogWord.{kind_in, loader_in, target_in}
use Rattle.board_core.specs.Blocks.{shown_at, ended_at, name_in, molecule_in}
use Rattle.board_core.specs.Histories.{block_at, event_of, history_of, IsPublished, IsOpen}
use Rattle.board_core.specs.Accounts.{nothing, with_me, EachAccount, IsOther}
use Rattle.board_core.specs.SeatRule.{SeatRule}
use Rattle.board_core.specs.LogRule.{hand_of, HandFits, LogRule}
use Rattle.board_core.specs.LoadRule.{LoadFits, LoadRule}
use Rattle.board_core.specs.Loaded.{HasLoaded}
use Rattle.board_core.specs.FactRule.{MarkStands}
use Rattle.board_core.specs.RoomRule.{region_of, IsSealed, SomeAccount, RoomRule}
use Rattle.board_core.specs.MarkRule.{ShowsAt, EndsAt, MarkFits, PendingFits, AreListed, MarksFit, MarkRule, is_shown_by, is_ended_by}
use Rattle.board_core.specs.After.{after_shows, after_ends}
use Rattle.board_core.specs.Steps.{MayPublish, MayEnd}
use Rattle.board_core.proofs.Lists.{inside}
use Rattle.board_core.proofs.Everyone.{mine, changed, moved}
use Rattle.board_core.proofs.Some.{some_changed}
use Rattle.board_core.proofs.EventAt.{event_shown, event_stands}
use Rattle.board_core.proofs.LogFrame.{hand_at, same_some, nothing_shows, nothing_ends, nothing_logged, free_quiet, owner, others_free}
use Rattle.board_core.proofs.RoomFrame.{size_least}
use Rattle.board_core.proofs.Owner.{IsAt}
use Rattle.board_core.proofs.OneBlock.{Rooms, everywhere, fits_at, one_block, stored_there, stored_apart, block_past}
use Rattle.board_core.proofs.MarkWord.{mark_kept, shows_sealed}

-- ---- what is pending

quiet_pending : (k : Shape) (regions : ℕ → ℕ) (front : ℕ) (slots : ℕ → ℕ) (p : Pending) → p ≡ nothing → PendingFits k regions front slots p
quiet_pending k regions front slots p quiet = record {
  shows = λ block is. absurd (nothing_shows p block quiet is);
  ends = λ e is. absurd (nothing_ends p e quiet is);
  publication = λ word is _. absurd (nothing_logged p word quiet is);
  withdrawal = λ word is _. absurd (nothing_logged p word quiet is);
}

-- the holder that has loaded the front has seen it, and nobody else has anything pending
holder_seen : (k : Shape) (w : LogWords) (h : List Event) (vs : List View) (id : ℕ) (v : View) → LogRule k w h vs → get_elem? vs id ≡ some v → v.me.log.holding ≡ Fronted → v.me.log.seen ≡ w.front
holder_seen k w h vs id v r at held = (owner w (hand_of v.me) v.me.log.holding held (hand_at k w h vs id v r at).holds).1

others_quiet : (k : Shape) (w : LogWords) (h : List Event) (vs : List View) (a x : Account) → LogRule k w h vs → a.log.holding ≡ Fronted → IsOther vs a x → HandFits k w h (hand_of x) → x.log.pending ≡ nothing
others_quiet k w h vs a x r held other f = free_quiet w (hand_of x) x.log.holding (others_free k w h vs a r held x other) f.holds

-- ---- the marks

-- the mark that is stored
mark_new : (front : ℕ) (IsEvent : ℕ → Type 0) (P : Type 0) (mark : ℕ) → mark ≡ front + 1 → P → ((number : ℕ) → IsEvent number → ⊥) → MarkFits front IsEvent P mark
mark_new front IsEvent P mark is waits no_event = record { told = λ _ within. absurd (omega arith); ahead = λ _. (is, waits); stands = λ number t. absurd (no_event number t) }

-- a word of one block's marks is stored: each other mark of a block is as it was
mark_else : (k : Shape) (regions : ℕ → ℕ) (vs : List View) (x b : Account) (m c d i n place : ℕ) (s : Sealed) → SeatRule k vs → Rooms k regions vs → IsAt vs x → IsAt vs b → get_elem? x.room.sealed m ≡ some s → IsSealed b.room.sealed place → c < 3 → d < 3
    → regions_at k + i ≡ place + d → (s.place ≡ place → c ≡ d → ⊥) → block_at k (stored regions i n) s.place c ≡ block_at k regions s.place c
mark_else k regions vs x b m c d i n place s seats rooms p q there (j, t, in_list, at) low low_too is apart =
    let f = fits_at k regions vs x rooms p in
    let g = fits_at k regions vs b rooms q in
    let least = size_least (region_of k x.who) x.room.used s (f.sealed m s there) in
    let its_least = size_least (region_of k b.who) b.room.used t (g.sealed j t in_list) in
    stored_apart k regions i n (s.place + c) (block_past k regions x m c s f there) (λ e.
    let one = one_block k regions vs x b m j c d s t seats rooms p q there in_list (omega arith) (omega arith) (omega arith) in
    apart (ap (λ (y : Sealed). y.place) one.block ∙ at) one.word)

-- ---- a publication

-- no event shows the block
not_shown : (k : Shape) (regions : ℕ → ℕ) (front : ℕ) (slots : ℕ → ℕ) (vs : List View) (id block number : ℕ) (v : View) → MarkRule k regions front slots vs → get_elem? vs id ≡ some v → MayPublish k v.me block → ShowsAt front slots block number → ⊥
not_shown k regions front slots vs id block number v m at may t =
    let (j, s, there, is) = may.sealed in
    let fits = mine (λ x. Each (MarksFit k regions front slots vs x.room.published) x.room.sealed) vs id v at m.marks j s there in
    let (n, among) = fits.noted number (subst (λ (z : ℕ). ShowsAt front slots z number) (sym is) t) in
    may.fresh (n, among ∙ ap some is)

pub first_not_told : (k : Shape) (p : Parts) (vs : List View) (id block : ℕ) (v : View) → MarkRule k p.regions p.log.front p.log.slots vs → get_elem? vs id ≡ some v → MayPublish k v.me block
    → ¬ ((0 < block_at k p.regions block shown_at) × (block_at k p.regions block shown_at ≤ p.log.front))
first_not_told k p vs id block v m at may (above, within) =
    let (j, s, there, is) = may.sealed in
    let fits = mine (λ x. Each (MarksFit k p.regions p.log.front p.log.slots vs x.room.published) x.room.sealed) vs id v at m.marks j s there in
    let first = subst (λ (z : ℕ). MarkFits p.log.front (ShowsAt p.log.front p.log.slots z) (SomeAccount (is_shown_by z) vs) (block_at k p.regions z shown_at)) is fits.first in
    not_shown k p.regions p.log.front p.log.slots vs id block (block_at k p.regions block shown_at) v m at may (first.told above within)

shows_pending : (k : Shape) (regions : ℕ → ℕ) (front : ℕ) (slots : ℕ → ℕ) (a : Account) (block : ℕ) → a.log.pending ≡ nothing → block_at k regions block shown_at ≡ front + 1 → PendingFits k regions front slots (after_shows a block).log.pending
shows_pending k regions front slots a block quiet is = record {
  shows = λ other same. (ap (λ (p : Pending). p.ends) quiet, subst (λ (z : ℕ). block_at k regions z shown_at ≡ front + 1) (same_some block other same) is);
  ends = λ e same. absurd (nothing_ends a.log.pending e quiet same);
  publication = λ word same _. absurd (nothing_logged a.log.pending word quiet same);
  withdrawal = λ word same _. absurd (nothing_logged a.log.pending word quiet same);
}

-- the marks of one block, after the first mark of the block that is published is stored
shows_block : (k : Shape) (regions : ℕ → ℕ) (front : ℕ) (slots : ℕ → ℕ) (vs : List View) (id block i n : ℕ) (v : View) (x : Account) (j : ℕ) (s : Sealed) → MarkRule k regions front slots vs → SeatRule k vs → Rooms k regions vs → get_elem? vs id ≡ some v → MayPublish k v.me block → regions_at k + i ≡ block + 1 → n ≡ front + 1
    → IsAt vs x → get_elem? x.room.sealed j ≡ some s → MarksFit k regions front slots vs x.room.published s → MarksFit k (stored regions i n) front slots (set vs id (with_me v (after_shows v.me block))) x.room.published s
shows_block k regions front slots vs id block i n v x j s m seats rooms at may place next p there f =
    let a : Account = after_shows v.me block in
    let others : List View = set vs id (with_me v a) in
    let own : IsAt vs v.me = record { view_place = id; seen_view = v; at = at; place = 0; there = refl } in
    let quiet = may.may.quiet in record {
      first = dite (ℕ_discrete s.place block)
          (λ same. mark_new front (ShowsAt front slots s.place) (SomeAccount (is_shown_by s.place) others) (block_at k (stored regions i n) s.place shown_at)
          (stored_there k regions i n (s.place + shown_at) (omega arith) ∙ next)
          (id, with_me v a, set_here vs id (with_me v a) (inside vs id v at), 0, a, refl, ap (λ z. Some z) (sym same))
          (λ number t. not_shown k regions front slots vs id block number v m at may (subst (λ (z : ℕ). ShowsAt front slots z number) same t)))
          (λ other. mark_kept front (ShowsAt front slots s.place) (SomeAccount (is_shown_by s.place) vs) (SomeAccount (is_shown_by s.place) others) (block_at k regions s.place shown_at) (block_at k (stored regions i n) s.place shown_at)
          (mark_else k regions vs x v.me j shown_at shown_at i n block s seats rooms p own there may.sealed (omega arith) (omega arith) place (λ same _. other same))
          (some_changed (is_shown_by s.place) vs id v a at (λ t. absurd (nothing_shows v.me.log.pending s.place quiet t))) f.first);
      last = mark_kept front (EndsAt front slots s.place) (SomeAccount (is_ended_by s.place) vs) (SomeAccount (is_ended_by s.place) others) (block_at k regions s.place ended_at) (block_at k (stored regions i n) s.place ended_at)
          (mark_else k regions vs x v.me j ended_at shown_at i n block s seats rooms p own there may.sealed (omega arith) (omega arith) place (λ _ same. omega arith))
          (some_changed (is_ended_by s.place) vs id v a at (λ t. t)) f.last;
      noted = f.noted;
    }

pub shows_marks : (k : Shape) (p : Parts) (vs : List View) (id block i n : ℕ) (v : View) → MarkRule k p.regions p.log.front p.log.slots vs → SeatRule k vs → LogRule k p.log (history_of k p) vs → RoomRule k p.regions p.log.front p.log.slots vs → get_elem? vs id ≡ some v → MayPublish k v.me block
    → regions_at k + i ≡ block + 1 → n ≡ v.me.log.seen + 1 → MarkRule k (stored p.regions i n) p.log.front p.log.slots (set vs id (with_me v (after_shows v.me block)))
shows_marks k p vs id block i n v m seats log r at may place number =
    let front : ℕ = p.log.front in
    let slots : ℕ → ℕ = p.log.slots in
    let h : List Event = history_of k p in
    let new : ℕ → ℕ = stored p.regions i n in
    let a : Account = after_shows v.me block in
    let others : List View = set vs id (with_me v a) in
    let held = may.may.holding in
    let seen : v.me.log.seen ≡ p.log.front = holder_seen k p.log h vs id v log at held in
    let next : n ≡ p.log.front + 1 = omega arith in
    let marks : EachAccount (λ x. IsAt vs x × Each (MarksFit k p.regions front slots vs x.room.published) x.room.sealed) vs = λ j u there t x here. (everywhere vs j u there t x here, m.marks j u there t x here) in record {
      pending = moved (λ x. HandFits k p.log h (hand_of x)) (λ x. PendingFits k new front slots x.log.pending) vs id v a at
          (shows_pending k new front slots v.me block may.may.quiet (stored_there k p.regions i n (block + shown_at) place ∙ next))
          (λ x other f. quiet_pending k new front slots x.log.pending (others_quiet k p.log h vs v.me x log held other f)) log.hands;
      marks = moved (λ x. IsAt vs x × Each (MarksFit k p.regions front slots vs x.room.published) x.room.sealed) (λ x. Each (MarksFit k new front slots others x.room.published) x.room.sealed) vs id v a at
          (λ j s there. shows_block k p.regions front slots vs id block i n v v.me j s m seats r.rooms at may place next record { view_place = id; seen_view = v; at = at; place = 0; there = refl } there (mine (λ x. Each (MarksFit k p.regions front slots vs x.room.published) x.room.sealed) vs id v at m.marks j s there))
          (λ x _ f j s there. shows_block k p.regions front slots vs id block i n v x j s m seats r.rooms at may place next f.0 there (f.1 j s there)) marks;
      listed = changed (λ x. AreListed x.room) vs id v a at (mine (λ x. AreListed x.room) vs id v at m.listed) m.listed;
    }

-- ---- a withdrawal

-- the log word that was loaded shows the block
pub loaded_shows : (k : Shape) (w : LogWords) (a : Account) (number block : ℕ) → Each (LoadFits k w) a.loads.shown → HasLoaded k a number block → ShowsAt w.front w.slots block number
loaded_shows k w a number block all l =
    let log = l.log in
    let above = log.above in
    let within = log.inside in
    let stands = (all log.index log.load log.loaded).log (number - 1) (omega arith) log.place in
    let behind : number - 1 < w.front = stands.0 in
    let same : w.slots (number - 1) ≡ l.word = stands.1 ∙ log.found in record {
      above = above;
      within = omega arith;
      kind = subst (λ (z : ℕ). ¬ (kind_in z ≡ 2)) (sym same) l.kind;
      names = ap target_in same ∙ l.names;
    }

-- the last mark is 0 or past the front
open_mark : (k : Shape) (regions : ℕ → ℕ) (front : ℕ) (a : Account) (e : Ending) → a.log.seen ≡ front → Each (MarkStands k regions front) a.loads.marks → MayEnd k a e → (block_at k regions e.block ended_at ≡ 0) ⊎ (front < block_at k regions e.block ended_at)
open_mark k regions front a e seen all may =
    let saw = may.saw in
    let fits = all saw.index saw.load saw.loaded in
    let found = saw.found in
    let at_front : saw.load.front ≡ front = saw.seen ∙ seen in
    let word : ℕ = block_at k regions e.block ended_at in
    let same : regions (saw.load.place - regions_at k) ≡ word = ap (λ z. regions (z - regions_at k)) saw.place in
    ⊎_elim (λ (none : regions (saw.load.place - regions_at k) ≡ 0). inl (sym same ∙ none)) (λ (past : saw.load.front < regions (saw.load.place - regions_at k)). inr (omega arith))
    (fits.later (⊎_elim (λ (none : may.mark ≡ 0). inl (found ∙ none)) (λ (past : a.log.seen < may.mark). inr (omega arith)) may.is_open))

pub last_not_told : (k : Shape) (p : Parts) (vs : List View) (id : ℕ) (v : View) (e : Ending) → LogRule k p.log (history_of k p) vs → Each (MarkStands k p.regions p.log.front) v.me.loads.marks → get_elem? vs id ≡ some v → MayEnd k v.me e
    → ¬ ((0 < block_at k p.regions e.block ended_at) × (block_at k p.regions e.block ended_at ≤ p.log.front))
last_not_told k p vs id v e log all at may (above, within) = ⊎_elim (λ (none : block_at k p.regions e.block ended_at ≡ 0). omega arith) (λ (past : p.log.front < block_at k p.regions e.block ended_at). omega arith)
    (open_mark k p.regions p.log.front v.me e (holder_seen k p.log (history_of k p) vs id v log at may.may.holding) all may)

-- so no event ends the block
not_ended : (k : Shape) (regions : ℕ → ℕ) (front : ℕ) (slots : ℕ → ℕ) (vs : List View) (block number : ℕ) → MarkRule k regions front slots vs → SomeAccount (λ x. IsSealed x.room.sealed block) vs
    → ¬ ((0 < block_at k regions block ended_at) × (block_at k regions block ended_at ≤ front)) → EndsAt front slots block number → ⊥
not_ended k regions front slots vs block number m (j, u, there, place, b, here, sealed) untold t =
    let (n, s, in_list, is) = sealed in
    let fits = m.marks j u there place b here n s in_list in
    let last = subst (λ (z : ℕ). MarkFits front (EndsAt front slots z) (SomeAccount (is_ended_by z) vs) (block_at k regions z ended_at)) is fits.last in
    let same : block_at k regions block ended_at ≡ number = last.stands number t in
    let above = t.above in
    let within = t.within in untold (omega arith, omega arith)

-- the event of a word, by its kind
publication_shown : (k : Shape) (regions : ℕ → ℕ) (word : ℕ) → ¬ (kind_in word ≡ 2) → event_of k regions word ≡ Publish (loader_in word) (name_in (block_at k regions (target_in word))) (molecule_in (block_at k regions (target_in word)))
publication_shown k regions word other = ap (λ (b : Bool). cond b (Withdraw (loader_in word) (target_in word)) (Publish (loader_in word) (name_in (block_at k regions (target_in word))) (molecule_in (block_at k regions (target_in word))))) (ne_eqb (kind_in word) 2 other)

withdrawal_shown : (k : Shape) (regions : ℕ → ℕ) (word : ℕ) → kind_in word ≡ 2 → event_of k regions word ≡ Withdraw (loader_in word) (target_in word)
withdrawal_shown k regions word two = ap (λ (b : Bool). cond b (Withdraw (loader_in word) (target_in word)) (Publish (loader_in word) (name_in (block_at k regions (target_in word))) (molecule_in (block_at k regions (target_in word))))) (eq-eqb (kind_in word) 2 two)

same_target : (c d x y : ℕ) → Withdraw c x ≡ Withdraw d y → x ≡ y
same_target c d x y e = cc

no_publication : (c d x : ℕ) (name : List ℕ) (mol : Molecule) → Publish c name mol ≡ Withdraw d x → ⊥
no_publication c d x name mol e = absurd cc

-- a word whose event is a withdrawal
pub withdrawal_word_of : (k : Shape) (regions : ℕ → ℕ) (word caller target : ℕ) → event_of k regions word ≡ Withdraw caller target → (kind_in word ≡ 2) × (target_in word ≡ target)
withdrawal_word_of k regions word caller target is = dite (ℕ_discrete (kind_in word) 2)
    (λ two. (two, same_target (loader_in word) caller (target_in word) target (sym (withdrawal_shown k regions word two) ∙ is)))
    (λ other. absurd (no_publication (loader_in word) caller target _ _ (sym (publication_shown k regions word other) ∙ is)))

-- the event that a log word behind the front shows: a publication of the block
shows_published : (k : Shape) (p : Parts) (block number : ℕ) → ShowsAt p.log.front p.log.slots block number → IsPublished (history_of k p) number
shows_published k p block number t =
    let above = t.above in
    let within = t.within in
    let word : ℕ = p.log.slots (number - 1) in
    let name : List ℕ = name_in (block_at k p.regions (target_in word)) in
    let mol : Molecule = molecule_in (block_at k p.regions (target_in word)) in
    let back : number - 1 + 1 ≡ number = omega arith in
    let has : HasEvent (history_of k p) (number - 1 + 1) (Publish (loader_in word) name mol) = subst (HasEvent (history_of k p) (number - 1 + 1)) (publication_shown k p.regions word t.kind) (event_shown k p (number - 1) (omega arith)) in
    (name, mol, record { caller = loader_in word; event = subst (λ (z : ℕ). HasEvent (history_of k p) z (Publish (loader_in word) name mol)) back has })

-- a withdrawal of its number ends the block
withdraws_ends : (k : Shape) (p : Parts) (block number later : ℕ) → ShowsAt p.log.front p.log.slots block number → Withdraws (history_of k p) later number → EndsAt p.log.front p.log.slots block later
withdraws_ends k p block number later t w =
    let stands = event_stands k p later (Withdraw w.caller number) w.event in
    let is = withdrawal_word_of k p.regions (p.log.slots (later - 1)) w.caller number stands.1 in
    let above : 1 ≤ later = w.event.0 in record {
      above = omega arith;
      within = stands.0;
      kind = is.0;
      shown = subst (ShowsAt p.log.front p.log.slots block) (sym is.1) t;
    }

-- the number is published, and no event withdraws it
pub ends_open : (k : Shape) (p : Parts) (vs : List View) (id : ℕ) (v : View) (e : Ending) → MarkRule k p.regions p.log.front p.log.slots vs → SeatRule k vs → LogRule k p.log (history_of k p) vs → RoomRule k p.regions p.log.front p.log.slots vs → LoadRule k p.log vs
    → Each (MarkStands k p.regions p.log.front) v.me.loads.marks → get_elem? vs id ≡ some v → MayEnd k v.me e → IsOpen (history_of k p) e.target
ends_open k p vs id v e m _ log r loads all at may =
    let shown = loaded_shows k p.log v.me e.target e.block (mine (λ x. Each (LoadFits k p.log) x.loads.shown) vs id v at loads) may.loaded in
    let sealed = shows_sealed k p.regions p.log.front p.log.slots vs e.block e.target r shown in
    (shows_published k p e.block e.target shown, λ t. not_ended k p.regions p.log.front p.log.slots vs e.block t.0 m sealed (last_not_told k p vs id v e log all at may) (withdraws_ends k p e.block e.target t.0 shown t.1))

ends_pending : (k : Shape) (regions : ℕ → ℕ) (front : ℕ) (slots : ℕ → ℕ) (a : Account) (e : Ending) → a.log.pending ≡ nothing → ShowsAt front slots e.block e.target → block_at k regions e.block ended_at ≡ front + 1 → PendingFits k regions front slots (after_ends a e).log.pending
ends_pending k regions front slots a e quiet shown is = record {
  shows = λ block same. absurd (nothing_shows a.log.pending block quiet same);
  ends = λ other same. subst (λ (z : Ending). ShowsAt front slots z.block z.target × (block_at k regions z.block ended_at ≡ front + 1)) (same_some e other same) (shown, is);
  publication = λ word same _. absurd (nothing_logged a.log.pending word quiet same);
  withdrawal = λ word same _. absurd (nothing_logged a.log.pending word quiet same);
}

-- the marks of one block, after the last mark of the block that is ended is stored
ends_block : (k : Shape) (regions : ℕ → ℕ) (front : ℕ) (slots : ℕ → ℕ) (vs : List View) (id i n : ℕ) (v : View) (e : Ending) (x : Account) (j : ℕ) (s : Sealed) → SeatRule k vs → Rooms k regions vs → get_elem? vs id ≡ some v → v.me.log.pending ≡ nothing → SomeAccount (λ y. IsSealed y.room.sealed e.block) vs
    → ((number : ℕ) → EndsAt front slots e.block number → ⊥) → regions_at k + i ≡ e.block + 2 → n ≡ front + 1 → IsAt vs x → get_elem? x.room.sealed j ≡ some s → MarksFit k regions front slots vs x.room.published s
    → MarksFit k (stored regions i n) front slots (set vs id (with_me v (after_ends v.me e))) x.room.published s
ends_block k regions front slots vs id i n v e x j s seats rooms at quiet (l, u, at_l, c, b, at_c, sealed) no_end place next p there f =
    let a : Account = after_ends v.me e in
    let others : List View = set vs id (with_me v a) in
    let its : IsAt vs b = record { view_place = l; seen_view = u; at = at_l; place = c; there = at_c } in record {
      first = mark_kept front (ShowsAt front slots s.place) (SomeAccount (is_shown_by s.place) vs) (SomeAccount (is_shown_by s.place) others) (block_at k regions s.place shown_at) (block_at k (stored regions i n) s.place shown_at)
          (mark_else k regions vs x b j shown_at ended_at i n e.block s seats rooms p its there sealed (omega arith) (omega arith) place (λ _ same. omega arith))
          (some_changed (is_shown_by s.place) vs id v a at (λ t. t)) f.first;
      last = dite (ℕ_discrete s.place e.block)
          (λ same. mark_new front (EndsAt front slots s.place) (SomeAccount (is_ended_by s.place) others) (block_at k (stored regions i n) s.place ended_at)
          (stored_there k regions i n (s.place + ended_at) (omega arith) ∙ next)
          (id, with_me v a, set_here vs id (with_me v a) (inside vs id v at), 0, a, refl, (e, refl, sym same))
          (λ number t. no_end number (subst (λ (z : ℕ). EndsAt front slots z number) same t)))
          (λ other. mark_kept front (EndsAt front slots s.place) (SomeAccount (is_ended_by s.place) vs) (SomeAccount (is_ended_by s.place) others) (block_at k regions s.place ended_at) (block_at k (stored regions i n) s.place ended_at)
          (mark_else k regions vs x b j ended_at ended_at i n e.block s seats rooms p its there sealed (omega arith) (omega arith) place (λ same _. other same))
          (some_changed (is_ended_by s.place) vs id v a at (λ t. absurd (nothing_ends v.me.log.pending t.0 quiet t.1))) f.last);
      noted = f.noted;
    }

pub ends_marks : (k : Shape) (p : Parts) (vs : List View) (id i n : ℕ) (v : View) (e : Ending) → MarkRule k p.regions p.log.front p.log.slots vs → SeatRule k vs → LogRule k p.log (history_of k p) vs → RoomRule k p.regions p.log.front p.log.slots vs → LoadRule k p.log vs
    → Each (MarkStands k p.regions p.log.front) v.me.loads.marks → get_elem? vs id ≡ some v → MayEnd k v.me e → regions_at k + i ≡ e.block + 2 → n ≡ v.me.log.seen + 1
    → MarkRule k (stored p.regions i n) p.log.front p.log.slots (set vs id (with_me v (after_ends v.me e)))
ends_marks k p vs id i n v e m seats log r loads all at may place number =
    let front : ℕ = p.log.front in
    let slots : ℕ → ℕ = p.log.slots in
    let h : List Event = history_of k p in
    let new : ℕ → ℕ = stored p.regions i n in
    let a : Account = after_ends v.me e in
    let others : List View = set vs id (with_me v a) in
    let held = may.may.holding in
    let quiet = may.may.quiet in
    let seen : v.me.log.seen ≡ p.log.front = holder_seen k p.log h vs id v log at held in
    let next : n ≡ p.log.front + 1 = omega arith in
    let shown : ShowsAt front slots e.block e.target = loaded_shows k p.log v.me e.target e.block (mine (λ x. Each (LoadFits k p.log) x.loads.shown) vs id v at loads) may.loaded in
    let sealed = shows_sealed k p.regions front slots vs e.block e.target r shown in
    let no_end : (later : ℕ) → EndsAt front slots e.block later → ⊥ = λ later t. not_ended k p.regions front slots vs e.block later m sealed (last_not_told k p vs id v e log all at may) t in
    let marks : EachAccount (λ x. IsAt vs x × Each (MarksFit k p.regions front slots vs x.room.published) x.room.sealed) vs = λ j u there t x here. (everywhere vs j u there t x here, m.marks j u there t x here) in record {
      pending = moved (λ x. HandFits k p.log h (hand_of x)) (λ x. PendingFits k new front slots x.log.pending) vs id v a at
          (ends_pending k new front slots v.me e quiet shown (stored_there k p.regions i n (e.block + ended_at) place ∙ next))
          (λ x other f. quiet_pending k new front slots x.log.pending (others_quiet k p.log h vs v.me x log held other f)) log.hands;
      marks = moved (λ x. IsAt vs x × Each (MarksFit k p.regions front slots vs x.room.published) x.room.sealed) (λ x. Each (MarksFit k new front slots others x.room.published) x.room.sealed) vs id v a at
          (λ j s there. ends_block k p.regions front slots vs id i n v e v.me j s seats r.rooms at quiet sealed no_end place next record { view_place = id; seen_view = v; at = at; place = 0; there = refl } there
          (mine (λ x. Each (MarksFit k p.regions front slots vs x.room.published) x.room.sealed) vs id v at m.marks j s there))
          (λ x _ f j s there. ends_block k p.regions front slots vs id i n v e x j s seats r.rooms at quiet sealed no_end place next f.0 there (f.1 j s there)) marks;
      listed = changed (λ x. AreListed x.room) vs id v a at (mine (λ x. AreListed x.room) vs id v at m.listed) m.listed;
    }
