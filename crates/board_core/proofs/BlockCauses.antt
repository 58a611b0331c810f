-- What follows from loads of a block and of its last mark, for each board that has them: which record the number has, whether it is
-- live at a front, and why it is refused.
use Rattle.std.proofs.Common.{◌≡◌, ◌↔◌, ℕ, ◌+◌, ◌-◌, ◌<◌, ◌≤◌, ◌⊎◌, Bool, cond, List, length, take, sym, ap, ◌∙◌, subst, arith, ⊎_elim, ne_eqb, length-take}
use Rattle.std.specs.Prelude.{Some}
use Rattle.std.proofs.lemmas.List.{get_or-take}
use Rattle.std.proofs.lemmas.Option.{slice_get_within, slice_get-get_or, get_or_from_slice_get}
use Rattle.htss_defs.specs.declared.shape.Shape.{Shape}
use Rattle.htss_defs.specs.declared.history.Event.{Event}
use Rattle.htss_defs.specs.declared.history.Event.TheVariants.{Publish, Withdraw}
use Rattle.htss_defs.specs.Molecule.{Molecule}
use Rattle.htss_defs.specs.History.{HasEvent, Publishes, Withdraws, IsLive}
use Rattle.board_core.specs.Steps.{MayBe}
use Rattle.board_core.specs.declared.account.Account.{Account}
use Rattle.board_core.specs.declared.entry.Entry.TheVariants.{Unknown, Gone}
use Rattle.board_core.specs.Words.{Parts}
use Rattle.board_core.specs.LogWord.{kind_in, loader_in, target_in}
use Rattle.board_core.specs.Blocks.{ended_at, name_in, molecule_in}
use Rattle.board_core.specs.Histories.{block_at, event_of, history_of, IsPublished, IsOpen}
use Rattle.board_core.specs.Truths.{IsTrueLog}
use Rattle.board_core.specs.Records.{IsRecord}
use Rattle.board_core.specs.FactRule.{word_at}
use Rattle.board_core.specs.Loaded.{HasLogWord, HasLoaded, SawMark, IsOpenMark}
use Rattle.board_core.proofs.Events.{event_within}
use Rattle.board_core.proofs.Shown.{history_counted}
use Rattle.board_core.proofs.EventAt.{event_shown}
use Rattle.board_core.proofs.Causes.{event_of_first, unknown_kind}

-- ---- the first events of a history

-- an event of all is one of the first, if its number is theirs
pub event_in_first : (h : List Event) (front number : ℕ) (e : Event) → HasEvent h number e → number ≤ front → HasEvent (take front h) number e
event_in_first h front number e has early =
    let above : 1 ≤ number = has.0 in
    let within : number - 1 < length h = slice_get_within h (number - 1) e has.1 in
    let before : number - 1 < front = omega arith in (
      above,
      slice_get-get_or (take front h) (number - 1) e (omega (arith, length-take front h)) ∙ ap (λ (y : Event). Some y) (get_or-take front h (number - 1) e before ∙ get_or_from_slice_get h (number - 1) e e has.1),
    )

pub publishes_in_first : (h : List Event) (front number : ℕ) (name : List ℕ) (mol : Molecule) → Publishes h number name mol → number ≤ front → Publishes (take front h) number name mol
publishes_in_first h front number name mol p early = record { caller = p.caller; event = event_in_first h front number (Publish p.caller name mol) p.event early }

pub withdraws_in_first : (h : List Event) (front at number : ℕ) → Withdraws h at number → at ≤ front → Withdraws (take front h) at number
withdraws_in_first h front at number w early = record { caller = w.caller; event = event_in_first h front at (Withdraw w.caller number) w.event early }

pub withdraws_of_first : (h : List Event) (front at number : ℕ) → front ≤ length h → Withdraws (take front h) at number → Withdraws h at number × (at ≤ front)
withdraws_of_first h front at number few w = let e = event_of_first h front at (Withdraw w.caller number) few w.event in (record { caller = w.caller; event = e.0 }, e.1)

live_published : (h : List Event) (number : ℕ) (name : List ℕ) (mol : Molecule) → IsLive h number name mol → IsPublished h number
live_published h number name mol live = (name, mol, live.published)

-- a number that none of them can have
pub past_not_published : (h : List Event) (front number : ℕ) → (number ≡ 0) ⊎ (front < number) → ¬ (IsPublished (take front h) number)
past_not_published h front number past (name, mol, p) =
    let above : 1 ≤ number = p.event.0 in
    let within = event_within (take front h) number (Publish p.caller name mol) p.event in
    let early : number ≤ front = omega (arith, within, length-take front h) in
    ⊎_elim (λ (none : number ≡ 0). absurd (omega arith)) (λ (over : front < number). absurd (omega arith)) past

pub past_not_live : (h : List Event) (front number : ℕ) → (number ≡ 0) ⊎ (front < number) → (name : List ℕ) (mol : Molecule) → ¬ (IsLive (take front h) number name mol)
past_not_live h front number past name mol live = past_not_published h front number past (live_published (take front h) number name mol live)

-- ---- the event of a publication's word

pub publication_shown : (k : Shape) (regions : ℕ → ℕ) (word block : ℕ) → ¬ (kind_in word ≡ 2) → target_in word ≡ block → event_of k regions word ≡ Publish (loader_in word) (name_in (block_at k regions block)) (molecule_in (block_at k regions block))
publication_shown k regions word block other names =
    let shown : ℕ → Event = λ z. Publish (loader_in word) (name_in (block_at k regions z)) (molecule_in (block_at k regions z)) in
    ap (λ (b : Bool). cond b (Withdraw (loader_in word) (target_in word)) (shown (target_in word))) (ne_eqb (kind_in word) 2 other) ∙ ap shown names

-- a mark that was loaded at a front of at most `last`, and the word that stands in its place now
record MarkIs (last front mark now : ℕ) : Type 0 where
  seen : front ≤ last
  told : 0 < mark → mark ≤ front → now ≡ mark
  later : IsOpenMark front mark → IsOpenMark front now

module _ (k : Shape) (p : Parts) (a : Account) (board : MayBe k p a) where
  -- ---- the log word

  pub log_word_behind : (number word : ℕ) → HasLogWord k a number word → (number - 1 < p.log.front) × (p.log.slots (number - 1) ≡ word)
  log_word_behind number word l =
      let above = l.above in
      let inside = l.inside in
      let stands = (board.agrees.shown l.index l.load l.loaded).log (number - 1) (omega arith) l.place in (stands.0, stands.1 ∙ l.found)

  pub loaded_behind : (number block : ℕ) (l : HasLoaded k a number block) → (number - 1 < p.log.front) × (p.log.slots (number - 1) ≡ l.word)
  loaded_behind number block l = log_word_behind number l.word l.log

  loaded_kind : (number block : ℕ) → HasLoaded k a number block → ¬ (kind_in (p.log.slots (number - 1)) ≡ 2)
  loaded_kind number block l = subst (λ (w : ℕ). ¬ (kind_in w ≡ 2)) (sym (loaded_behind number block l).1) l.kind

  loaded_names : (number block : ℕ) → HasLoaded k a number block → target_in (p.log.slots (number - 1)) ≡ block
  loaded_names number block l = ap target_in (loaded_behind number block l).1 ∙ l.names

  loaded_number : (number block : ℕ) → HasLoaded k a number block → number - 1 + 1 ≡ number
  loaded_number number block l = let above = l.log.above in omega arith

  -- ---- the record

  pub loaded_publishes : (number block : ℕ) → HasLoaded k a number block → Publishes (history_of k p) number (name_in (block_at k p.regions block)) (molecule_in (block_at k p.regions block))
  loaded_publishes number block l =
      let word : ℕ = p.log.slots (number - 1) in record {
        caller = loader_in word;
        event = subst (λ (z : ℕ). HasEvent (history_of k p) z (Publish (loader_in word) (name_in (block_at k p.regions block)) (molecule_in (block_at k p.regions block)))) (loaded_number number block l)
            (subst (HasEvent (history_of k p) (number - 1 + 1)) (publication_shown k p.regions word block (loaded_kind number block l) (loaded_names number block l)) (event_shown k p (number - 1) (loaded_behind number block l).0));
      }

  pub loaded_record : (number block : ℕ) → HasLoaded k a number block → Publishes (history_of k p) number (name_in (block_at k p.regions block)) (molecule_in (block_at k p.regions block)) × IsRecord (block_at k p.regions block)
  loaded_record number block l = (
    loaded_publishes number block l,
    subst (λ (z : ℕ). IsRecord (block_at k p.regions z)) (loaded_names number block l) (board.known.blocks.records (number - 1) (loaded_behind number block l).0 (loaded_kind number block l)),
  )

  -- ---- the last mark

  -- what the rule says of the mark of the block that was loaded, by its number
  loaded_mark : (number block at : ℕ) → HasLoaded k a number block → 0 < at → at ≤ p.log.front → (block_at k p.regions block ended_at ≡ at ↔ Withdraws (history_of k p) at number)
  loaded_mark number block at l above within =
      subst (λ (x : ℕ × ℕ). block_at k p.regions x.0 ended_at ≡ at ↔ Withdraws (history_of k p) at x.1) (λ t. (loaded_names number block l t, loaded_number number block l t))
      (board.known.blocks.marks (number - 1) at (loaded_behind number block l).0 (loaded_kind number block l) above within)

  mark_stands : (block front mark : ℕ) → SawMark a block front mark → MarkIs p.log.front front mark (block_at k p.regions block ended_at)
  mark_stands block front mark m =
      let s = board.agrees.blocks.marks m.index m.load m.loaded in
      let now : word_at k p.regions m.load.place ≡ block_at k p.regions block ended_at = ap (word_at k p.regions) m.place in
      subst (λ (x : ℕ × ℕ × ℕ). MarkIs p.log.front x.0 x.1 x.2) (λ t. (m.seen t, m.found t, now t)) record { seen = s.seen; told = s.told; later = s.later }

  pub saw_within : (block front mark : ℕ) → SawMark a block front mark → front ≤ length (history_of k p)
  saw_within block front mark m = let seen = (mark_stands block front mark m).seen in omega (arith, history_counted k p)

  pub loaded_gone : (number block front mark : ℕ) → HasLoaded k a number block → SawMark a block front mark → 0 < mark → mark ≤ front → Withdraws (history_of k p) mark number
  loaded_gone number block front mark l m above within =
      let s = mark_stands block front mark m in
      let seen = s.seen in (loaded_mark number block mark l above (omega arith)).0 (s.told above within)

  -- the mark of a withdrawal up to that front would have been seen
  loaded_stays : (number block front mark : ℕ) → HasLoaded k a number block → SawMark a block front mark → IsOpenMark front mark → (at : ℕ) → Withdraws (take front (history_of k p)) at number → ⊥
  loaded_stays number block front mark l m free at w =
      let s = mark_stands block front mark m in
      let seen = s.seen in
      let all = withdraws_of_first (history_of k p) front at number (saw_within block front mark m) w in
      let early = all.1 in
      let above : 1 ≤ at = all.0.event.0 in
      let is : block_at k p.regions block ended_at ≡ at = (loaded_mark number block at l (omega arith) (omega arith)).1 all.0 in
      ⊎_elim (λ (none : block_at k p.regions block ended_at ≡ 0). absurd (omega arith)) (λ (over : front < block_at k p.regions block ended_at). absurd (omega arith)) (s.later free)

  pub loaded_live : (number block front mark : ℕ) → HasLoaded k a number block → SawMark a block front mark → IsOpenMark front mark → number ≤ front → IsLive (take front (history_of k p)) number (name_in (block_at k p.regions block)) (molecule_in (block_at k p.regions block))
  loaded_live number block front mark l m free early = record {
    published = publishes_in_first (history_of k p) front number (name_in (block_at k p.regions block)) (molecule_in (block_at k p.regions block)) (loaded_publishes number block l) early;
    stays = loaded_stays number block front mark l m free;
  }

  pub loaded_open : (number block front mark : ℕ) → HasLoaded k a number block → SawMark a block front mark → IsOpenMark front mark → number ≤ front → IsOpen (take front (history_of k p)) number
  loaded_open number block front mark l m free early =
      let live = loaded_live number block front mark l m free early in
      ((name_in (block_at k p.regions block), molecule_in (block_at k p.regions block), live.published), λ (at, w). live.stays at w)

  -- ---- numbers that are not live

  pub gone_not_live : (number block front mark : ℕ) → HasLoaded k a number block → SawMark a block front mark → 0 < mark → mark ≤ front → (name : List ℕ) (mol : Molecule) → ¬ (IsLive (take front (history_of k p)) number name mol)
  gone_not_live number block front mark l m above within name mol live = live.stays mark (withdraws_in_first (history_of k p) front mark number (loaded_gone number block front mark l m above within) within)

  pub withdrawal_not_published : (number word front : ℕ) → HasLogWord k a number word → kind_in word ≡ 2 → front ≤ length (history_of k p) → ¬ (IsPublished (take front (history_of k p)) number)
  withdrawal_not_published number word front l two few =
      let above = l.above in
      let inside = l.inside in
      let same : number - 1 + 1 ≡ number = omega arith in
      subst (λ (z : ℕ). ¬ (IsPublished (take front (history_of k p)) z)) same (unknown_kind k p a l.index (number - 1) front l.load board.agrees l.loaded (omega arith) l.place (ap kind_in l.found ∙ two) few)

  pub withdrawal_not_live : (number word front : ℕ) → HasLogWord k a number word → kind_in word ≡ 2 → front ≤ length (history_of k p) → (name : List ℕ) (mol : Molecule) → ¬ (IsLive (take front (history_of k p)) number name mol)
  withdrawal_not_live number word front l two few name mol live = withdrawal_not_published number word front l two few (live_published (take front (history_of k p)) number name mol live)

  -- ---- refusals

  pub seen_within : (front : ℕ) → front ≤ a.log.seen → front ≤ length (history_of k p)
  seen_within front early = let seen = board.agrees.seen in omega (arith, history_counted k p)

  pub past_unknown : (number front : ℕ) → front ≤ a.log.seen → (number ≡ 0) ⊎ (front < number) → IsTrueLog k (history_of k p) (Unknown number front)
  past_unknown number front early past = (seen_within front early, past_not_published (history_of k p) front number past)

  pub withdrawal_unknown : (number word front : ℕ) → front ≤ a.log.seen → HasLogWord k a number word → kind_in word ≡ 2 → IsTrueLog k (history_of k p) (Unknown number front)
  withdrawal_unknown number word front early l two = let few = seen_within front early in (few, withdrawal_not_published number word front l two few)

  pub ended_gone : (number block front mark : ℕ) → HasLoaded k a number block → SawMark a block front mark → 0 < mark → mark ≤ front → IsTrueLog k (history_of k p) (Gone number mark)
  ended_gone number block front mark l m above within = loaded_gone number block front mark l m above within
