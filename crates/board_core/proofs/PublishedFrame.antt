-- Rows of published blocks are placed: what a step, a split or a join leaves of that.
use Rattle.std.proofs.Common.{◌≡◌, ℕ, ◌<◌, ◌≤◌, ◌⊎◌, List, [], ◌∷◌, ◌++◌, set, length, sym, refl, ap, subst, inl, inr, ⊎_elim}
use Rattle.std.specs.Prelude.{Option, Some, None}
use mathlib.Core.Option.{some, some-ne-none}
use lib.ListN.{get_elem?}
use Rattle.htss_defs.specs.declared.shape.Shape.{Shape}
use Rattle.board_core.specs.declared.account.Who.{Who}
use Rattle.board_core.specs.declared.account.Who.TheVariants.{Opener, Note, Gone}
use Rattle.board_core.specs.declared.account.Account.{Account}
use Rattle.board_core.specs.declared.account.View.{View}
use Rattle.board_core.specs.declared.room.Row.{Row}
use Rattle.board_core.specs.declared.room.Sealed.{Sealed}
use Rattle.board_core.specs.declared.room.RoomAccount.{RoomAccount}
use Rattle.board_core.specs.Each.{Each, In}
use Rattle.board_core.specs.Blocks.{atoms_in}
use Rattle.board_core.specs.Accounts.{account, view, opener, with_me, keeping, gone, accounts_in, caller_after, EachAccount}
use Rattle.board_core.specs.MarkRule.{IsAmong, AreListed}
use Rattle.board_core.specs.RoomRule.{store_of, IsSealed, RoomFits}
use Rattle.board_core.specs.Rows.{words_of}
use Rattle.board_core.specs.PublishedRule.{AllPlaced, PublishedFits, PublishedRule}
use Rattle.board_core.specs.After.{after_word, after_made, after_shows, with_published}
use Rattle.board_core.proofs.Lists.{each_none, each_cons, at_end}
use Rattle.board_core.proofs.Everyone.{mine, changed, each_more, each_left, each_gathered}
use Rattle.board_core.proofs.RecordFrame.{own_longer}

abbrev AreOut : Shape → Account → Type 0
AreOut k a = PublishedFits k a.who a.room.used a.room.published a.log.pending.shows a.tree.placed

-- the caller's placed rows grow, and no block more is published
pub published_grown : (k : Shape) (vs : List View) (id : ℕ) (v : View) (a : Account) → PublishedRule k vs → get_elem? vs id ≡ some v → a.who ≡ v.me.who → a.room.used ≡ v.me.room.used → a.room.published ≡ v.me.room.published → a.log.pending.shows ≡ v.me.log.pending.shows
    → ((r : Row) → In r v.me.tree.placed → In r a.tree.placed) → PublishedRule k (set vs id (with_me v a))
published_grown k vs id v a r at who used published shows more = let f = mine (AreOut k) vs id v at r in changed (AreOut k) vs id v a at
    (subst (λ (x : Who × List ℕ × List ℕ × Option ℕ). PublishedFits k x.0 x.1 x.2 x.3 a.tree.placed) (λ t. (sym who t, sym used t, sym published t, sym shows t))
    record { published = λ block among atom above most. more _ (f.published block among atom above most); pending = λ block is atom above most. more _ (f.pending block is atom above most) }) r

pub published_same : (k : Shape) (vs : List View) (id : ℕ) (v : View) (a : Account) → PublishedRule k vs → get_elem? vs id ≡ some v → a.who ≡ v.me.who → a.room.used ≡ v.me.room.used → a.room.published ≡ v.me.room.published → a.log.pending.shows ≡ v.me.log.pending.shows
    → a.tree.placed ≡ v.me.tree.placed → PublishedRule k (set vs id (with_me v a))
published_same k vs id v a r at who used published shows placed = published_grown k vs id v a r at who used published shows (λ q h. subst (λ (l : List Row). In q l) (sym placed) h)

-- a word more is stored: the heads of sealed blocks stay
pub published_word : (k : Shape) (regions : ℕ → ℕ) (vs : List View) (id word : ℕ) (v : View) (more : List Sealed) → PublishedRule k vs → EachAccount (λ x. RoomFits k regions (store_of x)) vs → EachAccount (λ x. AreListed x.room) vs → get_elem? vs id ≡ some v
    → PublishedRule k (set vs id (with_me v (after_word v.me word more)))
published_word k regions vs id word v more r rooms listed at =
    let a : Account = after_word v.me word more in
    let f = mine (AreOut k) vs id v at r in
    let room = mine (λ x. RoomFits k regions (store_of x)) vs id v at rooms in
    let head : (block : ℕ) → IsSealed v.me.room.sealed block → words_of k a.who a.room.used block 0 ≡ words_of k v.me.who v.me.room.used block 0 = λ block sealed.
    subst (λ (z : ℕ). words_of k a.who a.room.used z 0 ≡ words_of k v.me.who v.me.room.used z 0) sealed.3 (own_longer k regions v.me word more room sealed.0 sealed.1 sealed.2).head in
    changed (AreOut k) vs id v a at record {
      published = λ block among atom above most. f.published block among atom above (subst (λ (h : ℕ). atom ≤ atoms_in h) (head block (mine (λ x. AreListed x.room) vs id v at listed block among)) most);
      pending = λ block is atom above most. f.pending block is atom above (subst (λ (h : ℕ). atom ≤ atoms_in h) (head block (room.shows block is)) most);
    } r

-- a block is marked as published
pub published_shows : (k : Shape) (vs : List View) (id block : ℕ) (v : View) → PublishedRule k vs → get_elem? vs id ≡ some v → AllPlaced k v.me.who v.me.room.used v.me.tree.placed block → PublishedRule k (set vs id (with_me v (after_shows v.me block)))
published_shows k vs id block v r at all = let f = mine (AreOut k) vs id v at r in changed (AreOut k) vs id v (after_shows v.me block) at record {
  published = f.published;
  pending = λ other is atom above most. subst (λ (b : ℕ). (x : ℕ) → 0 < x → x ≤ atoms_in (words_of k v.me.who v.me.room.used b 0) → In (record { block = b; atom = x }) v.me.tree.placed) (let e : Some block ≡ Some other = is in let same : block ≡ other = cc in same) all atom above most;
} r

-- the event is shown: the block that was pending is published
shown_among : (shows : Option ℕ) (room : RoomAccount) (block : ℕ) → IsAmong (with_published shows room).published block → IsAmong room.published block ⊎ (shows ≡ Some block)
shown_among None room block among = inl among
shown_among (Some b) room block among = ⊎_elim (λ (t : get_elem? room.published among.0 ≡ some block). inl (among.0, t)) (λ (t : (among.0 ≡ length room.published) × (b ≡ block)). inr (ap (λ z. Some z) t.1)) (at_end room.published b block among.0 among.1)

pub published_event : (k : Shape) (vs : List View) (id : ℕ) (v : View) (a : Account) → PublishedRule k vs → get_elem? vs id ≡ some v → a.who ≡ v.me.who → a.room.used ≡ v.me.room.used → a.room ≡ with_published v.me.log.pending.shows v.me.room → a.log.pending.shows ≡ None → a.tree.placed ≡ v.me.tree.placed
    → PublishedRule k (set vs id (with_me v a))
published_event k vs id v a r at who used room shows placed =
    let f = mine (AreOut k) vs id v at r in
    let fits : PublishedFits k v.me.who v.me.room.used (with_published v.me.log.pending.shows v.me.room).published None v.me.tree.placed = record {
      published = λ block among. ⊎_elim (λ (t : IsAmong v.me.room.published block). f.published block t) (λ (t : v.me.log.pending.shows ≡ Some block). f.pending block t) (shown_among v.me.log.pending.shows v.me.room block among);
      pending = λ block is. absurd (let e : None ≡ Some block = is in cc);
    } in
    changed (AreOut k) vs id v a at
    (subst (λ (x : Who × List ℕ × RoomAccount × Option ℕ × List Row). PublishedFits k x.0 x.1 x.2.published x.3 x.4) (λ t. (sym who t, sym used t, sym room t, sym shows t, sym placed t)) fits) r

-- ---- splits, joins and the opening

none_out : (k : Shape) (who : Who) (front : ℕ) → AreOut k (account who front)
none_out k who front = record { published = λ block among. absurd (some-ne-none block (sym among.1)); pending = λ block is. absurd (let e : None ≡ Some block = is in cc) }

pub published_note : (k : Shape) (vs : List View) (shape : Shape) (front : ℕ) → PublishedRule k vs → PublishedRule k (vs ++ view shape (account Note front) ∷ [])
published_note k vs shape front r = each_more (AreOut k) vs (account Note front) (view shape (account Note front)) refl refl (none_out k Note front) r

pub published_caller : (k : Shape) (vs : List View) (id m : ℕ) (v : View) → PublishedRule k vs → get_elem? vs id ≡ some v → v.me.who ≡ Opener m → PublishedRule k (set vs id (with_me v (after_made v.me)) ++ view k (account (caller_after k m) 0) ∷ [])
published_caller k vs id m v r at is = each_more (AreOut k) (set vs id (with_me v (after_made v.me))) (account (caller_after k m) 0) (view k (account (caller_after k m) 0)) refl refl (none_out k (caller_after k m) 0)
    (changed (AreOut k) vs id v (after_made v.me) at
    (let f : PublishedFits k (Opener m) v.me.room.used v.me.room.published v.me.log.pending.shows v.me.tree.placed = subst (λ (w : Who). PublishedFits k w v.me.room.used v.me.room.published v.me.log.pending.shows v.me.tree.placed) is (mine (AreOut k) vs id v at r) in
    record { published = f.published; pending = f.pending }) r)

pub published_left : (k : Shape) (vs : List View) (other : ℕ) → PublishedRule k vs → PublishedRule k (set vs other gone)
published_left k vs other r = each_left (AreOut k) vs other (none_out k Gone 0) r

pub published_gather : (k : Shape) (vs : List View) (id other : ℕ) (v w : View) → PublishedRule k vs → get_elem? vs id ≡ some v → get_elem? vs other ≡ some w → PublishedRule k (set (set vs id (keeping v w)) other gone)
published_gather k vs id other v w r at there = each_gathered (AreOut k) vs id other v w at there (none_out k Gone 0) r

pub published_open : (k : Shape) → PublishedRule k (opener k ∷ [])
published_open k = each_cons (λ (u : View). Each (AreOut k) (accounts_in u)) (opener k) [] (each_cons (AreOut k) (account (Opener 0) 0) [] (none_out k (Opener 0) 0) (each_none (AreOut k))) (each_none (λ (u : View). Each (AreOut k) (accounts_in u)))
