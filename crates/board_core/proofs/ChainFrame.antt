-- Answers of a full chain: what a step leaves of them, and that they are true by what was read.
use Rattle.std.proofs.Common.{◌≡◌, ◌≢◌, ℕ, zero, suc, ◌+◌, ◌*◌, ◌%◌, ◌<◌, ◌≤◌, ◌⊎◌, Bool, true, false, List, [], ◌∷◌, ◌++◌, length, set, sym, refl, ap, ◌∙◌, subst, arith, ⊎_elim, inl}
use mathlib.Core.Option.{some}
use mathlib.Core.Logic.{dite}
use native.Mathlib.Decide.{ℕ_discrete}
use lib.ListN.{get_elem?}
use Rattle.htss_defs.specs.declared.shape.Shape.{Shape}
use Rattle.htss_defs.specs.declared.history.Event.{Event}
use Rattle.htss_defs.specs.declared.history.Event.TheVariants.{Publish, Withdraw}
use Rattle.board_core.specs.declared.account.Account.{Account}
use Rattle.board_core.specs.declared.account.View.{View}
use Rattle.board_core.specs.declared.loads.Loads.{Loads}
use Rattle.board_core.specs.declared.pool.PoolAccount.{PoolAccount}
use Rattle.board_core.specs.declared.tree.Reached.{Reached}
use Rattle.board_core.specs.declared.entry.Entry.{Entry}
use Rattle.board_core.specs.declared.entry.Entry.TheVariants.{Published, Withdrawn, Answered, Unknown, Gone as Ended, LogFull, DataFull, NoPage, ChainFull, Swept}
use Rattle.board_core.specs.declared.entry.Noted.{Noted}
use Rattle.board_core.specs.Each.{Each, In}
use Rattle.board_core.specs.Accounts.{with_me}
use Rattle.board_core.specs.Truths.{entry_of}
use Rattle.board_core.specs.Sheets.{Sheet, sheet_of, IsLinked, owns}
use Rattle.board_core.specs.ClassTree.{Place, kind_of, header_of, slot_at, page_room, at_way, PageStands, Tree}
use Rattle.board_core.specs.KnownPages.{place_of, IsFullLeaf, KnowsPages}
use Rattle.board_core.specs.ChainRule.{HasFullChain, IsTrueTree, IsTrueChain, ChainRule, IsToldChain}
use Rattle.board_core.specs.After.{noted}
use Rattle.board_core.proofs.Lists.{each_none, each_cons, each_append}
use Rattle.board_core.proofs.Everyone.{mine, moved}
use Rattle.board_core.proofs.PoolFrame.{sheet_same}
use Rattle.board_core.proofs.Walk.{chain_back, up_more}
use Rattle.board_core.proofs.Seen.{has_at}

-- ---- pages of the tree stay in it, and their words other than 0

-- a page that is the first and the last of its chain, by its header and its next page
pub record IsAlone (page : ℕ → ℕ) : Type 0 where
  pub first : page 0 < 32
  pub last : page 1 ≡ 0

-- a link of an inner page
pub record IsLinkWord (page : ℕ → ℕ) (i : ℕ) : Type 0 where
  pub inner : page 0 % 4 ≡ 2
  pub pair : ℕ
  pub place : i ≡ 3 + 2 * pair

-- what a step owes: only such a page may leave the tree, and only a link may become another
pub record KeepsPages (w u : ℕ → ℕ → ℕ) (s z : Sheet) : Type 0 where
  pub linked : (p : ℕ) → IsLinked s p → IsLinked z p ⊎ IsAlone (w p)
  pub words : (p i : ℕ) → IsLinked s p → w p i ≢ 0 → (u p i ≡ w p i) ⊎ IsLinkWord (w p) i

some_kind : (leaf : Bool) (n m : ℕ) → kind_of leaf + n + m ≢ 0
some_kind true n m e = omega arith
some_kind false n m e = omega arith

chain_later : (w u : ℕ → ℕ → ℕ) (s z : Sheet) (count : ℕ) → KeepsPages w u s z → HasFullChain w s count → HasFullChain u z count
chain_later w u s z count e d = let c = d.chain in record {
  chain = record {
    leaf = c.leaf;
    depth = c.depth;
    page = c.page;
    header = λ i h. same i h 0 (λ none_here. some_kind c.leaf (4 * c.depth) (32 * i) (sym (c.header i h) ∙ none_here)) (λ pair e. omega arith) ∙ c.header i h;
    full = λ i j h less none_here. c.full i j h less (sym (same_slot i j h less) ∙ none_here);
    next = λ i h g. same i h 1 (c.more i h g) (λ pair e. omega arith) ∙ c.next i h g;
    more = λ i h g none_here. c.more i h g (sym (same i h 1 (c.more i h g) (λ pair e. omega arith)) ∙ none_here);
  };
  linked = λ i h. ⊎_elim (λ (l : IsLinked z (c.page i h)). l) (λ (o : IsAlone (w (c.page i h))). absurd (not_alone i h o)) (e.linked (c.page i h) (d.linked i h));
  several = d.several;
}
  where
    same : (i : ℕ) (h : i < count) (t : ℕ) → w (d.chain.page i h) t ≢ 0 → ((pair : ℕ) → t ≢ 3 + 2 * pair) → u (d.chain.page i h) t ≡ w (d.chain.page i h) t
    same i h t some_n other = ⊎_elim (λ (y : u (d.chain.page i h) t ≡ w (d.chain.page i h) t). y) (λ (y : IsLinkWord (w (d.chain.page i h)) t). absurd (other y.pair y.place))
        (e.words (d.chain.page i h) t (d.linked i h) some_n)

    -- a slot is no link
    slot_kept : (b : Bool) (i j : ℕ) (h : i < count) → w (d.chain.page i h) 0 ≡ kind_of b + 4 * d.chain.depth + 32 * i → w (d.chain.page i h) (slot_at b j) ≢ 0 → u (d.chain.page i h) (slot_at b j) ≡ w (d.chain.page i h) (slot_at b j)
    slot_kept true i j h header some_n = ⊎_elim (λ (y : u (d.chain.page i h) (2 + j) ≡ w (d.chain.page i h) (2 + j)). y)
        (λ (y : IsLinkWord (w (d.chain.page i h)) (2 + j)). let inner : w (d.chain.page i h) 0 % 4 ≡ 2 = y.inner in absurd (omega arith)) (e.words (d.chain.page i h) (2 + j) (d.linked i h) some_n)
    slot_kept false i j h header some_n = same i h (2 + 2 * j) some_n (λ pair y. omega arith)

    same_slot : (i j : ℕ) (h : i < count) → j < page_room d.chain.leaf → u (d.chain.page i h) (slot_at d.chain.leaf j) ≡ w (d.chain.page i h) (slot_at d.chain.leaf j)
    same_slot i j h less = slot_kept d.chain.leaf i j h (d.chain.header i h) (d.chain.full i j h less)

    not_alone : (i : ℕ) (h : i < count) → IsAlone (w (d.chain.page i h)) → ⊥
    not_alone i h o = dite (ℕ_discrete (i + 1) count)
        (λ y. let header = d.chain.header i h in let first = o.first in let several = d.several in omega arith)
        (λ y. d.chain.more i h (omega arith) o.last)

true_later : (k : Shape) (w u : ℕ → ℕ → ℕ) (s z : Sheet) → KeepsPages w u s z → (x : Entry) → IsTrueChain k w s x → IsTrueChain k u z x
true_later k w u s z e (ChainFull pages) t = (t.0, chain_later w u s z pages e t.1)
true_later k w u s z e (Published number event) t = tt
true_later k w u s z e (Withdrawn number event) t = tt
true_later k w u s z e (Answered query budget front reply) t = tt
true_later k w u s z e (Unknown number front) t = tt
true_later k w u s z e (Ended number at) t = tt
true_later k w u s z e (LogFull front) t = tt
true_later k w u s z e (DataFull left need) t = tt
true_later k w u s z e NoPage t = tt
true_later k w u s z e (Swept need front rows) t = tt

-- by the words alone
pub tree_true : (k : Shape) (w : ℕ → ℕ → ℕ) (s : Sheet) (x : Entry) → IsTrueChain k w s x → IsTrueTree k w x
tree_true k w s (ChainFull pages) t = (t.0, t.1.chain)
tree_true k w s (Published number event) t = tt
tree_true k w s (Withdrawn number event) t = tt
tree_true k w s (Answered query budget front reply) t = tt
tree_true k w s (Unknown number front) t = tt
tree_true k w s (Ended number at) t = tt
tree_true k w s (LogFull front) t = tt
tree_true k w s (DataFull left need) t = tt
tree_true k w s NoPage t = tt
tree_true k w s (Swept need front rows) t = tt

abbrev AreTrueOf : Shape → (ℕ → ℕ → ℕ) → Sheet → List Noted → Type 0
AreTrueOf k w s es = Each (λ n. IsTrueChain k w s n.entry) es

all_later : (k : Shape) (w u : ℕ → ℕ → ℕ) (s z : Sheet) (es : List Noted) → KeepsPages w u s z → AreTrueOf k w s es → AreTrueOf k u z es
all_later k w u s z es e all j n there = true_later k w u s z e n.entry (all j n there)

-- a step that adds no entry
pub chains_later : (k : Shape) (w u : ℕ → ℕ → ℕ) (s z : Sheet) (vs : List View) (id : ℕ) (v : View) (a : Account) → ChainRule k w s vs → get_elem? vs id ≡ some v → KeepsPages w u s z → a.entries ≡ v.me.entries → ChainRule k u z (set vs id (with_me v a))
chains_later k w u s z vs id v a r at e entries = moved (λ x. AreTrueOf k w s x.entries) (λ x. AreTrueOf k u z x.entries) vs id v a at
    (subst (AreTrueOf k u z) (sym entries) (all_later k w u s z v.me.entries e (mine (λ x. AreTrueOf k w s x.entries) vs id v at r)))
    (λ x _ all. all_later k w u s z x.entries e all) r

pub same_pages : (w : ℕ → ℕ → ℕ) (s z : Sheet) → ((p : ℕ) → IsLinked s p → IsLinked z p) → KeepsPages w w s z
same_pages w s z more = record { linked = λ p l. inl (more p l); words = λ p i l some_n. inl refl }

same_sheet : (w : ℕ → ℕ → ℕ) (states : ℕ → ℕ) (vs : List View) (id : ℕ) (v : View) (a : Account) → get_elem? vs id ≡ some v → a.pool ≡ v.me.pool → KeepsPages w w (sheet_of states vs) (sheet_of states (set vs id (with_me v a)))
same_sheet w states vs id v a at pool = same_pages w (sheet_of states vs) (sheet_of states (set vs id (with_me v a)))
    (λ p l. subst (λ (s : Sheet). IsLinked s p) (sym (sheet_same states vs id v a at (λ n. ap (λ (x : PoolAccount). owns n x.own) pool) (ap (λ (x : PoolAccount). x.parted) pool))) l)

pub chains_same : (k : Shape) (w : ℕ → ℕ → ℕ) (states : ℕ → ℕ) (vs : List View) (id : ℕ) (v : View) (a : Account) → ChainRule k w (sheet_of states vs) vs → get_elem? vs id ≡ some v → a.pool ≡ v.me.pool → a.entries ≡ v.me.entries
    → ChainRule k w (sheet_of states (set vs id (with_me v a))) (set vs id (with_me v a))
chains_same k w states vs id v a r at pool entries = chains_later k w w (sheet_of states vs) (sheet_of states (set vs id (with_me v a))) vs id v a r at (same_sheet w states vs id v a at pool) entries

noted_chains : (k : Shape) (w : ℕ → ℕ → ℕ) (s : Sheet) (l : Loads) (es : List Entry) → Each (IsTrueChain k w s) es → AreTrueOf k w s (noted l es)
noted_chains k w s l [] all = each_none (λ n. IsTrueChain k w s n.entry)
noted_chains k w s l (e ∷ es) all = each_cons (λ n. IsTrueChain k w s n.entry) _ (noted l es) (all zero e refl) (noted_chains k w s l es (λ j. all (suc j)))

-- a step that adds true entries
pub chains_more : (k : Shape) (w : ℕ → ℕ → ℕ) (states : ℕ → ℕ) (vs : List View) (id : ℕ) (v : View) (a : Account) (es : List Entry) → ChainRule k w (sheet_of states vs) vs → get_elem? vs id ≡ some v → a.pool ≡ v.me.pool → Each (IsTrueChain k w (sheet_of states vs)) es
    → a.entries ≡ v.me.entries ++ noted v.me.loads es → ChainRule k w (sheet_of states (set vs id (with_me v a))) (set vs id (with_me v a))
chains_more k w states vs id v a es r at pool true_all entries =
    let s : Sheet = sheet_of states vs in
    let z : Sheet = sheet_of states (set vs id (with_me v a)) in
    let e : KeepsPages w w s z = same_sheet w states vs id v a at pool in
    moved (λ x. AreTrueOf k w s x.entries) (λ x. AreTrueOf k w z x.entries) vs id v a at
    (subst (AreTrueOf k w z) (sym entries) (all_later k w w s z (v.me.entries ++ noted v.me.loads es) e
    (each_append (λ n. IsTrueChain k w s n.entry) v.me.entries (noted v.me.loads es) (mine (λ x. AreTrueOf k w s x.entries) vs id v at r) (noted_chains k w s v.me.loads es true_all))))
    (λ x _ all. all_later k w w s z x.entries e all) r

-- an event's entry says nothing of chains
pub event_chain : (k : Shape) (w : ℕ → ℕ → ℕ) (s : Sheet) (number : ℕ) (e : Event) → Each (IsTrueChain k w s) (entry_of number e ∷ [])
event_chain k w s number (Publish caller name mol) = each_cons (IsTrueChain k w s) (Published number (Publish caller name mol)) [] tt (each_none (IsTrueChain k w s))
event_chain k w s number (Withdraw caller target) = each_cons (IsTrueChain k w s) (Withdrawn number (Withdraw caller target)) [] tt (each_none (IsTrueChain k w s))

-- ---- a chain that was read to its last page

module _ (w : ℕ → ℕ → ℕ) (s : Sheet) (m : ℕ → Place) (codes : ℕ → List ℕ) (placed : ℕ → Type 0) (t : Tree w s m codes placed) where
  header_at : (P : Place) (leaf : Bool) (depth rank : ℕ) → P.leaf ≡ leaf → length P.path ≡ depth → P.rank ≡ rank → header_of P ≡ kind_of leaf + 4 * depth + 32 * rank
  header_at P leaf depth rank kind path there = λ i. kind_of (kind i) + 4 * path i + 32 * there i

  -- the page that follows one of a chain
  next_in : (p q n : ℕ) → IsLinked s p → IsLinked s q → (m p).path ≡ (m q).path → (m p).rank ≡ n → (m q).rank ≡ suc n → w p 1 ≡ q
  next_in p q n l o path rank after =
      let below : q ≢ 1 = λ z. let top : (m 1).rank ≡ 0 = ap (λ (x : Place). x.rank) t.top in let here : (m q).rank ≡ (m 1).rank = ap (λ x. (m x).rank) z in absurd (omega arith) in
      let name = t.named q o below in
      let f : ℕ = (m q).from in
      let up = up_more (w f) (m f) (m q).way (m q) n after name.follows in
      let same : f ≡ p = t.alone f p name.linked l (sym up.1 ∙ sym path) (up.2 ∙ sym rank) in
      ap (λ x. w x 1) (sym same) ∙ (ap (λ x. w f (at_way x)) (sym up.0) ∙ name.there)

  chain_told : (rs : List Reached) (old : ℕ → Type 0) (k : KnowsPages w s m codes old rs) (y : Reached) → In y rs → (count : ℕ) → 1 < count → y.rank + 1 ≡ count → page_room y.leaf ≤ length y.slots → HasFullChain w s count
  chain_told rs old k y there count several last full =
      let fits = k.fits there.0 y there.1 in
      let l : IsLinked s y.page = linked y.leaf refl in
      let place : m y.page ≡ place_of y = fits.place l in
      let rank : (m y.page).rank ≡ y.rank = ap (λ (P : Place). P.rank) place in
      let kind : (m y.page).leaf ≡ y.leaf = ap (λ (P : Place). P.leaf) place in
      let back = λ (i : ℕ) (h : i < count). chain_back w s m codes placed t (m y.page).rank y.page l refl i (omega arith) in
      let leads : (i : ℕ) (h : i < count) → i + 1 < count → w (back i h).0 1 ≢ 0 = λ i h g. (back i h).1.more (omega arith) in
      let next : (i : ℕ) (h : i < count) (g : i + 1 < count) → w (back i h).0 1 ≡ (back (i + 1) g).0 = λ i h g.
      next_in (back i h).0 (back (i + 1) g).0 i (back i h).1.linked (back (i + 1) g).1.linked ((back i h).1.path ∙ sym (back (i + 1) g).1.path) (back i h).1.rank ((back (i + 1) g).1.rank ∙ (let e : i + 1 ≡ suc i = omega arith in e)) in
      let slots : (j : ℕ) → j < page_room y.leaf → w y.page (slot_at y.leaf j) ≢ 0 = λ j less e. let f = has_at y.slots j (omega arith) in let g = fits.known j f.0 f.1 in g.0 (sym g.1 ∙ e) in record {
        chain = record {
          leaf = y.leaf;
          depth = length y.path;
          page = λ i h. (back i h).0;
          header = λ i h. (t.pages (back i h).0 (back i h).1.linked).header ∙ header_at (m (back i h).0) y.leaf (length y.path) i ((back i h).1.kind ∙ kind)
              (ap length ((back i h).1.path ∙ ap (λ (P : Place). P.path) place)) (back i h).1.rank;
          full = λ i j h less none_here. dite (ℕ_discrete (i + 1) count)
              (λ e. let same : (back i h).0 ≡ y.page = t.alone (back i h).0 y.page (back i h).1.linked l (back i h).1.path ((back i h).1.rank ∙ (let z : i ≡ (m y.page).rank = omega arith in z)) in
              slots j less (ap (λ p. w p (slot_at y.leaf j)) (sym same) ∙ none_here))
              (λ e. let page : PageStands (w (back i h).0) (m (back i h).0) = t.pages (back i h).0 (back i h).1.linked in
              subst (λ (b : Bool). j < page_room b → w (back i h).0 (slot_at b j) ≢ 0) ((back i h).1.kind ∙ kind) (page.full (leads i h (omega arith)) j) less none_here);
          next = next;
          more = leads;
        };
        linked = λ i h. (back i h).1.linked;
        several = several;
      }
    where
      linked : (b : Bool) → y.leaf ≡ b → IsLinked s y.page
      linked false e = (k.fits there.0 y there.1).inner e
      linked true e = ⊎_elim (λ (o : IsLinked s y.page). o) (λ (o : IsFullLeaf (w y.page) y). let none_before = o.rank in absurd (omega arith)) ((k.fits there.0 y there.1).old e)

  entry_told : (k : Shape) (a : Account) (old : ℕ → Type 0) → KnowsPages w s m codes old a.tree.reached → (x : Entry) → IsToldChain k a x → IsTrueChain k w s x
  entry_told k a old known (ChainFull pages) (is, told) = (is, chain_told a.tree.reached old known told.last told.there pages told.several told.rank told.full)
  entry_told k a old known (Published number event) told = tt
  entry_told k a old known (Withdrawn number event) told = tt
  entry_told k a old known (Answered query budget front reply) told = tt
  entry_told k a old known (Unknown number front) told = tt
  entry_told k a old known (Ended number at) told = tt
  entry_told k a old known (LogFull front) told = tt
  entry_told k a old known (DataFull left need) told = tt
  entry_told k a old known NoPage told = tt
  entry_told k a old known (Swept need front rows) told = absurd told

  pub chains_true : (k : Shape) (a : Account) (old : ℕ → Type 0) (es : List Entry) → KnowsPages w s m codes old a.tree.reached → Each (IsToldChain k a) es → Each (IsTrueChain k w s) es
  chains_true k a old es known told j x there = entry_told k a old known x (told j x there)
