-- A word of a page that was reached is loaded: a code or an entry, a link, the next page, the header.
use Rattle.std.proofs.Common.{◌≡◌, ◌≢◌, ℕ, zero, suc, ◌+◌, ◌*◌, ◌<◌, ◌⊎◌, Bool, true, false, List, [], ◌∷◌, ◌++◌, length, set, get_or, sym, refl, ap, ◌∙◌, subst, arith, inl, inr, ⊎_elim, ◌≤◌}
use mathlib.Core.Option.{some, none, some-injective, some-ne-none}
use lib.ListN.{get_elem?}
use Rattle.atomic_table.specs.Table.{step, keeps, Allows}
use Rattle.atomic_table.proofs.Lists.{set_again}
use Rattle.htss_defs.specs.declared.shape.Shape.{Shape}
use Rattle.htss_defs.specs.declared.history.Event.{Event}
use Rattle.board_core.specs.declared.account.Account.{Account}
use Rattle.board_core.specs.declared.account.View.{View}
use Rattle.board_core.specs.declared.account.Who.TheVariants.{Gone}
use Rattle.board_core.specs.declared.tree.Reached.{Reached}
use Rattle.board_core.specs.declared.tree.Link.TheVariants.{Absent, To}
use Rattle.board_core.specs.Words.{Parts, parts_of}
use Rattle.board_core.specs.Histories.{history_of}
use Rattle.board_core.specs.Accounts.{with_me}
use Rattle.board_core.specs.Held.{held_in, leaf_of}
use Rattle.board_core.specs.Sheets.{sheet_of, IsLinked}
use Rattle.board_core.specs.MarkRule.{IsAmong}
use Rattle.board_core.specs.Rows.{codes_in, IsPlaced}
use Rattle.board_core.specs.ClassTree.{slot_at, page_room, header_of, PageStands}
use Rattle.board_core.specs.KnownPages.{place_of}
use Rattle.board_core.specs.KnownRule.{Knows}
use Rattle.board_core.specs.OldRows.{IsOldRow}
use Rattle.board_core.specs.Loaded.{IsPage, page_word, IsVisit}
use Rattle.board_core.specs.Holds.{Rule, Holds}
use Rattle.board_core.specs.After.{visited, with_reached, with_slot, with_link, with_more, led, next_of, root, after_walk, after_slot, after_link, after_more}
use Rattle.board_core.specs.Steps.{Mine, MayLoadSlot, MayLoadLink, MayLoadMore, BeginsWalk, LoadsHeader, LoadsSlot, LoadsLink, LoadsMore}
use Rattle.board_core.proofs.Everyone.{mine}
use Rattle.board_core.proofs.PoolTree.{pool_reaches}
use Rattle.board_core.proofs.OwnFrame.{own_same}
use Rattle.board_core.proofs.RowFrame.{rows_same, placed_begun}
use Rattle.board_core.proofs.TreeFrame.{tree_told, knows_root}
use Rattle.board_core.proofs.PageLoads.{at_visit, law_header, law_slot, law_link_none, law_link, link_linked, law_more_none, law_more, next_linked}
use Rattle.board_core.proofs.Stepped.{still}
use Rattle.board_core.proofs.Treed.{by_tree, page_at, busy_page}
use Rattle.board_core.proofs.Pooled.{linked_kept}
use Rattle.board_core.proofs.ChainFrame.{same_pages}

-- ---- held leaves

held_if : (b : Bool) (p q : ℕ) (ps qs : List ℕ) → p ≡ q → ps ≡ qs → leaf_of b p ps ≡ leaf_of b q qs
held_if b p q ps qs e f i = leaf_of b (e i) (f i)

-- more is known of one page
pub held_set : (rs : List Reached) (j : ℕ) (x y : Reached) → get_elem? rs j ≡ some x → y.page ≡ x.page → y.leaf ≡ x.leaf → held_in (set rs j y) ≡ held_in rs
held_set [] j x y there page leaf = refl
held_set (r ∷ rs) zero x y there page leaf = let same : x ≡ r = sym (some-injective r x there) in λ i. leaf_of ((leaf ∙ ap (λ (z : Reached). z.leaf) same) i) ((page ∙ ap (λ (z : Reached). z.page) same) i) (held_in rs)
held_set (r ∷ rs) (suc j) x y there page leaf = ap (leaf_of r.leaf r.page) (held_set rs j x y there page leaf)

held_more : (b : Bool) (p : ℕ) (ps qs : List ℕ) (n : ℕ) → ((j x : ℕ) → get_elem? qs j ≡ some x → IsAmong ps x ⊎ (x ≡ n)) → (j x : ℕ) → get_elem? (leaf_of b p qs) j ≡ some x → IsAmong (leaf_of b p ps) x ⊎ (x ≡ n)
held_more false p ps qs n h j x e = h j x e
held_more true p ps qs n h zero x e = inl (zero, e)
held_more true p ps qs n h (suc j) x e = ⊎_elim (λ (y : IsAmong ps x). inl (suc y.0, y.1)) (λ (y : x ≡ n). inr y) (h j x e)

last_held : (b : Bool) (p j x : ℕ) → get_elem? (leaf_of b p []) j ≡ some x → x ≡ p
last_held true p zero x e = sym (some-injective p x e)
last_held true p (suc j) x e = absurd (some-ne-none x (sym e))
last_held false p j x e = absurd (some-ne-none x (sym e))

pub held_snoc : (rs : List Reached) (z : Reached) (j x : ℕ) → get_elem? (held_in (rs ++ z ∷ [])) j ≡ some x → IsAmong (held_in rs) x ⊎ (x ≡ z.page)
held_snoc [] z j x e = inr (last_held z.leaf z.page j x e)
held_snoc (r ∷ rs) z j x e = held_more r.leaf r.page (held_in rs) (held_in (rs ++ z ∷ [])) z.page (held_snoc rs z) j x e

pub slot_page : (n : ℕ) (x : Reached) → (with_slot n x).page ≡ x.page
slot_page zero x = refl
slot_page (suc n) x = refl

pub slot_leaf : (n : ℕ) (x : Reached) → (with_slot n x).leaf ≡ x.leaf
slot_leaf zero x = refl
slot_leaf (suc n) x = refl

-- ---- the whole, from what is known after the load

module _ (k : Shape) (p : Parts) (h : List Event) (vs : List View) (id : ℕ) (v : View) (r : Rule k p h vs) (at : get_elem? vs id ≡ some v) where
  -- what the caller knows is told anew, and what it newly holds is linked
  knows_more : (rs : List Reached) → ((j q : ℕ) → get_elem? (held_in rs) j ≡ some q → IsAmong (held_in v.me.tree.reached) q ⊎ ((0 < v.me.pool.announced) × IsLinked (sheet_of p.pool.states vs) q))
      → Knows p.pages (sheet_of p.pool.states vs) r.tree.place (codes_in k p.regions) (IsPlaced vs) (IsOldRow k p.regions p.log.slots) (record v.me.tree { reached = rs }) → Rule k p h (set vs id (with_me v (with_reached v.me rs)))
  knows_more rs news knows = let a : Account = with_reached v.me rs in by_tree k p p.pages h vs id v a r at
      record { who = refl; log = refl; room = refl; entries = refl; shown = refl; heads = refl; facts = refl; codes = refl; marks = refl } (λ q h. h) refl
      (pool_reaches k p.pool vs id v (record v.me.tree { reached = rs }) r.pool at news (omega arith))
      (own_same p.pages vs id v a r.own at refl)
      (rows_same k vs id v a r.rows at refl refl refl refl refl)
      (same_pages p.pages (sheet_of p.pool.states vs) (sheet_of p.pool.states (set vs id (with_me v a))) (linked_kept p.pool.states vs id v a at (λ _. refl) (λ _. refl)))
      (tree_told k p.pool.states p.pages (codes_in k p.regions) (IsOldRow k p.regions p.log.slots) vs id v a at (λ _. refl) refl refl refl (λ n. placed_begun k vs n r.rows) r.tree knows)

  pub known_here : Knows p.pages (sheet_of p.pool.states vs) r.tree.place (codes_in k p.regions) (IsPlaced vs) (IsOldRow k p.regions p.log.slots) v.me.tree
  known_here = mine (λ x. Knows p.pages (sheet_of p.pool.states vs) r.tree.place (codes_in k p.regions) (IsPlaced vs) (IsOldRow k p.regions p.log.slots) x.tree) vs id v at r.tree.known

  -- the same leaves are held
  pub same_held : (j : ℕ) (y : Reached) → j < length v.me.tree.reached → y.page ≡ (visited v.me.tree.reached j).page → y.leaf ≡ (visited v.me.tree.reached j).leaf
      → (i q : ℕ) → get_elem? (held_in (set v.me.tree.reached j y)) i ≡ some q → IsAmong (held_in v.me.tree.reached) q
  same_held j y within page leaf i q e = (i, sym (ap (λ l. get_elem? l i) (held_set v.me.tree.reached j (visited v.me.tree.reached j) y (at_visit v.me.tree.reached j within) page leaf)) ∙ e)

  -- what was reached is set aside. The events that were seen at the pin stay
  pub begin_walk : Rule k p h (set vs id (with_me v (after_walk v.me)))
  begin_walk = knows_more (root ∷ []) (λ i q e. absurd (some-ne-none q (sym e)))
      (knows_root p.pages (sheet_of p.pool.states vs) r.tree.place (codes_in k p.regions) (IsPlaced vs) (IsOldRow k p.regions p.log.slots) r.tree.tree (record v.me.tree { reached = root ∷ [] }) refl known_here.olds known_here.lasts)

  pub load_header : (j : ℕ) → j < length v.me.tree.reached → p.pages (visited v.me.tree.reached j).page 0 ≡ header_of (place_of (visited v.me.tree.reached j))
  load_header j within = law_header p.pages (sheet_of p.pool.states vs) r.tree.place (codes_in k p.regions) (IsPlaced vs) (IsOldRow k p.regions p.log.slots) r.tree.tree v.me.tree known_here j within

  -- an inner page stands above depth 5
  pub inner_high : (j : ℕ) → j < length v.me.tree.reached → (visited v.me.tree.reached j).leaf ≡ false → length (visited v.me.tree.reached j).path < 5
  inner_high j within inner =
      let x : Reached = visited v.me.tree.reached j in
      let fits = known_here.known.fits j x (at_visit v.me.tree.reached j within) in
      let l = fits.inner inner in
      let page : PageStands (p.pages x.page) (place_of x) = subst (PageStands (p.pages x.page)) (fits.place l) (r.tree.tree.pages x.page l) in page.shallow inner

  pub load_slot : (j n : ℕ) → MayLoadSlot k v.me j → p.pages (visited v.me.tree.reached j).page (slot_at (visited v.me.tree.reached j).leaf (length (visited v.me.tree.reached j).slots)) ≡ n → Rule k p h (set vs id (with_me v (after_slot v.me j n)))
  load_slot j n may word =
      let within = may.visit.reached in
      knows_more (set v.me.tree.reached j (with_slot n (visited v.me.tree.reached j)))
      (λ i q e. inl (same_held j (with_slot n (visited v.me.tree.reached j)) within (slot_page n (visited v.me.tree.reached j)) (slot_leaf n (visited v.me.tree.reached j)) i q e))
      (law_slot p.pages (sheet_of p.pool.states vs) r.tree.place (codes_in k p.regions) (IsPlaced vs) (IsOldRow k p.regions p.log.slots) r.tree.tree v.me.tree known_here j within n word may.unread may.room)

  pub load_link : (j i c n : ℕ) → MayLoadLink k v.me j i c → p.pages (visited v.me.tree.reached j).page (3 + 2 * i) ≡ n → Rule k p h (set vs id (with_me v (after_link v.me j i c n (r.tree.place n).leaf)))
  load_link j i c zero may word =
      let within = may.visit.reached in
      let x : Reached = visited v.me.tree.reached j in
      knows_more (set v.me.tree.reached j (with_link i Absent x)) (λ t q e. inl (same_held j (with_link i Absent x) within refl refl t q e))
      (law_link_none p.pages (sheet_of p.pool.states vs) r.tree.place (codes_in k p.regions) (IsPlaced vs) (IsOldRow k p.regions p.log.slots) r.tree.tree v.me.tree known_here j within i c may.inner may.code may.not_zero may.unread word)
  load_link j i c (suc n) may word =
      let within = may.visit.reached in
      let x : Reached = visited v.me.tree.reached j in
      let z : Reached = led x i c (suc n) (r.tree.place (suc n)).leaf in
      let l = link_linked p.pages (sheet_of p.pool.states vs) r.tree.place (codes_in k p.regions) (IsPlaced vs) (IsOldRow k p.regions p.log.slots) r.tree.tree v.me.tree known_here j within i c may.inner may.code may.not_zero may.unread (suc n) word (λ e. omega arith) in
      knows_more (set v.me.tree.reached j (with_link i (To (suc n)) x) ++ z ∷ [])
      (λ t q e. ⊎_elim
      (λ (o : IsAmong (held_in (set v.me.tree.reached j (with_link i (To (suc n)) x))) q). inl (same_held j (with_link i (To (suc n)) x) within refl refl o.0 q o.1))
      (λ (o : q ≡ z.page). inr (may.pinned, subst (λ (y : ℕ). IsLinked (sheet_of p.pool.states vs) y) (sym o) l))
      (held_snoc (set v.me.tree.reached j (with_link i (To (suc n)) x)) z t q e))
      (law_link p.pages (sheet_of p.pool.states vs) r.tree.place (codes_in k p.regions) (IsPlaced vs) (IsOldRow k p.regions p.log.slots) r.tree.tree v.me.tree known_here j within i c may.inner may.code may.not_zero may.unread (suc n) word (λ e. omega arith))

  pub load_more : (j n : ℕ) → MayLoadMore k v.me j → p.pages (visited v.me.tree.reached j).page 1 ≡ n → Rule k p h (set vs id (with_me v (after_more v.me j n)))
  load_more j zero may word =
      let within = may.visit.reached in
      let x : Reached = visited v.me.tree.reached j in
      knows_more (set v.me.tree.reached j (with_more Absent x)) (λ t q e. inl (same_held j (with_more Absent x) within refl refl t q e))
      (law_more_none p.pages (sheet_of p.pool.states vs) r.tree.place (codes_in k p.regions) (IsPlaced vs) (IsOldRow k p.regions p.log.slots) r.tree.tree v.me.tree known_here j within may.full may.not_zero word)
  load_more j (suc n) may word =
      let within = may.visit.reached in
      let x : Reached = visited v.me.tree.reached j in
      let z : Reached = next_of x (suc n) in
      let l = (next_linked p.pages (sheet_of p.pool.states vs) r.tree.place (codes_in k p.regions) (IsPlaced vs) (IsOldRow k p.regions p.log.slots) r.tree.tree v.me.tree known_here j within may.full may.not_zero (suc n) word (λ e. omega arith)).0 in
      knows_more (set v.me.tree.reached j (with_more (To (suc n)) x) ++ z ∷ [])
      (λ t q e. ⊎_elim
      (λ (o : IsAmong (held_in (set v.me.tree.reached j (with_more (To (suc n)) x))) q). inl (same_held j (with_more (To (suc n)) x) within refl refl o.0 q o.1))
      (λ (o : q ≡ z.page). inr (may.pinned, subst (λ (y : ℕ). IsLinked (sheet_of p.pool.states vs) y) (sym o) l))
      (held_snoc (set v.me.tree.reached j (with_more (To (suc n)) x)) z t q e))
      (law_more p.pages (sheet_of p.pool.states vs) r.tree.place (codes_in k p.regions) (IsPlaced vs) (IsOldRow k p.regions p.log.slots) r.tree.tree v.me.tree known_here j within may.full may.not_zero (suc n) word (λ e. omega arith))

  -- where a link or the next page leads
  pub link_leads : (j i c n : ℕ) → MayLoadLink k v.me j i c → p.pages (visited v.me.tree.reached j).page (3 + 2 * i) ≡ n → n ≢ 0 → p.pool.states n ≢ 0
  link_leads j i c n may word some_n free =
      let l = link_linked p.pages (sheet_of p.pool.states vs) r.tree.place (codes_in k p.regions) (IsPlaced vs) (IsOldRow k p.regions p.log.slots) r.tree.tree v.me.tree known_here j may.visit.reached i c may.inner may.code may.not_zero may.unread n word some_n in
      let one : p.pool.states n ≡ 1 = l.busy in omega arith

  pub more_leads : (j n : ℕ) → MayLoadMore k v.me j → p.pages (visited v.me.tree.reached j).page 1 ≡ n → n ≢ 0 → (p.pool.states n ≢ 0) × ((visited v.me.tree.reached j).rank + 1 < k.chain)
  more_leads j n may word some_n =
      let l = next_linked p.pages (sheet_of p.pool.states vs) r.tree.place (codes_in k p.regions) (IsPlaced vs) (IsOldRow k p.regions p.log.slots) r.tree.tree v.me.tree known_here j may.visit.reached may.full may.not_zero n word some_n in
      let one : p.pool.states n ≡ 1 = l.0.busy in
      let rank = l.1 in
      let most = r.tree.ranks n l.0 in (λ none. omega arith, omega arith)

-- ---- as the table asks

pub slot_small : (b : Bool) (i : ℕ) → i < page_room b → slot_at b i < 16
slot_small true i h = omega arith
slot_small false i h = omega arith

-- the shape that a caller knows
known_shape : (k : Shape) (p : Parts) (h : List Event) (vs : List View) (id : ℕ) (v : View) → Rule k p h vs → get_elem? vs id ≡ some v → v.me.who ≢ Gone → v.shape ≡ k
known_shape k p h vs id v r at here = r.seats.shapes id v at here

pub header_allowed : (k : Shape) (slots id j at_word : ℕ) (m : Mine) → at_word ≡ page_word k (visited m.0.me.tree.reached j).page 0 → IsVisit k m.0.me j → Allows (Holds k) slots id m at_word (λ n. n) (LoadsHeader j (step slots at_word 0 0 none) m)
header_allowed k slots id j at_word m is visit s h _ at _ =
    let p : Parts = parts_of k s.words in
    let x : Reached = visited m.0.me.tree.reached j in
    let found : ℕ = get_or s.words at_word 0 in
    let same : p.pages x.page 0 ≡ found = page_at k s.words x.page 0 visit.inside (omega arith) ∙ ap (λ (z : ℕ). get_or s.words z 0) (sym is) in (
      m.0,
      keeps,
      tt,
      still k s at_word id m.1 m.0 m.0.me h (subst (λ (l : List View). Rule k p (history_of k p) l) (sym (set_again s.views id m.0 at)) h.rule),
      record { same = refl; header = sym same ∙ load_header k p (history_of k p) s.views id m.0 h.rule at j visit.reached; shallow = inner_high k p (history_of k p) s.views id m.0 h.rule at j visit.reached },
    )

pub walk_allowed : (k : Shape) (slots id at_word : ℕ) (m : Mine) → Allows (Holds k) slots id m at_word (λ n. n) (BeginsWalk (step slots at_word 0 0 none) m)
walk_allowed k slots id at_word m s h _ at _ = (
  with_me m.0 (after_walk m.0.me),
  keeps,
  tt,
  still k s at_word id m.1 m.0 (after_walk m.0.me) h (begin_walk k (parts_of k s.words) (history_of k (parts_of k s.words)) s.views id m.0 h.rule at),
  refl,
)

pub slot_allowed : (k : Shape) (slots id j at_word x : ℕ) (m : Mine) → at_word ≡ page_word k (visited m.0.me.tree.reached j).page (slot_at (visited m.0.me.tree.reached j).leaf (length (visited m.0.me.tree.reached j).slots)) → MayLoadSlot k m.0.me j
    → Allows (Holds k) slots id m at_word (λ n. n) (LoadsSlot j (step slots at_word 0 x none) m)
slot_allowed k slots id j at_word x m is may s h _ at _ =
    let p : Parts = parts_of k s.words in
    let y : Reached = visited m.0.me.tree.reached j in
    let found : ℕ = get_or s.words at_word 0 in
    let same : p.pages y.page (slot_at y.leaf (length y.slots)) ≡ found = page_at k s.words y.page (slot_at y.leaf (length y.slots)) may.visit.inside (slot_small y.leaf (length y.slots) may.room) ∙ ap (λ (z : ℕ). get_or s.words z 0) (sym is) in (
      with_me m.0 (after_slot m.0.me j found),
      keeps,
      tt,
      still k s at_word id m.1 m.0 (after_slot m.0.me j found) h (load_slot k p (history_of k p) s.views id m.0 h.rule at j found may same),
      refl,
    )

pub link_allowed : (k : Shape) (slots id j i c at_word x : ℕ) (m : Mine) → at_word ≡ page_word k (visited m.0.me.tree.reached j).page (3 + 2 * i) → i < 7 → m.0.shape ≡ k → MayLoadLink k m.0.me j i c
    → Allows (Holds k) slots id m at_word (λ n. n) (LoadsLink j i c (step slots at_word 0 x none) m)
link_allowed k slots id j i c at_word x m is small shape may s h _ at _ =
    let p : Parts = parts_of k s.words in
    let y : Reached = visited m.0.me.tree.reached j in
    let found : ℕ = get_or s.words at_word 0 in
    let same : p.pages y.page (3 + 2 * i) ≡ found = page_at k s.words y.page (3 + 2 * i) may.visit.inside (omega arith) ∙ ap (λ (z : ℕ). get_or s.words z 0) (sym is) in
    let leaf : Bool = (h.rule.tree.place found).leaf in (
      with_me m.0 (after_link m.0.me j i c found leaf),
      keeps,
      tt,
      still k s at_word id m.1 m.0 (after_link m.0.me j i c found leaf) h (load_link k p (history_of k p) s.views id m.0 h.rule at j i c found may same),
      record {
        leaf = leaf;
        after = refl;
        page = λ some_n. subst (λ (z : Shape). IsPage z found) (sym shape) (busy_page k s.words found (link_leads k p (history_of k p) s.views id m.0 h.rule at j i c found may same some_n));
      },
    )

pub more_allowed : (k : Shape) (slots id j at_word x : ℕ) (m : Mine) → at_word ≡ page_word k (visited m.0.me.tree.reached j).page 1 → m.0.shape ≡ k → MayLoadMore k m.0.me j
    → Allows (Holds k) slots id m at_word (λ n. n) (LoadsMore j (step slots at_word 0 x none) m)
more_allowed k slots id j at_word x m is shape may s h _ at _ =
    let p : Parts = parts_of k s.words in
    let y : Reached = visited m.0.me.tree.reached j in
    let found : ℕ = get_or s.words at_word 0 in
    let same : p.pages y.page 1 ≡ found = page_at k s.words y.page 1 may.visit.inside (omega arith) ∙ ap (λ (z : ℕ). get_or s.words z 0) (sym is) in (
      with_me m.0 (after_more m.0.me j found),
      keeps,
      tt,
      still k s at_word id m.1 m.0 (after_more m.0.me j found) h (load_more k p (history_of k p) s.views id m.0 h.rule at j found may same),
      record {
        after = refl;
        page = λ some_n. subst (λ (z : Shape). IsPage z found) (sym shape) (busy_page k s.words found (more_leads k p (history_of k p) s.views id m.0 h.rule at j found may same some_n).0);
        rank = λ some_n. subst (λ (z : Shape). y.rank + 1 < z.chain) (sym shape) (more_leads k p (history_of k p) s.views id m.0 h.rule at j found may same some_n).1;
      },
    )
