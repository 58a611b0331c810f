-- The next page of a full page is linked: a leaf that has a row, or an inner page that has a code.
use Rattle.std.proofs.Common.{◌≡◌, ◌≢◌, ℕ, ◌+◌, ◌*◌, ◌<◌, ◌≤◌, ◌==◌, Bool, true, false, List, [], ◌∷◌, ◌++◌, length, set, sym, refl, ap, ◌∙◌, subst, arith, inl, inr, ⊎_elim, zero, suc, length-set, length-append}
use mathlib.Core.Option.{some, none}
use mathlib.Core.Logic.{dite}
use native.Mathlib.Decide.{ℕ_discrete}
use prog.Atomic.{either}
use lib.ListN.{get_elem?}
use Rattle.atomic_table.specs.Table.{step, Allows}
use Rattle.atomic_table.proofs.Lists.{set_here}
use Rattle.htss_defs.specs.declared.shape.Shape.{Shape}
use Rattle.htss_defs.specs.declared.history.Event.{Event}
use Rattle.board_core.specs.declared.account.Account.{Account}
use Rattle.board_core.specs.declared.account.View.{View}
use Rattle.board_core.specs.declared.pool.Own.{Own}
use Rattle.board_core.specs.declared.room.Row.{Row}
use Rattle.board_core.specs.declared.tree.Reached.{Reached}
use Rattle.board_core.specs.declared.tree.Way.TheVariants.{More}
use Rattle.board_core.specs.Each.{Each, In}
use Rattle.board_core.specs.Words.{Parts, parts_of, stored_page}
use Rattle.board_core.specs.Histories.{history_of}
use Rattle.board_core.specs.Accounts.{with_me}
use Rattle.board_core.specs.Sheets.{Sheet, sheet_of, IsLinked, owns}
use Rattle.board_core.specs.Rows.{entry_word, codes_in, IsBegun, IsPlaced}
use Rattle.board_core.specs.Turns.{Turns}
use Rattle.board_core.specs.ClassTree.{Place, HasSlot, header_of, slot_at, page_room, IsBelow, Tree}
use Rattle.board_core.specs.KnownPages.{place_of}
use Rattle.board_core.specs.OldRows.{IsOldRow}
use Rattle.board_core.specs.Loaded.{IsPage, page_word}
use Rattle.board_core.specs.Holds.{Rule, Holds}
use Rattle.board_core.specs.After.{visited, let_go, after_linked}
use Rattle.board_core.specs.Steps.{Mine, Claims, LoadsMore}
use Rattle.board_core.proofs.Lists.{each_none, each_cons, inside, set_twice}
use Rattle.board_core.proofs.Everyone.{mine}
use Rattle.board_core.proofs.PoolTree.{pool_links, none_parted, after_links}
use Rattle.board_core.specs.PoolRule.{PoolRule}
use Rattle.board_core.specs.Rows.{RowRule}
use Rattle.board_core.specs.TreeRule.{TreeRule}
use Rattle.board_core.specs.Held.{held_in}
use Rattle.board_core.proofs.Pooled.{LeavesLog}
use Rattle.board_core.proofs.OwnFrame.{each_without}
use Rattle.board_core.specs.OwnRule.{OwnFits}
use Rattle.board_core.proofs.PageLoads.{at_visit}
use Rattle.board_core.proofs.LoadPage.{known_here, load_slot, load_more, more_allowed}
use Rattle.board_core.proofs.Linked.{keeps_linked, put_is, with_at, at_here, at_else, turned_in, one_more, link_tree, Left}
use Rattle.board_core.proofs.Claimed.{HasOne, has_one, go_less, go_one, go_new, own_apart, own_busy, own_linked, rows_placed, own_row, row_below, row_free, some_entry, one_few}
use Rattle.board_core.proofs.Treed.{by_tree, claim_allowed, page_past, busy_page}
use Rattle.board_core.specs.KnownPages.{IsFullLeaf}
use Rattle.board_core.specs.KnownRule.{Knows}
use Rattle.board_core.specs.ClassTree.{chained}
use Rattle.board_core.specs.NextPage.{after, MayChain}
use Rattle.board_core.specs.Rows.{HasRow}
use Rattle.board_core.specs.Loaded.{IsPage, next_place}
use Rattle.board_core.specs.After.{root, with_more, next_of, after_inner, after_more, after_next}
use Rattle.board_core.specs.declared.tree.Link.TheVariants.{To}
use Rattle.std.proofs.lemmas.List.{get_or_push}
use Rattle.board_core.specs.Steps.{MayLinkNext, MayLinkMoreLeaf, MayLinkInner}
use Rattle.board_core.proofs.RowFrame.{rows_same}
use Rattle.board_core.proofs.Seen.{has_at}
use Rattle.board_core.proofs.Chained.{chains}
use Rattle.board_core.proofs.TreeFrame.{rows_stay, placed_split}
use Rattle.board_core.proofs.ClaimCode.{chain_absent}
use Rattle.board_core.proofs.PageLoads.{in_left}

module _ (k : Shape) (p : Parts) (h : List Event) (vs : List View) (id j n word : ℕ) (v : View) (r : Rule k p h vs) (at : get_elem? vs id ≡ some v) (may : MayLinkNext k v.me j n word)
    (zero_word : p.pages (visited v.me.tree.reached j).page 1 ≡ 0) (past : (t : ℕ) → 16 ≤ t → p.pages n t ≡ 0) (some_n : n ≢ 0) (some_word : word ≢ 0) where
  abbrev x : Reached
  x = visited v.me.tree.reached j

  abbrev s : Sheet
  s = sheet_of p.pool.states vs

  abbrev m : ℕ → Place
  m = r.tree.place

  abbrev codes : ℕ → List ℕ
  codes = codes_in k p.regions

  abbrev u : ℕ → ℕ → ℕ
  u = stored_page p.pages (visited v.me.tree.reached j).page 1 n

  -- with the new page at its place
  abbrev new : ℕ → Place
  new = with_at r.tree.place n (after r.tree.place (visited v.me.tree.reached j).page)

  module _ (a : Account) (own : a.pool.own ≡ let_go n v.me.pool.own) (parted : a.pool.parted ≡ v.me.pool.parted) (l : IsLinked s x.page) where
    less : (y : ℕ) → owns y a.pool.own ≤ owns y v.me.pool.own
    less y = subst (λ (o : List Own). owns y o ≤ owns y v.me.pool.own) (sym own) (go_less n v.me.pool.own y)

    one : (y : ℕ) → Left v.me.pool.own a.pool.own y → y ≡ n
    one y left = go_one n v.me.pool.own y (subst (λ (o : List Own). Left v.me.pool.own o y) own left)

    left_new : Left v.me.pool.own a.pool.own n
    left_new = subst (λ (o : List Own). Left v.me.pool.own o n) (sym own) (go_new n v.me.pool.own may.new.own)

    apart : (y : ℕ) → IsLinked s y → y ≢ n
    apart y o e = own_apart k p.pool vs id n v r.pool at may.new.own (subst (λ (y : ℕ). IsLinked s y) e o)

    places : (y : ℕ) → IsLinked s y → new y ≡ m y
    places y o = at_else m n y (after m x.page) (apart y o)

    turn : Turns s (sheet_of p.pool.states (set vs id (with_me v a))) (Left v.me.pool.own a.pool.own) 0
    turn = turned_in k p.pool vs id v a r.pool at parted r.tree.tree.numbered less

    here : m x.page ≡ place_of x
    here = ((known_here k p h vs id v r at).known.fits j x (at_visit v.me.tree.reached j may.load.visit.reached)).place l

    words : HasOne (p.pages n) (header_of (next_place x)) word
    words = has_one p.pages vs id n (header_of (next_place x)) word v r.own at may.new past

    -- the page is full
    full : (i : ℕ) → i < page_room (m x.page).leaf → p.pages x.page (slot_at (m x.page).leaf i) ≢ 0
    full i less e =
        let fits = (known_here k p h vs id v r at).known.fits j x (at_visit v.me.tree.reached j may.load.visit.reached) in
        let kind : (m x.page).leaf ≡ x.leaf = ap (λ (P : Place). P.leaf) here in
        let size = may.load.full in
        let less_here : i < page_room x.leaf = subst (λ (b : Bool). i < page_room b) kind less in
        let f = has_at x.slots i (omega arith) in
        let g = fits.known i f.0 f.1 in
        g.0 (sym g.1 ∙ subst (λ (b : Bool). p.pages x.page (slot_at b i) ≡ 0) kind e)

    condition : (x.leaf ≡ true → chained ≤ length x.path) → (x.leaf ≡ false → (o i : ℕ) → HasSlot p.pages s m false word o i → (m o).path ≡ x.path → ⊥) → MayChain p.pages s m x.page n word
    condition deep absent = record {
      linked = l;
      full = full;
      empty = zero_word;
      deep = λ leaf. subst (λ (P : Place). chained ≤ length P.path) (sym here) (deep (ap (λ (P : Place). P.leaf) (sym here) ∙ leaf));
      numbered = (some_n, λ e. apart 1 r.tree.tree.root (sym e));
      header = words.header_is ∙ (λ i. header_of record { path = (sym here i).path; rank = (sym here i).rank + 1; leaf = (sym here i).leaf; from = x.page; way = More });
      first = words.first;
      rest = words.rest;
      some_n = some_word;
      code = λ inner o i g path. absent (ap (λ (P : Place). P.leaf) (sym here) ∙ inner) o i g (path ∙ ap (λ (P : Place). P.path) here);
    }

    -- the whole tree part
    next_tree : a.tree.begun ≡ v.me.tree.begun → a.tree.reached ≡ v.me.tree.reached → a.tree.front ≡ v.me.tree.front → a.tree.lasting ≡ v.me.tree.lasting → ((y : ℕ) → IsPlaced vs y → IsPlaced (set vs id (with_me v a)) y)
        → Tree u (sheet_of p.pool.states (set vs id (with_me v a))) new codes (IsPlaced (set vs id (with_me v a)))
        → ((x.leaf ≡ false) → (y : ℕ) × IsBegun vs y × IsBelow (x.path ++ word ∷ []) (codes y))
        → TreeRule k p.pool.states u codes (IsOldRow k p.regions p.log.slots) (set vs id (with_me v a))
    next_tree begun reached front lasting placed tree claimed = link_tree k p.pool p.pages u codes (IsOldRow k p.regions p.log.slots) vs id v a x.page 1 n new r.tree r.pool at record {
      parted = parted;
      less = less;
      begun = begun;
      placed = placed;
      linked = l;
      zero_word = zero_word;
      put = put_is p.pages x.page 1 n;
      places = places;
      tree = tree;
      ranks = λ y left. subst (λ (t : ℕ). (new t).rank < k.chain) (sym (one y left)) (subst (λ (P : Place). P.rank < k.chain) (sym (at_here m n (after m x.page)))
          (subst (λ (P : Place). P.rank + 1 < k.chain) (sym here) may.rank));
      codes = λ t y b g. ⊎_elim
          (λ (o : IsLinked s y × (y ≢ 0)). inl record { linked = o.0; kind = (λ e. (sym (places y o.0) e).leaf) ∙ g.kind; room = g.room; some_n = g.some_n; there = sym ((put_is p.pages x.page 1 n).others y (2 + 2 * b) (inr (omega arith))) ∙ g.there })
          (λ (o : Left v.me.pool.own a.pool.own y).
          let is : y ≡ n = one y o in
          let at_new : new y ≡ after m x.page = ap new is ∙ at_here m n (after m x.page) in
          let kind : x.leaf ≡ false = ap (λ (P : Place). P.leaf) (sym here) ∙ ((λ e. (sym at_new e).leaf) ∙ g.kind) in
          let kept : (i : ℕ) → u n i ≡ p.pages n i = λ i. (put_is p.pages x.page 1 n).others n i (inl (λ e. apart x.page l (sym e))) in
          let stands : p.pages n (2 + 2 * b) ≡ t = sym (kept (2 + 2 * b)) ∙ (ap (λ (i : ℕ). u i (2 + 2 * b)) (sym is) ∙ g.there) in
          let only : b ≡ 0 = dite (ℕ_discrete b 0) (λ e. e) (λ e. absurd (g.some_n (sym stands ∙ words.rest (2 + 2 * b) (omega arith) (λ f. e (omega arith))))) in
          let code : word ≡ t = sym words.first ∙ ((λ i. p.pages n (2 + 2 * sym only i)) ∙ stands) in
          let c = claimed kind in
          inr (c.0, c.1, subst (λ (e : List ℕ × ℕ). IsBelow (e.0 ++ e.1 ∷ []) (codes c.0)) (λ f. ((sym (ap (λ (P : Place). P.path) at_new ∙ ap (λ (P : Place). P.path) here)) f, code f)) c.2))
          (turn.either y g.linked);
      learns = λ o. subst (λ (e : ℕ × List Reached × List Reached). Knows u (sheet_of p.pool.states (set vs id (with_me v a))) new codes (IsPlaced (set vs id (with_me v a))) (IsOldRow k p.regions p.log.slots) record { front = e.0; reached = e.1; lasting = e.2; begun = a.tree.begun; placed = a.tree.placed })
          (λ i. (sym front i, sym reached i, sym lasting i)) record { known = o.known; kept = o.kept; pairs = o.pairs; olds = o.olds; lasts = o.lasts };
    }

    -- with the other parts
    next_rule : LeavesLog v.me a → ((y : Row) → In y v.me.tree.placed → In y a.tree.placed) → a.tree.front ≡ v.me.tree.front → held_in a.tree.reached ≡ held_in v.me.tree.reached → a.tree.begun ≡ v.me.tree.begun → a ≡ after_links v.me (let_go n v.me.pool.own) v.me.pool.parted 1 a.tree → RowRule k (set vs id (with_me v a))
        → TreeRule k p.pool.states u codes (IsOldRow k p.regions p.log.slots) (set vs id (with_me v a)) → Rule k (record p { pages = u }) h (set vs id (with_me v a))
    next_rule rest more front held same is rows tree = by_tree k p u h vs id v a r at rest more front
        (subst (λ (b : Account). PoolRule k p.pool (set vs id (with_me v b))) (sym is)
        (pool_links k p.pool vs id v (let_go n v.me.pool.own) v.me.pool.parted 1 a.tree r.pool at (none_parted s v.me (let_go n v.me.pool.own) (go_less n v.me.pool.own)) (one_few k p.pool vs id n v a.tree r.pool at may.few same) held))
        (own_linked p.pool.states p.pages u vs id x.page 1 n v a r.own at l (put_is p.pages x.page 1 n) (less x.page)
        (subst (λ (o : List Own). Each (OwnFits p.pages) o) (sym own) (each_without (OwnFits p.pages) (λ o. o.page) n v.me.pool.own (mine (λ y. Each (OwnFits p.pages) y.pool.own) vs id v at r.own))))
        rows
        (keeps_linked p.pages u s (sheet_of p.pool.states (set vs id (with_me v a))) x.page 1 n (λ y o. turn.stays y o (r.tree.tree.numbered y o)) zero_word (put_is p.pages x.page 1 n))
        tree

pub link_more_leaf : (k : Shape) (p : Parts) (h : List Event) (vs : List View) (id j n : ℕ) (q : Row) (v : View) → Rule k p h vs → get_elem? vs id ≡ some v → MayLinkMoreLeaf k v.me j n q
    → p.pages (visited v.me.tree.reached j).page 1 ≡ 0 → ((t : ℕ) → 16 ≤ t → p.pages n t ≡ 0) → n ≢ 0
    → Rule k (record p { pages = stored_page p.pages (visited v.me.tree.reached j).page 1 n }) h (set vs id (with_me v (after_linked v.me n (q ∷ []))))
link_more_leaf k p h vs id j n q v r at may zero_word past some_n =
    let a : Account = after_linked v.me n (q ∷ []) in
    let x : Reached = visited v.me.tree.reached j in
    let s : Sheet = sheet_of p.pool.states vs in
    let z : Sheet = sheet_of p.pool.states (set vs id (with_me v a)) in
    let m : ℕ → Place = r.tree.place in
    let u : ℕ → ℕ → ℕ = stored_page p.pages x.page 1 n in
    let fits = (known_here k p h vs id v r at).known.fits j x (at_visit v.me.tree.reached j may.may.load.visit.reached) in
    let deep = may.deep in
    let l : IsLinked s x.page = ⊎_elim (λ (o : IsLinked s x.page). o) (λ (o : IsFullLeaf (p.pages x.page) x). let low = o.low in absurd (omega arith)) (fits.old may.leaf) in
    let place = fits.place l in
    let some_word : entry_word q ≢ 0 = some_entry k v.me q (own_row k p h vs id v r at q may.row.begun) in
    let rows = one_more vs id v a q at refl in
    let is_leaf : (m x.page).leaf ≡ true = ap (λ (P : Place). P.leaf) place ∙ may.leaf in
    let tree : Tree u z (new k p h vs id j n (entry_word q) v r at may.may zero_word past some_n some_word) (codes_in k p.regions) (IsPlaced (set vs id (with_me v a))) =
    chains p.pages u s z m (new k p h vs id j n (entry_word q) v r at may.may zero_word past some_n some_word) (codes_in k p.regions) (IsPlaced vs) (IsPlaced (set vs id (with_me v a))) (Left v.me.pool.own a.pool.own) x.page n (entry_word q) r.tree.tree
    (condition k p h vs id j n (entry_word q) v r at may.may zero_word past some_n some_word a refl refl l (λ _. deep) (λ inner. absurd (let clash : true ≡ false = sym may.leaf ∙ inner in cc)))
    (put_is p.pages x.page 1 n)
    (turn k p h vs id j n (entry_word q) v r at may.may zero_word past some_n some_word a refl refl l)
    (one k p h vs id j n (entry_word q) v r at may.may zero_word past some_n some_word a refl refl l)
    (left_new k p h vs id j n (entry_word q) v r at may.may zero_word past some_n some_word a refl refl l)
    (places k p h vs id j n (entry_word q) v r at may.may zero_word past some_n some_word a refl refl l)
    (at_here m n (after m x.page))
    rows.old
    (λ _. (
      record {
        other = row_free k p h vs id v r at q may.row.begun may.row.fresh;
        below = subst (λ (P : Place). IsBelow P.path (codes_in k p.regions (entry_word q))) (sym place) (row_below k p h vs id v r at q x.path may.row.begun may.row.below);
      },
      rows.new,
    ))
    (λ y g. ⊎_elim (λ (o : IsPlaced vs y). inl o) (λ (o : y ≡ entry_word q). inr (is_leaf, o)) (rows.all y g)) in
    next_rule k p h vs id j n (entry_word q) v r at may.may zero_word past some_n some_word a refl refl l
    record { who = refl; log = refl; room = refl; entries = refl; shown = refl; heads = refl; facts = refl; codes = refl; marks = refl } (λ y e. in_left v.me.tree.placed (q ∷ []) y e) refl refl refl refl
    (rows_placed k vs id v a (q ∷ []) r.rows at refl refl refl refl (each_cons (λ y. In y v.me.tree.begun) q [] may.row.begun (each_none (λ y. In y v.me.tree.begun))))
    (next_tree k p h vs id j n (entry_word q) v r at may.may zero_word past some_n some_word a refl refl l refl refl refl refl rows.old tree (λ inner. absurd (let clash : true ≡ false = sym may.leaf ∙ inner in cc)))

pub link_inner : (k : Shape) (p : Parts) (h : List Event) (vs : List View) (id j n c : ℕ) (v : View) → Rule k p h vs → get_elem? vs id ≡ some v → MayLinkInner k v.me j n c
    → p.pages (visited v.me.tree.reached j).page 1 ≡ 0 → ((t : ℕ) → 16 ≤ t → p.pages n t ≡ 0) → n ≢ 0
    → Rule k (record p { pages = stored_page p.pages (visited v.me.tree.reached j).page 1 n }) h (set vs id (with_me v (after_inner v.me n)))
link_inner k p h vs id j n c v r at may zero_word past some_n =
    let a : Account = after_inner v.me n in
    let x : Reached = visited v.me.tree.reached j in
    let s : Sheet = sheet_of p.pool.states vs in
    let z : Sheet = sheet_of p.pool.states (set vs id (with_me v a)) in
    let m : ℕ → Place = r.tree.place in
    let u : ℕ → ℕ → ℕ = stored_page p.pages x.page 1 n in
    let fits = (known_here k p h vs id v r at).known.fits j x (at_visit v.me.tree.reached j may.may.load.visit.reached) in
    let l : IsLinked s x.page = fits.inner may.inner in
    let place = fits.place l in
    let some_word : c ≢ 0 = may.claim.some_c in
    let size = may.may.load.full in
    let row = may.claim.row in
    let placed : (y : ℕ) → IsPlaced vs y → IsPlaced (set vs id (with_me v a)) y = rows_stay vs id v a at (λ y. y.tree.placed) refl in
    let absent = chain_absent k p h vs id j c v r at may.may.load.visit.reached may.inner may.claim.absent (λ t past less. absurd (omega arith)) zero_word in
    let tree : Tree u z (new k p h vs id j n c v r at may.may zero_word past some_n some_word) (codes_in k p.regions) (IsPlaced (set vs id (with_me v a))) =
    chains p.pages u s z m (new k p h vs id j n c v r at may.may zero_word past some_n some_word) (codes_in k p.regions) (IsPlaced vs) (IsPlaced (set vs id (with_me v a))) (Left v.me.pool.own a.pool.own) x.page n c r.tree.tree
    (condition k p h vs id j n c v r at may.may zero_word past some_n some_word a refl refl l (λ leaf. absurd (let clash : true ≡ false = sym leaf ∙ may.inner in cc)) (λ _. absent))
    (put_is p.pages x.page 1 n)
    (turn k p h vs id j n c v r at may.may zero_word past some_n some_word a refl refl l)
    (one k p h vs id j n c v r at may.may zero_word past some_n some_word a refl refl l)
    (left_new k p h vs id j n c v r at may.may zero_word past some_n some_word a refl refl l)
    (places k p h vs id j n c v r at may.may zero_word past some_n some_word a refl refl l)
    (at_here m n (after m x.page))
    placed
    (λ leaf. absurd (let clash : true ≡ false = sym leaf ∙ (ap (λ (P : Place). P.leaf) place ∙ may.inner) in cc))
    (λ y g. inl (⊎_elim (λ (o : IsPlaced vs y). o) (λ (o : HasRow y v.me.tree.placed). (id, v, at, 0, v.me, refl, o)) (placed_split vs id v a at y g))) in
    next_rule k p h vs id j n c v r at may.may zero_word past some_n some_word a refl refl l
    record { who = refl; log = refl; room = refl; entries = refl; shown = refl; heads = refl; facts = refl; codes = refl; marks = refl } (λ y e. e) refl refl refl refl
    (rows_same k vs id v a r.rows at refl refl refl refl refl)
    (next_tree k p h vs id j n c v r at may.may zero_word past some_n some_word a refl refl l refl refl refl refl placed tree
    (λ _. (entry_word row, (id, v, at, 0, v.me, refl, (row, may.claim.begun, refl)), row_below k p h vs id v r at row (x.path ++ c ∷ []) may.claim.begun may.claim.below)))

pub more_leaf_allowed : (k : Shape) (slots id j n at_word : ℕ) (q : Row) (m : Mine) → at_word ≡ page_word k (visited m.0.me.tree.reached j).page 1 → m.0.shape ≡ k → MayLinkMoreLeaf k m.0.me j n q
    → Allows (Holds k) slots id m at_word (λ f. either (f == 0) n f) (Claims (after_linked m.0.me n (q ∷ [])) (LoadsMore j) (step slots at_word 0 n none) m)
more_leaf_allowed k slots id j n at_word q m is shape may =
    claim_allowed k slots id (visited m.0.me.tree.reached j).page 1 n at_word m (after_linked m.0.me n (q ∷ [])) (LoadsMore j) is may.may.load.visit.inside (omega arith)
    (λ s h at word. link_more_leaf k (parts_of k s.words) (history_of k (parts_of k s.words)) s.views id j n q m.0 h.rule at may word (page_past k s.words n)
    (let page = busy_page k s.words n (own_busy k (parts_of k s.words).pool s.views id n m.0 h.rule.pool at may.may.new.own) in let above = page.0 in λ z. omega arith))
    (more_allowed k slots id j at_word n m is shape may.may.load)

-- the page that was linked is loaded as the next one in the same step
pub link_inner_loaded : (k : Shape) (p : Parts) (h : List Event) (vs : List View) (id j n c : ℕ) (v : View) → Rule k p h vs → get_elem? vs id ≡ some v → MayLinkInner k v.me j n c
    → p.pages (visited v.me.tree.reached j).page 1 ≡ 0 → ((t : ℕ) → 16 ≤ t → p.pages n t ≡ 0) → n ≢ 0
    → Rule k (record p { pages = stored_page p.pages (visited v.me.tree.reached j).page 1 n }) h (set vs id (with_me v (after_more (after_inner v.me n) j n)))
link_inner_loaded k p h vs id j n c v r at may zero_word past some_n =
    let b : Account = after_inner v.me n in
    let x : Reached = visited v.me.tree.reached j in
    let l = may.may.load in
    subst (λ (l : List View). Rule k (record p { pages = stored_page p.pages x.page 1 n }) h l) (set_twice vs id (with_me v b) (with_me v (after_more b j n)))
    (load_more k (record p { pages = stored_page p.pages x.page 1 n }) h (set vs id (with_me v b)) id (with_me v b)
    (link_inner k p h vs id j n c v r at may zero_word past some_n) (set_here vs id (with_me v b) (inside vs id v at)) j n
    record { visit = record { reached = l.visit.reached; inside = l.visit.inside }; pinned = l.pinned; full = l.full; not_zero = l.not_zero }
    (put_is p.pages x.page 1 n).here)

-- and so is its code
pub link_inner_read : (k : Shape) (p : Parts) (h : List Event) (vs : List View) (id j n c : ℕ) (v : View) → Rule k p h vs → get_elem? vs id ≡ some v → MayLinkInner k v.me j n c
    → p.pages (visited v.me.tree.reached j).page 1 ≡ 0 → ((t : ℕ) → 16 ≤ t → p.pages n t ≡ 0) → IsPage k n
    → Rule k (record p { pages = stored_page p.pages (visited v.me.tree.reached j).page 1 n }) h (set vs id (with_me v (after_next v.me j n c)))
link_inner_read k p h vs id j zero c v r at may zero_word past in_table = let above = in_table.0 in absurd (omega arith)
link_inner_read k p h vs id j (suc i) c v r at may zero_word past in_table =
    let n : ℕ = suc i in
    let b : Account = after_more (after_inner v.me n) j n in
    let x : Reached = visited v.me.tree.reached j in
    let rs : List Reached = set v.me.tree.reached j (with_more (To n) x) in
    let u : ℕ → ℕ → ℕ = stored_page p.pages x.page 1 n in
    let last : ℕ = length v.me.tree.reached in
    let size : length rs ≡ last = length-set v.me.tree.reached j (with_more (To n) x) in
    let longer : length (rs ++ next_of x n ∷ []) ≡ length rs + 1 = length-append rs (next_of x n ∷ []) in
    let new : visited b.tree.reached last ≡ next_of x n = get_or_push rs (next_of x n) root last (omega arith) in
    let words = has_one p.pages vs id n (header_of (next_place x)) c v r.own at may.may.new past in
    let linked : IsLinked (sheet_of p.pool.states vs) x.page = ((known_here k p h vs id v r at).known.fits j x (at_visit v.me.tree.reached j may.may.load.visit.reached)).inner may.inner in
    let other : n ≢ x.page = λ e. own_apart k p.pool vs id n v r.pool at may.may.new.own (subst (λ (y : ℕ). IsLinked (sheet_of p.pool.states vs) y) (sym e) linked) in
    subst (λ (l : List View). Rule k (record p { pages = u }) h l) (set_twice vs id (with_me v b) (with_me v (after_next v.me j n c)))
    (load_slot k (record p { pages = u }) h (set vs id (with_me v b)) id (with_me v b)
    (link_inner_loaded k p h vs id j n c v r at may zero_word past (λ e. omega arith)) (set_here vs id (with_me v b) (inside vs id v at)) last c
    record {
      visit = record { reached = omega arith; inside = subst (λ (y : Reached). IsPage k y.page) (sym new) in_table };
      unread = ap (λ (y : Reached). y.more) new;
      room = subst (λ (y : Reached). length y.slots < page_room y.leaf) (sym new) (subst (λ (leaf : Bool). 0 < page_room leaf) (sym may.inner) (omega arith));
    }
    (subst (λ (y : Reached). u y.page (slot_at y.leaf (length y.slots)) ≡ c) (sym new) (subst (λ (leaf : Bool). u n (slot_at leaf 0) ≡ c) (sym may.inner) ((put_is p.pages x.page 1 n).others n 2 (inl other) ∙ words.first))))

pub inner_allowed : (k : Shape) (slots id j n c at_word : ℕ) (m : Mine) → at_word ≡ page_word k (visited m.0.me.tree.reached j).page 1 → m.0.shape ≡ k → MayLinkInner k m.0.me j n c
    → Allows (Holds k) slots id m at_word (λ f. either (f == 0) n f) (Claims (after_next m.0.me j n c) (LoadsMore j) (step slots at_word 0 n none) m)
inner_allowed k slots id j n c at_word m is shape may =
    claim_allowed k slots id (visited m.0.me.tree.reached j).page 1 n at_word m (after_next m.0.me j n c) (LoadsMore j) is may.may.load.visit.inside (omega arith)
    (λ s h at word. link_inner_read k (parts_of k s.words) (history_of k (parts_of k s.words)) s.views id j n c m.0 h.rule at may word (page_past k s.words n)
    (busy_page k s.words n (own_busy k (parts_of k s.words).pool s.views id n m.0 h.rule.pool at may.may.new.own)))
    (more_allowed k slots id j at_word n m is shape may.may.load)
