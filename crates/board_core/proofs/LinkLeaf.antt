-- A link that was 0 is exchanged for a leaf that has a row.
use Rattle.std.proofs.Common.{◌≡◌, ◌≢◌, ℕ, ◌+◌, ◌*◌, ◌<◌, ◌≤◌, ◌==◌, Bool, true, false, List, [], ◌∷◌, ◌++◌, length, set, sym, refl, ap, ◌∙◌, subst, arith, inl, inr, ⊎_elim}
use mathlib.Core.Option.{some, none}
use prog.Atomic.{either}
use lib.ListN.{get_elem?}
use Rattle.atomic_table.specs.Table.{step, Allows}
use Rattle.htss_defs.specs.declared.shape.Shape.{Shape}
use Rattle.htss_defs.specs.declared.history.Event.{Event}
use Rattle.board_core.specs.declared.account.Account.{Account}
use Rattle.board_core.specs.declared.account.View.{View}
use Rattle.board_core.specs.declared.room.Row.{Row}
use Rattle.board_core.specs.declared.tree.Reached.{Reached}
use Rattle.board_core.specs.declared.tree.Way.TheVariants.{Branch}
use Rattle.board_core.specs.Each.{Each, In}
use Rattle.board_core.specs.Words.{Parts, parts_of, stored_page}
use Rattle.board_core.specs.Histories.{history_of}
use Rattle.board_core.specs.Accounts.{with_me}
use Rattle.board_core.specs.Sheets.{Sheet, sheet_of, IsLinked}
use Rattle.board_core.specs.Rows.{entry_word, codes_in, IsPlaced}
use Rattle.board_core.specs.Hang.{hung}
use Rattle.board_core.specs.ClassTree.{Place, header_of, slot_at, page_room, IsBelow, Tree}
use Rattle.board_core.specs.KnownPages.{place_of}
use Rattle.board_core.specs.OldRows.{IsOldRow}
use Rattle.board_core.specs.Loaded.{page_word}
use Rattle.board_core.specs.Holds.{Rule, Holds}
use Rattle.board_core.specs.After.{visited, let_go, after_linked}
use Rattle.board_core.specs.Steps.{Mine, MayLinkLeaf, Claims, LoadsLink}
use Rattle.board_core.proofs.Lists.{each_none, each_cons, inside}
use Rattle.board_core.proofs.Everyone.{mine}
use Rattle.board_core.proofs.PoolTree.{pool_links, none_parted}
use Rattle.board_core.proofs.OwnFrame.{each_without}
use Rattle.board_core.specs.OwnRule.{OwnFits}
use Rattle.board_core.proofs.Hung.{hangs}
use Rattle.board_core.proofs.PageLoads.{at_visit}
use Rattle.board_core.proofs.LoadPage.{known_here, link_allowed}
use Rattle.board_core.proofs.Linked.{keeps_linked, put_is, with_at, at_here, at_else, turned_in, one_more, link_tree, Left}
use Rattle.board_core.proofs.Claimed.{has_one, go_less, go_one, go_new, own_apart, own_busy, own_linked, rows_placed, own_row, row_below, row_free, some_entry, one_few}
use Rattle.board_core.proofs.Treed.{by_tree, claim_allowed, page_past, busy_page}
use Rattle.board_core.proofs.PageLoads.{in_left}

pub link_leaf : (k : Shape) (p : Parts) (h : List Event) (vs : List View) (id j i c n : ℕ) (q : Row) (v : View) → Rule k p h vs → get_elem? vs id ≡ some v → MayLinkLeaf k v.me j i c n q
    → p.pages (visited v.me.tree.reached j).page (3 + 2 * i) ≡ 0 → ((t : ℕ) → 16 ≤ t → p.pages n t ≡ 0) → n ≢ 0
    → Rule k (record p { pages = stored_page p.pages (visited v.me.tree.reached j).page (3 + 2 * i) n }) h (set vs id (with_me v (after_linked v.me n (q ∷ []))))
link_leaf k p h vs id j i c n q v r at may word past some_n =
    let a : Account = after_linked v.me n (q ∷ []) in
    let x : Reached = visited v.me.tree.reached j in
    let w : ℕ → ℕ → ℕ = p.pages in
    let u : ℕ → ℕ → ℕ = stored_page p.pages x.page (3 + 2 * i) n in
    let s : Sheet = sheet_of p.pool.states vs in
    let z : Sheet = sheet_of p.pool.states (set vs id (with_me v a)) in
    let m : ℕ → Place = r.tree.place in
    let codes : ℕ → List ℕ = codes_in k p.regions in
    let fits = (known_here k p h vs id v r at).known.fits j x (at_visit v.me.tree.reached j may.load.visit.reached) in
    let l : IsLinked s x.page = fits.inner may.load.inner in
    let here : m x.page ≡ place_of x = fits.place l in
    let known_code = subst (λ (b : Bool). (c ≢ 0) × (w x.page (slot_at b i) ≡ c)) may.load.inner (fits.known i c may.load.code) in
    let room : i < 7 = (let less = inside x.slots i c may.load.code in let most : length x.slots ≤ 7 = subst (λ (b : Bool). length x.slots ≤ page_room b) may.load.inner fits.room in omega arith) in
    let one = has_one w vs id n _ (entry_word q) v r.own at may.new past in
    let place : Place = hung w m x.page i in
    let same_path : place.path ≡ x.path ++ c ∷ [] = (λ t. (here t).path ++ known_code.1 t ∷ []) in
    let apart : (y : ℕ) → IsLinked s y → y ≢ n = λ y o e. own_apart k p.pool vs id n v r.pool at may.new.own (subst (λ (y : ℕ). IsLinked s y) e o) in
    let new : ℕ → Place = with_at m n place in
    let places : (y : ℕ) → IsLinked s y → new y ≡ m y = λ y o. at_else m n y place (apart y o) in
    let placed_at : new n ≡ place = at_here m n place in
    let rows = one_more vs id v a q at refl in
    let turn = turned_in k p.pool vs id v a r.pool at refl r.tree.tree.numbered (go_less n v.me.pool.own) in
    let put = put_is w x.page (3 + 2 * i) n in
    let tree : Tree u z new codes (IsPlaced (set vs id (with_me v a))) = hangs w u s z m new codes (IsPlaced vs) (IsPlaced (set vs id (with_me v a))) (Left v.me.pool.own a.pool.own) x.page i n (entry_word q) r.tree.tree
    record {
      inner = l;
      kind = ap (λ (P : Place). P.leaf) here ∙ may.load.inner;
      room = room;
      code = λ e. known_code.0 (sym known_code.1 ∙ e);
      empty = word;
      numbered = (some_n, λ e. apart 1 r.tree.tree.root (sym e));
      fresh = record { header = one.header_is ∙ ap (λ (o : List ℕ). header_of record { path = o; rank = 0; leaf = true; from = x.page; way = Branch i }) (sym same_path); entry = one.first; rest = one.rest };
      row = some_entry k v.me q (own_row k p h vs id v r at q may.row.begun);
      other = row_free k p h vs id v r at q may.row.begun may.row.fresh;
      below = subst (λ (o : List ℕ). IsBelow o (codes (entry_word q))) (sym same_path) (row_below k p h vs id v r at q (x.path ++ c ∷ []) may.row.begun may.row.below);
    } put turn (go_one n v.me.pool.own) (go_new n v.me.pool.own may.new.own) places placed_at rows in
    by_tree k p u h vs id v a r at
    record { who = refl; log = refl; room = refl; entries = refl; shown = refl; heads = refl; facts = refl; codes = refl; marks = refl } (λ y e. in_left v.me.tree.placed (q ∷ []) y e) refl
    (pool_links k p.pool vs id v (let_go n v.me.pool.own) v.me.pool.parted 1 a.tree r.pool at (none_parted s v.me (let_go n v.me.pool.own) (go_less n v.me.pool.own)) (one_few k p.pool vs id n v a.tree r.pool at may.few refl) refl)
    (own_linked p.pool.states w u vs id x.page (3 + 2 * i) n v a r.own at l put (go_less n v.me.pool.own x.page) (each_without (OwnFits w) (λ o. o.page) n v.me.pool.own (mine (λ y. Each (OwnFits w) y.pool.own) vs id v at r.own)))
    (rows_placed k vs id v a (q ∷ []) r.rows at refl refl refl refl (each_cons (λ y. In y v.me.tree.begun) q [] may.row.begun (each_none (λ y. In y v.me.tree.begun))))
    (keeps_linked w u s z x.page (3 + 2 * i) n (λ y o. turn.stays y o (r.tree.tree.numbered y o)) word put)
    (link_tree k p.pool w u codes (IsOldRow k p.regions p.log.slots) vs id v a x.page (3 + 2 * i) n new r.tree r.pool at record {
      parted = refl;
      less = go_less n v.me.pool.own;
      begun = refl;
      placed = rows.old;
      linked = l;
      zero_word = word;
      put = put;
      places = places;
      tree = tree;
      ranks = λ y left. subst (λ (t : ℕ). (new t).rank < k.chain) (sym (go_one n v.me.pool.own y left)) (subst (λ (P : Place). P.rank < k.chain) (sym placed_at) (let some_chain = r.tree.ranks 1 r.tree.tree.root in omega arith));
      codes = λ t y b g. ⊎_elim
          (λ (o : IsLinked s y × (y ≢ 0)). inl record { linked = o.0; kind = (λ e. (sym (places y o.0) e).leaf) ∙ g.kind; room = g.room; some_n = g.some_n; there = sym (put.others y (2 + 2 * b) (inr (omega arith))) ∙ g.there })
          (λ (o : Left v.me.pool.own a.pool.own y). absurd (let clash : true ≡ false = (λ e. (sym placed_at e).leaf) ∙ ((λ e. (new (sym (go_one n v.me.pool.own y o) e)).leaf) ∙ g.kind) in cc))
          (turn.either y g.linked);
      learns = λ o. record { known = o.known; kept = o.kept; pairs = o.pairs; olds = o.olds; lasts = o.lasts };
    })

pub leaf_allowed : (k : Shape) (slots id j i c n at_word : ℕ) (q : Row) (m : Mine) → at_word ≡ page_word k (visited m.0.me.tree.reached j).page (3 + 2 * i) → i < 7 → m.0.shape ≡ k → MayLinkLeaf k m.0.me j i c n q
    → Allows (Holds k) slots id m at_word (λ f. either (f == 0) n f) (Claims (after_linked m.0.me n (q ∷ [])) (LoadsLink j i c) (step slots at_word 0 n none) m)
leaf_allowed k slots id j i c n at_word q m is small shape may =
    claim_allowed k slots id (visited m.0.me.tree.reached j).page (3 + 2 * i) n at_word m (after_linked m.0.me n (q ∷ [])) (LoadsLink j i c) is may.load.visit.inside (omega arith)
    (λ s h at word. link_leaf k (parts_of k s.words) (history_of k (parts_of k s.words)) s.views id j i c n q m.0 h.rule at may word (page_past k s.words n)
    (let page = busy_page k s.words n (own_busy k (parts_of k s.words).pool s.views id n m.0 h.rule.pool at may.new.own) in let above = page.0 in λ z. omega arith))
    (link_allowed k slots id j i c at_word n m is small shape may.load)
