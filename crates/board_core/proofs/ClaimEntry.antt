-- An entry that was 0 is exchanged for a row.
use Rattle.std.proofs.Common.{◌≡◌, ◌≢◌, ℕ, ◌+◌, ◌*◌, ◌<◌, ◌==◌, Bool, true, false, List, [], ◌∷◌, length, set, sym, refl, ap, ◌∙◌, subst, arith, inl, ⊎_elim, ◌≤◌}
use mathlib.Core.Option.{some, none}
use prog.Atomic.{either}
use lib.ListN.{get_elem?}
use Rattle.atomic_table.specs.Table.{step, Allows}
use Rattle.htss_defs.specs.declared.shape.Shape.{Shape}
use Rattle.htss_defs.specs.declared.history.Event.{Event}
use Rattle.board_core.specs.declared.account.Account.{Account}
use Rattle.board_core.specs.declared.account.View.{View}
use Rattle.board_core.specs.declared.room.Row.{Row}
use Rattle.board_core.specs.declared.tree.Reached.{Reached}
use Rattle.board_core.specs.Each.{Each, In}
use Rattle.board_core.specs.Words.{Parts, parts_of, stored_page}
use Rattle.board_core.specs.Histories.{history_of}
use Rattle.board_core.specs.Accounts.{with_me}
use Rattle.board_core.specs.Sheets.{Sheet, sheet_of, IsLinked}
use Rattle.board_core.specs.Rows.{entry_word, codes_in, IsPlaced}
use Rattle.board_core.specs.ClassTree.{Place, slot_at, page_room, IsBelow, Tree}
use Rattle.board_core.specs.KnownPages.{place_of}
use Rattle.board_core.specs.OldRows.{IsOldRow}
use Rattle.board_core.specs.Loaded.{page_word}
use Rattle.board_core.specs.Holds.{Rule, Holds}
use Rattle.board_core.specs.After.{visited}
use Rattle.board_core.specs.Steps.{Mine, Claims, LoadsSlot}
use Rattle.board_core.proofs.Lists.{each_none, each_cons}
use Rattle.board_core.proofs.Everyone.{mine}
use Rattle.board_core.specs.OwnRule.{OwnFits}
use Rattle.board_core.proofs.PageLoads.{at_visit}
use Rattle.board_core.proofs.LoadPage.{known_here, slot_allowed}
use Rattle.board_core.proofs.Linked.{keeps_linked, put_is, one_more, link_tree}
use Rattle.board_core.proofs.Claimed.{own_linked, rows_placed, own_row, row_below, row_free, some_entry}
use Rattle.board_core.proofs.Treed.{by_tree, claim_allowed}
use Rattle.board_core.specs.KnownPages.{IsFullLeaf}
use Rattle.board_core.specs.After.{with_slot, after_entry}
use Rattle.board_core.specs.Steps.{MayClaimEntry}
use Rattle.board_core.proofs.PoolFrame.{sheet_same}
use Rattle.board_core.proofs.PoolTree.{pool_reaches}
use Rattle.board_core.proofs.Seen.{has_at}
use Rattle.board_core.proofs.Filled.{fills}
use Rattle.board_core.proofs.PageLoads.{law_slot}
use Rattle.board_core.proofs.LoadPage.{same_held, slot_page, slot_leaf}
use Rattle.board_core.proofs.Claimed.{none_left}
use Rattle.board_core.proofs.PageLoads.{in_left}

pub claim_entry : (k : Shape) (p : Parts) (h : List Event) (vs : List View) (id j : ℕ) (q : Row) (v : View) → Rule k p h vs → get_elem? vs id ≡ some v → MayClaimEntry k v.me j q
    → p.pages (visited v.me.tree.reached j).page (2 + length (visited v.me.tree.reached j).slots) ≡ 0
    → Rule k (record p { pages = stored_page p.pages (visited v.me.tree.reached j).page (2 + length (visited v.me.tree.reached j).slots) (entry_word q) }) h (set vs id (with_me v (after_entry v.me j q)))
claim_entry k p h vs id j q v r at may word =
    let a : Account = after_entry v.me j q in
    let x : Reached = visited v.me.tree.reached j in
    let i : ℕ = length x.slots in
    let n : ℕ = entry_word q in
    let w : ℕ → ℕ → ℕ = p.pages in
    let u : ℕ → ℕ → ℕ = stored_page p.pages x.page (2 + i) n in
    let ws : List View = set vs id (with_me v a) in
    let s : Sheet = sheet_of p.pool.states vs in
    let z : Sheet = sheet_of p.pool.states ws in
    let m : ℕ → Place = r.tree.place in
    let codes : ℕ → List ℕ = codes_in k p.regions in
    let within = may.visit.reached in
    let fits = (known_here k p h vs id v r at).known.fits j x (at_visit v.me.tree.reached j within) in
    let l : IsLinked s x.page = ⊎_elim (λ (o : IsLinked s x.page). o) (λ (o : IsFullLeaf (w x.page) x). absurd (o.full i may.room word)) (fits.old may.leaf) in
    let here : m x.page ≡ place_of x = fits.place l in
    let known = subst (λ (b : Bool). (t y : ℕ) → get_elem? x.slots t ≡ some y → (y ≢ 0) × (w x.page (slot_at b t) ≡ y)) may.leaf fits.known in
    let put = put_is w x.page (2 + i) n in
    let rows = one_more vs id v a q at refl in
    let sheet : z ≡ s = sheet_same p.pool.states vs id v a at (λ _. refl) refl in
    let some_n : n ≢ 0 = some_entry k v.me q (own_row k p h vs id v r at q may.row.begun) in
    let tree : Tree u z m codes (IsPlaced ws) = subst (λ (y : Sheet). Tree u y m codes (IsPlaced ws)) (sym sheet) (fills w u s m codes (IsPlaced vs) (IsPlaced ws) x.page i n r.tree.tree record {
      linked = l;
      leaf = ap (λ (P : Place). P.leaf) here ∙ may.leaf;
      room = may.room;
      empty = word;
      front = λ b less e. let f = has_at x.slots b less in let g = known b f.0 f.1 in g.0 (sym g.1 ∙ e);
      row = some_n;
      other = row_free k p h vs id v r at q may.row.begun may.row.fresh;
      below = subst (λ (P : Place). IsBelow P.path (codes n)) (sym here) (row_below k p h vs id v r at q x.path may.row.begun may.row.below);
    } put rows) in
    by_tree k p u h vs id v a r at
    record { who = refl; log = refl; room = refl; entries = refl; shown = refl; heads = refl; facts = refl; codes = refl; marks = refl } (λ y e. in_left v.me.tree.placed (q ∷ []) y e) refl
    (pool_reaches k p.pool vs id v a.tree r.pool at (λ t y e. inl (same_held k p h vs id v r at j (with_slot n x) within (slot_page n x) (slot_leaf n x) t y e)) (omega arith))
    (own_linked p.pool.states w u vs id x.page (2 + i) n v a r.own at l put (omega arith) (mine (λ y. Each (OwnFits w) y.pool.own) vs id v at r.own))
    (rows_placed k vs id v a (q ∷ []) r.rows at refl refl refl refl (each_cons (λ y. In y v.me.tree.begun) q [] may.row.begun (each_none (λ y. In y v.me.tree.begun))))
    (keeps_linked w u s z x.page (2 + i) n (λ y o. subst (λ (e : Sheet). IsLinked e y) (sym sheet) o) word put)
    (link_tree k p.pool w u codes (IsOldRow k p.regions p.log.slots) vs id v a x.page (2 + i) n m r.tree r.pool at record {
      parted = refl;
      less = λ y. omega arith;
      begun = refl;
      placed = rows.old;
      linked = l;
      zero_word = word;
      put = put;
      places = λ y o. refl;
      tree = tree;
      ranks = λ y left. absurd (none_left v.me.pool.own y left);
      codes = λ t y b g. let o : IsLinked s y = subst (λ (e : Sheet). IsLinked e y) sheet g.linked in
          inl record {
            linked = o;
            kind = g.kind;
            room = g.room;
            some_n = g.some_n;
            there = sym (put.others y (2 + 2 * b) (inl (λ e. let clash : false ≡ true = sym g.kind ∙ ((λ f. (m (e f)).leaf) ∙ ((λ f. (here f).leaf) ∙ may.leaf)) in absurd cc))) ∙ g.there;
          };
      learns = λ o. let told = law_slot u z m codes (IsPlaced ws) (IsOldRow k p.regions p.log.slots) tree v.me.tree o j within n
          (subst (λ (b : Bool). u x.page (slot_at b i) ≡ n) (sym may.leaf) put.here) may.unread (subst (λ (b : Bool). i < page_room b) (sym may.leaf) may.room) in
          record { known = told.known; kept = told.kept; pairs = told.pairs; olds = told.olds; lasts = told.lasts };
    })

pub entry_allowed : (k : Shape) (slots id j at_word : ℕ) (q : Row) (m : Mine) → at_word ≡ page_word k (visited m.0.me.tree.reached j).page (2 + length (visited m.0.me.tree.reached j).slots) → MayClaimEntry k m.0.me j q
    → Allows (Holds k) slots id m at_word (λ f. either (f == 0) (entry_word q) f) (Claims (after_entry m.0.me j q) (LoadsSlot j) (step slots at_word 0 (entry_word q) none) m)
entry_allowed k slots id j at_word q m is may =
    let x : Reached = visited m.0.me.tree.reached j in
    let room = may.room in
    claim_allowed k slots id x.page (2 + length x.slots) (entry_word q) at_word m (after_entry m.0.me j q) (LoadsSlot j) is may.visit.inside (omega arith)
    (λ s h at word. claim_entry k (parts_of k s.words) (history_of k (parts_of k s.words)) s.views id j q m.0 h.rule at may word)
    (slot_allowed k slots id j at_word (entry_word q) m (is ∙ ap (λ (b : Bool). page_word k x.page (slot_at b (length x.slots))) (sym may.leaf)) record { visit = may.visit; unread = may.unread; room = subst (λ (b : Bool). length x.slots < page_room b) (sym may.leaf) room })
