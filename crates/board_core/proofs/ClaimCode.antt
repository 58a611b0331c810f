-- A code word that was 0 is exchanged for a code that no page of the chain shows.
use Rattle.std.proofs.Common.{◌≡◌, ◌≢◌, ℕ, ◌+◌, ◌*◌, ◌<◌, ◌≤◌, ◌==◌, Bool, true, false, List, [], ◌∷◌, ◌++◌, length, set, sym, refl, ap, ◌∙◌, subst, arith, inl, inr, ⊎_elim}
use mathlib.Core.Option.{some, none}
use mathlib.Core.Logic.{dite}
use native.Mathlib.Decide.{ℕ_discrete}
use prog.Atomic.{either}
use lib.ListN.{get_elem?}
use Rattle.atomic_table.specs.Table.{step, Allows}
use Rattle.htss_defs.specs.declared.shape.Shape.{Shape}
use Rattle.htss_defs.specs.declared.history.Event.{Event}
use Rattle.board_core.specs.declared.account.Account.{Account}
use Rattle.board_core.specs.declared.account.View.{View}
use Rattle.board_core.specs.declared.tree.Reached.{Reached}
use Rattle.board_core.specs.Each.{Each, In}
use Rattle.board_core.specs.Words.{Parts, parts_of, stored_page}
use Rattle.board_core.specs.Histories.{history_of}
use Rattle.board_core.specs.Accounts.{with_me}
use Rattle.board_core.specs.Sheets.{Sheet, sheet_of, IsLinked}
use Rattle.board_core.specs.Rows.{entry_word, codes_in, IsPlaced}
use Rattle.board_core.specs.ClassTree.{Place, HasSlot, slot_at, page_room, IsBelow, Tree}
use Rattle.board_core.specs.KnownPages.{place_of}
use Rattle.board_core.specs.OldRows.{IsOldRow}
use Rattle.board_core.specs.Loaded.{page_word}
use Rattle.board_core.specs.Holds.{Rule, Holds}
use Rattle.board_core.specs.After.{visited}
use Rattle.board_core.specs.Steps.{Mine, Claims, LoadsSlot}
use Rattle.board_core.proofs.Everyone.{mine}
use Rattle.board_core.specs.OwnRule.{OwnFits}
use Rattle.board_core.proofs.PageLoads.{at_visit}
use Rattle.board_core.proofs.LoadPage.{known_here, slot_allowed}
use Rattle.board_core.proofs.Linked.{keeps_linked, put_is, link_tree}
use Rattle.board_core.proofs.Claimed.{own_linked, row_below}
use Rattle.board_core.proofs.Treed.{by_tree, claim_allowed}
use Rattle.board_core.specs.KnownPages.{IsMate, HasEarlier}
use Rattle.board_core.specs.ClassTree.{PageStands}
use Rattle.board_core.specs.CodeIn.{MayCode}
use Rattle.board_core.specs.Rows.{HasRow}
use Rattle.board_core.specs.After.{with_slot, after_slot}
use Rattle.board_core.specs.Steps.{MayClaimCode}
use Rattle.board_core.proofs.PoolFrame.{sheet_same}
use Rattle.board_core.proofs.PoolTree.{pool_reaches}
use Rattle.board_core.proofs.RowFrame.{rows_same}
use Rattle.board_core.proofs.Seen.{has_at, chain_read}
use Rattle.board_core.proofs.CodeClaimed.{codes_in as code_claimed, back}
use Rattle.board_core.proofs.PageLoads.{law_slot}
use Rattle.board_core.proofs.LoadPage.{same_held, slot_page, slot_leaf}
use Rattle.board_core.proofs.Claimed.{none_left}
use Rattle.board_core.proofs.TreeFrame.{rows_stay, placed_split, same_placed}

-- the code is in no page of the chain: all that stands in it was read
pub chain_absent : (k : Shape) (p : Parts) (h : List Event) (vs : List View) (id j c : ℕ) (v : View) → (r : Rule k p h vs) → get_elem? vs id ≡ some v → j < length v.me.tree.reached → (visited v.me.tree.reached j).leaf ≡ false
    → ((y : Reached) → IsMate v.me.tree.reached (visited v.me.tree.reached j).path false y → In c y.slots → ⊥)
    → ((i : ℕ) → length (visited v.me.tree.reached j).slots ≤ i → i < page_room (visited v.me.tree.reached j).leaf → p.pages (visited v.me.tree.reached j).page (slot_at (visited v.me.tree.reached j).leaf i) ≡ 0)
    → p.pages (visited v.me.tree.reached j).page 1 ≡ 0
    → (t b : ℕ) → HasSlot p.pages (sheet_of p.pool.states vs) r.tree.place false c t b → (r.tree.place t).path ≡ (visited v.me.tree.reached j).path → ⊥
chain_absent k p h vs id j c v r at within inner absent stop last t b g path =
    let x : Reached = visited v.me.tree.reached j in
    let s : Sheet = sheet_of p.pool.states vs in
    let there = at_visit v.me.tree.reached j within in
    let known = (known_here k p h vs id v r at).known in
    let read = chain_read p.pages s r.tree.place (codes_in k p.regions) (IsPlaced vs) r.tree.tree v.me.tree.reached known.fits false
    (λ i y here e. ⊎_elim (λ (o : HasEarlier v.me.tree.reached y). o) (λ (n : (y.leaf ≡ true) × ((r : ℕ) → IsOldRow k p.regions p.log.slots v.me.tree.front r → ⊥)). let bad : true ≡ false = sym n.0 ∙ e in absurd cc) (known.chain i y here))
    x (j, there) inner ((known.fits j x there).inner inner) stop last c t b
    (subst (λ (e : Bool). HasSlot p.pages s r.tree.place e c t b) (sym inner) g) path in
    absent read.0 record { there = read.1.there; path = read.1.path; kind = read.1.kind ∙ inner } read.2

pub claim_code : (k : Shape) (p : Parts) (h : List Event) (vs : List View) (id j c : ℕ) (v : View) → Rule k p h vs → get_elem? vs id ≡ some v → MayClaimCode k v.me j c
    → p.pages (visited v.me.tree.reached j).page (2 + 2 * length (visited v.me.tree.reached j).slots) ≡ 0
    → Rule k (record p { pages = stored_page p.pages (visited v.me.tree.reached j).page (2 + 2 * length (visited v.me.tree.reached j).slots) c }) h (set vs id (with_me v (after_slot v.me j c)))
claim_code k p h vs id j c v r at may word =
    let a : Account = after_slot v.me j c in
    let x : Reached = visited v.me.tree.reached j in
    let i : ℕ = length x.slots in
    let w : ℕ → ℕ → ℕ = p.pages in
    let u : ℕ → ℕ → ℕ = stored_page p.pages x.page (2 + 2 * i) c in
    let ws : List View = set vs id (with_me v a) in
    let s : Sheet = sheet_of p.pool.states vs in
    let z : Sheet = sheet_of p.pool.states ws in
    let m : ℕ → Place = r.tree.place in
    let codes : ℕ → List ℕ = codes_in k p.regions in
    let within = may.visit.reached in
    let fits = (known_here k p h vs id v r at).known.fits j x (at_visit v.me.tree.reached j within) in
    let l : IsLinked s x.page = fits.inner may.inner in
    let here : m x.page ≡ place_of x = fits.place l in
    let known = subst (λ (b : Bool). (t y : ℕ) → get_elem? x.slots t ≡ some y → (y ≢ 0) × (w x.page (slot_at b t) ≡ y)) may.inner fits.known in
    let page : PageStands (w x.page) (place_of x) = subst (λ (P : Place). PageStands (w x.page) P) here (r.tree.tree.pages x.page l) in
    let room : i < page_room x.leaf = subst (λ (b : Bool). i < page_room b) (sym may.inner) may.room in
    let none_here : w x.page (slot_at x.leaf i) ≡ 0 = subst (λ (b : Bool). w x.page (slot_at b i) ≡ 0) (sym may.inner) word in
    let absent = chain_absent k p h vs id j c v r at within may.inner may.claim.absent (λ t past less. page.front i t past less none_here)
    (dite (ℕ_discrete (w x.page 1) 0) (λ e. e) (λ e. absurd (page.full e i room none_here))) in
    let put = put_is w x.page (2 + 2 * i) c in
    let sheet : z ≡ s = sheet_same p.pool.states vs id v a at (λ _. refl) refl in
    let condition : MayCode w s m x.page i c = record {
      linked = l;
      inner = ap (λ (P : Place). P.leaf) here ∙ may.inner;
      room = may.room;
      empty = word;
      front = λ b less e. let f = has_at x.slots b less in let g = known b f.0 f.1 in g.0 (sym g.1 ∙ e);
      code = may.claim.some_c;
      absent = λ t b g path. absent t b g (path ∙ ap (λ (P : Place). P.path) here);
    } in
    let placed : (y : ℕ) → IsPlaced vs y → IsPlaced ws y = rows_stay vs id v a at (λ y. y.tree.placed) refl in
    let tree : Tree u z m codes (IsPlaced ws) = subst (λ (y : Sheet). Tree u y m codes (IsPlaced ws)) (sym sheet)
    (same_placed u s m codes (IsPlaced vs) (IsPlaced ws) placed (λ y g. ⊎_elim (λ (e : IsPlaced vs y). e) (λ (e : HasRow y v.me.tree.placed). (id, v, at, 0, v.me, refl, e)) (placed_split vs id v a at y g))
    (code_claimed w u s m codes (IsPlaced vs) x.page i c r.tree.tree condition put)) in
    let row = may.claim.row in
    by_tree k p u h vs id v a r at
    record { who = refl; log = refl; room = refl; entries = refl; shown = refl; heads = refl; facts = refl; codes = refl; marks = refl } (λ q h. h) refl
    (pool_reaches k p.pool vs id v a.tree r.pool at (λ t y e. inl (same_held k p h vs id v r at j (with_slot c x) within (slot_page c x) (slot_leaf c x) t y e)) (omega arith))
    (own_linked p.pool.states w u vs id x.page (2 + 2 * i) c v a r.own at l put (omega arith) (mine (λ y. Each (OwnFits w) y.pool.own) vs id v at r.own))
    (rows_same k vs id v a r.rows at refl refl refl refl refl)
    (keeps_linked w u s z x.page (2 + 2 * i) c (λ y o. subst (λ (e : Sheet). IsLinked e y) (sym sheet) o) word put)
    (link_tree k p.pool w u codes (IsOldRow k p.regions p.log.slots) vs id v a x.page (2 + 2 * i) c m r.tree r.pool at record {
      parted = refl;
      less = λ y. omega arith;
      begun = refl;
      placed = placed;
      linked = l;
      zero_word = word;
      put = put;
      places = λ y o. refl;
      tree = tree;
      ranks = λ y left. absurd (none_left v.me.pool.own y left);
      codes = λ t y b g. ⊎_elim
          (λ (e : (y ≡ x.page) × (b ≡ i) × (t ≡ c)). inr (
            entry_word row,
            (id, v, at, 0, v.me, refl, (row, may.claim.begun, refl)),
            subst (λ (o : List ℕ × ℕ). IsBelow (o.0 ++ o.1 ∷ []) (codes (entry_word row))) (λ f. ((sym (ap (λ (y2 : ℕ). (m y2).path) e.0 ∙ ap (λ (P : Place). P.path) here)) f, sym e.2 f))
                (row_below k p h vs id v r at row (x.path ++ c ∷ []) may.claim.begun may.claim.below),
          ))
          (λ (e : HasSlot w s m false t y b). inl e)
          (back w u s m codes (IsPlaced vs) x.page i c r.tree.tree condition put t y b (subst (λ (e : Sheet). HasSlot u e m false t y b) sheet g));
      learns = λ o. law_slot u z m codes (IsPlaced ws) (IsOldRow k p.regions p.log.slots) tree v.me.tree o j within c
          (subst (λ (b : Bool). u x.page (slot_at b i) ≡ c) (sym may.inner) put.here) may.unread room;
    })

pub code_allowed : (k : Shape) (slots id j c at_word : ℕ) (m : Mine) → at_word ≡ page_word k (visited m.0.me.tree.reached j).page (2 + 2 * length (visited m.0.me.tree.reached j).slots) → MayClaimCode k m.0.me j c
    → Allows (Holds k) slots id m at_word (λ f. either (f == 0) c f) (Claims (after_slot m.0.me j c) (LoadsSlot j) (step slots at_word 0 c none) m)
code_allowed k slots id j c at_word m is may =
    let x : Reached = visited m.0.me.tree.reached j in
    let room = may.room in
    claim_allowed k slots id x.page (2 + 2 * length x.slots) c at_word m (after_slot m.0.me j c) (LoadsSlot j) is may.visit.inside (omega arith)
    (λ s h at word. claim_code k (parts_of k s.words) (history_of k (parts_of k s.words)) s.views id j c m.0 h.rule at may word)
    (slot_allowed k slots id j at_word c m (is ∙ ap (λ (b : Bool). page_word k x.page (slot_at b (length x.slots))) (sym may.inner)) record { visit = may.visit; unread = may.unread; room = subst (λ (b : Bool). length x.slots < page_room b) (sym may.inner) room })
