-- The loop over the pages of a chain.
use Rattle.std.proofs.Common.{◌≡◌, ◌≢◌, ℕ, suc, ◌+◌, ◌-◌, ◌<◌, ◌≤◌, ◌⊎◌, Bool, true, false, List, [], ◌∷◌, ◌++◌, length, set, sym, refl, ap, ◌∙◌, subst, ⊎_elim, arith, inl, inr, length-append, Some, None}
use Rattle.std.proofs.lemmas.List.{append-nil}
use mathlib.Core.Option.{some}
use mathlib.Core.Logic.{dite}
use native.Mathlib.Decide.{ℕ_discrete}
use lib.ListN.{get_elem?}
use Rattle.board_core.specs.declared.tree.Link.{Link}
use Rattle.board_core.specs.declared.tree.Link.TheVariants.{Unread, Absent, To}
use Rattle.board_core.specs.declared.tree.Reached.{Reached}
use Rattle.board_core.specs.Each.{Each, In}
use Rattle.board_core.specs.ClassTree.{chained, Place, page_room, IsBelow}
use Rattle.board_core.specs.KnownPages.{place_of, IsEnd}
use Rattle.board_core.specs.declared.room.Row.{Row}
use Rattle.descent.specs.Sweep.{AllCover}
use Rattle.board_core.proofs.Lists.{each_append}
use Rattle.descent.specs.declared.loads.Visit.{Visit}
use Rattle.descent.specs.Seats.{Seat}
use Rattle.descent.specs.Visits.{visited, with_more, next_of, MayMore, AfterMore}
use Rattle.board_core.specs.Rows.{IsPlaced}
use Rattle.descent.specs.Moment.{SomeMoment}
use Rattle.descent.specs.Walks.{Met, rows_of, IsMet, Parts, Stay, PageRead, ChainRead, IsBegun, IsDone, Comes, Below}
use Rattle.descent.proofs.Lists.{at_none, at_visit, set_visit, length_set, length_snoc, left_visit, last_visit}
use Rattle.descent.proofs.Told.{codes_apart, deep_apart, ranked}
use Rattle.descent.proofs.Gains.{met_of}
use Rattle.descent.proofs.Covers.{one_code}
use Rattle.descent.proofs.Staying.{KeepsWhole, stay_whole, fresh_end, set_stays, set_then, done_kept, stay_met, rows_left, rows_right, rows_count, below_trans, met_apart, parts_none, parts_append, parts_after}

-- read in a page of the chain of a rank below this
pub record Earlier (covers : ℕ → ℕ → Type 0) (leaf : Bool) (path : List ℕ) (rs : List Reached) (before : ℕ) (k : Met) : Type 0 where
  pub number : ℕ
  pub inside : number < length rs
  pub on_path : (visited rs number).path ≡ path
  pub kind : (visited rs number).leaf ≡ leaf
  pub rank : (visited rs number).rank < before
  pub comes : Comes covers leaf (visited rs number) k

-- the pages before this one were read
pub record Chaining (covers : ℕ → ℕ → Type 0) (m : ℕ) (leaf : Bool) (depth : ℕ) (a b : Seat) (gs hs : List Row) (n page count : ℕ) : Type 0 where
  pub stay : Stay m a.reached b.reached
  pub now : IsBegun covers b.reached n page leaf depth
  pub path : (visited b.reached n).path ≡ (visited a.reached m).path
  pub mine : (n ≡ m) ⊎ (length a.reached ≤ n)
  pub parts : Parts covers a b gs hs
  pub come : Each (Earlier covers leaf (visited a.reached m).path b.reached (visited b.reached n).rank) parts.mets
  pub done : (i : ℕ) → (i ≡ m) ⊎ (length a.reached ≤ i) → i < length b.reached → i ≢ n → IsDone covers b.reached (rows_of parts.mets) (visited b.reached i)
  pub single : leaf ≡ true → depth < 5 → parts.mets ≡ []
  pub counts : count ≡ length (rows_of parts.mets)

-- and this one too
pub record Chained (chain : ℕ) (covers : ℕ → ℕ → Type 0) (m : ℕ) (leaf : Bool) (depth : ℕ) (a b : Seat) (gs hs : List Row) (n page count : ℕ) (ended : Bool) : Type 0 where
  pub moment : SomeMoment chain b.reached
  pub stay : Stay m a.reached b.reached
  pub within : n < length b.reached
  pub is_page : (visited b.reached n).page ≡ page
  pub kind : (visited b.reached n).leaf ≡ leaf
  pub is_depth : length (visited b.reached n).path ≡ depth
  pub cover : AllCover covers 0 (visited b.reached n).path
  pub path : (visited b.reached n).path ≡ (visited a.reached m).path
  pub mine : (n ≡ m) ⊎ (length a.reached ≤ n)
  pub unread : (visited b.reached n).more ≡ Unread
  pub is_zero : ended ≡ true → (visited b.reached n).zero ≡ true
  pub not_zero : ended ≡ false → (visited b.reached n).zero ≡ false
  pub full : ended ≡ false → length (visited b.reached n).slots ≡ page_room leaf
  pub parts : Parts covers a b gs hs
  pub come : Each (Earlier covers leaf (visited a.reached m).path b.reached ((visited b.reached n).rank + 1)) parts.mets
  pub done : (i : ℕ) → (i ≡ m) ⊎ (length a.reached ≤ i) → i < length b.reached → IsDone covers b.reached (rows_of parts.mets) (visited b.reached i)
  pub counts : count ≡ length (rows_of parts.mets)

-- ---- two pages of one chain

module _ (chain : ℕ) (covers : ℕ → ℕ → Type 0) (rs : List Reached) (mo : SomeMoment chain rs) where
  -- no row was met in both
  pub two_pages : (leaf : Bool) (x y : Reached) → In x rs → In y rs → x.leaf ≡ leaf → y.leaf ≡ leaf → x.path ≡ y.path → x.rank < y.rank → (leaf ≡ true → 5 ≤ length y.path)
      → (k l : Met) → IsMet covers rs k → IsMet covers rs l → k.row ≡ l.row → Comes covers leaf x k → Comes covers leaf y l → ⊥
  two_pages true x y hx hy ex ey path less deep k l mk ml row cx cy =
      let long : length x.path ≡ length y.path = ap length path in
      let far = deep refl in
      let same = deep_apart chain mo.0 (IsPlaced mo.1) (λ r. ⊥) rs mo.2 x y hx hy ex ey (omega arith) far cx.1.0 cy.1.0 l.row (subst (λ (r : ℕ). get_elem? x.slots cx.1.0 ≡ some r) row cx.1.1) cy.1.1 in absurd (omega arith)
  two_pages false x y hx hy ex ey path less deep k l mk ml row cx cy =
      let one = met_apart chain covers rs mo k l y.path cx.0 cy.0 mk ml row (subst (λ (p : List ℕ). IsBelow (p ++ cx.0 ∷ []) k.path) path cx.3) cy.3 in
      let same = (codes_apart chain mo.0 (IsPlaced mo.1) (λ r. ⊥) rs mo.2 x y hx hy ex ey path cx.1.0 cy.1.0 cy.0 (subst (λ (c : ℕ). get_elem? x.slots cx.1.0 ≡ some c) one cx.1.1) cy.1.1).0 in absurd (omega arith)

  -- no path of less than five codes goes through the leaves of both
  pub two_clash : (leaf : Bool) (x y : Reached) → In x rs → In y rs → x.leaf ≡ leaf → y.leaf ≡ leaf → x.path ≡ y.path → x.rank < y.rank → (leaf ≡ true → 5 ≤ length y.path)
      → (q : List ℕ) → length q < 5 → (k l : Met) → Comes covers leaf x k → Comes covers leaf y l → IsBelow k.path q → IsBelow l.path q → ⊥
  two_clash true x y hx hy ex ey path less deep q short k l cx cy bk bl =
      let far = deep refl in
      let same : length l.path ≡ length y.path = ap length cy.0 in
      let long : length q ≡ length l.path + length bl.0 = ap length bl.1 ∙ length-append l.path bl.0 in
      absurd (omega arith)
  two_clash false x y hx hy ex ey path less deep q short k l cx cy bk bl =
      let on_y : IsBelow (y.path ++ cx.0 ∷ []) k.path = subst (λ (p : List ℕ). IsBelow (p ++ cx.0 ∷ []) k.path) path cx.3 in
      let one = one_code y.path q cx.0 cy.0 (below_trans (y.path ++ cx.0 ∷ []) k.path q on_y bk) (below_trans (y.path ++ cy.0 ∷ []) l.path q cy.3 bl) in
      let same = (codes_apart chain mo.0 (IsPlaced mo.1) (λ r. ⊥) rs mo.2 x y hx hy ex ey path cx.1.0 cy.1.0 cy.0 (subst (λ (c : ℕ). get_elem? x.slots cx.1.0 ≡ some c) one cx.1.1) cy.1.1).0 in absurd (omega arith)

pub comes_below : (covers : ℕ → ℕ → Type 0) (leaf : Bool) (x : Reached) (k : Met) → Comes covers leaf x k → Below covers leaf x.path k
comes_below covers true x k c = ([], c.0 ∙ sym (append-nil x.path))
comes_below covers false x k c = (c.0, c.2, c.3)

-- the end of a chain at a page that was read
ends_zero : (leaf : Bool) (x : Reached) → x.zero ≡ true → IsEnd leaf x
ends_zero true x e = inl e
ends_zero false x e = inl e

ends_low : (leaf : Bool) (x : Reached) → leaf ≡ true → length x.slots ≡ page_room leaf → length x.path < 5 → IsEnd leaf x
unfolding chained
ends_low true x e full low = inr (full, inl low)
ends_low false x e full low = absurd (let clash : false ≡ true = e in cc)

ends_last : (leaf : Bool) (x : Reached) → length x.slots ≡ page_room leaf → x.more ≡ Absent → IsEnd leaf x
ends_last true x full none = inr (full, inr none)
ends_last false x full none = inr (full, none)

no_more : (leaf : Bool) (x : Reached) (l : Link) → x.more ≡ Unread → IsEnd leaf x → IsEnd leaf (with_more l x)
unfolding chained
no_more true x l e end = ⊎_elim (λ (u : x.zero ≡ true). inl u)
    (λ (u : (length x.slots ≡ 14) × ((length x.path < 5) ⊎ (x.more ≡ Absent))). inr (u.0, ⊎_elim (λ (v : length x.path < 5). inl v) (λ (v : x.more ≡ Absent). let clash : Unread ≡ Absent = sym e ∙ v in absurd cc) u.1)) end
no_more false x l e end = ⊎_elim (λ (u : x.zero ≡ true). inl u) (λ (u : (length x.slots ≡ 7) × (x.more ≡ Absent)). let clash : Unread ≡ Absent = sym e ∙ u.1 in absurd cc) end

module _ (chain : ℕ) (covers : ℕ → ℕ → Type 0) (m : ℕ) (leaf : Bool) (depth : ℕ) (a : Seat) (gs : List Row) where
  pub chain_start : (page : ℕ) → IsBegun covers a.reached m page leaf depth → Chaining covers m leaf depth a a gs gs m page 0
  chain_start page begun = record {
    stay = record { long = omega arith; others = λ i h other. refl };
    now = begun;
    path = refl;
    mine = inl refl;
    parts = parts_none covers a a gs gs refl refl;
    come = λ i r e. absurd (at_none i r e);
    done = λ i where_i less other. ⊎_elim (λ (e : i ≡ m). absurd (other e)) (λ (e : length a.reached ≤ i). absurd (omega arith)) where_i;
    single = λ _ _. refl;
    counts = refl;
  }

  module _ (b : Seat) (hs : List Row) (n page count : ℕ) (k : Chaining covers m leaf depth a b gs hs n page count) (below_root : m < length a.reached)
      (c : Seat) (is : List Row) (more : ℕ) (ended : Bool) (q : PageRead chain covers n leaf b c hs is more ended) where
    keeps : KeepsWhole b.reached c.reached
    keeps = stay_whole n b.reached c.reached k.now.inside q.stay q.place (λ l e. absurd (fresh_end l (visited b.reached n) k.now.fresh e))

    inside_c : n < length c.reached
    inside_c = let long = q.stay.long in let h = k.now.inside in omega arith

    kind_c : (visited c.reached n).leaf ≡ leaf
    kind_c = ap (λ (p : Place). p.leaf) q.place ∙ k.now.kind

    path_c : (visited c.reached n).path ≡ (visited b.reached n).path
    path_c = ap (λ (p : Place). p.path) q.place

    rank_c : (visited c.reached n).rank ≡ (visited b.reached n).rank
    rank_c = ap (λ (p : Place). p.rank) q.place

    here : In (visited c.reached n) c.reached
    here = (n, at_visit c.reached n inside_c)

    cover_c : AllCover covers 0 (visited c.reached n).path
    cover_c = subst (λ (l : List ℕ). AllCover covers 0 l) (sym path_c) k.now.cover

    -- rows of the pages before
    early : (r : Met) → In r k.parts.mets → Earlier covers leaf (visited a.reached m).path c.reached (visited c.reached n).rank r
    early r h =
        let e = k.come h.0 r h.1 in
        let less = e.rank in
        let rank = rank_c in
        let other : e.number ≢ n = λ same. let t : (visited b.reached e.number).rank ≡ (visited b.reached n).rank = ap (λ i. (visited b.reached i).rank) same in absurd (omega arith) in
        let kept : visited c.reached e.number ≡ visited b.reached e.number = q.stay.others e.number e.inside other in
        let kept_rank : (visited c.reached e.number).rank ≡ (visited b.reached e.number).rank = ap (λ (x : Reached). x.rank) kept in
        let long = q.stay.long in
        let inside = e.inside in record {
          number = e.number;
          inside = omega arith;
          on_path = ap (λ (x : Reached). x.path) kept ∙ e.on_path;
          kind = ap (λ (x : Reached). x.leaf) kept ∙ e.kind;
          rank = omega arith;
          comes = subst (λ (x : Reached). Comes covers leaf x r) (sym kept) e.comes;
        }

    deep_or : (r : Met) → In r k.parts.mets → leaf ≡ true → 5 ≤ length (visited c.reached n).path
    deep_or r h is_leaf =
        let size : length (visited c.reached n).path ≡ depth = ap length path_c ∙ k.now.is_depth in
        dite (ℕ_discrete (5 - depth) 0) (λ (e : 5 - depth ≡ 0). omega arith)
        (λ (e : 5 - depth ≢ 0). let none = k.single is_leaf (omega arith) in let there : In r [] = subst (λ (l : List Met). In r l) none h in absurd (at_none there.0 r there.1))

    kept : (r : Met) → IsMet covers b.reached r → IsMet covers c.reached r
    kept = stay_met covers n b.reached c.reached q.stay q.place (λ z h. let none : In z [] = subst (λ (l : List ℕ). In z l) k.now.fresh.slots h in absurd (at_none none.0 z none.1))

    apart : (r : ℕ) → In r (rows_of k.parts.mets) → In r (rows_of q.parts.mets) → ⊥
    apart r h t =
        let u = met_of k.parts.mets r h in
        let v = met_of q.parts.mets r t in
        let e = early u.0 u.1 in
        two_pages chain covers c.reached q.moment leaf (visited c.reached e.number) (visited c.reached n) (e.number, at_visit c.reached e.number e.inside) here e.kind kind_c (e.on_path ∙ sym (path_c ∙ k.path)) e.rank
        (deep_or u.0 u.1) u.0 v.0 (kept u.0 (k.parts.are_met u.1.0 u.0 u.1.1)) (q.parts.are_met v.1.0 v.0 v.1.1) (u.2 ∙ sym v.2) e.comes (q.come v.1.0 v.0 v.1.1)

    clash : (p : List ℕ) → length p < 5 → (r s : Met) → In r k.parts.mets → In s q.parts.mets → IsBelow r.path p → IsBelow s.path p → ⊥
    clash p short r s h t br bs =
        let e = early r h in
        two_clash chain covers c.reached q.moment leaf (visited c.reached e.number) (visited c.reached n) (e.number, at_visit c.reached e.number e.inside) here e.kind kind_c (e.on_path ∙ sym (path_c ∙ k.path)) e.rank
        (deep_or r h) p short r s e.comes (q.come t.0 s t.1) br bs

    pub chain_page : Chained chain covers m leaf depth a c gs is n page (count + more) ended
    chain_page =
        let rows = rows_count k.parts.mets q.parts.mets in
        let own = k.counts in
        let theirs = q.counts in
        let la = k.stay.long in
        let lb = q.stay.long in record {
          moment = q.moment;
          stay = record {
            long = omega arith;
            others = λ i h other.
                let not_n : i ≢ n = λ e. ⊎_elim (λ (u : n ≡ m). absurd (other (e ∙ u))) (λ (u : length a.reached ≤ n). absurd (omega arith)) k.mine in
                q.stay.others i (omega arith) not_n ∙ k.stay.others i h other;
          };
          within = inside_c;
          is_page = q.page ∙ k.now.is_page;
          kind = kind_c;
          is_depth = ap length path_c ∙ k.now.is_depth;
          cover = cover_c;
          path = path_c ∙ k.path;
          mine = k.mine;
          unread = q.unread;
          is_zero = q.zero;
          not_zero = q.not_zero;
          full = q.full;
          parts = parts_append covers a b c gs hs is k.parts q.parts kept apart clash;
          come = each_append (Earlier covers leaf (visited a.reached m).path c.reached ((visited c.reached n).rank + 1)) k.parts.mets q.parts.mets
              (λ i r e. let v = early r (i, e) in let less = v.rank in record { number = v.number; inside = v.inside; on_path = v.on_path; kind = v.kind; rank = omega arith; comes = v.comes })
              (λ i r e. record { number = n; inside = inside_c; on_path = path_c ∙ k.path; kind = kind_c; rank = omega arith; comes = q.come i r e });
          done = λ i where_i less. dite (ℕ_discrete i n)
              (λ (e : i ≡ n). done_kept covers c.reached c.reached (rows_of q.parts.mets) (rows_of (k.parts.mets ++ q.parts.mets)) (visited c.reached i) (λ p l y w. (y, w)) (λ z t. rows_right k.parts.mets q.parts.mets z t) (q.done i (inl e) less))
              (λ (e : i ≢ n). dite (ℕ_discrete (length b.reached - i) 0)
              (λ (f : length b.reached - i ≡ 0). done_kept covers c.reached c.reached (rows_of q.parts.mets) (rows_of (k.parts.mets ++ q.parts.mets)) (visited c.reached i) (λ p l y w. (y, w)) (λ z t. rows_right k.parts.mets q.parts.mets z t) (q.done i (inr (omega arith)) less))
              (λ (f : length b.reached - i ≢ 0). subst (λ (y : Reached). IsDone covers c.reached (rows_of (k.parts.mets ++ q.parts.mets)) y) (sym (q.stay.others i (omega arith) e))
              (done_kept covers b.reached c.reached (rows_of k.parts.mets) (rows_of (k.parts.mets ++ q.parts.mets)) (visited b.reached i) keeps (λ z t. rows_left k.parts.mets q.parts.mets z t) (k.done i where_i (omega arith) e))));
          counts = omega arith;
        }

  module _ (b : Seat) (hs : List Row) (n page count : ℕ) (ended : Bool) (k : Chained chain covers m leaf depth a b gs hs n page count ended) where
    all_below : Each (Below covers leaf (visited a.reached m).path) k.parts.mets
    all_below i r e = let v = k.come i r e in subst (λ (l : List ℕ). Below covers leaf l r) v.on_path (comes_below covers leaf (visited b.reached v.number) r v.comes)

    by_end : IsEnd leaf (visited b.reached n) → ChainRead chain covers m leaf a b gs hs count
    by_end end = record {
      moment = k.moment;
      stay = k.stay;
      end = (visited b.reached n, record { mate = record { there = (n, at_visit b.reached n k.within); path = k.path; kind = k.kind }; end = end });
      parts = k.parts;
      come = all_below;
      done = k.done;
      counts = k.counts;
    }

    pub chain_zero : ended ≡ true → ChainRead chain covers m leaf a b gs hs count
    chain_zero e = by_end (ends_zero leaf (visited b.reached n) (k.is_zero e))

    pub chain_low : ended ≡ false → leaf ≡ true → depth < 5 → ChainRead chain covers m leaf a b gs hs count
    chain_low e is_leaf low = let size = k.is_depth in by_end (ends_low leaf (visited b.reached n) is_leaf (k.full e) (omega arith))

    pub may_more : ended ≡ false → MayMore (visited b.reached n)
    may_more e = record { full = subst (λ (l : Bool). length (visited b.reached n).slots ≡ page_room l) (sym k.kind) (k.full e); not_zero = k.not_zero e; unread = k.unread }

    module _ (open_end : ended ≡ false) (c : Seat) (moment : SomeMoment chain c.reached) where
      -- the link to the next page was loaded
      module _ (l : Link) (zs : List Reached) (loads : c.loads ≡ b.loads) (stay : Stay n b.reached c.reached) (now : visited c.reached n ≡ with_more l (visited b.reached n)) where
        keeps_more : KeepsWhole b.reached c.reached
        keeps_more = stay_whole n b.reached c.reached k.within stay (ap place_of now) (λ v e. subst (λ (z : Reached). IsEnd v z) (sym now) (no_more v (visited b.reached n) l k.unread e))

        met_more : (r : Met) → IsMet covers b.reached r → IsMet covers c.reached r
        met_more = stay_met covers n b.reached c.reached stay (ap place_of now) (λ z h. subst (λ (x : Reached). In z x.slots) (sym now) h)

        stay_more : Stay m a.reached c.reached
        stay_more = let la = k.stay.long in let lb = stay.long in record {
          long = omega arith;
          others = λ i h other.
              let not_n : i ≢ n = λ e. ⊎_elim (λ (u : n ≡ m). absurd (other (e ∙ u))) (λ (u : length a.reached ≤ n). absurd (omega arith)) k.mine in
              stay.others i (omega arith) not_n ∙ k.stay.others i h other;
        }

        done_more : (i : ℕ) → (i ≡ m) ⊎ (length a.reached ≤ i) → i < length b.reached → IsDone covers c.reached (rows_of k.parts.mets) (visited c.reached i)
        done_more i where_i less = dite (ℕ_discrete i n)
            (λ (e : i ≡ n).
            let old_done = done_kept covers b.reached c.reached (rows_of k.parts.mets) (rows_of k.parts.mets) (visited b.reached n) keeps_more (λ z t. t) (k.done n (subst (λ (j : ℕ). (j ≡ m) ⊎ (length a.reached ≤ j)) e where_i) k.within) in
            subst (λ (z : Reached). IsDone covers c.reached (rows_of k.parts.mets) z) (sym (ap (visited c.reached) e ∙ now)) record { followed = old_done.followed; read = old_done.read })
            (λ (e : i ≢ n). subst (λ (z : Reached). IsDone covers c.reached (rows_of k.parts.mets) z) (sym (stay.others i less e))
            (done_kept covers b.reached c.reached (rows_of k.parts.mets) (rows_of k.parts.mets) (visited b.reached i) keeps_more (λ z t. t) (k.done i where_i less)))

        come_more : (r : Met) (before : ℕ) → (visited b.reached n).rank < before → In r k.parts.mets → Earlier covers leaf (visited a.reached m).path c.reached before r
        come_more r before high h =
            let e = k.come h.0 r h.1 in
            let less = e.rank in
            let long = stay.long in
            let inside = e.inside in
            dite (ℕ_discrete e.number n)
            (λ (same : e.number ≡ n).
            let is : visited c.reached e.number ≡ with_more l (visited b.reached e.number) = ap (visited c.reached) same ∙ (now ∙ ap (λ i. with_more l (visited b.reached i)) (sym same)) in
            let rank : (visited c.reached e.number).rank ≡ (visited b.reached e.number).rank = ap (λ (x : Reached). x.rank) is in record {
              number = e.number;
              inside = omega arith;
              on_path = ap (λ (x : Reached). x.path) is ∙ e.on_path;
              kind = ap (λ (x : Reached). x.leaf) is ∙ e.kind;
              rank = omega arith;
              comes = subst (λ (x : Reached). Comes covers leaf x r) (sym is) (still leaf (visited b.reached e.number) e.comes);
            })
            (λ (other : e.number ≢ n).
            let is : visited c.reached e.number ≡ visited b.reached e.number = stay.others e.number e.inside other in
            let rank : (visited c.reached e.number).rank ≡ (visited b.reached e.number).rank = ap (λ (x : Reached). x.rank) is in record {
              number = e.number;
              inside = omega arith;
              on_path = ap (λ (x : Reached). x.path) is ∙ e.on_path;
              kind = ap (λ (x : Reached). x.leaf) is ∙ e.kind;
              rank = omega arith;
              comes = subst (λ (x : Reached). Comes covers leaf x r) (sym is) e.comes;
            })
          where
            still : (v : Bool) (x : Reached) → Comes covers v x r → Comes covers v (with_more l x) r
            still true x h = h
            still false x h = h

      pub chain_last : AfterMore b n None c → ChainRead chain covers m leaf a c gs hs count
      chain_last after =
          let reached : c.reached ≡ set b.reached n (with_more Absent (visited b.reached n)) = ap (λ (s : Seat). s.reached) after in
          let loads : c.loads ≡ b.loads = ap (λ (s : Seat). s.loads) after in
          let stay = set_stays b.reached c.reached n (with_more Absent (visited b.reached n)) reached in
          let now : visited c.reached n ≡ with_more Absent (visited b.reached n) = ap (λ rs. visited rs n) reached ∙ set_visit b.reached n (with_more Absent (visited b.reached n)) k.within in
          let size : length c.reached ≡ length b.reached = ap length reached ∙ length_set b.reached n (with_more Absent (visited b.reached n)) in
          let within = k.within in record {
            moment = moment;
            stay = stay_more Absent [] loads stay now;
            end = (
              visited c.reached n,
              record {
                mate = record { there = (n, at_visit c.reached n (omega arith)); path = ap (λ (x : Reached). x.path) now ∙ k.path; kind = ap (λ (x : Reached). x.leaf) now ∙ k.kind };
                end = subst (λ (x : Reached). IsEnd leaf x) (sym now) (ends_last leaf (with_more Absent (visited b.reached n)) (k.full open_end) refl);
              },
            );
            parts = parts_after covers a b c gs hs loads (met_more Absent [] loads stay now) k.parts;
            come = all_below;
            done = λ i where_i less. done_more Absent [] loads stay now i where_i (omega arith);
            counts = k.counts;
          }

      module _ (v : Visit) (after : AfterMore b n (Some v) c) where
        next_reached : c.reached ≡ set b.reached n (with_more (To v.page) (visited b.reached n)) ++ next_of (visited b.reached n) v.page ∷ []
        next_reached = ap (λ (s : Seat). s.reached) after.1

        next_stay : Stay n b.reached c.reached
        next_stay = set_then b.reached c.reached n (with_more (To v.page) (visited b.reached n)) (next_of (visited b.reached n) v.page) next_reached

        set_size : length (set b.reached n (with_more (To v.page) (visited b.reached n))) ≡ length b.reached
        set_size = length_set b.reached n (with_more (To v.page) (visited b.reached n))

        next_size : length c.reached ≡ suc (length b.reached)
        next_size = ap length next_reached ∙ (length_snoc (set b.reached n (with_more (To v.page) (visited b.reached n))) (next_of (visited b.reached n) v.page) ∙ ap suc set_size)

        next_now : visited c.reached n ≡ with_more (To v.page) (visited b.reached n)
        next_now =
            let within = k.within in
            let size = set_size in
            ap (λ rs. visited rs n) next_reached ∙ (left_visit (set b.reached n (with_more (To v.page) (visited b.reached n))) (next_of (visited b.reached n) v.page ∷ []) n (omega arith)
            ∙ set_visit b.reached n (with_more (To v.page) (visited b.reached n)) k.within)

        next_is : visited c.reached v.number ≡ next_of (visited b.reached n) v.page
        next_is = ap (visited c.reached) (after.0 ∙ sym set_size) ∙ (ap (λ rs. visited rs (length (set b.reached n (with_more (To v.page) (visited b.reached n))))) next_reached
            ∙ last_visit (set b.reached n (with_more (To v.page) (visited b.reached n))) (next_of (visited b.reached n) v.page))

        next_inside : v.number < length c.reached
        next_inside = let size = next_size in let at = after.0 in omega arith

        -- the rank rises
        pub next_rank : ((visited c.reached v.number).rank ≡ (visited b.reached n).rank + 1) × ((visited c.reached v.number).rank < chain)
        next_rank = (ap (λ (x : Reached). x.rank) next_is, ranked chain moment.0 (IsPlaced moment.1) (λ r. ⊥) c.reached moment.2 (visited c.reached v.number) (v.number, at_visit c.reached v.number next_inside))

        pub chain_next : (leaf ≡ true → depth < 5 → ⊥) → Chaining covers m leaf depth a c gs hs v.number v.page count
        chain_next deep =
            let loads : c.loads ≡ b.loads = ap (λ (s : Seat). s.loads) after.1 in
            let size = next_size in
            let at = after.0 in
            let long = k.stay.long in
            let rank : (visited c.reached v.number).rank ≡ (visited b.reached n).rank + 1 = next_rank.0 in record {
              stay = stay_more (To v.page) [] loads next_stay next_now;
              now = record {
                inside = next_inside;
                is_page = ap (λ (x : Reached). x.page) next_is;
                fresh = record { slots = ap (λ (x : Reached). x.slots) next_is; links = ap (λ (x : Reached). x.links) next_is; zero = ap (λ (x : Reached). x.zero) next_is; more = ap (λ (x : Reached). x.more) next_is };
                kind = ap (λ (x : Reached). x.leaf) next_is ∙ k.kind;
                is_depth = ap (λ (x : Reached). length x.path) next_is ∙ k.is_depth;
                cover = subst (λ (x : Reached). AllCover covers 0 x.path) (sym next_is) k.cover;
              };
              path = ap (λ (x : Reached). x.path) next_is ∙ k.path;
              mine = inr (omega arith);
              parts = parts_after covers a b c gs hs loads (met_more (To v.page) [] loads next_stay next_now) k.parts;
              come = λ i r e. come_more (To v.page) [] loads next_stay next_now r (visited c.reached v.number).rank (omega arith) (i, e);
              done = λ i where_i less other. done_more (To v.page) [] loads next_stay next_now i where_i (let apart : i ≢ length b.reached = λ e. other (e ∙ sym after.0) in omega arith);
              single = λ is_leaf low. absurd (deep is_leaf low);
              counts = k.counts;
            }
