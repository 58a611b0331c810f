-- What a caller knows, under loads of its own and under steps that change words.
use Rattle.std.proofs.Common.{◌≡◌, ◌≢◌, ℕ, zero, suc, ◌+◌, ◌<◌, ◌≤◌, ◌⊎◌, Bool, true, false, List, [], ◌∷◌, ◌++◌, length, set, sym, refl, ap, ◌∙◌, subst, arith, inl, inr, ⊎_elim}
use mathlib.Core.Option.{some, some-injective, some-ne-none}
use mathlib.Core.Logic.{dite}
use native.Mathlib.Decide.{ℕ_discrete}
use lib.ListN.{get_elem?}
use Rattle.atomic_table.proofs.Lists.{set_here, set_else}
use Rattle.board_core.specs.declared.tree.Link.{Link}
use Rattle.board_core.specs.declared.tree.Link.TheVariants.{Unread, Absent, To}
use Rattle.board_core.specs.declared.tree.Reached.{Reached}
use Rattle.board_core.specs.Each.{Each, In}
use Rattle.board_core.specs.Sheets.{Sheet, IsLinked}
use Rattle.board_core.specs.ClassTree.{Place, chained, slot_at, page_room, Stands, IsBelow, Tree}
use Rattle.board_core.specs.KnownPages.{place_of, IsFullLeaf, ReachedFits, IsMate, HasEarlier, IsInChain, IsRead, IsEnd, EndTells, IsTurned, KnowsPages}
use Rattle.board_core.proofs.Lists.{each_set, each_snoc, inside}
use Rattle.board_core.proofs.Seen.{IsAtEnd, end_tells}

-- the same page, of which more is known
pub record IsMore (x y : Reached) : Type 0 where
  pub page : y.page ≡ x.page
  pub place : place_of y ≡ place_of x
  pub slots : (n : ℕ) → In n x.slots → In n y.slots
  pub long : length x.slots ≤ length y.slots

abbrev pub Grows : List Reached → List Reached → Type 0
Grows rs ss = (x : Reached) → In x rs → (y : Reached) × In y ss × IsMore x y

pub grown_read : (rs ss : List Reached) → Grows rs ss → (path : List ℕ) (leaf : Bool) (n : ℕ) → IsRead rs path leaf n → IsRead ss path leaf n
grown_read rs ss g path leaf n r = let y = g r.0 r.1.there in let e = y.2.place in
    (y.0, record { there = y.1; path = ap (λ (p : Place). p.path) e ∙ r.1.path; kind = ap (λ (p : Place). p.leaf) e ∙ r.1.kind }, y.2.slots n r.2)

pub grown_tells : (codes : ℕ → List ℕ) (rs ss : List Reached) → Grows rs ss → (b : Bool) (x : Reached) (r : ℕ) → EndTells codes rs b x r → EndTells codes ss b x r
grown_tells codes rs ss g true x r e = λ below. grown_read rs ss g x.path true r (e below)
grown_tells codes rs ss g false x r e = λ c rest below. grown_read rs ss g x.path false c (e c rest below)

pub grown_earlier : (rs ss : List Reached) → Grows rs ss → (x : Reached) → HasEarlier rs x → HasEarlier ss x
grown_earlier rs ss g x h above = let c = h above in let y = g c.0 c.1.there in let e = y.2.place in let rank : y.0.rank ≡ c.0.rank = ap (λ (p : Place). p.rank) e in
    let old = c.2 in let long = y.2.long in let wide = c.3 in
    (y.0, record { there = y.1; path = ap (λ (p : Place). p.path) e ∙ c.1.path; kind = ap (λ (p : Place). p.leaf) e ∙ c.1.kind }, omega arith, omega arith)

pub grown_chain : (old : ℕ → Type 0) (rs ss : List Reached) → Grows rs ss → (x : Reached) → IsInChain old rs x → IsInChain old ss x
grown_chain old rs ss g x h = ⊎_elim (λ (e : HasEarlier rs x). inl (grown_earlier rs ss g x e)) (λ (n : (x.leaf ≡ true) × ((r : ℕ) → old r → ⊥)). inr n) h

-- where a row is old, the page before each was read whole
pub all_earlier : (old : ℕ → Type 0) (rs : List Reached) → Each (IsInChain old rs) rs → (r : ℕ) → old r → Each (HasEarlier rs) rs
all_earlier old rs chain r o j x there = ⊎_elim (λ (e : HasEarlier rs x). e) (λ (n : (x.leaf ≡ true) × ((r : ℕ) → old r → ⊥)). absurd (n.1 r o)) (chain j x there)

pub same_more : (x : Reached) → IsMore x x
same_more x = record { page = refl; place = refl; slots = λ n h. h; long = omega arith }

pub set_grows : (rs : List Reached) (j : ℕ) (x y : Reached) → get_elem? rs j ≡ some x → IsMore x y → Grows rs (set rs j y)
set_grows rs j x y at more z h = dite (ℕ_discrete h.0 j)
    (λ e. let same : x ≡ z = some-injective x z (sym at ∙ (ap (λ i. get_elem? rs i) (sym e) ∙ h.1)) in
    (y, (j, set_here rs j y (inside rs j x at)), subst (λ (v : Reached). IsMore v y) same more))
    (λ e. (z, (h.0, set_else rs j h.0 y e ∙ h.1), same_more z))

longer : (rs : List Reached) (j : ℕ) (x y : Reached) → get_elem? rs j ≡ some x → get_elem? (rs ++ y ∷ []) j ≡ some x
longer [] j x y h = absurd (some-ne-none x (sym h))
longer (z ∷ rs) zero x y h = h
longer (z ∷ rs) (suc j) x y h = longer rs j x y h

-- of a page by its place
abbrev IsTurnedAt : Sheet → (ℕ → Place) → ℕ → Place → Type 0
IsTurnedAt s m page p = p.rank ≡ 0 → (q : ℕ) × IsLinked s q × ((m q).path ≡ p.path) × ((m q).rank ≡ 0) × ((q ≡ page) ⊎ ((m q).leaf ≡ false))

-- the first page at a path stays, or an inner page takes its place
pub turned_stays : (s z : Sheet) (m v : ℕ → Place) → ((p : ℕ) → IsLinked s p → IsLinked z p) → ((p : ℕ) → IsLinked s p → v p ≡ m p) → (x : Reached) → IsTurned s m x → IsTurned z v x
turned_stays s z m v more same x turned first =
    let (p, l, path, rank, either) = turned first in
    let e = same p l in (p, more p l, ap (λ (z : Place). z.path) e ∙ path, ap (λ (z : Place). z.rank) e ∙ rank, ⊎_elim (λ (y : p ≡ x.page). inl y) (λ (y : (m p).leaf ≡ false). inr (ap (λ (z : Place). z.leaf) e ∙ y)) either)

module _ (w : ℕ → ℕ → ℕ) (s : Sheet) (m : ℕ → Place) (codes : ℕ → List ℕ) (put old : ℕ → Type 0) (t : Tree w s m codes put) (stands : (r : ℕ) → old r → Stands w s m r)
    (rs : List Reached) (k : KnowsPages w s m codes old rs) where
  -- more is known of one reached page
  pub record Reads (x y : Reached) : Type 0 where
    pub more : IsMore x y
    pub fits : ReachedFits w s m y
    pub end : IsEnd y.leaf y → IsAtEnd w y
    pub absent : (i c : ℕ) → get_elem? y.links i ≡ some Absent → get_elem? y.slots i ≡ some c → (r : ℕ) → old r → IsBelow (y.path ++ c ∷ []) (codes r) → ⊥

  pub reads : (j : ℕ) (x y : Reached) → get_elem? rs j ≡ some x → Reads x y → KnowsPages w s m codes old (set rs j y)
  reads j x y at n =
      let ss : List Reached = set rs j y in
      let g : Grows rs ss = set_grows rs j x y at n.more in
      let e : place_of y ≡ place_of x = n.more.place in
      let gone : y.leaf ≡ true → (r : ℕ) → old r → IsBelow y.path (codes r) → IsLinked s y.page ⊎ ((i : ℕ) × (i < 14) × (w y.page (2 + i) ≡ r)) =
      subst (λ (z : ℕ × Place). z.1.leaf ≡ true → (r : ℕ) → old r → IsBelow z.1.path (codes r) → IsLinked s z.0 ⊎ ((i : ℕ) × (i < 14) × (w z.0 (2 + i) ≡ r))) (λ i. (sym n.more.page i, sym e i)) (k.gone j x at) in
      let fits : Each (ReachedFits w s m) ss = each_set (ReachedFits w s m) rs j y n.fits (λ i z _ there. k.fits i z there) in
      let chain : Each (IsInChain old ss) ss = each_set (IsInChain old ss) rs j y
      (subst (λ (p : Place). (0 < p.rank → (z : Reached) × IsMate ss p.path p.leaf z × (z.rank + 1 ≡ p.rank) × (page_room p.leaf ≤ length z.slots)) ⊎ ((p.leaf ≡ true) × ((r : ℕ) → old r → ⊥))) (sym e) (grown_chain old rs ss g x (k.chain j x at)))
      (λ i z _ there. grown_chain old rs ss g z (k.chain i z there)) in record {
        fits = fits;
        chain = chain;
        ends = each_set (λ (z : Reached). IsEnd z.leaf z → (r : ℕ) → old r → EndTells codes ss z.leaf z r) rs j y
            (λ is r o. end_tells w s m codes put t ss fits (all_earlier old ss chain r o) y (j, set_here rs j y (inside rs j x at)) (n.end is) r (stands r o) (λ leaf. gone leaf r o))
            (λ i z _ there is r o. grown_tells codes rs ss g z.leaf z r (k.ends i z there is r o));
        turned = each_set (λ (z : Reached). z.leaf ≡ true → IsTurned s m z) rs j y
            (subst (λ (z : ℕ × Place). z.1.leaf ≡ true → IsTurnedAt s m z.0 z.1) (λ i. (sym n.more.page i, sym e i)) (k.turned j x at)) (λ i z _ there. k.turned i z there);
        absent = each_set (λ (z : Reached). (i c : ℕ) → get_elem? z.links i ≡ some Absent → get_elem? z.slots i ≡ some c → (r : ℕ) → old r → IsBelow (z.path ++ c ∷ []) (codes r) → ⊥) rs j y n.absent (λ i z _ there. k.absent i z there);
        gone = each_set (λ (z : Reached). z.leaf ≡ true → (r : ℕ) → old r → IsBelow z.path (codes r) → IsLinked s z.page ⊎ ((i : ℕ) × (i < 14) × (w z.page (2 + i) ≡ r))) rs j y gone (λ i z _ there. k.gone i z there);
      }

  -- a link or `more` leads to a page, of which nothing is known yet
  pub record Arrives (y : Reached) : Type 0 where
    pub linked : IsLinked s y.page
    pub place : m y.page ≡ place_of y
    pub slots : y.slots ≡ []
    pub links : y.links ≡ []
    pub zero : y.zero ≡ false
    pub more : y.more ≡ Unread
    pub chain : IsInChain old rs y

  not_end : (b : Bool) (y : Reached) → y.slots ≡ [] → y.zero ≡ false → IsEnd b y → ⊥
  not_end true y e z h = ⊎_elim (λ (u : y.zero ≡ true). let clash : false ≡ true = sym z ∙ u in absurd cc) (λ (u : (length y.slots ≡ 14) × ((length y.path < chained) ⊎ (y.more ≡ Absent))). let n : length y.slots ≡ 0 = ap length e in let f : length y.slots ≡ 14 = u.0 in absurd (omega arith)) h
  not_end false y e z h = ⊎_elim (λ (u : y.zero ≡ true). let clash : false ≡ true = sym z ∙ u in absurd cc) (λ (u : (length y.slots ≡ 7) × (y.more ≡ Absent)). let n : length y.slots ≡ 0 = ap length e in let f : length y.slots ≡ 7 = u.0 in absurd (omega arith)) h

  snoc_grows : (y : Reached) → Grows rs (rs ++ y ∷ [])
  snoc_grows y x h = (x, (h.0, longer rs h.0 x y h.1), same_more x)

  pub arrives : (y : Reached) → Arrives y → KnowsPages w s m codes old (rs ++ y ∷ [])
  arrives y n =
      let ss : List Reached = rs ++ y ∷ [] in
      let g : Grows rs ss = snoc_grows y in record {
        fits = each_snoc (ReachedFits w s m) rs y record {
          inner = λ _. n.linked;
          place = λ _. n.place;
          known = λ i v h. absurd (some-ne-none v (sym h ∙ ap (λ (l : List ℕ). get_elem? l i) n.slots));
          room = let none : length y.slots ≡ 0 = ap length n.slots in omega arith;
          more = λ p h. let clash : Unread ≡ To p = sym n.more ∙ h in absurd cc;
          old = λ _. inl n.linked;
        } k.fits;
        chain = each_snoc (IsInChain old ss) rs y (grown_chain old rs ss g y n.chain) (λ i z there. grown_chain old rs ss g z (k.chain i z there));
        ends = each_snoc (λ (z : Reached). IsEnd z.leaf z → (r : ℕ) → old r → EndTells codes ss z.leaf z r) rs y (λ is r o. absurd (not_end y.leaf y n.slots n.zero is)) (λ i z there is r o. grown_tells codes rs ss g z.leaf z r (k.ends i z there is r o));
        turned = each_snoc (λ (z : Reached). z.leaf ≡ true → IsTurned s m z) rs y
            (λ _ first. (y.page, n.linked, ap (λ (p : Place). p.path) n.place, ap (λ (p : Place). p.rank) n.place ∙ first, inl refl)) k.turned;
        absent = each_snoc (λ (z : Reached). (i c : ℕ) → get_elem? z.links i ≡ some Absent → get_elem? z.slots i ≡ some c → (r : ℕ) → old r → IsBelow (z.path ++ c ∷ []) (codes r) → ⊥) rs y (λ i c h _ r o b. some-ne-none Absent (sym h ∙ ap (λ (l : List Link). get_elem? l i) n.links)) k.absent;
        gone = each_snoc (λ (z : Reached). z.leaf ≡ true → (r : ℕ) → old r → IsBelow z.path (codes r) → IsLinked s z.page ⊎ ((i : ℕ) × (i < 14) × (w z.page (2 + i) ≡ r))) rs y (λ _ r o b. inl n.linked) k.gone;
      }

-- a step of anybody that changes words: what each reached page owes
pub record Stays (w u : ℕ → ℕ → ℕ) (s z : Sheet) (m v : ℕ → Place) (x : Reached) : Type 0 where
  pub inner : x.leaf ≡ false → IsLinked s x.page → IsLinked z x.page
  pub place : IsLinked z x.page → IsLinked s x.page × (v x.page ≡ m x.page)
  pub slots : (i n : ℕ) → n ≢ 0 → w x.page (slot_at x.leaf i) ≡ n → u x.page (slot_at x.leaf i) ≡ n
  pub more : (p : ℕ) → x.more ≡ To p → u x.page 1 ≡ w x.page 1
  pub old : x.leaf ≡ true → IsLinked s x.page → IsLinked z x.page ⊎ (IsFullLeaf (u x.page) x)
  pub turned : x.leaf ≡ true → IsTurned s m x → IsTurned z v x
  pub still : x.leaf ≡ true → IsFullLeaf (w x.page) x → IsLinked z x.page ⊎ IsFullLeaf (u x.page) x

pub known_words : (w u : ℕ → ℕ → ℕ) (s z : Sheet) (m v : ℕ → Place) (codes : ℕ → List ℕ) (old : ℕ → Type 0) (rs : List Reached) → KnowsPages w s m codes old rs
    → Each (Stays w u s z m v) rs
    → Each (λ x. x.leaf ≡ true → IsLinked s x.page → (r : ℕ) → old r → IsBelow x.path (codes r) → IsLinked z x.page ⊎ ((i : ℕ) × (i < 14) × (u x.page (2 + i) ≡ r))) rs
    → ((r : ℕ) → old r → r ≢ 0)
    → KnowsPages u z v codes old rs
known_words w u s z m v codes old rs k stays leaves some_r = record {
  fits = λ j x there. let f = k.fits j x there in let o = stays j x there in record {
    inner = λ e. o.inner e (f.inner e);
    place = λ l. let p = o.place l in p.1 ∙ f.place p.0;
    known = λ i n h. let a = f.known i n h in (a.0, o.slots i n a.0 a.1);
    room = f.room;
    more = λ p h. let a = f.more p h in (o.more p h ∙ a.0, a.1, a.2);
    old = λ e. ⊎_elim (λ (l : IsLinked s x.page). o.old e l) (λ (y : IsFullLeaf (w x.page) x). o.still e y) (f.old e);
  };
  chain = k.chain;
  ends = k.ends;
  turned = λ j x there e. (stays j x there).turned e (k.turned j x there e);
  absent = k.absent;
  gone = λ j x there e r o b. ⊎_elim (λ (l : IsLinked s x.page). leaves j x there e l r o b)
      (λ (y : (i : ℕ) × (i < 14) × (w x.page (2 + i) ≡ r)). inr (y.0, y.1, subst (λ (c : Bool). w x.page (slot_at c y.0) ≡ r → u x.page (slot_at c y.0) ≡ r) e ((stays j x there).slots y.0 r (some_r r o)) y.2))
      (k.gone j x there e r o b);
}
