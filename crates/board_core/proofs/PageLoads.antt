-- What a caller knows after each load of a page word: a slot, a link, the next page of a chain; and what the header is.
use Rattle.std.proofs.Common.{◌≡◌, ◌≢◌, ℕ, zero, suc, ◌+◌, ◌*◌, ◌<◌, ◌≤◌, ◌⊎◌, Bool, true, false, List, [], ◌∷◌, ◌++◌, length, set, sym, refl, ap, ◌∙◌, subst, arith, inl, inr, ⊎_elim, append_assoc}
use mathlib.Core.Option.{some, some-injective}
use mathlib.Core.Logic.{dite}
use native.Mathlib.Decide.{ℕ_discrete}
use lib.ListN.{get_elem?}
use Rattle.atomic_table.proofs.Lists.{at_longer}
use Rattle.board_core.specs.declared.tree.Way.{Way}
use Rattle.board_core.specs.declared.tree.Way.TheVariants.{More, Branch}
use Rattle.board_core.specs.declared.tree.Link.{Link}
use Rattle.board_core.specs.declared.tree.Link.TheVariants.{Unread, Absent, To}
use Rattle.board_core.specs.declared.tree.Reached.{Reached}
use Rattle.board_core.specs.declared.tree.TreeAccount.{TreeAccount}
use Rattle.board_core.specs.Each.{Each, In}
use Rattle.board_core.specs.Sheets.{Sheet, IsLinked}
use Rattle.board_core.specs.ClassTree.{Place, chained, slot_at, page_room, kind_of, header_of, Follows, IsFrom, Stands, IsBelow, Tree}
use Rattle.board_core.specs.KnownPages.{place_of, IsFullLeaf, ReachedFits, IsEnd, AreKept, KnowsPages}
use Rattle.board_core.specs.KnownRule.{Knows}
use Rattle.board_core.specs.After.{visited, with_slot, with_link, with_more, led, next_of}
use Rattle.board_core.proofs.Lists.{each_set, each_snoc, inside, at_end}
use Rattle.board_core.proofs.KnownSteps.{reads, Arrives, arrives}
use Rattle.board_core.proofs.Walk.{code_home}

-- ---- lists

pub at_visit : (rs : List Reached) (n : ℕ) → n < length rs → get_elem? rs n ≡ some (visited rs n)
at_visit [] n h = absurd (omega arith)
at_visit (x ∷ rs) zero h = refl
at_visit (x ∷ rs) (suc n) h = at_visit rs n (omega arith)

pub length_visits : (rs : List Reached) (n : ℕ) (x : Reached) → length (set rs n x) ≡ length rs
length_visits [] n x = refl
length_visits (y ∷ rs) zero x = refl
length_visits (y ∷ rs) (suc n) x = ap suc (length_visits rs n x)

pub slot_zero : (n : ℕ) (x : Reached) → n ≡ 0 → with_slot n x ≡ record x { zero = true }
slot_zero zero x e = refl
slot_zero (suc n) x e = absurd (omega arith)

pub slot_some : (n : ℕ) (x : Reached) → n ≢ 0 → with_slot n x ≡ record x { zero = false; slots = x.slots ++ n ∷ []; links = x.links ++ Unread ∷ [] }
slot_some zero x e = absurd (e refl)
slot_some (suc n) x e = refl

module _ {A : Type 0} where
  pub length_snoc : (xs : List A) (x : A) → length (xs ++ x ∷ []) ≡ suc (length xs)
  length_snoc [] x = refl
  length_snoc (y ∷ xs) x = ap suc (length_snoc xs x)

  pub in_left : (xs ys : List A) (x : A) → In x xs → In x (xs ++ ys)
  in_left xs ys x h = (h.0, at_longer xs ys h.0 x h.1)

  pub set_here : (xs : List A) (i : ℕ) (x : A) → i < length xs → get_elem? (set xs i x) i ≡ some x
  set_here [] i x h = absurd (omega arith)
  set_here (y ∷ xs) zero x h = refl
  set_here (y ∷ xs) (suc i) x h = set_here xs i x (omega arith)

  pub set_else : (xs : List A) (i j : ℕ) (x : A) → j ≢ i → get_elem? (set xs i x) j ≡ get_elem? xs j
  set_else [] i j x other = refl
  set_else (y ∷ xs) zero zero x other = absurd (other refl)
  set_else (y ∷ xs) zero (suc j) x other = refl
  set_else (y ∷ xs) (suc i) zero x other = refl
  set_else (y ∷ xs) (suc i) (suc j) x other = set_else xs i j x (λ e. other (ap suc e))

-- ---- ways

pub branch_path : (page : ℕ → ℕ) (P : Place) (way : Way) (R : Place) (k : ℕ) → way ≡ Branch k → Follows page P way R → (page (2 + 2 * k) ≢ 0) × (R.path ≡ P.path ++ page (2 + 2 * k) ∷ []) × (R.rank ≡ 0)
branch_path page P way R k e f = let g : Follows page P (Branch k) R = subst (λ (x : Way). Follows page P x R) e f in (g.2, g.3, g.4)

pub more_path : (page : ℕ → ℕ) (P : Place) (way : Way) (R : Place) → way ≡ More → Follows page P way R → (R.path ≡ P.path) × (R.rank ≡ P.rank + 1) × (R.leaf ≡ P.leaf)
more_path page P way R e f = subst (λ (x : Way). Follows page P x R) e f

length_links : (ls : List Link) (j : ℕ) (l : Link) → length (set ls j l) ≡ length ls
length_links [] j l = refl
length_links (x ∷ ls) zero l = refl
length_links (x ∷ ls) (suc j) l = ap suc (length_links ls j l)

-- the end of a chain is read in a page that is not full only by a 0
open_end : (b : Bool) (x : Reached) → x.zero ≡ false → IsEnd b x → length x.slots ≡ page_room b
open_end true x z e = ⊎_elim (λ (u : x.zero ≡ true). absurd (let clash : false ≡ true = sym z ∙ u in cc)) (λ (u : (length x.slots ≡ 14) × ((length x.path < chained) ⊎ (x.more ≡ Absent))). u.0) e
open_end false x z e = ⊎_elim (λ (u : x.zero ≡ true). absurd (let clash : false ≡ true = sym z ∙ u in cc)) (λ (u : (length x.slots ≡ 7) × (x.more ≡ Absent)). u.0) e

full_end : (b : Bool) (x : Reached) (w : ℕ → ℕ) → x.leaf ≡ b → x.zero ≡ false → (x.more ≡ Absent → w 1 ≡ 0) → IsEnd b x → (w 1 ≡ 0) ⊎ ((x.leaf ≡ true) × (length x.path < chained))
full_end true x w leaf z last e = ⊎_elim (λ (u : x.zero ≡ true). absurd (let clash : false ≡ true = sym z ∙ u in cc))
    (λ (u : (length x.slots ≡ 14) × ((length x.path < chained) ⊎ (x.more ≡ Absent))). ⊎_elim (λ (v : length x.path < chained). inr (leaf, v)) (λ (v : x.more ≡ Absent). inl (last v)) u.1) e
full_end false x w leaf z last e = ⊎_elim (λ (u : x.zero ≡ true). absurd (let clash : false ≡ true = sym z ∙ u in cc)) (λ (u : (length x.slots ≡ 7) × (x.more ≡ Absent)). inl (last u.1)) e

module _ (w : ℕ → ℕ → ℕ) (s : Sheet) (m : ℕ → Place) (codes : ℕ → List ℕ) (placed : ℕ → Type 0) (old : ℕ → ℕ → Type 0) (t : Tree w s m codes placed) (a : TreeAccount) (k : Knows w s m codes placed old a) where
  abbrev Told : List Reached → Type 0
  Told rs = Knows w s m codes placed old (record a { reached = rs })

  abbrev rs : List Reached
  rs = a.reached

  stands : (r : ℕ) → old a.front r → Stands w s m r
  stands r o = t.placed r (k.olds r o).0

  -- what is known of one page, and of no more pages
  abbrev with_known : (n : ℕ) (x y : Reached) → get_elem? rs n ≡ some x → y.page ≡ x.page → y.path ≡ x.path → y.leaf ≡ x.leaf → length y.links ≡ length y.slots → KnowsPages w s m codes (old a.front) (set rs n y) → Told (set rs n y)
  with_known n x y at page path leaf pairs known = record {
    known = known;
    kept = each_set (λ (z : Reached). z.leaf ≡ true → IsLinked s z.page ⊎ AreKept (w z.page) codes placed z.path) rs n y
        (subst (λ (z : ℕ × List ℕ × Bool). z.2 ≡ true → IsLinked s z.0 ⊎ AreKept (w z.0) codes placed z.1) (λ i. (sym page i, sym path i, sym leaf i)) (k.kept n x at))
        (λ i z _ there. k.kept i z there);
    pairs = each_set (λ (z : Reached). length z.links ≡ length z.slots) rs n y pairs (λ i z _ there. k.pairs i z there);
    olds = k.olds;
    lasts = k.lasts;
  }

  -- a page was reached, of which nothing is known yet
  with_new : (ss : List Reached) (known : KnowsPages w s m codes (old a.front) ss)
      → Each (λ z. z.leaf ≡ true → IsLinked s z.page ⊎ AreKept (w z.page) codes placed z.path) ss
      → Each (λ z. length z.links ≡ length z.slots) ss
      → (y : Reached) → Arrives w s m codes placed (old a.front) t stands ss known y → Told (ss ++ y ∷ [])
  with_new ss known kept pairs y n = record {
    known = arrives w s m codes placed (old a.front) t stands ss known y n;
    kept = each_snoc (λ (z : Reached). z.leaf ≡ true → IsLinked s z.page ⊎ AreKept (w z.page) codes placed z.path) ss y (λ _. inl n.linked) kept;
    pairs = each_snoc (λ (z : Reached). length z.links ≡ length z.slots) ss y (ap length n.links ∙ sym (ap length n.slots)) pairs;
    olds = k.olds;
    lasts = k.lasts;
  }

  module _ (n : ℕ) (within : n < length rs) where
    at : get_elem? rs n ≡ some (visited rs n)
    at = at_visit rs n within

    fits : ReachedFits w s m (visited rs n)
    fits = k.known.fits n (visited rs n) at

    absent : (i c : ℕ) → get_elem? (visited rs n).links i ≡ some Absent → get_elem? (visited rs n).slots i ≡ some c → (r : ℕ) → old a.front r → IsBelow ((visited rs n).path ++ c ∷ []) (codes r) → ⊥
    absent = k.known.absent n (visited rs n) at

    pair : length (visited rs n).links ≡ length (visited rs n).slots
    pair = k.pairs n (visited rs n) at

    -- a full leaf is one, whatever more is known of it
    still : (y : Reached) → place_of y ≡ place_of (visited rs n) → IsLinked s (visited rs n).page ⊎ IsFullLeaf (w (visited rs n).page) (visited rs n) → IsLinked s (visited rs n).page ⊎ IsFullLeaf (w (visited rs n).page) y
    still y e h = ⊎_elim (λ (l : IsLinked s (visited rs n).page). inl l)
        (λ (o : IsFullLeaf (w (visited rs n).page) (visited rs n)).
        let size : length y.path ≡ length (visited rs n).path = ap (λ (p : Place). length p.path) e in
        let low = o.low in
        let header = o.header in inr record {
          low = omega arith;
          rank = ap (λ (p : Place). p.rank) e ∙ o.rank;
          header = omega arith;
          more = o.more;
          full = o.full;
        }) h

    -- ---- the header

    pub law_header : w (visited rs n).page 0 ≡ header_of (place_of (visited rs n))
    law_header = by (visited rs n).leaf refl
      where
        linked : IsLinked s (visited rs n).page → w (visited rs n).page 0 ≡ header_of (place_of (visited rs n))
        linked l = (t.pages (visited rs n).page l).header ∙ ap header_of (fits.place l)

        by : (kk : Bool) → (visited rs n).leaf ≡ kk → w (visited rs n).page 0 ≡ header_of (place_of (visited rs n))
        by false e = linked (fits.inner e)
        by true e = ⊎_elim linked
            (λ (o : IsFullLeaf (w (visited rs n).page) (visited rs n)).
            let h = o.header in
            let rank = o.rank in
            let kind : kind_of (visited rs n).leaf ≡ 1 = ap kind_of e in
            let header : header_of (place_of (visited rs n)) ≡ kind_of (visited rs n).leaf + 4 * length (visited rs n).path + 32 * (visited rs n).rank = refl in
            omega arith)
            (fits.old e)

    -- ---- a slot

    module _ (v : ℕ) (word : w (visited rs n).page (slot_at (visited rs n).leaf (length (visited rs n).slots)) ≡ v)
        (unread : (visited rs n).more ≡ Unread) (room : length (visited rs n).slots < page_room (visited rs n).leaf) where
      slot_none : v ≡ 0 → Told (set rs n (record (visited rs n) { zero = true }))
      slot_none e = with_known n (visited rs n) (record (visited rs n) { zero = true }) at refl refl refl pair
          (reads w s m codes placed (old a.front) t stands rs k.known n (visited rs n) (record (visited rs n) { zero = true }) at record {
            more = record { page = refl; place = refl; slots = λ x h. h; long = omega arith };
            fits = record { inner = fits.inner; place = fits.place; known = fits.known; room = fits.room; more = fits.more; old = λ e. still (record (visited rs n) { zero = true }) refl (fits.old e) };
            end = λ _. record { zero = λ _. word ∙ e; full = λ whole. absurd (omega arith) };
            absent = absent;
          })

      slot_more : v ≢ 0 → Told (set rs n (record (visited rs n) { zero = false; slots = (visited rs n).slots ++ v ∷ []; links = (visited rs n).links ++ Unread ∷ [] }))
      slot_more some_v =
          let y : Reached = record (visited rs n) { zero = false; slots = (visited rs n).slots ++ v ∷ []; links = (visited rs n).links ++ Unread ∷ [] } in
          let one = length_snoc (visited rs n).slots v in
          let two = length_snoc (visited rs n).links Unread in
          let same = pair in
          let known : (i z : ℕ) → get_elem? ((visited rs n).slots ++ v ∷ []) i ≡ some z → (z ≢ 0) × (w (visited rs n).page (slot_at (visited rs n).leaf i) ≡ z) = λ i z e. ⊎_elim
          (λ (t : get_elem? (visited rs n).slots i ≡ some z). fits.known i z t)
          (λ (t : (i ≡ length (visited rs n).slots) × (v ≡ z)). (λ none. some_v (t.1 ∙ none), ap (λ j. w (visited rs n).page (slot_at (visited rs n).leaf j)) t.0 ∙ (word ∙ t.1)))
          (at_end (visited rs n).slots v z i e) in
          with_known n (visited rs n) (record (visited rs n) { zero = false; slots = (visited rs n).slots ++ v ∷ []; links = (visited rs n).links ++ Unread ∷ [] }) at refl refl refl (omega arith)
          (reads w s m codes placed (old a.front) t stands rs k.known n (visited rs n) (record (visited rs n) { zero = false; slots = (visited rs n).slots ++ v ∷ []; links = (visited rs n).links ++ Unread ∷ [] }) at record {
            more = record { page = refl; place = refl; slots = λ x h. in_left (visited rs n).slots (v ∷ []) x h; long = omega arith };
            fits = record {
              inner = fits.inner;
              place = fits.place;
              known = known;
              room = omega arith;
              more = λ p h. absurd (let clash : Unread ≡ To p = sym unread ∙ h in cc);
              old = λ e. still (record (visited rs n) { zero = false; slots = (visited rs n).slots ++ v ∷ []; links = (visited rs n).links ++ Unread ∷ [] }) refl (fits.old e);
            };
            end = λ is.
                let whole = open_end (visited rs n).leaf (record (visited rs n) { zero = false; slots = (visited rs n).slots ++ v ∷ []; links = (visited rs n).links ++ Unread ∷ [] }) refl is in record {
                  zero = λ less. absurd (omega arith);
                  full = λ _. full_end (visited rs n).leaf (record (visited rs n) { zero = false; slots = (visited rs n).slots ++ v ∷ []; links = (visited rs n).links ++ Unread ∷ [] }) (w (visited rs n).page) refl refl
                      (λ h. absurd (let clash : Unread ≡ Absent = sym unread ∙ h in cc)) is;
                };
            absent = λ i c e s. ⊎_elim
                (λ (t : get_elem? (visited rs n).links i ≡ some Absent).
                let less = inside (visited rs n).links i Absent t in ⊎_elim
                (λ (u : get_elem? (visited rs n).slots i ≡ some c). absent i c t u)
                (λ (u : (i ≡ length (visited rs n).slots) × (v ≡ c)). let off = u.0 in absurd (omega arith))
                (at_end (visited rs n).slots v c i s))
                (λ (t : (i ≡ length (visited rs n).links) × (Unread ≡ Absent)). absurd (let clash : Unread ≡ Absent = t.1 in cc))
                (at_end (visited rs n).links Unread Absent i e);
          })

      pub law_slot : Told (set rs n (with_slot v (visited rs n)))
      law_slot = dite (ℕ_discrete v 0)
          (λ (e : v ≡ 0). subst (λ (y : Reached). Told (set rs n y)) (sym (slot_zero v (visited rs n) e)) (slot_none e))
          (λ (e : v ≢ 0). subst (λ (y : Reached). Told (set rs n y)) (sym (slot_some v (visited rs n) e)) (slot_more e))

    -- ---- a link

    module _ (i c : ℕ) (inner : (visited rs n).leaf ≡ false) (code : get_elem? (visited rs n).slots i ≡ some c) (not_zero : (visited rs n).zero ≡ false) (unread : (visited rs n).more ≡ Unread) where
      linked : IsLinked s (visited rs n).page
      linked = fits.inner inner

      stands_at : m (visited rs n).page ≡ place_of (visited rs n)
      stands_at = fits.place linked

      kind : (m (visited rs n).page).leaf ≡ false
      kind = ap (λ (p : Place). p.leaf) stands_at ∙ inner

      known_code : (c ≢ 0) × (w (visited rs n).page (2 + 2 * i) ≡ c)
      known_code = subst (λ (kk : Bool). (c ≢ 0) × (w (visited rs n).page (slot_at kk i) ≡ c)) inner (fits.known i c code)

      room : i < 7
      room = let less = inside (visited rs n).slots i c code in let most : length (visited rs n).slots ≤ 7 = subst (λ (kk : Bool). length (visited rs n).slots ≤ page_room kk) inner fits.room in omega arith

      -- the page as it is known with this link
      abbrev linked_known : (l : Link) → (l ≡ Absent → (r : ℕ) → old a.front r → IsBelow ((visited rs n).path ++ c ∷ []) (codes r) → ⊥) → Told (set rs n (with_link i l (visited rs n)))
      linked_known l none =
          let size = length_links (visited rs n).links i l in
          let same = pair in
          let less = inside (visited rs n).slots i c code in
          with_known n (visited rs n) (with_link i l (visited rs n)) at refl refl refl (size ∙ same)
          (reads w s m codes placed (old a.front) t stands rs k.known n (visited rs n) (with_link i l (visited rs n)) at record {
            more = record { page = refl; place = refl; slots = λ x h. h; long = omega arith };
            fits = record { inner = fits.inner; place = fits.place; known = fits.known; room = fits.room; more = fits.more; old = λ e. still (with_link i l (visited rs n)) refl (fits.old e) };
            end = λ is. absurd (no_end_here is);
            absent = λ j d e s. dite (ℕ_discrete j i)
                (λ (t : j ≡ i).
                let here : get_elem? (set (visited rs n).links i l) i ≡ some l = set_here (visited rs n).links i l (omega arith) in
                let is_absent : l ≡ Absent = some-injective l Absent (sym here ∙ (ap (get_elem? (set (visited rs n).links i l)) (sym t) ∙ e)) in
                let is_code : c ≡ d = some-injective c d (sym code ∙ (ap (get_elem? (visited rs n).slots) (sym t) ∙ s)) in
                λ r o below. none is_absent r o (subst (λ (z : ℕ). IsBelow ((visited rs n).path ++ z ∷ []) (codes r)) (sym is_code) below))
                (λ (t : j ≢ i). absent j d (sym (set_else (visited rs n).links i j l t) ∙ e) s);
          })
        where
          by : (kk : Bool) → kk ≡ false → IsEnd kk (with_link i l (visited rs n)) → ⊥
          by true e is = let clash : true ≡ false = e in cc
          by false e is = ⊎_elim (λ (u : (visited rs n).zero ≡ true). let clash : false ≡ true = sym not_zero ∙ u in absurd cc)
              (λ (u : (length (visited rs n).slots ≡ 7) × ((visited rs n).more ≡ Absent)). let clash : Unread ≡ Absent = sym unread ∙ u.1 in absurd cc) is

          no_end_here : IsEnd (visited rs n).leaf (with_link i l (visited rs n)) → ⊥
          no_end_here is = by (visited rs n).leaf inner is

      pub law_link_none : w (visited rs n).page (3 + 2 * i) ≡ 0 → Told (set rs n (with_link i Absent (visited rs n)))
      law_link_none word = linked_known Absent (λ _ r o below.
          let home = code_home w s m codes placed t (visited rs n).page r c below.0 linked kind (stands r o)
          (below.1 ∙ (append_assoc (visited rs n).path (c ∷ []) below.0 ∙ ap (λ (p : Place). p.path ++ c ∷ below.0) (sym stands_at))) in
          let same = t.apart c home.0 (visited rs n).page home.1 i home.2 record { linked = linked; kind = kind; room = room; some_n = known_code.0; there = known_code.1 } home.3 in
          home.4 ((λ j. w (same.0 j) (3 + 2 * same.1 j)) ∙ word))

      pub law_link : (v : ℕ) → w (visited rs n).page (3 + 2 * i) ≡ v → v ≢ 0
          → Told (set rs n (with_link i (To v) (visited rs n)) ++ led (visited rs n) i c v (m v).leaf ∷ [])
      law_link v word some_v =
          let mm = linked_known (To v) (λ e. absurd (let clash : To v ≡ Absent = e in cc)) in
          let z : Reached = led (visited rs n) i c v (m v).leaf in
          let from : IsFrom s m (visited rs n).page (Branch i) v = subst (λ (p : ℕ). IsFrom s m (visited rs n).page (Branch i) p) word (t.leads (visited rs n).page (Branch i) linked (kind, room) (λ e. some_v (sym word ∙ e))) in
          let named = t.named v from.linked from.below in
          let bt = branch_path (w (visited rs n).page) (m (visited rs n).page) (m v).way (m v) i from.by (subst (λ (p : ℕ). Follows (w p) (m p) (m v).way (m v)) from.from named.follows) in
          let path : (m v).path ≡ (visited rs n).path ++ c ∷ [] = bt.1 ∙ (λ j. (stands_at j).path ++ known_code.1 j ∷ []) in
          let place : m v ≡ place_of (led (visited rs n) i c v (m v).leaf) = λ j. record { path = path j; rank = bt.2 j; leaf = (m v).leaf; from = from.from j; way = from.by j } in
          with_new (set rs n (with_link i (To v) (visited rs n))) mm.known mm.kept mm.pairs z
          record { linked = from.linked; place = place; slots = refl; links = refl; zero = refl; more = refl; chain = inl (λ above. absurd (omega arith)) }

      -- the page that it leads to is one of the tree
      pub link_linked : (v : ℕ) → w (visited rs n).page (3 + 2 * i) ≡ v → v ≢ 0 → IsLinked s v
      link_linked v word some_v = (subst (λ (p : ℕ). IsFrom s m (visited rs n).page (Branch i) p) word (t.leads (visited rs n).page (Branch i) linked (kind, room) (λ e. some_v (sym word ∙ e)))).linked

    -- ---- `more`

    module _ (full : length (visited rs n).slots ≡ page_room (visited rs n).leaf) (not_zero : (visited rs n).zero ≡ false) where
      abbrev more_known : (l : Link) → ((p : ℕ) → l ≡ To p → (w (visited rs n).page 1 ≡ p) × (p ≢ 0)) → (l ≡ Absent → w (visited rs n).page 1 ≡ 0) → Told (set rs n (with_more l (visited rs n)))
      more_known l leads none =
          with_known n (visited rs n) (with_more l (visited rs n)) at refl refl refl pair
          (reads w s m codes placed (old a.front) t stands rs k.known n (visited rs n) (with_more l (visited rs n)) at record {
            more = record { page = refl; place = refl; slots = λ x h. h; long = omega arith };
            fits = record { inner = fits.inner; place = fits.place; known = fits.known; room = fits.room; more = λ p e. let t = leads p e in (t.0, full, t.1); old = λ e. still (with_more l (visited rs n)) refl (fits.old e) };
            end = λ is. record { zero = λ less. absurd (omega arith); full = λ _. full_end (visited rs n).leaf (with_more l (visited rs n)) (w (visited rs n).page) refl not_zero none is };
            absent = absent;
          })

      pub law_more_none : w (visited rs n).page 1 ≡ 0 → Told (set rs n (with_more Absent (visited rs n)))
      law_more_none word = more_known Absent (λ p e. absurd (let clash : Absent ≡ To p = e in cc)) (λ _. word)

      -- a page with `more` is linked
      more_linked : (v : ℕ) → w (visited rs n).page 1 ≡ v → v ≢ 0 → IsLinked s (visited rs n).page
      more_linked v word some_v = by (visited rs n).leaf refl
        where
          by : (kk : Bool) → (visited rs n).leaf ≡ kk → IsLinked s (visited rs n).page
          by false e = fits.inner e
          by true e = ⊎_elim (λ (l : IsLinked s (visited rs n).page). l) (λ (o : IsFullLeaf (w (visited rs n).page) (visited rs n)). absurd (some_v (sym word ∙ o.more))) (fits.old e)

      pub law_more : (v : ℕ) → w (visited rs n).page 1 ≡ v → v ≢ 0 → Told (set rs n (with_more (To v) (visited rs n)) ++ next_of (visited rs n) v ∷ [])
      law_more v word some_v =
          let mm = more_known (To v) (λ p e. let same : v ≡ p = (let h : To v ≡ To p = e in cc) in (word ∙ same, λ none. some_v (same ∙ none))) (λ e. absurd (let clash : To v ≡ Absent = e in cc)) in
          let l = more_linked v word some_v in
          let here = fits.place l in
          let from : IsFrom s m (visited rs n).page More v = subst (λ (p : ℕ). IsFrom s m (visited rs n).page More p) word (t.leads (visited rs n).page More l tt (λ e. some_v (sym word ∙ e))) in
          let named = t.named v from.linked from.below in
          let bt = more_path (w (visited rs n).page) (m (visited rs n).page) (m v).way (m v) from.by (subst (λ (p : ℕ). Follows (w p) (m p) (m v).way (m v)) from.from named.follows) in
          let path : (m v).path ≡ (visited rs n).path = bt.0 ∙ ap (λ (p : Place). p.path) here in
          let rank : (m v).rank ≡ (visited rs n).rank + 1 = bt.1 ∙ ap (λ (p : Place). p.rank + 1) here in
          let leaf : (m v).leaf ≡ (visited rs n).leaf = bt.2 ∙ ap (λ (p : Place). p.leaf) here in
          let place : m v ≡ place_of (next_of (visited rs n) v) = λ j. record { path = path j; rank = rank j; leaf = leaf j; from = from.from j; way = from.by j } in
          let size : length (set rs n (with_more (To v) (visited rs n))) ≡ length rs = length_visits rs n (with_more (To v) (visited rs n)) in
          with_new (set rs n (with_more (To v) (visited rs n))) mm.known mm.kept mm.pairs (next_of (visited rs n) v)
          record {
            linked = from.linked;
            place = place;
            slots = refl;
            links = refl;
            zero = refl;
            more = refl;
            chain = inl (λ above. (
              with_more (To v) (visited rs n),
              record { there = (n, set_here rs n (with_more (To v) (visited rs n)) within); path = refl; kind = refl },
              refl,
              (let wide : length (visited rs n).slots ≡ page_room (visited rs n).leaf = full in omega arith),
            ));
          }

      -- the next page is one of the tree, of the next rank
      pub next_linked : (v : ℕ) → w (visited rs n).page 1 ≡ v → v ≢ 0 → IsLinked s v × ((m v).rank ≡ (visited rs n).rank + 1)
      next_linked v word some_v =
          let l = more_linked v word some_v in
          let from : IsFrom s m (visited rs n).page More v = subst (λ (p : ℕ). IsFrom s m (visited rs n).page More p) word (t.leads (visited rs n).page More l tt (λ e. some_v (sym word ∙ e))) in
          let named = t.named v from.linked from.below in
          let bt = more_path (w (visited rs n).page) (m (visited rs n).page) (m v).way (m v) from.by (subst (λ (p : ℕ). Follows (w p) (m p) (m v).way (m v)) from.from named.follows) in
          (from.linked, bt.1 ∙ ap (λ (p : Place). p.rank + 1) (fits.place l))
