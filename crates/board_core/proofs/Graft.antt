-- The tree part under an exchange of one link or `more`: pages come in, and at most one leaf goes out.
use Rattle.std.proofs.Common.{◌≡◌, ◌≢◌, ℕ, ◌+◌, ◌*◌, ◌⊎◌, Bool, true, false, List, [], ◌∷◌, ◌++◌, sym, refl, ap, ◌∙◌, subst, arith, inl, inr, ⊎_elim}
use mathlib.Core.Logic.{dite}
use native.Mathlib.Decide.{ℕ_discrete}
use Rattle.board_core.specs.declared.tree.Way.{Way}
use Rattle.board_core.specs.declared.tree.Way.TheVariants.{More, Branch}
use Rattle.board_core.specs.Sheets.{Sheet, IsLinked}
use Rattle.board_core.specs.ClassTree.{Place, at_way, slot_at, Follows, IsWay, PageStands, IsNamed, IsFrom, HasSlot, Stands, IsBelow, Tree}

pub same_way : (a b : Way) → at_way a ≡ at_way b → a ≡ b
same_way More More e = refl
same_way More (Branch k) e = absurd (omega arith)
same_way (Branch k) More e = absurd (omega arith)
same_way (Branch k) (Branch l) e = let h : k ≡ l = omega arith in ap Branch h

-- a slot is no word that names a page
pub slot_apart : (b : Bool) (P : Place) (way : Way) (i : ℕ) → P.leaf ≡ b → IsWay P way → slot_at b i ≢ at_way way
slot_apart true P More i e h z = omega arith
slot_apart true P (Branch k) i e h z = let clash : true ≡ false = sym e ∙ h.0 in absurd cc
slot_apart false P More i e h z = omega arith
slot_apart false P (Branch k) i e h z = omega arith

pub is_way : (page : ℕ → ℕ) (P : Place) (way : Way) (R : Place) → Follows page P way R → IsWay P way
is_way page P More R f = tt
is_way page P (Branch k) R f = (f.0, f.1)

pub same_follows : (page other : ℕ → ℕ) (P : Place) (way : Way) (R : Place) → ((k : ℕ) → P.leaf ≡ false → other (2 + 2 * k) ≡ page (2 + 2 * k)) → Follows page P way R → Follows other P way R
same_follows page other P More R e f = f
same_follows page other P (Branch k) R e f = let c = e k f.0 in (f.0, f.1, λ z. f.2 (sym c ∙ z), f.3 ∙ ap (λ n. P.path ++ n ∷ []) (sym c), f.4)

-- what such a step owes. x is the word that was there: 0, or the leaf that goes out
pub record Grafts (w u : ℕ → ℕ → ℕ) (s z : Sheet) (m v : ℕ → Place) (codes : ℕ → List ℕ) (put puts : ℕ → Type 0) (q : ℕ) (way : Way) (x : ℕ) (New : ℕ → Type 0) : Type 0 where
  pub linked : IsLinked s q
  pub is_way : IsWay (m q) way
  pub was : w q (at_way way) ≡ x
  pub new : New (u q (at_way way))
  pub words : (p i : ℕ) → IsLinked s p → (p ≢ q) ⊎ (i ≢ at_way way) → u p i ≡ w p i
  pub stays : (p : ℕ) → IsLinked s p → p ≢ x → IsLinked z p
  pub comes : (p : ℕ) → New p → IsLinked z p × (p ≢ 0) × (p ≢ 1)
  pub either : (p : ℕ) → IsLinked z p → (IsLinked s p × (p ≢ x)) ⊎ New p
  pub places : (p : ℕ) → IsLinked s p → v p ≡ m p
  pub last : (p : ℕ) → IsLinked s p → p ≢ 1 → (m p).from ≢ x
  pub inner : x ≢ q
  pub root : 1 ≢ x
  pub page : PageStands (u q) (m q)
  pub pages : (p : ℕ) → New p → PageStands (u p) (v p)
  pub first : ((v (u q (at_way way))).from ≡ q) × ((v (u q (at_way way))).way ≡ way)
  pub named : (p : ℕ) → New p → IsNamed u z v p
  pub leads : (p : ℕ) (to : Way) → New p → IsWay (v p) to → u p (at_way to) ≢ 0 → New (u p (at_way to)) × ((v (u p (at_way to))).from ≡ p) × ((v (u p (at_way to))).way ≡ to)
  pub alone : (p r : ℕ) → New p → IsLinked z r → (v p).path ≡ (v r).path → (v p).rank ≡ (v r).rank → p ≡ r
  pub apart : (n p r i j : ℕ) → New p → HasSlot u z v false n p i → HasSlot u z v false n r j → (v p).path ≡ (v r).path → (p ≡ r) × (i ≡ j)
  pub rows : (n p r i j : ℕ) → New p → HasSlot u z v true n p i → HasSlot u z v true n r j → (p ≡ r) × (i ≡ j)
  pub entries : (n p i : ℕ) → New p → HasSlot u z v true n p i → puts n × IsBelow (v p).path (codes n)
  pub more : (n : ℕ) → put n → puts n
  pub placed : (n : ℕ) → puts n → ((p i : ℕ) → HasSlot w s m true n p i → (p ≢ x) ⊎ Stands u z v n) × (put n ⊎ Stands u z v n)

module _ (w u : ℕ → ℕ → ℕ) (s z : Sheet) (m v : ℕ → Place) (codes : ℕ → List ℕ) (put puts : ℕ → Type 0) (q : ℕ) (way : Way) (x : ℕ) (New : ℕ → Type 0)
    (t : Tree w s m codes put) (g : Grafts w u s z m v codes put puts q way x New) where
  -- slots of linked pages stay
  slot_same : (b : Bool) (p i : ℕ) → IsLinked s p → (m p).leaf ≡ b → u p (slot_at b i) ≡ w p (slot_at b i)
  slot_same b p i l e = g.words p (slot_at b i) l (dite (ℕ_discrete p q)
      (λ y. inr (slot_apart b (m p) way i e (subst (λ (k : ℕ). IsWay (m k) way) (sym y) g.is_way)))
      (λ y. inl y))

  other_page : (p : ℕ) → IsLinked s p → p ≢ q → PageStands (w p) (m p) → PageStands (u p) (m p)
  other_page p l o f = let e : (i : ℕ) → u p i ≡ w p i = λ i. g.words p i l (inl o) in subst (λ (h : ℕ → ℕ). PageStands h (m p)) (λ k i. sym (e i) k) f

  -- what an old page shows now, it showed before
  pub back : (b : Bool) (n p i : ℕ) → IsLinked s p → HasSlot u z v b n p i → HasSlot w s m b n p i
  back b n p i l h = let kind : (m p).leaf ≡ b = ap (λ (k : Place). k.leaf) (sym (g.places p l)) ∙ h.kind in
      record { linked = l; kind = kind; room = h.room; some_n = h.some_n; there = sym (slot_same b p i l kind) ∙ h.there }

  pub forth : (b : Bool) (n p i : ℕ) → p ≢ x → HasSlot w s m b n p i → HasSlot u z v b n p i
  forth b n p i o h = record { linked = g.stays p h.linked o; kind = ap (λ (k : Place). k.leaf) (g.places p h.linked) ∙ h.kind; room = h.room; some_n = h.some_n; there = slot_same b p i h.linked h.kind ∙ h.there }

  path_back : (p r : ℕ) → IsLinked s p → IsLinked s r → (v p).path ≡ (v r).path → (m p).path ≡ (m r).path
  path_back p r l o e = ap (λ (k : Place). k.path) (sym (g.places p l)) ∙ (e ∙ ap (λ (k : Place). k.path) (g.places r o))

  old_named : (p : ℕ) → IsLinked s p → p ≢ x → p ≢ 1 → IsNamed u z v p
  old_named p l o below =
      let h = t.named p l below in
      let f : ℕ = (m p).from in
      let e = g.places p l in
      let ef = g.places f h.linked in
      let there : u f (at_way (m p).way) ≡ p = dite (ℕ_discrete f q)
      (λ y. dite (ℕ_discrete (at_way (m p).way) (at_way way))
      (λ k. absurd (o (sym h.there ∙ (ap (λ (a : ℕ × ℕ). w a.0 a.1) (λ i. (y i, k i)) ∙ g.was))))
      (λ k. g.words f (at_way (m p).way) h.linked (inr k) ∙ h.there))
      (λ y. g.words f (at_way (m p).way) h.linked (inl y) ∙ h.there) in
      record {
        linked = subst (λ (P : Place). IsLinked z P.from) (sym e) (g.stays f h.linked (g.last p l below));
        there = ap (λ (P : Place). u P.from (at_way P.way)) e ∙ there;
        follows = subst (λ (P : Place). Follows (u P.from) (v P.from) P.way P) (sym e)
            (subst (λ (P : Place). Follows (u f) P (m p).way (m p)) (sym ef) (same_follows (w f) (u f) (m f) (m p).way (m p) (λ k inner. slot_same false f k h.linked inner) h.follows));
      }

  -- a word that was not exchanged names the page that it named
  kept : (p : ℕ) (to : Way) → IsLinked s p → IsWay (v p) to → u p (at_way to) ≢ 0 → u p (at_way to) ≡ w p (at_way to) → ((p ≡ q) × (to ≡ way) → ⊥) → IsFrom z v p to (u p (at_way to))
  kept p to l h some_n e other =
      let n : ℕ = w p (at_way to) in
      let f = t.leads p to l (subst (λ (P : Place). IsWay P to) (g.places p l) h) (λ y. some_n (e ∙ y)) in
      let place = g.places n f.linked in
      let out : n ≢ x = λ y. let some_x : w q (at_way way) ≢ 0 = λ k. some_n (e ∙ (y ∙ (sym g.was ∙ k))) in
      let d = t.leads q way g.linked g.is_way some_x in
      let same : w q (at_way way) ≡ n = g.was ∙ sym y in
      other (sym f.from ∙ (ap (λ k. (m k).from) (sym same) ∙ d.from), sym f.by ∙ (ap (λ k. (m k).way) (sym same) ∙ d.by)) in
      subst (λ (k : ℕ). IsFrom z v p to k) (sym e)
      record { linked = g.stays n f.linked out; below = f.below; from = ap (λ (P : Place). P.from) place ∙ f.from; by = ap (λ (P : Place). P.way) place ∙ f.by }

  first : (p : ℕ) (to : Way) → p ≡ q → to ≡ way → IsFrom z v p to (u p (at_way to))
  first p to y k = subst (λ (a : ℕ × Way). IsFrom z v a.0 a.1 (u a.0 (at_way a.1))) (λ i. (sym y i, sym k i))
      (let c = g.comes (u q (at_way way)) g.new in record { linked = c.0; below = c.2; from = g.first.0; by = g.first.1 })

  old_leads : (p : ℕ) (to : Way) → IsLinked s p → IsWay (v p) to → u p (at_way to) ≢ 0 → IsFrom z v p to (u p (at_way to))
  old_leads p to l h some_n = dite (ℕ_discrete p q)
      (λ y. dite (ℕ_discrete (at_way to) (at_way way))
      (λ k. first p to y (same_way to way k))
      (λ k. kept p to l h some_n (g.words p (at_way to) l (inr k)) (λ a. k (ap at_way a.1))))
      (λ y. kept p to l h some_n (g.words p (at_way to) l (inl y)) (λ a. y a.0))

  pub grafted : Tree u z v codes puts
  grafted = record {
    root = g.stays 1 t.root g.root;
    top = g.places 1 t.root ∙ t.top;
    numbered = λ p l. ⊎_elim (λ (o : IsLinked s p × (p ≢ x)). t.numbered p o.0) (λ (o : New p). (g.comes p o).1) (g.either p l);
    pages = λ p l. ⊎_elim
        (λ (o : IsLinked s p × (p ≢ x)). subst (λ (P : Place). PageStands (u p) P) (sym (g.places p o.0)) (dite (ℕ_discrete p q)
        (λ y. subst (λ (k : ℕ). PageStands (u k) (m k)) (sym y) g.page)
        (λ y. other_page p o.0 y (t.pages p o.0))))
        (λ (o : New p). g.pages p o) (g.either p l);
    named = λ p l below. ⊎_elim (λ (o : IsLinked s p × (p ≢ x)). old_named p o.0 o.1 below) (λ (o : New p). g.named p o) (g.either p l);
    leads = λ p to l h some_n. ⊎_elim (λ (o : IsLinked s p × (p ≢ x)). old_leads p to o.0 h some_n)
        (λ (o : New p). let d = g.leads p to o h some_n in record { linked = (g.comes _ d.0).0; below = (g.comes _ d.0).2; from = d.1; by = d.2 }) (g.either p l);
    alone = λ p r l o path rank. ⊎_elim
        (λ (a : IsLinked s p × (p ≢ x)). ⊎_elim
        (λ (b : IsLinked s r × (r ≢ x)). t.alone p r a.0 b.0 (path_back p r a.0 b.0 path) (ap (λ (k : Place). k.rank) (sym (g.places p a.0)) ∙ (rank ∙ ap (λ (k : Place). k.rank) (g.places r b.0))))
        (λ (b : New r). sym (g.alone r p b l (sym path) (sym rank))) (g.either r o))
        (λ (a : New p). g.alone p r a o path rank) (g.either p l);
    apart = λ n p r i j a b path. ⊎_elim
        (λ (c : IsLinked s p × (p ≢ x)). ⊎_elim
        (λ (d : IsLinked s r × (r ≢ x)). t.apart n p r i j (back false n p i c.0 a) (back false n r j d.0 b) (path_back p r c.0 d.0 path))
        (λ (d : New r). let e = g.apart n r p j i d b a (sym path) in (sym e.0, sym e.1)) (g.either r b.linked))
        (λ (c : New p). g.apart n p r i j c a b path) (g.either p a.linked);
    rows = λ n p r i j a b. ⊎_elim
        (λ (c : IsLinked s p × (p ≢ x)). ⊎_elim
        (λ (d : IsLinked s r × (r ≢ x)). t.rows n p r i j (back true n p i c.0 a) (back true n r j d.0 b))
        (λ (d : New r). let e = g.rows n r p j i d b a in (sym e.0, sym e.1)) (g.either r b.linked))
        (λ (c : New p). g.rows n p r i j c a b) (g.either p a.linked);
    entries = λ n p i a. ⊎_elim
        (λ (c : IsLinked s p × (p ≢ x)). let e = t.entries n p i (back true n p i c.0 a) in (g.more n e.0, subst (λ (P : Place). IsBelow P.path (codes n)) (sym (g.places p c.0)) e.1))
        (λ (c : New p). g.entries n p i c a) (g.either p a.linked);
    placed = λ n h. let d = g.placed n h in ⊎_elim
        (λ (o : put n). let st = t.placed n o in ⊎_elim (λ (y : st.0 ≢ x). (st.0, st.1, forth true n st.0 st.1 y st.2)) (λ (y : Stands u z v n). y) (d.0 st.0 st.1 st.2))
        (λ (o : Stands u z v n). o) d.1;
  }
