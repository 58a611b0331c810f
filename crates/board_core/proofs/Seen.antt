-- What the end of a chain tells: all that stood in the chain was read.
use Rattle.std.proofs.Common.{◌≡◌, ℕ, zero, suc, ◌+◌, ◌-◌, ◌<◌, ◌≤◌, ◌⊎◌, Bool, true, false, List, [], ◌∷◌, ◌++◌, length, sym, refl, ap, ◌∙◌, subst, arith, ⊎_elim}
use mathlib.Core.Option.{some}
use mathlib.Core.Logic.{dite}
use native.Mathlib.Decide.{ℕ_discrete}
use lib.ListN.{get_elem?}
use Rattle.board_core.specs.declared.tree.Reached.{Reached}
use Rattle.board_core.specs.Each.{Each, In}
use Rattle.board_core.specs.Sheets.{Sheet, IsLinked}
use Rattle.board_core.specs.ClassTree.{Place, chained, slot_at, page_room, PageStands, HasSlot, Stands, IsBelow, Tree}
use Rattle.board_core.specs.KnownPages.{place_of, IsFullLeaf, ReachedFits, IsMate, HasEarlier, IsRead, EndTells}
use Rattle.board_core.proofs.Walk.{chain_back, code_home, row_home}

pub has_at : {A : Type 0} (xs : List A) (i : ℕ) → i < length xs → (a : A) × (get_elem? xs i ≡ some a)
has_at [] i h = absurd (omega arith)
has_at (x ∷ xs) zero h = (x, refl)
has_at (x ∷ xs) (suc i) h = has_at xs i (omega arith)

module _ (w : ℕ → ℕ → ℕ) (s : Sheet) (m : ℕ → Place) (codes : ℕ → List ℕ) (put : ℕ → Type 0) (t : Tree w s m codes put)
    (rs : List Reached) (fits : Each (ReachedFits w s m) rs) (kind : Bool) (chain : Each (λ y. y.leaf ≡ kind → HasEarlier rs y) rs) where
  -- the page of a smaller rank in a chain was read whole
  pub earlier : (n target : ℕ) (x : Reached) → In x rs → x.leaf ≡ kind → x.rank ≡ target + suc n → (y : Reached) × IsMate rs x.path x.leaf y × (y.rank ≡ target) × (page_room x.leaf ≤ length y.slots)
  earlier zero target x h is e = let c = chain h.0 x h.1 is (omega arith) in let rank = c.2 in (c.0, c.1, omega arith, c.3)
  earlier (suc n) target x h is e = let c = chain h.0 x h.1 is (omega arith) in let rank = c.2 in
      let d = earlier n target c.0 c.1.there (c.1.kind ∙ is) (omega arith) in
      (d.0, record { there = d.1.there; path = d.1.path ∙ c.1.path; kind = d.1.kind ∙ c.1.kind }, d.2, subst (λ (b : Bool). page_room b ≤ length d.0.slots) c.1.kind d.3)

  -- a word that is known
  known_read : (y : Reached) (n q k : ℕ) → In y rs → y.page ≡ q → k < length y.slots → w q (slot_at y.leaf k) ≡ n → In n y.slots
  known_read y n q k h e inside there =
      let a = has_at y.slots k inside in
      let known = ((fits h.0 y h.1).known k a.0 a.1).1 in
      let same : a.0 ≡ n = sym known ∙ (ap (λ x. w x (slot_at y.leaf k)) e ∙ there) in
      (k, a.1 ∙ ap some same)

  module _ (x : Reached) (h : In x rs) (is : x.leaf ≡ kind) (l : IsLinked s x.page) where
    place : m x.page ≡ place_of x
    place = (fits h.0 x h.1).place l

    linked_by : (b : Bool) (y : Reached) → IsMate rs x.path x.leaf y → y.rank < x.rank → y.leaf ≡ b → IsLinked s y.page
    linked_by false y mate less e = (fits mate.there.0 y mate.there.1).inner e
    linked_by true y mate less e = ⊎_elim (λ (o : IsLinked s y.page). o)
        (λ (o : IsFullLeaf (w y.page) y).
        let c = chain_back w s m codes put t (m x.page).rank x.page l refl 0 (omega arith) in
        let d = c.1 in
        let ranks : (m x.page).rank ≡ x.rank = ap (λ (z : Place). z.rank) place in
        let paths : (m c.0).path ≡ y.path = d.path ∙ (ap (λ (z : Place). z.path) place ∙ sym mate.path) in
        let kinds : (m c.0).leaf ≡ true = d.kind ∙ (ap (λ (z : Place). z.leaf) place ∙ (sym mate.kind ∙ e)) in
        let deep : length (m c.0).path ≡ length y.path = ap length paths in
        let low : length y.path < chained = o.low in
        absurd (d.more (omega arith) ((t.pages c.0 d.linked).low kinds (omega arith))))
        ((fits mate.there.0 y mate.there.1).old e)

    -- an earlier page of a linked chain is linked
    early_linked : (y : Reached) → IsMate rs x.path x.leaf y → y.rank < x.rank → IsLinked s y.page
    early_linked y mate less = linked_by y.leaf y mate less refl

    -- what stands in the chain of which x is the last page, read as far as it goes, was read
    pub chain_read : ((i : ℕ) → length x.slots ≤ i → i < page_room x.leaf → w x.page (slot_at x.leaf i) ≡ 0) → w x.page 1 ≡ 0
        → (n q k : ℕ) → HasSlot w s m x.leaf n q k → (m q).path ≡ x.path → IsRead rs x.path x.leaf n
    chain_read stop last n q k sh path =
        let ranks : (m x.page).rank ≡ x.rank = ap (λ (z : Place). z.rank) place in
        let paths : (m x.page).path ≡ x.path = ap (λ (z : Place). z.path) place in
        dite (ℕ_discrete (m q).rank x.rank)
        (λ y. let same : q ≡ x.page = t.alone q x.page sh.linked l (path ∙ sym paths) (y ∙ sym ranks) in
        dite (ℕ_discrete (suc k - length x.slots) 0)
        (λ z. (x, record { there = h; path = refl; kind = refl }, known_read x n q k h (sym same) (omega arith) sh.there))
        (λ z. absurd (sh.some_n (sym sh.there ∙ (ap (λ p. w p (slot_at x.leaf k)) same ∙ stop k (omega arith) sh.room)))))
        (λ y. dite (ℕ_discrete ((m q).rank - x.rank) 0)
        (λ z. let e = earlier (x.rank - suc (m q).rank) (m q).rank x h is (omega arith) in
        let y2 : Reached = e.0 in let mate = e.1 in let rank2 : y2.rank ≡ (m q).rank = e.2 in
        let l2 = early_linked y2 mate (omega arith) in
        let place2 = (fits mate.there.0 y2 mate.there.1).place l2 in
        let same : q ≡ y2.page = t.alone q y2.page sh.linked l2 (path ∙ (sym mate.path ∙ ap (λ (v : Place). v.path) (sym place2))) (sym e.2 ∙ ap (λ (v : Place). v.rank) (sym place2)) in
        let wide : page_room x.leaf ≤ length y2.slots = e.3 in
        let room = sh.room in
        (y2, mate, known_read y2 n q k mate.there (sym same) (omega arith) (ap (λ (b : Bool). w q (slot_at b k)) mate.kind ∙ sh.there)))
        (λ z. let c = chain_back w s m codes put t (m q).rank q sh.linked refl x.rank (omega arith) in let d = c.1 in
        let same : c.0 ≡ x.page = t.alone c.0 x.page d.linked l (d.path ∙ (path ∙ sym paths)) (d.rank ∙ sym ranks) in
        absurd (d.more (omega arith) (ap (λ p. w p 1) same ∙ last))))

-- the end of a chain, as the words are at the load
pub record IsAtEnd (w : ℕ → ℕ → ℕ) (x : Reached) : Type 0 where
  pub zero : length x.slots < page_room x.leaf → w x.page (slot_at x.leaf (length x.slots)) ≡ 0
  pub full : length x.slots ≡ page_room x.leaf → (w x.page 1 ≡ 0) ⊎ ((x.leaf ≡ true) × (length x.path < chained))

module _ (w : ℕ → ℕ → ℕ) (s : Sheet) (m : ℕ → Place) (codes : ℕ → List ℕ) (put : ℕ → Type 0) (t : Tree w s m codes put)
    (rs : List Reached) (fits : Each (ReachedFits w s m) rs) (chain : Each (HasEarlier rs) rs)
    (x : Reached) (h : In x rs) (end : IsAtEnd w x) (r : ℕ) (st : Stands w s m r) where
  linked_read : IsLinked s x.page → (n q k : ℕ) → HasSlot w s m x.leaf n q k → (m q).path ≡ x.path → IsRead rs x.path x.leaf n
  linked_read l n q k sh path =
      let f = fits h.0 x h.1 in
      let place : m x.page ≡ place_of x = f.place l in
      let page : PageStands (w x.page) (place_of x) = subst (λ (z : Place). PageStands (w x.page) z) place (t.pages x.page l) in
      let room = f.room in
      dite (ℕ_discrete (length x.slots) (page_room x.leaf))
      (λ y. chain_read w s m codes put t rs fits x.leaf (λ j z there _. chain j z there) x h refl l (λ i more less. absurd (omega arith))
      (⊎_elim (λ (z : w x.page 1 ≡ 0). z) (λ (z : (x.leaf ≡ true) × (length x.path < chained)). page.low z.0 z.1) (end.full y)) n q k sh path)
      (λ y. let none = end.zero (omega arith) in
      chain_read w s m codes put t rs fits x.leaf (λ j z there _. chain j z there) x h refl l (λ i more less. page.front (length x.slots) i more less none)
      (dite (ℕ_discrete (w x.page 1) 0) (λ z. z) (λ z. absurd (page.full z (length x.slots) (omega arith) none))) n q k sh path)

  tells : (b : Bool) → x.leaf ≡ b → (x.leaf ≡ true → IsBelow x.path (codes r) → IsLinked s x.page ⊎ ((i : ℕ) × (i < 14) × (w x.page (2 + i) ≡ r))) → EndTells codes rs b x r
  tells false e gone = λ c rest below.
      let l = (fits h.0 x h.1).inner e in
      let place : m x.page ≡ place_of x = (fits h.0 x h.1).place l in
      let home = code_home w s m codes put t x.page r c rest l (ap (λ (z : Place). z.leaf) place ∙ e) st (below ∙ ap (λ (z : Place). z.path ++ c ∷ rest) (sym place)) in
      subst (λ (b : Bool). IsRead rs x.path b c) e
      (linked_read l c home.0 home.1 (subst (λ (b : Bool). HasSlot w s m b c home.0 home.1) (sym e) home.2) (home.3 ∙ ap (λ (z : Place). z.path) place))
  tells true e gone = λ below. subst (λ (b : Bool). IsRead rs x.path b r) e (⊎_elim
      (λ (l : IsLinked s x.page). let place : m x.page ≡ place_of x = (fits h.0 x h.1).place l in
      let home = row_home w s m codes put t x.page r l (ap (λ (z : Place). z.leaf) place ∙ e) st (below.0, below.1 ∙ ap (λ (z : Place). z.path ++ below.0) (sym place)) in
      linked_read l r st.0 st.1 (subst (λ (b : Bool). HasSlot w s m b r st.0 st.1) (sym e) st.2) (home ∙ ap (λ (z : Place). z.path) place))
      (λ (g : (i : ℕ) × (i < 14) × (w x.page (2 + i) ≡ r)).
      ⊎_elim (λ (l : IsLinked s x.page). let place : m x.page ≡ place_of x = (fits h.0 x h.1).place l in
      let home = row_home w s m codes put t x.page r l (ap (λ (z : Place). z.leaf) place ∙ e) st (below.0, below.1 ∙ ap (λ (z : Place). z.path ++ below.0) (sym place)) in
      linked_read l r st.0 st.1 (subst (λ (b : Bool). HasSlot w s m b r st.0 st.1) (sym e) st.2) (home ∙ ap (λ (z : Place). z.path) place))
      (λ (o : IsFullLeaf (w x.page) x).
      let wide : page_room x.leaf ≡ 14 = ap page_room e in
      let room = (fits h.0 x h.1).room in
      let all : length x.slots ≡ 14 = dite (ℕ_discrete (length x.slots) 14) (λ y. y)
      (λ y. absurd (o.full (length x.slots) (omega arith) (ap (λ (b : Bool). w x.page (slot_at b (length x.slots))) (sym e) ∙ end.zero (omega arith)))) in
      let inside = g.1 in
      (x, record { there = h; path = refl; kind = refl }, known_read w s m codes put t rs fits x.leaf (λ j z there _. chain j z there) x r x.page g.0 h refl (omega arith) (ap (λ (b : Bool). w x.page (slot_at b g.0)) e ∙ g.2)))
      ((fits h.0 x h.1).old e))
      (gone e below))

  -- what the end of a chain tells
  pub end_tells : (x.leaf ≡ true → IsBelow x.path (codes r) → IsLinked s x.page ⊎ ((i : ℕ) × (i < 14) × (w x.page (2 + i) ≡ r))) → EndTells codes rs x.leaf x r
  end_tells gone = tells x.leaf refl gone
