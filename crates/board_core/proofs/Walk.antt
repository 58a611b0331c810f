-- Walks in the tree: back along a chain, up to a page, and to the place of a row's next code.
use Rattle.std.proofs.Common.{◌≡◌, ◌≢◌, ℕ, zero, suc, ◌+◌, ◌*◌, ◌-◌, ◌<◌, ◌≤◌, true, false, List, [], ◌∷◌, ◌++◌, length, sym, refl, ap, ◌∙◌, arith, append_assoc, length-append}
use mathlib.Core.Logic.{dite}
use native.Mathlib.Decide.{ℕ_discrete}
use Rattle.board_core.specs.declared.tree.Way.{Way}
use Rattle.board_core.specs.declared.tree.Way.TheVariants.{More, Branch}
use Rattle.board_core.specs.Sheets.{Sheet, IsLinked}
use Rattle.board_core.specs.ClassTree.{Place, at_way, Follows, HasSlot, Stands, IsBelow, Tree}

-- lists
cons_split : (x y : ℕ) (xs ys : List ℕ) → x ∷ xs ≡ y ∷ ys → (x ≡ y) × (xs ≡ ys)
cons_split x y xs ys e = (cc, cc)

pub append_split : (xs xs2 ys ys2 : List ℕ) → length xs ≡ length xs2 → xs ++ ys ≡ xs2 ++ ys2 → (xs ≡ xs2) × (ys ≡ ys2)
append_split [] [] ys ys2 l e = (refl, e)
append_split [] (x ∷ xs2) ys ys2 l e = absurd (omega arith)
append_split (x ∷ xs) [] ys ys2 l e = absurd (omega arith)
append_split (x ∷ xs) (y ∷ xs2) ys ys2 l e = let h = cons_split x y (xs ++ ys) (xs2 ++ ys2) e in let t = append_split xs xs2 ys ys2 (omega arith) h.1 in
    (λ i. h.0 i ∷ t.0 i, t.1)

pub up_more : (page : ℕ → ℕ) (P : Place) (way : Way) (R : Place) (n : ℕ) → R.rank ≡ suc n → Follows page P way R → (way ≡ More) × (R.path ≡ P.path) × (P.rank ≡ n) × (R.leaf ≡ P.leaf)
up_more page P More R n e f = let rank : R.rank ≡ P.rank + 1 = f.1 in (refl, f.0, omega arith, f.2)
up_more page P (Branch k) R n e f = let none : R.rank ≡ 0 = f.4 in absurd (omega arith)

pub record IsBranch (page : ℕ → ℕ) (P : Place) (by : Way) (R : Place) (k : ℕ) : Type 0 where
  pub way : by ≡ Branch k
  pub kind : P.leaf ≡ false
  pub room : k < 7
  pub some_code : page (2 + 2 * k) ≢ 0
  pub path : R.path ≡ P.path ++ page (2 + 2 * k) ∷ []

pub up_branch : (page : ℕ → ℕ) (P : Place) (way : Way) (R : Place) → R.rank ≡ 0 → Follows page P way R → (k : ℕ) × IsBranch page P way R k
up_branch page P More R e f = let rank : R.rank ≡ P.rank + 1 = f.1 in absurd (omega arith)
up_branch page P (Branch k) R e f = (k, record { way = refl; kind = f.0; room = f.1; some_code = f.2; path = f.3 })

module _ (w : ℕ → ℕ → ℕ) (s : Sheet) (m : ℕ → Place) (codes : ℕ → List ℕ) (placed : ℕ → Type 0) (t : Tree w s m codes placed) where
  -- a page of p's chain
  pub record IsInChain (p n q : ℕ) : Type 0 where
    pub linked : IsLinked s q
    pub path : (m q).path ≡ (m p).path
    pub rank : (m q).rank ≡ n
    pub kind : (m q).leaf ≡ (m p).leaf
    pub more : n < (m p).rank → w q 1 ≢ 0

  pub chain_back : (n p : ℕ) → IsLinked s p → (m p).rank ≡ n → (j : ℕ) → j ≤ n → (q : ℕ) × IsInChain p j q
  chain_back zero p l e j most = (p, record { linked = l; path = refl; rank = omega arith; kind = refl; more = λ h. absurd (omega arith) })
  chain_back (suc n) p l e j most =
      let below : p ≢ 1 = λ z. let top : (m 1).rank ≡ 0 = ap (λ (x : Place). x.rank) t.top in let here : (m p).rank ≡ (m 1).rank = ap (λ x. (m x).rank) z in absurd (omega arith) in
      let name = t.named p l below in
      let f : ℕ = (m p).from in
      let up = up_more (w f) (m f) (m p).way (m p) n e name.follows in
      dite (ℕ_discrete j (suc n))
      (λ y. (p, record { linked = l; path = refl; rank = e ∙ sym y; kind = refl; more = λ h. absurd (omega arith) }))
      (λ y. dite (ℕ_discrete j n)
      (λ z. (f, record { linked = name.linked; path = sym up.1; rank = up.2 ∙ sym z; kind = sym up.3; more = λ h none. t.numbered p l (sym (ap (λ x. w f (at_way x)) (sym up.0) ∙ name.there) ∙ none) }))
      (λ z. let c = chain_back n f name.linked up.2 j (omega arith) in let c1 = c.1 in
      (c.0, record { linked = c1.linked; path = c1.path ∙ sym up.1; rank = c1.rank; kind = c1.kind ∙ sym up.3; more = λ h. let r = up.2 in c1.more (omega arith) })))

  -- pages with one path are of one kind
  pub one_kind : (p q : ℕ) → IsLinked s p → IsLinked s q → (m p).path ≡ (m q).path → (m p).leaf ≡ (m q).leaf
  one_kind p q l o e =
      let a = chain_back (m p).rank p l refl 0 (omega arith) in let b = chain_back (m q).rank q o refl 0 (omega arith) in
      let same : a.0 ≡ b.0 = t.alone a.0 b.0 a.1.linked b.1.linked (a.1.path ∙ (e ∙ sym b.1.path)) (a.1.rank ∙ sym b.1.rank) in
      sym a.1.kind ∙ (ap (λ x. (m x).leaf) same ∙ b.1.kind)

  -- the inner page above p at depth d
  pub record IsAbove (p d q k : ℕ) (rest : List ℕ) : Type 0 where
    pub linked : IsLinked s q
    pub kind : (m q).leaf ≡ false
    pub room : k < 7
    pub some_code : w q (2 + 2 * k) ≢ 0
    pub link : w q (3 + 2 * k) ≢ 0
    pub depth : length (m q).path ≡ d
    pub path : (m p).path ≡ (m q).path ++ w q (2 + 2 * k) ∷ rest

  pub above : (n p : ℕ) → IsLinked s p → length (m p).path ≡ n → (d : ℕ) → d < n → (q : ℕ) × (k : ℕ) × (rest : List ℕ) × IsAbove p d q k rest
  above zero p l e d less = absurd (omega arith)
  above (suc n) p l e d less =
      let a = chain_back (m p).rank p l refl 0 (omega arith) in
      let a1 = a.1 in
      let long : length (m a.0).path ≡ suc n = ap length a1.path ∙ e in
      let below : a.0 ≢ 1 = λ z. let none : length (m a.0).path ≡ 0 = ap (λ x. length (m x).path) z ∙ ap (λ (x : Place). length x.path) t.top in absurd (omega arith) in
      let name = t.named a.0 a1.linked below in
      let f : ℕ = (m a.0).from in
      let up = up_branch (w f) (m f) (m a.0).way (m a.0) a1.rank name.follows in
      let b = up.1 in
      let c : ℕ = w f (2 + 2 * up.0) in
      let long2 : length (m a.0).path ≡ length (m f).path + 1 = ap length b.path ∙ length-append (m f).path (c ∷ []) in
      let short : length (m f).path ≡ n = omega arith in
      dite (ℕ_discrete d n)
      (λ y. (f, up.0, [], record { linked = name.linked; kind = b.kind; room = b.room; some_code = b.some_code; link = λ z. t.numbered a.0 a1.linked (sym (ap (λ x. w f (at_way x)) (sym b.way) ∙ name.there) ∙ z); depth = short ∙ sym y; path = sym a1.path ∙ b.path }))
      (λ y. let u = above n f name.linked short d (omega arith) in let v = u.3 in (
        u.0,
        u.1,
        u.2 ++ c ∷ [],
        record {
          linked = v.linked;
          kind = v.kind;
          room = v.room;
          some_code = v.some_code;
          link = v.link;
          depth = v.depth;
          path = sym a1.path ∙ (b.path ∙ (ap (λ z. z ++ c ∷ []) v.path ∙ append_assoc (m u.0).path (w u.0 (2 + 2 * u.1) ∷ u.2) (c ∷ [])));
        },
      ))

  -- a linked leaf and a linked page of which one row has both paths: the leaf's path is no shorter
  leaf_deep : (p q : ℕ) (row rest rest2 : List ℕ) → IsLinked s p → IsLinked s q → (m q).leaf ≡ true → row ≡ (m p).path ++ rest → row ≡ (m q).path ++ rest2 → length (m q).path < length (m p).path → ⊥
  leaf_deep p q row rest rest2 l o leaf a b less =
      let u = above (length (m p).path) p l refl (length (m q).path) less in let v = u.3 in
      let whole : (m u.0).path ++ (w u.0 (2 + 2 * u.1) ∷ u.2 ++ rest) ≡ (m q).path ++ rest2 = sym (append_assoc (m u.0).path (w u.0 (2 + 2 * u.1) ∷ u.2) rest) ∙ (ap (λ z. z ++ rest) (sym v.path) ∙ (sym a ∙ b)) in
      let same = (append_split (m u.0).path (m q).path _ rest2 v.depth whole).0 in
      let clash : false ≡ true = sym v.kind ∙ (one_kind u.0 q v.linked o same ∙ leaf) in
      absurd cc

  -- the place of an old row's next code: in the chain of each linked inner page on its path
  pub code_home : (p r c : ℕ) (rest : List ℕ) → IsLinked s p → (m p).leaf ≡ false → Stands w s m r → codes r ≡ (m p).path ++ c ∷ rest
      → (q : ℕ) × (k : ℕ) × HasSlot w s m false c q k × ((m q).path ≡ (m p).path) × (w q (3 + 2 * k) ≢ 0)
  code_home p r c rest l inner st below =
      let q : ℕ = st.0 in
      let sh = st.2 in
      let e = (t.entries r q st.1 sh).1 in
      dite (ℕ_discrete (length (m q).path) (length (m p).path))
      (λ y. let same = (append_split (m q).path (m p).path e.0 (c ∷ rest) y (sym e.1 ∙ below)).0 in
      let clash : true ≡ false = sym sh.kind ∙ (one_kind q p sh.linked l same ∙ inner) in absurd cc)
      (λ y. dite (ℕ_discrete (length (m p).path - length (m q).path) 0)
      (λ z. let u = above (length (m q).path) q sh.linked refl (length (m p).path) (omega arith) in let v = u.3 in
      let whole : (m u.0).path ++ (w u.0 (2 + 2 * u.1) ∷ u.2 ++ e.0) ≡ (m p).path ++ c ∷ rest = sym (append_assoc (m u.0).path (w u.0 (2 + 2 * u.1) ∷ u.2) e.0) ∙ (ap (λ x. x ++ e.0) (sym v.path) ∙ (sym e.1 ∙ below)) in
      let two = append_split (m u.0).path (m p).path (w u.0 (2 + 2 * u.1) ∷ u.2 ++ e.0) (c ∷ rest) v.depth whole in
      let code = (cons_split (w u.0 (2 + 2 * u.1)) c (u.2 ++ e.0) rest two.1).0 in
      (u.0, u.1, record { linked = v.linked; kind = v.kind; room = v.room; some_n = λ n. v.some_code (code ∙ n); there = code }, two.0, v.link))
      (λ z. absurd (leaf_deep p q (codes r) (c ∷ rest) e.0 l sh.linked sh.kind below e.1 (omega arith))))

  -- a row whose path goes through a linked leaf chain stands in it
  pub row_home : (p r : ℕ) → IsLinked s p → (m p).leaf ≡ true → (st : Stands w s m r) → IsBelow (m p).path (codes r) → (m st.0).path ≡ (m p).path
  row_home p r l leaf st below =
      let q : ℕ = st.0 in
      let sh = st.2 in
      let e = (t.entries r q st.1 sh).1 in
      dite (ℕ_discrete (length (m q).path) (length (m p).path))
      (λ y. (append_split (m q).path (m p).path e.0 below.0 y (sym e.1 ∙ below.1)).0)
      (λ y. dite (ℕ_discrete (length (m p).path - length (m q).path) 0)
      (λ z. absurd (leaf_deep q p (codes r) e.0 below.0 sh.linked l leaf e.1 below.1 (omega arith)))
      (λ z. absurd (leaf_deep p q (codes r) below.0 e.0 l sh.linked sh.kind below.1 e.1 (omega arith))))
