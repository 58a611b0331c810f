-- A row that stands in the tree is found by its walk.
use Rattle.std.proofs.Common.{◌≡◌, ◌≢◌, ℕ, zero, suc, ◌+◌, ◌*◌, ◌%◌, inl, inr, true, false, List, [], ◌∷◌, length, sym, refl, ap, ◌∙◌, subst, arith, length-append}
use Rattle.board_core.specs.declared.tree.Way.TheVariants.{More}
use Rattle.board_core.specs.Sheets.{Sheet, IsLinked}
use Rattle.board_core.specs.ClassTree.{Place, at_way, header_of, Stands, Tree}
use Rattle.board_core.specs.RowWalk.{LeadsTo, IsFound}
use Rattle.board_core.proofs.Walk.{up_more, up_branch}

module _ (w : ℕ → ℕ → ℕ) (s : Sheet) (m : ℕ → Place) (codes : ℕ → List ℕ) (placed : ℕ → Type 0) (t : Tree w s m codes placed) where
  abbrev IsLed : ℕ → Type 0
  IsLed p = (n : ℕ) × LeadsTo w n (m p).path p

  kind_of_leaf : (p : ℕ) → IsLinked s p → (m p).leaf ≡ true → w p 0 % 4 ≡ 1
  kind_of_leaf p l leaf = let e : w p 0 ≡ 1 + 4 * length (m p).path + 32 * (m p).rank = (t.pages p l).header ∙ (λ i. header_of record { path = (m p).path; rank = (m p).rank; leaf = leaf i; from = 0; way = More }) in omega arith

  kind_of_inner : (p : ℕ) → IsLinked s p → (m p).leaf ≡ false → w p 0 % 4 ≡ 2
  kind_of_inner p l inner = let e : w p 0 ≡ 2 + 4 * length (m p).path + 32 * (m p).rank = (t.pages p l).header ∙ (λ i. header_of record { path = (m p).path; rank = (m p).rank; leaf = inner i; from = 0; way = More }) in omega arith

  -- along a chain
  along : (a : ℕ) → ((p : ℕ) → IsLinked s p → length (m p).path ≡ a → (m p).rank ≡ 0 → IsLed p) → (b p : ℕ) → IsLinked s p → length (m p).path ≡ a → (m p).rank ≡ b → IsLed p
  along a start zero p l long rank = start p l long rank
  along a start (suc b) p l long rank =
      let below : p ≢ 1 = λ z. let top : (m 1).rank ≡ 0 = ap (λ (x : Place). x.rank) t.top in let here : (m p).rank ≡ (m 1).rank = ap (λ x. (m x).rank) z in absurd (omega arith) in
      let name = t.named p l below in
      let f : ℕ = (m p).from in
      let up = up_more (w f) (m f) (m p).way (m p) b rank name.follows in
      let before = along a start b f name.linked (ap length (sym up.1) ∙ long) up.2 in
      (suc before.0, (t.numbered p l, inl record { from = f; leads = subst (λ (x : List ℕ). LeadsTo w before.0 x f) (sym up.1) before.1; named = ap (λ x. w f (at_way x)) (sym up.0) ∙ name.there }))

  -- depth by depth
  led : (a p : ℕ) → IsLinked s p → length (m p).path ≡ a → IsLed p
  led zero p l long = along zero
      (λ q o none first. let path : (m q).path ≡ [] = empty (m q).path none in
      let is : q ≡ 1 = t.alone q 1 o t.root (path ∙ sym (ap (λ (x : Place). x.path) t.top)) (first ∙ sym (ap (λ (x : Place). x.rank) t.top)) in
      (0, (path, is)))
      (m p).rank p l long refl
    where
      empty : (xs : List ℕ) → length xs ≡ 0 → xs ≡ []
      empty [] e = refl
      empty (x ∷ xs) e = absurd (omega arith)
  led (suc a) p l long = along (suc a)
      (λ q o deep first. let below : q ≢ 1 = λ z. let none : length (m q).path ≡ 0 = ap (λ x. length (m x).path) z ∙ ap (λ (x : Place). length x.path) t.top in absurd (omega arith) in
      let name = t.named q o below in
      let f : ℕ = (m q).from in
      let up = up_branch (w f) (m f) (m q).way (m q) first name.follows in
      let b = up.1 in
      let size : length (m q).path ≡ length (m f).path + 1 = ap length b.path ∙ length-append (m f).path (w f (2 + 2 * up.0) ∷ []) in
      let before = led a f name.linked (omega arith) in (
        suc before.0,
        (
          t.numbered q o,
          inr record {
            before = (m f).path;
            from = f;
            pair = up.0;
            leads = before.1;
            inner = kind_of_inner f name.linked b.kind;
            room = b.room;
            path_is = b.path;
            named = ap (λ x. w f (at_way x)) (sym b.way) ∙ name.there;
          },
        ),
      ))
      (m p).rank p l long refl

  pub found : (r : ℕ) → Stands w s m r → IsFound w (codes r) r
  found r (p, i, slot) =
      let below = (t.entries r p i slot).1 in
      let way = led (length (m p).path) p slot.linked refl in record {
        path = (m p).path;
        rest = below.0;
        below = below.1;
        steps = way.0;
        page = p;
        leads = way.1;
        leaf = kind_of_leaf p slot.linked slot.kind;
        index = i;
        room = slot.room;
        there = slot.there;
      }
