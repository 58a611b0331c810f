-- A chain of full pages has many rows: its codes or entries differ, and each has a row of its own that some caller has begun.
use Rattle.std.proofs.Common.{◌≡◌, ◌≢◌, ℕ, zero, suc, ◌+◌, ◌*◌, ◌/◌, ◌%◌, ◌<◌, ◌≤◌, Bool, true, false, List, [], ◌∷◌, ◌++◌, length, sym, refl, ap, ◌∙◌, subst, arith}
use mathlib.Core.Option.{some}
use lib.ListN.{get_elem?}
use Rattle.htss_defs.specs.declared.shape.Shape.{Shape}
use Rattle.atomic_table.specs.Table.{State}
use Rattle.htss_defs.specs.declared.history.Event.{Event}
use Rattle.board_core.specs.declared.account.Account.{Account}
use Rattle.board_core.specs.declared.account.View.{View}
use Rattle.board_core.specs.declared.entry.Entry.TheVariants.{ChainFull}
use Rattle.board_core.specs.declared.entry.Noted.{Noted}
use Rattle.board_core.specs.Each.{Each, sum_of}
use Rattle.board_core.specs.Words.{Parts, parts_of}
use Rattle.board_core.specs.Histories.{history_of}
use Rattle.board_core.specs.Accounts.{accounts_in, total, is_loader}
use Rattle.board_core.specs.Sheets.{Sheet, sheet_of, IsLinked}
use Rattle.board_core.specs.ClassTree.{Place, kind_of, slot_at, page_room, HasSlot, IsBelow, Follows, Tree}
use Rattle.board_core.specs.declared.tree.Way.{Way}
use Rattle.board_core.specs.declared.tree.Way.TheVariants.{More, Branch}
use Rattle.board_core.specs.Rows.{codes_in, IsBegun, IsPlaced}
use Rattle.board_core.specs.TreeRule.{CodeBegun}
use Rattle.board_core.specs.ChainRule.{HasFullChain, IsTrueChain}
use Rattle.board_core.specs.CountRule.{insertions_of}
use Rattle.board_core.specs.Holds.{Rule, Holds}
use Rattle.board_core.proofs.RowFrame.{placed_begun}
use Rattle.board_core.proofs.FewPages.{all_gathered}
use Rattle.board_core.proofs.Counted.{AreApart, few_apart, listed}

-- two codes behind the same path of one row are one
same_code : (path : List ℕ) (c d : ℕ) (xs ys : List ℕ) → (path ++ c ∷ []) ++ xs ≡ (path ++ d ∷ []) ++ ys → c ≡ d
same_code [] c d xs ys e = cc
same_code (p ∷ path) c d xs ys e = let rest : (path ++ c ∷ []) ++ xs ≡ (path ++ d ∷ []) ++ ys = cc in same_code path c d xs ys rest

-- what headers tell
same_kind : (a b : Bool) (x y u v : ℕ) → kind_of a + 4 * x + 32 * y ≡ kind_of b + 4 * u + 32 * v → a ≡ b
same_kind true true x y u v e = refl
same_kind false false x y u v e = refl
same_kind true false x y u v e = absurd (omega arith)
same_kind false true x y u v e = absurd (omega arith)

next_place : (page : ℕ → ℕ) (P : Place) (way : Way) (R : Place) → way ≡ More → Follows page P way R → R.path ≡ P.path
next_place page P More R e f = f.0
next_place page P (Branch k) R e f = absurd cc

room_some : (leaf : Bool) → 7 ≤ page_room leaf
room_some true = omega arith
room_some false = omega arith

module _ (w : ℕ → ℕ → ℕ) (s : Sheet) (m : ℕ → Place) (codes : ℕ → List ℕ) (placed begun : ℕ → Type 0) (t : Tree w s m codes placed) (put : (n : ℕ) → placed n → begun n) (some_row : CodeBegun w s m codes begun) where
  -- the row of a slot: an entry's own, or one with the code behind the path
  abbrev IsRowOf : Bool → List ℕ → ℕ → ℕ → Type 0
  IsRowOf true path n r = r ≡ n
  IsRowOf false path n r = IsBelow (path ++ n ∷ []) (codes r)

  row_at : (leaf : Bool) (n p i : ℕ) → HasSlot w s m leaf n p i → (r : ℕ) × begun r × IsRowOf leaf (m p).path n r
  row_at true n p i h = (n, put n (t.entries n p i h).0, refl)
  row_at false n p i h = some_row n p i h

  same_word : (leaf : Bool) (path : List ℕ) (n o r : ℕ) → IsRowOf leaf path n r → IsRowOf leaf path o r → n ≡ o
  same_word true path n o r a b = sym a ∙ b
  same_word false path n o r a b = same_code path n o a.0 b.0 (sym a.1 ∙ b.1)

  same_slot : (leaf : Bool) (n p q i j : ℕ) → HasSlot w s m leaf n p i → HasSlot w s m leaf n q j → (m p).path ≡ (m q).path → (p ≡ q) × (i ≡ j)
  same_slot true n p q i j a b e = t.rows n p q i j a b
  same_slot false n p q i j a b e = t.apart n p q i j a b e

  -- the page that a page names as its next has its path
  next_path : (p q : ℕ) → IsLinked s p → w p 1 ≢ 0 → w p 1 ≡ q → (m q).path ≡ (m p).path
  next_path p q l some_next is = subst (λ (z : ℕ). (m z).path ≡ (m p).path) is
      (let from = t.leads p More l tt some_next in
      let q : ℕ = w p 1 in
      let name = t.named q from.linked from.below in
      let f : ℕ = (m q).from in
      next_place (w f) (m f) (m q).way (m q) from.by name.follows ∙ ap (λ x. (m x).path) from.from)

  module _ (count : ℕ) (d : HasFullChain w s count) where
    -- all pages of the chain have one path
    path_next : (i j : ℕ) (h : i < count) (g : j < count) → j ≡ i + 1 → (m (d.chain.page j g)).path ≡ (m (d.chain.page i h)).path
    path_next i j h g e = subst (λ (z : ℕ). (o : z < count) → (m (d.chain.page z o)).path ≡ (m (d.chain.page i h)).path) (sym e)
        (λ o. next_path (d.chain.page i h) (d.chain.page (i + 1) o) (d.linked i h) (d.chain.more i h o) (d.chain.next i h o)) g

    path_second : (i : ℕ) (h : i < count) → (m (d.chain.page i h)).path ≡ (m (d.chain.page 1 d.several)).path
    path_second zero h = sym (path_next 0 1 h d.several refl)
    path_second (suc i) h = path_next i (suc i) (omega arith) h (omega arith) ∙ path_second i (omega arith)

    abbrev path : List ℕ
    path = (m (d.chain.page 1 d.several)).path

    abbrev word : (c : ℕ) → c / 7 < count → ℕ
    word c h = w (d.chain.page (c / 7) h) (slot_at d.chain.leaf (c % 7))

    kind : (i : ℕ) (h : i < count) → (m (d.chain.page i h)).leaf ≡ d.chain.leaf
    kind i h = let l = d.linked i h in same_kind _ _ _ _ _ _ (sym (t.pages (d.chain.page i h) l).header ∙ d.chain.header i h)

    slot : (c : ℕ) (h : c / 7 < count) → HasSlot w s m d.chain.leaf (word c h) (d.chain.page (c / 7) h) (c % 7)
    slot c h = let room = room_some d.chain.leaf in record {
      linked = d.linked (c / 7) h;
      kind = kind (c / 7) h;
      room = omega arith;
      some_n = d.chain.full (c / 7) (c % 7) h (omega arith);
      there = refl;
    }

    -- a row that some caller has begun, of the slot of this number
    abbrev HasRowOf : ℕ → ℕ → Type 0
    HasRowOf c r = (h : c / 7 < count) × begun r × IsRowOf d.chain.leaf path (word c h) r

    row_of : (c : ℕ) → c < 7 * count → (r : ℕ) × HasRowOf c r
    row_of c less = let h : c / 7 < count = omega arith in
        let row = row_at d.chain.leaf (word c h) (d.chain.page (c / 7) h) (c % 7) (slot c h) in
        (row.0, (h, row.1, subst (λ (x : List ℕ). IsRowOf d.chain.leaf x (word c h) row.0) (path_second (c / 7) h) row.2))

    same_rank : (i j : ℕ) (h : i < count) (g : j < count) → d.chain.page i h ≡ d.chain.page j g → i ≡ j
    same_rank i j h g e = let header = d.chain.header i h in let other = d.chain.header j g in let same : w (d.chain.page i h) 0 ≡ w (d.chain.page j g) 0 = ap (λ p. w p 0) e in omega arith

    rows_apart : (c e r : ℕ) → HasRowOf c r → HasRowOf e r → c ≡ e
    rows_apart c e r (h, _, a) (g, _, b) =
        let words : word c h ≡ word e g = same_word d.chain.leaf path (word c h) (word e g) r a b in
        let slots = same_slot d.chain.leaf (word c h) (d.chain.page (c / 7) h) (d.chain.page (e / 7) g) (c % 7) (e % 7) (slot c h)
        (subst (λ n. HasSlot w s m d.chain.leaf n (d.chain.page (e / 7) g) (e % 7)) (sym words) (slot e g)) (path_second (c / 7) h ∙ sym (path_second (e / 7) g)) in
        let rank : c / 7 ≡ e / 7 = same_rank (c / 7) (e / 7) h g slots.0 in
        let place : c % 7 ≡ e % 7 = slots.1 in omega arith

    -- seven rows a page, all different
    pub chain_rows : (rows : List ℕ) × (length rows ≡ 7 * count) × Each begun rows × AreApart rows
    chain_rows = let all = listed HasRowOf (7 * count) row_of in
        (all.0, all.1, λ c r there. (all.2 c r there).1, λ c e r here there. rows_apart c e r (all.2 c r here) (all.2 e r there))

-- where a chain of so many full pages stands in the tree, seven times as many rows were begun
pub many_rows : (k : Shape) (p : Parts) (history : List Event) (vs : List View) → Rule k p history vs → (count : ℕ) → HasFullChain p.pages (sheet_of p.pool.states vs) count → 7 * count ≤ total insertions_of vs
many_rows k p history vs r count d =
    let all = chain_rows p.pages (sheet_of p.pool.states vs) r.tree.place (codes_in k p.regions) (IsPlaced vs) (IsBegun vs) r.tree.tree (λ n. placed_begun k vs n r.rows) r.tree.begun count d in
    let most = few_apart vs all.0 all.2 all.3 in
    let long = all.1 in omega arith

-- where all loaders are among the accounts of one view, and one of them was told that a chain is full, they began as many
pub many_if_gathered : (k : Shape) (s : State (Unit {0}) View) (id : ℕ) (v : View) → Holds k s → get_elem? s.views id ≡ some v → sum_of (λ a. is_loader a.who) (accounts_in v) ≡ k.loaders
    → (i : ℕ) (a : Account) → get_elem? (accounts_in v) i ≡ some a → (j : ℕ) (n : Noted) → get_elem? a.entries j ≡ some n → (count : ℕ) → n.entry ≡ ChainFull count → 7 * k.chain ≤ sum_of insertions_of (accounts_in v)
many_if_gathered k s id v h at all i a there j n spot count is =
    let p : Parts = parts_of k s.words in
    let told : IsTrueChain k p.pages (sheet_of p.pool.states s.views) (ChainFull count) = subst (IsTrueChain k p.pages (sheet_of p.pool.states s.views)) is (h.rule.chains id v at i a there j n spot) in
    let long = told.0 in
    let most = many_rows k p (history_of k p) s.views h.rule count told.1 in
    let only = all_gathered k s id v h at all in omega arith
