-- Pages that a caller has reached are full on each board that has it: one that it read to its end, and a leaf behind which it went on.
use Rattle.std.proofs.Common.{◌≡◌, ◌≢◌, ℕ, ◌+◌, ◌<◌, ◌≤◌, ◌⊎◌, Bool, true, List, length, sym, refl, ap, ◌∙◌, subst, arith, ⊎_elim}
use mathlib.Core.Option.{some}
use lib.ListN.{get_elem?}
use Rattle.htss_defs.specs.declared.shape.Shape.{Shape}
use Rattle.board_core.specs.declared.account.Account.{Account}
use Rattle.board_core.specs.declared.account.View.{View}
use Rattle.board_core.specs.declared.tree.Reached.{Reached}
use Rattle.board_core.specs.Each.{Each, In}
use Rattle.board_core.specs.Words.{Parts}
use Rattle.board_core.specs.Sheets.{Sheet, sheet_of, IsLinked}
use Rattle.board_core.specs.Rows.{codes_in, IsPlaced}
use Rattle.board_core.specs.ClassTree.{Place, slot_at, page_room, PageStands, Tree}
use Rattle.board_core.specs.KnownPages.{place_of, IsFullLeaf, ReachedFits, KnowsPages}
use Rattle.board_core.specs.KnownRule.{Knows}
use Rattle.board_core.specs.OldRows.{IsOldRow}
use Rattle.board_core.specs.Boards.{HasBoard}
use Rattle.board_core.proofs.Everyone.{mine}
use Rattle.board_core.proofs.Seen.{has_at}
use Rattle.board_core.proofs.Walk.{chain_back}

module _ (w : ℕ → ℕ → ℕ) (s : Sheet) (m : ℕ → Place) (codes : ℕ → List ℕ) (put : ℕ → Type 0) (t : Tree w s m codes put) (x y : Reached) (f : ReachedFits w s m x) (g : ReachedFits w s m y)
    (leaf : x.leaf ≡ true) (path : y.path ≡ x.path) (kind : y.leaf ≡ x.leaf) (rank : y.rank ≡ x.rank + 1) where
  -- the leaf behind is linked, since it is not the first of its chain
  linked : IsLinked s y.page
  linked = ⊎_elim (λ (l : IsLinked s y.page). l) (λ (o : IsFullLeaf (w y.page) y). let first = o.rank in absurd (omega arith)) (g.old (kind ∙ leaf))

  full_here : (i : ℕ) → i < page_room x.leaf → w x.page (slot_at x.leaf i) ≢ 0
  full_here i less =
      let there : m y.page ≡ place_of y = g.place linked in
      let ranks : (m y.page).rank ≡ y.rank = ap (λ (P : Place). P.rank) there in
      let back = chain_back w s m codes put t (m y.page).rank y.page linked refl x.rank (omega arith) in
      let d = back.1 in ⊎_elim
      (λ (l : IsLinked s x.page).
      let place : m x.page ≡ place_of x = f.place l in
      let same : back.0 ≡ x.page = t.alone back.0 x.page d.linked l (d.path ∙ (ap (λ (P : Place). P.path) there ∙ (path ∙ ap (λ (P : Place). P.path) (sym place)))) (d.rank ∙ ap (λ (P : Place). P.rank) (sym place)) in
      let page : PageStands (w x.page) (place_of x) = subst (PageStands (w x.page)) place (t.pages x.page l) in
      page.full (λ none. d.more (omega arith) (ap (λ q. w q 1) same ∙ none)) i less)
      (λ (o : IsFullLeaf (w x.page) x).
      let room : page_room x.leaf ≡ 14 = ap page_room leaf in
      subst (λ (b : Bool). w x.page (slot_at b i) ≢ 0) (sym leaf) (o.full i (omega arith)))
      (f.old leaf)

module _ (k : Shape) (p : Parts) (vs : List View) (a : Account) (b : HasBoard k p vs a) where
  known_on : KnowsPages p.pages (sheet_of p.pool.states vs) b.rule.tree.place (codes_in k p.regions) (IsOldRow k p.regions p.log.slots a.tree.front) a.tree.reached
  known_on = (subst (λ (x : Account). Knows p.pages (sheet_of p.pool.states vs) b.rule.tree.place (codes_in k p.regions) (IsPlaced vs) (IsOldRow k p.regions p.log.slots) x.tree) b.me
      (mine (λ x. Knows p.pages (sheet_of p.pool.states vs) b.rule.tree.place (codes_in k p.regions) (IsPlaced vs) (IsOldRow k p.regions p.log.slots) x.tree) vs b.id b.view b.at b.rule.tree.known)).known

  -- a page that was read to its end
  pub full_read : (x : Reached) → In x a.tree.reached → page_room x.leaf ≤ length x.slots → (i : ℕ) → i < page_room x.leaf → p.pages x.page (slot_at x.leaf i) ≢ 0
  full_read x there full i less none = let e = has_at x.slots i (omega arith) in let g = (known_on.fits there.0 x there.1).known i e.0 e.1 in g.0 (sym g.1 ∙ none)

  -- a leaf behind which another was reached
  pub full_behind : (x y : Reached) → In x a.tree.reached → In y a.tree.reached → x.leaf ≡ true → y.path ≡ x.path → y.leaf ≡ x.leaf → y.rank ≡ x.rank + 1 → (i : ℕ) → i < page_room x.leaf → p.pages x.page (slot_at x.leaf i) ≢ 0
  full_behind x y there behind leaf path kind rank = full_here p.pages (sheet_of p.pool.states vs) b.rule.tree.place (codes_in k p.regions) (IsPlaced vs) b.rule.tree.tree x y (known_on.fits there.0 x there.1) (known_on.fits behind.0 y behind.1) leaf path kind rank
