-- What a caller may rely on of the pages that it reached: facts that name no word of the board.
use Rattle.std.proofs.Common.{◌≡◌, ◌≢◌, ℕ, ◌+◌, ◌<◌, ◌≤◌, Bool, true, false, List, length, sym, refl, ap, ◌∙◌, subst, ⊎_elim, arith}
use mathlib.Core.Option.{some}
use lib.ListN.{get_elem?}
use Rattle.board_core.specs.declared.tree.Reached.{Reached}
use Rattle.board_core.specs.Sheets.{IsLinked}
use Rattle.board_core.specs.Each.{In}
use Rattle.board_core.specs.ClassTree.{chained, Place, HasSlot, slot_at, page_room, IsBelow}
use Rattle.board_core.specs.KnownPages.{place_of, IsFullLeaf, AreKept}
use Rattle.board_core.proofs.Lists.{inside}
use Rattle.descent.specs.Moment.{Moment}

module _ (chain : ℕ) (codes : ℕ → List ℕ) (put old : ℕ → Type 0) (rs : List Reached) (m : Moment chain codes put old rs) where
  place : (x : Reached) → In x rs → IsLinked m.sheet x.page → m.place x.page ≡ place_of x
  place x h l = (m.known.fits h.0 x h.1).place l

  shows : (x : Reached) → In x rs → IsLinked m.sheet x.page → (a n : ℕ) → get_elem? x.slots a ≡ some n → HasSlot m.words m.sheet m.place x.leaf n x.page a
  shows x h l a n e =
      let f = m.known.fits h.0 x h.1 in
      let k = f.known a n e in
      let within = inside x.slots a n e in
      let room = f.room in
      record { linked = l; kind = ap (λ (p : Place). p.leaf) (place x h l); room = omega arith; some_n = k.0; there = k.1 }

  -- one page stands at one rank
  same_rank : (x y : Reached) → In x rs → In y rs → IsLinked m.sheet x.page → IsLinked m.sheet y.page → x.page ≡ y.page → x.rank ≡ y.rank
  same_rank x y hx hy lx ly e = ap (λ (p : Place). p.rank) (sym (place x hx lx) ∙ (ap m.place e ∙ place y hy ly))

  -- a code that was read in a chain was read at one place
  pub codes_apart : (x y : Reached) → In x rs → In y rs → x.leaf ≡ false → y.leaf ≡ false → x.path ≡ y.path
      → (a b c : ℕ) → get_elem? x.slots a ≡ some c → get_elem? y.slots b ≡ some c → (x.rank ≡ y.rank) × (a ≡ b)
  codes_apart x y hx hy ex ey path a b c ea eb =
      let lx = (m.known.fits hx.0 x hx.1).inner ex in
      let ly = (m.known.fits hy.0 y hy.1).inner ey in
      let same = m.tree.apart c x.page y.page a b
      (subst (λ (k : Bool). HasSlot m.words m.sheet m.place k c x.page a) ex (shows x hx lx a c ea))
      (subst (λ (k : Bool). HasSlot m.words m.sheet m.place k c y.page b) ey (shows y hy ly b c eb))
      (ap (λ (p : Place). p.path) (place x hx lx) ∙ (path ∙ ap (λ (p : Place). p.path) (sym (place y hy ly)))) in
      (same_rank x y hx hy lx ly same.0, same.1)

  known_entry : (x : Reached) → In x rs → x.leaf ≡ true → (a r : ℕ) → get_elem? x.slots a ≡ some r → (a < 14) × (r ≢ 0) × (m.words x.page (2 + a) ≡ r)
  known_entry x h leaf a r e =
      let f = m.known.fits h.0 x h.1 in
      let k = f.known a r e in
      let within = inside x.slots a r e in
      let room : length x.slots ≤ 14 = subst (λ (b : Bool). length x.slots ≤ page_room b) leaf f.room in
      (omega arith, k.0, subst (λ (b : Bool). m.words x.page (slot_at b a) ≡ r) leaf k.1)

  -- entries of one leaf differ
  pub rows_apart : (x : Reached) → In x rs → x.leaf ≡ true → (a b r : ℕ) → get_elem? x.slots a ≡ some r → get_elem? x.slots b ≡ some r → a ≡ b
  rows_apart x h leaf a b r ea eb = ⊎_elim
      (λ (l : IsLinked m.sheet x.page). (m.tree.rows r x.page x.page a b
      (subst (λ (k : Bool). HasSlot m.words m.sheet m.place k r x.page a) leaf (shows x h l a r ea))
      (subst (λ (k : Bool). HasSlot m.words m.sheet m.place k r x.page b) leaf (shows x h l b r eb))).1)
      (λ (k : AreKept (m.words x.page) codes put x.path). let ka = known_entry x h leaf a r ea in let kb = known_entry x h leaf b r eb in k.differ a b ka.0 kb.0 (ka.2 ∙ sym kb.2))
      (m.kept h.0 x h.1 leaf)

  deep_linked : (x : Reached) → In x rs → x.leaf ≡ true → 5 ≤ length x.path → IsLinked m.sheet x.page
  unfolding chained
  deep_linked x h leaf deep = ⊎_elim (λ (l : IsLinked m.sheet x.page). l) (λ (o : IsFullLeaf (m.words x.page) x). let low = o.low in absurd (omega arith)) ((m.known.fits h.0 x h.1).old leaf)

  -- a row that was read in a leaf chain of the last depth was read at one rank
  pub deep_apart : (x y : Reached) → In x rs → In y rs → x.leaf ≡ true → y.leaf ≡ true → 5 ≤ length x.path → 5 ≤ length y.path
      → (a b r : ℕ) → get_elem? x.slots a ≡ some r → get_elem? y.slots b ≡ some r → x.rank ≡ y.rank
  deep_apart x y hx hy ex ey dx dy a b r ea eb =
      let lx = deep_linked x hx ex dx in
      let ly = deep_linked y hy ey dy in
      let same = m.tree.rows r x.page y.page a b
      (subst (λ (k : Bool). HasSlot m.words m.sheet m.place k r x.page a) ex (shows x hx lx a r ea))
      (subst (λ (k : Bool). HasSlot m.words m.sheet m.place k r y.page b) ey (shows y hy ly b r eb)) in
      same_rank x y hx hy lx ly same.0

  -- an entry that was read is a row of the leaf's path
  pub row_below : (x : Reached) → In x rs → x.leaf ≡ true → (a r : ℕ) → get_elem? x.slots a ≡ some r → IsBelow x.path (codes r) × (length (codes r) ≡ 5) × (r ≢ 0) × put r
  row_below x h leaf a r e =
      let k = known_entry x h leaf a r e in ⊎_elim
      (λ (l : IsLinked m.sheet x.page).
      let s = m.tree.entries r x.page a (subst (λ (b : Bool). HasSlot m.words m.sheet m.place b r x.page a) leaf (shows x h l a r e)) in
      (subst (λ (p : Place). IsBelow p.path (codes r)) (place x h l) s.1, m.five r s.0, k.1, s.0))
      (λ (o : AreKept (m.words x.page) codes put x.path).
      (subst (λ (n : ℕ). IsBelow x.path (codes n)) k.2 (o.below a k.0), m.five r (subst put k.2 (o.placed a k.0)), k.1, subst put k.2 (o.placed a k.0)))
      (m.kept h.0 x h.1 leaf)

  ranked_by : (b : Bool) (x : Reached) → In x rs → x.leaf ≡ b → x.rank < chain
  ranked_by false x h e = let l = (m.known.fits h.0 x h.1).inner e in subst (λ (p : Place). p.rank < chain) (place x h l) (m.ranks x.page l)
  ranked_by true x h e = ⊎_elim
      (λ (l : IsLinked m.sheet x.page). subst (λ (p : Place). p.rank < chain) (place x h l) (m.ranks x.page l))
      (λ (o : IsFullLeaf (m.words x.page) x). let rank = o.rank in let some_rank = m.ranks 1 m.tree.root in omega arith)
      ((m.known.fits h.0 x h.1).old e)

  -- ranks end below the bound on chains
  pub ranked : (x : Reached) → In x rs → x.rank < chain
  ranked x h = ranked_by x.leaf x h refl

  -- an inner page has a depth of at most 4
  pub shallow : (x : Reached) → In x rs → x.leaf ≡ false → length x.path < 5
  shallow x h e =
      let l = (m.known.fits h.0 x h.1).inner e in
      subst (λ (p : Place). length p.path < 5) (place x h l) ((m.tree.pages x.page l).shallow (ap (λ (p : Place). p.leaf) (place x h l) ∙ e))
