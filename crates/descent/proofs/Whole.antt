-- What a whole descent means for whatever board has the caller.
use Rattle.std.proofs.Common.{◌≡◌, ℕ, ◌<◌, false, List, [], ◌∷◌, ◌++◌, length, sym, refl, ap, ◌∙◌, subst, arith}
use Rattle.htss_defs.specs.declared.shape.Shape.{Shape}
use Rattle.htss_defs.specs.declared.shape.Field.TheVariants.{Pages}
use Rattle.htss_defs.specs.Shapes.{IsShape}
use Rattle.board_core.specs.declared.account.View.{View}
use Rattle.board_core.specs.declared.room.Row.{Row}
use Rattle.board_core.specs.Each.{Each}
use Rattle.board_core.specs.Words.{Parts}
use Rattle.board_core.specs.After.{root, after_walk}
use Rattle.board_core.specs.Loaded.{IsPage}
use Rattle.board_core.specs.OldRows.{IsOldRow}
use Rattle.board_core.specs.Rows.{codes_in, IsPlaced}
use Rattle.board_core.specs.Boards.{HasBoard}
use Rattle.board.specs.Seated.{Place, Seated, IsOf, with_account}
use Rattle.descent.specs.Sweep.{AllCover}
use Rattle.descent.specs.Seats.{seat_of}
use Rattle.descent.specs.Standing.{Stands, OnlyLoads}
use Rattle.descent.specs.Walks.{rows_of, ChainRead, ChainTried}
use Rattle.descent.specs.Descended.{MayBe, IsDescended, HasCut}
use Rattle.descent.proofs.Boards.{may_be}
use Rattle.descent.proofs.Descending.{descended}
use Rattle.descent.proofs.Tried.{covering}
use Rattle.descent.proofs.Standing.{only_on, only_walk}

pub root_page : (k : Shape) → IsShape k → IsPage k 1
root_page k h = let some_pages = (h Pages).0 in (omega arith, omega arith)

-- ---- a walk that begins

pub root_stands : (b : Place) (c w : Seated) → IsOf b c → 0 < c.account.pool.announced → w ≡ with_account c (after_walk c.account) → Stands b w 1
root_stands b c w of pinned begun = subst (λ (z : Seated). Stands b z 1) (sym begun) record { of = record { table = of.table; shape = of.shape }; pinned = pinned; pages = refl }

pub root_fresh : (c w : Seated) → w ≡ with_account c (after_walk c.account) → (seat_of w.account).reached ≡ root ∷ []
root_fresh c w begun = ap (λ (z : Seated). z.account.tree.reached) begun

-- ---- from where the walk began, at w, to d

module _ (k : Shape) (covers : ℕ → ℕ → Type 0) (c w d : Seated) (begun : w ≡ with_account c (after_walk c.account)) (only : OnlyLoads w d) (gs hs : List Row) where
  pub only_all : OnlyLoads c d
  only_all = only_on c w d (only_walk c w begun) only

  module _ (p : Parts) (vs : List View) (b : HasBoard k p vs d.account) where
    may : MayBe k.chain (codes_in k p.regions) (IsPlaced vs) (IsOldRow k p.regions p.log.slots w.account.tree.front) (seat_of d.account)
    may = subst (λ (f : ℕ). MayBe k.chain (codes_in k p.regions) (IsPlaced vs) (IsOldRow k p.regions p.log.slots f) (seat_of d.account)) (ap (λ (z : Seated). z.account.tree.front) only.same) (may_be k p vs d.account b)

    pub whole : (n : ℕ) → ChainRead k.chain covers 0 false (seat_of w.account) (seat_of d.account) gs hs n
        → IsDescended (codes_in k p.regions) (IsPlaced vs) (IsOldRow k p.regions p.log.slots c.account.tree.front) covers (seat_of c.account).loads (seat_of d.account) gs hs n
    whole n q = subst (λ (z : Seated). IsDescended (codes_in k p.regions) (IsPlaced vs) (IsOldRow k p.regions p.log.slots z.account.tree.front) covers (seat_of z.account).loads (seat_of d.account) gs hs n) begun
        (descended k.chain (codes_in k p.regions) (IsPlaced vs) (IsOldRow k p.regions p.log.slots w.account.tree.front) covers (seat_of w.account) (root_fresh c w begun) (seat_of d.account) gs hs n q may)

    cover : (q : ChainTried k.chain covers 0 false (seat_of w.account) (seat_of d.account) gs hs) → Each (λ r. AllCover covers 0 (codes_in k p.regions r)) (rows_of q.so_far.mets)
    cover q = covering k.chain (codes_in k p.regions) (IsPlaced vs) (IsOldRow k p.regions p.log.slots w.account.tree.front) covers (seat_of w.account) (seat_of d.account) gs hs q may

  pub part : ChainTried k.chain covers 0 false (seat_of w.account) (seat_of d.account) gs hs → HasCut k covers c d gs hs
  part q = record {
    only = only_all;
    given = rows_of q.so_far.mets;
    given_are = q.so_far.given_are;
    differ = q.so_far.differ;
    loads = q.so_far.loads;
    loads_are = q.so_far.loads_are ∙ ap (λ (z : Seated). (seat_of z.account).loads ++ q.so_far.loads) begun;
    good = q.so_far.good;
    covering = λ p vs b. cover p vs b q;
  }
