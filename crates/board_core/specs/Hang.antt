-- When a link that is 0 may be exchanged for a new leaf with one entry.
use Rattle.std.specs.Prelude.{◌≡◌, ◌≢◌, ℕ, ◌+◌, ◌*◌, ◌<◌, true, false, List, [], ◌∷◌, ◌++◌}
use Rattle.board_core.specs.declared.tree.Way.TheVariants.{Branch}
use Rattle.board_core.specs.Sheets.{Sheet, IsLinked}
use Rattle.board_core.specs.ClassTree.{Place, header_of, IsBelow}

-- where the new leaf will stand
abbrev pub hung : (ℕ → ℕ → ℕ) → (ℕ → Place) → ℕ → ℕ → Place
hung w m q k = record { path = (m q).path ++ w q (2 + 2 * k) ∷ []; rank = 0; leaf = true; from = q; way = Branch k }

-- a leaf of one entry
pub record IsFresh (page : ℕ → ℕ) (P : Place) (r : ℕ) : Type 0 where
  pub header : page 0 ≡ header_of P
  pub entry : page 2 ≡ r
  pub rest : (i : ℕ) → 0 < i → i ≢ 2 → page i ≡ 0

pub record MayHang (w : ℕ → ℕ → ℕ) (s : Sheet) (m : ℕ → Place) (codes : ℕ → List ℕ) (put : ℕ → Type 0)
    (q k n r : ℕ) : Type 0 where
  pub inner : IsLinked s q
  pub kind : (m q).leaf ≡ false
  pub room : k < 7
  pub code : w q (2 + 2 * k) ≢ 0
  pub empty : w q (3 + 2 * k) ≡ 0
  pub numbered : (n ≢ 0) × (n ≢ 1)
  pub fresh : IsFresh (w n) (hung w m q k) r
  pub row : r ≢ 0
  pub other : put r → ⊥
  pub below : IsBelow (hung w m q k).path (codes r)
