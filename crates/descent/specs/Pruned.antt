-- What a search may load of rows: only rows whose first code covers, each code word once, and few rows that end at one
-- class (this project's own).
use Rattle.std.specs.Prelude.{◌≡◌, ℕ, ◌≤◌, List, [], ◌∷◌, ◌++◌, length}
use Rattle.board_core.specs.Each.{Each, In}
use Rattle.descent.specs.Sweep.{AllCover}
use Rattle.descent.specs.Seats.{CodeLoad}
use Rattle.descent.specs.Different.{AreDifferent}

-- one of its code words was loaded
abbrev pub IsLoaded : List CodeLoad → ℕ → Type 0
IsLoaded ls r = (l : CodeLoad) × In l ls × (l.row ≡ r)

-- the row has this path and a next code that does not cover
abbrev pub IsDropped : (ℕ → List ℕ) → (ℕ → ℕ → Type 0) → List ℕ → ℕ → Type 0
IsDropped codes covers path r = (c : ℕ) × (rest : List ℕ) × (codes r ≡ path ++ c ∷ rest) × (covers (length path) c → ⊥)

-- no two are of one code word
abbrev pub AreOnce : List CodeLoad → Type 0
AreOnce [] = Unit {0}
AreOnce (l ∷ ls) = ((k : CodeLoad) → In k ls → k.row ≡ l.row → k.level ≡ l.level → ⊥) × AreOnce ls

-- of these rows, any that differ, have this path and a next code that does not cover, are at most 14
abbrev pub Few : (ℕ → List ℕ) → (ℕ → ℕ → Type 0) → (ℕ → Type 0) → Type 0
Few codes covers Is = (path : List ℕ) → AllCover covers 0 path → (ds : List ℕ) → AreDifferent ds
    → Each (λ r. Is r × IsDropped codes covers path r) ds → length ds ≤ 14

-- the pruning of one search: these code words were loaded
pub record IsPruned (codes : ℕ → List ℕ) (covers : ℕ → ℕ → Type 0) (ls : List CodeLoad) : Type 0 where
  pub once : AreOnce ls
  pub first : (r : ℕ) → IsLoaded ls r → (c : ℕ) × (rest : List ℕ) × (codes r ≡ c ∷ rest) × covers 0 c
  pub few : Few codes covers (IsLoaded ls)

-- so many rows were loaded
pub record CountsLoaded (ls : List CodeLoad) (n : ℕ) : Type 0 where
  pub rows : List ℕ
  pub different : AreDifferent rows
  pub each : Each (IsLoaded ls) rows
  pub all : (r : ℕ) → IsLoaded ls r → In r rows
  pub count : n ≡ length rows
