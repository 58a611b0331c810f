-- The walk of a row from the root on, over the words of pages alone, and where it finds the row. This project's own.
use Rattle.std.specs.Prelude.{◌≡◌, ◌≢◌, ℕ, zero, suc, ◌+◌, ◌*◌, ◌%◌, ◌<◌, ◌⊎◌, List, [], ◌∷◌, ◌++◌}

-- p is the next page of the chain of a page at which these codes lead
pub record IsNext (w : ℕ → ℕ → ℕ) (Leads : List ℕ → ℕ → Type 0) (path : List ℕ) (p : ℕ) : Type 0 where
  pub from : ℕ
  pub leads : Leads path from
  pub named : w from 1 ≡ p

-- p stands beside the last of these codes in an inner page to which the codes before it lead
pub record IsBeside (w : ℕ → ℕ → ℕ) (Leads : List ℕ → ℕ → Type 0) (path : List ℕ) (p : ℕ) : Type 0 where
  pub before : List ℕ
  pub from : ℕ
  pub pair : ℕ
  pub leads : Leads before from
  pub inner : w from 0 % 4 ≡ 2
  pub room : pair < 7
  pub path_is : path ≡ before ++ w from (2 + 2 * pair) ∷ []
  pub named : w from (3 + 2 * pair) ≡ p

-- codes lead from the root to page p in so many steps
abbrev pub LeadsTo : (ℕ → ℕ → ℕ) → ℕ → List ℕ → ℕ → Type 0
LeadsTo w zero path p = (path ≡ []) × (p ≡ 1)
LeadsTo w (suc n) path p = (p ≢ 0) × (IsNext w (LeadsTo w n) path p ⊎ IsBeside w (LeadsTo w n) path p)

-- the walk of a row with these codes comes to a leaf that holds the word n
pub record IsFound (w : ℕ → ℕ → ℕ) (codes : List ℕ) (n : ℕ) : Type 0 where
  pub path : List ℕ
  pub rest : List ℕ
  pub below : codes ≡ path ++ rest
  pub steps : ℕ
  pub page : ℕ
  pub leads : LeadsTo w steps path page
  pub leaf : w page 0 % 4 ≡ 1
  pub index : ℕ
  pub room : index < 14
  pub there : w page (2 + index) ≡ n
