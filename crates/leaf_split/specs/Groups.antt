-- Rows of one leaf by their next code (this project's own).
use Rattle.std.specs.Prelude.{◌≡◌, ◌≢◌, ℕ, ◌+◌, ◌*◌, ◌<◌, ◌≤◌, List, slice_index, ltb, if◌then◌else◌}

-- one word of a list, read as a function, was stored
pub record IsStored (f g : ℕ → ℕ) (i n : ℕ) : Type 0 where
  pub here : g i ≡ n
  pub others : (j : ℕ) → j ≢ i → g j ≡ f j

-- entry i of the rows with code j: 14 for each code
abbrev pub entry_of : List ℕ → ℕ → ℕ → ℕ
entry_of entries j i = if ltb i 14 then slice_index entries (14 * j + i) else 0

-- what a full leaf gives: rows, each with the code that comes next in its path
pub record AreRows (row next : ℕ → ℕ) : Type 0 where
  pub rows : (a : ℕ) → a < 14 → row a ≢ 0
  pub nexts : (a : ℕ) → a < 14 → next a ≢ 0

abbrev pub AreApart : (ℕ → ℕ) → Type 0
AreApart row = (a b : ℕ) → a < 14 → b < 14 → row a ≡ row b → a ≡ b

-- the first `done` rows: `count` codes that differ, and for code j as many entries as `held j`. Where rows differ,
-- entries do
pub record AreGroups (row next : ℕ → ℕ) (done count : ℕ) (code held : ℕ → ℕ) (entry : ℕ → ℕ → ℕ) : Type 0 where
  pub few : count ≤ done
  pub set : (j : ℕ) → j < count → code j ≢ 0
  pub unset : (j : ℕ) → count ≤ j → code j ≡ 0
  pub apart : (i j : ℕ) → i < count → j < count → code i ≡ code j → i ≡ j
  pub most : (j : ℕ) → held j ≤ done
  pub some : (j : ℕ) → j < count → 0 < held j
  pub bare : (j : ℕ) → count ≤ j → held j ≡ 0
  pub rest : (j i : ℕ) → held j ≤ i → entry j i ≡ 0
  pub from : (j i : ℕ) → i < held j → (a : ℕ) × (a < done) × (row a ≡ entry j i) × (next a ≡ code j)
  pub into : (a : ℕ) → a < done → (j : ℕ) × (i : ℕ) × (i < held j) × (entry j i ≡ row a)
  pub once : AreApart row → (j i k l : ℕ) → i < held j → l < held k → entry j i ≡ entry k l → (j ≡ k) × (i ≡ l)
