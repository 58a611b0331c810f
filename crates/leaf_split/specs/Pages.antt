-- The pages that take a full leaf's place. Page 8b is the inner page of rank b; the leaves of its seven codes are the
-- pages behind it (this project's own).
use Rattle.std.specs.Prelude.{◌≡◌, ℕ, zero, suc, ◌+◌, ◌*◌, ◌-◌, ◌/◌, ◌%◌, ◌<◌, ◌≤◌, ◌==◌, true, false, ltb, List, []}
use Rattle.std.specs.Prelude.{◌∷◌, ◌++◌, length, if◌then◌else◌}
use mathlib.Core.Option.{some}
use lib.ListN.{get_elem?}
use Rattle.board_core.specs.declared.tree.Way.TheVariants.{More, Branch}
use Rattle.board_core.specs.declared.tree.Reached.{Reached}
use Rattle.board_core.specs.Each.{In}
use Rattle.board_core.specs.ClassTree.{Place, IsBelow}

-- pages for so many codes: a leaf each, and an inner page for seven
abbrev pub pages_of : ℕ → ℕ
pages_of count = count + (count + 6) / 7

abbrev pub inner_word : ℕ → ℕ → (ℕ → ℕ) → (ℕ → ℕ) → ℕ → ℕ → ℕ
inner_word depth count code number b i =
    if i == 0 then 2 + 4 * depth + 32 * b else
    if i == 1 then (if ltb (7 * (b + 1)) count then number (8 * (b + 1)) else 0) else
    if ltb (7 * b + (i - 2) / 2) count then
    (if i % 2 == 0 then code (7 * b + (i - 2) / 2) else number (8 * b + 1 + (i - 2) / 2)) else 0

abbrev pub leaf_word : ℕ → (ℕ → ℕ → ℕ) → ℕ → ℕ → ℕ
leaf_word depth entry j i = if i == 0 then 5 + 4 * depth else if i == 1 then 0 else entry j (i - 2)

-- word i of page t
abbrev pub word_of : ℕ → ℕ → (ℕ → ℕ) → (ℕ → ℕ → ℕ) → (ℕ → ℕ) → ℕ → ℕ → ℕ
word_of depth count code entry number t i = if t % 8 == 0 then inner_word depth count code number
    (t / 8) i else leaf_word depth entry (7 * (t / 8) + (t % 8 - 1)) i

-- the same, as facts
pub record IsInner (word : ℕ → ℕ) (depth count : ℕ) (code number : ℕ → ℕ) (b : ℕ) : Type 0 where
  pub header : word 0 ≡ 2 + 4 * depth + 32 * b
  pub more : 7 * (b + 1) < count → word 1 ≡ number (8 * (b + 1))
  pub last : count ≤ 7 * (b + 1) → word 1 ≡ 0
  pub codes : (i : ℕ) → i < 7 → word (2 + 2 * i) ≡ code (7 * b + i)
  pub links : (i : ℕ) → i < 7 → 7 * b + i < count → word (3 + 2 * i) ≡ number (8 * b + 1 + i)
  pub bare : (i : ℕ) → i < 7 → count ≤ 7 * b + i → word (3 + 2 * i) ≡ 0

pub record IsLeaf (word : ℕ → ℕ) (depth : ℕ) (entry : ℕ → ℕ) : Type 0 where
  pub header : word 0 ≡ 5 + 4 * depth
  pub more : word 1 ≡ 0
  pub entries : (i : ℕ) → i < 14 → word (2 + i) ≡ entry i

pub record ArePages (page : ℕ → ℕ → ℕ) (depth count : ℕ) (code number : ℕ → ℕ) (entry : ℕ → ℕ → ℕ) : Type 0 where
  pub inner : (b : ℕ) → 7 * b < count → IsInner (page (number (8 * b))) depth count code number b
  pub leaf : (b s : ℕ) → s < 7 → 7 * b + s < count → IsLeaf (page (number (8 * b + 1 + s))) depth (entry (7 * b + s))

-- where the pages will stand, below the link k of page q
abbrev pub inner_place : List ℕ → (ℕ → ℕ) → ℕ → ℕ → ℕ → Place
inner_place path number q k zero = record { path = path; rank = 0; leaf = false; from = q; way = Branch k }
inner_place path number q k (suc b) =
    record { path = path; rank = suc b; leaf = false; from = number (8 * b); way = More }

abbrev pub leaf_place : List ℕ → (ℕ → ℕ) → (ℕ → ℕ) → ℕ → ℕ → Place
leaf_place path code number b s =
    record { path = path ++ code (7 * b + s) ∷ []; rank = 0; leaf = true; from = number (8 * b); way = Branch s }

pub record ArePlaces (v : ℕ → Place) (path : List ℕ) (count : ℕ) (code number : ℕ → ℕ) (q k : ℕ) : Type 0 where
  pub inner : (b : ℕ) → 7 * b < count → v (number (8 * b)) ≡ inner_place path number q k b
  pub leaf : (b s : ℕ) → s < 7 → 7 * b + s < count → v (number (8 * b + 1 + s)) ≡ leaf_place path code number b s

-- the new pages: own pages that differ
pub record AreNew (New : ℕ → Type 0) (pages : ℕ) (number : ℕ → ℕ) : Type 0 where
  pub new : (t : ℕ) → t < pages → New (number t)
  pub all : (q : ℕ) → New q → (t : ℕ) × (t < pages) × (number t ≡ q)
  pub apart : (t u : ℕ) → t < pages → u < pages → number t ≡ number u → t ≡ u

-- what was read: the inner page y, and the full leaf x with these rows, each with its next code
pub record IsFullRead (codes : ℕ → List ℕ) (rs : List Reached) (y x : Reached) (k : ℕ) (row next : ℕ → ℕ) : Type 0 where
  pub inner : In y rs
  pub kind : y.leaf ≡ false
  pub room : k < 7
  pub leaf : In x rs
  pub old : x.leaf ≡ true
  pub low : length x.path < 5
  pub full : length x.slots ≡ 14
  pub slots : (a : ℕ) → a < 14 → get_elem? x.slots a ≡ some (row a)
  pub below : (a : ℕ) → a < 14 → IsBelow (x.path ++ next a ∷ []) (codes (row a))
