-- The tree part of the rule: where linked pages stand, and what stands in them (this project's own).
use Rattle.std.specs.Prelude.{◌≡◌, ◌≢◌, ℕ, ◌+◌, ◌*◌, ◌<◌, ◌≤◌, Bool, true, false, List, [], ◌∷◌, ◌++◌, length}
use Rattle.board_core.specs.declared.tree.Way.{Way}
use Rattle.board_core.specs.declared.tree.Way.TheVariants.{More, Branch}
use Rattle.board_core.specs.Sheets.{Sheet, IsLinked}

-- the depth from which on a full leaf goes on at its next page. Above it a full leaf is split
unfoldable pub chained : ℕ
chained = 5

-- where a linked page stands. The rule keeps one for each page, as a witness
pub record Place : Type 0 where
  pub path : List ℕ
  pub rank : ℕ
  pub leaf : Bool
  pub from : ℕ
  pub way : Way

abbrev pub root_place : Place
root_place = record { path = []; rank = 0; leaf = false; from = 0; way = More }

abbrev pub at_way : Way → ℕ
at_way More = 1
at_way (Branch k) = 3 + 2 * k

-- codes of an inner page, entries of a leaf
abbrev pub slot_at : Bool → ℕ → ℕ
slot_at true i = 2 + i
slot_at false i = 2 + 2 * i

abbrev pub page_room : Bool → ℕ
page_room true = 14
page_room false = 7

abbrev pub kind_of : Bool → ℕ
kind_of true = 1
kind_of false = 2

abbrev pub header_of : Place → ℕ
header_of p = kind_of p.leaf + 4 * length p.path + 32 * p.rank

-- a word of page q, which stands at P, names a page that stands at R
abbrev pub Follows : (ℕ → ℕ) → Place → Way → Place → Type 0
Follows page P More R = (R.path ≡ P.path) × (R.rank ≡ P.rank + 1) × (R.leaf ≡ P.leaf)
Follows page P (Branch k) R = (P.leaf ≡ false) × (k < 7) × (page (2 + 2 * k) ≢ 0)
    × (R.path ≡ P.path ++ page (2 + 2 * k) ∷ []) × (R.rank ≡ 0)

abbrev pub IsWay : Place → Way → Type 0
IsWay P More = Unit {0}
IsWay P (Branch k) = (P.leaf ≡ false) × (k < 7)

-- header, order and `more` of one linked page
pub record PageStands (page : ℕ → ℕ) (P : Place) : Type 0 where
  pub header : page 0 ≡ header_of P
  pub front : (i j : ℕ) → i ≤ j → j < page_room P.leaf → page (slot_at P.leaf i) ≡ 0 → page (slot_at P.leaf j) ≡ 0
  pub bare : P.leaf ≡ false → (i : ℕ) → i < 7 → page (2 + 2 * i) ≡ 0 → page (3 + 2 * i) ≡ 0
  pub full : page 1 ≢ 0 → (i : ℕ) → i < page_room P.leaf → page (slot_at P.leaf i) ≢ 0
  pub low : P.leaf ≡ true → length P.path < chained → page 1 ≡ 0
  pub shallow : P.leaf ≡ false → length P.path < 5

pub record IsNamed (w : ℕ → ℕ → ℕ) (s : Sheet) (m : ℕ → Place) (p : ℕ) : Type 0 where
  pub linked : IsLinked s (m p).from
  pub there : w (m p).from (at_way (m p).way) ≡ p
  pub follows : Follows (w (m p).from) (m (m p).from) (m p).way (m p)

-- the page p is named by this word alone
pub record IsFrom (s : Sheet) (m : ℕ → Place) (q : ℕ) (way : Way) (p : ℕ) : Type 0 where
  pub linked : IsLinked s p
  pub below : p ≢ 1
  pub from : (m p).from ≡ q
  pub by : (m p).way ≡ way

-- the word at this slot of a linked page is n
pub record HasSlot (w : ℕ → ℕ → ℕ) (s : Sheet) (m : ℕ → Place) (leaf : Bool) (n p i : ℕ) : Type 0 where
  pub linked : IsLinked s p
  pub kind : (m p).leaf ≡ leaf
  pub room : i < page_room leaf
  pub some_n : n ≢ 0
  pub there : w p (slot_at leaf i) ≡ n

-- a row stands in a linked leaf
abbrev pub Stands : (ℕ → ℕ → ℕ) → Sheet → (ℕ → Place) → ℕ → Type 0
Stands w s m r = (p : ℕ) × (i : ℕ) × HasSlot w s m true r p i

abbrev pub IsBelow : List ℕ → List ℕ → Type 0
IsBelow path codes = (rest : List ℕ) × (codes ≡ path ++ rest)

-- codes: the five codes of each row. placed: the rows that accounts have placed
pub record Tree (w : ℕ → ℕ → ℕ) (s : Sheet) (m : ℕ → Place) (codes : ℕ → List ℕ) (put : ℕ → Type 0) : Type 0 where
  pub root : IsLinked s 1
  pub top : m 1 ≡ root_place
  pub numbered : (p : ℕ) → IsLinked s p → p ≢ 0
  pub pages : (p : ℕ) → IsLinked s p → PageStands (w p) (m p)
  pub named : (p : ℕ) → IsLinked s p → p ≢ 1 → IsNamed w s m p
  pub leads : (q : ℕ) (way : Way) → IsLinked s q → IsWay (m q) way → w q (at_way way) ≢ 0
      → IsFrom s m q way (w q (at_way way))
  pub alone : (p q : ℕ) → IsLinked s p → IsLinked s q → (m p).path ≡ (m q).path → (m p).rank ≡ (m q).rank → p ≡ q
  pub apart : (n p q i j : ℕ) → HasSlot w s m false n p i → HasSlot w s m false n q j → (m p).path ≡ (m q).path
      → (p ≡ q) × (i ≡ j)
  pub rows : (n p q i j : ℕ) → HasSlot w s m true n p i → HasSlot w s m true n q j → (p ≡ q) × (i ≡ j)
  pub entries : (n p i : ℕ) → HasSlot w s m true n p i → put n × IsBelow (m p).path (codes n)
  pub placed : (r : ℕ) → put r → Stands w s m r
