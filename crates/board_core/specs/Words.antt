-- The words of a board by group, as functions of their place in the group. The laws of the steps speak of these alone
-- (this project's own).
use Rattle.std.specs.Prelude.{ℕ, zero, suc, ◌+◌, ◌*◌, ◌-◌, ◌==◌, nat_lt, List, ◌++◌, ◌∷◌, take, drop, replicate}
use Rattle.std.specs.Prelude.{slice_index, if◌then◌else◌}
use Rattle.htss_defs.specs.declared.shape.Shape.{Shape}

-- the front, the lock, and the log's words, counted from 0: event n stands in slot n - 1
pub record LogWords : Type 0 where
  pub front : ℕ
  pub lock : ℕ
  pub slots : ℕ → ℕ

-- the epoch, the announcements (loaders first, counted from 0), and the states by the number of the page
pub record PoolWords : Type 0 where
  pub epoch : ℕ
  pub announced : ℕ → ℕ
  pub states : ℕ → ℕ

-- a page's words by its number and their place in it; the regions' words, counted from 0
pub record Parts : Type 0 where
  pub log : LogWords
  pub pool : PoolWords
  pub pages : ℕ → ℕ → ℕ
  pub regions : ℕ → ℕ

-- where each part begins
abbrev pub front_at : ℕ
front_at = 0

abbrev pub lock_at : ℕ
lock_at = 1

abbrev pub epoch_at : ℕ
epoch_at = 2

abbrev pub announced_at : ℕ
announced_at = 3

abbrev pub states_at : Shape → ℕ
states_at k = 3 + k.loaders + k.searchers

abbrev pub pages_at : Shape → ℕ
pages_at k = states_at k + k.pages

abbrev pub log_at : Shape → ℕ
log_at k = pages_at k + 16 * k.pages

abbrev pub regions_at : Shape → ℕ
regions_at k = log_at k + k.log

abbrev pub regions_size : Shape → ℕ
regions_size k = k.loaders * k.room

abbrev pub total_of : Shape → ℕ
total_of k = regions_at k + regions_size k

-- so many words from a place on, by their place among these; 0 past them
abbrev pub part : ℕ → ℕ → List ℕ → ℕ → ℕ
part from size ws i = slice_index (take size (drop from ws)) i

-- counted from 1, and 0 at 0
abbrev pub from_one : (ℕ → ℕ) → ℕ → ℕ
from_one f zero = 0
from_one f (suc n) = f n

-- sixteen words for each page, and 0 past them
abbrev pub sixteen : (ℕ → ℕ) → ℕ → ℕ → ℕ
sixteen f zero i = 0
sixteen f (suc p) i = if nat_lt i 16 then f (16 * p + i) else 0

abbrev pub parts_of : Shape → List ℕ → Parts
parts_of k ws = record {
  log = record { front = slice_index ws 0; lock = slice_index ws 1; slots = part (log_at k) k.log ws };
  pool = record {
    epoch = slice_index ws 2;
    announced = part 3 (k.loaders + k.searchers) ws;
    states = from_one (part (states_at k) k.pages ws);
  };
  pages = sixteen (part (pages_at k) (16 * k.pages) ws);
  regions = part (regions_at k) (regions_size k) ws;
}

-- the function after one word is stored
abbrev pub stored : (ℕ → ℕ) → ℕ → ℕ → ℕ → ℕ
stored f i n j = if j == i then n else f j

abbrev pub stored_page : (ℕ → ℕ → ℕ) → ℕ → ℕ → ℕ → ℕ → ℕ → ℕ
stored_page f p i n q j = if q == p then stored (f p) i n j else f q j

abbrev pub zeros : ℕ → List ℕ
zeros n = replicate n 0

-- the words of a board as it is opened: the epoch is 1, and page 1 is an inner page of depth 0
abbrev pub opening_words : Shape → List ℕ
opening_words k = 0 ∷ 0 ∷ 1 ∷ (zeros (k.loaders + k.searchers)
    ++ (1 ∷ (zeros (k.pages - 1) ++ (2 ∷ zeros (16 * k.pages - 1 + k.log + regions_size k)))))
