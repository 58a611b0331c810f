-- The words by group after one word of the table is stored: one law for each kind of word.
use Rattle.std.proofs.Common.{◌≡◌, ℕ, suc, ◌+◌, ◌*◌, ◌<◌, List, length, set, ap, ◌∙◌, arith, get_or-set_same, get_or-set_other}
use Rattle.htss_defs.specs.declared.shape.Shape.{Shape}
use Rattle.board_core.specs.Words.{Parts, parts_of, part, from_one, sixteen, stored, stored_page, states_at, pages_at, log_at, regions_at, regions_size, total_of}
use Rattle.board_core.proofs.Stored.{stored_part, part_past, part_before, stored_from_one, stored_sixteen}

abbrev pub parts : ℕ → ℕ → ℕ → (ℕ → ℕ) → (ℕ → ℕ) → (ℕ → ℕ → ℕ) → (ℕ → ℕ) → (ℕ → ℕ) → Parts
parts front lock epoch announced states pages slots regions = record {
  log = record { front = front; lock = lock; slots = slots };
  pool = record { epoch = epoch; announced = announced; states = states };
  pages = pages;
  regions = regions;
}

parts_eq : (f f' l l' e e' : ℕ) (a a' s s' : ℕ → ℕ) (g g' : ℕ → ℕ → ℕ) (o o' r r' : ℕ → ℕ) → f ≡ f' → l ≡ l' → e ≡ e' → a ≡ a' → s ≡ s' → g ≡ g' → o ≡ o' → r ≡ r' → parts f l e a s g o r ≡ parts f' l' e' a' s' g' o' r'
parts_eq f f' l l' e e' a a' s s' g g' o o' r r' p₁ p₂ p₃ p₄ p₅ p₆ p₇ p₈ = λ i. parts (p₁ i) (p₂ i) (p₃ i) (p₄ i) (p₅ i) (p₆ i) (p₇ i) (p₈ i)

-- where each part begins and ends, for the arithmetic
abbrev callers_of : Shape → ℕ
callers_of k = k.loaders + k.searchers

pub set_front : (k : Shape) (ws : List ℕ) (n : ℕ) → length ws ≡ total_of k → parts_of k (set ws 0 n) ≡ record (parts_of k ws) { log = record (parts_of k ws).log { front = n } }
set_front k ws n long = parts_eq _ _ _ _ _ _ _ _ _ _ _ _ _ _ _ _ (get_or-set_same ws 0 n 0 (omega arith)) (get_or-set_other ws 0 1 n 0 (λ e. omega arith)) (get_or-set_other ws 0 2 n 0 (λ e. omega arith))
    (part_past 3 (callers_of k) ws 0 n (omega arith)) (ap from_one (part_past (states_at k) k.pages ws 0 n (omega arith))) (ap sixteen (part_past (pages_at k) (16 * k.pages) ws 0 n (omega arith)))
    (part_past (log_at k) k.log ws 0 n (omega arith)) (part_past (regions_at k) (regions_size k) ws 0 n (omega arith))

pub set_lock : (k : Shape) (ws : List ℕ) (n : ℕ) → length ws ≡ total_of k → parts_of k (set ws 1 n) ≡ record (parts_of k ws) { log = record (parts_of k ws).log { lock = n } }
set_lock k ws n long = parts_eq _ _ _ _ _ _ _ _ _ _ _ _ _ _ _ _ (get_or-set_other ws 1 0 n 0 (λ e. omega arith)) (get_or-set_same ws 1 n 0 (omega arith)) (get_or-set_other ws 1 2 n 0 (λ e. omega arith))
    (part_past 3 (callers_of k) ws 1 n (omega arith)) (ap from_one (part_past (states_at k) k.pages ws 1 n (omega arith))) (ap sixteen (part_past (pages_at k) (16 * k.pages) ws 1 n (omega arith)))
    (part_past (log_at k) k.log ws 1 n (omega arith)) (part_past (regions_at k) (regions_size k) ws 1 n (omega arith))

pub set_epoch : (k : Shape) (ws : List ℕ) (n : ℕ) → length ws ≡ total_of k → parts_of k (set ws 2 n) ≡ record (parts_of k ws) { pool = record (parts_of k ws).pool { epoch = n } }
set_epoch k ws n long = parts_eq _ _ _ _ _ _ _ _ _ _ _ _ _ _ _ _ (get_or-set_other ws 2 0 n 0 (λ e. omega arith)) (get_or-set_other ws 2 1 n 0 (λ e. omega arith)) (get_or-set_same ws 2 n 0 (omega arith))
    (part_past 3 (callers_of k) ws 2 n (omega arith)) (ap from_one (part_past (states_at k) k.pages ws 2 n (omega arith))) (ap sixteen (part_past (pages_at k) (16 * k.pages) ws 2 n (omega arith)))
    (part_past (log_at k) k.log ws 2 n (omega arith)) (part_past (regions_at k) (regions_size k) ws 2 n (omega arith))

-- the announcement of the seat at i, counted from 0
pub set_announced : (k : Shape) (ws : List ℕ) (i n : ℕ) → length ws ≡ total_of k → i < k.loaders + k.searchers → parts_of k (set ws (3 + i) n) ≡ record (parts_of k ws) { pool = record (parts_of k ws).pool { announced = stored (parts_of k ws).pool.announced i n } }
set_announced k ws i n long inside = let at : ℕ = 3 + i in
    parts_eq _ _ _ _ _ _ _ _ _ _ _ _ _ _ _ _ (get_or-set_other ws at 0 n 0 (λ e. omega arith)) (get_or-set_other ws at 1 n 0 (λ e. omega arith)) (get_or-set_other ws at 2 n 0 (λ e. omega arith))
    (stored_part 3 (callers_of k) ws i n inside (omega arith)) (ap from_one (part_past (states_at k) k.pages ws at n (omega arith))) (ap sixteen (part_past (pages_at k) (16 * k.pages) ws at n (omega arith)))
    (part_past (log_at k) k.log ws at n (omega arith)) (part_past (regions_at k) (regions_size k) ws at n (omega arith))

-- the state of page i + 1
pub set_state : (k : Shape) (ws : List ℕ) (i n : ℕ) → length ws ≡ total_of k → i < k.pages → parts_of k (set ws (states_at k + i) n) ≡ record (parts_of k ws) { pool = record (parts_of k ws).pool { states = stored (parts_of k ws).pool.states (suc i) n } }
set_state k ws i n long inside = let at : ℕ = states_at k + i in
    parts_eq _ _ _ _ _ _ _ _ _ _ _ _ _ _ _ _ (get_or-set_other ws at 0 n 0 (λ e. omega arith)) (get_or-set_other ws at 1 n 0 (λ e. omega arith)) (get_or-set_other ws at 2 n 0 (λ e. omega arith))
    (part_before 3 (callers_of k) ws at n (omega arith)) (ap from_one (stored_part (states_at k) k.pages ws i n inside (omega arith)) ∙ stored_from_one (part (states_at k) k.pages ws) i n)
    (ap sixteen (part_past (pages_at k) (16 * k.pages) ws at n (omega arith)))
    (part_past (log_at k) k.log ws at n (omega arith)) (part_past (regions_at k) (regions_size k) ws at n (omega arith))

-- word i of page p + 1
pub set_page : (k : Shape) (ws : List ℕ) (p i n : ℕ) → length ws ≡ total_of k → p < k.pages → i < 16 → parts_of k (set ws (pages_at k + (16 * p + i)) n) ≡ record (parts_of k ws) { pages = stored_page (parts_of k ws).pages (suc p) i n }
set_page k ws p i n long inside small = let at : ℕ = pages_at k + (16 * p + i) in
    parts_eq _ _ _ _ _ _ _ _ _ _ _ _ _ _ _ _ (get_or-set_other ws at 0 n 0 (λ e. omega arith)) (get_or-set_other ws at 1 n 0 (λ e. omega arith)) (get_or-set_other ws at 2 n 0 (λ e. omega arith))
    (part_before 3 (callers_of k) ws at n (omega arith)) (ap from_one (part_before (states_at k) k.pages ws at n (omega arith)))
    (ap sixteen (stored_part (pages_at k) (16 * k.pages) ws (16 * p + i) n (omega arith) (omega arith)) ∙ stored_sixteen (part (pages_at k) (16 * k.pages) ws) p i n small)
    (part_past (log_at k) k.log ws at n (omega arith)) (part_past (regions_at k) (regions_size k) ws at n (omega arith))

-- the log word of event i + 1
pub set_slot : (k : Shape) (ws : List ℕ) (i n : ℕ) → length ws ≡ total_of k → i < k.log → parts_of k (set ws (log_at k + i) n) ≡ record (parts_of k ws) { log = record (parts_of k ws).log { slots = stored (parts_of k ws).log.slots i n } }
set_slot k ws i n long inside = let at : ℕ = log_at k + i in
    parts_eq _ _ _ _ _ _ _ _ _ _ _ _ _ _ _ _ (get_or-set_other ws at 0 n 0 (λ e. omega arith)) (get_or-set_other ws at 1 n 0 (λ e. omega arith)) (get_or-set_other ws at 2 n 0 (λ e. omega arith))
    (part_before 3 (callers_of k) ws at n (omega arith)) (ap from_one (part_before (states_at k) k.pages ws at n (omega arith))) (ap sixteen (part_before (pages_at k) (16 * k.pages) ws at n (omega arith)))
    (stored_part (log_at k) k.log ws i n inside (omega arith)) (part_past (regions_at k) (regions_size k) ws at n (omega arith))

-- a word of the regions, counted from 0
pub set_region : (k : Shape) (ws : List ℕ) (i n : ℕ) → length ws ≡ total_of k → i < regions_size k → parts_of k (set ws (regions_at k + i) n) ≡ record (parts_of k ws) { regions = stored (parts_of k ws).regions i n }
set_region k ws i n long inside = let at : ℕ = regions_at k + i in
    parts_eq _ _ _ _ _ _ _ _ _ _ _ _ _ _ _ _ (get_or-set_other ws at 0 n 0 (λ e. omega arith)) (get_or-set_other ws at 1 n 0 (λ e. omega arith)) (get_or-set_other ws at 2 n 0 (λ e. omega arith))
    (part_before 3 (callers_of k) ws at n (omega arith)) (ap from_one (part_before (states_at k) k.pages ws at n (omega arith))) (ap sixteen (part_before (pages_at k) (16 * k.pages) ws at n (omega arith)))
    (part_before (log_at k) k.log ws at n (omega arith)) (stored_part (regions_at k) (regions_size k) ws i n inside (omega arith))
