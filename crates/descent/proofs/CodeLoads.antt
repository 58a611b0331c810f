-- The loop over a row's codes, as the loads of a board tell it.
use Rattle.std.proofs.Common.{◌≡◌, ℕ, ◌<◌, ◌≤◌, sym, ap, ◌∙◌, subst}
use Rattle.board_core.specs.Blocks.{atoms_in}
use Rattle.board_core.specs.Rows.{block_named, atom_named}
use Rattle.board_core.specs.Met.{row_named, HasHead}
use Rattle.board_core.specs.After.{after_head, after_code}
use Rattle.board_core.proofs.LoadMet.{head_here, head_stays}
use Rattle.board.specs.Seated.{Seated, with_account}
use Rattle.descent.specs.Seats.{seat_of, with_load}
use Rattle.descent.specs.Standing.{OnlyLoads}
use Rattle.descent.proofs.Sifting.{Sifting, sifting_none}
use Rattle.descent.proofs.Standing.{only_code, only_on, code_seat}

-- the first word of the block was loaded
pub start_sifting : (covers : ℕ → ℕ → Type 0) (row head : ℕ) (c d : Seated) → d ≡ with_account c (after_head c.account (block_named row) head) → Sifting covers row (seat_of c.account) (seat_of d.account) 0
start_sifting covers row head c d after = subst (λ (z : Seated). Sifting covers row (seat_of c.account) (seat_of z.account) 0) (sym after) (sifting_none covers row (seat_of c.account))

pub start_head : (row head : ℕ) (c d : Seated) → d ≡ with_account c (after_head c.account (block_named row) head) → HasHead d.account (block_named row) head
start_head row head c d after = subst (λ (z : Seated). HasHead z.account (block_named row) head) (sym after) (head_here c.account (block_named row) head)

-- a code was loaded
module _ (row level word : ℕ) (d e : Seated) (after : e ≡ with_account d (after_code d.account (row_named row) level word)) where
  pub code_loaded : seat_of e.account ≡ with_load (seat_of d.account) row level word
  code_loaded = ap (λ (z : Seated). seat_of z.account) after ∙ code_seat d.account row level word

  pub next_head : (head : ℕ) → HasHead d.account (block_named row) head → HasHead e.account (block_named row) head
  next_head head h = subst (λ (z : Seated). HasHead z.account (block_named row) head) (sym after) (head_stays d.account (block_named row) head (row_named row) level word h)

  pub next_only : (c : Seated) (head : ℕ) → HasHead d.account (block_named row) head → (0 < atom_named row) × (atom_named row ≤ atoms_in head) → OnlyLoads c d → OnlyLoads c e
  next_only c head h atom o = only_on c d e o (only_code d e (row_named row) level word (record { head = head; loaded = h; above = atom.0; most = atom.1 }) after)
