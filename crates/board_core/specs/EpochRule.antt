-- Epochs and announcements (this project's own): the epoch is no less than any that was loaded or announced, and what a
-- caller says that it has announced stands there.
use Rattle.std.specs.Prelude.{◌≡◌, ℕ, ◌-◌, ◌<◌, ◌≤◌, ◌^◌, List}
use Rattle.htss_defs.specs.declared.shape.Shape.{Shape}
use Rattle.board_core.specs.declared.account.Account.{Account}
use Rattle.board_core.specs.declared.account.View.{View}
use Rattle.board_core.specs.Each.{Each}
use Rattle.board_core.specs.Accounts.{EachAccount, seat_of}
use Rattle.board_core.specs.Held.{held_in}
use Rattle.board_core.specs.SeatRule.{made}

-- the epoch past which none comes
abbrev pub last_epoch : ℕ
last_epoch = 2 ^ 62

-- facet: the caller's place among the seats, from 1, or 0 of a seat that is no caller; what it has announced, loaded
-- and scanned, and the leaves that it holds
pub record Claim : Type 0 where
  pub seat : ℕ
  pub announced : ℕ
  pub epochs : List ℕ
  pub risen : ℕ
  pub first : ℕ
  pub low : ℕ
  pub passed : ℕ
  pub held : List ℕ

abbrev pub claim_of : Shape → Account → Claim
claim_of k a = record {
  seat = seat_of k a.who;
  announced = a.pool.announced;
  epochs = a.loads.epochs;
  risen = a.pool.risen;
  first = a.pool.first;
  low = a.pool.low;
  passed = a.pool.passed;
  held = held_in a.tree.reached;
}

abbrev pub IsPast : ℕ → ℕ → Type 0
IsPast epoch e = (0 < e) × (e ≤ epoch)

pub record ClaimFits (epoch : ℕ) (announced : ℕ → ℕ) (c : Claim) : Type 0 where
  pub stored : 0 < c.seat → announced (c.seat - 1) ≡ c.announced
  pub idle : c.seat ≡ 0 → c.announced ≡ 0
  pub past : c.announced ≤ epoch
  pub epochs : Each (IsPast epoch) c.epochs
  pub risen : c.risen ≤ epoch
  pub first : c.first ≤ epoch
  pub low : c.low ≤ c.first

pub record EpochRule (k : Shape) (epoch : ℕ) (announced : ℕ → ℕ) (vs : List View) : Type 0 where
  pub above : 0 < epoch
  pub most : epoch ≤ last_epoch
  pub claims : EachAccount (λ a. ClaimFits epoch announced (claim_of k a)) vs
  -- a caller that is not made yet has announced nothing
  pub none_past : (i : ℕ) → made vs ≤ i → announced i ≡ 0
