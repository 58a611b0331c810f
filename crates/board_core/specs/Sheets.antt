-- What all accounts together say of each page, as four numbers, and the page's status from these (this project's own).
use Rattle.std.specs.Prelude.{◌≡◌, ℕ, ◌+◌, ◌-◌, ◌==◌, List, if◌then◌else◌}
use Rattle.board_core.specs.declared.account.View.{View}
use Rattle.board_core.specs.declared.pool.Own.{Own}
use Rattle.board_core.specs.declared.pool.Parted.{Parted}
use Rattle.board_core.specs.Each.{sum_of}
use Rattle.board_core.specs.Accounts.{total}

-- n where the pages are one
abbrev pub where_page : ℕ → ℕ → ℕ → ℕ
where_page p q n = if p == q then n else 0

-- how often an account has a page as its own, and as unlinked, and the stamp loaded for it there
abbrev pub owns : ℕ → List Own → ℕ
owns p os = sum_of (λ o. where_page p o.page 1) os

abbrev pub parts : ℕ → List Parted → ℕ
parts p us = sum_of (λ u. where_page p u.page 1) us

abbrev pub stamps : ℕ → List Parted → ℕ
stamps p us = sum_of (λ u. where_page p u.page u.stamp) us

-- the state word of each page, how many accounts have it as their own, how many as unlinked, and the stamps loaded for
-- it
pub record Sheet : Type 0 where
  pub state : ℕ → ℕ
  pub owned : ℕ → ℕ
  pub parted : ℕ → ℕ
  pub stamped : ℕ → ℕ

abbrev pub sheet_of : (ℕ → ℕ) → List View → Sheet
sheet_of states vs = record {
  state = states;
  owned = λ p. total (λ a. owns p a.pool.own) vs;
  parted = λ p. total (λ a. parts p a.pool.parted) vs;
  stamped = λ p. total (λ a. stamps p a.pool.parted) vs;
}

-- the page's stamp, loaded or stored: 0 where there is none, as of a free, own or linked page
abbrev pub stamp_of : Sheet → ℕ → ℕ
stamp_of s p = s.stamped p + (s.state p - 1)

-- a page of the tree: busy, and nobody's
pub record IsLinked (s : Sheet) (p : ℕ) : Type 0 where
  pub busy : s.state p ≡ 1
  pub owned : s.owned p ≡ 0
  pub parted : s.parted p ≡ 0
