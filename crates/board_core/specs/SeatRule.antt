-- Seats: each knows the shape, and the callers are the first so many in their order, each with one account.
use Rattle.std.specs.Prelude.{◌≡◌, ◌≢◌, ℕ, ◌+◌, ◌<◌, ◌≤◌, List}
use Rattle.htss_defs.specs.declared.shape.Shape.{Shape}
use Rattle.board_core.specs.declared.account.Who.{Who}
use Rattle.board_core.specs.declared.account.Who.TheVariants.{Opener, Loader, Searcher, Note, Gone}
use Rattle.board_core.specs.declared.account.View.{View}
use Rattle.board_core.specs.Each.{Each}
use Rattle.board_core.specs.Accounts.{EachAccount, total, made_by, is_opener, is_seat}

-- numbers are within the shape
abbrev pub WhoFits : Shape → Who → Type 0
WhoFits k (Opener n) = n ≤ k.loaders + k.searchers
WhoFits k (Loader n) = (0 < n) × (n ≤ k.loaders)
WhoFits k (Searcher n) = (0 < n) × (n ≤ k.searchers)
WhoFits k Note = Unit {0}
WhoFits k Gone = Unit {0}

-- how many callers were made
abbrev pub made : List View → ℕ
made vs = total (λ a. made_by a.who) vs

pub record SeatRule (k : Shape) (vs : List View) : Type 0 where
  pub shapes : Each (λ v. v.me.who ≢ Gone → v.shape ≡ k) vs
  pub limits : EachAccount (λ a. WhoFits k a.who) vs
  pub one_opener : total (λ a. is_opener a.who) vs ≡ 1
  pub callers : (c : ℕ) → 0 < c → c ≤ made vs → total (λ a. is_seat k c a.who) vs ≡ 1
  pub none_past : (c : ℕ) → made vs < c → total (λ a. is_seat k c a.who) vs ≡ 0
