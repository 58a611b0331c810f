-- Page counts (this project's own): a caller has linked few pages for each insertion that it has begun, and has few of
-- its own. The pages that are not free are those, and the root.
use Rattle.std.specs.Prelude.{ℕ, zero, suc, ◌+◌, ◌*◌, ◌≤◌, List, length}
use Rattle.htss_defs.specs.declared.shape.Shape.{Shape}
use Rattle.board_core.specs.declared.account.Account.{Account}
use Rattle.board_core.specs.declared.account.View.{View}
use Rattle.board_core.specs.Accounts.{EachAccount, total, is_loader}

-- the pages that one insertion may link, and the own pages of one loader
abbrev pub most_linked : ℕ
most_linked = 70

abbrev pub most_own : ℕ
most_own = 33

-- the pages that so many loaders can have taken for so many insertions, and the root
abbrev pub pages_for : ℕ → ℕ → ℕ
pages_for insertions loaders = most_linked * insertions + most_own * loaders + 1

-- a state that is not 0
abbrev pub busy : ℕ → ℕ
busy zero = 0
busy (suc n) = 1

-- the pages up to this one that are not free
abbrev pub busy_up_to : (ℕ → ℕ) → ℕ → ℕ
busy_up_to states zero = 0
busy_up_to states (suc p) = busy_up_to states p + busy (states (suc p))

-- the insertions that a caller has begun
abbrev pub insertions_of : Account → ℕ
insertions_of a = length a.tree.begun

-- the pages of its own, and those that it has linked
abbrev pub pages_of : Account → ℕ
pages_of a = length a.pool.own + a.counts.linked

pub record CountFits (a : Account) : Type 0 where
  pub linked : a.counts.linked ≤ most_linked * insertions_of a
  pub own : length a.pool.own ≤ most_own * is_loader a.who

pub record CountRule (k : Shape) (states : ℕ → ℕ) (vs : List View) : Type 0 where
  pub fits : EachAccount CountFits vs
  pub taken : busy_up_to states k.pages ≤ total pages_of vs + 1
