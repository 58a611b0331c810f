-- The accounts of a board: a seat's own, and those of the callers that it gathered (this project's own).
use Rattle.std.specs.Prelude.{ℕ, ◌+◌, ◌-◌, ◌≤◌, ◌==◌, nat_lt, List, [], ◌∷◌, ◌++◌, None, if◌then◌else◌}
use Rattle.htss_defs.specs.declared.shape.Shape.{Shape}
use Rattle.board_core.specs.declared.account.Who.{Who}
use Rattle.board_core.specs.declared.account.Who.TheVariants.{Opener, Loader, Searcher, Note, Gone}
use Rattle.board_core.specs.declared.account.Account.{Account}
use Rattle.board_core.specs.declared.account.View.{View}
use Rattle.board_core.specs.declared.log.Holding.TheVariants.{Away}
use Rattle.board_core.specs.declared.log.Pending.{Pending}
use Rattle.board_core.specs.declared.loads.Loads.{Loads}
use Rattle.board_core.specs.Each.{Each, sum_of}

abbrev pub nothing : Pending
nothing = record { shows = None; ends = None; logged = None }

abbrev pub no_loads : Loads
no_loads = record {
  fronts = [];
  epochs = [];
  announcements = [];
  states = [];
  lost = [];
  codes = [];
  facts = [];
  heads = [];
  marks = [];
  shown = [];
}

-- an account that knows a front and no more
abbrev pub account : Who → ℕ → Account
account who seen = record {
  who = who;
  log = record { seen = seen; holding = Away; pending = nothing };
  room = record { used = []; sealed = []; published = [] };
  pool = record { announced = 0; risen = 0; first = 0; low = 0; passed = 0; own = []; parted = [] };
  tree = record { front = 0; reached = []; lasting = []; begun = []; placed = [] };
  counts = record { linked = 0 };
  loads = no_loads;
  entries = [];
}

abbrev pub view : Shape → Account → View
view k a = record { shape = k; me = a; kept = [] }

-- the first seat, which makes the callers
abbrev pub opener : Shape → View
opener k = view k (account (Opener 0) 0)

-- a seat that was joined into another. It can't know the shape, since there is one such view for all boards
abbrev pub gone : View
gone = view (record { loaders = 0; searchers = 0; pages = 0; room = 0; log = 0; chain = 0 }) (account Gone 0)

abbrev pub with_me : View → Account → View
with_me v a = record { shape = v.shape; me = a; kept = v.kept }

-- the view that takes in another's accounts keeps its own as it was
abbrev pub keeping : View → View → View
keeping v w = record { shape = v.shape; me = v.me; kept = v.kept ++ w.me ∷ w.kept }

abbrev pub accounts_in : View → List Account
accounts_in v = v.me ∷ v.kept

-- a fact of all accounts, and a sum over them
abbrev pub EachAccount : (Account → Type 0) → List View → Type 0
EachAccount F vs = Each (λ v. Each F (accounts_in v)) vs

abbrev pub total : (Account → ℕ) → List View → ℕ
total f vs = sum_of (λ v. sum_of f (accounts_in v)) vs

-- an account that stands at another place than this one: two of them count apart, whatever is counted
abbrev pub IsOther : List View → Account → Account → Type 0
IsOther vs a other = (f : Account → ℕ) → f other + f a ≤ total f vs

-- callers in the order in which they are made: loaders first, from 1
abbrev pub seat_of : Shape → Who → ℕ
seat_of k (Loader n) = n
seat_of k (Searcher n) = k.loaders + n
seat_of k (Opener n) = 0
seat_of k Note = 0
seat_of k Gone = 0

-- the caller that the opener makes after so many
abbrev pub caller_after : Shape → ℕ → Who
caller_after k made = if nat_lt made k.loaders then Loader (made + 1) else Searcher (made + 1 - k.loaders)

-- how many callers the opener has made
abbrev pub made_by : Who → ℕ
made_by (Opener n) = n
made_by (Loader n) = 0
made_by (Searcher n) = 0
made_by Note = 0
made_by Gone = 0

abbrev pub is_opener : Who → ℕ
is_opener (Opener n) = 1
is_opener (Loader n) = 0
is_opener (Searcher n) = 0
is_opener Note = 0
is_opener Gone = 0

-- 1 where the account is a loader's
abbrev pub is_loader : Who → ℕ
is_loader (Opener n) = 0
is_loader (Loader n) = 1
is_loader (Searcher n) = 0
is_loader Note = 0
is_loader Gone = 0

-- 1 where the account is that caller's
abbrev pub is_seat : Shape → ℕ → Who → ℕ
is_seat k c who = if seat_of k who == c then 1 else 0
