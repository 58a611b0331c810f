-- What was loaded of the log: what a step leaves of it.
use Rattle.std.proofs.Common.{◌≡◌, ℕ, ◌<◌, ◌≤◌, List, set, sym, ap, ◌∙◌, subst, arith}
use mathlib.Core.Option.{some}
use lib.ListN.{get_elem?}
use Rattle.htss_defs.specs.declared.shape.Shape.{Shape}
use Rattle.board_core.specs.declared.account.Account.{Account}
use Rattle.board_core.specs.declared.account.View.{View}
use Rattle.board_core.specs.Each.{Each}
use Rattle.board_core.specs.Accounts.{with_me}
use Rattle.board_core.specs.declared.loads.ShownLoad.{ShownLoad}
use Rattle.board_core.specs.Words.{LogWords}
use Rattle.board_core.specs.LoadRule.{LoadFits, LoadRule}
use Rattle.board_core.proofs.Everyone.{mine, moved}

-- the words behind the front are as they were
pub record IsLater (w u : LogWords) : Type 0 where
  pub front : w.front ≤ u.front
  pub slots : (i : ℕ) → i < w.front → u.slots i ≡ w.slots i

pub load_later : (k : Shape) (w u : LogWords) (l : ShownLoad) → IsLater w u → LoadFits k w l → LoadFits k u l
load_later k w u l later f = record {
  seen = let a = f.seen in let b = later.front in omega arith;
  log = λ i inside place. let old = f.log i inside place in let behind : i < w.front = old.0 in let front = later.front in (omega arith, later.slots i behind ∙ old.1);
}

pub loads_later : (k : Shape) (w u : LogWords) (ls : List ShownLoad) → IsLater w u → Each (LoadFits k w) ls → Each (LoadFits k u) ls
loads_later k w u ls later all j l there = load_later k w u l later (all j l there)

-- a step that loads none of these
pub loads_same : (k : Shape) (w u : LogWords) (vs : List View) (id : ℕ) (v : View) (a : Account) → LoadRule k w vs → get_elem? vs id ≡ some v → IsLater w u → a.loads.shown ≡ v.me.loads.shown → LoadRule k u (set vs id (with_me v a))
loads_same k w u vs id v a r at later same = moved (λ x. Each (LoadFits k w) x.loads.shown) (λ x. Each (LoadFits k u) x.loads.shown) vs id v a at
    (subst (λ (ls : List ShownLoad). Each (LoadFits k u) ls) (sym same) (loads_later k w u v.me.loads.shown later (mine (λ x. Each (LoadFits k w) x.loads.shown) vs id v at r)))
    (λ x _. loads_later k w u x.loads.shown later) r

pub not_later : (w u : LogWords) → u.front ≡ w.front → u.slots ≡ w.slots → IsLater w u
not_later w u front slots = record { front = omega arith; slots = λ i _. ap (λ (f : ℕ → ℕ). f i) slots }
