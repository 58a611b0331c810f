-- No page that a caller holds is any caller's own.
use Rattle.std.proofs.Common.{◌≡◌, ℕ, ◌<◌, ◌≤◌, List, arith}
use mathlib.Core.Option.{some}
use lib.ListN.{get_elem?}
use Rattle.board_core.specs.declared.account.Account.{Account}
use Rattle.board_core.specs.declared.account.View.{View}
use Rattle.board_core.specs.Each.{sum_of}
use Rattle.board_core.specs.Accounts.{accounts_in, total}
use Rattle.board_core.specs.Sheets.{owns}
use Rattle.board_core.proofs.Lists.{one_of}
use Rattle.page_pool.specs.Holding.{LawOfHolding}

-- one account's part of the sum over all
in_total : (f : Account → ℕ) (vs : List View) (j i : ℕ) (u : View) (x : Account) → get_elem? vs j ≡ some u → get_elem? (accounts_in u) i ≡ some x → f x ≤ total f vs
in_total f vs j i u x at there =
    let part : f x ≤ sum_of f (accounts_in u) = one_of f (accounts_in u) i x there in
    let all : sum_of f (accounts_in u) ≤ total f vs = one_of (λ v. sum_of f (accounts_in v)) vs j u at in omega arith

pub law : LawOfHolding
law k p history vs rule j u at i holder here m v that n other there place page held =
    let fits = rule.pool.held j u at i holder here place page held in
    let pinned = fits.pinned in
    let busy : 0 < p.pool.states page = fits.busy in
    let none : total (λ a. owns page a.pool.own) vs ≡ 0 = fits.owned in
    let part : owns page other.pool.own ≤ total (λ a. owns page a.pool.own) vs = in_total (λ a. owns page a.pool.own) vs m n v other that there in
    record { pinned = λ z. omega arith; busy = λ z. omega arith; apart = omega arith }
