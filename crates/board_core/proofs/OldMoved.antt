-- Old rows under steps that keep the log words behind the front and the words of sealed blocks.
use Rattle.std.proofs.Common.{◌≡◌, ℕ, ◌<◌, ◌≤◌, List, set, sym, ap, ◌∙◌, subst, arith}
use mathlib.Core.Option.{some}
use lib.ListN.{get_elem?}
use Rattle.htss_defs.specs.declared.shape.Shape.{Shape}
use Rattle.board_core.specs.declared.account.Account.{Account}
use Rattle.board_core.specs.declared.account.View.{View}
use Rattle.board_core.specs.Words.{LogWords}
use Rattle.board_core.specs.Accounts.{with_me}
use Rattle.board_core.specs.LogWord.{kind_in, target_in}
use Rattle.board_core.specs.Blocks.{atoms_in}
use Rattle.board_core.specs.Histories.{block_at}
use Rattle.board_core.specs.RoomRule.{RoomRule, region_of, SameSealed}
use Rattle.board_core.specs.Rows.{entry_word}
use Rattle.board_core.specs.OldRows.{IsOldRow}
use Rattle.board_core.specs.PinRule.{PinRule}
use Rattle.board_core.proofs.LoadFrame.{IsLater}
use Rattle.board_core.proofs.RoomFrame.{size_least}
use Rattle.board_core.proofs.Everyone.{mine, moved}

pub no_old : (k : Shape) (regions slots : ℕ → ℕ) (n : ℕ) → IsOldRow k regions slots 0 n → ⊥
no_old k regions slots n o = let none_before = o.before in omega arith

pub old_before : (k : Shape) (regions other : ℕ → ℕ) (w u : LogWords) (vs : List View) (f n : ℕ) → RoomRule k regions w.front w.slots vs → SameSealed k regions other vs → IsLater w u → f ≤ w.front → IsOldRow k other u.slots f n → IsOldRow k regions w.slots f n
old_before k regions other w u vs f n rooms same later most o =
    let i : ℕ = o.index in
    let before = o.before in
    let behind : i < w.front = omega arith in
    let slot : u.slots i ≡ w.slots i = later.slots i behind in
    let kind : ¬ (kind_in (w.slots i) ≡ 2) = subst (λ (z : ℕ). ¬ (kind_in z ≡ 2)) slot o.kind in
    let (j, v, at, t, a, there, shown) = rooms.named i behind kind in
    let (b, s, in_list, place) = shown.1 in
    let least = size_least (region_of k a.who) a.room.used s ((rooms.rooms j v at t a there).sealed b s in_list) in
    let here : block_at k other s.place 0 ≡ block_at k regions s.place 0 = same j v at t a there b s in_list 0 (omega arith) (λ e. omega arith) (λ e. omega arith) in
    let head : block_at k other (target_in (u.slots i)) 0 ≡ block_at k regions (target_in (w.slots i)) 0 =
    ap (λ (z : ℕ). block_at k other (target_in z) 0) slot ∙ subst (λ (z : ℕ). block_at k other z 0 ≡ block_at k regions z 0) place here in record {
      index = i;
      before = before;
      kind = kind;
      atom = o.atom;
      above = o.above;
      most = subst (λ (h : ℕ). o.atom ≤ atoms_in h) head o.most;
      names = (λ e. entry_word (record { block = target_in (sym slot e); atom = o.atom })) ∙ o.names;
    }

pub pins_same : (front more : ℕ) (vs : List View) (id : ℕ) (v : View) (a : Account) → PinRule front vs → get_elem? vs id ≡ some v → front ≤ more → a.tree.front ≤ front → PinRule more (set vs id (with_me v a))
pins_same front more vs id v a r at later here = moved (λ x. x.tree.front ≤ front) (λ x. x.tree.front ≤ more) vs id v a at (omega arith) (λ x _ h. omega arith) r

pub pin_here : (front : ℕ) (vs : List View) (id : ℕ) (v : View) → PinRule front vs → get_elem? vs id ≡ some v → v.me.tree.front ≤ front
pin_here front vs id v r at = mine (λ x. x.tree.front ≤ front) vs id v at r
