-- What the exchanges of a page word have in common: the own page that comes into the tree, the row that is placed, and what other own
-- pages keep.
use Rattle.std.proofs.Common.{◌≡◌, ◌≢◌, ℕ, zero, suc, ◌-◌, ◌<◌, ◌≤◌, List, [], ◌∷◌, ◌++◌, set, sym, refl, ap, ◌∙◌, subst, arith, ◌+◌, length}
use mathlib.Core.Option.{some}
use mathlib.Core.Logic.{dite}
use native.Mathlib.Decide.{ℕ_discrete}
use lib.ListN.{get_elem?}
use Rattle.htss_defs.specs.declared.shape.Shape.{Shape}
use Rattle.htss_defs.specs.declared.history.Event.{Event}
use Rattle.board_core.specs.declared.account.Account.{Account}
use Rattle.board_core.specs.declared.account.View.{View}
use Rattle.board_core.specs.declared.account.Who.{Who}
use Rattle.board_core.specs.declared.pool.Own.{Own}
use Rattle.board_core.specs.declared.room.Row.{Row}
use Rattle.board_core.specs.Each.{Each, In}
use Rattle.board_core.specs.Words.{Parts, PoolWords, zeros}
use Rattle.board_core.specs.Accounts.{with_me, total}
use Rattle.board_core.specs.Sheets.{sheet_of, IsLinked, owns}
use Rattle.board_core.specs.PoolRule.{PoolRule}
use Rattle.board_core.specs.OwnRule.{OwnFits, OwnRule}
use Rattle.board_core.specs.RoomRule.{store_of, RoomFits}
use Rattle.board_core.specs.Rows.{entry_word, codes_in, own_codes, RowFits, IsOwnRow, RowsFit, RowRule, HasRow, IsPlaced}
use Rattle.board_core.specs.Turns.{IsPut}
use Rattle.board_core.specs.ClassTree.{IsBelow}
use Rattle.board_core.specs.Loaded.{HasStored, one_word}
use Rattle.board_core.specs.Holds.{Rule}
use Rattle.board_core.specs.After.{let_go}
use Rattle.board_core.proofs.Lists.{each_append}
use Rattle.board_core.proofs.Everyone.{mine, moved, changed, at_most}
use Rattle.board_core.proofs.PageSums.{where_other, without_here, without_else}
use Rattle.board_core.proofs.RowFrame.{codes_stand, not_placed}
use Rattle.board_core.proofs.Linked.{own_kept, Left}
use Rattle.board_core.proofs.PoolTree.{LetsFew}
use Rattle.board_core.proofs.CountFrame.{as_many}
use Rattle.board_core.specs.Steps.{MayLink}
use Rattle.board_core.specs.declared.tree.TreeAccount.{TreeAccount}

-- ---- an own page whose words were stored

own_index : (n : ℕ) (os : List Own) → 0 < owns n os → (j : ℕ) × (o : Own) × (get_elem? os j ≡ some o) × (o.page ≡ n)
own_index n [] some_o = absurd (omega arith)
own_index n (o ∷ os) some_o = dite (ℕ_discrete n o.page)
    (λ y. (zero, o, refl, sym y))
    (λ y. let away = where_other n o.page 1 y in let h = own_index n os (omega arith) in (suc h.0, h.1, h.2, h.3))

stored_word : (w : ℕ → ℕ → ℕ) (vs : List View) (id n : ℕ) (v : View) (ws : List ℕ) → OwnRule w vs → get_elem? vs id ≡ some v → HasStored v.me n ws → (i x : ℕ) → get_elem? ws i ≡ some x → w n i ≡ x
stored_word w vs id n v ws r at new i x there =
    let (j, o, in_list, page) = own_index n v.me.pool.own new.own in
    let words : o.words ≡ ws = new.stored j o in_list page in
    ap (λ (z : ℕ). w z i) (sym page) ∙ ((mine (λ a. Each (OwnFits w) a.pool.own) vs id v at r) j o in_list).words i x (ap (λ (l : List ℕ). get_elem? l i) words ∙ there)

at_zeros : (n i : ℕ) → i < n → get_elem? (zeros n) i ≡ some 0
at_zeros zero i h = absurd (omega arith)
at_zeros (suc n) zero h = refl
at_zeros (suc n) (suc i) h = at_zeros n i (omega arith)

rest_at : (header n i : ℕ) → 0 < i → i ≢ 2 → i < 16 → get_elem? (one_word header n) i ≡ some 0
rest_at header n zero above other small = absurd (omega arith)
rest_at header n (suc zero) above other small = refl
rest_at header n (suc (suc zero)) above other small = absurd (other refl)
rest_at header n (suc (suc (suc i))) above other small = at_zeros 13 i (omega arith)

-- a page with one word beside its header
pub record HasOne (page : ℕ → ℕ) (header n : ℕ) : Type 0 where
  pub header_is : page 0 ≡ header
  pub first : page 2 ≡ n
  pub rest : (i : ℕ) → 0 < i → i ≢ 2 → page i ≡ 0

pub has_one : (w : ℕ → ℕ → ℕ) (vs : List View) (id n header x : ℕ) (v : View) → OwnRule w vs → get_elem? vs id ≡ some v → HasStored v.me n (one_word header x) → ((i : ℕ) → 16 ≤ i → w n i ≡ 0) → HasOne (w n) header x
has_one w vs id n header x v r at new past =
    let word = stored_word w vs id n v (one_word header x) r at new in record {
      header_is = word 0 header refl;
      first = word 2 x refl;
      rest = λ i above other. dite (ℕ_discrete (i - 15) 0) (λ z. word i 0 (rest_at header x i above other (omega arith))) (λ z. past i (omega arith));
    }

-- ---- it leaves the account's own pages

pub go_less : (n : ℕ) (os : List Own) (q : ℕ) → owns q (let_go n os) ≤ owns q os
go_less n os q = dite (ℕ_discrete n q)
    (λ y. let none : owns q (let_go n os) ≡ 0 = subst (λ (z : ℕ). owns z (let_go n os) ≡ 0) y (without_here (λ o. o.page) n os) in omega arith)
    (λ y. let same : owns q (let_go n os) ≡ owns q os = without_else (λ o. o.page) (λ _. 1) n q y os in omega arith)

pub go_one : (n : ℕ) (os : List Own) (q : ℕ) → Left os (let_go n os) q → q ≡ n
go_one n os q left = dite (ℕ_discrete n q) (λ y. sym y) (λ y. let same : owns q (let_go n os) ≡ owns q os = without_else (λ o. o.page) (λ _. 1) n q y os in absurd (omega arith))

pub go_new : (n : ℕ) (os : List Own) → 0 < owns n os → Left os (let_go n os) n
go_new n os some_o = let none : owns n (let_go n os) ≡ 0 = without_here (λ o. o.page) n os in omega arith

-- nothing goes
pub none_left : (os : List Own) (q : ℕ) → Left os os q → ⊥
none_left os q left = omega arith

-- an own page is no page of the tree
pub own_apart : (k : Shape) (w : PoolWords) (vs : List View) (id n : ℕ) (v : View) → PoolRule k w vs → get_elem? vs id ≡ some v → 0 < owns n v.me.pool.own → IsLinked (sheet_of w.states vs) n → ⊥
own_apart k w vs id n v r at own l = let part = at_most (λ x. owns n x.pool.own) vs id v at in let none : total (λ x. owns n x.pool.own) vs ≡ 0 = l.owned in omega arith

-- and busy
pub own_busy : (k : Shape) (w : PoolWords) (vs : List View) (id n : ℕ) (v : View) → PoolRule k w vs → get_elem? vs id ≡ some v → 0 < owns n v.me.pool.own → w.states n ≢ 0
own_busy k w vs id n v r at own free = let part : owns n v.me.pool.own ≤ (sheet_of w.states vs).owned n = at_most (λ x. owns n x.pool.own) vs id v at in let one : w.states n ≡ 1 = (r.pages n).busy (omega arith) in omega arith

-- what other own pages keep: the page whose word changed is nobody's
pub own_linked : (states : ℕ → ℕ) (w u : ℕ → ℕ → ℕ) (vs : List View) (id q i n : ℕ) (v : View) (a : Account) → OwnRule w vs → get_elem? vs id ≡ some v → IsLinked (sheet_of states vs) q → IsPut w u q i n → owns q a.pool.own ≤ owns q v.me.pool.own → Each (OwnFits w) a.pool.own
    → OwnRule u (set vs id (with_me v a))
own_linked states w u vs id q i n v a r at l e less mine_now =
    let none : total (λ x. owns q x.pool.own) vs ≡ 0 = l.owned in
    let part : owns q v.me.pool.own ≤ total (λ x. owns q x.pool.own) vs = at_most (λ x. owns q x.pool.own) vs id v at in
    moved (λ x. Each (OwnFits w) x.pool.own) (λ x. Each (OwnFits u) x.pool.own) vs id v a at
    (own_kept w u q i n a.pool.own e (omega arith) mine_now)
    (λ x other f. own_kept w u q i n x.pool.own e (let both = other (λ y. owns q y.pool.own) in omega arith) f) r

-- ---- rows

-- rows that were begun are placed
pub rows_placed : (k : Shape) (vs : List View) (id : ℕ) (v : View) (a : Account) (more : List Row) → RowRule k vs → get_elem? vs id ≡ some v → a.who ≡ v.me.who → a.room ≡ v.me.room → a.tree.begun ≡ v.me.tree.begun → a.tree.placed ≡ v.me.tree.placed ++ more
    → Each (λ r. In r v.me.tree.begun) more → RowRule k (set vs id (with_me v a))
rows_placed k vs id v a more r at who room begun placed all =
    let f = mine (λ x. RowsFit k x.who x.room.used x.room.sealed x.tree) vs id v at r in
    changed (λ x. RowsFit k x.who x.room.used x.room.sealed x.tree) vs id v a at record {
      begun = subst (λ (x : Who × List Row). Each (RowFits k x.0 a.room.used a.room.sealed) x.1) (λ t. (sym who t, sym begun t))
          (λ j q there. let g = f.begun j q there in subst (λ (x : _). RowFits k v.me.who x.used x.sealed q) (sym room) g);
      placed = subst (λ (x : List Row × List Row). Each (λ q. In q x.0) x.1) (λ t. (sym begun t, sym placed t)) (each_append (λ q. In q v.me.tree.begun) v.me.tree.placed more f.placed all);
    } r

module _ (k : Shape) (p : Parts) (h : List Event) (vs : List View) (id : ℕ) (v : View) (r : Rule k p h vs) (at : get_elem? vs id ≡ some v) where
  -- a row that was begun is an own one, and its codes are those that the table shows
  pub own_row : (q : Row) → In q v.me.tree.begun → IsOwnRow k v.me q
  own_row q there = (mine (λ x. RowsFit k x.who x.room.used x.room.sealed x.tree) vs id v at r.rows).begun there.0 q there.1

  pub row_codes : (q : Row) → In q v.me.tree.begun → codes_in k p.regions (entry_word q) ≡ own_codes k v.me q
  row_codes q there = codes_stand k p.regions v.me q (mine (λ x. RoomFits k p.regions (store_of x)) vs id v at r.rooms.rooms) (own_row q there)

  pub row_below : (q : Row) (path : List ℕ) → In q v.me.tree.begun → IsBelow path (own_codes k v.me q) → IsBelow path (codes_in k p.regions (entry_word q))
  row_below q path there below = subst (λ (l : List ℕ). IsBelow path l) (sym (row_codes q there)) below

  -- which nobody has placed
  pub row_free : (q : Row) → In q v.me.tree.begun → (HasRow (entry_word q) v.me.tree.placed → ⊥) → IsPlaced vs (entry_word q) → ⊥
  row_free q there fresh = not_placed k p.regions vs id v q r.seats r.rooms.rooms r.rows at (own_row q there) fresh

-- an entry is not 0
pub some_entry : (k : Shape) (a : Account) (q : Row) → IsOwnRow k a q → entry_word q ≢ 0
some_entry k a q fits z = let above = fits.above in omega arith

-- an own page is its owner's alone, once
pub own_once : (k : Shape) (w : PoolWords) (vs : List View) (id : ℕ) (v : View) → PoolRule k w vs → get_elem? vs id ≡ some v → (q : ℕ) → owns q v.me.pool.own ≤ 1
own_once k w vs id v r at q = let once = (r.pages q).once in let part : owns q v.me.pool.own ≤ (sheet_of w.states vs).owned q = at_most (λ x. owns q x.pool.own) vs id v at in omega arith

-- one of them goes
pub one_few : (k : Shape) (w : PoolWords) (vs : List View) (id n : ℕ) (v : View) (t : TreeAccount) → PoolRule k w vs → get_elem? vs id ≡ some v → MayLink v.me 1 → t.begun ≡ v.me.tree.begun → LetsFew v.me (let_go n v.me.pool.own) 1 t
one_few k w vs id n v t r at may begun = let many = as_many n v.me.pool.own in let once = own_once k w vs id v r at n in record { less = omega arith; few = omega arith; may = may; begun = begun }
