-- How many pages are not free: few for the insertions begun, whatever became of the pages that were given back.
use Rattle.std.proofs.Common.{◌≡◌, ℕ, zero, suc, ◌+◌, ◌*◌, ◌-◌, ◌<◌, ◌≤◌, cond, List, [], ◌∷◌, length, sym, refl, ap, ◌∙◌, subst, arith, eq-eqb}
use mathlib.Core.Option.{some, some-injective, some-ne-none}
use mathlib.Core.Logic.{dite}
use native.Mathlib.Decide.{ℕ_discrete}
use lib.ListN.{get_elem?}
use Rattle.atomic_table.specs.Table.{State}
use Rattle.htss_defs.specs.declared.shape.Shape.{Shape}
use Rattle.board_core.specs.declared.account.Account.{Account}
use Rattle.board_core.specs.declared.account.View.{View}
use Rattle.board_core.specs.declared.account.Who.{Who}
use Rattle.board_core.specs.declared.account.Who.TheVariants.{Opener, Loader, Searcher, Note, Gone}
use Rattle.board_core.specs.declared.entry.Entry.TheVariants.{NoPage}
use Rattle.board_core.specs.declared.entry.Noted.{Noted}
use Rattle.board_core.specs.Each.{Each, sum_of}
use Rattle.board_core.specs.Words.{parts_of}
use Rattle.board_core.specs.Accounts.{EachAccount, accounts_in, total, is_seat, is_loader}
use Rattle.board_core.specs.SeatRule.{SeatRule, WhoFits, made}
use Rattle.board_core.specs.Truths.{IsTruePool}
use Rattle.board_core.specs.CountRule.{most_linked, most_own, pages_for, busy_up_to, insertions_of, pages_of, CountRule}
use Rattle.board_core.specs.Holds.{Holds}
use Rattle.board_core.specs.declared.room.Row.{Row}
use Rattle.board_core.specs.RoomRule.{store_of, room_of, RoomFits}
use Rattle.board_core.specs.Rows.{RowFits}
use Rattle.board_core.proofs.Lists.{one_of}
use Rattle.board_core.proofs.CountFrame.{all_busy}

-- ---- sums of sums

sum_most : {A : Type 0} (f g : A → ℕ) (xs : List A) → Each (λ x. f x ≤ g x) xs → sum_of f xs ≤ sum_of g xs
sum_most f g [] all = omega arith
sum_most f g (x ∷ xs) all = let here = all zero x refl in let rest = sum_most f g xs (λ j. all (suc j)) in omega arith

pub sum_plus : {A : Type 0} (f g : A → ℕ) (xs : List A) → sum_of (λ x. f x + g x) xs ≡ sum_of f xs + sum_of g xs
sum_plus f g [] = refl
sum_plus f g (x ∷ xs) = let rest = sum_plus f g xs in omega arith

pub sum_same : {A : Type 0} (f g : A → ℕ) (xs : List A) → ((x : A) → f x ≡ g x) → sum_of f xs ≡ sum_of g xs
sum_same f g [] same = refl
sum_same f g (x ∷ xs) same = let here = same x in let rest = sum_same f g xs same in omega arith

sum_none : {A : Type 0} (xs : List A) → sum_of (λ _. 0) xs ≡ 0
sum_none [] = refl
sum_none (x ∷ xs) = let rest = sum_none xs in omega arith

pub total_most : (f g : Account → ℕ) (vs : List View) → EachAccount (λ a. f a ≤ g a) vs → total f vs ≤ total g vs
total_most f g vs all = sum_most (λ v. sum_of f (accounts_in v)) (λ v. sum_of g (accounts_in v)) vs (λ j v at. sum_most f g (accounts_in v) (all j v at))

pub total_plus : (f g : Account → ℕ) (vs : List View) → total (λ a. f a + g a) vs ≡ total f vs + total g vs
total_plus f g vs = sum_same (λ v. sum_of (λ a. f a + g a) (accounts_in v)) (λ v. sum_of f (accounts_in v) + sum_of g (accounts_in v)) vs (λ v. sum_plus f g (accounts_in v))
    ∙ sum_plus (λ v. sum_of f (accounts_in v)) (λ v. sum_of g (accounts_in v)) vs

total_none : (vs : List View) → total (λ _. 0) vs ≡ 0
total_none vs = sum_same (λ (v : View). sum_of (λ _. 0) (accounts_in v)) (λ _. 0) vs (λ v. sum_none (accounts_in v)) ∙ sum_none vs

-- a sum that is bounded by two others
sum_bound : {A : Type 0} (f g h : A → ℕ) (xs : List A) → Each (λ x. f x ≤ most_linked * g x + most_own * h x) xs → sum_of f xs ≤ most_linked * sum_of g xs + most_own * sum_of h xs
sum_bound f g h [] all = omega arith
sum_bound f g h (x ∷ xs) all = let here = all zero x refl in let rest = sum_bound f g h xs (λ j. all (suc j)) in omega arith

total_bound : (f g h : Account → ℕ) (vs : List View) → EachAccount (λ a. f a ≤ most_linked * g a + most_own * h a) vs → total f vs ≤ most_linked * total g vs + most_own * total h vs
total_bound f g h vs all = sum_bound (λ v. sum_of f (accounts_in v)) (λ v. sum_of g (accounts_in v)) (λ v. sum_of h (accounts_in v)) vs (λ j v at. sum_bound f g h (accounts_in v) (all j v at))

-- ---- the loaders

-- the sum of f at 1 to n
abbrev up_to : (ℕ → ℕ) → ℕ → ℕ
up_to f zero = 0
up_to f (suc n) = up_to f n + f (suc n)

up_to_one : (f : ℕ → ℕ) (c n : ℕ) → 0 < c → c ≤ n → f c ≡ 1 → 1 ≤ up_to f n
up_to_one f c zero above within one = absurd (omega arith)
up_to_one f c (suc n) above within one = dite (ℕ_discrete c (suc n))
    (λ e. let here : f (suc n) ≡ 1 = ap f (sym e) ∙ one in omega arith)
    (λ other. let rest = up_to_one f c n above (omega arith) one in omega arith)

up_to_most : (f : ℕ → ℕ) (n : ℕ) → ((c : ℕ) → 0 < c → f c ≤ 1) → up_to f n ≤ n
up_to_most f zero small = omega arith
up_to_most f (suc n) small = let rest = up_to_most f n small in let here = small (suc n) (omega arith) in omega arith

total_up_to : (f : ℕ → Account → ℕ) (vs : List View) (n : ℕ) → total (λ a. up_to (λ c. f c a) n) vs ≡ up_to (λ c. total (f c) vs) n
total_up_to f vs zero = total_none vs
total_up_to f vs (suc n) = total_plus (λ a. up_to (λ c. f c a) n) (f (suc n)) vs ∙ ap (λ z. z + total (f (suc n)) vs) (total_up_to f vs n)

loader_seat : (k : Shape) (who : Who) → WhoFits k who → is_loader who ≤ up_to (λ c. is_seat k c who) k.loaders
loader_seat k (Opener n) fits = omega arith
loader_seat k (Loader n) fits = up_to_one (λ c. is_seat k c (Loader n)) n k.loaders fits.0 fits.1 (ap (λ b. cond b 1 0) (eq-eqb n n refl))
loader_seat k (Searcher n) fits = omega arith
loader_seat k Note fits = omega arith
loader_seat k Gone fits = omega arith

seat_once : (k : Shape) (vs : List View) (c : ℕ) → SeatRule k vs → 0 < c → total (λ a. is_seat k c a.who) vs ≤ 1
seat_once k vs c r above = dite (ℕ_discrete (c - made vs) 0)
    (λ e. let one = r.callers c above (omega arith) in omega arith)
    (λ e. let none = r.none_past c (omega arith) in omega arith)

-- there are no more loaders than the shape says
few_loaders : (k : Shape) (vs : List View) → SeatRule k vs → total (λ a. is_loader a.who) vs ≤ k.loaders
few_loaders k vs r =
    let each_one = total_most (λ a. is_loader a.who) (λ a. up_to (λ c. is_seat k c a.who) k.loaders) vs (λ j v at i a there. loader_seat k a.who (r.limits j v at i a there)) in
    let swapped = total_up_to (λ c a. is_seat k c a.who) vs k.loaders in
    let most = up_to_most (λ c. total (λ a. is_seat k c a.who) vs) k.loaders (λ c above. seat_once k vs c r above) in omega arith

-- ---- the laws

pub few_busy : (k : Shape) (states : ℕ → ℕ) (vs : List View) → SeatRule k vs → CountRule k states vs → busy_up_to states k.pages ≤ pages_for (total insertions_of vs) k.loaders
few_busy k states vs seats r =
    let own = total_bound pages_of insertions_of (λ a. is_loader a.who) vs (λ j v at i a there. let fits = r.fits j v at i a there in let few = fits.own in let linked = fits.linked in omega arith) in
    let loaders = few_loaders k vs seats in
    let taken = r.taken in omega arith

-- at each moment few pages are not free
pub few_pages : (k : Shape) (s : State (Unit {0}) View) → Holds k s → busy_up_to (parts_of k s.words).pool.states k.pages ≤ pages_for (total insertions_of s.views) k.loaders
few_pages k s h = few_busy k (parts_of k s.words).pool.states s.views h.rule.seats h.rule.pool.counts

-- where somebody was told that no page is left, the table has few pages
pub few_if_told : (k : Shape) (s : State (Unit {0}) View) (id i j : ℕ) (v : View) (a : Account) (n : Noted) → Holds k s → get_elem? s.views id ≡ some v → get_elem? (accounts_in v) i ≡ some a → get_elem? a.entries j ≡ some n → n.entry ≡ NoPage
    → k.pages ≤ pages_for (total insertions_of s.views) k.loaders
few_if_told k s id i j v a n h at there spot is =
    let states : ℕ → ℕ = (parts_of k s.words).pool.states in
    let most = few_pages k s h in
    let all : busy_up_to states k.pages ≡ k.pages = all_busy states k.pages (subst (IsTruePool k states) is (h.rule.empty id v at i a there j n spot)) in omega arith

-- ---- of the accounts that were gathered

-- where one part takes the whole of a sum, another sum that is 0 with it has no other part
none_each : {A : Type 0} (f g : A → ℕ) (xs : List A) → Each (λ x. f x ≡ 0 → g x ≡ 0) xs → sum_of f xs ≡ 0 → sum_of g xs ≡ 0
none_each f g [] all e = refl
none_each f g (x ∷ xs) all e = let here = all zero x refl (omega arith) in let rest = none_each f g xs (λ j. all (suc j)) (omega arith) in omega arith

only_each : {A : Type 0} (f g : A → ℕ) (xs : List A) (i : ℕ) (a : A) → Each (λ x. f x ≡ 0 → g x ≡ 0) xs → get_elem? xs i ≡ some a → sum_of f xs ≤ f a → sum_of g xs ≡ g a
only_each f g [] i a all at most = absurd (some-ne-none a (sym at))
only_each f g (x ∷ xs) zero a all at most = let e : f x ≡ f a = ap f (some-injective x a at) in let d : g x ≡ g a = ap g (some-injective x a at) in let rest = none_each f g xs (λ j. all (suc j)) (omega arith) in omega arith
only_each f g (x ∷ xs) (suc i) a all at most = let some_there = one_of f xs i a at in let here = all zero x refl (omega arith) in let rest = only_each f g xs i a (λ j. all (suc j)) at (omega arith) in omega arith

-- a seat that is no loader's begins no row
none_begun : (k : Shape) (regions : ℕ → ℕ) (a : Account) → RoomFits k regions (store_of a) → Each (RowFits k a.who a.room.used a.room.sealed) a.tree.begun → is_loader a.who ≡ 0 → insertions_of a ≡ 0
none_begun k regions a room rows none = no_row a.tree.begun (λ j r there.
    let (i, s, at, place) = (rows j r there).sealed in
    let fits = room.sealed i s at in
    let from = fits.from in let until = fits.until in let long = fits.long in let within = room.within in
    let bare : room_of k a.who ≡ 0 = no_room k a.who none in omega arith)
  where
    no_room : (k : Shape) (who : Who) → is_loader who ≡ 0 → room_of k who ≡ 0
    no_room k (Loader n) e = absurd (omega arith)
    no_room k (Opener n) e = refl
    no_room k (Searcher n) e = refl
    no_room k Note e = refl
    no_room k Gone e = refl

    no_row : (rs : List Row) → ((j : ℕ) (r : Row) → get_elem? rs j ≡ some r → ⊥) → length rs ≡ 0
    no_row [] none = refl
    no_row (r ∷ rs) none = absurd (none zero r refl)

-- where all loaders are among the accounts of one view, all rows were begun by these
pub all_gathered : (k : Shape) (s : State (Unit {0}) View) (id : ℕ) (v : View) → Holds k s → get_elem? s.views id ≡ some v → sum_of (λ a. is_loader a.who) (accounts_in v) ≡ k.loaders → total insertions_of s.views ≡ sum_of insertions_of (accounts_in v)
all_gathered k s id v h at all =
    let loaders = few_loaders k s.views h.rule.seats in
    let regions : ℕ → ℕ = (parts_of k s.words).regions in
    only_each (λ u. sum_of (λ b. is_loader b.who) (accounts_in u)) (λ u. sum_of insertions_of (accounts_in u)) s.views id v
    (λ t u up none. none_each (λ b. is_loader b.who) insertions_of (accounts_in u) (λ q b in_view e. none_begun k regions b (h.rule.rooms.rooms t u up q b in_view) (h.rule.rows t u up q b in_view).begun e) none)
    at (omega arith)

-- and where one of them was told that no page is left, the table has few pages
pub few_if_gathered : (k : Shape) (s : State (Unit {0}) View) (id : ℕ) (v : View) → Holds k s → get_elem? s.views id ≡ some v → sum_of (λ a. is_loader a.who) (accounts_in v) ≡ k.loaders
    → (i j : ℕ) (a : Account) (n : Noted) → get_elem? (accounts_in v) i ≡ some a → get_elem? a.entries j ≡ some n → n.entry ≡ NoPage → k.pages ≤ pages_for (sum_of insertions_of (accounts_in v)) k.loaders
few_if_gathered k s id v h at all i j a n there spot is =
    let only = all_gathered k s id v h at all in
    let most = few_if_told k s id i j v a n h at there spot is in omega arith
