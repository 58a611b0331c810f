-- A word of a region is one account's: two accounts in whose rooms it lies are one.
use Rattle.std.proofs.Common.{◌≡◌, ℕ, suc, ◌+◌, ◌*◌, ◌-◌, ◌<◌, ◌≤◌, List, sym, refl, ap, ◌∙◌, subst, arith, ⊎_elim, lt_of_not-le, mul-le-mul_right, suc-mul}
use mathlib.Core.Option.{some, some-injective}
use mathlib.Core.Logic.{dite}
use native.Mathlib.Decide.{ℕ_discrete, dec_le}
use lib.ListN.{get_elem?}
use Rattle.htss_defs.specs.declared.shape.Shape.{Shape}
use Rattle.board_core.specs.declared.account.Who.{Who}
use Rattle.board_core.specs.declared.account.Who.TheVariants.{Opener, Loader, Searcher, Note, Gone}
use Rattle.board_core.specs.declared.account.Account.{Account}
use Rattle.board_core.specs.declared.account.View.{View}
use Rattle.board_core.specs.Each.{sum_of}
use Rattle.board_core.specs.Words.{regions_at, stored}
use Rattle.board_core.specs.Accounts.{IsOther, accounts_in, EachAccount, total, is_seat}
use Rattle.board_core.specs.SeatRule.{SeatRule, WhoFits, made}
use Rattle.board_core.specs.RoomRule.{Store, store_of, region_of, room_of, IsMark, RoomFits, SameSealed}
use Rattle.board_core.proofs.Lists.{one_of, two_of}
use Rattle.board_core.proofs.Callers.{seat_this}
use Rattle.board_core.proofs.RoomFrame.{not_mark, size_least}
use Rattle.board_core.proofs.Stored.{stored_else}

-- an account at its place
pub record IsAt (vs : List View) (a : Account) : Type 0 where
  pub view_place : ℕ
  pub seen_view : View
  pub at : get_elem? vs view_place ≡ some seen_view
  pub place : ℕ
  pub there : get_elem? (accounts_in seen_view) place ≡ some a

two_in_view : (f : Account → ℕ) (vs : List View) (i : ℕ) (v : View) → get_elem? vs i ≡ some v → sum_of f (accounts_in v) ≤ total f vs
two_in_view f vs i v at = one_of (λ u. sum_of f (accounts_in u)) vs i v at

-- two accounts that count 1 in a sum that is at most 1 are one
pub only_one : (f : Account → ℕ) (vs : List View) (a b : Account) → total f vs ≤ 1 → IsAt vs a → IsAt vs b → f a ≡ 1 → f b ≡ 1 → a ≡ b
only_one f vs a b most p q one other = dite (ℕ_discrete p.view_place q.view_place)
    (λ same. let is : p.seen_view ≡ q.seen_view = some-injective p.seen_view q.seen_view (sym p.at ∙ (ap (get_elem? vs) same ∙ q.at)) in
    let there : get_elem? (accounts_in q.seen_view) p.place ≡ some a = subst (λ (u : View). get_elem? (accounts_in u) p.place ≡ some a) is p.there in
    dite (ℕ_discrete p.place q.place)
    (λ alike. some-injective a b (sym there ∙ (ap (get_elem? (accounts_in q.seen_view)) alike ∙ q.there)))
    (λ apart. let both = two_of f (accounts_in q.seen_view) p.place q.place a b apart there q.there in let sum = two_in_view f vs q.view_place q.seen_view q.at in absurd (omega arith)))
    (λ apart. let both : sum_of f (accounts_in p.seen_view) + sum_of f (accounts_in q.seen_view) ≤ total f vs = two_of (λ u. sum_of f (accounts_in u)) vs p.view_place q.view_place p.seen_view q.seen_view apart p.at q.at in
    let first = one_of f (accounts_in p.seen_view) p.place a p.there in
    let second = one_of f (accounts_in q.seen_view) q.place b q.there in absurd (omega arith))

-- the word of the table at this place lies in an account's region
pub record IsInRoom (k : Shape) (who : Who) (place : ℕ) : Type 0 where
  pub from : region_of k who ≤ place
  pub until : place < region_of k who + room_of k who

loader_in_room : (k : Shape) (who : Who) (place : ℕ) → IsInRoom k who place → (n : ℕ) × (who ≡ Loader n)
loader_in_room k (Loader n) place h = (n, refl)
loader_in_room k (Searcher n) place h = let a = h.from in let b = h.until in absurd (omega arith)
loader_in_room k (Opener n) place h = let a = h.from in let b = h.until in absurd (omega arith)
loader_in_room k Note place h = let a = h.from in let b = h.until in absurd (omega arith)
loader_in_room k Gone place h = let a = h.from in let b = h.until in absurd (omega arith)

pub further : (x y n : ℕ) → x < y → x * n + n ≤ y * n
further x y n h = let a : suc x * n ≤ y * n = mul-le-mul_right n h in omega (arith, suc-mul x n)

not_before : (k : Shape) (c d place : ℕ) → 0 < c → IsInRoom k (Loader c) place → IsInRoom k (Loader d) place → c < d → ⊥
not_before k c d place above p q less =
    let gap = further (c - 1) (d - 1) k.room (omega arith) in
    let low : ℕ = (c - 1) * k.room in
    let high : ℕ = (d - 1) * k.room in
    let gap' : low + k.room ≤ high = gap in
    let until : place < regions_at k + low + k.room = p.until in
    let from : regions_at k + high ≤ place = q.from in omega arith

same_number : (k : Shape) (c d place : ℕ) → 0 < c → 0 < d → IsInRoom k (Loader c) place → IsInRoom k (Loader d) place → c ≡ d
same_number k c d place above above' p q = dite (dec_le c d)
    (λ within. dite (dec_le d c) (λ back. omega arith) (λ past. absurd (not_before k c d place above p q (lt_of_not-le past))))
    (λ past. absurd (not_before k d c place above' q p (lt_of_not-le past)))

above_zero : (k : Shape) (who : Who) (c : ℕ) → who ≡ Loader c → WhoFits k who → 0 < c
above_zero k who c is f = (subst (WhoFits k) is f).0

seats_most : (k : Shape) (vs : List View) (c : ℕ) → 0 < c → SeatRule k vs → total (λ x. is_seat k c x.who) vs ≤ 1
seats_most k vs c above r = dite (dec_le c (made vs))
    (λ within. let one = r.callers c above within in omega arith)
    (λ past. let none_past = r.none_past c (lt_of_not-le past) in omega arith)

pub one_owner : (k : Shape) (vs : List View) (a b : Account) (place : ℕ) → SeatRule k vs → IsAt vs a → IsAt vs b → IsInRoom k a.who place → IsInRoom k b.who place → a ≡ b
one_owner k vs a b place r p q in_a in_b =
    let first = loader_in_room k a.who place in_a in
    let second = loader_in_room k b.who place in_b in
    let c : ℕ = first.0 in
    let d : ℕ = second.0 in
    let above_c = above_zero k a.who c first.1 (r.limits p.view_place p.seen_view p.at p.place a p.there) in
    let above_d = above_zero k b.who d second.1 (r.limits q.view_place q.seen_view q.at q.place b q.there) in
    let same : c ≡ d = same_number k c d place above_c above_d (subst (λ (w : Who). IsInRoom k w place) first.1 in_a) (subst (λ (w : Who). IsInRoom k w place) second.1 in_b) in
    only_one (λ x. is_seat k c x.who) vs a b (seats_most k vs c above_c r) p q
    (ap (is_seat k c) first.1 ∙ seat_this k c (Loader c) refl) (ap (is_seat k c) (second.1 ∙ ap (λ z. Loader z) (sym same)) ∙ seat_this k c (Loader c) refl)

-- another account has no word of this one's room
pub not_other : (k : Shape) (vs : List View) (a x : Account) (place : ℕ) → SeatRule k vs → WhoFits k a.who → WhoFits k x.who → IsOther vs a x → IsInRoom k a.who place → IsInRoom k x.who place → ⊥
not_other k vs a x place r fits_a fits_x other in_a in_x =
    let first = loader_in_room k a.who place in_a in
    let second = loader_in_room k x.who place in_x in
    let c : ℕ = first.0 in
    let d : ℕ = second.0 in
    let above_c = above_zero k a.who c first.1 fits_a in
    let above_d = above_zero k x.who d second.1 fits_x in
    let same : c ≡ d = same_number k c d place above_c above_d (subst (λ (w : Who). IsInRoom k w place) first.1 in_a) (subst (λ (w : Who). IsInRoom k w place) second.1 in_x) in
    let sum : is_seat k c x.who + is_seat k c a.who ≤ total (λ y. is_seat k c y.who) vs = other (λ y. is_seat k c y.who) in
    let most = seats_most k vs c above_c r in
    let one : is_seat k c a.who ≡ 1 = ap (is_seat k c) first.1 ∙ seat_this k c (Loader c) refl in
    let two : is_seat k c x.who ≡ 1 = ap (is_seat k c) (second.1 ∙ ap (λ z. Loader z) (sym same)) ∙ seat_this k c (Loader c) refl in omega arith

-- ---- a mark is stored

pub region_least : (k : Shape) (who : Who) → regions_at k ≤ region_of k who
region_least k (Loader n) = omega arith
region_least k (Searcher n) = omega arith
region_least k (Opener n) = omega arith
region_least k Note = omega arith
region_least k Gone = omega arith

pub mark_in_room : (k : Shape) (regions : ℕ → ℕ) (a : Store) (place : ℕ) → RoomFits k regions a → IsMark a.room.sealed place → IsInRoom k a.who place
mark_in_room k regions a place f (j, s, there, is) =
    let fits = f.sealed j s there in
    let from = fits.from in
    let until = fits.until in
    let least = size_least (region_of k a.who) a.room.used s fits in
    let within = f.within in
    ⊎_elim (λ (e : place ≡ s.place + 1). record { from = omega arith; until = omega arith }) (λ (e : place ≡ s.place + 2). record { from = omega arith; until = omega arith }) is

-- a word that an account has stored and a mark of the same place: the mark is of a block of that account
mark_is_own : (k : Shape) (regions : ℕ → ℕ) (vs : List View) (a b : Account) (place : ℕ) → SeatRule k vs → IsAt vs a → IsAt vs b → RoomFits k regions (store_of b) → IsMark b.room.sealed place → IsInRoom k a.who place → IsMark a.room.sealed place
mark_is_own k regions vs a b place r p q f mark in_a = subst (λ (x : Account). IsMark x.room.sealed place) (sym (one_owner k vs a b place r p q in_a (mark_in_room k regions (store_of b) place f mark))) mark

pub mark_rooms : (k : Shape) (regions : ℕ → ℕ) (vs : List View) (b : Account) (i n : ℕ) → SeatRule k vs → EachAccount (λ x. RoomFits k regions (store_of x)) vs → IsAt vs b → IsMark b.room.sealed (regions_at k + i)
    → EachAccount (λ x. RoomFits k (stored regions i n) (store_of x)) vs
mark_rooms k regions vs b i n seats rooms q mark j v at place a there =
    let f = rooms j v at place a there in
    let p : IsAt vs a = record { view_place = j; seen_view = v; at = at; place = place; there = there } in
    let its = rooms q.view_place q.seen_view q.at q.place b q.there in
    let within = f.within in
    let least = region_least k a.who in record {
      within = f.within;
      stands = λ t inside unmarked. stored_else regions i n (region_of k a.who + t - regions_at k) (λ e.
          let here : region_of k a.who + t ≡ regions_at k + i = omega arith in
          unmarked (subst (IsMark a.room.sealed) (sym here) (mark_is_own k regions vs a b (regions_at k + i) seats p q its mark record { from = omega arith; until = omega arith }))) ∙ f.stands t inside unmarked;
      sealed = f.sealed;
      in_order = f.in_order;
      shows = f.shows;
      logged = f.logged;
    }

pub mark_same : (k : Shape) (regions : ℕ → ℕ) (vs : List View) (b : Account) (i n : ℕ) → SeatRule k vs → EachAccount (λ x. RoomFits k regions (store_of x)) vs → IsAt vs b → IsMark b.room.sealed (regions_at k + i) → SameSealed k regions (stored regions i n) vs
mark_same k regions vs b i n seats rooms q mark j v at place a there block s in_list t inside not_first not_second =
    let f = rooms j v at place a there in
    let p : IsAt vs a = record { view_place = j; seen_view = v; at = at; place = place; there = there } in
    let its = rooms q.view_place q.seen_view q.at q.place b q.there in
    let fits = f.sealed block s in_list in
    let from = fits.from in
    let until = fits.until in
    let within = f.within in
    let least = region_least k a.who in
    stored_else regions i n (s.place + t - regions_at k) (λ e.
    let here : s.place + t ≡ regions_at k + i = omega arith in
    not_mark k regions (store_of a) block t s f in_list inside not_first not_second (subst (IsMark a.room.sealed) (sym here) (mark_is_own k regions vs a b (regions_at k + i) seats p q its mark record { from = omega arith; until = omega arith })))
