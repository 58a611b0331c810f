-- Each event of a history is told by its loader's account, so it stands in each later history.
use Rattle.std.proofs.Common.{◌≡◌, ◌≢◌, ◌⊎◌, inl, inr, ⊎_elim, ℕ, zero, suc, ◌+◌, ◌-◌, ◌<◌, ◌≤◌, ◌==◌, Bool, true, false, cond, List, [], ◌∷◌, ◌++◌, length, filter, refl, sym, ap, subst, ◌∙◌, arith, eq-eqb, lt_of_not-le}
use Rattle.std.specs.Prelude.{Some, slice_get, take}
use Rattle.std.proofs.lemmas.Option.{none-some, same_Some}
use mathlib.Core.Option.{some, some-injective, some-ne-none}
use mathlib.Core.Logic.{dite}
use native.Mathlib.Decide.{ℕ_discrete, dec_le}
use lib.ListN.{get_elem?}
use Rattle.htss_defs.specs.declared.shape.Shape.{Shape}
use Rattle.htss_defs.specs.declared.history.Event.{Event}
use Rattle.htss_defs.specs.History.{HasEvent}
use Rattle.board_core.specs.declared.account.Account.{Account}
use Rattle.board_core.specs.declared.account.View.{View}
use Rattle.board_core.specs.declared.account.Who.{Who}
use Rattle.board_core.specs.declared.account.Who.TheVariants.{Opener, Loader, Searcher, Note, Gone}
use Rattle.board_core.specs.declared.entry.Entry.{Entry}
use Rattle.board_core.specs.declared.entry.Entry.TheVariants.{Published, Withdrawn, Answered, Unknown, Gone as Ended, LogFull, DataFull, NoPage, ChainFull, Swept}
use Rattle.board_core.specs.declared.entry.Noted.{Noted}
use Rattle.board_core.specs.Each.{Each, In, sum_of}
use Rattle.board_core.specs.Words.{Parts}
use Rattle.board_core.specs.Accounts.{total, accounts_in, seat_of, is_seat, EachAccount}
use Rattle.board_core.specs.Histories.{caller_of, numbered, events_by}
use Rattle.board_core.specs.Truths.{IsTrueLog, told_by, told_in, own_events}
use Rattle.board_core.specs.SeatRule.{SeatRule, WhoFits, made}
use Rattle.board_core.specs.LogRule.{IsByLoader}
use Rattle.board_core.specs.RoomRule.{SomeAccount}
use Rattle.board_core.specs.Holds.{Rule}
use Rattle.board_core.proofs.Callers.{seat_that}
use Rattle.pub_log.specs.Later.{GoesOn, LawOfHistory, LawOfLastHistory}

-- ---- the loader's account is there

-- where a sum is not 0, an element counts
in_sum : {A : Type 0} (f : A → ℕ) (xs : List A) → 0 < sum_of f xs → (j : ℕ) × (x : A) × (get_elem? xs j ≡ some x) × (0 < f x)
in_sum f [] above = absurd (omega arith)
in_sum f (x ∷ xs) above = dite (ℕ_discrete (f x) 0)
    (λ none. let r = in_sum f xs (omega arith) in (suc r.0, r.1, r.2, r.3))
    (λ other. (zero, x, refl, omega arith))

in_total : (f : Account → ℕ) (vs : List View) → 0 < total f vs → SomeAccount (λ a. 0 < f a) vs
in_total f vs above =
    let outer = in_sum (λ (v : View). sum_of f (accounts_in v)) vs above in
    let inner = in_sum f (accounts_in outer.1) outer.3 in
    (outer.0, outer.1, outer.2, inner.0, inner.1, inner.2, inner.3)

not_counted : (k : Shape) (c : ℕ) (who : Who) → seat_of k who ≢ c → 0 < is_seat k c who → ⊥
not_counted k c who other counted = let none = seat_that k c who other in omega arith

-- the caller that is counted at a loader's place is the loader
seat_loader : (k : Shape) (c : ℕ) (who : Who) → 0 < c → c ≤ k.loaders → WhoFits k who → 0 < is_seat k c who → who ≡ Loader c
seat_loader k c (Opener n) above within fits counted = absurd (not_counted k c (Opener n) (λ e. omega (arith, e, above)) counted)
seat_loader k c (Loader n) above within fits counted = dite (ℕ_discrete n c)
    (λ is. ap (λ z. Loader z) is)
    (λ other. absurd (not_counted k c (Loader n) other counted))
seat_loader k c (Searcher n) above within fits counted = absurd (not_counted k c (Searcher n) (λ e. omega (arith, e, within, fits.0)) counted)
seat_loader k c Note above within fits counted = absurd (not_counted k c Note (λ e. omega (arith, e, above)) counted)
seat_loader k c Gone above within fits counted = absurd (not_counted k c Gone (λ e. omega (arith, e, above)) counted)

loader_there : (k : Shape) (vs : List View) (c : ℕ) → SeatRule k vs → 0 < c → c ≤ k.loaders → c ≤ made vs → SomeAccount (λ a. a.who ≡ Loader c) vs
loader_there k vs c seats above within so_many =
    let one = seats.callers c above so_many in
    let t = in_total (λ a. is_seat k c a.who) vs (omega (arith, one)) in
    (t.0, t.1, t.2, t.3, t.4, t.5, seat_loader k c t.4.who above within (seats.limits t.0 t.1 t.2 t.3 t.4 t.5) t.6)

-- ---- it tells of the event

nothing_in : {A : Type 0} (y : A) → In y [] → ⊥
nothing_in y t = some-ne-none y (sym t.1)

in_append : {A : Type 0} (xs ys : List A) (y : A) → In y (xs ++ ys) → In y xs ⊎ In y ys
in_append [] ys y t = inr t
in_append (x ∷ xs) ys y (zero, at) = inl (zero, at)
in_append (x ∷ xs) ys y (suc j, at) = ⊎_elim (λ (l : In y xs). inl (suc l.0, l.1)) (λ (r : In y ys). inr r) (in_append xs ys y (j, at))

abbrev by_loader : ℕ → ℕ → List Event → List (ℕ × Event)
by_loader c first h = filter (λ x. caller_of x.1 == c) (numbered first h)

later_in : (y z : ℕ × Event) (more : List (ℕ × Event)) (b : Bool) → In y more → In y (cond b (z ∷ more) more)
later_in y z more true t = (suc t.0, t.1)
later_in y z more false t = t

-- an event by the loader is among its own, with its number
listed : (h : List Event) (c first i : ℕ) (e : Event) → slice_get h i ≡ Some e → caller_of e ≡ c → In (first + i, e) (by_loader c first h)
listed [] c first i e at by = absurd (none-some e at)
listed (x ∷ xs) c first zero e at by =
    let place : first ≡ first + 0 = omega arith in
    let is : x ≡ e = same_Some x e at in
    subst (λ b. In (first + 0, e) (cond b ((first, x) ∷ by_loader c (first + 1) xs) (by_loader c (first + 1) xs)))
    (sym (eq-eqb (caller_of x) c (ap caller_of is ∙ by))) (zero, ap (λ (z : ℕ × Event). some z) (λ t. (place t, is t)))
listed (x ∷ xs) c first (suc i) e at by =
    let next : first + 1 + i ≡ first + suc i = omega arith in
    later_in (first + suc i, e) (first, x) (by_loader c (first + 1) xs) (caller_of x == c) (subst (λ n. In (n, e) (by_loader c (first + 1) xs)) next (listed xs c (first + 1) i e at by))

-- the entry that tells of it
entry_in : (entries : List Noted) (y : ℕ × Event) → In y (told_in entries) → (j : ℕ) × (n : Noted) × (get_elem? entries j ≡ some n) × In y (told_by n.entry)
entry_in [] y t = absurd (nothing_in y t)
entry_in (n ∷ ns) y t = ⊎_elim
    (λ (here : In y (told_by n.entry)). (zero, n, refl, here))
    (λ (there : In y (told_in ns)). let r = entry_in ns y there in (suc r.0, r.1, r.2, r.3))
    (in_append (told_by n.entry) (told_in ns) y t)

only_one : (h : List Event) (x y : ℕ × Event) → In y (x ∷ []) → HasEvent h x.0 x.1 → HasEvent h y.0 y.1
only_one h x y (zero, at) has = subst (λ (z : ℕ × Event). HasEvent h z.0 z.1) (some-injective x y at) has
only_one h x y (suc j, at) has = absurd (nothing_in y (j, at))

-- which is true of the later history
told_true : (k : Shape) (h : List Event) (x : Entry) (y : ℕ × Event) → In y (told_by x) → IsTrueLog k h x → HasEvent h y.0 y.1
told_true k h (Published number event) y t has = only_one h (number, event) y t has
told_true k h (Withdrawn number event) y t has = only_one h (number, event) y t has
told_true k h (Answered query budget front reply) y t has = absurd (nothing_in y t)
told_true k h (Unknown number front) y t has = absurd (nothing_in y t)
told_true k h (Ended number at) y t has = absurd (nothing_in y t)
told_true k h (LogFull front) y t has = absurd (nothing_in y t)
told_true k h (DataFull left need) y t has = absurd (nothing_in y t)
told_true k h NoPage y t has = absurd (nothing_in y t)
told_true k h (ChainFull pages) y t has = absurd (nothing_in y t)
told_true k h (Swept need front rows) y t has = absurd (nothing_in y t)

-- ---- the whole

begins : (h g : List Event) → ((i : ℕ) (e : Event) → slice_get h i ≡ Some e → slice_get g i ≡ Some e) → take (length h) g ≡ h
begins [] g all = refl
begins (x ∷ xs) [] all = absurd (none-some x (all zero x refl))
begins (x ∷ xs) (y ∷ ys) all =
    let head : y ≡ x = same_Some y x (all zero x refl) in
    let rest : take (length xs) ys ≡ xs = begins xs ys (λ i e at. all (suc i) e at) in
    λ t. head t ∷ rest t

element : (h : List Event) (i : ℕ) (e : Event) → slice_get h i ≡ Some e → get_elem? h i ≡ some e
element [] i e at = absurd (none-some e at)
element (x ∷ xs) zero e at = ap (λ (z : Event). some z) (same_Some x e at)
element (x ∷ xs) (suc i) e at = element xs i e at

-- the loader of an event was made
was_made : (k : Shape) (p : Parts) (h : List Event) (vs : List View) (i : ℕ) (e : Event) → Rule k p h vs → slice_get h i ≡ Some e → caller_of e ≤ made vs
was_made k p h vs i e r at = dite (dec_le (caller_of e) (made vs))
    (λ so_many. so_many)
    (λ not. absurd (nothing_in (1 + i, e) (subst (In (1 + i, e)) (r.stories.none_before (caller_of e) (lt_of_not-le not)) (listed h (caller_of e) 1 i e at refl))))

-- the same caller's account goes on, with entries that are true of this history
abbrev GoesOnIn : Shape → List Event → Account → Type 0
GoesOnIn k h a = (b : Account) × GoesOn a b × Each (λ n. IsTrueLog k h n.entry) b.entries

stays : (k other : Shape) (p : Parts) (earlier later : List Event) (vs : List View) → Rule k p earlier vs
    → EachAccount (λ a. (loader : ℕ) → a.who ≡ Loader loader → GoesOnIn other later a) vs → take (length earlier) later ≡ earlier
stays k other p earlier later vs r goes_on = begins earlier later (λ i e at.
    let c : ℕ = caller_of e in
    let by : IsByLoader k e = r.log.callers i e (element earlier i e at) in
    let owner = loader_there k vs c r.seats by.0 by.1 (was_made k p earlier vs i e r at) in
    let a : Account = owner.4 in
    let who : a.who ≡ Loader c = owner.6 in
    let story = r.stories.stories owner.0 owner.1 owner.2 owner.3 a owner.5 in
    let told : events_by c earlier ≡ told_in a.entries = sym (ap (own_events earlier) who) ∙ story.own in
    let entry = entry_in a.entries (1 + i, e) (subst (In (1 + i, e)) told (listed earlier c 1 i e at refl)) in
    let next = goes_on owner.0 owner.1 owner.2 owner.3 a owner.5 c who in
    let has : HasEvent later (1 + i) e = told_true other later entry.1.entry (1 + i, e) entry.3 (next.2 entry.0 entry.1 (next.1.entries entry.0 entry.1 entry.2)) in
    let place : 1 + i - 1 ≡ i = omega arith in
    subst (λ n. slice_get later n ≡ Some e) place has.1)

pub begins_with : LawOfHistory
begins_with k p q earlier later vs ws r s goes_on = stays k k p earlier later vs r (λ j v there i a here loader who.
    let next = goes_on j v there i a here loader who in
    (next.4, next.6, (s.stories.stories next.0 next.1 next.2 next.3 next.4 next.5).each))

pub ends_with : LawOfLastHistory
ends_with k p earlier vs last r settled goes_on = stays k last.shape p earlier last.history vs r (λ j v there i a here loader who.
    let next = goes_on j v there i a here loader who in
    (next.1, next.3, (settled.stories next.0 next.1 next.2).each))
