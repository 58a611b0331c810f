-- Answers of full rooms: what a step leaves of them, and what one more entry or word leaves.
use Rattle.std.proofs.Common.{◌≡◌, ℕ, zero, suc, ◌-◌, ◌≤◌, List, [], ◌∷◌, ◌++◌, length, set, sym, refl, ap, subst, arith}
use mathlib.Core.Option.{some}
use lib.ListN.{get_elem?}
use Rattle.htss_defs.specs.declared.shape.Shape.{Shape}
use Rattle.htss_defs.specs.declared.history.Event.{Event}
use Rattle.htss_defs.specs.declared.history.Event.TheVariants.{Publish, Withdraw}
use Rattle.board_core.specs.declared.account.Account.{Account}
use Rattle.board_core.specs.declared.account.View.{View}
use Rattle.board_core.specs.declared.loads.Loads.{Loads}
use Rattle.board_core.specs.declared.room.RoomAccount.{RoomAccount}
use Rattle.board_core.specs.declared.entry.Entry.{Entry}
use Rattle.board_core.specs.declared.entry.Entry.TheVariants.{Published, Withdrawn, Answered, Unknown, Gone as Ended, LogFull, DataFull, NoPage, ChainFull, Swept}
use Rattle.board_core.specs.declared.entry.Noted.{Noted}
use Rattle.board_core.specs.Each.{Each}
use Rattle.board_core.specs.Accounts.{with_me}
use Rattle.board_core.specs.Truths.{IsTrueRoom, entry_of}
use Rattle.board_core.specs.After.{noted}
use Rattle.board_core.specs.FullRule.{FullRule}
use Rattle.board_core.proofs.Lists.{each_none, each_cons, each_append}
use Rattle.board_core.proofs.Everyone.{mine, changed}

-- with fewer words left they stay true
less_room : (left fewer : ℕ) (x : Entry) → fewer ≤ left → IsTrueRoom left x → IsTrueRoom fewer x
less_room left fewer (DataFull some_left need) less t = let below = t.1 in (t.0, omega arith)
less_room left fewer (Published number event) less t = tt
less_room left fewer (Withdrawn number event) less t = tt
less_room left fewer (Answered query budget front reply) less t = tt
less_room left fewer (Unknown number front) less t = tt
less_room left fewer (Ended number at) less t = tt
less_room left fewer (LogFull front) less t = tt
less_room left fewer NoPage less t = tt
less_room left fewer (ChainFull pages) less t = tt
less_room left fewer (Swept need front rows) less t = tt

-- a step that adds no entry, and takes no word back
pub full_later : (k : Shape) (vs : List View) (id : ℕ) (v : View) (a : Account) → FullRule k vs → get_elem? vs id ≡ some v → length v.me.room.used ≤ length a.room.used → a.entries ≡ v.me.entries → FullRule k (set vs id (with_me v a))
full_later k vs id v a r at more entries = changed (λ x. Each (λ n. IsTrueRoom (k.room - length x.room.used) n.entry) x.entries) vs id v a at
    (subst (λ (es : List Noted). Each (λ n. IsTrueRoom (k.room - length a.room.used) n.entry) es) (sym entries)
    (λ j n there. less_room (k.room - length v.me.room.used) (k.room - length a.room.used) n.entry (omega arith) (mine (λ x. Each (λ m. IsTrueRoom (k.room - length x.room.used) m.entry) x.entries) vs id v at r j n there))) r

pub full_same : (k : Shape) (vs : List View) (id : ℕ) (v : View) (a : Account) → FullRule k vs → get_elem? vs id ≡ some v → a.room ≡ v.me.room → a.entries ≡ v.me.entries → FullRule k (set vs id (with_me v a))
full_same k vs id v a r at room entries = let same : length a.room.used ≡ length v.me.room.used = ap (λ (x : RoomAccount). length x.used) room in full_later k vs id v a r at (omega arith) entries

noted_room : (left : ℕ) (l : Loads) (es : List Entry) → Each (IsTrueRoom left) es → Each (λ n. IsTrueRoom left n.entry) (noted l es)
noted_room left l [] all = each_none (λ n. IsTrueRoom left n.entry)
noted_room left l (e ∷ es) all = each_cons (λ n. IsTrueRoom left n.entry) _ (noted l es) (all zero e refl) (noted_room left l es (λ j. all (suc j)))

-- a step that adds true entries
pub full_more : (k : Shape) (vs : List View) (id : ℕ) (v : View) (a : Account) (es : List Entry) → FullRule k vs → get_elem? vs id ≡ some v → Each (IsTrueRoom (k.room - length v.me.room.used)) es → length a.room.used ≡ length v.me.room.used → a.entries ≡ v.me.entries ++ noted v.me.loads es
    → FullRule k (set vs id (with_me v a))
full_more k vs id v a es r at true_all used entries =
    let left : ℕ = k.room - length v.me.room.used in
    let both : Each (λ n. IsTrueRoom left n.entry) (v.me.entries ++ noted v.me.loads es) = each_append (λ n. IsTrueRoom left n.entry) v.me.entries (noted v.me.loads es) (mine (λ x. Each (λ n. IsTrueRoom (k.room - length x.room.used) n.entry) x.entries) vs id v at r) (noted_room left v.me.loads es true_all) in
    changed (λ x. Each (λ n. IsTrueRoom (k.room - length x.room.used) n.entry) x.entries) vs id v a at
    (subst (λ (x : ℕ × List Noted). Each (λ n. IsTrueRoom (k.room - x.0) n.entry) x.1) (λ i. (sym used i, sym entries i)) both) r

-- an event's entry says nothing of rooms
pub event_room : (left number : ℕ) (e : Event) → Each (IsTrueRoom left) (entry_of number e ∷ [])
event_room left number (Publish caller name mol) = each_cons (IsTrueRoom left) (Published number (Publish caller name mol)) [] tt (each_none (IsTrueRoom left))
event_room left number (Withdraw caller target) = each_cons (IsTrueRoom left) (Withdrawn number (Withdraw caller target)) [] tt (each_none (IsTrueRoom left))
