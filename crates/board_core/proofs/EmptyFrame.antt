-- Answers of an empty pool: what a step leaves of them, and what one more entry leaves.
use Rattle.std.proofs.Common.{◌≡◌, ◌≢◌, ℕ, zero, suc, List, [], ◌∷◌, ◌++◌, set, sym, refl, subst}
use mathlib.Core.Option.{some}
use lib.ListN.{get_elem?}
use Rattle.htss_defs.specs.declared.shape.Shape.{Shape}
use Rattle.htss_defs.specs.declared.history.Event.{Event}
use Rattle.htss_defs.specs.declared.history.Event.TheVariants.{Publish, Withdraw}
use Rattle.board_core.specs.declared.account.Account.{Account}
use Rattle.board_core.specs.declared.account.View.{View}
use Rattle.board_core.specs.declared.loads.Loads.{Loads}
use Rattle.board_core.specs.declared.entry.Entry.{Entry}
use Rattle.board_core.specs.declared.entry.Entry.TheVariants.{Published, Withdrawn, Answered, Unknown, Gone as Ended, LogFull, DataFull, NoPage, ChainFull, Swept}
use Rattle.board_core.specs.declared.entry.Noted.{Noted}
use Rattle.board_core.specs.Each.{Each}
use Rattle.board_core.specs.Accounts.{with_me}
use Rattle.board_core.specs.Truths.{IsTruePool, entry_of}
use Rattle.board_core.specs.After.{noted}
use Rattle.board_core.specs.EmptyRule.{EmptyRule}
use Rattle.board_core.specs.StateRule.{StatesStand, StateRule}
use Rattle.board_core.proofs.Lists.{each_none, each_cons, each_append}
use Rattle.board_core.proofs.Everyone.{mine, moved}

-- no page is free again
never_free : (k : Shape) (f g : ℕ → ℕ) (x : Entry) → ((p : ℕ) → f p ≢ 0 → g p ≢ 0) → IsTruePool k f x → IsTruePool k g x
never_free k f g NoPage more t = λ p above within. more p (t p above within)
never_free k f g (Published number event) more t = tt
never_free k f g (Withdrawn number event) more t = tt
never_free k f g (Answered query budget front reply) more t = tt
never_free k f g (Unknown number front) more t = tt
never_free k f g (Ended number at) more t = tt
never_free k f g (LogFull front) more t = tt
never_free k f g (DataFull left need) more t = tt
never_free k f g (ChainFull pages) more t = tt
never_free k f g (Swept need front rows) more t = tt

abbrev AreTrueOf : Shape → (ℕ → ℕ) → List Noted → Type 0
AreTrueOf k states es = Each (λ n. IsTruePool k states n.entry) es

-- a step that adds no entry
pub empty_later : (k : Shape) (f g : ℕ → ℕ) (vs : List View) (id : ℕ) (v : View) (a : Account) → EmptyRule k f vs → get_elem? vs id ≡ some v → ((p : ℕ) → f p ≢ 0 → g p ≢ 0) → a.entries ≡ v.me.entries → EmptyRule k g (set vs id (with_me v a))
empty_later k f g vs id v a r at more entries = moved (λ x. AreTrueOf k f x.entries) (λ x. AreTrueOf k g x.entries) vs id v a at
    (subst (AreTrueOf k g) (sym entries) (λ j n there. never_free k f g n.entry more (mine (λ x. AreTrueOf k f x.entries) vs id v at r j n there)))
    (λ x _ all j n there. never_free k f g n.entry more (all j n there)) r

pub empty_same : (k : Shape) (states : ℕ → ℕ) (vs : List View) (id : ℕ) (v : View) (a : Account) → EmptyRule k states vs → get_elem? vs id ≡ some v → a.entries ≡ v.me.entries → EmptyRule k states (set vs id (with_me v a))
empty_same k states vs id v a r at entries = empty_later k states states vs id v a r at (λ p busy. busy) entries

noted_pool : (k : Shape) (states : ℕ → ℕ) (l : Loads) (es : List Entry) → Each (IsTruePool k states) es → AreTrueOf k states (noted l es)
noted_pool k states l [] all = each_none (λ n. IsTruePool k states n.entry)
noted_pool k states l (e ∷ es) all = each_cons (λ n. IsTruePool k states n.entry) _ (noted l es) (all zero e refl) (noted_pool k states l es (λ j. all (suc j)))

-- a step that adds true entries
pub empty_more : (k : Shape) (states : ℕ → ℕ) (vs : List View) (id : ℕ) (v : View) (a : Account) (es : List Entry) → EmptyRule k states vs → get_elem? vs id ≡ some v → Each (IsTruePool k states) es → a.entries ≡ v.me.entries ++ noted v.me.loads es
    → EmptyRule k states (set vs id (with_me v a))
empty_more k states vs id v a es r at true_all entries = moved (λ x. AreTrueOf k states x.entries) (λ x. AreTrueOf k states x.entries) vs id v a at
    (subst (AreTrueOf k states) (sym entries) (each_append (λ n. IsTruePool k states n.entry) v.me.entries (noted v.me.loads es) (mine (λ x. AreTrueOf k states x.entries) vs id v at r) (noted_pool k states v.me.loads es true_all)))
    (λ x _ all. all) r

-- what the account has loaded stands
pub pool_true : (k : Shape) (states : ℕ → ℕ) (vs : List View) (id : ℕ) (v : View) (es : List Entry) → StateRule states vs → get_elem? vs id ≡ some v → ((f : ℕ → ℕ) → StatesStand f v.me.loads → Each (IsTruePool k f) es) → Each (IsTruePool k states) es
pool_true k states vs id v es r at true_all = true_all states (mine (λ x. StatesStand states x.loads) vs id v at r)

-- an event's entry says nothing of pages
pub event_pool : (k : Shape) (states : ℕ → ℕ) (number : ℕ) (e : Event) → Each (IsTruePool k states) (entry_of number e ∷ [])
event_pool k states number (Publish caller name mol) = each_cons (IsTruePool k states) (Published number (Publish caller name mol)) [] tt (each_none (IsTruePool k states))
event_pool k states number (Withdraw caller target) = each_cons (IsTruePool k states) (Withdrawn number (Withdraw caller target)) [] tt (each_none (IsTruePool k states))
