-- The pool, where a seat is split or joined, and of a board as it is opened.
use Rattle.std.proofs.Common.{◌≡◌, ◌≢◌, ℕ, ◌+◌, ◌-◌, ◌<◌, ◌≤◌, List, [], ◌∷◌, ◌++◌, set, sym, refl, ap, subst, arith}
use mathlib.Core.Option.{some}
use lib.ListN.{get_elem?}
use Rattle.htss_defs.specs.declared.shape.Shape.{Shape}
use Rattle.board_core.specs.declared.account.Account.{Account}
use Rattle.board_core.specs.declared.account.View.{View}
use Rattle.board_core.specs.declared.account.Who.TheVariants.{Opener, Note, Gone}
use Rattle.board_core.specs.declared.loads.Loads.{Loads}
use Rattle.board_core.specs.Each.{Each, sum_of}
use Rattle.board_core.specs.Words.{PoolWords}
use Rattle.board_core.specs.Accounts.{account, no_loads, with_me, keeping, gone, view, opener, accounts_in, caller_after, EachAccount, total, seat_of, made_by, is_loader}
use Rattle.board_core.specs.Sheets.{Sheet, sheet_of, stamp_of, owns, parts, stamps}
use Rattle.board_core.specs.SeatRule.{SeatRule, made}
use Rattle.board_core.specs.EpochRule.{Claim, claim_of, IsPast, ClaimFits}
use Rattle.board_core.specs.PageRule.{PageFits}
use Rattle.board_core.specs.HeldRule.{HeldFits}
use Rattle.board_core.specs.ScanRule.{Passed}
use Rattle.board_core.specs.StateRule.{StatesStand}
use Rattle.board_core.specs.PoolRule.{PoolRule}
use Rattle.board_core.specs.After.{after_made}
use Rattle.board_core.proofs.Lists.{each_none, each_cons}
use Rattle.board_core.proofs.Everyone.{mine, changed, total_same, total_changed, each_more, total_more, each_left, total_left, each_gathered, total_gathered}
use Rattle.board_core.proofs.Callers.{seat_after, made_is}
use Rattle.board_core.proofs.PoolFrame.{sheet_is, each_gives}
use Rattle.board_core.specs.CountRule.{pages_of, CountRule}
use Rattle.board_core.proofs.CountFrame.{counts_note, counts_caller, counts_left, counts_gather, counts_open}

-- ---- an account that knows a front and no more

abbrev blank : ℕ → Claim
blank seat = record { seat = seat; announced = 0; epochs = []; risen = 0; first = 0; low = 0; passed = 0; held = [] }

blank_claim : (epoch : ℕ) (announced : ℕ → ℕ) (seat : ℕ) → (0 < seat → announced (seat - 1) ≡ 0) → ClaimFits epoch announced (blank seat)
blank_claim epoch announced seat none = record { stored = none; idle = λ _. refl; past = omega arith; epochs = each_none (IsPast epoch); risen = omega arith; first = omega arith; low = omega arith }

blank_scan : (s : Sheet) (seat : ℕ) (c : Claim) → Passed s (blank seat) c
blank_scan s seat c above within = absurd (omega arith)

blank_held : (s : Sheet) (seat : ℕ) (c : Claim) → Passed s c (blank seat)
blank_held s seat c above within = each_none (λ p. 0 < stamp_of s p → c.low ≤ stamp_of s p)

blank_states : (states : ℕ → ℕ) → StatesStand states no_loads
blank_states states = record { seen = each_none (λ x. x.word ≢ 0 → states x.page ≢ 0); lost = each_none (λ x. states x.page ≢ 0) }

-- a fact of claims and loads, of all accounts
abbrev EachClaim : (Claim → Loads → Type 0) → Shape → List View → Type 0
EachClaim F k vs = EachAccount (λ x. F (claim_of k x) x.loads) vs

-- views that have the claims of others, and some that are blank
pool_seats : (k : Shape) (w : PoolWords) (vs ws : List View) (seat : ℕ) → sheet_of w.states ws ≡ sheet_of w.states vs → made vs ≤ made ws → (0 < seat → w.announced (seat - 1) ≡ 0)
    → ((F : Claim → Loads → Type 0) → F (blank seat) no_loads → EachClaim F k vs → EachClaim F k ws) → PoolRule k w vs → CountRule k w.states ws → PoolRule k w ws
pool_seats k w vs ws seat sheet more none lift r counts = let s : Sheet = sheet_of w.states vs in record {
  epochs = record {
    above = r.epochs.above;
    most = r.epochs.most;
    claims = lift (λ c _. ClaimFits w.epoch w.announced c) (blank_claim w.epoch w.announced seat none) r.epochs.claims;
    none_past = λ i past. r.epochs.none_past i (omega arith);
  };
  pages = subst (λ (x : Sheet). (p : ℕ) → PageFits w.epoch x p) (sym sheet) r.pages;
  held = subst (λ (x : Sheet). EachClaim (λ c _. Each (HeldFits x c.announced) c.held) k ws) (sym sheet) (lift (λ c _. Each (HeldFits s c.announced) c.held) (each_none (HeldFits s 0)) r.held);
  scans = subst (λ (x : Sheet). EachClaim (λ c _. EachClaim (λ d _. Passed x c d) k ws) k ws) (sym sheet)
      (lift (λ c _. EachClaim (λ d _. Passed s c d) k ws) (λ j u at i x there. blank_scan s seat (claim_of k x))
      (each_gives (λ x. EachClaim (λ d _. Passed s (claim_of k x) d) k vs) (λ x. EachClaim (λ d _. Passed s (claim_of k x) d) k ws) vs (λ x f. lift (λ d _. Passed s (claim_of k x) d) (blank_held s seat (claim_of k x)) f) r.scans));
  states = lift (λ _ l. StatesStand w.states l) (blank_states w.states) r.states;
  counts = counts;
}

-- ---- a view was added

pub sheet_note : (states : ℕ → ℕ) (vs : List View) (shape : Shape) (front : ℕ) → sheet_of states (vs ++ view shape (account Note front) ∷ []) ≡ sheet_of states vs
sheet_note states vs shape front =
    let n : View = view shape (account Note front) in
    let count : (f : Account → ℕ) → f (account Note front) ≡ 0 → total f (vs ++ n ∷ []) ≡ total f vs = λ f none. let sum = total_more f vs n refl in omega arith in
    sheet_is states vs (vs ++ n ∷ []) (λ p. count (λ x. owns p x.pool.own) refl) (λ p. count (λ x. parts p x.pool.parted) refl) (λ p. count (λ x. stamps p x.pool.parted) refl)

pub sheet_caller : (states : ℕ → ℕ) (k : Shape) (vs : List View) (id m : ℕ) (v : View) → get_elem? vs id ≡ some v → sheet_of states (set vs id (with_me v (after_made v.me)) ++ view k (account (caller_after k m) 0) ∷ []) ≡ sheet_of states vs
sheet_caller states k vs id m v at =
    let a : Account = after_made v.me in
    let n : View = view k (account (caller_after k m) 0) in
    let mid : List View = set vs id (with_me v a) in
    let ws : List View = mid ++ n ∷ [] in
    let count : (f : Account → ℕ) → f a ≡ f v.me → f n.me ≡ 0 → total f ws ≡ total f vs = λ f same none. let sum = total_more f mid n refl in let first = total_same f vs id v a at same in omega arith in
    sheet_is states vs ws (λ p. count (λ x. owns p x.pool.own) refl refl) (λ p. count (λ x. parts p x.pool.parted) refl refl) (λ p. count (λ x. stamps p x.pool.parted) refl refl)

pub sheet_note_goes : (states : ℕ → ℕ) (vs : List View) (other front : ℕ) (u : View) → get_elem? vs other ≡ some u → u ≡ view u.shape (account Note front) → sheet_of states (set vs other gone) ≡ sheet_of states vs
sheet_note_goes states vs other front u there is =
    let ws : List View = set vs other gone in
    let count : (f : Account → ℕ) → f (account Note front) ≡ 0 → f (account Gone 0) ≡ 0 → total f ws ≡ total f vs = λ f none none_gone.
    let sum : total f ws + sum_of f (accounts_in u) ≡ total f vs = total_left f vs other u there none_gone in
    let of_note : sum_of f (accounts_in u) ≡ f (account Note front) + 0 = ap (λ (x : View). sum_of f (accounts_in x)) is in omega arith
    in
    sheet_is states vs ws (λ p. count (λ x. owns p x.pool.own) refl refl) (λ p. count (λ x. parts p x.pool.parted) refl refl) (λ p. count (λ x. stamps p x.pool.parted) refl refl)

pub sheet_gather : (states : ℕ → ℕ) (vs : List View) (id other : ℕ) (v u : View) → get_elem? vs id ≡ some v → ¬ (other ≡ id) → get_elem? vs other ≡ some u → sheet_of states (set (set vs id (keeping v u)) other gone) ≡ sheet_of states vs
sheet_gather states vs id other v u at apart there =
    let ws : List View = set (set vs id (keeping v u)) other gone in
    let count : (f : Account → ℕ) → f (account Gone 0) ≡ 0 → total f ws ≡ total f vs = λ f none_gone. total_gathered f vs id other v u at apart there none_gone in
    sheet_is states vs ws (λ p. count (λ x. owns p x.pool.own) refl) (λ p. count (λ x. parts p x.pool.parted) refl) (λ p. count (λ x. stamps p x.pool.parted) refl)

pub pool_note : (k : Shape) (w : PoolWords) (vs : List View) (shape : Shape) (front : ℕ) → PoolRule k w vs → PoolRule k w (vs ++ view shape (account Note front) ∷ [])
pool_note k w vs shape front r =
    let n : View = view shape (account Note front) in
    let count : (f : Account → ℕ) → f (account Note front) ≡ 0 → total f (vs ++ n ∷ []) ≡ total f vs = λ f none. let sum = total_more f vs n refl in omega arith in
    pool_seats k w vs (vs ++ n ∷ []) 0
    (sheet_is w.states vs (vs ++ n ∷ []) (λ p. count (λ x. owns p x.pool.own) refl) (λ p. count (λ x. parts p x.pool.parted) refl) (λ p. count (λ x. stamps p x.pool.parted) refl))
    (let same = count (λ x. made_by x.who) refl in omega arith) (λ above. absurd (omega arith))
    (λ F new all. each_more (λ x. F (claim_of k x) x.loads) vs (account Note front) n refl refl new all) r (counts_note k w.states vs shape front r.counts)

pub pool_caller : (k : Shape) (w : PoolWords) (vs : List View) (id m : ℕ) (v : View) → SeatRule k vs → PoolRule k w vs → get_elem? vs id ≡ some v → v.me.who ≡ Opener m
    → PoolRule k w (set vs id (with_me v (after_made v.me)) ++ view k (account (caller_after k m) 0) ∷ [])
pool_caller k w vs id m v seats r at is =
    let a : Account = after_made v.me in
    let n : View = view k (account (caller_after k m) 0) in
    let mid : List View = set vs id (with_me v a) in
    let ws : List View = mid ++ n ∷ [] in
    let count : (f : Account → ℕ) → f a ≡ f v.me → f n.me ≡ 0 → total f ws ≡ total f vs = λ f same none. let sum = total_more f mid n refl in let first = total_same f vs id v a at same in omega arith in
    let next : seat_of k (caller_after k m) ≡ m + 1 = seat_after k m in
    let old_made : made vs ≡ m = made_is k vs id m v seats at is in
    let more : made vs ≤ made ws = (
    let sum = total_more (λ x. made_by x.who) mid n refl in
    let first = total_changed (λ x. made_by x.who) vs id v a at in omega arith
    ) in
    pool_seats k w vs ws (seat_of k (caller_after k m))
    (sheet_is w.states vs ws (λ p. count (λ x. owns p x.pool.own) refl refl) (λ p. count (λ x. parts p x.pool.parted) refl refl) (λ p. count (λ x. stamps p x.pool.parted) refl refl))
    more (λ above. r.epochs.none_past (seat_of k (caller_after k m) - 1) (omega arith))
    (λ F new all. each_more (λ x. F (claim_of k x) x.loads) mid (account (caller_after k m) 0) n refl refl new
    (changed (λ x. F (claim_of k x) x.loads) vs id v a at
    (subst (λ (z : ℕ). F (record (claim_of k v.me) { seat = z }) v.me.loads) (ap (seat_of k) is) (mine (λ x. F (claim_of k x) x.loads) vs id v at all)) all)) r
    (counts_caller k w.states vs id m v r.counts at (ap is_loader is))

-- ---- a view became gone

pub pool_note_goes : (k : Shape) (w : PoolWords) (vs : List View) (other front : ℕ) (u : View) → PoolRule k w vs → get_elem? vs other ≡ some u → u ≡ view u.shape (account Note front) → PoolRule k w (set vs other gone)
pool_note_goes k w vs other front u r there is =
    let ws : List View = set vs other gone in
    let count : (f : Account → ℕ) → f (account Note front) ≡ 0 → f (account Gone 0) ≡ 0 → total f ws ≡ total f vs = λ f none none_gone.
    let sum : total f ws + sum_of f (accounts_in u) ≡ total f vs = total_left f vs other u there none_gone in
    let of_note : sum_of f (accounts_in u) ≡ f (account Note front) + 0 = ap (λ (x : View). sum_of f (accounts_in x)) is in omega arith
    in
    pool_seats k w vs ws 0
    (sheet_is w.states vs ws (λ p. count (λ x. owns p x.pool.own) refl refl) (λ p. count (λ x. parts p x.pool.parted) refl refl) (λ p. count (λ x. stamps p x.pool.parted) refl refl))
    (let same = count (λ x. made_by x.who) refl refl in omega arith) (λ above. absurd (omega arith))
    (λ F new all. each_left (λ x. F (claim_of k x) x.loads) vs other new all) r
    (counts_left k w.states vs other u r.counts there (ap (λ (x : View). sum_of pages_of (accounts_in x)) is))

pub pool_gather : (k : Shape) (w : PoolWords) (vs : List View) (id other : ℕ) (v u : View) → PoolRule k w vs → get_elem? vs id ≡ some v → ¬ (other ≡ id) → get_elem? vs other ≡ some u → PoolRule k w (set (set vs id (keeping v u)) other gone)
pool_gather k w vs id other v u r at apart there =
    let ws : List View = set (set vs id (keeping v u)) other gone in
    let count : (f : Account → ℕ) → f (account Gone 0) ≡ 0 → total f ws ≡ total f vs = λ f none_gone. total_gathered f vs id other v u at apart there none_gone in
    pool_seats k w vs ws 0
    (sheet_is w.states vs ws (λ p. count (λ x. owns p x.pool.own) refl) (λ p. count (λ x. parts p x.pool.parted) refl) (λ p. count (λ x. stamps p x.pool.parted) refl))
    (let same = count (λ x. made_by x.who) refl in omega arith) (λ above. absurd (omega arith))
    (λ F new all. each_gathered (λ x. F (claim_of k x) x.loads) vs id other v u at there new all) r
    (counts_gather k w.states vs id other v u r.counts at apart there)

-- ---- a board as it is opened

-- the words of its pool
pub record OpensPool (w : PoolWords) : Type 0 where
  pub epoch : w.epoch ≡ 1
  pub announced : (i : ℕ) → w.announced i ≡ 0
  pub states : (p : ℕ) → w.states p ≤ 1
  pub free : (p : ℕ) → p ≢ 1 → w.states p ≡ 0

only : (F : Account → Type 0) (k : Shape) (a : Account) → F a → EachAccount F (view k a ∷ [])
only F k a f = each_cons (λ (u : View). Each F (accounts_in u)) (view k a) [] (each_cons F a [] f (each_none F)) (each_none (λ (u : View). Each F (accounts_in u)))

pub pool_open : (k : Shape) (w : PoolWords) → OpensPool w → PoolRule k w (opener k ∷ [])
pool_open k w o =
    let a : Account = account (Opener 0) 0 in
    let s : Sheet = sheet_of w.states (opener k ∷ []) in
    let one = o.epoch in record {
      epochs = record {
        above = omega arith;
        most = omega arith;
        claims = only (λ x. ClaimFits w.epoch w.announced (claim_of k x)) k a (blank_claim w.epoch w.announced 0 (λ above. absurd (omega arith)));
        none_past = λ i _. o.announced i;
      };
      pages = λ p. let small = o.states p in record { once = omega arith; busy = λ h. absurd (omega arith); past = omega arith };
      held = only (λ x. Each (HeldFits s x.pool.announced) _) k a (each_none (HeldFits s 0));
      scans = only (λ x. EachAccount (λ y. Passed s (claim_of k x) (claim_of k y)) (opener k ∷ [])) k a (only (λ y. Passed s (blank 0) (claim_of k y)) k a (blank_scan s 0 (blank 0)));
      states = only (λ x. StatesStand w.states x.loads) k a (blank_states w.states);
      counts = counts_open k w.states o.free;
    }
