-- A board as it is opened.
use Rattle.std.proofs.Common.{◌≡◌, ◌≢◌, ℕ, zero, suc, ◌+◌, ◌*◌, ◌-◌, ◌<◌, ◌≤◌, List, [], ◌∷◌, ◌++◌, length, get_or, sym, refl, ap, ◌∙◌, arith, length-append}
use Rattle.htss_defs.specs.declared.shape.Shape.{Shape}
use Rattle.board_core.specs.declared.account.Account.{Account}
use Rattle.board_core.specs.declared.account.View.{View}
use Rattle.board_core.specs.declared.account.Who.TheVariants.{Opener, Gone}
use Rattle.board_core.specs.Each.{Each}
use Rattle.board_core.specs.Words.{Parts, parts_of, total_of, log_at, pages_at}
use Rattle.board_core.specs.Rows.{codes_in}
use Rattle.board_core.specs.OldRows.{IsOldRow}
use Rattle.board_core.specs.Swept.{IsSweptOn}
use Rattle.board_core.proofs.RowFrame.{rows_open}
use Rattle.board_core.proofs.TreeFrame.{tree_open}
use Rattle.std.proofs.Common.{Bool, true, false, cond, nat_lt}
use Rattle.board_core.specs.Accounts.{account, view, accounts_in, EachAccount}
use Rattle.board_core.specs.SeatRule.{WhoFits}
use Rattle.board_core.specs.LogRule.{hand_of, HandFits, IsByLoader}
use Rattle.board_core.specs.Truths.{IsTrueLog, IsTrueStory}
use Rattle.board_core.specs.LoadRule.{LoadFits}
use Rattle.board_core.specs.RoomRule.{store_of, RoomFits}
use Rattle.board_core.proofs.RoomFrame.{none_fits}
use Rattle.board_core.specs.Truths.{IsTrueRoom}
use Rattle.std.proofs.Common.{◌-◌, length}
use Rattle.board_core.proofs.MarkSeats.{marks_open}
use Rattle.board_core.proofs.RecordFrame.{records_open}
use Rattle.board_core.proofs.FactFrame.{facts_open}
use Rattle.board_core.proofs.PoolSeats.{OpensPool, pool_open}
use Rattle.board_core.specs.Truths.{IsTruePool}
use Rattle.board_core.proofs.OwnFrame.{own_open}
use Rattle.board_core.specs.Holds.{Rule, Holds}
use Rattle.board_core.proofs.Lists.{each_none, each_cons}
use Rattle.board_core.proofs.LogFrame.{quiet_fits, taken_none}
use Rattle.std.proofs.Common.{take, drop, subst}
use Rattle.std.proofs.lemmas.List.{length-replicate}
use lib.Seq.{get_or-drop}
use Rattle.atomic_table.specs.Table.{opening}
use Rattle.htss_defs.specs.History.{IsLegal, Withdraws}
use Rattle.board_core.specs.Words.{from_one, states_at, part, zeros, regions_size, opening_words}
use Rattle.board_core.specs.Accounts.{opener}
use Rattle.board_core.proofs.Callers.{seat_none}
use Rattle.board_core.proofs.Events.{event_within}
use Rattle.htss_defs.specs.declared.history.Event.TheVariants.{Withdraw}
use Rattle.board_core.specs.Sheets.{sheet_of}
use Rattle.board_core.specs.ChainRule.{IsTrueChain}
use Rattle.board_core.proofs.PublishedFrame.{published_open}
use Rattle.board_core.proofs.OldMoved.{no_old}
use mathlib.Core.Logic.{dite}
use native.Mathlib.Decide.{ℕ_discrete}

blank_at : (n i : ℕ) → get_or (zeros n) i 0 ≡ 0
blank_at zero i = refl
blank_at (suc n) zero = refl
blank_at (suc n) (suc i) = blank_at n i

blank_take : (l : List ℕ) (n i : ℕ) → ((j : ℕ) → get_or l j 0 ≡ 0) → get_or (take n l) i 0 ≡ 0
blank_take l zero i blank = refl
blank_take [] (suc n) i blank = refl
blank_take (x ∷ xs) (suc n) zero blank = blank zero
blank_take (x ∷ xs) (suc n) (suc i) blank = blank_take xs n i (λ j. blank (suc j))

-- a list with so many words before, and no other word than 0 after them
abbrev IsBlankFrom : ℕ → List ℕ → Type 0
IsBlankFrom from ws = (i : ℕ) → from ≤ i → get_or ws i 0 ≡ 0

blank_cons : (from n : ℕ) (ws : List ℕ) → IsBlankFrom from ws → IsBlankFrom (suc from) (n ∷ ws)
blank_cons from n ws blank zero past = absurd (omega arith)
blank_cons from n ws blank (suc i) past = blank i (omega arith)

blank_after : (count from : ℕ) (ws : List ℕ) → IsBlankFrom from ws → IsBlankFrom (count + from) (zeros count ++ ws)
blank_after zero from ws blank i past = blank i (omega arith)
blank_after (suc count) from ws blank zero past = absurd (omega arith)
blank_after (suc count) from ws blank (suc i) past = blank_after count from ws blank i (omega arith)

blank_later : (from more : ℕ) (ws : List ℕ) → from ≤ more → IsBlankFrom from ws → IsBlankFrom more ws
blank_later from more ws less blank i past = blank i (omega arith)

blank_part : (from size : ℕ) (ws : List ℕ) (i : ℕ) → IsBlankFrom from ws → part from size ws i ≡ 0
blank_part from size ws i blank = blank_take (drop from ws) size i (λ j. get_or-drop from ws j 0 ∙ blank (from + j) (omega arith))

-- past the first word of the root all words are 0
blank_opening : (k : Shape) → 0 < k.pages → IsBlankFrom (log_at k) (opening_words k)
blank_opening k some_page =
    let count : ℕ = k.loaders + k.searchers in
    let tail : ℕ = 16 * k.pages - 1 + k.log + regions_size k in
    let from_root : List ℕ = 2 ∷ zeros tail in
    let from_states : List ℕ = 1 ∷ (zeros (k.pages - 1) ++ from_root) in
    let from_callers : List ℕ = zeros count ++ from_states in
    let rest : ℕ = suc (k.pages - 1 + 1) in
    let root : IsBlankFrom 1 from_root = blank_cons 0 2 (zeros tail) (λ i _. blank_at tail i) in
    let states : IsBlankFrom rest from_states = blank_cons (k.pages - 1 + 1) 1 (zeros (k.pages - 1) ++ from_root) (blank_after (k.pages - 1) 1 from_root root) in
    let callers : IsBlankFrom (count + rest) from_callers = blank_after count rest from_states states in
    let all : IsBlankFrom (suc (suc (suc (count + rest)))) (opening_words k) = blank_cons (suc (suc (count + rest))) 0 (0 ∷ 1 ∷ from_callers) (blank_cons (suc (count + rest)) 0 (1 ∷ from_callers) (blank_cons (count + rest) 1 from_callers callers)) in
    blank_later (suc (suc (suc (count + rest)))) (log_at k) (opening_words k) (omega arith) all

-- ---- the states of pages and the announcements

take_zeros : (n i : ℕ) (ws : List ℕ) → get_or (take n (zeros n ++ ws)) i 0 ≡ 0
take_zeros zero i ws = refl
take_zeros (suc n) zero ws = refl
take_zeros (suc n) (suc i) ws = take_zeros n i ws

drop_zeros : (n : ℕ) (ws : List ℕ) → drop n (zeros n ++ ws) ≡ ws
drop_zeros zero ws = refl
drop_zeros (suc n) ws = drop_zeros n ws

small_state : (n i : ℕ) (ws : List ℕ) → get_or (take (suc n) (1 ∷ (zeros n ++ ws))) i 0 ≤ 1
small_state n zero ws = omega arith
small_state n (suc i) ws = let none = take_zeros n i ws in omega arith

small_states : (f : ℕ → ℕ) → ((i : ℕ) → f i ≤ 1) → (p : ℕ) → from_one f p ≤ 1
small_states f small zero = omega arith
small_states f small (suc p) = small p

one_state : (f : ℕ → ℕ) → ((i : ℕ) → f (suc i) ≡ 0) → (p : ℕ) → from_one f p ≡ 1 → p ≡ 1
one_state f blank zero e = absurd (omega arith)
one_state f blank (suc zero) e = refl
one_state f blank (suc (suc i)) e = let none = blank i in absurd (omega arith)

opens_pool : (k : Shape) → 0 < k.pages → OpensPool (parts_of k (opening_words k)).pool
opens_pool k some_page =
    let count : ℕ = k.loaders + k.searchers in
    let from_root : List ℕ = 2 ∷ zeros (16 * k.pages - 1 + k.log + regions_size k) in
    let from_states : List ℕ = 1 ∷ (zeros (k.pages - 1) ++ from_root) in
    let there : drop (states_at k) (opening_words k) ≡ from_states = ap (λ n. drop n (opening_words k)) (let e : states_at k ≡ suc (suc (suc count)) = omega arith in e) ∙ drop_zeros count from_states in
    let pages : k.pages ≡ suc (k.pages - 1) = omega arith in
    let states : (p : ℕ) → from_one (part (states_at k) k.pages (opening_words k)) p ≤ 1 = small_states (part (states_at k) k.pages (opening_words k)) (λ i.
    subst (λ (x : ℕ × List ℕ). get_or (take x.0 x.1) i 0 ≤ 1) (λ t. (sym pages t, sym there t)) (small_state (k.pages - 1) i from_root)) in record {
      epoch = refl;
      announced = λ i. take_zeros count i from_states;
      states = states;
      free = λ p other. let small = states p in dite (ℕ_discrete (from_one (part (states_at k) k.pages (opening_words k)) p) 0) (λ e. e) (λ e. absurd (other (one_state (part (states_at k) k.pages (opening_words k))
          (λ i. (λ t. get_or (take (pages t) (there t)) (suc i) 0) ∙ take_zeros (k.pages - 1) i from_root) p (omega arith))));
    }

-- ---- the root

drop_past : (n m : ℕ) (ws : List ℕ) → drop (n + m) (zeros n ++ ws) ≡ drop m ws
drop_past zero m ws = ap (λ (x : ℕ). drop x ws) (let e : 0 + m ≡ m = omega arith in e)
drop_past (suc n) m ws = ap (λ (x : ℕ). drop x (0 ∷ (zeros n ++ ws))) (let e : suc n + m ≡ suc (n + m) = omega arith in e) ∙ drop_past n m ws

unless : (b : Bool) (x : ℕ) → x ≡ 0 → cond b x 0 ≡ 0
unless true x e = e
unless false x e = refl

head_of_root : (n i : ℕ) (ws : List ℕ) → ((j : ℕ) → get_or ws j 0 ≡ 0) → 0 < i → get_or (take n (2 ∷ ws)) i 0 ≡ 0
head_of_root zero i ws blank above = refl
head_of_root (suc n) zero ws blank above = absurd (omega arith)
head_of_root (suc n) (suc i) ws blank above = blank_take ws n i blank

-- the words of its tree: one page
record OpensTree (p : Parts) : Type 0 where
  pub head : p.pages 1 0 ≡ 2
  pub blank : (i : ℕ) → 0 < i → p.pages 1 i ≡ 0
  pub first : p.pool.states 1 ≡ 1
  pub only : (q : ℕ) → p.pool.states q ≡ 1 → q ≡ 1

opens_tree : (k : Shape) → 0 < k.pages → OpensTree (parts_of k (opening_words k))
opens_tree k some_page =
    let count : ℕ = k.loaders + k.searchers in
    let tail : ℕ = 16 * k.pages - 1 + k.log + regions_size k in
    let from_root : List ℕ = 2 ∷ zeros tail in
    let from_states : List ℕ = 1 ∷ (zeros (k.pages - 1) ++ from_root) in
    let states : drop (states_at k) (opening_words k) ≡ from_states = ap (λ n. drop n (opening_words k)) (let e : states_at k ≡ suc (suc (suc count)) = omega arith in e) ∙ drop_zeros count from_states in
    let pages : k.pages ≡ suc (k.pages - 1) = omega arith in
    let root : drop (pages_at k) (opening_words k) ≡ from_root = ap (λ n. drop n (opening_words k)) (let e : pages_at k ≡ suc (suc (suc (count + suc (k.pages - 1)))) = omega arith in e)
    ∙ (drop_past count (suc (k.pages - 1)) from_states ∙ drop_zeros (k.pages - 1) from_root) in
    let wide : 16 * k.pages ≡ suc (16 * k.pages - 1) = omega arith in record {
      head = (λ t. get_or (take (wide t) (root t)) 0 0);
      blank = λ i above. unless (nat_lt i 16) (part (pages_at k) (16 * k.pages) (opening_words k) (0 + i)) (ap (λ (l : List ℕ). get_or (take (16 * k.pages) l) (0 + i) 0) root ∙ head_of_root (16 * k.pages) (0 + i) (zeros tail) (blank_at tail) (omega arith));
      first = λ t. get_or (take (pages t) (states t)) 0 0;
      only = one_state (part (states_at k) k.pages (opening_words k)) (λ i. (λ t. get_or (take (pages t) (states t)) (suc i) 0) ∙ take_zeros (k.pages - 1) i from_root);
    }

length_zeros : (n : ℕ) → length (zeros n) ≡ n
length_zeros n = length-replicate {A = ℕ} n 0

length_opening : (k : Shape) → 0 < k.pages → length (opening_words k) ≡ total_of k
length_opening k some_page =
    let count : ℕ = k.loaders + k.searchers in
    let tail : ℕ = 16 * k.pages - 1 + k.log + regions_size k in
    let from_root : List ℕ = 2 ∷ zeros tail in
    let from_states : List ℕ = 1 ∷ (zeros (k.pages - 1) ++ from_root) in
    let root : length from_root ≡ suc tail = ap suc (length_zeros tail) in
    let states : length from_states ≡ suc (k.pages - 1 + length from_root) = ap suc (length-append (zeros (k.pages - 1)) from_root ∙ ap (λ n. n + length from_root) (length_zeros (k.pages - 1))) in
    let callers : length (zeros count ++ from_states) ≡ count + length from_states = length-append (zeros count) from_states ∙ ap (λ n. n + length from_states) (length_zeros count) in
    let all : length (opening_words k) ≡ suc (suc (suc (length (zeros count ++ from_states)))) = refl in omega arith

-- one view with one account
only : (F : Account → Type 0) (k : Shape) (a : Account) → F a → EachAccount F (view k a ∷ [])
only F k a f = each_cons (λ (u : View). Each F (accounts_in u)) (view k a) [] (each_cons F a [] f (each_none F)) (each_none (λ (u : View). Each F (accounts_in u)))

no_withdrawal : (number target : ℕ) → Withdraws [] number target → ⊥
no_withdrawal number target w = let within = event_within [] number (Withdraw w.caller target) w.event in let above : 1 ≤ number = w.event.0 in absurd (omega arith)

legal_none : IsLegal []
legal_none = record { earlier = λ number target w. absurd (no_withdrawal number target w); once = λ number other target w _. absurd (no_withdrawal number target w) }

open_rule : (k : Shape) (p : Parts) → p.log.front ≡ 0 → p.log.lock ≡ 0 → ((i : ℕ) → p.log.slots i ≡ 0) → OpensPool p.pool → OpensTree p → 0 < k.chain → Rule k p [] (opener k ∷ [])
open_rule k p front lock slots pool tree some_chain = record {
  rows = rows_open k;
  pins = only (λ x. x.tree.front ≤ p.log.front) k (account (Opener 0) 0) (omega arith);
  published = published_open k;
  tree = tree_open k p.pool.states p.pages (codes_in k p.regions) (IsOldRow k p.regions p.log.slots) (no_old k p.regions p.log.slots) some_chain tree.head tree.blank tree.first tree.only;
  seats = record {
    shapes = each_cons (λ (u : View). u.me.who ≢ Gone → u.shape ≡ k) (opener k) [] (λ _. refl) (each_none (λ (u : View). u.me.who ≢ Gone → u.shape ≡ k));
    limits = only (λ x. WhoFits k x.who) k (account (Opener 0) 0) (omega arith);
    one_opener = refl;
    callers = λ c above within. absurd (omega arith);
    none_past = λ c past. let z = seat_none k c (Opener 0) refl past in omega arith;
  };
  log = record {
    front = omega arith;
    counted = omega arith;
    legal = legal_none;
    callers = each_none (IsByLoader k);
    blank = λ i _. slots i;
    next = slots p.log.front;
    lock = sym (taken_none p.log.lock lock);
    hands = only (λ x. HandFits k p.log [] (hand_of x)) k (account (Opener 0) 0) (quiet_fits k p.log [] (hand_of (account (Opener 0) 0)) (omega arith) refl refl);
  };
  stories = record {
    stories = only (λ x. IsTrueStory k [] x.who x.entries) k (account (Opener 0) 0) record { each = each_none (λ e. IsTrueLog k [] e.entry); own = refl };
    none_before = λ c past. refl;
  };
  full = only (λ x. Each (λ e. IsTrueRoom (k.room - length x.room.used) e.entry) x.entries) k (account (Opener 0) 0) (each_none (λ e. IsTrueRoom (k.room - length {A = ℕ} []) e.entry));
  rooms = record {
    rooms = only (λ x. RoomFits k p.regions (store_of x)) k (account (Opener 0) 0) (none_fits k p.regions (Opener 0));
    named = λ i behind kind. absurd (omega arith);
  };
  marks = marks_open k p;
  records = records_open k;
  facts = facts_open k p.regions p.log.front;
  own = own_open p.pages k;
  pool = pool_open k p.pool pool;
  chains = only (λ x. Each (λ e. IsTrueChain k p.pages (sheet_of p.pool.states (opener k ∷ [])) e.entry) x.entries) k (account (Opener 0) 0) (each_none (λ e. IsTrueChain k p.pages (sheet_of p.pool.states (opener k ∷ [])) e.entry));
  swept = only (λ x. Each (λ e. IsSweptOn k p (opener k ∷ []) e.entry) x.entries) k (account (Opener 0) 0) (each_none (λ e. IsSweptOn k p (opener k ∷ []) e.entry));
  empty = only (λ x. Each (λ e. IsTruePool k p.pool.states e.entry) x.entries) k (account (Opener 0) 0) (each_none (λ e. IsTruePool k p.pool.states e.entry));
  loads = only (λ x. Each (LoadFits k p.log) x.loads.shown) k (account (Opener 0) 0) (each_none (LoadFits k p.log));
}

pub opens : (k : Shape) → 0 < k.pages → 0 < k.chain → Holds k (opening (opening_words k) [] (opener k))
opens k some_page some_chain = record {
  wide = length_opening k some_page;
  rule = open_rule k (parts_of k (opening_words k)) refl refl (λ i. blank_part (log_at k) k.log (opening_words k) i (blank_opening k some_page)) (opens_pool k some_page) (opens_tree k some_page) some_chain;
}
