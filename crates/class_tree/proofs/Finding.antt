-- A code is looked for in one page, slot by slot.
use Rattle.std.proofs.Common.{◌≡◌, ◌≢◌, ℕ, ◌+◌, ◌<◌, false, List, [], ◌∷◌, ◌++◌, length, get_or, take, drop, refl, sym, ap, ◌∙◌, subst, arith, suc, cond, ◌==◌, take-suc, take-append-drop, eq-eqb, ne_eqb}
use mathlib.Core.Option.{some}
use lib.ListN.{get_elem?}
use Rattle.htss_defs.specs.declared.shape.Shape.{Shape}
use Rattle.board_core.specs.declared.account.Account.{Account}
use Rattle.board_core.specs.declared.tree.Reached.{Reached}
use Rattle.board_core.specs.Each.{In}
use Rattle.board_core.specs.ClassTree.{IsBelow}
use Rattle.board_core.specs.KnownPages.{IsMate}
use Rattle.board_core.specs.Loaded.{IsPage, IsToClaim}
use Rattle.board_core.specs.Rows.{own_codes}
use Rattle.board_core.specs.After.{after_slot}
use Rattle.board_core.specs.Steps.{MayClaimCode}
use Rattle.board_core.proofs.Lists.{inside, at_last}
use Rattle.board.specs.Seated.{Seated, with_account}
use Rattle.class_tree.specs.declared.walks.Stop.{Stop}
use Rattle.class_tree.specs.declared.walks.Target.{Target}
use Rattle.class_tree.specs.Walking.{here, IsFresh, IsTarget, IsSeeking, HasCode}
use Rattle.class_tree.proofs.Pages.{visited_is, here_slot, here_more, size_slot, slot_again, target_kept, within, at_slot, fresh_slot, fresh_zero, high_slot}

-- the row's codes up to this depth, and the one at it
next_code : (l : List ℕ) (depth : ℕ) → depth < length l → l ≡ (take depth l ++ get_or l depth 0 ∷ []) ++ drop (depth + 1) l
next_code l depth less = sym (take-append-drop (depth + 1) l) ∙ ap (λ (p : List ℕ). p ++ drop (depth + 1) l) ((let e : depth + 1 ≡ suc depth = omega arith in ap (λ (n : ℕ). take n l) e) ∙ take-suc l depth 0 less)

-- the row's path goes on with its code of this depth
pub below_code : (k : Shape) (a : Account) (t : Target) (depth : ℕ) → depth < 5 → IsTarget k a t → IsBelow (take depth t.codes ++ get_or t.codes depth 0 ∷ []) (own_codes k a t.row)
below_code k a t depth deep h = (drop (depth + 1) t.codes, sym h.codes_are ∙ next_code t.codes depth (let long : length t.codes ≡ 5 = ap length h.codes_are in omega arith))

-- no page of the chain shows the code
pub absent : (a : Account) (path : List ℕ) (code : ℕ) → IsFresh a path code → (y : Reached) → IsMate a.tree.reached path false y → In code y.slots → ⊥
absent a path code h y mate seen =
    let (j, there) = mate.there in
    let e = visited_is a.tree.reached j y there in
    h j (inside a.tree.reached j y there) (ap (λ (x : Reached). x.leaf) e ∙ mate.kind) (ap (λ (x : Reached). x.path) e ∙ mate.path) (subst (λ (x : Reached). In code x.slots) (sym e) seen)

pub to_claim : (k : Shape) (a : Account) (t : Target) (depth : ℕ) → depth < 5 → IsTarget k a t → IsFresh a (take depth t.codes) (get_or t.codes depth 0) → IsToClaim k a (take depth t.codes) (get_or t.codes depth 0)
to_claim k a t depth deep h fresh = record {
  some_c = h.some_code depth deep;
  row = t.row;
  begun = h.place.begun;
  below = below_code k a t depth deep h;
  absent = absent a (take depth t.codes) (get_or t.codes depth 0) fresh;
}

-- the slot was found 0: the code may stand there
pub may_claim : (k : Shape) (c d : Seated) (s : Stop) (depth rank known word : ℕ) (t : Target) → IsSeeking k c.account s depth rank known t → known < 7 → d ≡ with_account c (after_slot c.account s.number word) → word ≡ 0 → MayClaimCode k d.account s.number (get_or t.codes depth 0)
may_claim k c d s depth rank known word t h room e none =
    let a : Account = c.account in
    let less = within k a s (take depth t.codes) rank known false h.at in
    let same = here_slot a s 0 less in
    let size = h.at.size in
    let claim = to_claim k (after_slot a s.number 0) t depth h.deep (target_kept k a (after_slot a s.number 0) t refl h.target) (fresh_zero a s (take depth t.codes) (get_or t.codes depth 0) less h.fresh) in
    subst (λ (x : Seated). MayClaimCode k x.account s.number (get_or t.codes depth 0)) (sym (e ∙ ap (λ (n : ℕ). with_account c (after_slot a s.number n)) none)) record {
      visit = record { reached = (let longer = size_slot a s 0 in omega arith); inside = subst (IsPage k) (sym (ap (λ (x : Reached). x.page) same ∙ h.at.there)) h.at.inside };
      inner = ap (λ (x : Reached). x.leaf) same ∙ h.at.kind;
      unread = ap (λ (x : Reached). x.more) same ∙ h.at.unread;
      room = (let kept : length (here (after_slot a s.number 0) s).slots ≡ length (here a s).slots = ap (λ (x : Reached). length x.slots) same in omega arith);
      claim = subst (λ (p : List ℕ). IsToClaim k (after_slot a s.number 0) p (get_or t.codes depth 0)) (sym (ap (λ (x : Reached). x.path) same ∙ h.at.on)) claim;
    }

-- the number that stands there now: what was found, or the code
claimed : (k : Shape) (c d e : Seated) (s : Stop) (depth rank known word n : ℕ) (t : Target) → IsSeeking k c.account s depth rank known t → d ≡ with_account c (after_slot c.account s.number word) → word ≡ 0 → e ≡ with_account d (after_slot d.account s.number n) → n ≢ 0 → e ≡ with_account c (after_slot c.account s.number n)
claimed k c d e s depth rank known word n t h first none then some_n =
    let zero_first : d ≡ with_account c (after_slot c.account s.number 0) = first ∙ ap (λ (x : ℕ). with_account c (after_slot c.account s.number x)) none in
    then ∙ (ap (λ (x : Seated). with_account x (after_slot x.account s.number n)) zero_first ∙ ap (with_account c) (slot_again c.account s n (within k c.account s (take depth t.codes) rank known false h.at) some_n))

pub claim_lost : (k : Shape) (c d e : Seated) (s : Stop) (depth rank known word code found : ℕ) (t : Target) → IsSeeking k c.account s depth rank known t → d ≡ with_account c (after_slot c.account s.number word) → word ≡ 0 → e ≡ with_account d (after_slot d.account s.number (cond (found == 0) code found)) → found ≢ 0 → e ≡ with_account c (after_slot c.account s.number found)
claim_lost k c d e s depth rank known word code found t h first none then some_n =
    claimed k c d e s depth rank known word found t h first none (then ∙ ap (λ b. with_account d (after_slot d.account s.number (cond b code found))) (ne_eqb found 0 some_n)) some_n

pub claim_won : (k : Shape) (c d e : Seated) (s : Stop) (depth rank known word found : ℕ) (t : Target) → IsSeeking k c.account s depth rank known t → d ≡ with_account c (after_slot c.account s.number word) → word ≡ 0 → e ≡ with_account d (after_slot d.account s.number (cond (found == 0) (get_or t.codes depth 0) found)) → found ≡ 0 → e ≡ with_account c (after_slot c.account s.number (get_or t.codes depth 0))
claim_won k c d e s depth rank known word found t h first none then zero =
    claimed k c d e s depth rank known word (get_or t.codes depth 0) t h first none (then ∙ ap (λ b. with_account d (after_slot d.account s.number (cond b (get_or t.codes depth 0) found))) (eq-eqb found 0 zero)) (h.target.some_code depth h.deep)

pub stands_within : (k : Shape) (a : Account) (s : Stop) (depth rank known : ℕ) (t : Target) → IsSeeking k a s depth rank known t → s.number < length a.tree.reached
stands_within k a s depth rank known t h = within k a s (take depth t.codes) rank known false h.at

-- another code stands in the slot
pub seeking_on : (k : Shape) (c d : Seated) (s : Stop) (depth rank known n : ℕ) (t : Target) → IsSeeking k c.account s depth rank known t → d ≡ with_account c (after_slot c.account s.number n) → n ≢ 0 → n ≢ get_or t.codes depth 0 → IsSeeking k d.account s depth rank (known + 1) t
seeking_on k c d s depth rank known n t h e some_n other =
    let a : Account = c.account in
    let less = within k a s (take depth t.codes) rank known false h.at in
    subst (λ (x : Seated). IsSeeking k x.account s depth rank (known + 1) t) (sym e) record {
      at = at_slot k a s (take depth t.codes) rank known n false h.at some_n;
      deep = h.deep;
      target = target_kept k a (after_slot a s.number n) t refl h.target;
      fresh = fresh_slot a s (take depth t.codes) (get_or t.codes depth 0) n less some_n other h.fresh;
      high = high_slot a s depth n less h.high;
    }

-- the code stands in the slot
pub code_stands : (k : Shape) (c d : Seated) (s : Stop) (depth rank known n : ℕ) (t : Target) → IsSeeking k c.account s depth rank known t → known < 7 → d ≡ with_account c (after_slot c.account s.number n) → n ≢ 0 → n ≡ get_or t.codes depth 0 → HasCode k d.account (record { stop = s; index = known }) depth t
code_stands k c d s depth rank known n t h room e some_n is =
    let a : Account = c.account in
    let less = within k a s (take depth t.codes) rank known false h.at in
    subst (λ (x : Seated). HasCode k x.account (record { stop = s; index = known }) depth t) (sym e) record {
      rank = rank;
      known = known + 1;
      at = at_slot k a s (take depth t.codes) rank known n false h.at some_n;
      deep = h.deep;
      target = target_kept k a (after_slot a s.number n) t refl h.target;
      room = room;
      there = ap (λ (x : Reached). get_elem? x.slots known) (here_more a s n less some_n) ∙ (at_last (here a s).slots n known h.at.size ∙ ap some is);
      high = high_slot a s depth n less h.high;
    }
