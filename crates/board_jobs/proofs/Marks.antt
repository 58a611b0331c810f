-- What the lines before one carry, and what a mark of it owes to them.
use Rattle.std.proofs.Common.{◌≡◌, ℕ, ◌<◌, ◌≤◌, List, [], ◌∷◌, ◌++◌, length, get_or, sym, ap, subst, ◌∙◌, All, arith}
use Rattle.std.specs.Prelude.{Some, sum_by}
use Rattle.std.proofs.lemmas.List.Elements.{All-cons, All-head, All-nil, All-tail, All-weaker}
use Rattle.htss_defs.specs.declared.history.Event.{Event}
use Rattle.htss_defs.specs.History.{HasEvent}
use Rattle.report_text.specs.declared.report.WithdrawLine.TheVariants.{At, Unknown, Gone, LogFull}
use Rattle.report_rules.specs.Answers.{Answer, to_record, to_search, to_withdrawal, fronts_of, numbers_of, own_number}
use Rattle.report_rules.specs.Dealing.{Caller, loader, searcher}
use Rattle.report_rules.specs.Rules.{Line, marks, used_by, IsNew, IsRefusingFront, IsSearchFront}
use Rattle.board_core.specs.declared.account.Account.{Account}
use Rattle.board_core.specs.Histories.{caller_of}

module _ {A : Type 0} (P : A → Type 0) where
  pub all_left : (xs ys : List A) → All P (xs ++ ys) → All P xs
  all_left [] ys all = All-nil P
  all_left (x ∷ xs) ys all = All-cons P x xs (All-head P x (xs ++ ys) all) (all_left xs ys (All-tail P x (xs ++ ys) all))

  pub all_right : (xs ys : List A) → All P (xs ++ ys) → All P ys
  all_right [] ys all = all
  all_right (x ∷ xs) ys all = all_right xs ys (All-tail P x (xs ++ ys) all)

-- ---- marks

pub own_in_numbers : (P : ℕ → Type 0) (answer : Answer) → All P (numbers_of answer) → All P (own_number answer)
own_in_numbers P (to_record answer) all = all
own_in_numbers P (to_withdrawal number (At event)) all = all
own_in_numbers P (to_withdrawal number (Unknown front)) all = all
own_in_numbers P (to_withdrawal number (Gone at)) all = All-nil P
own_in_numbers P (to_withdrawal number (LogFull front)) all = all
own_in_numbers P (to_search answer) all = all

pub all_later : (m n : ℕ) (xs : List ℕ) → m ≤ n → All (λ x. x ≤ m) xs → All (λ x. x ≤ n) xs
all_later m n xs less all = All-weaker (λ x. x ≤ m) (λ x. x ≤ n) (λ x within. omega (arith, less, within)) xs all

all_below : (m n : ℕ) (xs : List ℕ) → m < n → All (λ x. x ≤ m) xs → All (λ x. x < n) xs
all_below m n xs less all = All-weaker (λ x. x ≤ m) (λ x. x < n) (λ x within. omega (arith, less, within)) xs all

-- the marks of a line that this front has
abbrev pub AreSeen : ℕ → Line → Type 0
AreSeen front line = All (λ mark. mark ≤ front) (marks line)

numbers_seen : (front : ℕ) (line : Line) → AreSeen front line → All (λ mark. mark ≤ front) (numbers_of line.answer)
numbers_seen front line seen = all_left (λ mark. mark ≤ front) (numbers_of line.answer) (fronts_of line.answer) seen

fronts_seen : (front : ℕ) (line : Line) → AreSeen front line → All (λ mark. mark ≤ front) (fronts_of line.answer)
fronts_seen front line seen = all_right (λ mark. mark ≤ front) (numbers_of line.answer) (fronts_of line.answer) seen

own_seen : (front : ℕ) (line : Line) → AreSeen front line → All (λ mark. mark ≤ front) (own_number line.answer)
own_seen front line seen = own_in_numbers (λ mark. mark ≤ front) line.answer (numbers_seen front line seen)

-- ---- the lines before one

-- the event of this number is by this caller
abbrev pub IsOwn : List Event → Caller → ℕ → Type 0
IsOwn h (loader caller) number = (e : Event) × HasEvent h number e × (caller_of e ≡ caller)
IsOwn h (searcher caller) number = ⊥

-- the account has seen what the lines of its caller and those of earlier groups carry, own numbers are of own events, and the words
-- that its caller's lines have used are those in use
pub record Before (h : List Event) (earlier : List Line) (line : Line) (a : Account) : Type 0 where
  pub own : All (λ one. one.caller ≡ line.caller → AreSeen a.log.seen one) earlier
  pub old : All (λ one. one.group < line.group → AreSeen a.log.seen one) earlier
  pub owns : All (λ one. All (IsOwn h one.caller) (own_number one.answer)) earlier
  pub room : sum_by (used_by line.caller) earlier ≡ length a.room.used

same_some : {e f : Event} → Some e ≡ Some f → e ≡ f
same_some same = cc

-- an event has one caller
one_caller : (h : List Event) (a b : Caller) (m n : ℕ) → m ≡ n → IsOwn h a m → IsOwn h b n → a ≡ b
one_caller h (loader a) (loader b) m n same (e, has, by) (f, also, too) =
    let here : HasEvent h n e = subst (λ z. HasEvent h z e) same has in
    let event : e ≡ f = same_some (sym here.1 ∙ also.1) in
    ap loader (sym by ∙ ap caller_of event ∙ too)
one_caller h (loader a) (searcher b) m n same own other = absurd other
one_caller h (searcher a) b m n same own other = absurd own

pub new_is : (h : List Event) (earlier : List Line) (line : Line) (a : Account) (number : ℕ) → Before h earlier line a → a.log.seen < number → IsOwn h line.caller number → IsNew earlier line number
new_is h earlier line a number before fresh own = record {
  loader = λ i d within same. all_below a.log.seen number (marks (get_or earlier i d)) fresh (before.own i d within same);
  groups = λ i d within early. all_below a.log.seen number (marks (get_or earlier i d)) fresh (before.old i d within early);
  once = λ i d within j x inside same.
      let one : Line = get_or earlier i d in
      let m : ℕ = get_or (own_number one.answer) j x in
      let caller = one_caller h one.caller line.caller m number same (before.owns i d within j x inside) own in
      let seen : m ≤ a.log.seen = own_seen a.log.seen one (before.own i d within caller) j x inside in
      absurd (omega (arith, same, seen, fresh));
}

pub refusing_is : (h : List Event) (earlier : List Line) (line : Line) (a : Account) (front : ℕ) → Before h earlier line a → a.log.seen ≤ front → IsRefusingFront earlier line front
refusing_is h earlier line a front before later = record {
  loader = λ i d within same. all_later a.log.seen front (marks (get_or earlier i d)) later (before.own i d within same);
  groups = λ i d within early. all_later a.log.seen front (own_number (get_or earlier i d).answer) later (own_seen a.log.seen (get_or earlier i d) (before.old i d within early));
}

pub search_is : (h : List Event) (earlier : List Line) (line : Line) (a : Account) (front : ℕ) → Before h earlier line a → a.log.seen ≤ front → IsSearchFront earlier line front
search_is h earlier line a front before later = record {
  searcher = λ i d within same. all_later a.log.seen front (fronts_of (get_or earlier i d).answer) later (fronts_seen a.log.seen (get_or earlier i d) (before.own i d within same));
  groups = λ i d within early. all_later a.log.seen front (marks (get_or earlier i d)) later (before.old i d within early);
}
