-- The numbers of the events that an account tells of: what answers add to them, and that the account of a true story has them all.
use Rattle.std.proofs.Common.{◌≡◌, ◌⊎◌, inl, inr, ⊎_elim, ℕ, zero, suc, ◌+◌, ◌-◌, ◌<◌, ◌≤◌, ◌==◌, Bool, true, false, cond, List, [], ◌∷◌, ◌++◌, map, filter, refl, sym, ap, subst, ◌∙◌, arith, append_assoc, append-nil, eq-eqb}
use Rattle.std.specs.Prelude.{All, Some, slice_get}
use Rattle.std.specs.List.{flat_map}
use Rattle.std.proofs.lemmas.Option.{none-some, same_Some}
use Rattle.htss_defs.specs.declared.shape.Shape.{Shape}
use Rattle.htss_defs.specs.declared.history.Event.{Event}
use Rattle.htss_defs.specs.declared.record.NamedMol.{NamedMol}
use Rattle.htss_defs.specs.History.{HasEvent}
use Rattle.report_text.specs.declared.report.WithdrawLine.{WithdrawLine}
use Rattle.report_text.specs.declared.report.WithdrawLine.TheVariants.{At, Unknown as IsUnknown, Gone as IsGone, LogFull as IsFull}
use Rattle.report_rules.specs.Answers.{Answer, to_record, to_search, to_withdrawal, own_number, numbers_of, fronts_of}
use Rattle.report_rules.specs.Answers.{Fate, published, no_room, no_page, chain_full, log_full}
use Rattle.report_rules.specs.Answers.{not_accepted, taken, SearchAnswer, not_read, hits_at, over_at}
use Rattle.report_rules.specs.Dealing.{Caller}
use Rattle.report_rules.specs.Rules.{caller_number}
use Rattle.board_core.specs.declared.account.Account.{Account}
use Rattle.board_core.specs.declared.account.Who.TheVariants.{Loader}
use Rattle.board_core.specs.declared.entry.Entry.{Entry}
use Rattle.board_core.specs.declared.entry.Entry.TheVariants.{Published, Withdrawn, Answered, Unknown, Gone, LogFull, DataFull, NoPage, ChainFull, Swept}
use Rattle.board_core.specs.declared.entry.Noted.{Noted}
use Rattle.board_core.specs.declared.loads.Lengths.{Lengths}
use Rattle.board_core.specs.Answers.{is_answer, answers_in}
use Rattle.board_core.specs.Histories.{caller_of, numbered, events_by}
use Rattle.board_core.specs.Truths.{IsTrueStory, told_by, told_in, own_events}
use Rattle.board_jobs.specs.Telling.{entries_in, tells, fate_entries, withdrawal_entries, search_entries}
use Rattle.board_jobs.specs.Answering.{IsAnswered, AreAnswered}
use Rattle.board_jobs.proofs.Chained.{answered_entries}
use Rattle.board_jobs.proofs.Counted.{In, in_cases, RiseTo, rise_append, without_stop, not_sooner}

-- the number of the event that an entry tells of
abbrev pub own_of : Entry → List ℕ
own_of (Published number event) = number ∷ []
own_of (Withdrawn number event) = number ∷ []
own_of (Answered query budget front reply) = []
own_of (Unknown number front) = []
own_of (Gone number at) = []
own_of (LogFull front) = []
own_of (DataFull left need) = []
own_of NoPage = []
own_of (ChainFull pages) = []
own_of (Swept need front rows) = []

abbrev pub own_numbers : List Entry → List ℕ
own_numbers [] = []
own_numbers (x ∷ xs) = own_of x ++ own_numbers xs

-- the numbers of an account
abbrev pub own_in : Account → List ℕ
own_in a = own_numbers (entries_in a)

-- they rise, and the account has seen them all
abbrev pub Rises : Account → Type 0
Rises a = RiseTo 1 (own_in a) (a.log.seen + 1)

own_numbers-append : (xs ys : List Entry) → own_numbers (xs ++ ys) ≡ own_numbers xs ++ own_numbers ys
own_numbers-append [] ys = refl
own_numbers-append (x ∷ xs) ys = ap (λ l. own_of x ++ l) (own_numbers-append xs ys) ∙ sym (append_assoc (own_of x) (own_numbers xs) (own_numbers ys))

-- ---- an answer

fate_own : (loader : ℕ) (one : NamedMol) (fate : Fate) → own_numbers (fate_entries loader one fate) ≡ own_number (to_record (taken one fate))
fate_own loader one (published number) = refl
fate_own loader one (no_room left need) = refl
fate_own loader one no_page = refl
fate_own loader one (chain_full pages) = refl
fate_own loader one (log_full front) = refl

withdrawal_own : (loader number : ℕ) (answer : WithdrawLine) → own_numbers (withdrawal_entries loader number answer) ≡ own_number (to_withdrawal number answer)
withdrawal_own loader number (At event) = refl
withdrawal_own loader number (IsUnknown front) = refl
withdrawal_own loader number (IsGone at) = refl
withdrawal_own loader number (IsFull front) = refl

search_own : (answer : SearchAnswer) → own_numbers (search_entries answer) ≡ own_number (to_search answer)
search_own (not_read line code) = refl
search_own (hits_at asked budget front hits rows records) = refl
search_own (over_at asked budget front) = refl

-- its entries tell of the event that it has added
tells_own : (caller : Caller) (answer : Answer) → own_numbers (tells caller answer) ≡ own_number answer
tells_own caller (to_record (not_accepted line code)) = refl
tells_own caller (to_record (taken one fate)) = fate_own (caller_number caller) one fate
tells_own caller (to_withdrawal number answer) = withdrawal_own (caller_number caller) number answer
tells_own caller (to_search answer) = search_own answer

-- an answer that has at most one number of its own, which is seen only afterwards
fate_rises : (one : NamedMol) (fate : Fate) (low high : ℕ) → low ≤ high → All (λ mark. mark ≤ high) (numbers_of (to_record (taken one fate)) ++ fronts_of (to_record (taken one fate))) → All (λ number. low < number) (own_number (to_record (taken one fate)))
    → RiseTo (low + 1) (own_number (to_record (taken one fate))) (high + 1)
fate_rises one (published number) low high le marks fresh = let a : number ≤ high = marks 0 number (omega arith) in let b : low < number = fresh 0 number (omega arith) in (omega arith, omega arith)
fate_rises one (no_room left need) low high le marks fresh = omega arith
fate_rises one no_page low high le marks fresh = omega arith
fate_rises one (chain_full pages) low high le marks fresh = omega arith
fate_rises one (log_full front) low high le marks fresh = omega arith

withdrawal_rises : (number : ℕ) (answer : WithdrawLine) (low high : ℕ) → low ≤ high → All (λ mark. mark ≤ high) (numbers_of (to_withdrawal number answer) ++ fronts_of (to_withdrawal number answer)) → All (λ n. low < n) (own_number (to_withdrawal number answer))
    → RiseTo (low + 1) (own_number (to_withdrawal number answer)) (high + 1)
withdrawal_rises number (At event) low high le marks fresh = let a : event ≤ high = marks 0 event (omega arith) in let b : low < event = fresh 0 event (omega arith) in (omega arith, omega arith)
withdrawal_rises number (IsUnknown front) low high le marks fresh = omega arith
withdrawal_rises number (IsGone at) low high le marks fresh = omega arith
withdrawal_rises number (IsFull front) low high le marks fresh = omega arith

answer_rises : (answer : Answer) (low high : ℕ) → low ≤ high → All (λ mark. mark ≤ high) (numbers_of answer ++ fronts_of answer) → All (λ number. low < number) (own_number answer) → RiseTo (low + 1) (own_number answer) (high + 1)
answer_rises (to_record (not_accepted line code)) low high le marks fresh = omega arith
answer_rises (to_record (taken one fate)) low high le marks fresh = fate_rises one fate low high le marks fresh
answer_rises (to_withdrawal number answer) low high le marks fresh = withdrawal_rises number answer low high le marks fresh
answer_rises (to_search answer) low high le marks fresh = omega arith

answered_own : (k : Shape) (caller : Caller) (a b : Account) (answer : Answer) → IsAnswered k caller a b answer → own_in b ≡ own_in a ++ own_number answer
answered_own k caller a b answer is = ap own_numbers (answered_entries k caller a b answer is) ∙ (own_numbers-append (entries_in a) (tells caller answer) ∙ ap (λ l. own_in a ++ l) (tells_own caller answer))

-- ---- answers, one after the other

-- the numbers that they add
pub more_own : (k : Shape) (caller : Caller) (a b : Account) (answers : List Answer) → AreAnswered k caller a b answers → own_in b ≡ own_in a ++ flat_map own_number answers
more_own k caller a b [] same = ap own_in same ∙ sym (append-nil (own_in a))
more_own k caller a b (answer ∷ answers) t =
    more_own k caller t.0 b answers t.2
    ∙ (ap (λ l. l ++ flat_map own_number answers) (answered_own k caller a t.0 answer t.1)
    ∙ append_assoc (own_in a) (own_number answer) (flat_map own_number answers))

-- they come after what was seen before, rise, and are seen afterwards
pub more_rise : (k : Shape) (caller : Caller) (a b : Account) (answers : List Answer) → AreAnswered k caller a b answers → RiseTo (a.log.seen + 1) (flat_map own_number answers) (b.log.seen + 1)
more_rise k caller a b [] same = let is : b.log.seen ≡ a.log.seen = ap (λ (x : Account). x.log.seen) same in omega arith
more_rise k caller a b (answer ∷ answers) t =
    rise_append (a.log.seen + 1) (own_number answer) (flat_map own_number answers) (t.0.log.seen + 1) (b.log.seen + 1)
    (answer_rises answer a.log.seen t.0.log.seen t.1.seen t.1.marks t.1.fresh) (more_rise k caller t.0 b answers t.2)

pub still_rises : (k : Shape) (caller : Caller) (a b : Account) (answers : List Answer) → AreAnswered k caller a b answers → Rises a → Rises b
still_rises k caller a b answers t r = subst (λ l. RiseTo 1 l (b.log.seen + 1)) (sym (more_own k caller a b answers t))
    (rise_append 1 (own_in a) (flat_map own_number answers) (a.log.seen + 1) (b.log.seen + 1) r (more_rise k caller a b answers t))

-- a number afterwards is one from before, or an answer's own
pub own_cases : (k : Shape) (caller : Caller) (a b : Account) (answers : List Answer) → AreAnswered k caller a b answers → (n : ℕ) → In n (own_in b) → In n (own_in a) ⊎ In n (flat_map own_number answers)
own_cases k caller a b answers t n m = in_cases n (own_in a) (flat_map own_number answers) (subst (In n) (more_own k caller a b answers t) m)

-- and one that was seen before is one from before
pub own_before : (k : Shape) (caller : Caller) (a b : Account) (answers : List Answer) → AreAnswered k caller a b answers → (n : ℕ) → n ≤ a.log.seen → In n (own_in b) → In n (own_in a)
own_before k caller a b answers t n seen m = ⊎_elim
    (λ (old : In n (own_in a)). old)
    (λ (new : In n (flat_map own_number answers)).
    let after = not_sooner (a.log.seen + 1) (flat_map own_number answers) (without_stop (a.log.seen + 1) (flat_map own_number answers) (b.log.seen + 1) (more_rise k caller a b answers t)) n new in
    absurd (omega (arith, after, seen)))
    (own_cases k caller a b answers t n m)

-- ---- a true story

-- the number of a numbered event
abbrev first_in : ℕ × Event → ℕ
first_in x = x.0

told_numbers_by : (x : Entry) (at : Lengths) (entries : List Noted) (es : List (ℕ × Event)) → map first_in es ≡ own_numbers (map (λ n. n.entry) entries)
    → map first_in (told_by x ++ es) ≡ own_numbers (map (λ n. n.entry) (cond (is_answer x) (record { entry = x; at = at } ∷ entries) entries))
told_numbers_by (Published number event) at entries es e = ap (λ l. number ∷ l) e
told_numbers_by (Withdrawn number event) at entries es e = ap (λ l. number ∷ l) e
told_numbers_by (Answered query budget front reply) at entries es e = e
told_numbers_by (Unknown number front) at entries es e = e
told_numbers_by (Gone number event) at entries es e = e
told_numbers_by (LogFull front) at entries es e = e
told_numbers_by (DataFull left need) at entries es e = e
told_numbers_by NoPage at entries es e = e
told_numbers_by (ChainFull pages) at entries es e = e
told_numbers_by (Swept need front rows) at entries es e = e

-- the numbers of an account are those of the events that it tells of
told_numbers : (entries : List Noted) → map first_in (told_in entries) ≡ own_numbers (map (λ n. n.entry) (answers_in entries))
told_numbers [] = refl
told_numbers (x ∷ xs) = told_numbers_by x.entry x.at (answers_in xs) (told_in xs) (told_numbers xs)

abbrev by_loader : ℕ → ℕ → List Event → List (ℕ × Event)
by_loader c first h = filter (λ x. caller_of x.1 == c) (numbered first h)

later_in : (n first c : ℕ) (x : Event) (xs : List Event) (b : Bool) → In n (map first_in (by_loader c (first + 1) xs)) → In n (map first_in (cond b ((first, x) ∷ by_loader c (first + 1) xs) (by_loader c (first + 1) xs)))
later_in n first c x xs true m = inr m
later_in n first c x xs false m = m

-- an event by the loader has its number among them
has_number : (h : List Event) (c first i : ℕ) (e : Event) → slice_get h i ≡ Some e → caller_of e ≡ c → In (first + i) (map first_in (by_loader c first h))
has_number [] c first i e at by = absurd (none-some e at)
has_number (x ∷ xs) c first zero e at by =
    subst (λ b. In (first + 0) (map first_in (cond b ((first, x) ∷ by_loader c (first + 1) xs) (by_loader c (first + 1) xs))))
    (sym (eq-eqb (caller_of x) c (ap caller_of (same_Some x e at) ∙ by))) (inl (omega arith))
has_number (x ∷ xs) c first (suc i) e at by =
    let next : first + 1 + i ≡ first + suc i = omega arith in
    later_in (first + suc i) first c x xs (caller_of x == c) (subst (λ n. In n (map first_in (by_loader c (first + 1) xs))) next (has_number xs c (first + 1) i e at by))

-- a loader's account whose story is true has the number of each event by the loader
pub has_all : (k : Shape) (h : List Event) (c : ℕ) (a : Account) → a.who ≡ Loader c → IsTrueStory k h a.who a.entries → (n : ℕ) (e : Event) → HasEvent h n e → caller_of e ≡ c → In n (own_in a)
has_all k h c a who story n e has by =
    let told : events_by c h ≡ told_in a.entries = sym (ap (own_events h) who) ∙ story.own in
    let place : 1 + (n - 1) ≡ n = omega (arith, has.0) in
    subst (In n) (ap (map first_in) told ∙ told_numbers a.entries) (subst (λ m. In m (map first_in (events_by c h))) place (has_number h c 1 (n - 1) e has.1 by))
