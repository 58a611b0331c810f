-- Every event of a board's history is named by one line of the report, and all of the history was seen at its end.
use Rattle.std.proofs.Common.{◌≡◌, ⊎_elim, ℕ, zero, suc, ◌+◌, ◌-◌, ◌<◌, ◌≤◌, min, cond, List, [], ◌∷◌, ◌++◌, map, length, refl, sym, ap, subst, ◌∙◌, arith, append_assoc, append-nil, lt_of_not-le, lt-ltb, length-take, take_all}
use Rattle.std.specs.Prelude.{Some, slice_get, take, Contains}
use Rattle.std.specs.List.{flat_map}
use Rattle.std.proofs.lemmas.Grind.{flat_map-append}
use Rattle.std.proofs.lemmas.Option.{none-some, same_Some}
use mathlib.Core.Option.{some, some-injective}
use mathlib.Core.Logic.{dite}
use native.Mathlib.Decide.{dec_le}
use lib.ListN.{get_elem?}
use Rattle.htss_defs.specs.declared.shape.Shape.{Shape}
use Rattle.htss_defs.specs.declared.history.Event.{Event}
use Rattle.htss_defs.specs.History.{HasEvent}
use Rattle.script_text.specs.declared.script.Group.{Group}
use Rattle.report_rules.specs.Answers.{Answer, answers_of, own_number}
use Rattle.report_rules.specs.Dealing.{Caller}
use Rattle.report_rules.specs.Rules.{Line}
use Rattle.report_rules.specs.Reports.{Done, done_lines}
use Rattle.board_core.specs.declared.account.Account.{Account}
use Rattle.board_core.specs.declared.account.Who.TheVariants.{Loader, Searcher}
use Rattle.board_core.specs.Each.{Each}
use Rattle.board_core.specs.Words.{Parts}
use Rattle.board_core.specs.Histories.{history_of, caller_of}
use Rattle.board_core.specs.Accounts.{caller_after}
use Rattle.board_core.specs.LogRule.{IsByLoader}
use Rattle.board_core.proofs.Lists.{inside, each_none, each_kept}
use Rattle.board_jobs.specs.Groups.{place_of, JobIsDone, AreDone, with_seen, HaveMet, AreGroupsDone, AreNew}
use Rattle.board_jobs.specs.Ends.{caller_at, HaveGoneOn, IsEnd}
use Rattle.board_jobs.proofs.Counted.{In, in_left, in_right, contains_in, rise_later, not_later}
use Rattle.board_jobs.proofs.Own.{own_in, Rises, still_rises, own_cases, own_before, has_all}

-- ---- the numbers of lines

-- those of the lines of jobs
abbrev pub line_numbers : List Done → List ℕ
line_numbers done = flat_map (λ line. own_number line.answer) (flat_map done_lines done)

line_numbers-append : (xs ys : List Done) → line_numbers (xs ++ ys) ≡ line_numbers xs ++ line_numbers ys
line_numbers-append xs ys =
    ap (flat_map (λ (line : Line). own_number line.answer)) (flat_map-append done_lines xs ys)
    ∙ flat_map-append (λ (line : Line). own_number line.answer) (flat_map done_lines xs) (flat_map done_lines ys)

answer_numbers : (group : ℕ) (caller : Caller) (answers : List Answer)
    → flat_map (λ (line : Line). own_number line.answer) (map (λ answer. record { group = group; caller = caller; answer = answer }) answers) ≡ flat_map own_number answers
answer_numbers group caller [] = refl
answer_numbers group caller (answer ∷ answers) = ap (λ l. own_number answer ++ l) (answer_numbers group caller answers)

one_numbers : (one : Done) → line_numbers (one ∷ []) ≡ flat_map own_number (answers_of one.answer)
one_numbers one = ap (flat_map (λ (line : Line). own_number line.answer)) (append-nil (done_lines one)) ∙ answer_numbers one.dealt.group one.dealt.caller (answers_of one.answer)

-- ---- what all accounts keep

-- the numbers of the account rise, and each is one of these
abbrev Fits : List ℕ → Account → Type 0
Fits ns a = Rises a × ((n : ℕ) → In n (own_in a) → In n ns)

fits_more : (xs ys : List ℕ) (a : Account) → Fits xs a → Fits (xs ++ ys) a
fits_more xs ys a f = (f.0, λ n m. in_left n xs ys (f.1 n m))

-- a job of the caller: its lines have the numbers that it adds
job_fits : (k : Shape) (before after : List Account) (one : Done) (so_far : List ℕ) → JobIsDone k before after one → Each (Fits so_far) before → Each (Fits (so_far ++ line_numbers (one ∷ []))) after
job_fits k before after one so_far job all =
    let answers = answers_of one.answer in
    let old : Fits so_far job.old = all (place_of k one.dealt.caller) job.old job.there in
    let new : Fits (so_far ++ line_numbers (one ∷ [])) job.new = (
      still_rises k one.dealt.caller job.old job.new answers job.answered old.0,
      λ n m. ⊎_elim
          (λ (t : In n (own_in job.old)). in_left n so_far (line_numbers (one ∷ [])) (old.1 n t))
          (λ (t : In n (flat_map own_number answers)). in_right n so_far (line_numbers (one ∷ [])) (subst (In n) (sym (one_numbers one)) t))
          (own_cases k one.dealt.caller job.old job.new answers job.answered n m),
    ) in
    subst (λ (l : List Account). Each (Fits (so_far ++ line_numbers (one ∷ []))) l) (sym job.after_is)
    (each_kept (Fits (so_far ++ line_numbers (one ∷ []))) before (place_of k one.dealt.caller) job.new new (λ j x there. fits_more so_far (line_numbers (one ∷ [])) x (all j x there)))

jobs_fit : (k : Shape) (before after : List Account) (done : List Done) (so_far : List ℕ) → AreDone k before after done → Each (Fits so_far) before → Each (Fits (so_far ++ line_numbers done)) after
jobs_fit k before after [] so_far same all = subst (λ (l : List Account). Each (Fits (so_far ++ [])) l) (sym same) (λ j x there. fits_more so_far [] x (all j x there))
jobs_fit k before after (one ∷ more) so_far t all =
    let is : (so_far ++ line_numbers (one ∷ [])) ++ line_numbers more ≡ so_far ++ line_numbers (one ∷ more) =
    append_assoc so_far (line_numbers (one ∷ [])) (line_numbers more) ∙ ap (λ l. so_far ++ l) (sym (line_numbers-append (one ∷ []) more)) in
    subst (λ ns. Each (Fits ns) after) is (jobs_fit k t.0 after more (so_far ++ line_numbers (one ∷ [])) t.2 (job_fits k before t.0 one so_far t.1 all))

each_map : (F : Account → Type 0) (f : Account → Account) (l : List Account) → Each (λ a. F (f a)) l → Each F (map f l)
each_map F f [] all j y e = each_none F j y e
each_map F f (x ∷ xs) all zero y e = subst F (some-injective (f x) y e) (all zero x refl)
each_map F f (x ∷ xs) all (suc j) y e = each_map F f xs (λ i. all (suc i)) j y e

met_fit : (before after : List Account) (front : ℕ) (ns : List ℕ) → HaveMet before after front → Each (Fits ns) before → Each (Fits ns) after
met_fit before after front ns met all = subst (λ (l : List Account). Each (Fits ns) l) (sym met.after_is)
    (each_map (Fits ns) (with_seen front) before (λ j a there.
    let most : a.log.seen ≤ front = met.most j a there in
    let f = all j a there in
    (rise_later 1 (own_in a) (a.log.seen + 1) (front + 1) (omega arith) f.0, f.1)))

-- and at the end all have seen the front
groups_fit : (k : Shape) (files : List (ℕ × List ℕ)) (budget number : ℕ) (groups : List Group) (before after : List Account) (front : ℕ) (done : List Done) (so_far : List ℕ)
    → AreGroupsDone k files budget number groups before after front done → Each (Fits so_far) before → Each (Fits (so_far ++ line_numbers done)) after × Each (λ a. a.log.seen ≡ front) after
groups_fit k files budget number [] before after front done so_far t all = (
  subst (λ (l : List Account). Each (Fits (so_far ++ line_numbers done)) l) (sym t.0) (λ j x there. fits_more so_far (line_numbers done) x (all j x there)),
  subst (λ (l : List Account). Each (λ a. a.log.seen ≡ front) l) (sym t.0) t.2,
)
groups_fit k files budget number (group ∷ groups) before after front done so_far (middle, met, first, rest, one, more, is) all =
    let then = met_fit one.between middle met (so_far ++ line_numbers first) one.met (jobs_fit k before one.between first so_far one.jobs all) in
    let last = groups_fit k files budget (number + 1) groups middle after front rest (so_far ++ line_numbers first) more then in
    let all_numbers : (so_far ++ line_numbers first) ++ line_numbers rest ≡ so_far ++ line_numbers done =
    append_assoc so_far (line_numbers first) (line_numbers rest) ∙ ap (λ l. so_far ++ l) (sym (line_numbers-append first rest) ∙ ap line_numbers (sym is)) in
    (subst (λ ns. Each (Fits ns) after) all_numbers last.0, last.1)

new_fit : (k : Shape) (before : List Account) → AreNew k before → Each (Fits []) before
new_fit k before new = λ j a there. subst (Fits []) (sym (new.1 j a there)) (omega arith, λ n m. m)

-- the accounts as all groups are done
groups_end : (k : Shape) (files : List (ℕ × List ℕ)) (budget : ℕ) (groups : List Group) (before middle : List Account) (front : ℕ) (done : List Done)
    → AreNew k before → AreGroupsDone k files budget 1 groups before middle front done → Each (Fits (line_numbers done)) middle × Each (λ a. a.log.seen ≡ front) middle
groups_end k files budget groups before middle front done new t = groups_fit k files budget 1 groups before middle front done [] t (new_fit k before new)

-- ---- the last accounts

there : {A : Type 0} (l : List A) (i : ℕ) → i < length l → (a : A) × (get_elem? l i ≡ some a)
there [] i lt = absurd (omega arith)
there (x ∷ xs) zero lt = (x, refl)
there (x ∷ xs) (suc i) lt = there xs i (omega arith)

event_there : (h : List Event) (i : ℕ) → i < length h → (e : Event) × (slice_get h i ≡ Some e)
event_there [] i lt = absurd (omega arith)
event_there (x ∷ xs) zero lt = (x, refl)
event_there (x ∷ xs) (suc i) lt = event_there xs i (omega arith)

by_place : (h : List Event) (i : ℕ) (e : Event) → slice_get h i ≡ Some e → get_elem? h i ≡ some e
by_place [] i e at = absurd (none-some e at)
by_place (x ∷ xs) zero e at = ap (λ (y : Event). some y) (same_Some x e at)
by_place (x ∷ xs) (suc i) e at = by_place xs i e at

loader_after : (k : Shape) (c : ℕ) → 0 < c → c ≤ k.loaders → caller_after k (c - 1) ≡ Loader c
loader_after k c above within =
    let back : c - 1 + 1 ≡ c = omega (arith, above) in
    ap (λ b. cond b (Loader (c - 1 + 1)) (Searcher (c - 1 + 1 - k.loaders))) (lt-ltb (c - 1) k.loaders (omega (arith, above, within))) ∙ ap (λ n. Loader n) back

-- each event's number is one of its loader's account
last_has : (k : Shape) (p : Parts) (last : List Account) → IsEnd k p last → (n : ℕ) (e : Event) → HasEvent (history_of k p) n e → (i : ℕ) × (a : Account) × (get_elem? last i ≡ some a) × In n (own_in a)
last_has k p last end n e has =
    let by : IsByLoader k e = end.loaders (n - 1) e (by_place (history_of k p) (n - 1) e has.1) in
    let count = end.count in
    let a = there last (caller_of e - 1) (omega (arith, count, by.0, by.1)) in
    let who : a.0.who ≡ Loader (caller_of e) = end.callers (caller_of e - 1) a.0 a.1 ∙ loader_after k (caller_of e) by.0 by.1 in
    (caller_of e - 1, a.0, a.1, has_all k (history_of k p) (caller_of e) a.0 who (end.stories (caller_of e - 1) a.0 a.1) n e has refl)

-- the account before it went on
first_of_two : (k : Shape) (middle last : List Account) → HaveGoneOn k middle last → (i : ℕ) (b : Account) → get_elem? last i ≡ some b → (a : Account) × (get_elem? middle i ≡ some a)
first_of_two k middle last on i b at = let count = on.count in let lt = inside last i b at in there middle i (omega (arith, count, lt))

-- ---- the laws

pub named : (k : Shape) (files : List (ℕ × List ℕ)) (budget : ℕ) (groups : List Group) (before middle last : List Account) (front : ℕ) (done : List Done) (p : Parts)
    → AreNew k before → AreGroupsDone k files budget 1 groups before middle front done → HaveGoneOn k middle last → IsEnd k p last
    → (number : ℕ) → 1 ≤ number → number ≤ length (take front (history_of k p)) → Contains (flat_map (λ line. own_number line.answer) (flat_map done_lines done)) number
named k files budget groups before middle last front done p new all_done on end number from until =
    let cut : length (take front (history_of k p)) ≡ min front (length (history_of k p)) = length-take front (history_of k p) in
    let was = groups_end k files budget groups before middle front done new all_done in
    let e = event_there (history_of k p) (number - 1) (omega (arith, from, until, cut)) in
    let found = last_has k p last end number e.0 (from, e.1) in
    let a = first_of_two k middle last on found.0 found.1 found.2 in
    let gone = on.each found.0 a.0 found.1 a.1 found.2 in
    let seen : a.0.log.seen ≡ front = was.1 found.0 a.0 a.1 in
    let old = own_before k (caller_at k found.0) a.0 found.1 gone.0 gone.1 number (omega (arith, seen, until, cut)) found.3 in
    contains_in number (line_numbers done) ((was.0 found.0 a.0 a.1).1 number old)

-- where nothing was done after the groups, all of the history was seen
pub whole : (k : Shape) (files : List (ℕ × List ℕ)) (budget : ℕ) (groups : List Group) (before middle last : List Account) (front : ℕ) (done : List Done) (p : Parts)
    → AreNew k before → AreGroupsDone k files budget 1 groups before middle front done → last ≡ middle → IsEnd k p last → take front (history_of k p) ≡ history_of k p
whole k files budget groups before middle last front done p new all_done same end =
    let was = groups_end k files budget groups before middle front done new all_done in
    dite (dec_le (length (history_of k p)) front)
    (λ within. take_all front (history_of k p) within)
    (λ beyond.
    let past : front < length (history_of k p) = lt_of_not-le beyond in
    let e = event_there (history_of k p) (length (history_of k p) - 1) (omega (arith, past)) in
    let end' = subst (IsEnd k p) same end in
    let rise : Each Rises middle = λ j a at. (was.0 j a at).0 in
    let found = last_has k p middle end' (length (history_of k p)) e.0 (omega (arith, past), e.1) in
    let seen : found.1.log.seen ≡ front = was.1 found.0 found.1 found.2 in
    let before_seen = not_later 1 (own_in found.1) (found.1.log.seen + 1) (rise found.0 found.1 found.2) (length (history_of k p)) found.3 in
    absurd (omega (arith, past, seen, before_seen)))
