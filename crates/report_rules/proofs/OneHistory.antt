-- A report of its own log has one history: the one that its lines tell.
use Rattle.std.proofs.Common.{◌≡◌, ◌⊎◌, inl, inr, ℕ, zero, suc, ◌+◌, ◌≤◌, List, [], ◌∷◌, ◌++◌, length, map, refl, sym, ap, ◌∙◌, subst, All, arith}
use Rattle.std.specs.Prelude.{Option, Some, None, Contains, slice_get, ◌==◌}
use Rattle.std.specs.List.{flat_map}
use Rattle.std.proofs.lemmas.Bool.{cases_Bool, cond-true, cond-false}
use Rattle.std.proofs.lemmas.Grind.{flat_map-append}
use Rattle.std.proofs.lemmas.List.Concat.{flat_map-cons}
use Rattle.std.proofs.lemmas.List.Elements.{All-head, All-tail, Contains-append_cases}
use Rattle.htss_defs.specs.Molecule.{Molecule}
use Rattle.htss_defs.specs.declared.history.Event.{Event}
use Rattle.htss_defs.specs.declared.history.Event.TheVariants.{Publish, Withdraw}
use Rattle.htss_defs.specs.declared.shape.Shape.{Shape}
use Rattle.htss_defs.specs.History.{HasEvent}
use Rattle.mol_section.specs.SectionRecord.{Outcome}
use Rattle.ctfile.specs.RecordList.{IsRecordList}
use Rattle.ctfile.proofs.OneList.{one_record_list}
use Rattle.script_text.specs.declared.script.Order.{Order}
use Rattle.script_text.specs.declared.script.Order.TheVariants as order
use Rattle.script_text.specs.FilesByLine.{bytes_at}
use Rattle.report_text.specs.declared.report.WithdrawLine.{WithdrawLine}
use Rattle.report_text.specs.declared.report.WithdrawLine.TheVariants.{At, Unknown, Gone, LogFull as NoEntry}
use Rattle.report_rules.specs.Answers.{published, no_room, no_page, chain_full, log_full, RecordAnswer, not_accepted, taken, JobAnswer, loaded, withdrew, searched}
use Rattle.report_rules.specs.Answers.{SearchAnswer, not_read, hits_at, over_at, record_line, record_lines, outcome_of, own_number, to_record, to_withdrawal, to_search}
use Rattle.report_rules.specs.Dealing.{Dealt}
use Rattle.report_rules.specs.Rules.{Line, KeepsRule, caller_number}
use Rattle.report_rules.specs.Reports.{Done, done_block, done_lines, log_line, IsByItsFile, IsAnswerTo}
use Rattle.report_rules.specs.Faults.{naming, namings, first_molecule, molecule_named, told_from, IsBlockFor, IsNamedIn, AreNamed}

-- ---- what the lines of a job name

abbrev pub own_naming : RecordAnswer → List (ℕ × Molecule)
own_naming (taken one (published number)) = (number, one.mol) ∷ []
own_naming (taken one (no_room left need)) = []
own_naming (taken one no_page) = []
own_naming (taken one (chain_full pages)) = []
own_naming (taken one (log_full front)) = []
own_naming (not_accepted line code) = []

abbrev pub job_naming : JobAnswer → List (ℕ × Molecule)
job_naming (loaded file answers) = flat_map own_naming answers
job_naming (withdrew number answer) = []
job_naming (searched file answer) = []

one_naming : (place : ℕ) (answer : RecordAnswer) → naming (first_molecule (outcome_of answer ∷ [])) (record_line place answer) ≡ own_naming answer
one_naming place (not_accepted line code) = refl
one_naming place (taken one (published number)) = refl
one_naming place (taken one (no_room left need)) = refl
one_naming place (taken one no_page) = refl
one_naming place (taken one (chain_full pages)) = refl
one_naming place (taken one (log_full front)) = refl

first_of : (answer : RecordAnswer) (more : List Outcome) → first_molecule (outcome_of answer ∷ more) ≡ first_molecule (outcome_of answer ∷ [])
first_of (not_accepted line code) more = refl
first_of (taken one fate) more = refl

namings_are : (place : ℕ) (answers : List RecordAnswer) → namings (map outcome_of answers) (record_lines place answers) ≡ flat_map own_naming answers
namings_are place [] = refl
namings_are place (answer ∷ answers) =
    ap (λ m. naming m (record_line place answer) ++ namings (map outcome_of answers) (record_lines (place + 1) answers)) (first_of answer (map outcome_of answers))
    ∙ ap (λ l. l ++ namings (map outcome_of answers) (record_lines (place + 1) answers)) (one_naming place answer)
    ∙ ap (λ l. own_naming answer ++ l) (namings_are (place + 1) answers)
    ∙ sym (flat_map-cons own_naming answer answers)

-- the block that stands at the job's place is the job's
block_for : (bytes : Option (List ℕ)) (budget line : ℕ) (asks : Order) (file : List ℕ) (answers : List RecordAnswer) → IsAnswerTo bytes budget asks (loaded file answers)
    → (there : List ℕ) × (bytes ≡ Some there) × IsRecordList there (map outcome_of answers) × ((d : Done) → d.dealt.job.line ≡ line → d.dealt.job.order ≡ asks → d.answer ≡ loaded file answers → IsBlockFor line asks (done_block d))
block_for (Some bytes) budget line (order.Load named) file answers is = (bytes, refl, is.1, λ d at asks answer. rw (answer, at) (refl, is.0))
block_for (Some bytes) budget line (order.Withdraw number) file answers is = absurd is
block_for (Some bytes) budget line (order.Search named own) file answers is = absurd is
block_for None budget line (order.Load named) file answers is = absurd is
block_for None budget line (order.Withdraw number) file answers is = absurd is
block_for None budget line (order.Search named own) file answers is = absurd is

some_same : {X : Type 0} (x y : X) → Some x ≡ Some y → x ≡ y
some_same x y same = cc

named_in : (files : List (ℕ × List ℕ)) (budget : ℕ) (one : Dealt) (answer : JobAnswer) (named : List (ℕ × Molecule)) → IsByItsFile files budget (record { dealt = one; answer = answer })
    → IsNamedIn files one (done_block (record { dealt = one; answer = answer })) named → named ≡ job_naming answer
named_in files budget one (loaded file answers) named by (inl (mine, bytes, outcomes, there, are, is)) =
    let (own, has, list, rest) = block_for (bytes_at files one.job.line) budget one.job.line one.job.order file answers by in
    let same : bytes ≡ own = some_same bytes own (sym there ∙ has) in
    let outs : outcomes ≡ map outcome_of answers = one_record_list own outcomes (map outcome_of answers) (subst (λ b. IsRecordList b outcomes) same are) list in
    is ∙ ap (λ o. namings o (record_lines 1 answers)) outs ∙ namings_are 1 answers
named_in files budget one (loaded file answers) named by (inr (not, is)) =
    let (own, has, list, rest) = block_for (bytes_at files one.job.line) budget one.job.line one.job.order file answers by in
    absurd (not (rest (record { dealt = one; answer = loaded file answers }) refl refl refl))
named_in files budget one (withdrew number answer) named by is = is
named_in files budget one (searched file answer) named by is = is

pub are_named : (files : List (ℕ × List ℕ)) (budget : ℕ) (done : List Done) (named : List (ℕ × Molecule)) → All (IsByItsFile files budget) done
    → AreNamed files (map (λ one. one.dealt) done) (map done_block done) named → named ≡ flat_map (λ one. job_naming one.answer) done
are_named files budget [] named by is = is
are_named files budget (one ∷ done) named by (first, rest, is, here, more) =
    let now = named_in files budget one.dealt one.answer first (All-head (IsByItsFile files budget) one done by) here in
    let then = are_named files budget done rest (All-tail (IsByItsFile files budget) one done by) more in
    is ∙ ap (λ l. l ++ rest) now ∙ ap (λ l. job_naming one.answer ++ l) then ∙ sym (flat_map-cons (λ one. job_naming one.answer) one done)

-- ---- lines that keep their rules name the molecules of the history

-- the line keeps its rule after some lines
abbrev pub KeepsSomewhere : Shape → List Event → Line → Type 0
KeepsSomewhere shape history line = (earlier : List Line) × KeepsRule shape history earlier line

abbrev pub EachKeeps : Shape → List Event → List Line → Type 0
EachKeeps shape history [] = Unit {0}
EachKeeps shape history (line ∷ lines) = KeepsSomewhere shape history line × EachKeeps shape history lines

append_one : {X : Type 0} (xs : List X) (x : X) (ys : List X) → (xs ++ x ∷ []) ++ ys ≡ xs ++ x ∷ ys
append_one [] x ys = refl
append_one (z ∷ xs) x ys = ap (λ l. z ∷ l) (append_one xs x ys)

pub each_keeps : (shape : Shape) (history : List Event) (before lines : List Line)
    → ((earlier later : List Line) (line : Line) → before ++ lines ≡ earlier ++ line ∷ later → KeepsRule shape history earlier line) → EachKeeps shape history lines
each_keeps shape history before [] rules = tt
each_keeps shape history before (line ∷ lines) rules = (
  (before, rules before lines line refl),
  each_keeps shape history (before ++ line ∷ []) lines (λ earlier later one same. rules earlier later one (sym (append_one before line lines) ∙ same)),
)

pub each_both : (shape : Shape) (history : List Event) (xs ys : List Line) → EachKeeps shape history (xs ++ ys) → EachKeeps shape history xs × EachKeeps shape history ys
each_both shape history [] ys each = (tt, each)
each_both shape history (x ∷ xs) ys (here, more) = let rest = each_both shape history xs ys more in ((here, rest.0), rest.1)

-- the history has a publication of this molecule
abbrev pub IsTrueNaming : List Event → ℕ × Molecule → Type 0
IsTrueNaming history (number, mol) = (caller : ℕ) × (name : List ℕ) × HasEvent history number (Publish caller name mol)

abbrev pub AreTrueNamings : List Event → List (ℕ × Molecule) → Type 0
AreTrueNamings history [] = Unit {0}
AreTrueNamings history (one ∷ named) = IsTrueNaming history one × AreTrueNamings history named

true_both : (history : List Event) (xs ys : List (ℕ × Molecule)) → AreTrueNamings history xs → AreTrueNamings history ys → AreTrueNamings history (xs ++ ys)
true_both history [] ys first second = second
true_both history (x ∷ xs) ys (here, more) second = (here, true_both history xs ys more second)

abbrev pub placed : Dealt → RecordAnswer → Line
placed one answer = record { group = one.group; caller = one.caller; answer = to_record answer }

true_one : (shape : Shape) (history : List Event) (one : Dealt) (answer : RecordAnswer) → KeepsSomewhere shape history (placed one answer) → AreTrueNamings history (own_naming answer)
true_one shape history one (not_accepted line code) keeps = tt
true_one shape history one (taken mol (published number)) (earlier, keeps) = ((caller_number one.caller, mol.name, keeps.0), tt)
true_one shape history one (taken mol (no_room left need)) keeps = tt
true_one shape history one (taken mol no_page) keeps = tt
true_one shape history one (taken mol (chain_full pages)) keeps = tt
true_one shape history one (taken mol (log_full front)) keeps = tt

true_all : (shape : Shape) (history : List Event) (one : Dealt) (answers : List RecordAnswer) → EachKeeps shape history (map (λ a. record { group = one.group; caller = one.caller; answer = a }) (map to_record answers))
    → AreTrueNamings history (flat_map own_naming answers)
true_all shape history one [] each = tt
true_all shape history one (answer ∷ answers) (here, more) =
    subst (AreTrueNamings history) (sym (flat_map-cons own_naming answer answers))
    (true_both history (own_naming answer) (flat_map own_naming answers) (true_one shape history one answer here) (true_all shape history one answers more))

true_job : (shape : Shape) (history : List Event) (one : Dealt) (answer : JobAnswer) → EachKeeps shape history (done_lines (record { dealt = one; answer = answer })) → AreTrueNamings history (job_naming answer)
true_job shape history one (loaded file answers) each = true_all shape history one answers each
true_job shape history one (withdrew number answer) each = tt
true_job shape history one (searched file answer) each = tt

pub all_true : (shape : Shape) (history : List Event) (done : List Done) → EachKeeps shape history (flat_map done_lines done) → AreTrueNamings history (flat_map (λ one. job_naming one.answer) done)
all_true shape history [] each = tt
all_true shape history (one ∷ done) each =
    let both = each_both shape history (done_lines one) (flat_map done_lines done) (subst (EachKeeps shape history) (flat_map-cons done_lines one done) each) in
    subst (AreTrueNamings history) (sym (flat_map-cons (λ (d : Done). job_naming d.answer) one done))
    (true_both history (job_naming one.answer) (flat_map (λ d. job_naming d.answer) done) (true_job shape history one.dealt one.answer both.0) (all_true shape history done both.1))

-- ---- each publication is named

abbrev pub IsNamed : List (ℕ × Molecule) → ℕ → Type 0
IsNamed [] number = ⊥
IsNamed (one ∷ named) number = (number ≡ one.0) ⊎ IsNamed named number

named_left : (xs ys : List (ℕ × Molecule)) (number : ℕ) → IsNamed xs number → IsNamed (xs ++ ys) number
named_left [] ys number is = absurd is
named_left (x ∷ xs) ys number (inl here) = inl here
named_left (x ∷ xs) ys number (inr more) = inr (named_left xs ys number more)

named_right : (xs ys : List (ℕ × Molecule)) (number : ℕ) → IsNamed ys number → IsNamed (xs ++ ys) number
named_right [] ys number is = is
named_right (x ∷ xs) ys number is = inr (named_right xs ys number is)

contains_none : (number : ℕ) → Contains [] number → ⊥
contains_none number (k, within, at) = absurd (omega arith)

contains_one : (own number : ℕ) → Contains (own ∷ []) number → number ≡ own
contains_one own number (zero, within, at) = sym at
contains_one own number (suc k, within, at) = absurd (omega arith)

abbrev pub own_of : Line → List ℕ
own_of line = own_number line.answer

-- the event is a publication
abbrev pub IsPublication : List Event → ℕ → Type 0
IsPublication history number = (caller : ℕ) × (name : List ℕ) × (mol : Molecule) × HasEvent history number (Publish caller name mol)

no_both : (history : List Event) (number : ℕ) (caller : ℕ) (target : ℕ) → IsPublication history number → HasEvent history number (Withdraw caller target) → ⊥
no_both history number caller target (by, name, mol, is) has =
    let same : Publish by name mol ≡ Withdraw caller target = some_same _ _ (sym is.1 ∙ has.1) in
    absurd cc

named_one : (answer : RecordAnswer) (number : ℕ) → Contains (own_number (to_record answer)) number → IsNamed (own_naming answer) number
named_one (not_accepted line code) number has = contains_none number has
named_one (taken mol (published own)) number has = inl (contains_one own number has)
named_one (taken mol (no_room left need)) number has = contains_none number has
named_one (taken mol no_page) number has = contains_none number has
named_one (taken mol (chain_full pages)) number has = contains_none number has
named_one (taken mol (log_full front)) number has = contains_none number has

named_all : (one : Dealt) (answers : List RecordAnswer) (number : ℕ) → Contains (flat_map own_of (map (λ a. record { group = one.group; caller = one.caller; answer = a }) (map to_record answers))) number
    → IsNamed (flat_map own_naming answers) number
named_all one [] number has = contains_none number has
named_all one (answer ∷ answers) number has =
    let rest : List Line = map (λ a. record { group = one.group; caller = one.caller; answer = a }) (map to_record answers) in
    let split = Contains-append_cases (own_number (to_record answer)) (flat_map own_of rest) number
    (subst (λ l. Contains l number) (flat_map-cons own_of (placed one answer) rest) has) in
    subst (λ l. IsNamed l number) (sym (flat_map-cons own_naming answer answers)) (elim split [
      | inl here ↦ named_left (own_naming answer) (flat_map own_naming answers) number (named_one answer number here)
      | inr more ↦ named_right (own_naming answer) (flat_map own_naming answers) number (named_all one answers number more)
    ])

named_withdrawal : (shape : Shape) (history : List Event) (one : Dealt) (asked number : ℕ) (answer : WithdrawLine) → IsPublication history number
    → KeepsSomewhere shape history (record { group = one.group; caller = one.caller; answer = to_withdrawal asked answer })
    → Contains (own_number (to_withdrawal asked answer)) number → ⊥
named_withdrawal shape history one asked number (At event) event_is (earlier, keeps) has =
    let same = contains_one event number has in
    no_both history number (caller_number one.caller) asked event_is (subst (λ n. HasEvent history n (Withdraw (caller_number one.caller) asked)) (sym same) keeps.0)
named_withdrawal shape history one asked number (Unknown front) event_is keeps has = contains_none number has
named_withdrawal shape history one asked number (Gone at) event_is keeps has = contains_none number has
named_withdrawal shape history one asked number (NoEntry front) event_is keeps has = contains_none number has

single : (line : Line) (number : ℕ) → Contains (flat_map own_of (line ∷ [])) number → Contains (own_number line.answer) number
single line number has = elim (Contains-append_cases (own_of line) (flat_map own_of []) number (subst (λ l. Contains l number) (flat_map-cons own_of line []) has)) [
  | inl here ↦ here
  | inr more ↦ absurd (contains_none number more)
]

search_names : (answer : SearchAnswer) (number : ℕ) → Contains (own_number (to_search answer)) number → ⊥
search_names (not_read line code) number has = contains_none number has
search_names (hits_at asked budget front hits rows records) number has = contains_none number has
search_names (over_at asked budget front) number has = contains_none number has

named_job : (shape : Shape) (history : List Event) (one : Dealt) (answer : JobAnswer) (number : ℕ) → IsPublication history number
    → EachKeeps shape history (done_lines (record { dealt = one; answer = answer })) → Contains (flat_map own_of (done_lines (record { dealt = one; answer = answer }))) number
    → IsNamed (job_naming answer) number
named_job shape history one (loaded file answers) number event_is each has = named_all one answers number has
named_job shape history one (withdrew asked answer) number event_is each has =
    absurd (named_withdrawal shape history one asked number answer event_is each.0 (single (record { group = one.group; caller = one.caller; answer = to_withdrawal asked answer }) number has))
named_job shape history one (searched file answer) number event_is each has = absurd (search_names answer number (single (record { group = one.group; caller = one.caller; answer = to_search answer }) number has))

pub all_named : (shape : Shape) (history : List Event) (done : List Done) (number : ℕ) → IsPublication history number → EachKeeps shape history (flat_map done_lines done)
    → Contains (flat_map own_of (flat_map done_lines done)) number → IsNamed (flat_map (λ one. job_naming one.answer) done) number
all_named shape history [] number event_is each has = contains_none number has
all_named shape history (one ∷ done) number event_is each has =
    let lines = flat_map-cons done_lines one done in
    let both = each_both shape history (done_lines one) (flat_map done_lines done) (subst (EachKeeps shape history) lines each) in
    let split = Contains-append_cases (flat_map own_of (done_lines one)) (flat_map own_of (flat_map done_lines done)) number
    (subst (λ l. Contains l number) (ap (flat_map own_of) lines ∙ flat_map-append own_of (done_lines one) (flat_map done_lines done)) has) in
    subst (λ l. IsNamed l number) (sym (flat_map-cons (λ (d : Done). job_naming d.answer) one done)) (elim split [
      | inl here ↦ named_left (job_naming one.answer) (flat_map (λ d. job_naming d.answer) done) number (named_job shape history one.dealt one.answer number event_is both.0 here)
      | inr more ↦ named_right (job_naming one.answer) (flat_map (λ d. job_naming d.answer) done) number (all_named shape history done number event_is both.1 more)
    ])

-- ---- the history

right_molecule : (history : List Event) (named : List (ℕ × Molecule)) (number caller : ℕ) (name : List ℕ) (mol : Molecule) → HasEvent history number (Publish caller name mol)
    → AreTrueNamings history named → IsNamed named number → molecule_named named number ≡ mol
right_molecule history [] number caller name mol has true_ones is = absurd is
right_molecule history (one ∷ named) number caller name mol has ((by, called, there), more) is = elim (cases_Bool (number == one.0)) [
  | inl equal ↦ (
      let same : number ≡ one.0 = grind arith in
      let also : HasEvent history number (Publish by called one.1) = subst (λ n. HasEvent history n (Publish by called one.1)) (sym same) there in
      let events : Publish by called one.1 ≡ Publish caller name mol = some_same _ _ (sym also.1 ∙ has.1) in
      let mols : one.1 ≡ mol = cc in
      cond-true (number == one.0) one.1 (molecule_named named number) equal ∙ mols)
  | inr other ↦ (
      let rest : IsNamed named number = elim is [
        | inl same ↦ absurd (grind (arith, same, other))
        | inr later ↦ later
      ] in
      cond-false (number == one.0) one.1 (molecule_named named number) other ∙ right_molecule history named number caller name mol has more rest)
]

told_same : (named : List (ℕ × Molecule)) (first : ℕ) (events : List Event)
    → ((i caller : ℕ) (name : List ℕ) (mol : Molecule) → slice_get events i ≡ Some (Publish caller name mol) → molecule_named named (first + i) ≡ mol) → told_from named first (map log_line events) ≡ events
told_same named first [] right = refl
told_same named first (Publish caller name mol ∷ events) right =
    let here : molecule_named named first ≡ mol = subst (λ n. molecule_named named n ≡ mol) (omega arith) (right 0 caller name mol refl) in
    let rest = told_same named (first + 1) events (λ i by called other at. subst (λ n. molecule_named named n ≡ other) (omega arith) (right (suc i) by called other at)) in
    cc (here, rest)
told_same named first (Withdraw caller number ∷ events) right =
    let rest = told_same named (first + 1) events (λ i by called other at. subst (λ n. molecule_named named n ≡ other) (omega arith) (right (suc i) by called other at)) in
    cc rest

within_list : (history : List Event) (i : ℕ) (event : Event) → slice_get history i ≡ Some event → i + 1 ≤ length history
within_list [] i event at = absurd cc
within_list (e ∷ history) zero event at = omega arith
within_list (e ∷ history) (suc i) event at = omega (arith, within_list history i event at)

-- the history that the lines tell is that of a report whose lines keep their rules and name each event
pub one_history : (shape : Shape) (files : List (ℕ × List ℕ)) (budget : ℕ) (history : List Event) (done : List Done) (named : List (ℕ × Molecule))
    → All (IsByItsFile files budget) done
    → ((earlier later : List Line) (line : Line) → flat_map done_lines done ≡ earlier ++ line ∷ later → KeepsRule shape history earlier line)
    → ((number : ℕ) → 1 ≤ number → number ≤ length history → Contains (flat_map own_of (flat_map done_lines done)) number)
    → AreNamed files (map (λ one. one.dealt) done) (map done_block done) named → told_from named 1 (map log_line history) ≡ history
one_history shape files budget history done named by rules all are =
    let each = each_keeps shape history [] (flat_map done_lines done) rules in
    let is = are_named files budget done named by are in
    let trues : AreTrueNamings history named = subst (AreTrueNamings history) (sym is) (all_true shape history done each) in
    told_same named 1 history (λ i caller name mol at.
    let within = within_list history i (Publish caller name mol) at in
    let has : HasEvent history (1 + i) (Publish caller name mol) = (omega arith, subst (λ n. slice_get history n ≡ Some (Publish caller name mol)) (omega arith) at) in
    let known : IsNamed named (1 + i) = subst (λ l. IsNamed l (1 + i)) (sym is) (all_named shape history done (1 + i) (caller, name, mol, has) each (all (1 + i) (omega arith) (omega (arith, within)))) in
    right_molecule history named (1 + i) caller name mol has trues known)
