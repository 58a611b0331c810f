-- One more line of a load.
use Rattle.std.proofs.Common.{◌≡◌, ◌⊎◌, inl, inr, ℕ, zero, suc, ◌+◌, ◌<◌, ◌≤◌, List, [], ◌∷◌, ◌++◌, append_assoc, append-nil, length, map, take, refl, sym, ap, subst, ◌∙◌, arith}
use Rattle.std.specs.Prelude.{Some, None, option_map, slice_get}
use Rattle.std.proofs.lemmas.List.{length_push, map-append}
use Rattle.std.proofs.lemmas.Option.{slice_get-map, slice_get_past}
use Rattle.mol_section.specs.SectionRecord.{Outcome}
use Rattle.ctfile.specs.RecordList.{IsRecordList}
use Rattle.script_text.specs.FilesByLine.{bytes_at}
use Rattle.report_text.specs.declared.report.LoadLine.{LoadLine}
use Rattle.report_rules.specs.Answers.{Answer, to_record, to_search, to_withdrawal, Fate, published, no_room, no_page, chain_full, log_full, RecordAnswer, not_accepted, taken, outcome_of, own_number, record_line, record_lines}
use Rattle.report_text.specs.declared.report.WithdrawLine.{WithdrawLine}
use Rattle.report_text.specs.declared.report.WithdrawLine.TheVariants.{At, Unknown, Gone, LogFull as NoEntry}
use Rattle.htss_defs.specs.declared.history.Event.TheVariants.{Publish, Withdraw}
use Rattle.reg_model.proofs.Events.{event-within}
use Rattle.report_rules.specs.Dealing.{Caller, Dealt}
use Rattle.report_rules.specs.Faults.{IsLoadFault, Setting, answer_line, keeps}
use Rattle.report_rules.specs.Rules.{Line, caller_number}
use Rattle.told_history.specs.declared.records.RecordRead.{RecordRead}
use Rattle.report_audit.specs.declared.so_far.SoFar.{SoFar}
use Rattle.report_audit.specs.declared.tally.Caller as code
use Rattle.told_history.specs.declared.told.Told.{Told}
use Rattle.report_audit.specs.BlockChecks.{AreLoaded, HasLoaded}
use Rattle.report_audit.specs.LineChecks.{IsNextOf}
use Rattle.told_history.specs.Reads as reads
use Rattle.report_audit.specs.SoFars.{IsSoFar}
use Rattle.report_audit.specs.Tallied.{most, owns}
use Rattle.report_audit.proofs.Carrying.{most_none, most_one}

pub some_same : {X : Type 0} (x y : X) → Some x ≡ Some y → x ≡ y
some_same x y same = cc

pub some_none : {X : Type 0} (x : X) → None ≡ Some x → ⊥
some_none x same = absurd cc

-- ---- lists

no_split : {X : Type 0} (first : List X) (x : X) (rest : List X) → [] ≡ first ++ x ∷ rest → ⊥
no_split [] x rest same = absurd cc
no_split (one ∷ first) x rest same = absurd cc

pub split_last : {X : Type 0} (xs : List X) (x : X) (first : List X) (y : X) (rest : List X) → xs ++ x ∷ [] ≡ first ++ y ∷ rest
    → ((more : List X) × (xs ≡ first ++ y ∷ more)) ⊎ ((xs ≡ first) × (x ≡ y))
split_last [] x [] y rest same = inr (refl, cc)
split_last [] x (one ∷ first) y rest same =
    let left : [] ≡ first ++ y ∷ rest = cc in
    absurd (no_split first y rest left)
split_last {X = X} (a ∷ xs) x [] y rest same =
    let here : a ≡ y = cc in
    inl (xs, ap (λ (z : X). z ∷ xs) here)
split_last (a ∷ xs) x (one ∷ first) y rest same =
    let here : a ≡ one = cc in
    let left : xs ++ x ∷ [] ≡ first ++ y ∷ rest = cc in
    elim (split_last xs x first y rest left) [
      | inl (more, is) ↦ inl (more, cc (here, is))
      | inr (is, last) ↦ inr (cc (here, is), last)
    ]

pub take_get : {X : Type 0} (xs : List X) (n : ℕ) (x : X) → slice_get xs n ≡ Some x → take (n + 1) xs ≡ take n xs ++ x ∷ []
take_get [] n x at = absurd cc
take_get {X = X} (y ∷ xs) zero x at =
    let here : y ≡ x = cc in
    ap (λ (z : X). z ∷ []) here
take_get {X = X} (y ∷ xs) (suc n) x at =
    let e : suc n + 1 ≡ suc (n + 1) = omega arith in
    ap (λ (k : ℕ). take k (y ∷ xs)) e ∙ ap (λ (l : List X). y ∷ l) (take_get xs n x at)

lines_push : (place : ℕ) (answers : List RecordAnswer) (answer : RecordAnswer) → record_lines place (answers ++ answer ∷ []) ≡ record_lines place answers ++ record_line (place + length answers) answer ∷ []
lines_push place [] answer =
    let e : place ≡ place + 0 = omega arith in
    ap (λ (n : ℕ). record_line n answer ∷ []) e
lines_push place (one ∷ answers) answer =
    let e : place + 1 + length answers ≡ place + length (one ∷ answers) = omega arith in
    ap (λ (l : List LoadLine). record_line place one ∷ l)
    (lines_push (place + 1) answers answer ∙ ap (λ (n : ℕ). record_lines (place + 1) answers ++ record_line n answer ∷ []) e)

-- ---- no line, and one more

loaded_none : (s : Setting) (earlier : List Line) (one : Dealt) (outcomes : List Outcome) (lines : List LoadLine) → AreLoaded s earlier one outcomes lines []
loaded_none s earlier one outcomes lines = record {
  records = refl;
  lines_are = refl;
  rules = λ first answer rest same. absurd (no_split first answer rest same);
}

loaded_more : (s : Setting) (earlier : List Line) (one : Dealt) (outcomes : List Outcome) (lines : List LoadLine) (before : List RecordAnswer) (answer : RecordAnswer) → AreLoaded s earlier one outcomes lines before
    → slice_get outcomes (length before) ≡ Some (outcome_of answer) → slice_get lines (length before) ≡ Some (record_line (length before + 1) answer)
    → keeps s (earlier ++ map (answer_line one) before) (answer_line one answer) → AreLoaded s earlier one outcomes lines (before ++ answer ∷ [])
loaded_more s earlier one outcomes lines before answer are record_at line_at rule =
    let next : 1 + length before ≡ length before + 1 = omega arith in
    record {
      records = map-append outcome_of before (answer ∷ []) ∙ ap (λ (l : List Outcome). l ++ outcome_of answer ∷ []) are.records ∙ sym (take_get outcomes (length before) (outcome_of answer) record_at)
          ∙ ap (λ (n : ℕ). take n outcomes) (sym (length_push before answer));
      lines_are = lines_push 1 before answer ∙ ap (λ (n : ℕ). record_lines 1 before ++ record_line n answer ∷ []) next ∙ ap (λ (l : List LoadLine). l ++ record_line (length before + 1) answer ∷ []) are.lines_are
          ∙ sym (take_get lines (length before) (record_line (length before + 1) answer) line_at) ∙ ap (λ (n : ℕ). take n lines) (sym (length_push before answer));
      rules = λ first other rest same. elim (split_last before answer first other rest same) [
        | inl (more, is) ↦ are.rules first other more is
        | inr (is, last) ↦ subst (λ (a : RecordAnswer). keeps s (earlier ++ map (answer_line one) first) (answer_line one a)) last
            (subst (λ (l : List RecordAnswer). keeps s (earlier ++ map (answer_line one) l) (answer_line one answer)) is rule)
      ];
    }

pub has_loaded_none : (told : Told) (so_far : SoFar) (caller : code.Caller) (s : Setting) (earlier : List Line) (one : Dealt) (outcomes : List Outcome) (lines : List LoadLine)
    → IsNextOf told so_far caller s earlier one → HasLoaded told so_far caller s earlier one outcomes lines 0
has_loaded_none told so_far caller s earlier one outcomes lines next = record {
  before = [];
  count_is = refl;
  loaded = loaded_none s earlier one outcomes lines;
  next = subst (λ (l : List Line). IsNextOf told so_far caller s l one) (sym (append-nil earlier)) next;
}

pub has_loaded_more : (told : Told) (old new : SoFar) (caller : code.Caller) (s : Setting) (earlier : List Line) (one : Dealt) (outcomes : List Outcome) (lines : List LoadLine) (count : ℕ) (answer : RecordAnswer)
    → (has : HasLoaded told old caller s earlier one outcomes lines count) → slice_get outcomes count ≡ Some (outcome_of answer) → slice_get lines count ≡ Some (record_line (count + 1) answer)
    → keeps s (earlier ++ map (answer_line one) has.before) (answer_line one answer) → IsNextOf told new caller s ((earlier ++ map (answer_line one) has.before) ++ answer_line one answer ∷ []) one
    → HasLoaded told new caller s earlier one outcomes lines (count + 1)
has_loaded_more told old new caller s earlier one outcomes lines count answer has record_at line_at rule next =
    let front = map (answer_line one) has.before in
    record {
      before = has.before ++ answer ∷ [];
      count_is = length_push has.before answer ∙ ap (λ (n : ℕ). n + 1) has.count_is;
      loaded = loaded_more s earlier one outcomes lines has.before answer has.loaded
          (subst (λ (n : ℕ). slice_get outcomes n ≡ Some (outcome_of answer)) (sym has.count_is) record_at)
          (subst (λ (n : ℕ). slice_get lines n ≡ Some (record_line (n + 1) answer)) (sym has.count_is) line_at) rule;
      next = subst (λ (l : List Line). IsNextOf told new caller s l one)
          (append_assoc earlier front (answer_line one answer ∷ []) ∙ ap (λ (l : List Line). earlier ++ l) (sym (map-append (answer_line one) has.before (answer ∷ [])))) next;
    }

-- ---- a line that is noted

-- the event that a line names is one of the history
pub own_within : (s : Setting) (earlier : List Line) (group : ℕ) (caller : Caller) (answer : Answer) → keeps s earlier (record { group = group; caller = caller; answer = answer }) → most (own_number answer) ≤ length s.history
own_within s earlier group caller (to_record (taken one (published number))) is =
    let within = event-within s.history number (Publish (caller_number caller) one.name one.mol) is.rule.0 in
    omega (arith, within, most_one number)
own_within s earlier group caller (to_withdrawal number (At event)) is =
    let within = event-within s.history event (Withdraw (caller_number caller) number) is.rule.0 in
    omega (arith, within, most_one event)
own_within s earlier group caller _ is = omega (arith, most_none)

pub next_noted : (told : Told) (old new : SoFar) (caller : code.Caller) (s : Setting) (earlier more : List Line) (one : Dealt) → IsNextOf told old caller s earlier one
    → IsSoFar more new → new.tally.group ≡ old.tally.group → length new.taken.items ≡ length old.taken.items → IsNextOf told new caller s more one
next_noted told old new caller s earlier more one next lines group long = record {
  events_are = next.events_are;
  tells = next.tells;
  lines = lines;
  long = long ∙ next.long;
  caller_is = next.caller_is;
  group_is = next.group_is ∙ sym group;
}

-- ---- the first line at fault

pub load_fault : (told : Told) (so_far : SoFar) (caller : code.Caller) (s : Setting) (earlier : List Line) (one : Dealt) (outcomes : List Outcome) (lines : List LoadLine) (count at : ℕ) (bytes : List ℕ)
    → (has : HasLoaded told so_far caller s earlier one outcomes lines count) → bytes_at s.files at ≡ Some bytes → IsRecordList bytes outcomes → (count < length lines) ⊎ (count < length outcomes)
    → ((answer : RecordAnswer) → slice_get outcomes count ≡ Some (outcome_of answer) → slice_get lines count ≡ Some (record_line (count + 1) answer)
    → keeps s (earlier ++ map (answer_line one) has.before) (answer_line one answer) → ⊥)
    → IsLoadFault s earlier one at lines (count + 1)
load_fault told so_far caller s earlier one outcomes lines count at bytes has there are due here = record {
  bytes = bytes;
  there = there;
  outcomes = outcomes;
  are = are;
  before = has.before;
  offset_is = ap (λ (n : ℕ). n + 1) (sym has.count_is);
  due = subst (λ (n : ℕ). (n < length lines) ⊎ (n < length outcomes)) (sym has.count_is) due;
  records = has.loaded.records;
  lines_are = has.loaded.lines_are;
  rules = has.loaded.rules;
  here = subst (λ (n : ℕ). (answer : RecordAnswer) → slice_get outcomes n ≡ Some (outcome_of answer) → slice_get lines n ≡ Some (record_line (n + 1) answer)
      → keeps s (earlier ++ map (answer_line one) has.before) (answer_line one answer) → ⊥) (sym has.count_is) here;
}
