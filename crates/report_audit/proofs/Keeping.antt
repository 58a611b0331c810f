-- A line keeps its rule.
use Rattle.std.proofs.Common.{◌≡◌, ℕ, ◌+◌, ◌<◌, ◌≤◌, Bool, true, false, List, [], ◌∷◌, ◌++◌, length, take, refl, sym, ap, subst, ◌∙◌, arith}
use Rattle.std.specs.Prelude.{if◌then◌else◌}
use Rattle.std.proofs.lemmas.List.Elements.{All-cons, All-nil}
use Rattle.htss_defs.specs.declared.history.Event.{Event}
use Rattle.htss_defs.specs.declared.history.Event.TheVariants.{Publish, Withdraw}
use Rattle.htss_defs.specs.declared.record.NamedMol.{NamedMol}
use Rattle.htss_defs.specs.Molecule.{Molecule}
use Rattle.htss_defs.specs.History.{HasEvent}
use Rattle.mol_section.specs.SectionRecord.{Outcome, accepted, refused}
use Rattle.reg_model.proofs.Events.{event-within}
use Rattle.report_text.specs.declared.report.LoadLine.{LoadLine}
use Rattle.report_text.specs.declared.report.LogLine.{LogLine}
use Rattle.report_text.specs.declared.report.WithdrawLine.TheVariants.{At}
use Rattle.report_rules.specs.Answers.{Answer, to_record, to_withdrawal, Fate, published, no_room, no_page, chain_full, log_full, RecordAnswer, not_accepted, taken, fate_line, outcome_of, record_line}
use Rattle.report_rules.specs.Dealing as dealing
use Rattle.report_rules.specs.Dealing.{Dealt}
use Rattle.report_rules.specs.Faults.{IsAsLogged, Setting, answer_line, keeps, line_by}
use Rattle.report_rules.specs.Rules.{IsNew, Line, caller_number}
use Rattle.told_history.specs.declared.records.RecordRead.{RecordRead}
use Rattle.told_history.specs.declared.records.RecordRead.TheVariants.{Accepted, Refused}
use Rattle.report_audit.specs.declared.so_far.SoFar.{SoFar}
use Rattle.report_audit.specs.declared.tally.Caller as code
use Rattle.told_history.specs.declared.told.Told.{Told}
use Rattle.report_audit.specs.Callers.{caller_of}
use Rattle.report_audit.specs.LineChecks.{IsNextOf, answer_to, fate_of}
use Rattle.told_history.specs.Reads as reads
use Rattle.report_audit.specs.Tallied.{IsNext}
use Rattle.told_history.proofs.TellEvents.{told_length}

by_flag : (b : Bool) (n : ℕ) → caller_number (if b then dealing.loader n else dealing.searcher n) ≡ n
by_flag true n = refl
by_flag false n = refl

number_is : (told : Told) (so_far : SoFar) (caller : code.Caller) (s : Setting) (earlier : List Line) (one : Dealt) → IsNextOf told so_far caller s earlier one → caller_number one.caller ≡ caller.number
number_is told so_far caller s earlier one next = ap caller_number next.caller_is ∙ by_flag caller.loads caller.number

pub is_next : (told : Told) (so_far : SoFar) (caller : code.Caller) (s : Setting) (earlier : List Line) (one : Dealt) (answer : Answer) → IsNextOf told so_far caller s earlier one → IsNext so_far.tally (caller_of caller) (line_by one answer)
is_next told so_far caller s earlier one answer next = record { by = next.caller_is; in_group = next.group_is }

pub as_long : (told : Told) (so_far : SoFar) (caller : code.Caller) (s : Setting) (earlier : List Line) (one : Dealt) → IsNextOf told so_far caller s earlier one → length s.history ≡ length told.lines.now
as_long told so_far caller s earlier one next = told_length told s.history next.tells

-- an event of the history may be taken
pub event_taken : (told : Told) (so_far : SoFar) (caller : code.Caller) (s : Setting) (earlier : List Line) (one : Dealt) (number : ℕ) (e : Event) → IsNextOf told so_far caller s earlier one → HasEvent s.history number e
    → number ≤ length so_far.taken.items
event_taken told so_far caller s earlier one number e next has =
    let long = as_long told so_far caller s earlier one next in
    let all = next.long in
    omega (arith, event-within s.history number e has, long, all)

pub keeps_event : (told : Told) (so_far : SoFar) (caller : code.Caller) (s : Setting) (earlier : List Line) (one : Dealt) (number event : ℕ) → IsNextOf told so_far caller s earlier one
    → HasEvent s.history event (Withdraw caller.number number) × IsAsLogged told.lines.now s.history event → IsNew earlier (line_by one (to_withdrawal number (At event))) event
    → keeps s earlier (line_by one (to_withdrawal number (At event)))
keeps_event told so_far caller s earlier one number event next has new = record {
  rule = (subst (λ (n : ℕ). HasEvent s.history event (Withdraw n number)) (sym (number_is told so_far caller s earlier one next)) has.0, new);
  logged = All-cons (IsAsLogged s.events s.history) event [] (subst (λ (l : List LogLine). IsAsLogged l s.history event) (sym next.events_are) has.1) (All-nil (IsAsLogged s.events s.history));
}

pub keeps_publication : (told : Told) (so_far : SoFar) (caller : code.Caller) (s : Setting) (earlier : List Line) (one : Dealt) (name : List ℕ) (mol : Molecule) (number : ℕ) → IsNextOf told so_far caller s earlier one
    → HasEvent s.history number (Publish caller.number name mol) × IsAsLogged told.lines.now s.history number
    → IsNew earlier (answer_line one (taken (record { name = name; mol = mol }) (published number))) number
    → keeps s earlier (answer_line one (taken (record { name = name; mol = mol }) (published number)))
keeps_publication told so_far caller s earlier one name mol number next has new = record {
  rule = (subst (λ (n : ℕ). HasEvent s.history number (Publish n name mol)) (sym (number_is told so_far caller s earlier one next)) has.0, new);
  logged = All-cons (IsAsLogged s.events s.history) number [] (subst (λ (l : List LogLine). IsAsLogged l s.history number) (sym next.events_are) has.1) (All-nil (IsAsLogged s.events s.history));
}

-- ---- the only answer to a record that prints a line

fate_back : (place : ℕ) (name : List ℕ) (fate : Fate) → fate_of (fate_line place name fate) ≡ fate
fate_back place name (published number) = refl
fate_back place name (no_room left need) = refl
fate_back place name no_page = refl
fate_back place name (chain_full pages) = refl
fate_back place name (log_full front) = refl

pub answer_back : (place : ℕ) (read : RecordRead) (answer : RecordAnswer) (line : LoadLine) → outcome_of answer ≡ reads.outcome_of read → record_line place answer ≡ line → answer ≡ answer_to read line
answer_back place (Accepted name mol) (taken one fate) line same printed =
    let names : one.name ≡ name = cc same in
    let mols : one.mol ≡ mol = cc same in
    let fates : fate ≡ fate_of line = sym (fate_back place one.name fate) ∙ ap fate_of printed in
    ap (λ (f : Fate). taken one f) fates
    ∙ ap (λ (n : List ℕ). taken (record { name = n; mol = one.mol }) (fate_of line)) names
    ∙ ap (λ (m : Molecule). taken (record { name = name; mol = m }) (fate_of line)) mols
answer_back place (Accepted name mol) (not_accepted at code) line same printed = absurd (cc same)
answer_back place (Refused at code) (taken one fate) line same printed = absurd (cc same)
answer_back place (Refused at code) (not_accepted other word) line same printed =
    let lines : other ≡ at = cc same in
    let codes : word ≡ code = cc same in
    cc (lines, codes)

pub outcome_same : (read : RecordRead) (line : LoadLine) → outcome_of (answer_to read line) ≡ reads.outcome_of read
outcome_same (Accepted name mol) line = refl
outcome_same (Refused at code) line = refl
