-- Which events a told history has, by the lines of its log.
use Rattle.std.proofs.Common.{◌≡◌, ◌≢◌, ℕ, ◌+◌, ◌-◌, ◌<◌, ◌≤◌, List, length, map, take, refl, sym, ap, subst, ◌∙◌, arith}
use Rattle.std.specs.Prelude.{Option, Some, None, ◌↔◌, option_map, slice_get, slice_index, slice_index_or}
use Rattle.std.proofs.lemmas.Option.{slice_get-map, slice_get_within}
use Rattle.htss_defs.specs.declared.history.Event.{Event}
use Rattle.htss_defs.specs.declared.history.Event.TheVariants.{Publish, Withdraw}
use Rattle.htss_defs.specs.History.{HasEvent, Publishes, Withdraws}
use Rattle.htss_defs.specs.Molecule.{Molecule}
use Rattle.reg_model.specs.Registries.{HasRecord, IsWithdrawn}
use Rattle.reg_model.proofs.Events.{event-first, event-of_first, event-within}
use Rattle.report_text.specs.declared.report.LogLine.{LogLine}
use Rattle.report_text.specs.declared.report.LogLine.TheVariants as log
use Rattle.report_rules.specs.Faults.{IsAsLogged, molecule_named, told_event}
use Rattle.report_rules.specs.Reports.{log_line}
use Rattle.told_history.specs.declared.names.Namer.{Namer}
use Rattle.told_history.specs.declared.told.Told.{Told}
use Rattle.told_history.specs.Logs.{IsEndOf, IsPublication}
use Rattle.told_history.specs.Named.{IsNamer}
use Rattle.told_history.specs.Telling.{IsWhole, Tells}
use Rattle.told_history.proofs.LogChecks.{back_told, get_told, length_told, publication_line, published_told}

pub told_length : (t : Told) (h : List Event) → Tells t h → length h ≡ length t.lines.now
told_length t h tells = ap length tells.history_is ∙ length_told tells.named 1 t.lines.now

-- an event of the history, and its line
pub told_at : (t : Told) (h : List Event) (tells : Tells t h) (number : ℕ) (line : LogLine) → 1 ≤ number → slice_get t.lines.now (number - 1) ≡ Some line → HasEvent h number (told_event tells.named number line)
told_at t h tells number line some at =
    let same : 1 + (number - 1) ≡ number = omega (arith, some) in (
      some,
      ap (λ (l : List Event). slice_get l (number - 1)) tells.history_is ∙ get_told tells.named 1 t.lines.now (number - 1) line at
          ∙ ap (λ (n : ℕ). Some (told_event tells.named n line)) same,
    )

pub line_at : (t : Told) (h : List Event) (tells : Tells t h) (number : ℕ) (e : Event) → HasEvent h number e → (line : LogLine) × (slice_get t.lines.now (number - 1) ≡ Some line) × (told_event tells.named number line ≡ e)
line_at t h tells number e has =
    let (line, there, is) = back_told tells.named 1 t.lines.now (number - 1) e (ap (λ (l : List Event). slice_get l (number - 1)) (sym tells.history_is) ∙ has.1) in
    let same : number ≡ 1 + (number - 1) = omega (arith, has.0) in
    (line, there, ap (λ (n : ℕ). told_event tells.named n line) same ∙ is)

-- past the log
pub no_event : (t : Told) (h : List Event) (number : ℕ) (e : Event) → Tells t h → length t.lines.now ≤ number - 1 → HasEvent h number e → ⊥
no_event t h number e tells past has =
    let within = event-within h number e has in
    let long = told_length t h tells in
    absurd (omega (arith, has.0, past, within, long))

logged : (h : List Event) (number : ℕ) (e : Event) (lines : List LogLine) → HasEvent h number e → slice_get lines (number - 1) ≡ Some (log_line e) → IsAsLogged lines h number
logged h number e lines has at = slice_get-map log_line h (number - 1) ∙ ap (option_map log_line) has.1 ∙ sym at

logged_back : (h : List Event) (number : ℕ) (e : Event) (lines : List LogLine) → HasEvent h number e → IsAsLogged lines h number → slice_get lines (number - 1) ≡ Some (log_line e)
logged_back h number e lines has is = sym is ∙ slice_get-map log_line h (number - 1) ∙ ap (option_map log_line) has.1

some_same : {X : Type 0} (x y : X) → Some x ≡ Some y → x ≡ y
some_same x y same = cc

-- ---- a publication

pub publication_is : (t : Told) (h : List Event) (number loader : ℕ) (name : List ℕ) (mol : Molecule) (line : LogLine) (namer : Namer) → Tells t h → 1 ≤ number → slice_get t.lines.now (number - 1) ≡ Some line
    → line ≡ log.Publish loader (length mol.atoms) (length mol.bonds) name → number - 1 < length t.table.now → slice_index_or t.table.now (number - 1) namer ≡ namer
    → ((named : List (ℕ × Molecule)) (n : ℕ) → IsNamer named n namer → molecule_named named n ≡ mol) → HasEvent h number (Publish loader name mol) × IsAsLogged t.lines.now h number
publication_is t h number loader name mol line namer tells some at line_is within read named_is =
    let next : number - 1 + 1 ≡ number = omega (arith, some) in
    let known : IsNamer tells.named number namer = subst (λ (n : ℕ). IsNamer tells.named n namer) next (subst (IsNamer tells.named (number - 1 + 1)) read (tells.table (number - 1) namer within)) in
    let mol_is = named_is tells.named number known in
    let has : HasEvent h number (Publish loader name mol) = subst (HasEvent h number)
    (ap (told_event tells.named number) line_is ∙ ap (Publish loader name) mol_is) (told_at t h tells number line some at) in
    (has, logged h number (Publish loader name mol) t.lines.now has (at ∙ ap (λ (l : LogLine). Some l) line_is))

pub other_line : (t : Told) (h : List Event) (number loader : ℕ) (name : List ℕ) (mol : Molecule) (line : LogLine) → slice_get t.lines.now (number - 1) ≡ Some line
    → (line ≡ log.Publish loader (length mol.atoms) (length mol.bonds) name → ⊥) → HasEvent h number (Publish loader name mol) → IsAsLogged t.lines.now h number → ⊥
other_line t h number loader name mol line at not has is =
    not (some_same line (log.Publish loader (length mol.atoms) (length mol.bonds) name) (sym at ∙ logged_back h number (Publish loader name mol) t.lines.now has is))

same_molecule : (named : List (ℕ × Molecule)) (number loader : ℕ) (name : List ℕ) (mol : Molecule) (line : LogLine) → told_event named number line ≡ Publish loader name mol → molecule_named named number ≡ mol
same_molecule named number loader name mol (log.Publish by atoms bonds text) same = cc
same_molecule named number loader name mol (log.Withdraw by target) same = absurd cc

pub other_molecule : (t : Told) (h : List Event) (number loader : ℕ) (name : List ℕ) (mol : Molecule) (namer : Namer) → Tells t h → number - 1 < length t.table.now → slice_index_or t.table.now (number - 1) namer ≡ namer
    → ((named : List (ℕ × Molecule)) (n : ℕ) → IsNamer named n namer → molecule_named named n ≡ mol → ⊥) → HasEvent h number (Publish loader name mol) → ⊥
other_molecule t h number loader name mol namer tells within read not has =
    let next : number - 1 + 1 ≡ number = omega (arith, has.0) in
    let known : IsNamer tells.named number namer = subst (λ (n : ℕ). IsNamer tells.named n namer) next (subst (IsNamer tells.named (number - 1 + 1)) read (tells.table (number - 1) namer within)) in
    let (line, there, is) = line_at t h tells number (Publish loader name mol) has in
    not tells.named number known (same_molecule tells.named number loader name mol line is)

-- ---- a withdrawal

pub withdrawal_is : (t : Told) (h : List Event) (number loader target : ℕ) (line : LogLine) → Tells t h → 1 ≤ number → slice_get t.lines.now (number - 1) ≡ Some line → line ≡ log.Withdraw loader target
    → HasEvent h number (Withdraw loader target) × IsAsLogged t.lines.now h number
withdrawal_is t h number loader target line tells some at line_is =
    let has : HasEvent h number (Withdraw loader target) = subst (HasEvent h number) (ap (told_event tells.named number) line_is) (told_at t h tells number line some at) in
    (has, logged h number (Withdraw loader target) t.lines.now has (at ∙ ap (λ (l : LogLine). Some l) line_is))

same_withdrawal : (named : List (ℕ × Molecule)) (number loader target : ℕ) (line : LogLine) → told_event named number line ≡ Withdraw loader target → line ≡ log.Withdraw loader target
same_withdrawal named number loader target (log.Publish by atoms bonds text) same = absurd cc
same_withdrawal named number loader target (log.Withdraw by to) same =
    let callers : by ≡ loader = cc in
    let targets : to ≡ target = cc in
    cc (callers, targets)

pub other_withdrawal : (t : Told) (h : List Event) (number loader target : ℕ) (line : LogLine) → Tells t h → slice_get t.lines.now (number - 1) ≡ Some line → (line ≡ log.Withdraw loader target → ⊥)
    → HasEvent h number (Withdraw loader target) → ⊥
other_withdrawal t h number loader target line tells at not has =
    let (other, there, is) = line_at t h tells number (Withdraw loader target) has in
    not (some_same line other (sym at ∙ there) ∙ same_withdrawal tells.named number loader target other is)

pub end_is : (t : Told) (h : List Event) (number target : ℕ) (line : LogLine) → Tells t h → 1 ≤ number → slice_get t.lines.now (number - 1) ≡ Some line → IsEndOf line target → Withdraws h number target
end_is t h number target (log.Publish by atoms bonds text) tells some at is = absurd is
end_is t h number target (log.Withdraw by to) tells some at is =
    record { caller = by; event = subst (λ (n : ℕ). HasEvent h number (Withdraw by n)) is (told_at t h tells number (log.Withdraw by to) some at) }

pub other_end : (t : Told) (h : List Event) (number target : ℕ) (line : LogLine) → Tells t h → slice_get t.lines.now (number - 1) ≡ Some line → (IsEndOf line target → ⊥) → Withdraws h number target → ⊥
other_end t h number target line tells at not w =
    let (other, there, is) = line_at t h tells number (Withdraw w.caller target) w.event in
    not (subst (λ (l : LogLine). IsEndOf l target) (sym (some_same line other (sym at ∙ there) ∙ same_withdrawal tells.named number w.caller target other is)) refl)

-- ---- the first events

pub shown : (t : Told) (h : List Event) (front number : ℕ) (line : LogLine) → Tells t h → front ≤ length t.lines.now → 1 ≤ number → number ≤ front → slice_get t.lines.now (number - 1) ≡ Some line → IsPublication (Some line)
    → HasRecord (take front h) number
shown t h front number (log.Withdraw by to) tells few some within at is = absurd is
shown t h front number (log.Publish by atoms bonds name) tells few some within at is =
    let mol = molecule_named tells.named number in
    let long = told_length t h tells in
    (name, mol, record { caller = by; event = event-first h front number (Publish by name mol) (omega (arith, few, long)) (told_at t h tells number (log.Publish by atoms bonds name) some at) within })

pub not_shown : (t : Told) (h : List Event) (front number : ℕ) (line : LogLine) → Tells t h → front ≤ length t.lines.now → slice_get t.lines.now (number - 1) ≡ Some line → (IsPublication (Some line) → ⊥)
    → HasRecord (take front h) number → ⊥
not_shown t h front number line tells few at not (name, mol, p) =
    let long = told_length t h tells in
    let (has, within) = event-of_first h front number (Publish p.caller name mol) (omega (arith, few, long)) p.event in
    let (other, there, is) = line_at t h tells number (Publish p.caller name mol) has in
    go other is (some_same line other (sym at ∙ there))
  where
    go : (other : LogLine) → told_event tells.named number other ≡ Publish p.caller name mol → line ≡ other → ⊥
    go (log.Publish by atoms bonds text) is same = not (subst (λ (l : LogLine). IsPublication (Some l)) (sym same) tt)
    go (log.Withdraw by to) is same = absurd cc

pub not_within : (t : Told) (h : List Event) (front number : ℕ) → Tells t h → front ≤ length t.lines.now → (1 ≤ number → number ≤ front → ⊥) → HasRecord (take front h) number → ⊥
not_within t h front number tells few not (name, mol, p) =
    let long = told_length t h tells in
    let (has, within) = event-of_first h front number (Publish p.caller name mol) (omega (arith, few, long)) p.event in
    not has.0 within

pub gone : (t : Told) (h : List Event) (front number at : ℕ) → Tells t h → front ≤ length t.lines.now → 1 ≤ number → number ≤ front → slice_index t.withdrawals.now (number - 1) ≡ at → 1 ≤ at → at ≤ front → IsWithdrawn (take front h) number
gone t h front number at tells few some within is first last =
    let long = told_length t h tells in
    let w = (tells.withdrawals.each number at some (omega (arith, within, few, long)) first).0 is in
    (at, record { caller = w.caller; event = event-first h front at (Withdraw w.caller number) (omega (arith, few, long)) w.event last })

pub not_gone : (t : Told) (h : List Event) (front number : ℕ) → Tells t h → front ≤ length t.lines.now → 1 ≤ number → number ≤ front
    → (1 ≤ slice_index t.withdrawals.now (number - 1) → slice_index t.withdrawals.now (number - 1) ≤ front → ⊥) → IsWithdrawn (take front h) number → ⊥
not_gone t h front number tells few some within not (at, w) =
    let long = told_length t h tells in
    let (has, last) = event-of_first h front at (Withdraw w.caller number) (omega (arith, few, long)) w.event in
    let is : slice_index t.withdrawals.now (number - 1) ≡ at = (tells.withdrawals.each number at some (omega (arith, within, few, long)) has.0).1 (record { caller = w.caller; event = has }) in
    not (omega (arith, is, has.0)) (omega (arith, is, last))
