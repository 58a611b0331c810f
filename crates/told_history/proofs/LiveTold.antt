-- Which records are live after the first events of a told history.
use Rattle.std.proofs.Common.{◌≡◌, ◌≢◌, ◌⊎◌, inl, inr, ℕ, zero, suc, ◌+◌, ◌-◌, ◌<◌, ◌≤◌, Bool, true, false, List, [], ◌∷◌, length, get_or, take, refl, sym, ap, ◌∙◌, subst, arith}
use Rattle.std.specs.Borrow.{Bor}
use Rattle.std.specs.Prelude.{Option, Some, None, slice_get, ◌==◌, ◌||◌, if◌then◌else◌, option_map, unwrap_or}
use Rattle.std.proofs.lemmas.Option.{slice_get_read}
use Rattle.std.proofs.lemmas.Grind.{get_or_default_zero}
use Rattle.htss_defs.specs.declared.history.Event.{Event}
use Rattle.htss_defs.specs.declared.history.Event.TheVariants.{Publish, Withdraw}
use Rattle.htss_defs.specs.Molecule.{Molecule}
use Rattle.htss_defs.specs.History.{HasEvent, IsLive, Withdraws}
use Rattle.reg_model.specs.Registries.{AreWithdrawals}
use Rattle.reg_model.proofs.Events.{event-first, event-of_first, event-within, no_publication}
use Rattle.report_text.specs.declared.report.LogLine.{LogLine}
use Rattle.report_text.specs.declared.report.LogLine.TheVariants as log
use Rattle.report_rules.specs.Faults.{molecule_named, no_molecule, told_event, told_from}
use Rattle.told_history.specs.Named.{is_named}

-- ---- the events that lines tell

length_told : (named : List (ℕ × Molecule)) (first : ℕ) (lines : List LogLine) → length (told_from named first lines) ≡ length lines
length_told named first [] = refl
length_told named first (line ∷ lines) = let rest = length_told named (first + 1) lines in omega (arith, rest)

told_at : (named : List (ℕ × Molecule)) (first i : ℕ) (lines : List LogLine) (line : LogLine) → slice_get lines i ≡ Some line → slice_get (told_from named first lines) i ≡ Some (told_event named (first + i) line)
told_at named first i [] line at = absurd cc
told_at named first zero (one ∷ lines) line at =
    let same : one ≡ line = cc in
    let here : first ≡ first + 0 = omega arith in
    ap (λ l. Some (told_event named first l)) same ∙ ap (λ n. Some (told_event named n line)) here
told_at named first (suc i) (one ∷ lines) line at =
    let here : first + 1 + i ≡ first + suc i = omega arith in
    told_at named (first + 1) i lines line at ∙ ap (λ n. Some (told_event named n line)) here

-- the event that a line of the log tells, by what the code reads
pub has_told : (named : List (ℕ × Molecule)) (history : List Event) (lines : List LogLine) (number : ℕ) (line : LogLine) → history ≡ told_from named 1 lines → 1 ≤ number → slice_get lines (number - 1) ≡ Some line
    → HasEvent history number (told_event named number line)
has_told named history lines number line is some at =
    let here : 1 + (number - 1) ≡ number = omega (arith, some) in
    (some, ap (λ (h : List Event). slice_get h (number - 1)) is ∙ told_at named 1 (number - 1) lines line at ∙ ap (λ n. Some (told_event named n line)) here)

pub same_length : (named : List (ℕ × Molecule)) (history : List Event) (lines : List LogLine) → history ≡ told_from named 1 lines → length history ≡ length lines
same_length named history lines is = ap (λ (h : List Event). length h) is ∙ length_told named 1 lines

-- no line names the event
pub unnamed : (named : List (ℕ × Molecule)) (number : ℕ) → is_named named number ≡ false → molecule_named named number ≡ no_molecule
unnamed [] number none = refl
unnamed (one ∷ named) number none = go (number == one.0) none (λ rest. unnamed named number rest)
  where
    go : (b : Bool) → (b || is_named named number) ≡ false → (is_named named number ≡ false → molecule_named named number ≡ no_molecule) → (if b then one.1 else molecule_named named number) ≡ no_molecule
    go true is rest = absurd cc
    go false is rest = rest is

-- ---- live at a front

module _ (es : List Event) (ws : List ℕ) (front number : ℕ) (are : AreWithdrawals es ws) (few : front ≤ length es) (some : 1 ≤ number) (within : number ≤ front) where
  place : number ≤ length es
  place = omega (arith, few, within)

  pub read_withdrawal : (kept : ℕ) → kept ≡ get_or ws (number - 1) kept → get_or ws (number - 1) 0 ≡ kept
  read_withdrawal kept read = sym (get_or_default_zero ws (number - 1) kept (omega (arith, some, place, are.length_is))) ∙ sym read

  pub live_told : (caller : ℕ) (name : List ℕ) (mol : Molecule) → HasEvent es number (Publish caller name mol) → (get_or ws (number - 1) 0 ≡ 0) ⊎ (front < get_or ws (number - 1) 0) → IsLive (take front es) number name mol
  live_told caller name mol has stays = record {
    published = record { caller = caller; event = event-first es front number (Publish caller name mol) few has within };
    stays = λ later w.
        let whole = event-of_first es front later (Withdraw w.caller number) few w.event in
        let kept : get_or ws (number - 1) 0 ≡ later = (are.each number later some place w.event.0).1 (record { caller = w.caller; event = whole.0 }) in
        elim stays [
          | inl none ↦ absurd (omega (arith, none, kept, w.event.0))
          | inr after ↦ absurd (omega (arith, after, kept, whole.1))
        ];
  }

  -- withdrawn by one of the first events
  pub withdrawn_told : get_or ws (number - 1) 0 ≢ 0 → get_or ws (number - 1) 0 ≤ front → (name : List ℕ) (mol : Molecule) → IsLive (take front es) number name mol → ⊥
  withdrawn_told gone early name mol live =
      let at : ℕ = get_or ws (number - 1) 0 in
      let w : Withdraws es at number = (are.each number at some place (omega (arith, gone))).0 refl in
      live.stays at (record { caller = w.caller; event = event-first es front at (Withdraw w.caller number) few w.event early })

  -- the event is itself a withdrawal
  pub no_record_told : (caller target : ℕ) → HasEvent es number (Withdraw caller target) → (name : List ℕ) (mol : Molecule) → IsLive (take front es) number name mol → ⊥
  no_record_told caller target has name mol live =
      no_publication es number caller target name mol has (record { caller = live.published.caller; event = (event-of_first es front number (Publish live.published.caller name mol) few live.published.event).0 })

-- ---- the molecule that a record gives, or none

abbrev pub mol_or_none : Option (Bor Molecule) → Molecule
mol_or_none mol = unwrap_or (option_map (λ m. m.now) mol) no_molecule

pub live_none : (history : List Event) (number : ℕ) (name : List ℕ) (mol : Option (Bor Molecule)) → mol ≡ None → IsLive history number name (mol_or_none mol) → IsLive history number name no_molecule
live_none history number name mol is live = subst (λ (m : Option (Bor Molecule)). IsLive history number name (mol_or_none m)) is live

pub live_some : (history : List Event) (number : ℕ) (name : List ℕ) (mol : Option (Bor Molecule)) (one : Bor Molecule) → mol ≡ Some one → IsLive history number name (mol_or_none mol) → IsLive history number name one.now
live_some history number name mol one is live = subst (λ (m : Option (Bor Molecule)). IsLive history number name (mol_or_none m)) is live
