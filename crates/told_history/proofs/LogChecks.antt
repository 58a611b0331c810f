-- One more event of a log.
use Rattle.std.proofs.Common.{◌≡◌, inl, inr, ℕ, zero, suc, ◌+◌, ◌-◌, ◌<◌, ◌≤◌, List, [], ◌∷◌, ◌++◌, length, take, get_or, set, All, refl, sym, ap, subst, ◌∙◌, arith}
use Rattle.std.specs.Prelude.{Option, Some, None, slice_get}
use Rattle.std.proofs.lemmas.List.{length-take-le, length_push, get_or_push, take_all, take_more}
use Rattle.std.proofs.lemmas.List.Elements.{All-append, All-cons, All-nil}
use Rattle.htss_defs.specs.declared.history.Event.{Event}
use Rattle.htss_defs.specs.declared.history.Event.TheVariants.{Publish, Withdraw}
use Rattle.htss_defs.specs.declared.shape.Shape.{Shape}
use Rattle.htss_defs.specs.History.{IsLegal, Publishes, Withdraws}
use Rattle.htss_defs.specs.Molecule.{Molecule}
use Rattle.reg_model.specs.Registries.{AreWithdrawals, HasRecord, IsRegistry}
use Rattle.reg_model.proofs.Events.{event-cases, event-last, event-within, withdraws-more}
use Rattle.reg_model.proofs.Legality.{registry-none, registry-publish, registry-withdraw}
use Rattle.report_text.specs.declared.report.LogLine.{LogLine}
use Rattle.report_text.specs.declared.report.LogLine.TheVariants as log
use Rattle.report_rules.specs.Faults.{IsEventFault, molecule_named, told_event, told_from}
use Rattle.report_rules.specs.Reports.{IsByItsLoader}
use Rattle.told_history.specs.Logs.{IsOpen, IsPublication, IsSoundLog, MayFollow, with_event}

-- ---- the history that lines tell

pub length_told : (named : List (ℕ × Molecule)) (first : ℕ) (lines : List LogLine) → length (told_from named first lines) ≡ length lines
length_told named first [] = refl
length_told named first (line ∷ lines) = ap suc (length_told named (first + 1) lines)

take_told : (named : List (ℕ × Molecule)) (first k : ℕ) (lines : List LogLine) → take k (told_from named first lines) ≡ told_from named first (take k lines)
take_told named first zero lines = refl
take_told named first (suc k) [] = refl
take_told named first (suc k) (line ∷ lines) = ap (λ (l : List Event). told_event named first line ∷ l) (take_told named (first + 1) k lines)

told_push : (named : List (ℕ × Molecule)) (first : ℕ) (lines : List LogLine) (line : LogLine) → told_from named first (lines ++ line ∷ []) ≡ told_from named first lines ++ told_event named (first + length lines) line ∷ []
told_push named first [] line =
    let e : first ≡ first + 0 = omega arith in
    ap (λ (n : ℕ). told_event named n line ∷ []) e
told_push named first (one ∷ lines) line =
    let e : first + 1 + length lines ≡ first + length (one ∷ lines) = omega arith in
    ap (λ (l : List Event). told_event named first one ∷ l)
    (told_push named (first + 1) lines line ∙ ap (λ (n : ℕ). told_from named (first + 1) lines ++ told_event named n line ∷ []) e)

pub get_told : (named : List (ℕ × Molecule)) (first : ℕ) (lines : List LogLine) (k : ℕ) (line : LogLine) → slice_get lines k ≡ Some line → slice_get (told_from named first lines) k ≡ Some (told_event named (first + k) line)
get_told named first [] k line at = absurd cc
get_told named first (one ∷ lines) zero line at =
    let same : one ≡ line = cc at in
    let e : first ≡ first + 0 = omega arith in
    ap (λ (l : LogLine). Some (told_event named first l)) same ∙ ap (λ (n : ℕ). Some (told_event named n line)) e
get_told named first (one ∷ lines) (suc k) line at =
    let e : first + 1 + k ≡ first + suc k = omega arith in
    get_told named (first + 1) lines k line at ∙ ap (λ (n : ℕ). Some (told_event named n line)) e

pub back_told : (named : List (ℕ × Molecule)) (first : ℕ) (lines : List LogLine) (k : ℕ) (e : Event) → slice_get (told_from named first lines) k ≡ Some e → (line : LogLine) × (slice_get lines k ≡ Some line) × (told_event named (first + k) line ≡ e)
back_told named first [] k e at = absurd cc
back_told named first (one ∷ lines) zero e at =
    let same : told_event named first one ≡ e = cc at in
    let here : first + 0 ≡ first = omega arith in
    (one, refl, ap (λ (n : ℕ). told_event named n one) here ∙ same)
back_told named first (one ∷ lines) (suc k) e at =
    let (line, there, same) = back_told named (first + 1) lines k e at in
    let here : first + suc k ≡ first + 1 + k = omega arith in
    (line, there, ap (λ (n : ℕ). told_event named n line) here ∙ same)

get_take : {X : Type 0} (xs : List X) (n k : ℕ) → k < n → slice_get (take n xs) k ≡ slice_get xs k
get_take [] zero k less = refl
get_take [] (suc n) k less = refl
get_take (x ∷ xs) zero k less = absurd (omega arith)
get_take (x ∷ xs) (suc n) zero less = refl
get_take (x ∷ xs) (suc n) (suc k) less = get_take xs n k (omega (arith, less))

-- a line of a publication tells one
pub published_told : (named : List (ℕ × Molecule)) (lines : List LogLine) (number : ℕ) → 1 ≤ number → IsPublication (slice_get lines (number - 1)) → HasRecord (told_from named 1 lines) number
published_told named lines number some is = go (slice_get lines (number - 1)) refl is
  where
    go : (at : Option LogLine) → slice_get lines (number - 1) ≡ at → IsPublication at → HasRecord (told_from named 1 lines) number
    go None at is = absurd is
    go (Some (log.Withdraw loader target)) at is = absurd is
    go (Some (log.Publish loader atoms bonds name)) at is =
        (name, molecule_named named (1 + (number - 1)), record { caller = loader; event = (some, get_told named 1 lines (number - 1) (log.Publish loader atoms bonds name) at) })

pub publication_line : (named : List (ℕ × Molecule)) (lines : List LogLine) (number : ℕ) (name : List ℕ) (mol : Molecule) → Publishes (told_from named 1 lines) number name mol → IsPublication (slice_get lines (number - 1))
publication_line named lines number name mol p =
    let (line, there, same) = back_told named 1 lines (number - 1) (Publish p.caller name mol) p.event.1 in
    subst IsPublication (sym there) (go line same)
  where
    go : (line : LogLine) → told_event named (1 + (number - 1)) line ≡ Publish p.caller name mol → IsPublication (Some line)
    go (log.Publish loader atoms bonds text) same = tt
    go (log.Withdraw loader target) same = absurd cc

-- ---- the first events are sound

-- the first i events are legal, and by loaders of the shape
pub record AreSound (shape : Shape) (events : List LogLine) (i : ℕ) (withdrawals : List ℕ) (named : List (ℕ × Molecule)) : Type 0 where
  pub registry : IsRegistry (told_from named 1 (take i events)) withdrawals (length events)
  pub loaders : All (IsByItsLoader shape) (told_from named 1 (take i events))

pub sound_none : (shape : Shape) (events : List LogLine) (named : List (ℕ × Molecule)) → AreSound shape events 0 [] named
sound_none shape events named = record { registry = registry-none (length events); loaders = All-nil (IsByItsLoader shape) }

pub sound_count : (shape : Shape) (events : List LogLine) (i : ℕ) (withdrawals : List ℕ) → i ≤ length events → AreSound shape events i withdrawals [] → length withdrawals ≡ i
sound_count shape events i withdrawals few s = s.registry.withdrawals_are.length_is ∙ length_told [] 1 (take i events) ∙ length-take-le i events few

one_more : (named : List (ℕ × Molecule)) (events : List LogLine) (i : ℕ) (event : LogLine) → i < length events → event ≡ get_or events i event → told_from named 1 (take (i + 1) events) ≡ told_from named 1 (take i events) ++ told_event named (1 + i) event ∷ []
one_more named events i event less is =
    let long : length (take i events) ≡ i = length-take-le i events (omega (arith, less)) in
    ap (told_from named 1) (take_more events i event less ∙ ap (λ (e : LogLine). take i events ++ e ∷ []) (sym is))
    ∙ told_push named 1 (take i events) event
    ∙ ap (λ (n : ℕ). told_from named 1 (take i events) ++ told_event named (1 + n) event ∷ []) long

open_told : (named : List (ℕ × Molecule)) (events : List LogLine) (i : ℕ) (withdrawals : List ℕ) (number : ℕ) → length withdrawals ≡ i → IsOpen events withdrawals number → HasRecord (told_from named 1 (take i events)) number
open_told named events i withdrawals number count is =
    published_told named (take i events) number is.some (subst IsPublication (sym (get_take events i (number - 1) (omega (arith, is.some, is.within, count)))) is.publishes)

pub sound_more : (shape : Shape) (events : List LogLine) (i : ℕ) (withdrawals : List ℕ) (event : LogLine) (named : List (ℕ × Molecule)) → i < length events → event ≡ get_or events i event
    → AreSound shape events i withdrawals named → MayFollow shape events withdrawals event → AreSound shape events (i + 1) (with_event event withdrawals) named
sound_more shape events i withdrawals (log.Publish loader atoms bonds name) named less is s may =
    let es = told_from named 1 (take i events) in
    let long : length es ≡ i = length_told named 1 (take i events) ∙ length-take-le i events (omega (arith, less)) in
    let mol = molecule_named named (1 + i) in
    record {
      registry = subst (λ (h : List Event). IsRegistry h (withdrawals ++ 0 ∷ []) (length events)) (sym (one_more named events i (log.Publish loader atoms bonds name) less is))
          (registry-publish es withdrawals (length events) loader name mol s.registry (λ full. absurd (omega (arith, less, long, full))));
      loaders = subst (All (IsByItsLoader shape)) (sym (one_more named events i (log.Publish loader atoms bonds name) less is))
          (All-append (IsByItsLoader shape) es (Publish loader name mol ∷ []) s.loaders (All-cons (IsByItsLoader shape) (Publish loader name mol) [] may (All-nil (IsByItsLoader shape))));
    }
sound_more shape events i withdrawals (log.Withdraw loader number) named less is s may =
    let es = told_from named 1 (take i events) in
    let long : length es ≡ i = length_told named 1 (take i events) ∙ length-take-le i events (omega (arith, less)) in
    let count : length withdrawals ≡ i = s.registry.withdrawals_are.length_is ∙ long in
    let same : length es + 1 ≡ length withdrawals + 1 = omega (arith, long, count) in
    record {
      registry = subst (λ (h : List Event). IsRegistry h (set (withdrawals ++ 0 ∷ []) (number - 1) (length withdrawals + 1)) (length events)) (sym (one_more named events i (log.Withdraw loader number) less is))
          (subst (λ (n : ℕ). IsRegistry (es ++ Withdraw loader number ∷ []) (set (withdrawals ++ 0 ∷ []) (number - 1) n) (length events)) same
          (registry-withdraw es withdrawals (length events) loader number s.registry (λ full. absurd (omega (arith, less, long, full))) (open_told named events i withdrawals number count may.2) may.2.stands));
      loaders = subst (All (IsByItsLoader shape)) (sym (one_more named events i (log.Withdraw loader number) less is))
          (All-append (IsByItsLoader shape) es (Withdraw loader number ∷ []) s.loaders (All-cons (IsByItsLoader shape) (Withdraw loader number) [] (may.0, may.1) (All-nil (IsByItsLoader shape))));
    }

pub sound_whole : (shape : Shape) (events : List LogLine) (i : ℕ) (withdrawals : List ℕ) (named : List (ℕ × Molecule)) → length events ≤ i → AreSound shape events i withdrawals named → IsSoundLog shape events withdrawals named
sound_whole shape events i withdrawals named all s =
    let h = told_from named 1 events in
    let first : told_from named 1 (take i events) ≡ h = ap (told_from named 1) (take_all i events all) in
    let whole : take (length events) h ≡ h = take_all (length events) h (omega (arith, length_told named 1 events)) in
    record {
      legal = (subst IsLegal (first ∙ sym whole) s.registry.legal, subst (All (IsByItsLoader shape)) (first ∙ sym whole) s.loaders);
      are = subst (λ (l : List Event). AreWithdrawals l withdrawals) first s.registry.withdrawals_are;
    }

-- ---- an event that breaks the log

last_by : (shape : Shape) (es : List Event) (e : Event) → All (IsByItsLoader shape) (es ++ e ∷ []) → IsByItsLoader shape e
last_by shape es e all = subst (IsByItsLoader shape) (get_or_push es e e (length es) refl) (all (length es) e (omega (arith, length_push es e)))

-- a record that the next event withdraws is open
is_open : (events : List LogLine) (i : ℕ) (withdrawals : List ℕ) (loader number : ℕ) (named : List (ℕ × Molecule)) → length withdrawals ≡ i → length (told_from named 1 (take i events)) ≡ i
    → AreWithdrawals (told_from named 1 (take i events)) withdrawals → IsLegal (told_from named 1 (take i events) ++ Withdraw loader number ∷ []) → IsOpen events withdrawals number
is_open events i withdrawals loader number named count long are legal =
    let es = told_from named 1 (take i events) in
    let last : Withdraws (es ++ Withdraw loader number ∷ []) (length es + 1) number = record { caller = loader; event = event-last es (Withdraw loader number) } in
    let (before, name, mol, published) = legal.earlier (length es + 1) number last in
    let some = published.event.0 in
    let line : IsPublication (slice_get (take i events) (number - 1)) = publication_line named (take i events) number name mol (old es name mol (omega (arith, before)) published) in
    record {
      some = some;
      within = omega (arith, before, long, count);
      publishes = subst IsPublication (get_take events i (number - 1) (omega (arith, before, long, some))) line;
      stands = none (get_or withdrawals (number - 1) 0) refl es last (omega (arith, before)) some are legal;
    }
  where
    old : (es : List Event) (name : List ℕ) (mol : Molecule) → number ≤ length es → Publishes (es ++ Withdraw loader number ∷ []) number name mol → Publishes es number name mol
    old es name mol within p = elim (event-cases es (Withdraw loader number) number (Publish p.caller name mol) p.event) [
      | inl has ↦ record { caller = p.caller; event = has }
      | inr last ↦ absurd (omega (arith, within, last.0))
    ]

    none : (at : ℕ) → get_or withdrawals (number - 1) 0 ≡ at → (es : List Event) → Withdraws (es ++ Withdraw loader number ∷ []) (length es + 1) number → number ≤ length es → 1 ≤ number
        → AreWithdrawals es withdrawals → IsLegal (es ++ Withdraw loader number ∷ []) → at ≡ 0
    none zero is es last within some are legal = refl
    none (suc at) is es last within some are legal =
        let w = (are.each number (suc at) some within (omega arith)).0 is in
        let same : suc at ≡ length es + 1 = legal.once (suc at) (length es + 1) number (withdraws-more es (Withdraw loader number) (suc at) number w) last in
        absurd (omega (arith, same, event-within es (suc at) (Withdraw w.caller number) w.event))

-- an event that comes next in a legal log by loaders of the shape may follow
may_follow : (shape : Shape) (events : List LogLine) (i : ℕ) (withdrawals : List ℕ) (event : LogLine) (named : List (ℕ × Molecule)) → i < length events
    → AreSound shape events i withdrawals named → IsLegal (told_from named 1 (take i events) ++ told_event named (1 + i) event ∷ []) → IsByItsLoader shape (told_event named (1 + i) event) → MayFollow shape events withdrawals event
may_follow shape events i withdrawals (log.Publish loader atoms bonds name) named less s legal by = by
may_follow shape events i withdrawals (log.Withdraw loader number) named less s legal by =
    let long : length (told_from named 1 (take i events)) ≡ i = length_told named 1 (take i events) ∙ length-take-le i events (omega (arith, less)) in
    (by.0, by.1, is_open events i withdrawals loader number named (s.registry.withdrawals_are.length_is ∙ long) long s.registry.withdrawals_are legal)

pub broken : (shape : Shape) (events : List LogLine) (i : ℕ) (withdrawals : List ℕ) (event : LogLine) (named : List (ℕ × Molecule)) → i < length events → event ≡ get_or events i event
    → AreSound shape events i withdrawals named → (MayFollow shape events withdrawals event → ⊥) → IsEventFault shape (told_from named 1 events) (i + 1)
broken shape events i withdrawals event named less is s not =
    let h = told_from named 1 events in
    let es = told_from named 1 (take i events) in
    let before : es ≡ take (i + 1 - 1) h = sym (ap (λ (n : ℕ). take n h) (let e : i + 1 - 1 ≡ i = omega arith in e) ∙ take_told named 1 i events) in
    let now : take (i + 1) h ≡ es ++ told_event named (1 + i) event ∷ [] = take_told named 1 (i + 1) events ∙ one_more named events i event less is in
    record {
      some = omega arith;
      within = omega (arith, less, length_told named 1 events);
      before = (subst IsLegal before s.registry.legal, subst (All (IsByItsLoader shape)) before s.loaders);
      here = λ up.
          not (may_follow shape events i withdrawals event named less s (subst IsLegal now up.0) (last_by shape es (told_event named (1 + i) event) (subst (All (IsByItsLoader shape)) now up.1)));
    }
