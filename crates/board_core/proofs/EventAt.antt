-- Which event of the history a log word behind the front shows, and the other way round.
use Rattle.std.proofs.Common.{◌≡◌, ℕ, zero, suc, ◌+◌, ◌-◌, ◌<◌, ◌≤◌, [], ◌∷◌, ◌++◌, length, sym, ap, ◌∙◌, subst, arith, ⊎_elim}
use mathlib.Core.Logic.{dite}
use native.Mathlib.Decide.{ℕ_discrete}
use Rattle.htss_defs.specs.declared.shape.Shape.{Shape}
use Rattle.htss_defs.specs.declared.history.Event.{Event}
use Rattle.htss_defs.specs.History.{HasEvent}
use Rattle.board_core.specs.Words.{Parts}
use Rattle.board_core.specs.Blocks.{first_of}
use Rattle.board_core.specs.Histories.{event_of, history_of}
use Rattle.board_core.proofs.Events.{event_more, event_last, event_cases, event_within}
use Rattle.board_core.proofs.Shown.{length_first}

shown_first : (f : ℕ → Event) (n i : ℕ) → i < n → HasEvent (first_of f n) (i + 1) (f i)
shown_first f zero i below = absurd (omega arith)
shown_first f (suc n) i below = dite (ℕ_discrete i n)
    (λ same. subst (λ (x : ℕ). HasEvent (first_of f n ++ f n ∷ []) (x + 1) (f x)) (sym same) (subst (λ (x : ℕ). HasEvent (first_of f n ++ f n ∷ []) (x + 1) (f n)) (length_first f n) (event_last (first_of f n) (f n))))
    (λ other. event_more (first_of f n) (f n) (i + 1) (f i) (shown_first f n i (omega arith)))

first_shown : (f : ℕ → Event) (n number : ℕ) (e : Event) → HasEvent (first_of f n) number e → (number ≤ n) × (f (number - 1) ≡ e)
first_shown f zero number e has = let within = event_within [] number e has in let above : 1 ≤ number = has.0 in absurd (omega arith)
first_shown f (suc n) number e has = ⊎_elim
    (λ (old : HasEvent (first_of f n) number e). let before = first_shown f n number e old in let within = before.0 in (omega arith, before.1))
    (λ (last : (number ≡ length (first_of f n) + 1) × (f n ≡ e)). let count = length_first f n in let at = last.0 in let back : number - 1 ≡ n = omega arith in (omega arith, ap f back ∙ last.1))
    (event_cases (first_of f n) (f n) number e has)

-- the event of the word in a slot behind the front
pub event_shown : (k : Shape) (p : Parts) (i : ℕ) → i < p.log.front → HasEvent (history_of k p) (i + 1) (event_of k p.regions (p.log.slots i))
event_shown k p i behind = shown_first (λ j. event_of k p.regions (p.log.slots j)) p.log.front i behind

-- each event stands in a slot
pub event_stands : (k : Shape) (p : Parts) (number : ℕ) (e : Event) → HasEvent (history_of k p) number e → (number ≤ p.log.front) × (event_of k p.regions (p.log.slots (number - 1)) ≡ e)
event_stands k p number e has = first_shown (λ j. event_of k p.regions (p.log.slots j)) p.log.front number e has
