-- Why a number is unknown: it is 0 or past the front that was seen, or its log word was loaded as a withdrawal's.
use Rattle.std.proofs.Common.{◌≡◌, ℕ, ◌+◌, ◌-◌, ◌<◌, ◌≤◌, Bool, cond, List, length, take, sym, ap, ◌∙◌, subst, arith, eq-eqb}
use Rattle.std.specs.Prelude.{Some}
use mathlib.Core.Option.{some}
use lib.ListN.{get_elem?}
use Rattle.std.proofs.lemmas.List.{get_or-take, length-take-le}
use Rattle.std.proofs.lemmas.Option.{slice_get_within, slice_get-get_or, get_or_from_slice_get}
use Rattle.htss_defs.specs.declared.shape.Shape.{Shape}
use Rattle.htss_defs.specs.declared.history.Event.{Event}
use Rattle.htss_defs.specs.declared.history.Event.TheVariants.{Publish, Withdraw}
use Rattle.htss_defs.specs.Molecule.{Molecule}
use Rattle.htss_defs.specs.History.{HasEvent}
use Rattle.board_core.specs.declared.account.Account.{Account}
use Rattle.board_core.specs.declared.loads.ShownLoad.{ShownLoad}
use Rattle.board_core.specs.Words.{Parts, log_at}
use Rattle.board_core.specs.LogWord.{kind_in, loader_in, target_in}
use Rattle.board_core.specs.Blocks.{name_in, molecule_in}
use Rattle.board_core.specs.Histories.{block_at, event_of, history_of, IsPublished}
use Rattle.board_core.specs.Steps.{Agrees}
use Rattle.board_core.proofs.EventAt.{event_shown}

-- a log word that was loaded shows an event of each board that agrees
pub loaded_event : (k : Shape) (p : Parts) (a : Account) (j i : ℕ) (l : ShownLoad) → Agrees k p a → get_elem? a.loads.shown j ≡ some l → i < k.log → l.place ≡ log_at k + i → HasEvent (history_of k p) (i + 1) (event_of k p.regions l.word)
loaded_event k p a j i l agrees there inside place = let stands = (agrees.shown j l there).log i inside place in subst (λ (w : ℕ). HasEvent (history_of k p) (i + 1) (event_of k p.regions w)) stands.1 (event_shown k p i stands.0)

-- an event of the first events is one of all
pub event_of_first : (h : List Event) (front number : ℕ) (e : Event) → front ≤ length h → HasEvent (take front h) number e → HasEvent h number e × (number ≤ front)
event_of_first h front number e few has =
    let within : number - 1 < front = omega (arith, slice_get_within (take front h) (number - 1) e has.1, length-take-le front h few) in (
      (has.0, slice_get-get_or h (number - 1) e (omega (arith, within, few)) ∙ ap (λ (y : Event). Some y) (sym (get_or-take front h (number - 1) e within) ∙ get_or_from_slice_get (take front h) (number - 1) e e has.1)),
      omega (arith, has.0, within),
    )

pub unknown_zero : (h : List Event) → ¬ (IsPublished h 0)
unknown_zero h (name, mol, p) = let above : 1 ≤ 0 = p.event.0 in absurd (omega arith)

pub unknown_past : (h : List Event) (front number : ℕ) → front ≤ length h → front < number → ¬ (IsPublished (take front h) number)
unknown_past h front number few past (name, mol, p) = let within = (event_of_first h front number (Publish p.caller name mol) few p.event).1 in absurd (omega arith)

-- a withdrawal's word
withdrawal_shown : (k : Shape) (regions : ℕ → ℕ) (word : ℕ) → kind_in word ≡ 2 → event_of k regions word ≡ Withdraw (loader_in word) (target_in word)
withdrawal_shown k regions word two = ap (λ (b : Bool). cond b (Withdraw (loader_in word) (target_in word)) (Publish (loader_in word) (name_in (block_at k regions (target_in word))) (molecule_in (block_at k regions (target_in word))))) (eq-eqb (kind_in word) 2 two)

two_events : (h : List Event) (number caller loader target : ℕ) (name : List ℕ) (mol : Molecule) → HasEvent h number (Withdraw loader target) → HasEvent h number (Publish caller name mol) → ⊥
two_events h number caller loader target name mol a b = clash (sym a.1 ∙ b.1)
  where
    clash : Some (Withdraw loader target) ≡ Some (Publish caller name mol) → ⊥
    clash e = absurd cc

pub unknown_kind : (k : Shape) (p : Parts) (a : Account) (j i front : ℕ) (l : ShownLoad) → Agrees k p a → get_elem? a.loads.shown j ≡ some l → i < k.log → l.place ≡ log_at k + i → kind_in l.word ≡ 2 → front ≤ length (history_of k p) → ¬ (IsPublished (take front (history_of k p)) (i + 1))
unknown_kind k p a j i front l agrees there inside place two few (name, mol, public) =
    let has : HasEvent (history_of k p) (i + 1) (Withdraw (loader_in l.word) (target_in l.word)) = subst (HasEvent (history_of k p) (i + 1)) (withdrawal_shown k p.regions l.word two) (loaded_event k p a j i l agrees there inside place) in
    two_events (history_of k p) (i + 1) public.caller (loader_in l.word) (target_in l.word) name mol has (event_of_first (history_of k p) front (i + 1) (Publish public.caller name mol) few public.event).0
