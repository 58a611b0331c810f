-- The last mark of a block that an event shows is the number of the event, if any, that withdraws it.
use Rattle.std.proofs.Common.{◌≡◌, ◌↔◌, ℕ, ◌+◌, ◌-◌, ◌<◌, ◌≤◌, Bool, cond, List, sym, ap, ◌∙◌, subst, arith, ne_eqb}
use mathlib.Core.Logic.{dite}
use native.Mathlib.Decide.{ℕ_discrete}
use Rattle.htss_defs.specs.declared.shape.Shape.{Shape}
use Rattle.htss_defs.specs.declared.history.Event.TheVariants.{Publish, Withdraw}
use Rattle.htss_defs.specs.Molecule.{Molecule}
use Rattle.htss_defs.specs.History.{HasEvent, Withdraws}
use Rattle.board_core.specs.declared.account.View.{View}
use Rattle.board_core.specs.Words.{Parts}
use Rattle.board_core.specs.LogWord.{kind_in, loader_in, target_in}
use Rattle.board_core.specs.Blocks.{shown_at, ended_at, name_in, molecule_in}
use Rattle.board_core.specs.Histories.{block_at, event_of, history_of}
use Rattle.board_core.specs.RoomRule.{SomeAccount, RoomRule}
use Rattle.board_core.specs.MarkRule.{ShowsAt, EndsAt, MarkFits, is_shown_by, is_ended_by, MarkRule}
use Rattle.board_core.proofs.EventAt.{event_shown, event_stands}
use Rattle.board_core.proofs.MarkShow.{withdrawal_event}

-- ---- the word of a withdrawal

same_target : {loader caller target number : ℕ} → Withdraw loader target ≡ Withdraw caller number → target ≡ number
same_target e = cc

not_published : {loader caller number : ℕ} {name : List ℕ} {mol : Molecule} → Publish loader name mol ≡ Withdraw caller number → ⊥
not_published e = absurd cc

publication_event : (k : Shape) (regions : ℕ → ℕ) (word : ℕ) → ¬ (kind_in word ≡ 2) → event_of k regions word ≡ Publish (loader_in word) (name_in (block_at k regions (target_in word))) (molecule_in (block_at k regions (target_in word)))
publication_event k regions word other =
    let block : ℕ → ℕ = block_at k regions (target_in word) in ap (λ (b : Bool). cond b (Withdraw (loader_in word) (target_in word)) (Publish (loader_in word) (name_in block) (molecule_in block))) (ne_eqb (kind_in word) 2 other)

withdrawal_word : (k : Shape) (regions : ℕ → ℕ) (word caller number : ℕ) → event_of k regions word ≡ Withdraw caller number → (kind_in word ≡ 2) × (target_in word ≡ number)
withdrawal_word k regions word caller number is = dite (ℕ_discrete (kind_in word) 2)
    (λ two. (two, same_target (sym (withdrawal_event k regions word two) ∙ is)))
    (λ other. absurd (not_published (sym (publication_event k regions word other) ∙ is)))

-- ---- the marks of a block that an event shows

-- the two marks of one block, as the rule has them of sealed blocks
record HasMarks (k : Shape) (p : Parts) (vs : List View) (block : ℕ) : Type 0 where
  first : MarkFits p.log.front (ShowsAt p.log.front p.log.slots block) (SomeAccount (is_shown_by block) vs) (block_at k p.regions block shown_at)
  last : MarkFits p.log.front (EndsAt p.log.front p.log.slots block) (SomeAccount (is_ended_by block) vs) (block_at k p.regions block ended_at)

has_marks : (k : Shape) (p : Parts) (vs : List View) (i : ℕ) → MarkRule k p.regions p.log.front p.log.slots vs → RoomRule k p.regions p.log.front p.log.slots vs → i < p.log.front → ¬ (kind_in (p.log.slots i) ≡ 2) → HasMarks k p vs (target_in (p.log.slots i))
has_marks k p vs i r rooms behind kind =
    let (j, u, there, n, a, here, shown) = rooms.named i behind kind in
    let (b, s, in_list, place) = shown.1 in
    let f = r.marks j u there n a here b s in_list in subst (HasMarks k p vs) place record { first = f.first; last = f.last }

-- a log word behind the front shows its own block
pub shows_here : (p : Parts) (i : ℕ) → i < p.log.front → ¬ (kind_in (p.log.slots i) ≡ 2) → ShowsAt p.log.front p.log.slots (target_in (p.log.slots i)) (i + 1)
shows_here p i behind kind = let back : i + 1 - 1 ≡ i = omega arith in record {
  above = omega arith;
  within = omega arith;
  kind = subst (λ (z : ℕ). ¬ (kind_in (p.log.slots z) ≡ 2)) (sym back) kind;
  names = ap (λ (z : ℕ). target_in (p.log.slots z)) back;
}

-- the publication that the withdrawal names is of the same block, and that has one publication: so the number is the same
mark_withdraws : (k : Shape) (p : Parts) (vs : List View) (block number at : ℕ) → HasMarks k p vs block → ShowsAt p.log.front p.log.slots block number → 0 < at → at ≤ p.log.front → block_at k p.regions block ended_at ≡ at → Withdraws (history_of k p) at number
mark_withdraws k p vs block number at m shown above within is =
    let told = m.last.told (omega arith) (omega arith) in
    let ends : EndsAt p.log.front p.log.slots block at = subst (EndsAt p.log.front p.log.slots block) is told in
    let word : ℕ = p.log.slots (at - 1) in
    let target : target_in word ≡ number = sym (m.first.stands (target_in word) ends.shown) ∙ m.first.stands number shown in
    let next : at - 1 + 1 ≡ at = omega arith in record {
      caller = loader_in word;
      event = subst (λ (z : ℕ). HasEvent (history_of k p) z (Withdraw (loader_in word) number)) next
          (subst (HasEvent (history_of k p) (at - 1 + 1)) (withdrawal_event k p.regions word ends.kind ∙ ap (λ (z : ℕ). Withdraw (loader_in word) z) target) (event_shown k p (at - 1) (omega arith)));
    }

withdraws_mark : (k : Shape) (p : Parts) (vs : List View) (block number at : ℕ) → HasMarks k p vs block → ShowsAt p.log.front p.log.slots block number → Withdraws (history_of k p) at number → block_at k p.regions block ended_at ≡ at
withdraws_mark k p vs block number at m shown w =
    let stands = event_stands k p at (Withdraw w.caller number) w.event in
    let word : ℕ = p.log.slots (at - 1) in
    let is = withdrawal_word k p.regions word w.caller number stands.1 in
    let above : 1 ≤ at = w.event.0 in
    m.last.stands at record { above = omega arith; within = stands.0; kind = is.0; shown = subst (ShowsAt p.log.front p.log.slots block) (sym is.1) shown }

pub known_marks : (k : Shape) (p : Parts) (vs : List View) → MarkRule k p.regions p.log.front p.log.slots vs → RoomRule k p.regions p.log.front p.log.slots vs → (i at : ℕ) → i < p.log.front → ¬ (kind_in (p.log.slots i) ≡ 2) → 0 < at → at ≤ p.log.front
    → (block_at k p.regions (target_in (p.log.slots i)) ended_at ≡ at ↔ Withdraws (history_of k p) at (i + 1))
known_marks k p vs r rooms i at behind kind above within =
    let block : ℕ = target_in (p.log.slots i) in
    let m = has_marks k p vs i r rooms behind kind in
    let shown = shows_here p i behind kind in (
      mark_withdraws k p vs block (i + 1) at m shown above within,
      withdraws_mark k p vs block (i + 1) at m shown,
    )
