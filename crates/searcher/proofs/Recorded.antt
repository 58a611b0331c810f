-- The block of a record that is live at a front.
use Rattle.std.proofs.Common.{◌≡◌, ℕ, ◌+◌, ◌-◌, ◌<◌, ◌≤◌, List, length, take, refl, sym, ap, ◌∙◌, subst, arith}
use mathlib.Core.Logic.{dite}
use native.Mathlib.Decide.{ℕ_discrete}
use Rattle.htss_defs.specs.declared.shape.Shape.{Shape}
use Rattle.htss_defs.specs.declared.history.Event.TheVariants.{Publish, Withdraw}
use Rattle.htss_defs.specs.Molecule.{Molecule, IsMolecule}
use Rattle.htss_defs.specs.Marked.{IsMarked}
use Rattle.htss_defs.specs.History.{IsLive}
use Rattle.board_core.specs.declared.account.Account.{Account}
use Rattle.board_core.specs.Words.{Parts}
use Rattle.board_core.specs.LogWord.{kind_in, loader_in, target_in}
use Rattle.board_core.specs.Blocks.{name_in, molecule_in}
use Rattle.board_core.specs.Histories.{block_at, history_of}
use Rattle.board_core.specs.Records.{IsRecord}
use Rattle.board_core.specs.MarkRule.{ShowsAt}
use Rattle.board_core.specs.Steps.{MayBe}
use Rattle.board_core.proofs.Causes.{event_of_first}
use Rattle.board_core.proofs.EventAt.{event_stands}
use Rattle.board_core.proofs.MarkShow.{withdrawal_event}
use Rattle.board_core.proofs.BlockCauses.{publication_shown}

-- the block that the number publishes
pub record LiveBlock (k : Shape) (p : Parts) (front number block : ℕ) (name : List ℕ) (mol : Molecule) : Type 0 where
  pub shows : ShowsAt p.log.front p.log.slots block number
  pub early : number ≤ front
  pub shown : mol ≡ molecule_in (block_at k p.regions block)
  pub named : name ≡ name_in (block_at k p.regions block)
  pub is_record : IsRecord (block_at k p.regions block)

abbrev pub block_of : Parts → ℕ → ℕ
block_of p number = target_in (p.log.slots (number - 1))

not_withdrawn : {loader target caller : ℕ} {name : List ℕ} {mol : Molecule} → Withdraw loader target ≡ Publish caller name mol → ⊥
not_withdrawn e = absurd cc

same_publication : {loader caller : ℕ} {name other : List ℕ} {mol shown : Molecule} → Publish loader other shown ≡ Publish caller name mol → (name ≡ other) × (mol ≡ shown)
same_publication e = (cc, cc)

pub live_block : (k : Shape) (p : Parts) (a : Account) (front number : ℕ) (name : List ℕ) (mol : Molecule) → MayBe k p a → front ≤ length (history_of k p) → IsLive (take front (history_of k p)) number name mol → LiveBlock k p front number (block_of p number) name mol
live_block k p a front number name mol m few live =
    let e = live.published.event in
    let above : 1 ≤ number = e.0 in
    let whole = event_of_first (history_of k p) front number (Publish live.published.caller name mol) few e in
    let stands = event_stands k p number (Publish live.published.caller name mol) whole.0 in
    let word : ℕ = p.log.slots (number - 1) in
    let within = stands.0 in
    let kind : ¬ (kind_in word ≡ 2) = λ two. not_withdrawn (sym (withdrawal_event k p.regions word two) ∙ stands.1) in
    let same = same_publication (sym (publication_shown k p.regions word (target_in word) kind refl) ∙ stands.1) in record {
      shows = record { above = omega arith; within = within; kind = kind; names = refl };
      early = whole.1;
      shown = same.1;
      named = same.0;
      is_record = m.known.blocks.records (number - 1) (omega arith) kind;
    }

pub live_marked : (k : Shape) (p : Parts) (a : Account) (front number : ℕ) (name : List ℕ) (mol : Molecule) → MayBe k p a → front ≤ length (history_of k p) → IsLive (take front (history_of k p)) number name mol → IsMolecule mol × IsMarked mol
live_marked k p a front number name mol m few live =
    let b = live_block k p a front number name mol m few live in (
      subst IsMolecule (sym b.shown) b.is_record.molecule,
      subst IsMarked (sym b.shown) b.is_record.marked,
    )
