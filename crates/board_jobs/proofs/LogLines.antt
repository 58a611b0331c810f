-- The lines of the log have their values in range.
use Rattle.std.proofs.Common.{◌≡◌, ℕ, ◌+◌, ◌-◌, ◌≤◌, Bool, true, false, cond, List, length, get_or, subst, All, arith, eq-eqb}
use Rattle.std.specs.Prelude.{Some, slice_get, ◌==◌}
use Rattle.std.proofs.lemmas.Bool.{false≢true}
use Rattle.std.proofs.lemmas.List.Elements.{All-from_get_or}
use Rattle.std.proofs.lemmas.Option.{slice_get-get_or}
use Rattle.htss_defs.specs.declared.history.Event.{Event}
use Rattle.htss_defs.specs.declared.history.Event.TheVariants.{Publish, Withdraw}
use Rattle.htss_defs.specs.declared.shape.Shape.{Shape}
use Rattle.htss_defs.specs.declared.shape.Field.TheVariants.{Loaders, Log}
use Rattle.htss_defs.specs.History.{HasEvent}
use Rattle.htss_defs.specs.Molecule.{Molecule}
use Rattle.htss_defs.specs.Name.{IsName}
use Rattle.htss_defs.specs.Shapes.{IsShape}
use Rattle.report_text.specs.Values.{IsLogLine}
use Rattle.report_rules.specs.Reports.{log_line, IsByItsLoader}
use Rattle.board_core.specs.Blocks.{name_in, molecule_in}
use Rattle.board_core.specs.Histories.{block_at, history_of, shown_by}
use Rattle.board_core.specs.LogWord.{kind_in, loader_in, target_in}
use Rattle.board_core.specs.Records.{IsRecord}
use Rattle.board_core.specs.Steps.{Known}
use Rattle.board_core.specs.Words.{Parts}
use Rattle.board_core.proofs.EventAt.{event_stands}

-- the record of a publication has a name, and as many atoms and bonds as a molecule may have
record IsOfRecord (name : List ℕ) (mol : Molecule) : Type 0 where
  pub named : IsName name
  pub atoms : length mol.atoms ≤ 999
  pub bonds : length mol.bonds ≤ 999

shown_record : (block : ℕ → ℕ) (word caller : ℕ) (name : List ℕ) (mol : Molecule) → (¬ (kind_in word ≡ 2) → IsRecord block) → shown_by block word ≡ Publish caller name mol → IsOfRecord name mol
shown_record block word caller name mol record_is shown = go (kind_in word == 2) (λ two. eq-eqb (kind_in word) 2 two) shown
  where
    go : (two : Bool) → (kind_in word ≡ 2 → two ≡ true) → cond two (Withdraw (loader_in word) (target_in word)) (Publish (loader_in word) (name_in block) (molecule_in block)) ≡ Publish caller name mol → IsOfRecord name mol
    go true is same = absurd cc
    go false is same =
        let r = record_is (λ two. false≢true (is two)) in
        let named : name_in block ≡ name = cc same in
        let made : molecule_in block ≡ mol = cc same in
        subst (λ (m : Molecule). IsOfRecord name m) made
        (subst (λ (n : List ℕ). IsOfRecord n (molecule_in block)) named (record { named = r.name; atoms = r.molecule.atoms.1; bonds = r.molecule.bonds }))

event_line : (k : Shape) (p : Parts) (number : ℕ) (e : Event) → IsShape k → Known k p → HasEvent (history_of k p) number e → IsByItsLoader k e → IsLogLine (log_line e)
event_line k p number (Publish caller name mol) shape known has by =
    let stands = event_stands k p number (Publish caller name mol) has in
    let some = has.0 in
    let r = shown_record (block_at k p.regions (target_in (p.log.slots (number - 1)))) (p.log.slots (number - 1)) caller name mol
    (known.blocks.records (number - 1) (omega (arith, some, stands.0))) stands.1 in
    (omega (arith, by.1, (shape Loaders).1), omega (arith, r.atoms), omega (arith, r.bonds), r.named)
event_line k p number (Withdraw caller target) shape known has by =
    let stands = event_stands k p number (Withdraw caller target) has in
    let before = (known.legal.earlier number target (record { caller = caller; event = has })).0 in
    (omega (arith, by.1, (shape Loaders).1), omega (arith, before, stands.0, known.front, (shape Log).1))

-- the events that the words show, each by a loader of the board, have lines whose values are in range
pub log_lines : (k : Shape) (p : Parts) → IsShape k → Known k p → All (IsByItsLoader k) (history_of k p) → All (λ e. IsLogLine (log_line e)) (history_of k p)
log_lines k p shape known by =
    All-from_get_or (λ e. IsLogLine (log_line e)) (history_of k p) no_event
    (λ i within.
    let has : HasEvent (history_of k p) (i + 1) (get_or (history_of k p) i no_event) =
    (omega arith, subst (λ (n : ℕ). slice_get (history_of k p) n ≡ Some (get_or (history_of k p) i no_event)) (omega arith) (slice_get-get_or (history_of k p) i no_event within)) in
    event_line k p (i + 1) (get_or (history_of k p) i no_event) shape known has (by i no_event within))
  where
    no_event : Event
    no_event = Withdraw 0 0
