-- The board of a run is closed with the workers that went through its groups.
use Rattle.std.proofs.Common.{◌≡◌, ℕ, List, ◌++◌, length, take, drop, append-nil, sym, ap, subst, ◌∙◌, arith}
use Rattle.std.proofs.lemmas.List.{drop_all, take_all}
use Rattle.htss_defs.specs.declared.shape.Shape.{Shape}
use Rattle.htss_defs.specs.declared.history.Event.{Event}
use Rattle.board.specs.Closed.{Closing, IsSettled, IsShown}
use Rattle.board.specs.Seated.{Place}
use Rattle.script_run.specs.declared.gate.Worker.{Worker}
use Rattle.script_run.specs.Working.{AreCallers}
use Rattle.script_run.specs.Workers.{accounts_of, callers_of}
use Rattle.run_command.specs.Runs.{HasEnd}
use Rattle.run_command.proofs.Running.{IsClosedWith, callers_count}

-- a slice that was lent out, written back
put_back : {A : Type 0} (size : ℕ) (new old : List A) → size ≡ length old → length new ≡ length old → take size (new ++ drop (length new) old) ≡ new
put_back size new old is same =
    ap (λ rest. take size (new ++ rest)) (drop_all (length new) old (omega (arith, same)))
    ∙ ap (take size) (append-nil new)
    ∙ take_all size new (omega (arith, same, is))

module _ {G : Type 0} (b : Place) (size : ℕ) (new old : List (Worker G)) (is : size ≡ length old) (were : AreCallers b (callers_of old)) (are : AreCallers b (callers_of new)) where
  workers_back : take size (new ++ drop (length new) old) ≡ new
  workers_back =
      let before = sym (callers_count old) ∙ were.count in
      let now = sym (callers_count new) ∙ are.count in
      put_back size new old is (now ∙ sym before)

  -- the end of the board, with the accounts that the workers have now
  pub end_back : (history : List Event) → HasEnd b.shape (accounts_of (take size (new ++ drop (length new) old))) history → HasEnd b.shape (accounts_of new) history
  end_back history end = subst (λ (l : List (Worker G)). HasEnd b.shape (accounts_of l) history) workers_back end

  pub closed_back : (k : Shape) (last : Closing) → b.shape ≡ k → last.shape ≡ b.shape → last.accounts ≡ accounts_of (take size (new ++ drop (length new) old))
      → HasEnd b.shape (accounts_of (take size (new ++ drop (length new) old))) last.history → IsSettled last → IsShown last → IsClosedWith k (accounts_of new) last
  closed_back k last shape shape_is accounts end settled shown = record {
    shape_is = shape_is ∙ shape;
    accounts_are = accounts ∙ ap (λ (l : List (Worker G)). accounts_of l) workers_back;
    end = subst (λ (z : Shape). HasEnd z (accounts_of new) last.history) shape (end_back last.history end);
    settled = settled;
    shown = shown;
  }
