-- A run ends with a board, or with a status that is not 0.
use Rattle.std.proofs.Common.{◌≡◌, ℕ, List, inl, inr, sym, subst, ◌∙◌, arith}
use Rattle.std.specs.Prelude.{◌≢◌, Option, None, Some, IfSome}
use mathlib.Core.Logic.{dite}
use native.Mathlib.Decide.{ℕ_discrete}
use Rattle.htss_defs.specs.declared.shape.Shape.{Shape}
use Rattle.board.specs.Closed.{Closing}
use Rattle.outside.specs.Files.{File}
use Rattle.command_ends.specs.Outcomes.{Why, done, status_why, stopped, not_a_command, out_of_memory, script_faulty, read_failed, file_absent, file_too_large}
use Rattle.command_ends.specs.Ends.{IsWritten, SinkSeen}
use Rattle.run_command.specs.Headline.{IsLastOf, IsRunOf}

-- no stop has the status of an end
why_is_no_end : (why : Why) → status_why why ≢ 0
why_is_no_end not_a_command = λ e. absurd (omega arith)
why_is_no_end out_of_memory = λ e. absurd (omega arith)
why_is_no_end (script_faulty line) = λ e. absurd (omega arith)
why_is_no_end (read_failed name) = λ e. absurd (omega arith)
why_is_no_end (file_absent name) = λ e. absurd (omega arith)
why_is_no_end (file_too_large name) = λ e. absurd (omega arith)

stopped_is_no_end : (out out_now : SinkSeen) (status : ℕ) (front : List ℕ) (why : Why) → IsWritten out out_now (stopped front why) status → status ≢ 0
stopped_is_no_end out out_now status front why written = elim written [
  | inl w ↦ λ e. why_is_no_end why (sym w.0 ∙ e)
  | inr w ↦ λ e. let five = w.0 in absurd (omega (arith, five, e))
]

module _ (told : Option (List File)) (script : List ℕ) (shape : Shape) (budget : ℕ) (out out_now : SinkSeen) where
  without : (status : ℕ) (last : Option Closing) → status ≢ 0 → last ≡ None → IsLastOf told script shape budget out out_now status last
  without status last failed none = subst (IsLastOf told script shape budget out out_now status) (sym none) failed

  -- a run that stopped answers no board
  pub last_of_stop : (status : ℕ) (front : List ℕ) (why : Why) (last : Option Closing) → IsWritten out out_now (stopped front why) status → last ≡ None → IsLastOf told script shape budget out out_now status last
  last_of_stop status front why last written none = without status last (stopped_is_no_end out out_now status front why written) none

  -- a run that ended well answers its board, where its text was written
  pub last_of_run : (status : ℕ) (text : List ℕ) (closed : Closing) (last : Option Closing) → IsWritten out out_now (done text) status → IsRunOf told script shape budget text closed
      → (status ≡ 0 → last ≡ Some closed) → (status ≢ 0 → last ≡ None) → IsLastOf told script shape budget out out_now status last
  last_of_run status text closed last written is ended failed = elim written [
    | inl w ↦ subst (IsLastOf told script shape budget out out_now status) (sym (ended w.0)) (w.0, text, is, w.1)
    | inr w ↦ let no_end : status ≢ 0 = λ e. (let five = w.0 in absurd (omega (arith, five, e))) in without status last no_end (failed no_end)
  ]

-- what the board that was closed is known to be, the board that is answered is
pub if_last : (Is : Closing → Type 0) (status : ℕ) (closed : Closing) (last : Option Closing) → Is closed
    → (status ≡ 0 → last ≡ Some closed) → (status ≢ 0 → last ≡ None) → IfSome last Is
if_last Is status closed last is ended failed = dite (ℕ_discrete status 0)
    (λ (e : status ≡ 0). subst (λ (o : Option Closing). IfSome o Is) (sym (ended e)) is)
    (λ (e : status ≢ 0). subst (λ (o : Option Closing). IfSome o Is) (sym (failed e)) tt)
