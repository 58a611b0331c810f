use Rattle.std.proofs.Common.{◌+◌, List, ℕ, take, drop, sym, ap, refl, subst, ◌∙◌, arith}
use Rattle.mol_section.specs.Lines.{lines_of}
use Rattle.mol_section.specs.SectionRecord.{Outcome, IsOutcome}
use Rattle.mol_section.specs.Unmarked.{HasGraph}
use Rattle.ctfile.specs.Stream.{ReaderState, TakesRecord, IsWithin, HasEnded, IfUnmarked}
use Rattle.ctfile.proofs.Answered.{IsWithin-taken, TakesRecord-from, TakesRecord-shorter, IfUnmarked-told, IfMarked-more, IfMolecule-told, answer-not_end, IsRecordList-ended, HasRead-record, HasEnded-not}
use Rattle.ctfile.proofs.Marks.{HasMarks-any}
use Rattle.ctfile.proofs.unmarked.UnmarkedReader.next_unmarked.Goals.{then-self, else-self}
use Rattle.ctfile.proofs.unmarked.UnmarkedReader.next_unmarked.Goals as goal

pub returns-in_default-clause-all : goal.returns-in_default-clause-all
returns-in_default-clause-all c =
    elim c.if-self.branch [
      | then-self w ↦ λ is stream outcomes has. IsRecordList-ended stream outcomes c.args.self.now
          (subst (λ (s : ReaderState). HasEnded s) c.self.view_is (record { over = w.if-self.true; blank = c.in_default.ensures.ended w.if-self.true })) has
      | else-self w ↦ λ is stream outcomes has. absurd (cc (w.result-is, is))
    ]

pub overflow_add-self : goal.overflow_add-self
overflow_add-self c =
    let within = IsWithin-taken c.self.inside.finished c.self.inside.pending _ _ c.in-Some.taken.lines _ _ _ c.in-Some.ensures.taken c.self.invariant in
    omega (arith, within.records, within.fits)

pub overflow_add-self-2 : goal.overflow_add-self-2
overflow_add-self-2 c =
    let within = IsWithin-taken c.self.inside.finished c.self.inside.pending _ _ c.in-Some.taken.lines _ _ _ c.in-Some.ensures.taken c.self.invariant in
    omega (arith, within.lines, within.fits)

pub invariant_of-self-2 : goal.invariant_of-self-2
invariant_of-self-2 c =
    subst (λ (rest : List ℕ). IsWithin rest (c.self.inside.place + 1) (c.self.inside.line + c.in-Some.taken.lines) c.self.inside.fed) (sym (c.pass.ensures ∙ ap (drop c.in-Some.taken.bytes) c.in-Some.ensures.same))
    (IsWithin-taken c.self.inside.finished c.self.inside.pending _ _ c.in-Some.taken.lines _ _ _ c.in-Some.ensures.taken c.self.invariant)

abbrev after : goal.After-next_of → ReaderState
after c = record { pending = c.pass.new.self; place = c.self.inside.place + 1; line = c.self.inside.line + c.in-Some.taken.lines; fed = c.self.inside.fed; finished = c.self.inside.finished }

takes : (c : goal.After-next_of) (outcome : Outcome) → IsOutcome (c.self.inside.line + 1) (lines_of (take c.in-Some.taken.section c.bytes.result.now)) outcome → TakesRecord c.args.self.now (after c) outcome
takes c outcome is =
    TakesRecord-from _ _ c.in-Some.taken.section c.in-Some.taken.bytes c.in-Some.taken.lines _ _ _ outcome c.self.view_is c.in-Some.ensures.same c.bytes.ensures c.pass.ensures
    c.in-Some.ensures.taken is

-- what follows from the record that is taken
told : (c : goal.After-next_of) (P : ℕ → Outcome → Type 0) → ((outcome : Outcome) → TakesRecord c.args.self.now (after c) outcome → P (c.self.inside.place + 1) outcome) → IfUnmarked c.next_of.result P
told c P more = IfUnmarked-told P _ _ c.in_ok-outcome.outcome c.next_of.ensures
    (IfMarked-more _ (P (c.self.inside.place + 1)) c.in_ok-outcome.outcome (λ outcome is. more outcome (takes c outcome is)) c.in_ok-outcome.ensures.told)

pub returns-clause-graph : goal.returns-clause-graph
returns-clause-graph c = IfMolecule-told _ _ _ c.in_ok-outcome.outcome c.next_of.ensures (λ name mol is. subst (HasGraph c.read_unmarked.new.graph) is c.in_ok-outcome.ensures.graph)

pub returns-clause-marks : goal.returns-clause-marks
returns-clause-marks c = IfMolecule-told _ _ _ c.in_ok-outcome.outcome c.next_of.ensures (λ name mol is. HasMarks-any mol)

pub returns-clause-taken : goal.returns-clause-taken
returns-clause-taken c = told c _ (λ outcome taken. (refl, taken))

pub returns-clause-read : goal.returns-clause-read
returns-clause-read c = told c _ (λ outcome taken. λ stream outcomes has. HasRead-record stream outcomes _ _ _ taken has)

pub returns-clause-shorter : goal.returns-clause-shorter
returns-clause-shorter c = told c _ (λ outcome taken. TakesRecord-shorter _ _ _ taken)

pub returns-clause-ended : goal.returns-clause-ended
returns-clause-ended c = (
  λ e. absurd (answer-not_end _ _ (sym c.next_of.ensures ∙ e)),
  λ e. absurd (HasEnded-not _ _ _ _ (subst (λ (s : ReaderState). HasEnded s) (sym c.self.view_is) e) c.in-Some.ensures.taken),
)
