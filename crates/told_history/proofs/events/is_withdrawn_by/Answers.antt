use Rattle.std.proofs.Common.{◌≡◌, ℕ, ◌-◌, ◌<◌, ◌≤◌, List, length, get_or, refl, sym, ap, ◌∙◌, arith}
use Rattle.std.specs.Prelude.{Some, slice_get}
use Rattle.std.proofs.lemmas.Bool.{false≢true}
use Rattle.std.proofs.lemmas.Option.{slice_get-get_or}
use Rattle.htss_defs.specs.declared.history.Event.TheVariants.{Publish, Withdraw}
use Rattle.report_text.specs.declared.report.LogLine.{LogLine}
use Rattle.told_history.proofs.TellEvents.{no_event, other_end, end_is}
use Rattle.told_history.proofs.events.is_withdrawn_by.Goals as goal

pub returns-then-index-told-clause-other : goal.returns-then-index-told-clause-other
returns-then-index-told-clause-other c = λ no history tells has. no_event c.args.told.now history c.args.number (Withdraw has.caller c.args.target) tells (omega (arith, c.if-index-told.true)) has.event

pub returns-clause-is : goal.returns-clause-is
returns-clause-is c = λ is history tells.
    end_is c.args.told.now history c.args.number c.args.target (get_or c.args.told.now.lines.now (c.args.number - 1) c.index-told-index.result) tells (omega (arith, c.if-number-eq0.false))
    (slice_get-get_or c.args.told.now.lines.now (c.args.number - 1) c.index-told-index.result (omega (arith, c.if-index-told.false)))
    (c.is_end_of.ensures.0 is)

pub returns-clause-other : goal.returns-clause-other
returns-clause-other c = λ no history tells has.
    other_end c.args.told.now history c.args.number c.args.target (get_or c.args.told.now.lines.now (c.args.number - 1) c.index-told-index.result) tells
    (slice_get-get_or c.args.told.now.lines.now (c.args.number - 1) c.index-told-index.result (omega (arith, c.if-index-told.false)))
    (λ is. false≢true (sym no ∙ c.is_end_of.ensures.1 is)) has
