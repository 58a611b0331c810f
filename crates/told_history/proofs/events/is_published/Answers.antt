use Rattle.std.proofs.Common.{◌≡◌, ℕ, ◌-◌, ◌<◌, ◌≤◌, List, length, get_or, refl, sym, ap, ◌∙◌, arith}
use Rattle.std.specs.Prelude.{Some, slice_get}
use Rattle.std.proofs.lemmas.Bool.{false≢true}
use Rattle.std.proofs.lemmas.Option.{slice_get-get_or}
use Rattle.htss_defs.specs.declared.history.Event.TheVariants.{Publish, Withdraw}
use Rattle.report_text.specs.declared.report.LogLine.{LogLine}
use Rattle.told_history.proofs.TellEvents.{not_shown, shown}
use Rattle.told_history.proofs.events.is_published.Goals as goal

pub returns-clause-is : goal.returns-clause-is
returns-clause-is c = λ is history tells.
    shown c.args.told.now history c.args.front c.args.number (get_or c.args.told.now.lines.now (c.args.number - 1) c.index-told-number.result) tells c.requires (omega (arith, c.if-number-eq0.false)) (omega (arith, c.if-number-front.false))
    (slice_get-get_or c.args.told.now.lines.now (c.args.number - 1) c.index-told-number.result (omega (arith, c.if-number-eq0.false, c.if-number-front.false, c.requires)))
    (c.is_publication_line.ensures.0 is)

pub returns-clause-other : goal.returns-clause-other
returns-clause-other c = λ no history tells.
    not_shown c.args.told.now history c.args.front c.args.number (get_or c.args.told.now.lines.now (c.args.number - 1) c.index-told-number.result) tells c.requires
    (slice_get-get_or c.args.told.now.lines.now (c.args.number - 1) c.index-told-number.result (omega (arith, c.if-number-eq0.false, c.if-number-front.false, c.requires)))
    (λ is. false≢true (sym no ∙ c.is_publication_line.ensures.1 is))
