use Rattle.std.proofs.Common.{◌≡◌, ℕ, ◌-◌, ◌<◌, ◌≤◌, List, length, get_or, refl, sym, ap, ◌∙◌, arith}
use Rattle.std.specs.Prelude.{Some, slice_get}
use Rattle.std.proofs.lemmas.Bool.{false≢true}
use Rattle.std.proofs.lemmas.List.{get_or_default}
use Rattle.std.proofs.lemmas.Option.{slice_get-get_or}
use Rattle.htss_defs.specs.declared.history.Event.TheVariants.{Publish, Withdraw}
use Rattle.report_text.specs.declared.report.LogLine.{LogLine}
use Rattle.told_history.proofs.TellEvents.{other_line, other_molecule, publication_is}
use Rattle.told_history.proofs.events.is_publication.Goals as goal

pub returns-then-is_line_of-clause-is : goal.returns-then-is_line_of-clause-is
returns-then-is_line_of-clause-is c = λ is history tells.
    publication_is c.args.told.now history c.args.number c.args.loader c.args.name.now c.args.mol.now (get_or c.args.told.now.lines.now (c.args.number - 1) c.index-told-index.result) (get_or c.args.told.now.table.now (c.args.number - 1) c.index-told-index-then-is_line_of.result) tells (omega (arith, c.if-number-eq0.false))
    (slice_get-get_or c.args.told.now.lines.now (c.args.number - 1) c.index-told-index.result (omega (arith, c.if-index-told.false)))
    (c.is_line_of.ensures.0 c.if-is_line_of.true) (omega (arith, c.if-index-told.false, c.requires.table)) (get_or_default c.args.told.now.table.now (c.args.number - 1) _ _ (omega (arith, c.if-index-told.false, c.requires.table))) (c.is_named_by.ensures.is is)

pub returns-then-is_line_of-clause-other : goal.returns-then-is_line_of-clause-other
returns-then-is_line_of-clause-other c = λ no history tells has logged.
    other_molecule c.args.told.now history c.args.number c.args.loader c.args.name.now c.args.mol.now (get_or c.args.told.now.table.now (c.args.number - 1) c.index-told-index-then-is_line_of.result) tells
    (omega (arith, c.if-index-told.false, c.requires.table)) (get_or_default c.args.told.now.table.now (c.args.number - 1) _ _ (omega (arith, c.if-index-told.false, c.requires.table))) (c.is_named_by.ensures.other no) has

pub returns-else-is_line_of-clause-other : goal.returns-else-is_line_of-clause-other
returns-else-is_line_of-clause-other c = λ no history tells has logged.
    other_line c.args.told.now history c.args.number c.args.loader c.args.name.now c.args.mol.now (get_or c.args.told.now.lines.now (c.args.number - 1) c.index-told-index.result)
    (slice_get-get_or c.args.told.now.lines.now (c.args.number - 1) c.index-told-index.result (omega (arith, c.if-index-told.false)))
    (λ is. false≢true (sym no ∙ c.is_line_of.ensures.1 is)) has logged
