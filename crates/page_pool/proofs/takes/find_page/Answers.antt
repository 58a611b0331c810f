use Rattle.std.proofs.Common.{ap, ◌∙◌, arith}
use Rattle.htss_defs.specs.declared.shape.Shape.{Shape}
use Rattle.page_pool.specs.Taking.{page_before}
use Rattle.page_pool.proofs.Looks.{none_true}
use Rattle.page_pool.proofs.Giving.{refused, found}
use Rattle.page_pool.proofs.Passing.{scanned_loader, scanned_few, scanned_passed}
use Rattle.board_core.specs.CountRule.{most_own}
use Rattle.page_pool.proofs.takes.find_page.Goals as goal

pub look_round-requires-clause-loader : goal.look_round-requires-clause-loader
look_round-requires-clause-loader c = scanned_loader _ c.args.caller.now _ c.scan_callers-low.ensures.scanned c.requires.loader

pub look_round-requires-clause-few : goal.look_round-requires-clause-few
look_round-requires-clause-few c = scanned_few _ most_own c.args.caller.now _ c.scan_callers-low.ensures.scanned c.requires.few

pub look_round-requires-clause-scanned : goal.look_round-requires-clause-scanned
look_round-requires-clause-scanned c = let all = scanned_passed _ c.args.caller.now _ c.scan_callers-low.ensures.scanned in omega arith

pub note_answers-requires-clause-answers : goal.note_answers-requires-clause-answers
note_answers-requires-clause-answers c = none_true _ _ _ _ _ c.in-None.ensures.none

pub returns-in-None-clause-none : goal.returns-in-None-clause-none
returns-in-None-clause-none c = refused _ _ _ _ c.args.caller.now _ _ _ _ c.scan_callers-low.ensures.scanned c.scan_callers-low.ensures.low c.next_page-next.ensures.value c.in-None.ensures.none c.note_answers.ensures.after
    (c.end_of_round.ensures.before ∙ ap (λ (k : Shape). page_before k.pages c.next_page-next.result) c.shape.ensures.value) c.begin_at-in-None.ensures

pub returns-in-Some-clause-some : goal.returns-in-Some-clause-some
returns-in-Some-clause-some c = (c.in-Some.ensures.some.0, found _ _ c.args.caller.now _ _ _ _ c.scan_callers-low.ensures.scanned c.next_page-next.ensures.value c.in-Some.ensures.some.1 c.begin_at.ensures)
