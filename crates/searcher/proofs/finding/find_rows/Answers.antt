use Rattle.std.proofs.Common.{ℕ, List, sym, subst}
use Rattle.board_core.specs.declared.room.Row.{Row}
use Rattle.descent.specs.Answered.{HasSwept}
use Rattle.searcher.specs.Finding.{IsNeedOf}
use Rattle.searcher.proofs.Found.{by_answer, on_ok, all_given, visits_quiet, visits_swept, found_swept}
use Rattle.searcher.proofs.finding.find_rows.Goals as goal

pub returns-clause-found : goal.returns-clause-found
returns-clause-found c =
    let need : IsNeedOf c.args.query.now c.pivot_need-need.result = record { pivot = c.pivot_need-need.ensures.0; is_pivot = c.pivot_need-need.ensures.1; is = c.pivot_need-need.ensures.2 } in
    on_ok c.descend-rows.result c.descend-rows.ensures.swept
    (λ n s. found_swept c.args.caller.now c.pin.new.caller c.descend-rows.new.caller c.unpin.new.caller c.pin.ensures c.unpin.ensures c.args.board.now.shape c.args.query.now c.pivot_need-need.result need c.descend-rows.new.sink.rows.items n
    (subst (λ (given : List Row). HasSwept c.args.board.now.shape c.pivot_need-need.result c.pin.new.caller c.descend-rows.new.caller given n) (sym (all_given c.args.found.now.rows.items c.descend-rows.new.sink.rows.items s.0 c.requires.empty s.1)) s.2))

pub returns-clause-visits : goal.returns-clause-visits
returns-clause-visits c =
    let need : IsNeedOf c.args.query.now c.pivot_need-need.result = record { pivot = c.pivot_need-need.ensures.0; is_pivot = c.pivot_need-need.ensures.1; is = c.pivot_need-need.ensures.2 } in
    by_answer c.descend-rows.result c.descend-rows.ensures.swept c.descend-rows.ensures.cut
    (λ n s. visits_swept c.args.caller.now c.pin.new.caller c.descend-rows.new.caller c.unpin.new.caller c.pin.ensures c.unpin.ensures c.args.board.now.shape c.args.query.now c.pivot_need-need.result need s.0 n s.2)
    (λ e o. visits_quiet c.args.caller.now c.pin.new.caller c.descend-rows.new.caller c.unpin.new.caller c.pin.ensures c.unpin.ensures o.only)
