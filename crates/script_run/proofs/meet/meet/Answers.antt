use Rattle.std.proofs.Common.{◌≤◌, List, map, All, sym, subst}
use Rattle.board.specs.Seated.{IsOf, Seated}
use Rattle.script_run.proofs.Meets.{all_first, all_met, all_others}
use Rattle.script_run.proofs.meet.meet.Goals as goal

pub hear_all-requires-clause-others : goal.hear_all-requires-clause-others
hear_all-requires-clause-others g c = all_others (λ (x : Seated). IsOf c.args.board.now x) (λ w. w.caller) c.args.workers.now c.in-Some.first.now c.in-Some.others.now c.in-Some.ensures.cases.0 c.requires

pub tell_all-requires-clause-fits : goal.tell_all-requires-clause-fits
tell_all-requires-clause-fits g c =
    let of = all_first (λ (x : Seated). IsOf c.args.board.now x) (λ w. w.caller) c.args.workers.now c.in-Some.first.now c.in-Some.others.now c.in-Some.ensures.cases.0 c.requires in
    subst (λ (x : Seated). IsOf c.args.board.now x) (sym c.hear_all.ensures.after.2) (record { table = of.table; shape = of.shape })

pub tell_all-requires-clause-others : goal.tell_all-requires-clause-others
tell_all-requires-clause-others g c = subst (λ (l : List Seated). All (λ (x : Seated). IsOf c.args.board.now x) l) (sym c.hear_all.ensures.same)
    (all_others (λ (x : Seated). IsOf c.args.board.now x) (λ w. w.caller) c.args.workers.now c.in-Some.first.now c.in-Some.others.now c.in-Some.ensures.cases.0 c.requires)

pub tell_all-requires-clause-most : goal.tell_all-requires-clause-most
tell_all-requires-clause-most g c =
    let heard = c.hear_all.ensures.after in
    subst (λ (x : Seated). All (λ (y : Seated). y.account.log.seen ≤ x.account.log.seen) (map (λ w. w.caller) c.hear_all.new.others)) (sym heard.2)
    (subst (λ (l : List Seated). All (λ (y : Seated). y.account.log.seen ≤ heard.0) l) (sym c.hear_all.ensures.same) heard.1.seen_within)

pub returns-in-Some-clause-after : goal.returns-in-Some-clause-after
returns-in-Some-clause-after g c =
    let heard = c.hear_all.ensures.after in
    all_met (λ w. w.caller) c.args.workers.now c.in-Some.first.now c.in-Some.others.now heard.0 c.hear_all.new.caller c.tell_all.new.caller (map (λ w. w.caller) c.hear_all.new.others)
    (map (λ w. w.caller) c.tell_all.new.others) c.in-Some.ensures.cases.0 heard.1 heard.2 c.hear_all.ensures.same c.tell_all.ensures.same c.tell_all.ensures.after
