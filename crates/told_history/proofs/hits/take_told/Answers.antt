use Rattle.std.proofs.Common.{take}
use Rattle.told_history.proofs.LiveTold.{live_none}
use Rattle.told_history.proofs.Surveyed.{surveyed-no_molecule}
use Rattle.reg_model.proofs.Surveying.{surveyed-none_live}
use Rattle.told_history.proofs.hits.take_told.Goals as goal

pub returns-in_default-clause-ok : goal.returns-in_default-clause-ok
returns-in_default-clause-ok c = λ history k next query tells has.
    let s = c.args.survey.now in
    surveyed-none_live s.matcher (take c.args.front history) c.args.number k s.records s.atoms c.args.hits.now.hits next has (c.live_record.ensures.none c.in_default.is history tells)

pub returns-in-None-clause-ok : goal.returns-in-None-clause-ok
returns-in-None-clause-ok c = λ history k next query tells has.
    let s = c.args.survey.now in
    let one = c.in-Some.live in
    surveyed-no_molecule s.matcher (take c.args.front history) c.args.number k s.records s.atoms c.args.hits.now.hits one.name.now query next has
    (live_none (take c.args.front history) c.args.number one.name.now one.mol c.in-None.is (c.in-Some.ensures.live history tells))
