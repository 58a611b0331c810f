use Rattle.std.proofs.Common.{refl, rules}
use Rattle.board_jobs.proofs.Withdrawing.{withdrawn-at, withdrawn-refused, on-withdrawn}
use Rattle.board_jobs.proofs.jobs.withdraw.Goals as goal

pub returns-in-Ok-clause-answered : goal.returns-in-Ok-clause-answered
returns-in-Ok-clause-answered g c =
    let told = c.in-Ok.ensures.ok in
    withdrawn-at c.args.board.now c.args.caller.now c.lock-locked.new.caller c.withdraw.new.caller c.args.number c.lock-locked.result _ c.lock-locked.ensures.account c.lock-locked.ensures.later told.0 told.2

pub returns-in-Ok-clause-goes_on : goal.returns-in-Ok-clause-goes_on
returns-in-Ok-clause-goes_on g c =
    let told = c.in-Ok.ensures.ok in
    on-withdrawn c.args.board.now c.args.caller.now c.lock-locked.new.caller c.withdraw.new.caller c.args.number c.lock-locked.result _ _ _ c.requires.work c.in-Ok.ensures.of c.in-Ok.ensures.stock c.lock-locked.ensures.account told.2
    (withdrawn-at c.args.board.now c.args.caller.now c.lock-locked.new.caller c.withdraw.new.caller c.args.number c.lock-locked.result _ c.lock-locked.ensures.account c.lock-locked.ensures.later told.0 told.2)

pub returns-in-Err-Unknown-clause-answered : goal.returns-in-Err-Unknown-clause-answered
returns-in-Err-Unknown-clause-answered g c =
    let told = c.in-Err-Unknown.ensures.refused in
    withdrawn-refused c.args.board.now c.args.caller.now c.lock-locked.new.caller c.withdraw.new.caller c.args.number c.lock-locked.result _ _ (search rules) c.lock-locked.ensures.account c.lock-locked.ensures.later told.0 told.1

pub returns-in-Err-Unknown-clause-goes_on : goal.returns-in-Err-Unknown-clause-goes_on
returns-in-Err-Unknown-clause-goes_on g c =
    let told = c.in-Err-Unknown.ensures.refused in
    on-withdrawn c.args.board.now c.args.caller.now c.lock-locked.new.caller c.withdraw.new.caller c.args.number c.lock-locked.result _ _ _ c.requires.work c.in-Err-Unknown.ensures.of c.in-Err-Unknown.ensures.stock c.lock-locked.ensures.account told.1
    (withdrawn-refused c.args.board.now c.args.caller.now c.lock-locked.new.caller c.withdraw.new.caller c.args.number c.lock-locked.result _ _ refl c.lock-locked.ensures.account c.lock-locked.ensures.later told.0 told.1)

pub returns-in-Err-Gone-clause-answered : goal.returns-in-Err-Gone-clause-answered
returns-in-Err-Gone-clause-answered g c =
    let told = c.in-Err-Gone.ensures.refused in
    withdrawn-refused c.args.board.now c.args.caller.now c.lock-locked.new.caller c.withdraw.new.caller c.args.number c.lock-locked.result _ _ (search rules) c.lock-locked.ensures.account c.lock-locked.ensures.later told.0 told.1

pub returns-in-Err-Gone-clause-goes_on : goal.returns-in-Err-Gone-clause-goes_on
returns-in-Err-Gone-clause-goes_on g c =
    let told = c.in-Err-Gone.ensures.refused in
    on-withdrawn c.args.board.now c.args.caller.now c.lock-locked.new.caller c.withdraw.new.caller c.args.number c.lock-locked.result _ _ _ c.requires.work c.in-Err-Gone.ensures.of c.in-Err-Gone.ensures.stock c.lock-locked.ensures.account told.1
    (withdrawn-refused c.args.board.now c.args.caller.now c.lock-locked.new.caller c.withdraw.new.caller c.args.number c.lock-locked.result _ _ refl c.lock-locked.ensures.account c.lock-locked.ensures.later told.0 told.1)

pub returns-in-Err-LogFull-clause-answered : goal.returns-in-Err-LogFull-clause-answered
returns-in-Err-LogFull-clause-answered g c =
    let told = c.in-Err-LogFull.ensures.refused in
    withdrawn-refused c.args.board.now c.args.caller.now c.lock-locked.new.caller c.withdraw.new.caller c.args.number c.lock-locked.result _ _ (search rules) c.lock-locked.ensures.account c.lock-locked.ensures.later told.0 told.1

pub returns-in-Err-LogFull-clause-goes_on : goal.returns-in-Err-LogFull-clause-goes_on
returns-in-Err-LogFull-clause-goes_on g c =
    let told = c.in-Err-LogFull.ensures.refused in
    on-withdrawn c.args.board.now c.args.caller.now c.lock-locked.new.caller c.withdraw.new.caller c.args.number c.lock-locked.result _ _ _ c.requires.work c.in-Err-LogFull.ensures.of c.in-Err-LogFull.ensures.stock c.lock-locked.ensures.account told.1
    (withdrawn-refused c.args.board.now c.args.caller.now c.lock-locked.new.caller c.withdraw.new.caller c.args.number c.lock-locked.result _ _ refl c.lock-locked.ensures.account c.lock-locked.ensures.later told.0 told.1)
