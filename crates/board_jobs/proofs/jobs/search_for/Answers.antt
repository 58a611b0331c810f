use Rattle.std.proofs.Common.{Err, ap, ◌∙◌}
use Rattle.board_jobs.proofs.Chained.{if_err}
use Rattle.board_jobs.proofs.Searching.{broke-hits, broke-none, told-over, on-hits, on-over, on-none}
use Rattle.board_jobs.proofs.jobs.search_for.Goals as goal

pub returns-in_err-copy-in-Ok-clause-goes_on : goal.returns-in_err-copy-in-Ok-clause-goes_on
returns-in_err-copy-in-Ok-clause-goes_on c =
    let told = c.in-Ok.ensures.found in
    on-hits c.args.board.now c.args.caller.now c.search.new.caller _ _ _ _ _ _ c.requires.work c.in-Ok.ensures.of c.in-Ok.ensures.stock told.0 told.1 c.in-Ok.ensures.records c.in-Ok.ensures.rows
    c.in-Ok.ensures.read c.in-Ok.ensures.whole

pub returns-in_ok-copy-in-Ok-clause-goes_on : goal.returns-in_ok-copy-in-Ok-clause-goes_on
returns-in_ok-copy-in-Ok-clause-goes_on c =
    let told = c.in-Ok.ensures.found in
    on-hits c.args.board.now c.args.caller.now c.search.new.caller _ _ _ _ _ _ c.requires.work c.in-Ok.ensures.of c.in-Ok.ensures.stock told.0 told.1 c.in-Ok.ensures.records c.in-Ok.ensures.rows
    c.in-Ok.ensures.read c.in-Ok.ensures.whole

pub returns-in-Err-OverBudget-clause-told : goal.returns-in-Err-OverBudget-clause-told
returns-in-Err-OverBudget-clause-told c =
    let arm = c.in-Err-OverBudget in
    let told = c.search.ensures.over arm.front (arm.is ∙ ap (λ e. Err e) arm.field-0-is) in
    rw arm.front-is (told-over c.args.board.now c.args.caller.now c.search.new.caller c.args.query.now c.args.budget
    arm.front told.0 told.1 told.3
    (c.search.ensures.read_over arm.front (arm.is ∙ ap (λ e. Err e) arm.field-0-is)))

pub returns-in-Err-OverBudget-clause-goes_on : goal.returns-in-Err-OverBudget-clause-goes_on
returns-in-Err-OverBudget-clause-goes_on c =
    let arm = c.in-Err-OverBudget in
    let told = c.search.ensures.over arm.front (arm.is ∙ ap (λ e. Err e) arm.field-0-is) in
    on-over c.args.board.now c.args.caller.now c.search.new.caller c.args.query.now c.args.budget arm.front c.requires.work c.search.ensures.of c.search.ensures.stock told.0 told.1 told.3
    (c.search.ensures.read_over arm.front (arm.is ∙ ap (λ e. Err e) arm.field-0-is))

pub returns-in-Err-OutOfMemory-clause-goes_on : goal.returns-in-Err-OutOfMemory-clause-goes_on
returns-in-Err-OutOfMemory-clause-goes_on c =
    let arm = c.in-Err-OutOfMemory in
    let told = c.search.ensures.memory (arm.is ∙ ap (λ e. Err e) arm.field-0-is) in
    on-none c.args.board.now c.args.caller.now c.search.new.caller told.0 c.requires.work c.search.ensures.of c.search.ensures.stock told.1

pub returns-in_err-copy-in-Ok-clause-broken : goal.returns-in_err-copy-in-Ok-clause-broken
returns-in_err-copy-in-Ok-clause-broken c =
    let told = c.in-Ok.ensures.found in
    if_err c.from_residual.result
    (broke-hits c.args.board.now c.args.caller.now c.search.new.caller c.args.query.now c.args.budget _ _ _ _
    told.0 told.1 c.in-Ok.ensures.records c.in-Ok.ensures.rows
    c.in-Ok.ensures.read c.in-Ok.ensures.whole)

pub returns-in-Err-OutOfMemory-clause-broken : goal.returns-in-Err-OutOfMemory-clause-broken
returns-in-Err-OutOfMemory-clause-broken c =
    let arm = c.in-Err-OutOfMemory in
    let told = c.search.ensures.memory (arm.is ∙ ap (λ e. Err e) arm.field-0-is) in
    broke-none c.args.board.now c.args.caller.now c.search.new.caller c.args.query.now c.args.budget told.0 told.1
