use Rattle.board_jobs.proofs.Publishing.{WasStaged, freed_is, publication_is, still_staged, line_taken, taken-full, taken-published, taken-refused, on-full, on-published, on-refused}
use Rattle.std.proofs.Common.{[], ◌∷◌}
use Rattle.board_core.specs.declared.entry.Entry.TheVariants.{LogFull}
use Rattle.board_jobs.proofs.load.publish_one.Goals as goal

pub publish-requires-clause-staged : goal.publish-requires-clause-staged
publish-requires-clause-staged g c = still_staged _ _ _ _ _ c.lock-locked.ensures.account c.in-Ok.ensures.fresh

pub returns-in-Ok-publish-clause-taken : goal.returns-in-Ok-publish-clause-taken
returns-in-Ok-publish-clause-taken g c =
    let told = c.in-Ok-publish.ensures.ok in
    let was : WasStaged c.args.board.now c.args.caller.now c.stage_with.new.caller c.args.name c.args.mol c.in-Ok.staged = record { work = c.requires.work; of = c.in-Ok.ensures.of; stocked = c.in-Ok.ensures.stocked; staged = c.in-Ok.ensures.staged; added = c.in-Ok.ensures.added; room = c.in-Ok.ensures.room } in
    taken-published _ _ _ _ _ _ _ c.in-Ok.staged c.lock-locked.result _ was told.0 c.lock-locked.ensures.later
    (publication_is c.stage_with.new.caller c.lock-locked.new.caller _ c.in-Ok.staged c.lock-locked.result c.lock-locked.ensures.account told.2)

pub returns-in-Ok-publish-clause-goes_on : goal.returns-in-Ok-publish-clause-goes_on
returns-in-Ok-publish-clause-goes_on g c =
    let told = c.in-Ok-publish.ensures.ok in
    let was : WasStaged c.args.board.now c.args.caller.now c.stage_with.new.caller c.args.name c.args.mol c.in-Ok.staged = record { work = c.requires.work; of = c.in-Ok.ensures.of; stocked = c.in-Ok.ensures.stocked; staged = c.in-Ok.ensures.staged; added = c.in-Ok.ensures.added; room = c.in-Ok.ensures.room } in
    on-published _ _ _ _ c.args.place _ _ c.in-Ok.staged c.lock-locked.result _ was told.0 c.lock-locked.ensures.later
    (publication_is c.stage_with.new.caller c.lock-locked.new.caller _ c.in-Ok.staged c.lock-locked.result c.lock-locked.ensures.account told.2)

pub returns-in-Ok-clause-taken : goal.returns-in-Ok-clause-taken
returns-in-Ok-clause-taken g c =
    let told = c.in-Err-publish.ensures.full in
    let was : WasStaged c.args.board.now c.args.caller.now c.stage_with.new.caller c.args.name c.args.mol c.in-Ok.staged = record { work = c.requires.work; of = c.in-Ok.ensures.of; stocked = c.in-Ok.ensures.stocked; staged = c.in-Ok.ensures.staged; added = c.in-Ok.ensures.added; room = c.in-Ok.ensures.room } in
    taken-full _ _ _ _ _ _ _ c.in-Ok.staged c.lock-locked.result _ was told.0 told.1 c.lock-locked.ensures.later
    (freed_is c.stage_with.new.caller c.lock-locked.new.caller _ c.lock-locked.result (LogFull c.lock-locked.result ∷ []) c.lock-locked.ensures.account told.3)

pub returns-in-Ok-clause-goes_on : goal.returns-in-Ok-clause-goes_on
returns-in-Ok-clause-goes_on g c =
    let told = c.in-Err-publish.ensures.full in
    let was : WasStaged c.args.board.now c.args.caller.now c.stage_with.new.caller c.args.name c.args.mol c.in-Ok.staged = record { work = c.requires.work; of = c.in-Ok.ensures.of; stocked = c.in-Ok.ensures.stocked; staged = c.in-Ok.ensures.staged; added = c.in-Ok.ensures.added; room = c.in-Ok.ensures.room } in
    on-full _ _ _ _ c.args.place _ _ c.in-Ok.staged c.lock-locked.result _ was told.0 told.1 c.lock-locked.ensures.later
    (freed_is c.stage_with.new.caller c.lock-locked.new.caller _ c.lock-locked.result (LogFull c.lock-locked.result ∷ []) c.lock-locked.ensures.account told.3)

pub returns-clause-taken : goal.returns-clause-taken
returns-clause-taken g c = line_taken _ _ _ _ _ _ _ c.refused_line.ensures (taken-refused c.args.board.now c.args.caller.now _ c.args.place _ _ _ c.requires.work c.in-Err.ensures.refused c.in-Err.ensures.had_room)

pub returns-clause-goes_on : goal.returns-clause-goes_on
returns-clause-goes_on g c = on-refused c.args.board.now c.args.caller.now _ c.args.place _ _ _ c.requires.work c.in-Err.ensures.of c.in-Err.ensures.stocked c.in-Err.ensures.refused c.in-Err.ensures.had_room
