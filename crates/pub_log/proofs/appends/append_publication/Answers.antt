use Rattle.std.proofs.Common.{ℕ, ◌^◌, ◌<◌, refl, arith, sym, subst, ap, ◌∙◌, ◌+◌, ◌*◌}
use Rattle.board_core.specs.After.{after_shows}
use Rattle.board.specs.Seated.{with_account}
use Rattle.pub_log.proofs.Additions.{may_publish, may_log_publication, publication_added}
use Rattle.pub_log.proofs.appends.append_publication.Goals as goal

pub store_shown-requires-clause-may : goal.store_shown-requires-clause-may
store_shown-requires-clause-may c = may_publish _ _ _ _ c.block-block.ensures c.requires.held c.requires.room c.requires.staged

pub store_log_word-requires-clause-may : goal.store_log_word-requires-clause-may
store_log_word-requires-clause-may c =
    let few : c.number-loader.result < 2 ^ 8 = omega arith in
    may_log_publication _ _ _ _ c.number-loader.result _ c.store_shown.ensures c.requires.held c.requires.room c.requires.loader c.number-loader.ensures few (subst (λ (z : ℕ). z < 2 ^ 40) (sym c.block-block.ensures) c.requires.small) refl

pub returns : goal.returns
returns c =
    let few : c.number-loader.result < 2 ^ 8 = omega arith in
    publication_added _ _ _ _ _ _ _ c.number-loader.result _ c.requires.staged c.number-loader.ensures few c.requires.small
    (ap (λ (z : ℕ). z + 2 ^ 40 * c.number-loader.result + 2 ^ 48 * 1) c.block-block.ensures)
    (c.store_shown.ensures ∙ ap (λ (z : ℕ). with_account c.args.caller.now (after_shows c.args.caller.now.account z)) c.block-block.ensures) c.store_log_word.ensures c.show_event.ensures c.free_lock.ensures
