use Rattle.std.proofs.Common.{◌+◌, ◌-◌, ap, sym, ◌∙◌}
use Rattle.htss_defs.specs.declared.shape.Shape.{Shape}
use Rattle.board_core.specs.Words.{states_at}
use Rattle.board_core.specs.Loaded.{IsPage}
use Rattle.board.proofs.Tied.{same_table, of_shape, of_key}
use Rattle.board.proofs.PageWords.{state_word, state_asked}
use Rattle.board.proofs.pages.load_state_of.Goals as goal

pub load-requires : goal.load-requires
load-requires g c =
    let page = of_shape (λ (k : Shape). IsPage k c.args.page) _ _ _ c.board.view_is c.requires.page in (
      same_table _ _ _ _ _ _ _ _ _ c.board.view_is c.caller.view_is c.requires.fits,
      state_word _ _ _ _ _ _ _ _ c.board.invariant.1 c.state_place-at.ensures page.0 page.1,
      state_asked _ _ _ _ _ _ _ c.requires.is (c.state_place-at.ensures ∙ ap (λ (k : Shape). states_at k + (c.args.page - 1)) (sym c.board.invariant.0))
          (of_key (λ (k : Shape). IsPage k c.args.page) _ _ _ _ c.board.view_is c.board.invariant.0 c.requires.page),
    )
