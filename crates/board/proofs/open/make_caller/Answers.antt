use Rattle.std.proofs.Common.{rules, ap, sym, subst, ◌∙◌, refl, arith, ◌<◌, ◌+◌}
use Rattle.htss_defs.specs.declared.shape.Shape.{Shape}
use Rattle.board_core.specs.declared.account.View.{View}
use Rattle.board_core.proofs.SplitCaller.{caller_splits}
use Rattle.board.proofs.Tied.{same_board, low_word, of_shape, of_key, loaders_at_most, searchers_at_most, some_page}
use Rattle.board_core.specs.Loaded.{IsPage}
use Rattle.board_core.specs.Steps.{Mine}
use Rattle.board.specs.Seated.{Place}
use Rattle.board.proofs.Stocks.{stock_empty}
use Rattle.board.proofs.TailWords.{no_tails}
use Rattle.board.proofs.open.make_caller.Goals as goal

pub split_seat-seat-requires : goal.split_seat-seat-requires
split_seat-seat-requires c = (
  same_board _ _ _ _ _ c.board.view_is refl c.requires.table,
  low_word _ _ _ _ _ _ 0 c.board.invariant.1 (omega arith),
  caller_splits _ _ c.args.made _ (ap (λ (v : View). v.me.who) c.requires.opener)
      (of_key (λ (k : Shape). c.args.made < k.loaders + k.searchers) _ _ _ _ c.board.view_is c.board.invariant.0 c.requires.room),
)

pub overflow_add-number-else-loader : goal.overflow_add-number-else-loader
overflow_add-number-else-loader c =
    let room : c.args.made < c.board.inside.shape.loaders + c.board.inside.shape.searchers = of_shape (λ (k : Shape). c.args.made < k.loaders + k.searchers) _ _ _ c.board.view_is c.requires.room in
    let loaders = loaders_at_most _ c.board.invariant.2 in
    let searchers = searchers_at_most _ c.board.invariant.2 in omega arith

pub invariant_of-result : goal.invariant_of-result
invariant_of-result c =
    let shape = ap (λ (x : Place). x.shape) c.board.view_is ∙ sym (ap (λ (m : Mine). m.0.shape) c.split_seat-seat.ensures.4 ∙ ap (λ (v : View). v.shape) c.requires.opener) in (
      search rules,
      search rules,
      search rules,
      search rules,
      search rules,
      search rules,
      stock_empty _ _ _ c.new.ensures,
      subst (λ (k : Shape). IsPage k 1) shape (omega arith, some_page _ c.board.invariant.2),
      no_tails _ _ 4096 _ refl,
    )
