use Rattle.std.proofs.Common.{ℕ, List, [], length, ap, ◌∙◌, sym, subst, arith}
use Rattle.atomic_table.specs.Table.{opening}
use Rattle.board_core.specs.Accounts.{opener}
use Rattle.board_core.specs.Holds.{Holds}
use Rattle.board_core.proofs.Opened.{opens}
use Rattle.board.proofs.Tied.{loaders_at_most, searchers_at_most, some_page, some_chain}
use Rattle.board.proofs.open.open_within.Goals as goal

pub of_words-requires : goal.of_words-requires
of_words-requires c = subst (λ (ws : List ℕ). Holds c.args.shape (opening ws [] (opener c.args.shape))) (sym (c.as_slice.ensures.value ∙ c.in_ok-words.ensures)) (opens c.args.shape (some_page _ c.requires) (some_chain _ c.requires))

pub invariant_of-board : goal.invariant_of-board
invariant_of-board c = (
  c.in_ok-table.ensures.5,
  c.in_ok-table.ensures.0 ∙ (ap (λ (ws : List ℕ). length ws) (c.as_slice.ensures.value ∙ c.in_ok-words.ensures) ∙ (opens c.args.shape (some_page _ c.requires) (some_chain _ c.requires)).wide),
  c.requires,
  c.in_ok-table.ensures.1,
)

pub invariant_of-board-2 : goal.invariant_of-board-2
invariant_of-board-2 c = (
  c.in_ok-table.ensures.5,
  c.in_ok-table.ensures.0 ∙ (ap (λ (ws : List ℕ). length ws) (c.as_slice.ensures.value ∙ c.in_ok-words.ensures) ∙ (opens c.args.shape (some_page _ c.requires) (some_chain _ c.requires)).wide),
  c.requires,
  c.in_ok-table.ensures.1,
)

pub overflow_add-count : goal.overflow_add-count
overflow_add-count c = let loaders = loaders_at_most _ c.requires in let searchers = searchers_at_most _ c.requires in omega arith
