use Rattle.std.proofs.Common.{arith}
use Rattle.std.proofs.lemmas.List.Sorted.{IsNonDecreasingBy-from_sort}
use Rattle.searcher.proofs.Numbered.{early_shuffled, numbered_shuffled}
use Rattle.searcher.proofs.Screening.{of_rows_shuffled}
use Rattle.searcher.proofs.given.numbers_in_order.Goals as goal

pub returns-clause-early : goal.returns-clause-early
returns-clause-early c =
    let few = c.in_ok-numbers.ensures.early.1 in
    let same = c.sort_unstable.ensures.len in (
      early_shuffled c.args.front c.in_ok-numbers.numbers.items c.sort_unstable.new.self.items c.sort_unstable.ensures.permutation c.in_ok-numbers.ensures.early.0,
      omega arith,
    )

pub returns-clause-all : goal.returns-clause-all
returns-clause-all c = numbered_shuffled c.args.board.now.shape c.numbers_of.new.caller.account c.args.front c.args.rows.now c.in_ok-numbers.numbers.items c.sort_unstable.new.self.items c.sort_unstable.ensures.permutation c.in_ok-numbers.ensures.all

pub returns-clause-rising : goal.returns-clause-rising
returns-clause-rising c = IsNonDecreasingBy-from_sort (λ x. x) c.sort_unstable.new.self.items c.sort_unstable.ensures.sorted

pub returns-clause-of_rows : goal.returns-clause-of_rows
returns-clause-of_rows c = of_rows_shuffled c.args.board.now.shape c.numbers_of.new.caller.account c.args.rows.now c.in_ok-numbers.numbers.items c.sort_unstable.new.self.items c.sort_unstable.ensures.permutation c.in_ok-numbers.ensures.of_rows
