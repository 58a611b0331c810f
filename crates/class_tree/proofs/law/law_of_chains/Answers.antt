use Rattle.board_core.proofs.ManyRows.{many_rows}
use Rattle.class_tree.proofs.law.law_of_chains.Goals as goal

pub returns : goal.returns
returns c = many_rows
