use Rattle.std.proofs.Common.{[]}
use Rattle.board.specs.Seated.{IsOf, IsLoader}
use Rattle.class_tree.specs.Inserting.{IsStocked}
use Rattle.loader.specs.Stages.{HasRows}
use Rattle.loader.proofs.rows.insert_rows.Given as goal

abbrev pub invariant-loop-index : goal.invariant-loop-index
invariant-loop-index l = record {
  of : IsOf l.board l.caller;
  loader : IsLoader l.caller;
  stocked : IsStocked l.caller;
  rows : HasRows l.fn.caller.account l.caller.account l.block l.index l.index [];
}
