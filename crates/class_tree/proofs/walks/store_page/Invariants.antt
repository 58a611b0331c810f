use Rattle.class_tree.specs.Stocked.{HasMade}
use Rattle.class_tree.proofs.walks.store_page.Given as goal

abbrev pub invariant-loop-place : goal.invariant-loop-place
invariant-loop-place l = record {
  made : HasMade l.fn.caller l.caller l.own l.header l.first l.place;
}
