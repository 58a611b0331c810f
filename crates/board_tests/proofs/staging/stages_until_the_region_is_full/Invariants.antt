use Rattle.board.specs.Seated.{IsAtRest}
use Rattle.board_tests.specs.Loading.{CanLoad}
use Rattle.board_tests.proofs.staging.stages_until_the_region_is_full.Given as goal

abbrev pub invariant-loop-wanted : goal.invariant-loop-wanted
invariant-loop-wanted g l = record {
  rest : IsAtRest l.board l.loader;
  loader : CanLoad l.loader;
}
