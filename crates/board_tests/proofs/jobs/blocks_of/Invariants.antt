use Rattle.board.specs.Seated.{IsLoader}
use Rattle.board_jobs.specs.Calls.{IsAtWork}
use Rattle.board_tests.proofs.jobs.blocks_of.Given as goal

abbrev pub invariant-loop-job : goal.invariant-loop-job
invariant-loop-job g l = record {
  loads : IsAtWork l.board l.loader;
  loader : IsLoader l.loader;
  searches : IsAtWork l.board l.searcher;
}
