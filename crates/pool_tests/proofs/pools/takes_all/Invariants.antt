use Rattle.std.proofs.Common.{◌<◌}
use Rattle.board_core.specs.Loaded.{HasOwn}
use Rattle.pool_tests.specs.Ready.{IsReady}
use Rattle.pool_tests.proofs.pools.takes_all.Given as goal

abbrev pub invariant-loop-page : goal.invariant-loop-page
invariant-loop-page l = record {
  ready : IsReady l.board l.caller l.page;
  own : 16 < l.page → HasOwn l.caller.account 16;
}
