use Rattle.std.proofs.Common.{◌≡◌, ◌≤◌, [], length}
use Rattle.board_core.specs.Each.{Each}
use Rattle.board_core.specs.Loaded.{IsInTable, KnowsRow}
use Rattle.board.specs.Seated.{IsOf}
use Rattle.searcher.specs.Records.{AreOfRows}
use Rattle.searcher.specs.Searched.{Loads}
use Rattle.searcher.specs.Walking.{Reads, AreEarly}
use Rattle.searcher.proofs.Numbered.{AreNumberedTo}
use Rattle.searcher.proofs.given.numbers_of.Given as goal

abbrev pub invariant-loop-index : goal.invariant-loop-index
invariant-loop-index l = record {
  of : IsOf l.board l.caller;
  stock : l.caller.stock ≡ l.fn.caller.stock;
  reads : Reads l.fn.caller.account l.caller.account;
  known : Each (λ r. KnowsRow l.caller.account r.block × IsInTable l.board.shape r.block) l.rows;
  once : Loads l.fn.caller.account l.caller.account 0 l.index 0 [];
  few : length l.numbers.items ≤ l.index;
  early : AreEarly l.front l.numbers.items;
  of_rows : AreOfRows l.board.shape l.caller.account l.rows l.numbers.items;
  all : AreNumberedTo l.board.shape l.caller.account l.front l.rows l.index l.numbers.items;
}
