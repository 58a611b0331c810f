use Rattle.std.proofs.Common.{◌≡◌, ℕ, ◌<◌, ◌≤◌, length, slice_index}
use Rattle.board.specs.Seated.{IsOf}
use Rattle.screen.specs.Losing.{LosesNone}
use Rattle.searcher.specs.Records.{ReadsScreened}
use Rattle.searcher.specs.Searched.{LoadsOnce}
use Rattle.searcher.specs.Walking.{Reads}
use Rattle.searcher.proofs.Walks.{Walked}
use Rattle.searcher.proofs.Turns.{TurnsTo}
use Rattle.searcher.proofs.Whole.{ReadsUpTo}
use Rattle.searcher.proofs.at_front.fill.Given as goal

abbrev pub invariant-loop-index : goal.invariant-loop-index
invariant-loop-index l = record {
  of : IsOf l.board l.caller;
  law : LosesNone l.query;
  stock : l.caller.stock ≡ l.fn.caller.stock;
  reads : Reads l.fn.caller.account l.caller.account;
  once : LoadsOnce l.fn.caller.account l.caller.account l.index;
  read : ReadsScreened l.board.shape l.query l.front l.fn.caller.account l.caller.account;
  turns : TurnsTo l.board.shape l.last l.fn.caller.account l.caller.account;
  whole : ReadsUpTo l.board.shape l.front l.numbers l.last l.fn.caller.account l.caller.account;
  size : length l.words ≡ 7200;
  early : l.last ≤ l.front;
  passed : (i : ℕ) → i < l.index → slice_index l.numbers i ≤ l.last;
  walked : Walked l.board.shape l.caller.account l.query l.front l.budget l.last l.search.matcher l.search.front l.search.left l.search.records l.hits;
}
