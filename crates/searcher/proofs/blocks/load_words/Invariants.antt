use Rattle.std.proofs.Common.{◌≡◌, ℕ, ◌+◌, ◌-◌, ◌<◌, ◌≤◌, ◌⊎◌, [], ◌++◌, length, slice_index}
use Rattle.board_core.specs.Steps.{MayBeSome}
use Rattle.board.specs.Seated.{IsOf}
use Rattle.board_core.specs.Loaded.{KnowsHead}
use Rattle.searcher.specs.Records.{IsOfBlock, ReadsAt, ReadsWord, places_from, places_read}
use Rattle.searcher.specs.Searched.{Loads}
use Rattle.searcher.specs.Walking.{Reads, HasFacts}
use Rattle.searcher.proofs.blocks.load_words.Given as goal

abbrev pub invariant-loop-index : goal.invariant-loop-index
invariant-loop-index l = record {
  of : IsOf l.board l.caller;
  stock : l.caller.stock ≡ l.fn.caller.stock;
  reads : Reads l.fn.caller.account l.caller.account;
  known : KnowsHead l.board.shape l.caller.account l.block l.head;
  may : MayBeSome l.board.shape l.caller.account;
  size : length l.words ≡ 7200;
  once : Loads l.fn.caller.account l.caller.account 0 0 (l.index - l.from) [];
  of_block : ReadsAt l.fn.caller.account l.caller.account (IsOfBlock l.block l.head);
  places : places_read l.caller.account ≡ places_read l.fn.caller.account ++ places_from (l.block + l.from) (l.index - l.from);
  read : (i : ℕ) → l.from ≤ i → i < l.index → ReadsWord l.fn.caller.account l.caller.account (l.block + i);
  facts : HasFacts l.caller.account l.block l.words l.from l.index;
  others : (i : ℕ) → (i < l.from) ⊎ (l.until ≤ i) → slice_index l.words i ≡ slice_index l.fn.words i;
}
