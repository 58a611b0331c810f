use Rattle.std.proofs.Common.{◌≡◌, ◌+◌, slice_index}
use Rattle.board_core.specs.Blocks.{first_of, bond_words_at, bond_of}
use Rattle.block_words.proofs.reader.read_bonds.Given as goal

abbrev pub invariant-loop-index : goal.invariant-loop-index
invariant-loop-index l = l.bonds.items ≡ first_of (λ i. bond_of (slice_index l.words (bond_words_at (slice_index l.words 0) + i))) l.index
