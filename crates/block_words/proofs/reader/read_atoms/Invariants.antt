use Rattle.std.proofs.Common.{◌≡◌, ◌+◌, slice_index}
use Rattle.board_core.specs.Blocks.{first_of, atom_words_at, atom_of}
use Rattle.block_words.proofs.reader.read_atoms.Given as goal

abbrev pub invariant-loop-index : goal.invariant-loop-index
invariant-loop-index l = l.atoms.items ≡ first_of (λ i. atom_of (slice_index l.words (atom_words_at (slice_index l.words 0) + i))) l.index
