-- Old rows: those of the blocks that the first events show.
use Rattle.std.specs.Prelude.{◌≡◌, ℕ, ◌<◌, ◌≤◌}
use Rattle.htss_defs.specs.declared.shape.Shape.{Shape}
use Rattle.board_core.specs.LogWord.{target_in, ShowsBlock}
use Rattle.board_core.specs.Blocks.{atoms_in}
use Rattle.board_core.specs.Histories.{block_at}
use Rattle.board_core.specs.Rows.{entry_word}

-- n names a row of one of the blocks that the first f log words publish
pub record IsOldRow (k : Shape) (regions slots : ℕ → ℕ) (f n : ℕ) : Type 0 where
  pub index : ℕ
  pub before : index < f
  pub kind : ShowsBlock (slots index)
  pub atom : ℕ
  pub above : 0 < atom
  pub most : atom ≤ atoms_in (block_at k regions (target_in (slots index)) 0)
  pub names : entry_word (record { block = target_in (slots index); atom = atom }) ≡ n
