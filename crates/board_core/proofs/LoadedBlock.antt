-- A block as it was loaded shows the same as the block of each board that has the loads, and so a record.
use Rattle.std.proofs.Common.{◌≡◌, ℕ, ◌<◌, ◌≤◌, ◌⊎◌, ⊎_elim, sym, ap, ◌∙◌, subst}
use Rattle.htss_defs.specs.declared.shape.Shape.{Shape}
use Rattle.board_core.specs.Steps.{MayBe}
use Rattle.board_core.specs.declared.account.Account.{Account}
use Rattle.board_core.specs.Words.{Parts}
use Rattle.board_core.specs.Blocks.{code_words_at, bond_words_at, block_size, name_in, molecule_in}
use Rattle.board_core.specs.Histories.{block_at}
use Rattle.board_core.specs.Records.{ShowsRecord}
use Rattle.board_core.specs.FactRule.{word_at}
use Rattle.board_core.specs.Loaded.{KnowsHead, HasFact, HasBlock}
use Rattle.board_core.proofs.BlockWords.{ShowAlike, alike_name, alike_molecule}
use Rattle.board_core.proofs.RecordFrame.{shows_record, shows_alike}
use Rattle.board_core.proofs.BlockCauses.{loaded_record}

-- blocks that show alike do so both ways
pub alike_back : (f g : ℕ → ℕ) → ShowAlike f g → ShowAlike g f
alike_back f g same = record {
  head = sym same.head;
  words = λ i past within outside. sym (same.words i past (subst (λ h. i < block_size h) same.head within) (subst (λ h. (i < code_words_at h) ⊎ (bond_words_at h ≤ i)) same.head outside));
}

module _ (k : Shape) (p : Parts) (a : Account) (board : MayBe k p a) where
  -- ---- one word that was loaded

  pub head_stands : (block head : ℕ) → KnowsHead k a block head → block_at k p.regions block 0 ≡ head
  head_stands block head h = ap (λ (z : ℕ). block_at k p.regions z 0) (sym h.place) ∙ (board.agrees.blocks.heads h.index h.load h.loaded ∙ h.found)

  pub fact_stands : (block i word : ℕ) → HasFact a block i word → block_at k p.regions block i ≡ word
  fact_stands block i word f = ap (word_at k p.regions) (sym f.place) ∙ (board.agrees.blocks.facts f.index f.load f.loaded ∙ f.found)

  -- ---- the block

  module _ (block : ℕ) (words : ℕ → ℕ) (h : HasBlock k a block words) where
    pub block_loaded : ShowAlike words (block_at k p.regions block)
    block_loaded = record {
      head = head_stands block (words 0) h.head;
      words = λ i past within outside. ⊎_elim
          (λ (early : i < code_words_at (words 0)). fact_stands block i (words i) (h.facts i past early))
          (λ (late : bond_words_at (words 0) ≤ i). fact_stands block i (words i) (h.bonds i late within))
          outside;
    }

    pub record_loaded : ShowsRecord words × (name_in words ≡ name_in (block_at k p.regions block)) × (molecule_in words ≡ molecule_in (block_at k p.regions block))
    record_loaded =
        let back = alike_back words (block_at k p.regions block) block_loaded in
        let known = h.head.known in (
          shows_alike (block_at k p.regions block) words back (shows_record (block_at k p.regions block) (loaded_record k p a board known.0 block known.1).1),
          alike_name (block_at k p.regions block) words back,
          alike_molecule (block_at k p.regions block) words back,
        )
