use Rattle.std.proofs.Common.{◌≡◌, ⊎_elim, ℕ, ◌+◌, ◌<◌, ◌≤◌, List, length, set, slice_index, true, false, ap, sym, ◌∙◌, arith}
use Rattle.std.specs.Prelude.{leb}
use Rattle.std.proofs.lemmas.Bool.Decides.{leb_tells}
use Rattle.std.proofs.lemmas.List.{get_or-set_other, get_or-set_same, length-set}
use Rattle.htss_defs.specs.declared.record.NamedMol.{NamedMol}
use Rattle.block_words.specs.Writing.{written}
use Rattle.board_core.proofs.RecordFrame.{shows_record}
use Rattle.block_words.proofs.Shows.{written_shows}
use Rattle.board_tests.proofs.blocks.write_all.Goals as goal

pub returns : goal.returns
returns c =
    let of = c.size-size.ensures in
    let shows = written_shows c.args.writer.now.name c.args.writer.now.mol (slice_index c.loop-index.words) of.name of.molecule of.marked
    (λ i below. c.loop-index.invariant.words i (let sized = of.value in let over = c.loop-index-test.false in omega (arith, below, sized, over))) in
    let size = c.loop-index.invariant.size in
    let shown = shows.size in record {
      whole = omega (arith, shown, size);
      valid = shows_record (slice_index c.loop-index.words) shows.record_is;
      name = shows.name;
      molecule = shows.molecule;
    }

-- one word more
stored : (words : List ℕ) (index word : ℕ) (wanted : ℕ → ℕ) → index < length words → word ≡ wanted index → ((i : ℕ) → i < index → slice_index words i ≡ wanted i) → (i : ℕ) → i < index + 1 → slice_index (set words index word) i ≡ wanted i
stored words index word wanted within same before i below =
    ⊎_elim
    (λ (t : (leb index i ≡ true) × (index ≤ i)).
    let late = t.1 in
    let here : i ≡ index = omega (arith, late, below) in
    ap (slice_index (set words index word)) here ∙ get_or-set_same words index word 0 within ∙ same ∙ ap wanted (sym here))
    (λ (t : (leb index i ≡ false) × (i < index)).
    let early = t.1 in
    get_or-set_other words index i word 0 (λ e. absurd (omega (arith, early, e))) ∙ before i early)
    (leb_tells index i)

pub loop-index-preserved : goal.loop-index-preserved
loop-index-preserved c =
    let writer = c.loop-index.invariant.writer in
    let word : c.word.result ≡ written c.args.writer.now.name c.args.writer.now.mol c.loop-index.index = c.word.ensures.word ∙ ap (λ (r : NamedMol). written r.name r.mol c.loop-index.index) writer in
    let sized = c.size-size.ensures.value in
    let size = c.loop-index.invariant.size in
    let below = c.loop-index-test.true in
    let within : c.loop-index.index < length c.loop-index.words = omega (arith, below, sized, size) in
    record {
      writer = c.word.ensures.same ∙ writer;
      size = length-set c.loop-index.words c.loop-index.index c.word.result ∙ size;
      words = stored c.loop-index.words c.loop-index.index c.word.result (written c.args.writer.now.name c.args.writer.now.mol) within word c.loop-index.invariant.words;
    }
