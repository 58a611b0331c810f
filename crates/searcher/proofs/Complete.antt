-- Each screened record is one of those that a descent has found.
use Rattle.std.proofs.Common.{◌≡◌, ℕ, ◌+◌, ◌-◌, ◌<◌, ◌≤◌, ◌^◌, List, [], ◌∷◌, length, refl, sym, ap, ◌∙◌, subst, arith, lt_of_not-le}
use mathlib.Core.Logic.{dite}
use native.Mathlib.Decide.{dec_le}
use Rattle.htss_defs.specs.declared.shape.Shape.{Shape}
use Rattle.htss_defs.specs.declared.needs.Need.{Need}
use Rattle.htss_defs.specs.declared.codes.Codes.{Codes}
use Rattle.htss_defs.specs.Molecule.{Molecule}
use Rattle.htss_defs.specs.QueryGraph.{QueryGraph}
use Rattle.htss_defs.specs.Codes.{code_at, codes_at}
use Rattle.htss_defs.specs.Needs.{need_at, Covers}
use Rattle.htss_defs.specs.Screened.{IsPivot}
use Rattle.board_core.specs.declared.account.Account.{Account}
use mathlib.Core.Option.{some}
use lib.ListN.{get_elem?}
use Rattle.board_core.specs.declared.entry.Entry.TheVariants.{Swept}
use Rattle.board_core.specs.declared.entry.Noted.{Noted}
use Rattle.board_core.specs.declared.room.Row.{Row}
use Rattle.board_core.specs.Each.{Each, In}
use Rattle.board_core.specs.Words.{Parts}
use Rattle.board_core.specs.Blocks.{atoms_in, atom_of, atom_words_at, molecule_in}
use Rattle.board_core.specs.Histories.{block_at}
use Rattle.board_core.specs.MarkRule.{ShowsAt}
use Rattle.board_core.specs.OldRows.{IsOldRow}
use Rattle.board_core.specs.Records.{IsRecord}
use Rattle.board_core.specs.Rows.{entry_word, row_named, block_named, atom_named, code_of, codes_of, codes_in}
use Rattle.board_core.specs.Swept.{IsTrueSwept, SweptFits, row_codes}
use Rattle.board_core.specs.Steps.{MayBe}
use Rattle.board_core.proofs.Shown.{length_first}
use Rattle.board_core.proofs.RowFrame.{block_back, atom_back, small_atom}
use Rattle.board_core.proofs.BlockCauses.{seen_within}
use Rattle.searcher.specs.Finding.{NotesRows, HasFound}
use Rattle.searcher.specs.Walking.{Whatever, Reads, AllScreened, AreNumbered}
use Rattle.searcher.proofs.Recorded.{LiveBlock, block_of, live_block}

-- a query has one pivot
one_pivot : (q : QueryGraph) (u v : ℕ) → IsPivot q u → IsPivot q v → u ≡ v
one_pivot q u v a b = dite (dec_le u v)
    (λ low. dite (dec_le v u)
    (λ high. omega arith)
    (λ apart. let less = b.first u a.place.0 (lt_of_not-le apart) in let most = a.greatest v b.place.0 b.place.1 in absurd (omega arith)))
    (λ apart. let less = a.first v b.place.0 (lt_of_not-le apart) in let most = b.greatest u a.place.0 a.place.1 in absurd (omega arith))

module _ (block : ℕ → ℕ) (r : IsRecord block) (place : ℕ) (above : 1 ≤ place) (within : place ≤ atoms_in (block 0)) where
  code_is : (level : ℕ) → level < 5 → code_of block place level ≡ code_at (molecule_in block) level place
  code_is level few =
      let back : place - 1 + 1 ≡ place = omega arith in
      r.codes (place - 1) level (omega arith) few ∙ ap (code_at (molecule_in block) level) back

  pub codes_are : (let c : Codes = record { words = codes_of block place } in c) ≡ codes_at (molecule_in block) place
  codes_are =
      let zeroth = code_is 0 (omega arith) in
      let first = code_is 1 (omega arith) in
      let second = code_is 2 (omega arith) in
      let third = code_is 3 (omega arith) in
      let fourth = code_is 4 (omega arith) in
      λ i. record { words = zeroth i ∷ first i ∷ second i ∷ third i ∷ fourth i ∷ [] }

module _ (k : Shape) (p : Parts) (a : Account) (front number : ℕ) (name : List ℕ) (mol : Molecule) (b : LiveBlock k p front number (block_of p number) name mol) (place : ℕ) (above : 1 ≤ place) (within : place ≤ length mol.atoms) where
  abbrev block : ℕ
  block = block_of p number

  abbrev row : Row
  row = record { block = block; atom = place }

  few : place ≤ atoms_in (block_at k p.regions block 0)
  few =
      let f : ℕ → ℕ = block_at k p.regions block in
      let counted : length (molecule_in f).atoms ≡ atoms_in (f 0) = length_first (λ i. atom_of (f (atom_words_at (f 0) + i))) (atoms_in (f 0)) in
      let same : length mol.atoms ≡ length (molecule_in f).atoms = ap (λ (m : Molecule). length m.atoms) b.shown in omega arith

  small : place < 2 ^ 10
  small = small_atom (block_at k p.regions block 0) place few

  pub named_block : block_named (entry_word row) ≡ block
  named_block = block_back block place small

  pub row_codes_are : row_codes k p.regions (entry_word row) ≡ codes_at mol place
  row_codes_are =
      let named : row_codes k p.regions (entry_word row) ≡ (let c : Codes = record { words = codes_of (block_at k p.regions block) place } in c) =
      λ i. record { words = codes_of (block_at k p.regions (block_back block place small i)) (atom_back block place small i) } in
      named ∙ (codes_are (block_at k p.regions block) b.is_record place above few ∙ ap (λ (m : Molecule). codes_at m place) (sym b.shown))

  pub is_old : IsOldRow k p.regions p.log.slots front (entry_word row)
  is_old = let first = b.shows.above in let early = b.early in record {
    index = number - 1;
    before = omega arith;
    kind = b.shows.kind;
    atom = place;
    above = omega arith;
    most = few;
    names = refl;
  }

pub all_screened : (k : Shape) (a : Account) (query : QueryGraph) (front : ℕ) (rows : List Row) (numbers : List ℕ) → front ≤ a.log.seen → NotesRows query a front rows → Each (λ r. AreNumbered k a front r.block numbers) rows → Whatever k a front (AllScreened query numbers)
all_screened k a query front rows numbers seen notes all p m number name mol live is =
    let b = live_block k p a front number name mol m (seen_within k p a m front seen) live in
    let fits : SweptFits k p notes.need front rows = subst (IsTrueSwept k p) notes.is (m.agrees.swept notes.there.0 notes.noted notes.there.1) in
    let pivot : is.pivot ≡ notes.need_is.pivot = one_pivot query is.pivot notes.need_is.pivot is.is_pivot notes.need_is.is_pivot in
    let need : need_at query is.pivot ≡ notes.need = ap (need_at query) pivot ∙ sym notes.need_is.is in
    let covers : Covers notes.need (row_codes k p.regions (entry_word (row k p a front number name mol b is.place is.within.0 is.within.1))) =
    subst (λ (x : Need × Codes). Covers x.0 x.1) (λ i. (need i, sym (row_codes_are k p a front number name mol b is.place is.within.0 is.within.1) i)) is.covers in
    let there = fits.all (entry_word (row k p a front number name mol b is.place is.within.0 is.within.1)) (is_old k p a front number name mol b is.place is.within.0 is.within.1) covers in
    all there.0 _ there.1 p m number b.early (subst (λ (z : ℕ). ShowsAt p.log.front p.log.slots z number) (sym (named_block k p a front number name mol b is.place is.within.0 is.within.1)) b.shows)

-- the rows that were noted stay noted
pub notes_stay : (k : Shape) (query : QueryGraph) (a b c : Account) (front : ℕ) (rows : List Row) (count : ℕ) → HasFound k query a b rows count → a.log.seen ≡ front → Reads b c → NotesRows query c front rows
notes_stay k query a b c front rows count found seen reads = let n = found.notes in record {
  need = n.need;
  need_is = n.need_is;
  noted = n.noted;
  there = (n.there.0, subst (λ (l : List Noted). get_elem? l n.there.0 ≡ some n.noted) (sym reads.entries) n.there.1);
  is = n.is ∙ ap (λ (z : ℕ). Swept n.need z rows) seen;
}
