-- The numbers of a descent's rows are those of screened records.
use Rattle.std.proofs.Common.{◌≡◌, ℕ, ◌+◌, ◌<◌, ◌≤◌, List, [], ◌∷◌, ◌++◌, length, slice_index, sym, ap, ◌∙◌, subst, arith, lt_of_not-le}
use Rattle.std.specs.Prelude.{IsPermutation}
use Rattle.std.proofs.lemmas.List.{length_push, get_or_append_left, get_or_default, get_or_push}
use Rattle.std.proofs.lemmas.List.Sorted.{All-permutation}
use mathlib.Core.Option.{some}
use mathlib.Core.Logic.{dite}
use native.Mathlib.Decide.{dec_le}
use lib.ListN.{get_elem?}
use Rattle.htss_defs.specs.declared.shape.Shape.{Shape}
use Rattle.htss_defs.specs.declared.needs.Need.{Need}
use Rattle.htss_defs.specs.declared.codes.Codes.{Codes}
use Rattle.htss_defs.specs.Molecule.{Molecule}
use Rattle.htss_defs.specs.QueryGraph.{QueryGraph}
use Rattle.htss_defs.specs.Codes.{codes_at}
use Rattle.htss_defs.specs.Needs.{Covers}
use Rattle.board_core.specs.declared.account.Account.{Account}
use Rattle.board_core.specs.declared.room.Row.{Row}
use Rattle.board_core.specs.Each.{Each, In}
use Rattle.board_core.specs.Blocks.{atom_of, atom_words_at, atoms_in, molecule_in}
use Rattle.board_core.specs.Histories.{block_at}
use Rattle.board_core.specs.MarkRule.{ShowsAt}
use Rattle.board_core.specs.Loaded.{Grows}
use Rattle.board_core.specs.Rows.{entry_word}
use Rattle.board_core.specs.Swept.{IsTrueSwept, SweptFits, row_codes}
use Rattle.board_core.proofs.Shown.{length_first}
use Rattle.board_core.proofs.Grown.{board_before}
use Rattle.board_core.proofs.BlockCauses.{seen_within}
use Rattle.descent.specs.Standing.{HasAtom}
use Rattle.searcher.specs.Finding.{NotesRows}
use Rattle.searcher.specs.Walking.{IsNumberOf, Whatever}
use Rattle.searcher.specs.Records.{AreOfRows, AreOfScreened}
use Rattle.searcher.proofs.Complete.{row_codes_are}
use Rattle.searcher.proofs.Recorded.{block_of, live_block}

-- ---- numbers of rows

pub of_rows_none : (k : Shape) (a : Account) (rows : List Row) → AreOfRows k a rows []
of_rows_none k a rows p m i inside = absurd (omega arith)

pub of_rows_later : (k : Shape) (a b : Account) (rows : List Row) (numbers : List ℕ) → Grows a b → AreOfRows k a rows numbers → AreOfRows k b rows numbers
of_rows_later k a b rows numbers grown all p m i inside = all p (board_before k a b grown p m) i inside

pub of_rows_more : (k : Shape) (a b : Account) (front index number : ℕ) (rows : List Row) (row : Row) (numbers : List ℕ) → Grows a b → get_elem? rows index ≡ some row → IsNumberOf k b front row.block number → 0 < number
    → AreOfRows k a rows numbers → AreOfRows k b rows (numbers ++ number ∷ [])
of_rows_more k a b front index number rows row numbers grown here is above all p m i inside =
    let long = length_push numbers number in
    let Is : ℕ → Type 0 = λ n. (r : Row) × In r rows × ShowsAt p.log.front p.log.slots r.block n in
    dite (dec_le (length numbers) i)
    (λ last. let at : length numbers ≡ i = omega arith in
    subst Is (sym (get_or_push numbers number 0 i at)) (row, (index, here), is.shows p m above))
    (λ before. subst Is (sym (get_or_append_left numbers (number ∷ []) 0 i (lt_of_not-le before))) (all p (board_before k a b grown p m) i (lt_of_not-le before)))

pub of_rows_shuffled : (k : Shape) (a : Account) (rows : List Row) (numbers more : List ℕ) → IsPermutation numbers more → AreOfRows k a rows numbers → AreOfRows k a rows more
of_rows_shuffled k a rows numbers more same all p m i inside =
    let Is : ℕ → Type 0 = λ n. (r : Row) × In r rows × ShowsAt p.log.front p.log.slots r.block n in
    All-permutation Is numbers more same (λ j d below. subst Is (sym (get_or_default numbers j d 0 below)) (all p m j below)) i 0 inside

-- ---- they are of screened records

pub numbers_screened : (k : Shape) (a : Account) (query : QueryGraph) (front : ℕ) (rows : List Row) (numbers : List ℕ) → front ≤ a.log.seen → NotesRows query a front rows → Each (HasAtom a) rows → AreOfRows k a rows numbers
    → Whatever k a front (AreOfScreened query numbers)
numbers_screened k a query front rows numbers seen notes atoms of p m i inside name mol live =
    let number : ℕ = slice_index numbers i in
    let (r, there, shows) = of p m i inside in
    let b = live_block k p a front number name mol m (seen_within k p a m front seen) live in
    let same : block_of p number ≡ r.block = shows.names in
    let has = atoms there.0 r there.1 in
    let x = has.loaded in
    let stands : block_at k p.regions r.block 0 ≡ has.head = subst (λ (z : ℕ). block_at k p.regions z 0 ≡ x.load.word) x.place (m.agrees.blocks.heads x.index x.load x.loaded) ∙ x.found in
    let low = has.above in
    let above : 1 ≤ r.atom = omega (arith, low) in
    let most : r.atom ≤ atoms_in (block_at k p.regions (block_of p number) 0) =
    subst (λ (n : ℕ). r.atom ≤ atoms_in n) (sym stands ∙ ap (λ (z : ℕ). block_at k p.regions z 0) (sym same)) has.most in
    let f : ℕ → ℕ = block_at k p.regions (block_of p number) in
    let counted : length (molecule_in f).atoms ≡ atoms_in (f 0) = length_first (λ j. atom_of (f (atom_words_at (f 0) + j))) (atoms_in (f 0)) in
    let shown : length mol.atoms ≡ length (molecule_in f).atoms = ap (λ (x : Molecule). length x.atoms) b.shown in
    let within : r.atom ≤ length mol.atoms = omega (arith, most, counted, shown) in
    let fits : SweptFits k p notes.need front rows = subst (IsTrueSwept k p) notes.is (m.agrees.swept notes.there.0 notes.noted notes.there.1) in
    let covers : Covers notes.need (row_codes k p.regions (entry_word r)) = fits.cover there.0 r there.1 in
    let named : row_codes k p.regions (entry_word r) ≡ codes_at mol r.atom =
    ap (λ (z : ℕ). row_codes k p.regions (entry_word (record { block = z; atom = r.atom }))) (sym same) ∙ row_codes_are k p a front number name mol b r.atom above within in
    record {
      pivot = notes.need_is.pivot;
      is_pivot = notes.need_is.is_pivot;
      place = r.atom;
      within = (above, within);
      covers = subst (λ (x : Need × Codes). Covers x.0 x.1) (λ t. (notes.need_is.is t, named t)) covers;
    }
