-- An entry that was read in a leaf names a placed row, and so a row of a sealed block. It is loaded again, and the first word of the
-- block and codes of the row are loaded.
use Rattle.std.proofs.Common.{◌≡◌, ◌≢◌, ℕ, zero, suc, ◌+◌, ◌-◌, ◌^◌, ◌<◌, ◌≤◌, Bool, true, List, [], ◌∷◌, length, get_or, sym, refl, ap, ◌∙◌, subst, arith, ⊎_elim}
use mathlib.Core.Option.{some, none}
use lib.ListN.{get_elem?}
use Rattle.atomic_table.specs.Table.{step, keeps, Allows}
use Rattle.atomic_table.proofs.Lists.{set_again}
use Rattle.htss_defs.specs.declared.shape.Shape.{Shape}
use Rattle.htss_defs.specs.declared.history.Event.{Event}
use Rattle.board_core.specs.declared.account.Account.{Account}
use Rattle.board_core.specs.declared.account.View.{View}
use Rattle.board_core.specs.declared.account.Who.TheVariants.{Gone}
use Rattle.board_core.specs.declared.tree.Reached.{Reached}
use Rattle.board_core.specs.Words.{Parts, parts_of, total_of}
use Rattle.board_core.specs.Blocks.{atoms_in, block_size}
use Rattle.board_core.specs.Histories.{block_at, history_of}
use Rattle.board_core.specs.Records.{IsRecord, code_word_at}
use Rattle.board_core.specs.RoomRule.{store_of, own_block}
use Rattle.board_core.specs.FactRule.{FactRule, BlocksStand, word_at}
use Rattle.board_core.specs.Sheets.{sheet_of, IsLinked}
use Rattle.board_core.specs.ClassTree.{Place, slot_at, page_room}
use Rattle.board_core.specs.KnownPages.{AreKept}
use Rattle.board_core.specs.KnownRule.{Knows}
use Rattle.board_core.specs.OldRows.{IsOldRow}
use Rattle.board_core.specs.Rows.{block_named, atom_named, code_of, codes_in, words_of, IsPlaced}
use Rattle.board_core.specs.Loaded.{page_word, IsInTable, HasCode}
use Rattle.board_core.specs.Holds.{Rule, Holds}
use Rattle.board_core.specs.declared.room.Row.{Row}
use Rattle.board_core.specs.After.{visited, after_head, after_code}
use Rattle.board_core.specs.Steps.{Mine}
use Rattle.board_core.specs.Met.{row_named, HasMet, HasHead, MayLoadEntry, MayLoadMet, LoadsEntry, LoadsMetHead, LoadsMetCode}
use Rattle.board_core.proofs.Lists.{inside, at_last, at_longer}
use Rattle.board_core.proofs.Everyone.{mine}
use Rattle.board_core.proofs.RoomFrame.{block_stands}
use Rattle.board_core.proofs.RecordFrame.{record_same, code_within}
use Rattle.board_core.proofs.RowFrame.{block_back, atom_back, small_atom}
use Rattle.board_core.proofs.CodeSome.{record_code}
use Rattle.board_core.proofs.PageLoads.{at_visit}
use Rattle.board_core.proofs.LoadSealed.{AreSealed, sealed_in_table}
use Rattle.board_core.proofs.LoadBlock.{first_word, head_of_sealed, code_of_sealed, found_at}
use Rattle.board_core.proofs.Stepped.{still}
use Rattle.board_core.proofs.Treed.{page_at}

-- ---- placed rows

-- the block that a placed row's entry names is sealed, shows a record, and has the atom
pub record IsSealedRow (k : Shape) (regions : ℕ → ℕ) (vs : List View) (n : ℕ) : Type 0 where
  pub sealed : AreSealed vs (block_named n)
  pub above : 0 < atom_named n
  pub atom : atom_named n ≤ atoms_in (block_at k regions (block_named n) 0)
  pub shows : IsRecord (block_at k regions (block_named n))

pub placed_row : (k : Shape) (p : Parts) (h : List Event) (vs : List View) (n : ℕ) → Rule k p h vs → IsPlaced vs n → IsSealedRow k p.regions vs n
placed_row k p h vs n rule (j, v, at, i, a, there, (r, in_placed, is)) =
    let began = (rule.rows j v at i a there).placed in_placed.0 r in_placed.1 in
    let fits = (rule.rows j v at i a there).begun began.0 r began.1 in
    let (b, s, in_list, place) = fits.sealed in
    let stands = block_stands k p.regions (store_of a) b s (rule.rooms.rooms j v at i a there) in_list in
    let head : block_at k p.regions r.block 0 ≡ words_of k a.who a.room.used r.block 0 = subst (λ (z : ℕ). block_at k p.regions z 0 ≡ words_of k a.who a.room.used z 0) place stands.head in
    let small : r.atom < 2 ^ 10 = small_atom (words_of k a.who a.room.used r.block 0) r.atom fits.atom in
    let block : r.block ≡ block_named n = sym (block_back r.block r.atom small) ∙ ap block_named is in
    let atom : r.atom ≡ atom_named n = sym (atom_back r.block r.atom small) ∙ ap atom_named is in record {
      sealed = subst (λ (z : ℕ). AreSealed vs z) block (j, v, at, i, a, there, fits.sealed);
      above = subst (λ (z : ℕ). 0 < z) atom fits.above;
      atom = subst (λ (z : ℕ × ℕ). z.0 ≤ atoms_in (block_at k p.regions z.1 0)) (λ t. (atom t, block t)) (subst (λ (w : ℕ). r.atom ≤ atoms_in w) (sym head) fits.atom);
      shows = subst (λ (z : ℕ). IsRecord (block_at k p.regions z)) (place ∙ block) (record_same (own_block k (store_of a) s.place) (block_at k p.regions s.place) stands (rule.records j v at i a there b s in_list));
    }

-- ---- an entry that was read

module _ (k : Shape) (p : Parts) (h : List Event) (vs : List View) (id : ℕ) (v : View) (r : Rule k p h vs) (at : get_elem? vs id ≡ some v) (j i n : ℕ) (met : HasMet v.me j i n) where
  abbrev met_page : Reached
  met_page = visited v.me.tree.reached j

  pub met_small : i < 14
  met_small =
      let knows = mine (λ a. Knows p.pages (sheet_of p.pool.states vs) r.tree.place (codes_in k p.regions) (IsPlaced vs) (IsOldRow k p.regions p.log.slots) a.tree) vs id v at r.tree.known in
      let room : length met_page.slots ≤ page_room true = subst (λ (b : Bool). length met_page.slots ≤ page_room b) met.leaf (knows.known.fits j met_page (at_visit v.me.tree.reached j met.reached)).room in
      let within : i < length met_page.slots = inside met_page.slots i n met.read in omega arith

  -- it stands in the page still
  pub met_stands : p.pages met_page.page (2 + i) ≡ n
  met_stands =
      let knows = mine (λ a. Knows p.pages (sheet_of p.pool.states vs) r.tree.place (codes_in k p.regions) (IsPlaced vs) (IsOldRow k p.regions p.log.slots) a.tree) vs id v at r.tree.known in
      subst (λ (b : Bool). p.pages met_page.page (slot_at b i) ≡ n) met.leaf ((knows.known.fits j met_page (at_visit v.me.tree.reached j met.reached)).known i n met.read).1

  pub met_placed : IsPlaced vs n
  met_placed =
      let there = at_visit v.me.tree.reached j met.reached in
      let knows = mine (λ a. Knows p.pages (sheet_of p.pool.states vs) r.tree.place (codes_in k p.regions) (IsPlaced vs) (IsOldRow k p.regions p.log.slots) a.tree) vs id v at r.tree.known in
      let fits = knows.known.fits j met_page there in ⊎_elim
      (λ (l : IsLinked (sheet_of p.pool.states vs) met_page.page). (r.tree.tree.entries n met_page.page i record {
        linked = l;
        kind = ap (λ (z : Place). z.leaf) (fits.place l) ∙ met.leaf;
        room = met_small;
        some_n = (fits.known i n met.read).0;
        there = met_stands;
      }).0)
      (λ (g : AreKept (p.pages met_page.page) (codes_in k p.regions) (IsPlaced vs) met_page.path). subst (IsPlaced vs) met_stands (g.placed i met_small))
      (knows.kept j met_page there met.leaf)

  pub met_row : IsSealedRow k p.regions vs n
  met_row = placed_row k p h vs n r met_placed

-- the first word of a block, if it was loaded, is the table's
pub head_stands : (k : Shape) (regions : ℕ → ℕ) (front : ℕ) (vs : List View) (id block head : ℕ) (v : View) → FactRule k regions front vs → get_elem? vs id ≡ some v → HasHead v.me block head → block_at k regions block 0 ≡ head
head_stands k regions front vs id block head v r at known =
    let f = mine (λ x. BlocksStand k regions front x.loads) vs id v at r.stand in
    ap (λ z. block_at k regions z 0) (sym known.place) ∙ (f.heads known.index known.load known.loaded ∙ known.found)

-- ---- as the table asks

pub met_entry_allowed : (k : Shape) (slots id j i at_word : ℕ) (m : Mine) → at_word ≡ page_word k (visited m.0.me.tree.reached j).page (2 + i) → MayLoadEntry k m.0.me j i → m.0.shape ≡ k → Allows (Holds k) slots id m at_word (λ n. n) (LoadsEntry j i (step slots at_word 0 0 none) m)
met_entry_allowed k slots id j i at_word m is may shape s h _ at _ =
    let p : Parts = parts_of k s.words in
    let x : Reached = visited m.0.me.tree.reached j in
    let found : ℕ = get_or s.words at_word 0 in
    let n : ℕ = get_or x.slots i 0 in
    let met : HasMet m.0.me j i n = record { reached = may.visit.reached; leaf = may.leaf; read = at_place x.slots i may.read } in
    let same : n ≡ found = sym (met_stands k p (history_of k p) s.views id m.0 h.rule at j i n met)
    ∙ (page_at k s.words x.page (2 + i) may.visit.inside (let small = met_small k p (history_of k p) s.views id m.0 h.rule at j i n met in omega arith) ∙ ap (λ (z : ℕ). get_or s.words z 0) (sym is)) in
    let row = met_row k p (history_of k p) s.views id m.0 h.rule at j i n met in (
      m.0,
      keeps,
      tt,
      still k s at_word id m.1 m.0 m.0.me h (subst (λ (l : List View). Rule k p (history_of k p) l) (sym (set_again s.views id m.0 at)) h.rule),
      record {
        same = refl;
        met = subst (HasMet m.0.me j i) same met;
        block = subst (λ (z : Shape × ℕ). IsInTable z.0 (block_named z.1)) (λ t. (sym shape t, same t)) (sealed_in_table k p.regions s.views (block_named n) h.rule.seats h.rule.rooms.rooms row.sealed).0;
      },
    )
  where
    at_place : (xs : List ℕ) (i : ℕ) → i < length xs → get_elem? xs i ≡ some (get_or xs i 0)
    at_place [] i less = absurd (omega arith)
    at_place (x ∷ xs) zero less = refl
    at_place (x ∷ xs) (suc i) less = at_place xs i (omega arith)

pub met_head_allowed : (k : Shape) (slots id j i n : ℕ) (m : Mine) → HasMet m.0.me j i n → m.0.me.who ≢ Gone → Allows (Holds k) slots id m (block_named n) (λ n. n) (LoadsMetHead n (step slots (block_named n) 0 0 none) m)
met_head_allowed k slots id j i n m met here s h long at small =
    let p : Parts = parts_of k s.words in
    let row = met_row k p (history_of k p) s.views id m.0 h.rule at j i n met in
    let fits = sealed_in_table k p.regions s.views (block_named n) h.rule.seats h.rule.rooms.rooms row.sealed in
    let (w, act, valid, next, told) = head_of_sealed k slots id (block_named n) m (λ t g here. (met_row k (parts_of k t.words) (history_of k (parts_of k t.words)) t.views id m.0 g.rule here j i n met).sealed) here s h long at small in
    (w, act, valid, next, record { head = told; atom = (row.above, subst (λ (z : ℕ). atom_named n ≤ atoms_in z) (first_word k s.words (block_named n) fits.0) row.atom) })

pub met_code_allowed : (k : Shape) (slots id j i n head code place : ℕ) (m : Mine) → place ≡ block_named n + code_word_at head (atom_named n - 1) code → MayLoadMet m.0.me j i n head code → 0 < atom_named n → atom_named n ≤ atoms_in head → m.0.me.who ≢ Gone
    → Allows (Holds k) slots id m place (λ n. n) (LoadsMetCode n code (step slots place 0 0 none) m)
met_code_allowed k slots id j i n head code place m is may above most here s h long at small =
    let p : Parts = parts_of k s.words in
    let found : ℕ = get_or s.words place 0 in
    let row = met_row k p (history_of k p) s.views id m.0 h.rule at j i n may.met in
    let fits = sealed_in_table k p.regions s.views (block_named n) h.rule.seats h.rule.rooms.rooms row.sealed in
    let head_is : block_at k p.regions (block_named n) 0 ≡ head = head_stands k p.regions p.log.front s.views id (block_named n) head m.0 h.rule.facts at may.first in
    let from = fits.0.from in
    let until : block_named n + block_size head ≤ total_of k = subst (λ (w : ℕ). block_named n + block_size w ≤ total_of k) head_is fits.1 in
    let within = (code_within head (atom_named n - 1) code (omega arith) may.few).1 in
    let there : code_of (block_at k p.regions (block_named n)) (atom_named n) code ≡ found = ap (λ (w : ℕ). block_at k p.regions (block_named n) (code_word_at w (atom_named n - 1) code)) head_is
    ∙ (ap (word_at k p.regions) (sym is) ∙ found_at k s.words place (omega arith) (omega arith)) in
    let (w, act, valid, next, told) = code_of_sealed k slots id place head code (row_named n) m is
    (λ t g here. (met_row k (parts_of k t.words) (history_of k (parts_of k t.words)) t.views id m.0 g.rule here j i n may.met).sealed)
    (λ t g here. head_stands k (parts_of k t.words).regions (parts_of k t.words).log.front t.views id (block_named n) head m.0 g.rule.facts here may.first)
    above most may.few here s h long at small in
    (w, act, valid, next, record { load = told; some_code = λ z. record_code (block_at k p.regions (block_named n)) (atom_named n) code row.shows row.above row.atom may.few (there ∙ z) })

-- ---- what a caller has after a load

pub head_here : (a : Account) (block word : ℕ) → HasHead (after_head a block word) block word
head_here a block word = record { load = record { place = block; word = word }; index = length a.loads.heads; loaded = at_last a.loads.heads (record { place = block; word = word }) (length a.loads.heads) refl; place = refl; found = refl }

pub head_stays : (a : Account) (block head : ℕ) (row : Row) (code word : ℕ) → HasHead a block head → HasHead (after_code a row code word) block head
head_stays a block head row code word h = record { load = h.load; index = h.index; loaded = h.loaded; place = h.place; found = h.found }

pub code_here : (a : Account) (row : Row) (code word : ℕ) → HasCode (after_code a row code word) row.block row.atom code word
code_here a row code word = record { load = record { row = row; code = code; word = word }; index = length a.loads.codes; loaded = at_last a.loads.codes (record { row = row; code = code; word = word }) (length a.loads.codes) refl; row = (refl, refl); code_is = refl; found = refl }

pub code_stays : (a : Account) (block atom code word : ℕ) (row : Row) (other more : ℕ) → HasCode a block atom code word → HasCode (after_code a row other more) block atom code word
code_stays a block atom code word row other more h = record { load = h.load; index = h.index; loaded = at_longer a.loads.codes (record { row = row; code = other; word = more } ∷ []) h.index h.load h.loaded; row = h.row; code_is = h.code_is; found = h.found }

pub code_stays_at : (a : Account) (block atom code word place head : ℕ) → HasCode a block atom code word → HasCode (after_head a place head) block atom code word
code_stays_at a block atom code word place head h = record { load = h.load; index = h.index; loaded = h.loaded; row = h.row; code_is = h.code_is; found = h.found }
