-- A code of an own row is loaded, and a row is begun.
use Rattle.std.proofs.Common.{◌≡◌, ◌≢◌, ℕ, zero, suc, ◌+◌, ◌*◌, ◌-◌, ◌%◌, ◌^◌, ◌<◌, ◌≤◌, List, [], ◌∷◌, ◌++◌, set, get_or, sym, refl, ap, ◌∙◌, subst, arith, inl, ⊎_elim, length, length-append}
use mathlib.Core.Option.{some, none, some-ne-none}
use lib.ListN.{get_elem?}
use Rattle.atomic_table.specs.Table.{step, keeps, Allows}
use Rattle.atomic_table.proofs.Lists.{set_here, set_again}
use Rattle.htss_defs.specs.declared.shape.Shape.{Shape}
use Rattle.htss_defs.specs.declared.history.Event.{Event}
use Rattle.board_core.specs.declared.account.Account.{Account}
use Rattle.board_core.specs.declared.account.View.{View}
use Rattle.board_core.specs.declared.loads.CodeLoad.{CodeLoad}
use Rattle.board_core.specs.declared.room.Row.{Row}
use Rattle.board_core.specs.Each.{Each, In}
use Rattle.board_core.specs.Words.{Parts, parts_of, total_of}
use Rattle.board_core.specs.Blocks.{atoms_in, block_size}
use Rattle.board_core.specs.Histories.{block_at, history_of}
use Rattle.board_core.specs.Records.{code_word_at, IsRecord}
use Rattle.board_core.specs.Accounts.{with_me, EachAccount}
use Rattle.board_core.specs.RoomRule.{store_of, own_block, IsSealed, RoomFits}
use Rattle.board_core.specs.FactRule.{FactRule, CodeStands, IsCodeOf, BlocksStand, AreOfBlocks, word_at}
use Rattle.board_core.specs.Sheets.{Sheet, sheet_of}
use Rattle.board_core.specs.Rows.{entry_word, code_of, codes_in, words_of, RowFits, IsOwnRow, RowsFit, RowRule, HasRow, IsBegun, IsPlaced}
use Rattle.board_core.specs.KnownRule.{Knows}
use Rattle.board_core.specs.OldRows.{IsOldRow}
use Rattle.board_core.specs.TreeRule.{TreeRule}
use Rattle.board_core.specs.Holds.{Rule, Holds}
use Rattle.board_core.specs.After.{after_code, after_begun}
use Rattle.board_core.specs.Steps.{Mine, MayLoadOwn, LoadsOwnCode, BeginsRow, LoadsOwnHead}
use Rattle.board_core.proofs.Lists.{each_snoc, inside, set_twice}
use Rattle.board_core.proofs.CodeSome.{record_code}
use Rattle.board_core.proofs.Everyone.{mine, changed}
use Rattle.board_core.proofs.Some.{some_changed}
use Rattle.board_core.proofs.BlockWords.{ShowSame}
use Rattle.board_core.proofs.RoomFrame.{block_stands}
use Rattle.board_core.proofs.RecordFrame.{same_code, code_within}
use Rattle.board_core.proofs.FactFrame.{Stay, stay_same, of_blocks_stay, facts_changed}
use Rattle.board_core.proofs.LoadSealed.{sealed_in_table}
use Rattle.board_core.proofs.LoadBlock.{load_of_block, found_at}
use Rattle.board_core.proofs.OwnFrame.{own_same}
use Rattle.board_core.proofs.PoolTree.{pool_reaches}
use Rattle.board_core.proofs.RowFrame.{placed_begun}
use Rattle.board_core.proofs.ChainFrame.{same_pages}
use Rattle.board_core.proofs.Pooled.{linked_kept}
use Rattle.board_core.proofs.PoolFrame.{sheet_same, counts_here}
use Rattle.board_core.proofs.TreeFrame.{tree_moved, knows_moved, rows_stay, placed_split, linked_same}
use Rattle.board_core.proofs.Linked.{row_more}
use Rattle.board_core.proofs.Stepped.{still}
use Rattle.board_core.proofs.Treed.{by_tree}

-- ---- the words of an own block

sealed_stands : (k : Shape) (regions : ℕ → ℕ) (a : Account) (block : ℕ) → RoomFits k regions (store_of a) → IsSealed a.room.sealed block → ShowSame (words_of k a.who a.room.used block) (block_at k regions block)
sealed_stands k regions a block f (j, s, there, place) = subst (λ (b : ℕ). ShowSame (own_block k (store_of a) b) (block_at k regions b)) place (block_stands k regions (store_of a) j s f there)

own_stands : (k : Shape) (regions : ℕ → ℕ) (a : Account) (r : Row) → RoomFits k regions (store_of a) → IsOwnRow k a r → ShowSame (words_of k a.who a.room.used r.block) (block_at k regions r.block)
own_stands k regions a r f fits = sealed_stands k regions a r.block f fits.sealed

less_atom : (atoms atom : ℕ) → 0 < atom → atom ≤ atoms → atom - 1 < atoms
less_atom atoms atom above most = omega arith

own_code : (k : Shape) (regions : ℕ → ℕ) (a : Account) (r : Row) (code : ℕ) → RoomFits k regions (store_of a) → IsOwnRow k a r → code < 5 → code_of (block_at k regions r.block) r.atom code ≡ code_of (words_of k a.who a.room.used r.block) r.atom code
own_code k regions a r code f fits few = same_code (words_of k a.who a.room.used r.block) (block_at k regions r.block) (r.atom - 1) code (own_stands k regions a r f fits) (less_atom (atoms_in (words_of k a.who a.room.used r.block 0)) r.atom fits.above fits.atom) few

-- ---- what was loaded stands

facts_own : (k : Shape) (regions : ℕ → ℕ) (front : ℕ) (vs : List View) (id code : ℕ) (r : Row) (v : View) → FactRule k regions front vs → EachAccount (λ x. RoomFits k regions (store_of x)) vs → get_elem? vs id ≡ some v → IsOwnRow k v.me r → code < 5
    → FactRule k regions front (set vs id (with_me v (after_code v.me r code (code_of (block_at k regions r.block) r.atom code))))
facts_own k regions front vs id code r v facts rooms at fits few =
    let word : ℕ = code_of (block_at k regions r.block) r.atom code in
    let new : CodeLoad = record { row = r; code = code; word = word } in
    let a : Account = after_code v.me r code word in
    let ws : List View = set vs id (with_me v a) in
    let stay : Stay vs ws = stay_same vs id v a at refl in
    let f = mine (λ x. BlocksStand k regions front x.loads) vs id v at facts.stand in
    let of = of_blocks_stay k regions vs ws v.me.loads stay (mine (λ x. AreOfBlocks k regions vs x.loads) vs id v at facts.of_blocks) in
    let head = (own_stands k regions v.me r (mine (λ x. RoomFits k regions (store_of x)) vs id v at rooms) fits).head in
    facts_changed k regions front front vs id v a facts at (omega arith) stay
    record { heads = f.heads; facts = f.facts; codes = each_snoc (CodeStands k regions) v.me.loads.codes new refl f.codes; marks = f.marks }
    record {
      heads = of.heads;
      facts = of.facts;
      codes = each_snoc (IsCodeOf k regions ws) v.me.loads.codes new record {
        sealed = stay (λ s. s.place ≡ r.block) (id, v, at, 0, v.me, refl, fits.sealed);
        above = fits.above;
        atom = subst (λ (h : ℕ). r.atom ≤ atoms_in h) (sym head) fits.atom;
        code = few;
      } of.codes;
      marks = of.marks;
    }

pub load_own_code : (k : Shape) (p : Parts) (h : List Event) (vs : List View) (id code : ℕ) (r : Row) (v : View) → Rule k p h vs → get_elem? vs id ≡ some v → IsOwnRow k v.me r → code < 5
    → Rule k p h (set vs id (with_me v (after_code v.me r code (code_of (block_at k p.regions r.block) r.atom code))))
load_own_code k p h vs id code r v rule at fits few = load_of_block k p h vs id v (after_code v.me r code (code_of (block_at k p.regions r.block) r.atom code)).loads rule at refl refl refl refl
    (facts_own k p.regions p.log.front vs id code r v rule.facts rule.rooms.rooms at fits few)

-- ---- a row is begun

begin_rows : (k : Shape) (vs : List View) (id : ℕ) (r : Row) (v : View) → RowRule k vs → get_elem? vs id ≡ some v → IsOwnRow k v.me r → RowRule k (set vs id (with_me v (after_begun v.me r)))
begin_rows k vs id r v rows at fits =
    let f = mine (λ x. RowsFit k x.who x.room.used x.room.sealed x.tree) vs id v at rows in
    changed (λ x. RowsFit k x.who x.room.used x.room.sealed x.tree) vs id v (after_begun v.me r) at record {
      begun = each_snoc (RowFits k v.me.who v.me.room.used v.me.room.sealed) v.me.tree.begun r fits f.begun;
      placed = λ j q there. let g = f.placed j q there in (g.0, longer v.me.tree.begun g.0 q g.1);
    } rows
  where
    longer : (l : List Row) (j : ℕ) (q : Row) → get_elem? l j ≡ some q → get_elem? (l ++ r ∷ []) j ≡ some q
    longer [] j q e = absurd (some-ne-none q (sym e))
    longer (x ∷ l) zero q e = e
    longer (x ∷ l) (suc j) q e = longer l j q e

begin_tree : (k : Shape) (f : ℕ → ℕ) (w : ℕ → ℕ → ℕ) (c : ℕ → List ℕ) (old : ℕ → ℕ → Type 0) (vs : List View) (id : ℕ) (q : Row) (v : View) → get_elem? vs id ≡ some v → ((n : ℕ) → IsPlaced vs n → IsBegun vs n) → TreeRule k f w c old vs → TreeRule k f w c old (set vs id (with_me v (after_begun v.me q)))
begin_tree k f w c old vs id q v at was r =
    let a : Account = after_begun v.me q in
    let ws : List View = set vs id (with_me v a) in
    let s : Sheet = sheet_of f vs in
    let z : Sheet = sheet_of f ws in
    let sheet : z ≡ s = sheet_same f vs id v a at (λ _. refl) refl in
    let plus : (n : ℕ) → IsPlaced vs n → IsPlaced ws n = rows_stay vs id v a at (λ x. x.tree.placed) refl in
    let old_here = mine (λ x. Knows w s r.place c (IsPlaced vs) old x.tree) vs id v at r.known in
    let mine_now : Knows w s r.place c (IsPlaced vs) old a.tree = record { known = old_here.known; kept = old_here.kept; pairs = old_here.pairs; olds = old_here.olds; lasts = old_here.lasts } in
    tree_moved k f f w c c old old vs ws (λ j u spot i x there r o. o) record {
      more = linked_same s z sheet;
      less = linked_same z s (sym sheet);
      plus = plus;
      minus = λ n h. ⊎_elim (λ (t : IsPlaced vs n). t) (λ (t : HasRow n v.me.tree.placed). (id, v, at, 0, v.me, refl, t)) (placed_split vs id v a at n h);
      begun = λ n h. some_changed (λ x. HasRow n x.tree.begun) vs id v a at (λ t. row_more n v.me.tree.begun q t) h;
      codes = λ _ _. refl;
      placed = was;
    } r (λ all. changed (λ x. Knows w z r.place c (IsPlaced ws) old x.tree) vs id v a at
    (knows_moved w s z r.place c c (IsPlaced vs) (IsPlaced ws) old old (linked_same s z sheet) (linked_same z s (sym sheet)) plus (λ _ _. refl) a.tree (λ _ o. o) mine_now) all)

pub begin_row : (k : Shape) (p : Parts) (h : List Event) (vs : List View) (id : ℕ) (q : Row) (v : View) → Rule k p h vs → get_elem? vs id ≡ some v → IsOwnRow k v.me q → Rule k p h (set vs id (with_me v (after_begun v.me q)))
begin_row k p h vs id q v r at fits =
    let a : Account = after_begun v.me q in
    by_tree k p p.pages h vs id v a r at
    record { who = refl; log = refl; room = refl; entries = refl; shown = refl; heads = refl; facts = refl; codes = refl; marks = refl } (λ q h. h) refl
    (pool_reaches k p.pool vs id v a.tree r.pool at (λ j x e. inl (j, e)) (let longer : length (v.me.tree.begun ++ q ∷ []) ≡ length v.me.tree.begun + 1 = length-append v.me.tree.begun (q ∷ []) in omega arith))
    (own_same p.pages vs id v a r.own at refl)
    (begin_rows k vs id q v r.rows at fits)
    (same_pages p.pages (sheet_of p.pool.states vs) (sheet_of p.pool.states (set vs id (with_me v a))) (linked_kept p.pool.states vs id v a at (λ _. refl) (λ _. refl)))
    (begin_tree k p.pool.states p.pages (codes_in k p.regions) (IsOldRow k p.regions p.log.slots) vs id q v at (λ n. placed_begun k vs n r.rows) r.tree)

pub begin : (k : Shape) (p : Parts) (h : List Event) (vs : List View) (id code : ℕ) (q : Row) (v : View) → Rule k p h vs → get_elem? vs id ≡ some v → IsOwnRow k v.me q → code < 5
    → Rule k p h (set vs id (with_me v (after_begun (after_code v.me q code (code_of (block_at k p.regions q.block) q.atom code)) q)))
begin k p h vs id code q v r at fits few =
    let a : Account = after_code v.me q code (code_of (block_at k p.regions q.block) q.atom code) in
    subst (λ (l : List View). Rule k p h l) (set_twice vs id (with_me v a) (with_me v (after_begun a q)))
    (begin_row k p h (set vs id (with_me v a)) id q (with_me v a) (load_own_code k p h vs id code q v r at fits few) (set_here vs id (with_me v a) (inside vs id v at)) fits)

-- ---- the word that names a row

small_atom : (k : Shape) (a : Account) (r : Row) → IsOwnRow k a r → r.atom < 2 ^ 10
small_atom k a r fits = let most : r.atom ≤ words_of k a.who a.room.used r.block 0 % 2 ^ 10 = fits.atom in let less : words_of k a.who a.room.used r.block 0 % 2 ^ 10 < 2 ^ 10 = omega arith in omega arith

same_row : (r q : Row) → r.atom < 2 ^ 10 → q.atom < 2 ^ 10 → entry_word r ≡ entry_word q → r ≡ q
same_row r q small less is =
    let e : r.block * 2 ^ 10 + r.atom ≡ q.block * 2 ^ 10 + q.atom = is in
    let block : r.block ≡ q.block = omega arith in
    let atom : r.atom ≡ q.atom = omega arith in λ i. record { block = block i; atom = atom i }

-- ---- as the table asks

module _ (k : Shape) (slots id place head code : ℕ) (q : Row) (m : Mine) (is : place ≡ q.block + code_word_at head (q.atom - 1) code) (may : MayLoadOwn k m.0.me q head code) (shape : m.0.shape ≡ k) where
  found_own : (s : _) → Holds k s → get_elem? s.views id ≡ some m.0 → code_of (block_at k (parts_of k s.words).regions q.block) q.atom code ≡ get_or s.words place 0
  found_own s h at =
      let p : Parts = parts_of k s.words in
      let f = mine (λ x. RoomFits k p.regions (store_of x)) s.views id m.0 at h.rule.rooms.rooms in
      let same_head : block_at k p.regions q.block 0 ≡ head = (own_stands k p.regions m.0.me q f may.row_is).head ∙ may.head_is in
      let fits = sealed_in_table k p.regions s.views q.block h.rule.seats h.rule.rooms.rooms (id, m.0, at, 0, m.0.me, refl, may.row_is.sealed) in
      let from = fits.0.from in
      let until : q.block + block_size head ≤ total_of k = subst (λ (w : ℕ). q.block + block_size w ≤ total_of k) same_head fits.1 in
      let most : q.atom ≤ atoms_in head = subst (λ (w : ℕ). q.atom ≤ atoms_in w) may.head_is may.row_is.atom in
      let within = (code_within head (q.atom - 1) code (less_atom (atoms_in head) q.atom may.row_is.above most) may.code_is).1 in
      (λ i. block_at k p.regions q.block (code_word_at (same_head i) (q.atom - 1) code)) ∙ (ap (word_at k p.regions) (sym is) ∙ found_at k s.words place (omega arith) (omega arith))

  told_own : (s : _) → Holds k s → get_elem? s.views id ≡ some m.0 → get_or s.words place 0 ≡ code_of (words_of m.0.shape m.0.me.who m.0.me.room.used q.block) q.atom code
  told_own s h at =
      let p : Parts = parts_of k s.words in
      sym (found_own s h at) ∙ (own_code k p.regions m.0.me q code (mine (λ x. RoomFits k p.regions (store_of x)) s.views id m.0 at h.rule.rooms.rooms) may.row_is may.code_is
      ∙ ap (λ (z : Shape). code_of (words_of z m.0.me.who m.0.me.room.used q.block) q.atom code) (sym shape))

  told_some : (s : _) → Holds k s → get_elem? s.views id ≡ some m.0 → get_or s.words place 0 ≢ 0
  told_some s h at z =
      let words : ℕ → ℕ = words_of k m.0.me.who m.0.me.room.used q.block in
      let (j, t, there, block) = may.row_is.sealed in
      let record_is : IsRecord words = subst (λ (b : ℕ). IsRecord (own_block k (store_of m.0.me) b)) block (mine (λ x. Each (λ t. IsRecord (own_block k (store_of x) t.place)) x.room.sealed) s.views id m.0 at h.rule.records j t there) in
      record_code words q.atom code record_is may.row_is.above may.row_is.atom may.code_is (sym (told_own s h at ∙ ap (λ (y : Shape). code_of (words_of y m.0.me.who m.0.me.room.used q.block) q.atom code) shape) ∙ z)

  pub own_code_allowed : Allows (Holds k) slots id m place (λ n. n) (LoadsOwnCode q code (step slots place 0 0 none) m)
  own_code_allowed s h _ at _ =
      let p : Parts = parts_of k s.words in
      let found : ℕ = get_or s.words place 0 in (
        with_me m.0 (after_code m.0.me q code found),
        keeps,
        tt,
        still k s place id m.1 m.0 (after_code m.0.me q code found) h
            (subst (λ (n : ℕ). Rule k p (history_of k p) (set s.views id (with_me m.0 (after_code m.0.me q code n)))) (found_own s h at) (load_own_code k p (history_of k p) s.views id code q m.0 h.rule at may.row_is may.code_is)),
        record { after = refl; stored_is = told_own s h at; some_code = told_some s h at },
      )

  told_alone : (s : _) → Holds k s → get_elem? s.views id ≡ some m.0 → HasRow (entry_word q) m.0.me.tree.placed → In q m.0.me.tree.placed
  told_alone s h at (r, (j, there), is) =
      let fits = mine (λ x. RowsFit k x.who x.room.used x.room.sealed x.tree) s.views id m.0 at h.rule.rows in
      let began = fits.placed j r there in
      (j, there ∙ ap some (same_row r q (small_atom k m.0.me r (fits.begun began.0 r began.1)) (small_atom k m.0.me q may.row_is) is))

  pub begin_allowed : Allows (Holds k) slots id m place (λ n. n) (BeginsRow q code (step slots place 0 0 none) m)
  begin_allowed s h _ at _ =
      let p : Parts = parts_of k s.words in
      let found : ℕ = get_or s.words place 0 in (
        with_me m.0 (after_begun (after_code m.0.me q code found) q),
        keeps,
        tt,
        still k s place id m.1 m.0 (after_begun (after_code m.0.me q code found) q) h
            (subst (λ (n : ℕ). Rule k p (history_of k p) (set s.views id (with_me m.0 (after_begun (after_code m.0.me q code n) q)))) (found_own s h at) (begin k p (history_of k p) s.views id code q m.0 h.rule at may.row_is may.code_is)),
        record {
          after = refl;
          stored_is = told_own s h at;
          some_code = told_some s h at;
          alone = told_alone s h at;
          few = let fits = (counts_here k p.pool s.views id m.0 h.rule.pool at).linked in let longer : length (m.0.me.tree.begun ++ q ∷ []) ≡ length m.0.me.tree.begun + 1 = length-append m.0.me.tree.begun (q ∷ []) in omega arith;
        },
      )

-- ---- the first word of an own block

pub own_head_allowed : (k : Shape) (slots id place : ℕ) (m : Mine) → IsSealed m.0.me.room.sealed place → m.0.shape ≡ k → Allows (Holds k) slots id m place (λ n. n) (LoadsOwnHead place (step slots place 0 0 none) m)
own_head_allowed k slots id place m sealed shape s h _ at _ =
    let p : Parts = parts_of k s.words in
    let found : ℕ = get_or s.words place 0 in
    let f = mine (λ x. RoomFits k p.regions (store_of x)) s.views id m.0 at h.rule.rooms.rooms in
    let fits = sealed_in_table k p.regions s.views place h.rule.seats h.rule.rooms.rooms (id, m.0, at, 0, m.0.me, refl, sealed) in
    let from = fits.0.from in
    let until = fits.0.until in
    let there : block_at k p.regions place 0 ≡ found = (let e : place + 0 ≡ place = omega arith in ap (word_at k p.regions) e) ∙ found_at k s.words place (omega arith) (omega arith) in (
      m.0,
      keeps,
      tt,
      still k s place id m.1 m.0 m.0.me h (subst (λ (l : List View). Rule k p (history_of k p) l) (sym (set_again s.views id m.0 at)) h.rule),
      record {
        same = refl;
        stored_is = sym there ∙ ((sealed_stands k p.regions m.0.me place f sealed).head ∙ ap (λ (z : Shape). words_of z m.0.me.who m.0.me.room.used place 0) (sym shape));
        until = subst (λ (z : Shape × ℕ). place + block_size z.1 ≤ total_of z.0) (λ i. (sym shape i, there i)) fits.1;
      },
    )
