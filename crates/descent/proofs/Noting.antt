-- What a descent gave is true of each board that has the caller, and what the caller has once it is noted.
use Rattle.std.proofs.Common.{◌≡◌, ℕ, zero, suc, ◌^◌, ◌<◌, ◌≤◌, List, [], ◌∷◌, ◌++◌, map, drop, length, sym, refl, ap, ◌∙◌, subst}
use Rattle.std.proofs.lemmas.List.{append_cancel_left}
use mathlib.Core.Option.{some, some-injective, some-ne-none}
use lib.ListN.{get_elem?}
use Rattle.htss_defs.specs.declared.shape.Shape.{Shape}
use Rattle.htss_defs.specs.declared.needs.Need.{Need}
use Rattle.board_core.specs.declared.account.Account.{Account}
use Rattle.board_core.specs.declared.account.View.{View}
use Rattle.board_core.specs.declared.entry.Entry.TheVariants.{Swept}
use Rattle.board_core.specs.declared.loads.CodeLoad.{CodeLoad as BoardLoad}
use Rattle.board_core.specs.declared.room.Row.{Row}
use Rattle.board_core.specs.Each.{Each, In}
use Rattle.board_core.specs.Words.{Parts}
use Rattle.board_core.specs.Histories.{block_at}
use Rattle.board_core.specs.FactRule.{AreOfBlocks}
use Rattle.board_core.specs.OldRows.{IsOldRow}
use Rattle.board_core.specs.Rows.{entry_word, block_named, atom_named, row_named, codes_in, IsPlaced}
use Rattle.board_core.specs.Loaded.{IsInTable, KnowsRow, HasCode}
use Rattle.board_core.specs.Swept.{IsSweptOn}
use Rattle.board_core.specs.Sweeps.{MaySweep}
use Rattle.board_core.specs.Boards.{HasBoard, SomeBoard}
use Rattle.board_core.specs.After.{after_answer}
use Rattle.board_core.proofs.Everyone.{mine}
use Rattle.board_core.proofs.OldMoved.{pin_here}
use Rattle.board_core.proofs.RowFrame.{atom_back, block_back, small_atom}
use Rattle.board_core.proofs.LoadSealed.{sealed_in_table}
use Rattle.board.specs.Seated.{Seated, with_account}
use Rattle.env_cover.specs.Reach.{CoversCode}
use Rattle.descent.specs.Seats.{CodeLoad, Seat, load_of, seat_of, named}
use Rattle.descent.specs.Different.{AreDifferent}
use Rattle.descent.specs.Standing.{HasAtom, OnlyLoads}
use Rattle.descent.specs.Descended.{IsDescended}
use Rattle.descent.specs.Answered.{HasSwept}
use Rattle.descent.proofs.Standing.{entry_back, loads_on}
use Rattle.descent.proofs.Covering.{all_cover, covers_all}

-- ---- rows by their entries

named_at : (ns : List ℕ) (j : ℕ) (r : Row) → get_elem? (named ns) j ≡ some r → (n : ℕ) × (get_elem? ns j ≡ some n) × (row_named n ≡ r)
named_at [] j r e = absurd (some-ne-none r (sym e))
named_at (x ∷ ns) zero r e = (x, refl, some-injective (row_named x) r e)
named_at (x ∷ ns) (suc j) r e = named_at ns j r e

at_named : (ns : List ℕ) (j n : ℕ) → get_elem? ns j ≡ some n → get_elem? (named ns) j ≡ some (row_named n)
at_named [] j n e = absurd (some-ne-none n (sym e))
at_named (x ∷ ns) zero n e = ap (λ (y : ℕ). some (row_named y)) (some-injective x n e)
at_named (x ∷ ns) (suc j) n e = at_named ns j n e

one_place : (ns : List ℕ) → AreDifferent ns → (i j n : ℕ) → get_elem? ns i ≡ some n → get_elem? ns j ≡ some n → i ≡ j
one_place [] differ i j n a b = absurd (some-ne-none n (sym a))
one_place (x ∷ ns) differ zero zero n a b = refl
one_place (x ∷ ns) differ zero (suc j) n a b = absurd (differ.0 (j, b ∙ sym a))
one_place (x ∷ ns) differ (suc i) zero n a b = absurd (differ.0 (i, a ∙ sym b))
one_place (x ∷ ns) differ (suc i) (suc j) n a b = ap suc (one_place ns differ.1 i j n a b)

-- ---- the entry is true

module _ (k : Shape) (need : Need) (c m : Seated) (given : List Row) (front : ℕ) (p : Parts) (vs : List View) (b : HasBoard k p vs m.account) (here : front ≤ p.log.front) (count : ℕ)
    (d : IsDescended (codes_in k p.regions) (IsPlaced vs) (IsOldRow k p.regions p.log.slots front) (CoversCode need) (seat_of c.account).loads (seat_of m.account) [] given count) where
  entry_of_row : (j : ℕ) (r : Row) → get_elem? given j ≡ some r → (n : ℕ) × (get_elem? d.given j ≡ some n) × (row_named n ≡ r)
  entry_of_row j r there = named_at d.given j r (ap (λ (l : List Row). get_elem? l j) (sym d.given_are) ∙ there)

  same_entry : (j : ℕ) (r : Row) (there : get_elem? given j ≡ some r) → entry_word r ≡ (entry_of_row j r there).0
  same_entry j r there = let t = entry_of_row j r there in ap entry_word (sym t.2) ∙ entry_back t.0

  pub swept_true : IsSweptOn k p vs (Swept need front given)
  swept_true = (
    record {
      behind = here;
      differ = λ i j r at there.
          let s = entry_of_row i r at in
          let t = entry_of_row j r there in
          one_place d.given d.differ i j (entry_word r) (s.1 ∙ ap some (sym (same_entry i r at))) (t.1 ∙ ap some (sym (same_entry j r there)));
      cover = λ j r there.
          let t = entry_of_row j r there in
          covers_all need (block_at k p.regions (block_named (entry_word r))) (atom_named (entry_word r))
          (d.covering j (entry_word r) (t.1 ∙ ap some (sym (same_entry j r there))));
      all = λ n old cover.
          let h = d.all_old n old (all_cover need (block_at k p.regions (block_named n)) (atom_named n) cover) in
          subst (In (row_named n)) (sym d.given_are) (h.0, at_named d.given h.0 n h.1);
    },
    (λ j r there. let t = entry_of_row j r there in d.placed j (entry_word r) (t.1 ∙ ap some (sym (same_entry j r there)))),
  )

  -- ---- what was loaded of the rows

  load_back : (ls : List BoardLoad) (j : ℕ) (l : CodeLoad) → get_elem? (map load_of ls) j ≡ some l → (x : BoardLoad) × (get_elem? ls j ≡ some x) × (load_of x ≡ l)
  load_back [] j l e = absurd (some-ne-none l (sym e))
  load_back (x ∷ ls) zero l e = (x, refl, some-injective (load_of x) l e)
  load_back (x ∷ ls) (suc j) l e = load_back ls j l e

  in_right : (xs ys : List CodeLoad) (l : CodeLoad) → In l ys → In l (xs ++ ys)
  in_right [] ys l h = h
  in_right (x ∷ xs) ys l h = let t = in_right xs ys l h in (suc t.0, t.1)

  row_known : Each (λ (r : Row). KnowsRow m.account r.block × IsInTable k r.block) given
  row_known j r there =
      let t = entry_of_row j r there in
      let loaded = d.loaded j t.0 t.1 in
      let whole = subst (In loaded.0) (sym d.loads_are) (in_right (seat_of c.account).loads d.loads loaded.0 loaded.1) in
      let back = load_back m.account.loads.codes whole.0 loaded.0 whole.1 in
      let l : BoardLoad = back.0 in
      let of = subst (λ (a : Account). AreOfBlocks k p.regions vs a.loads) b.me (mine (λ x. AreOfBlocks k p.regions vs x.loads) vs b.id b.view b.at b.rule.facts.of_blocks) in
      let code = of.codes whole.0 l back.1 in
      let small : l.row.atom < 2 ^ 10 = small_atom (block_at k p.regions l.row.block 0) l.row.atom code.atom in
      let entry : entry_word l.row ≡ t.0 = ap (λ (x : CodeLoad). x.row) back.2 ∙ loaded.2 in
      let block : l.row.block ≡ r.block = sym (block_back l.row.block l.row.atom small) ∙ (ap block_named entry ∙ ap (λ (x : Row). x.block) t.2) in (
        (l.row.atom, l.code, l.word, record { load = l; index = whole.0; loaded = back.1; row = (block, refl); code_is = refl; found = refl }),
        subst (IsInTable k) block (sealed_in_table k p.regions vs l.row.block b.rule.seats b.rule.rooms.rooms code.sealed).0,
      )

  -- the codes that were loaded since c
  fresh_loads : (o : OnlyLoads c m) → map load_of o.codes ≡ d.loads
  fresh_loads o = append_cancel_left (seat_of c.account).loads (map load_of o.codes) d.loads (sym (loads_on c.account.loads.codes o.codes) ∙ (sym (ap (map load_of) o.codes_are) ∙ d.loads_are))

  row_atom : OnlyLoads c m → Each (HasAtom m.account) given
  row_atom o j r there =
      let t = entry_of_row j r there in
      let loaded = d.loaded j t.0 t.1 in
      let fresh = subst (In loaded.0) (sym (fresh_loads o)) loaded.1 in
      let back = load_back o.codes fresh.0 loaded.0 fresh.1 in
      let l : BoardLoad = back.0 in
      let has = o.atoms fresh.0 l back.1 in
      let small : l.row.atom < 2 ^ 10 = small_atom has.head l.row.atom has.most in
      let entry : entry_word l.row ≡ t.0 = ap (λ (x : CodeLoad). x.row) back.2 ∙ loaded.2 in
      let block : l.row.block ≡ r.block = sym (block_back l.row.block l.row.atom small) ∙ (ap block_named entry ∙ ap (λ (x : Row). x.block) t.2) in
      let atom : l.row.atom ≡ r.atom = sym (atom_back l.row.block l.row.atom small) ∙ (ap atom_named entry ∙ ap (λ (x : Row). x.atom) t.2) in
      subst (HasAtom m.account) (λ i. record { block = block i; atom = atom i }) has

-- it was noted
pub has_swept : (k : Shape) (need : Need) (c m d : Seated) (given : List Row) (p : Parts) (vs : List View) (b : HasBoard k p vs m.account) (count : ℕ) → c.account.tree.front ≤ p.log.front
    → OnlyLoads c m → d ≡ with_account m (after_answer m.account (Swept need m.account.tree.front given ∷ []))
    → IsDescended (codes_in k p.regions) (IsPlaced vs) (IsOldRow k p.regions p.log.slots c.account.tree.front) (CoversCode need) (seat_of c.account).loads (seat_of m.account) [] given count
    → HasSwept k need c d given count
has_swept k need c m d given p vs b count here only after done = record {
  between = m;
  only = only;
  after = after ∙ ap (λ (f : ℕ). with_account m (after_answer m.account (Swept need f given ∷ []))) (ap (λ (z : Seated). z.account.tree.front) only.same);
  loads = done.loads;
  loads_are = ap (λ (z : Seated). (seat_of z.account).loads) after ∙ done.loads_are;
  pruned = done.pruned_anyway;
  rows = done.rows;
  known = λ j r there. let t = row_known k need c m given c.account.tree.front p vs b here count done j r there in
      (subst (λ (z : Seated). KnowsRow z.account r.block) (sym after) (t.0.0, t.0.1, t.0.2, kept r.block t.0.0 t.0.1 t.0.2 t.0.3), t.1);
  atoms = λ j r there. subst (λ (z : Seated). HasAtom z.account r) (sym after) (still r (row_atom k need c m given c.account.tree.front p vs b here count done only j r there));
}
  where
    still : (r : Row) → HasAtom m.account r → HasAtom (after_answer m.account (Swept need m.account.tree.front given ∷ [])) r
    still r h = let x = h.loaded in record { head = h.head; loaded = record { load = x.load; index = x.index; loaded = x.loaded; place = x.place; found = x.found }; above = h.above; most = h.most }

    kept : (block atom code word : ℕ) → HasCode m.account block atom code word → HasCode (after_answer m.account (Swept need m.account.tree.front given ∷ [])) block atom code word
    kept block atom code word h = record { load = h.load; index = h.index; loaded = h.loaded; row = h.row; code_is = h.code_is; found = h.found }

-- ---- as the call asks

abbrev Means : Shape → Need → Seated → Seated → List Row → List Row → ℕ → Type 0
Means k need c m past hs count = (p : Parts) (vs : List View) → HasBoard k p vs m.account
    → IsDescended (codes_in k p.regions) (IsPlaced vs) (IsOldRow k p.regions p.log.slots c.account.tree.front) (CoversCode need) (seat_of c.account).loads (seat_of m.account) past hs count

drop_past : (xs ys : List Row) → drop (length xs) (xs ++ ys) ≡ ys
drop_past [] ys = refl
drop_past (x ∷ xs) ys = drop_past xs ys

-- what was given behind what the sink had
given_past : (codes : ℕ → List ℕ) (put old : ℕ → Type 0) (covers : ℕ → ℕ → Type 0) (before : List CodeLoad) (b : Seat) (past hs : List Row) (count : ℕ)
    → IsDescended codes put old covers before b past hs count → IsDescended codes put old covers before b [] (drop (length past) hs) count
given_past codes put old covers before b past hs count d = record {
  swept = d.swept;
  given = d.given;
  given_are = ap (drop (length past)) d.given_are ∙ drop_past past (named d.given);
  differ = d.differ;
  loads = d.loads;
  loads_are = d.loads_are;
  placed = d.placed;
  loaded = d.loaded;
  covering = d.covering;
  all_old = d.all_old;
  told = d.told;
  pruned = d.pruned;
  pruned_anyway = d.pruned_anyway;
  rows = d.rows;
}

-- past: what the sink had
module _ (k : Shape) (need : Need) (c m : Seated) (past had hs : List Row) (count : ℕ) (same : had ≡ past) (only : OnlyLoads c m) (means : Means k need c m had hs count) where
  abbrev given : List Row
  given = drop (length past) hs

  behind : (p : Parts) (vs : List View) → HasBoard k p vs m.account → c.account.tree.front ≤ p.log.front
  behind p vs b =
      let pinned : b.view.me.tree.front ≤ p.log.front = pin_here p.log.front vs b.id b.view b.rule.pins b.at in
      subst (λ (f : ℕ). f ≤ p.log.front) (ap (λ (a : Account). a.tree.front) b.me ∙ ap (λ (z : Seated). z.account.tree.front) only.same) pinned

  whole : Means k need c m past hs count
  whole = subst (λ (l : List Row). Means k need c m l hs count) same means

  done : (p : Parts) (vs : List View) → HasBoard k p vs m.account
      → IsDescended (codes_in k p.regions) (IsPlaced vs) (IsOldRow k p.regions p.log.slots c.account.tree.front) (CoversCode need) (seat_of c.account).loads (seat_of m.account) [] given count
  done p vs b = given_past (codes_in k p.regions) (IsPlaced vs) (IsOldRow k p.regions p.log.slots c.account.tree.front) (CoversCode need) (seat_of c.account).loads (seat_of m.account) past hs count (whole p vs b)

  pub may_note : MaySweep k m.account need m.account.tree.front given
  may_note p vs b = subst (λ (f : ℕ). IsSweptOn k p vs (Swept need f given)) (sym (ap (λ (z : Seated). z.account.tree.front) only.same))
      (swept_true k need c m given c.account.tree.front p vs b (behind p vs b) count (done p vs b))

  pub noted : (d : Seated) → SomeBoard k m.account → d ≡ with_account m (after_answer m.account (Swept need m.account.tree.front given ∷ [])) → (gs : List Row) × (hs ≡ past ++ gs) × HasSwept k need c d gs count
  noted d (p, vs, b) after =
      let is = (whole p vs b).given_are in
      let given_is : given ≡ named (whole p vs b).given = ap (drop (length past)) is ∙ drop_past past (named (whole p vs b).given) in
      (given, is ∙ ap (λ l. past ++ l) (sym given_is), has_swept k need c m d given p vs b count (behind p vs b) only after (done p vs b))
