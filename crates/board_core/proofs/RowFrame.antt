-- Rows that were begun and placed: what a step, a split or a join leaves of them, and that their codes stay.
use Rattle.std.proofs.Common.{◌≡◌, ℕ, ◌+◌, ◌*◌, ◌-◌, ◌^◌, ◌<◌, ◌≤◌, List, [], ◌∷◌, ◌++◌, set, sym, refl, ◌∙◌, subst, arith}
use mathlib.Core.Option.{some}
use lib.ListN.{get_elem?}
use Rattle.atomic_table.proofs.Lists.{at_longer}
use Rattle.htss_defs.specs.declared.shape.Shape.{Shape}
use Rattle.board_core.specs.declared.account.Who.{Who}
use Rattle.board_core.specs.declared.account.Who.TheVariants.{Opener, Note, Gone}
use Rattle.board_core.specs.declared.account.Account.{Account}
use Rattle.board_core.specs.declared.account.View.{View}
use Rattle.board_core.specs.declared.room.Row.{Row}
use Rattle.board_core.specs.declared.room.Sealed.{Sealed}
use Rattle.board_core.specs.Each.{Each, In}
use Rattle.board_core.specs.Blocks.{atoms_in}
use Rattle.board_core.specs.Histories.{block_at}
use Rattle.board_core.specs.Accounts.{account, view, opener, with_me, keeping, gone, accounts_in, caller_after, EachAccount}
use Rattle.board_core.specs.SeatRule.{SeatRule}
use Rattle.board_core.specs.RoomRule.{store_of, region_of, own_block, RoomFits, SameSealed}
use Rattle.board_core.specs.Rows.{entry_word, block_named, atom_named, code_of, codes_of, codes_in, words_of, own_codes, RowFits, IsOwnRow, RowsFit, RowRule, HasRow, IsBegun, IsPlaced}
use Rattle.board_core.specs.After.{after_word, after_made}
use Rattle.board_core.proofs.Lists.{each_none, each_cons}
use Rattle.board_core.proofs.Everyone.{mine, changed, each_more, each_left, each_gathered}
use Rattle.board_core.proofs.BlockWords.{ShowSame}
use Rattle.board_core.proofs.RoomFrame.{size_least, block_stands}
use Rattle.board_core.proofs.RecordFrame.{same_code, own_longer}
use Rattle.board_core.proofs.FactFrame.{sealed_long}
use Rattle.board_core.proofs.Owner.{one_owner}

-- ---- the word of a row names its block and its atom

pub block_back : (block atom : ℕ) → atom < 2 ^ 10 → block_named (block * 2 ^ 10 + atom) ≡ block
block_back block atom small = omega arith

pub atom_back : (block atom : ℕ) → atom < 2 ^ 10 → atom_named (block * 2 ^ 10 + atom) ≡ atom
atom_back block atom small = omega arith

pub small_atom : (head atom : ℕ) → atom ≤ atoms_in head → atom < 2 ^ 10
small_atom head atom most = omega arith

-- ---- codes

pub same_codes : (f g : ℕ → ℕ) (atom : ℕ) → ShowSame f g → 0 < atom → atom ≤ atoms_in (f 0) → codes_of g atom ≡ codes_of f atom
same_codes f g atom same above most =
    let below : atom - 1 < atoms_in (f 0) = less (atoms_in (f 0)) most in
    let one : (c : ℕ) → c < 5 → code_of g atom c ≡ code_of f atom c = λ c few. same_code f g (atom - 1) c same below few in
    λ i. one 0 (omega arith) i ∷ one 1 (omega arith) i ∷ one 2 (omega arith) i ∷ one 3 (omega arith) i ∷ one 4 (omega arith) i ∷ []
  where
    less : (atoms : ℕ) → atom ≤ atoms → atom - 1 < atoms
    less atoms h = omega arith

-- a row of an own block: what the table says of its codes is what its loader has stored
pub codes_stand : (k : Shape) (regions : ℕ → ℕ) (a : Account) (r : Row) → RoomFits k regions (store_of a) → IsOwnRow k a r → codes_in k regions (entry_word r) ≡ own_codes k a r
codes_stand k regions a r f fits =
    let small : r.atom < 2 ^ 10 = small_atom (words_of k a.who a.room.used r.block 0) r.atom fits.atom in
    let (j, s, there, place) = fits.sealed in
    (λ i. codes_of (block_at k regions (block_back r.block r.atom small i)) (atom_back r.block r.atom small i))
    ∙ same_codes (own_block k (store_of a) r.block) (block_at k regions r.block) r.atom
    (subst (λ (b : ℕ). ShowSame (own_block k (store_of a) b) (block_at k regions b)) place (block_stands k regions (store_of a) j s f there)) fits.above fits.atom

-- words of sealed blocks stay, so the codes of rows that were begun do
pub codes_stay : (k : Shape) (regions other : ℕ → ℕ) (vs : List View) → EachAccount (λ x. RoomFits k regions (store_of x)) vs → RowRule k vs → SameSealed k regions other vs → (n : ℕ) → IsBegun vs n → codes_in k other n ≡ codes_in k regions n
codes_stay k regions other vs rooms rows same n (j, v, at, i, a, there, (r, in_begun, is)) =
    let f = rooms j v at i a there in
    let fits = (rows j v at i a there).begun in_begun.0 r in_begun.1 in
    let small : r.atom < 2 ^ 10 = small_atom (words_of k a.who a.room.used r.block 0) r.atom fits.atom in
    let (b, s, in_list, place) = fits.sealed in
    let long = sealed_long k regions a b s f in_list in
    let least = size_least (region_of k a.who) a.room.used s (f.sealed b s in_list) in
    let stay : ShowSame (block_at k regions s.place) (block_at k other s.place) = record {
      head = same j v at i a there b s in_list 0 (omega arith) (λ e. omega arith) (λ e. omega arith);
      words = λ t past within. same j v at i a there b s in_list t (omega arith) (λ e. omega arith) (λ e. omega arith);
    } in
    let head : block_at k regions r.block 0 ≡ words_of k a.who a.room.used r.block 0 =
    subst (λ (z : ℕ). block_at k regions z 0 ≡ words_of k a.who a.room.used z 0) place (block_stands k regions (store_of a) b s f in_list).head in
    let named : codes_of (block_at k other r.block) r.atom ≡ codes_of (block_at k regions r.block) r.atom = same_codes (block_at k regions r.block) (block_at k other r.block) r.atom
    (subst (λ (z : ℕ). ShowSame (block_at k regions z) (block_at k other z)) place stay) fits.above (subst (λ (h : ℕ). r.atom ≤ atoms_in h) (sym head) fits.atom) in
    subst (λ (z : ℕ). codes_in k other z ≡ codes_in k regions z) is
    ((λ t. codes_of (block_at k other (block_back r.block r.atom small t)) (atom_back r.block r.atom small t))
    ∙ (named ∙ (λ t. codes_of (block_at k regions (sym (block_back r.block r.atom small) t)) (sym (atom_back r.block r.atom small) t))))

-- what is placed was begun
pub placed_begun : (k : Shape) (vs : List View) (n : ℕ) → RowRule k vs → IsPlaced vs n → IsBegun vs n
placed_begun k vs n rows (j, v, at, i, a, there, (r, in_placed, is)) = (j, v, at, i, a, there, (r, (rows j v at i a there).placed in_placed.0 r in_placed.1, is))

-- ---- a row that its loader has not placed is not placed by anybody

pub not_placed : (k : Shape) (regions : ℕ → ℕ) (vs : List View) (id : ℕ) (v : View) (r : Row) → SeatRule k vs → EachAccount (λ x. RoomFits k regions (store_of x)) vs → RowRule k vs → get_elem? vs id ≡ some v
    → IsOwnRow k v.me r → (HasRow (entry_word r) v.me.tree.placed → ⊥) → IsPlaced vs (entry_word r) → ⊥
not_placed k regions vs id v r seats rooms rows at fits fresh (j, u, there, i, x, here, (q, in_placed, is)) =
    let old = (rows j u there i x here).begun (((rows j u there i x here).placed in_placed.0 q in_placed.1).0) q (((rows j u there i x here).placed in_placed.0 q in_placed.1).1) in
    let small : r.atom < 2 ^ 10 = small_atom (words_of k v.me.who v.me.room.used r.block 0) r.atom fits.atom in
    let small_q : q.atom < 2 ^ 10 = small_atom (words_of k x.who x.room.used q.block 0) q.atom old.atom in
    let same : q.block ≡ r.block = one_block q.block q.atom r.block r.atom small_q small is in
    let (b, s, in_list, place) = fits.sealed in
    let (c, t, in_other, spot) = old.sealed in
    let f = rooms id v at 0 v.me refl in
    let g = rooms j u there i x here in
    let fit_s = f.sealed b s in_list in
    let fit_t = g.sealed c t in_other in
    let low = size_least (region_of k v.me.who) v.me.room.used s fit_s in
    let low_t = size_least (region_of k x.who) x.room.used t fit_t in
    let from = fit_s.from in let until = fit_s.until in let from_t = fit_t.from in let until_t = fit_t.until in
    let within = f.within in let within_t = g.within in
    let one : x ≡ v.me = one_owner k vs x v.me r.block seats record { view_place = j; seen_view = u; at = there; place = i; there = here } record { view_place = id; seen_view = v; at = at; place = 0; there = refl }
    record { from = omega arith; until = omega arith } record { from = omega arith; until = omega arith } in
    fresh (subst (λ (y : Account). HasRow (entry_word r) y.tree.placed) one (q, in_placed, is))
  where
    one_block : (b a c d : ℕ) → a < 2 ^ 10 → d < 2 ^ 10 → b * 2 ^ 10 + a ≡ c * 2 ^ 10 + d → b ≡ c
    one_block b a c d small small_d e = omega arith

-- ---- a step of one account

abbrev RowsOf : Shape → Who → List ℕ → List Sealed → List Row → List Row → Type 0
RowsOf k who used blocks begun placed = RowsFit k who used blocks record { front = 0; reached = []; lasting = []; begun = begun; placed = placed }

abbrev AreRows : Shape → Account → Type 0
AreRows k a = RowsFit k a.who a.room.used a.room.sealed a.tree

pub rows_same : (k : Shape) (vs : List View) (id : ℕ) (v : View) (a : Account) → RowRule k vs → get_elem? vs id ≡ some v → a.who ≡ v.me.who → a.room.used ≡ v.me.room.used → a.room.sealed ≡ v.me.room.sealed → a.tree.begun ≡ v.me.tree.begun → a.tree.placed ≡ v.me.tree.placed
    → RowRule k (set vs id (with_me v a))
rows_same k vs id v a r at who used sealed begun placed = let f = mine (AreRows k) vs id v at r in changed (AreRows k) vs id v a at
    record {
      begun = subst (λ (x : Who × List ℕ × List Sealed × List Row). Each (RowFits k x.0 x.1 x.2) x.3) (λ t. (sym who t, sym used t, sym sealed t, sym begun t)) f.begun;
      placed = subst (λ (x : List Row × List Row). Each (λ q. In q x.0) x.1) (λ t. (sym begun t, sym placed t)) f.placed;
    } r

-- one word more is stored
pub rows_word : (k : Shape) (regions : ℕ → ℕ) (vs : List View) (id word : ℕ) (v : View) (more : List Sealed) → RowRule k vs → EachAccount (λ x. RoomFits k regions (store_of x)) vs → get_elem? vs id ≡ some v → RowRule k (set vs id (with_me v (after_word v.me word more)))
rows_word k regions vs id word v more r rooms at =
    let a : Account = after_word v.me word more in
    let f = mine (AreRows k) vs id v at r in
    let room = mine (λ x. RoomFits k regions (store_of x)) vs id v at rooms in
    changed (AreRows k) vs id v a at record {
      begun = λ j q there. let fits = f.begun j q there in let (b, s, in_list, place) = fits.sealed in
          let head : words_of k a.who a.room.used s.place 0 ≡ words_of k v.me.who v.me.room.used s.place 0 = (own_longer k regions v.me word more room b s in_list).head in record {
            sealed = (b, s, at_longer v.me.room.sealed more b s in_list, place);
            above = fits.above;
            atom = subst (λ (h : ℕ). q.atom ≤ atoms_in h) (sym (subst (λ (z : ℕ). words_of k a.who a.room.used z 0 ≡ words_of k v.me.who v.me.room.used z 0) place head)) fits.atom;
          };
      placed = f.placed;
    } r

-- ---- splits, joins and the opening

no_rows_of : (k : Shape) (who : Who) (front : ℕ) → AreRows k (account who front)
no_rows_of k who front = record { begun = each_none (RowFits k who [] []); placed = each_none (λ (q : Row). In q []) }

pub rows_note : (k : Shape) (vs : List View) (shape : Shape) (front : ℕ) → RowRule k vs → RowRule k (vs ++ view shape (account Note front) ∷ [])
rows_note k vs shape front r = each_more (AreRows k) vs (account Note front) (view shape (account Note front)) refl refl (no_rows_of k Note front) r

pub rows_caller : (k : Shape) (vs : List View) (id m : ℕ) (v : View) → RowRule k vs → get_elem? vs id ≡ some v → v.me.who ≡ Opener m → RowRule k (set vs id (with_me v (after_made v.me)) ++ view k (account (caller_after k m) 0) ∷ [])
rows_caller k vs id m v r at is = each_more (AreRows k) (set vs id (with_me v (after_made v.me))) (account (caller_after k m) 0) (view k (account (caller_after k m) 0)) refl refl (no_rows_of k (caller_after k m) 0)
    (changed (AreRows k) vs id v (after_made v.me) at
    (let f : RowsFit k (Opener m) v.me.room.used v.me.room.sealed v.me.tree = subst (λ (w : Who). RowsFit k w v.me.room.used v.me.room.sealed v.me.tree) is (mine (AreRows k) vs id v at r) in
    record { begun = λ j q there. let g = f.begun j q there in record { sealed = g.sealed; above = g.above; atom = g.atom }; placed = f.placed }) r)

pub rows_left : (k : Shape) (vs : List View) (other : ℕ) → RowRule k vs → RowRule k (set vs other gone)
rows_left k vs other r = each_left (AreRows k) vs other (no_rows_of k Gone 0) r

pub rows_gather : (k : Shape) (vs : List View) (id other : ℕ) (v w : View) → RowRule k vs → get_elem? vs id ≡ some v → get_elem? vs other ≡ some w → RowRule k (set (set vs id (keeping v w)) other gone)
rows_gather k vs id other v w r at there = each_gathered (AreRows k) vs id other v w at there (no_rows_of k Gone 0) r

pub rows_open : (k : Shape) → RowRule k (opener k ∷ [])
rows_open k = each_cons (λ (u : View). Each (AreRows k) (accounts_in u)) (opener k) [] (each_cons (AreRows k) (account (Opener 0) 0) [] (no_rows_of k (Opener 0) 0) (each_none (AreRows k))) (each_none (λ (u : View). Each (AreRows k) (accounts_in u)))
