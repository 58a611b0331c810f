-- The link to a full leaf was exchanged, by this caller or by another.
use Rattle.std.proofs.Common.{◌≡◌, ◌≢◌, ℕ, ◌+◌, ◌<◌, false, List, [], ◌∷◌, length, get_or, take, refl, sym, ap, ◌∙◌, subst, arith, ⊎_elim, cond, eq-eqb, ◌≤◌, length-take-le}
use mathlib.Core.Option.{some}
use Rattle.htss_defs.specs.declared.shape.Shape.{Shape}
use Rattle.board_core.specs.declared.account.Account.{Account}
use Rattle.board_core.specs.declared.pool.Own.{Own}
use Rattle.board_core.specs.declared.pool.Parted.{Parted}
use Rattle.board_core.specs.declared.pool.PoolAccount.{PoolAccount}
use Rattle.board_core.specs.Each.{Each}
use Rattle.board_core.specs.Sheets.{owns, parts, stamps}
use Rattle.board_core.specs.MarkRule.{IsAmong}
use Rattle.board_core.specs.Loaded.{IsPage, HasOwn}
use Rattle.board_core.specs.After.{led, after_link, after_split, let_go_all, stamp_all, without, more_linked}
use Rattle.board_core.proofs.LetGo.{all_less, all_gone, all_many}
use Rattle.board_core.proofs.PageSums.{where_same}
use Rattle.board_core.specs.declared.account.Who.{Who}
use Rattle.board_core.specs.declared.account.Who.TheVariants.{Loader}
use Rattle.board.specs.Seated.{Place, Seated, IsOf, IsLoader, number_in, with_account, with_stock}
use Rattle.page_pool.specs.Taking.{IsUnstamped, IsRetired}
use Rattle.class_tree.specs.declared.walks.Stop.{Stop}
use Rattle.class_tree.specs.declared.walks.Slot.{Slot}
use Rattle.class_tree.specs.declared.walks.Target.{Target}
use Rattle.class_tree.specs.Inserting.{IsStocked}
use Rattle.class_tree.specs.Linking.{IsBehindFull, ComesIn}
use Rattle.class_tree.specs.Splitting.{AreTaken, IsMade}
use Rattle.class_tree.specs.Walking.{here, Rest, rest_of, IsDown, Goes}
use Rattle.class_tree.proofs.Pages.{target_kept}
use Rattle.class_tree.proofs.Grown.{Grown, equal_shown, same_fresh, same_high, grown_link, grown_goes, rest_link, lists_link, goes_on}
use Rattle.class_tree.proofs.Loadings.{lists_of, epoch_grows}
use Rattle.class_tree.proofs.Searching.{goes_less}
use Rattle.class_tree.proofs.Pairs.{IsReachedBehind, behind_link}
use Rattle.class_tree.proofs.Behind.{same_at, link_pool}
use Rattle.class_tree.proofs.Splitting.{full_same, taken_is, taken_there}
use Rattle.board_core.specs.declared.tree.Counts.{Counts}
use Rattle.class_tree.proofs.Counting.{counts_link, take_most}

-- the pages that are to go are not kept
pub none_kept : (k : Shape) (c d : Seated) (x : Slot) (s : Stop) (depth need : ℕ) (t : Target) (pages : List ℕ) → IsMade k c d x s depth t pages need → Each (λ n. ¬ (IsAmong d.stock n)) (take need pages)
none_kept k c d x s depth need t pages m j n there among =
    let (less, is) = taken_is pages need j n there in (m.takes.taken.mine j less).2 (subst (IsAmong d.stock) (sym is) among)

-- ---- the walk goes down there

down_of : (k : Shape) (b : Account) (x : Slot) (next : Stop) (depth : ℕ) (t : Target) → IsReachedBehind k b x next depth false t → IsDown k b next (depth + 1) t
down_of k b x next depth t r = record { at = r.at; target = r.target; fresh = r.fresh; high = r.high }

pub down_same : (k : Shape) (a b : Account) (s : Stop) (depth : ℕ) (t : Target) → b.tree.reached ≡ a.tree.reached → rest_of b ≡ rest_of a → IsDown k a s depth t → IsDown k b s depth t
down_same k a b s depth t e rest h = record {
  at = same_at k a b s (take depth t.codes) 0 0 false e (ap (λ (r : Rest). r.announced) rest) h.at;
  target = target_kept k a b t rest h.target;
  fresh = λ code. same_fresh a b (take depth t.codes) code (equal_shown a b e) (h.fresh code);
  high = same_high a b depth (equal_shown a b e) h.high;
}

-- a page behind the pair is reached, of an account that shows the same pages
down_link : (k : Shape) (a b : Account) (x : Slot) (s next : Stop) (depth n : ℕ) (t : Target) → IsBehindFull k a x s depth t → b ≡ after_link a x.stop.number x.index (get_or t.codes depth 0) n false → n ≢ 0 → IsPage k n → next ≡ record { page = n; number = s.number + 1 } → IsDown k b next (depth + 1) t
down_link k a b x s next depth n t h e some_n inside is =
    down_of k b x next depth t (behind_link k a b x next depth n false t h.pair (let low = h.low in omega arith) h.leaf.target h.above (ap (λ (y : Stop). y.number) is ∙ sym h.leaf.at.last) e some_n inside (ap (λ (y : Stop). y.page) is))

-- ---- won

-- the leaf is unlinked, and has no stamp
pub won_parted : (k : Shape) (c d e : Seated) (x : Slot) (s : Stop) (depth need code first leaf : ℕ) (t : Target) (pages : List ℕ) → IsMade k c d x s depth t pages need → e ≡ with_account d (after_link (after_split d.account (take need pages) leaf) x.stop.number x.index code first false) → IsUnstamped e.account leaf
won_parted k c d e x s depth need code first leaf t pages m won =
    let u : Parted = record { page = leaf; stamp = 0 } in
    let parted : e.account.pool.parted ≡ u ∷ [] = ap (λ (y : Seated). y.account.pool.parted) won ∙ (ap (λ (p : PoolAccount). p.parted) (link_pool (after_split d.account (take need pages) leaf) x.stop.number x.index code first false) ∙ ap (λ (us : List Parted). u ∷ us) m.takes.taken.clean) in
    (ap (parts leaf) parted ∙ (let one = where_same leaf leaf 1 refl in omega arith), ap (stamps leaf) parted ∙ (let none = where_same leaf leaf 0 refl in omega arith))

won_stock : (k : Shape) (c d e f : Seated) (x : Slot) (s : Stop) (depth need code first leaf : ℕ) (t : Target) (pages : List ℕ) → IsMade k c d x s depth t pages need → length pages ≡ 16
    → e ≡ with_account d (after_link (after_split d.account (take need pages) leaf) x.stop.number x.index code first false) → IsRetired e f leaf → (q : ℕ) → HasOwn f.account q → IsAmong d.stock q
won_stock k c d e f x s depth need code first leaf t pages m long won r q mine =
    let own : f.account.pool.own ≡ let_go_all (take need pages) d.account.pool.own = ap (λ (y : Seated). y.account.pool.own) r.after ∙ (ap (λ (y : Seated). y.account.pool.own) won ∙ ap (λ (p : PoolAccount). p.own) (link_pool (after_split d.account (take need pages) leaf) x.stop.number x.index code first false)) in
    let here_still : 0 < owns q (let_go_all (take need pages) d.account.pool.own) = subst (λ (os : List Own). 0 < owns q os) own mine in
    let less = all_less (take need pages) d.account.pool.own q in
    let few = m.few in
    ⊎_elim
    (λ (h : IsAmong d.stock q). h)
    (λ (h : (i : ℕ) × (i < need) × (get_or pages i 0 ≡ q)).
    let low : h.0 < need = h.1 in
    let gone = all_gone (take need pages) d.account.pool.own q (h.0, taken_there pages need h.0 low (omega arith) ∙ ap some h.2) in absurd (omega arith))
    (m.takes.taken.own q (omega arith))

-- as many own pages went as were taken
won_few : (k : Shape) (c d e f : Seated) (x : Slot) (s : Stop) (depth need code first leaf : ℕ) (t : Target) (pages : List ℕ) → IsMade k c d x s depth t pages need → length pages ≡ 16
    → e ≡ with_account d (after_link (after_split d.account (take need pages) leaf) x.stop.number x.index code first false) → IsRetired e f leaf → length f.account.pool.own ≤ length f.stock
won_few k c d e f x s depth need code first leaf t pages m long won r =
    let ns : List ℕ = take need pages in
    let os : List Own = d.account.pool.own in
    let own : f.account.pool.own ≡ let_go_all ns os = ap (λ (y : Seated). y.account.pool.own) r.after ∙ (ap (λ (y : Seated). y.account.pool.own) won ∙ ap (λ (p : PoolAccount). p.own) (link_pool (after_split d.account ns leaf) x.stop.number x.index code first false)) in
    let stock : f.stock ≡ d.stock = ap (λ (y : Seated). y.stock) r.after ∙ ap (λ (y : Seated). y.stock) won in
    let few : need ≤ 16 = m.few in
    let size : length ns ≡ need = length-take-le need pages (omega arith) in
    let many = all_many ns os
    (λ i j n a b. let p = taken_is pages need i n a in let q = taken_is pages need j n b in m.takes.taken.apart i j p.0 q.0 (p.1 ∙ sym q.1))
    (λ j n there. let p = taken_is pages need j n there in subst (λ (z : ℕ). 0 < owns z os) p.1 (m.takes.taken.mine j p.0).1) in
    let left : length f.account.pool.own ≡ length (let_go_all ns os) = ap length own in
    let same = ap length stock in let had = m.takes.taken.few in omega arith

pub won_stocked : (k : Shape) (c d e f : Seated) (x : Slot) (s : Stop) (depth need code first leaf : ℕ) (t : Target) (pages : List ℕ) → IsMade k c d x s depth t pages need → length pages ≡ 16
    → e ≡ with_account d (after_link (after_split d.account (take need pages) leaf) x.stop.number x.index code first false) → IsRetired e f leaf → IsStocked f
won_stocked k c d e f x s depth need code first leaf t pages m long won r =
    let u : Parted = record { page = leaf; stamp = 0 } in
    let stock : f.stock ≡ d.stock = ap (λ (y : Seated). y.stock) r.after ∙ ap (λ (y : Seated). y.stock) won in
    let parted : e.account.pool.parted ≡ u ∷ [] = ap (λ (y : Seated). y.account.pool.parted) won ∙ (ap (λ (p : PoolAccount). p.parted) (link_pool (after_split d.account (take need pages) leaf) x.stop.number x.index code first false) ∙ ap (λ (us : List Parted). u ∷ us) m.takes.taken.clean) in record {
      own = λ q mine. subst (λ (l : List ℕ). IsAmong l q) (sym stock) (won_stock k c d e f x s depth need code first leaf t pages m long won r q mine);
      few = won_few k c d e f x s depth need code first leaf t pages m long won r;
      size = (let same = ap length stock in let size = m.takes.taken.size in omega arith);
      clean = ap (λ (y : Seated). y.account.pool.parted) r.after ∙ (ap (λ (us : List Parted). without (λ v. v.page) leaf (stamp_all r.epoch us)) parted ∙ ap (λ b. cond b [] (record { page = leaf; stamp = r.epoch } ∷ [])) (eq-eqb leaf leaf refl));
    }

pub won_comes : (k : Shape) (c d e f : Seated) (x : Slot) (s next : Stop) (depth need first leaf : ℕ) (t : Target) (pages : List ℕ) → IsBehindFull k c.account x s depth t → IsMade k c d x s depth t pages need
    → e ≡ with_account d (after_link (after_split d.account (take need pages) leaf) x.stop.number x.index (get_or t.codes depth 0) first false) → IsRetired e f leaf → first ≢ 0 → IsPage k first → next ≡ record { page = first; number = s.number + 1 } → ComesIn k c f s next (depth + 1) t
won_comes k c d e f x s next depth need first leaf t pages h m won r some_first inside is =
    let code : ℕ = get_or t.codes depth 0 in
    let a : Account = after_split d.account (take need pages) leaf in
    let b : Account = after_link a x.stop.number x.index code first false in
    let at_a : IsBehindFull k a x s depth t = full_same k c.account a x s depth t m.takes.reached m.takes.goes.rest h in
    let down_e : IsDown k e.account next (depth + 1) t = down_link k a e.account x s next depth first t at_a (ap (λ (y : Seated). y.account) won) some_first inside is in
    let g : Grown a b (led (here a x.stop) x.index code first false) = grown_link a x.stop x.index code first false at_a.pair.reached some_first in
    let g_d : Grown d.account b (led (here a x.stop) x.index code first false) = record { size = g.size; shown = g.shown; last = g.last } in
    let goes_e : Goes 0 d e = grown_goes 0 d e b (led (here a x.stop) x.index code first false) (omega arith) won (rest_link a x.stop.number x.index code first false) (lists_link a x.stop.number x.index code first false) g_d in
    let reached : f.account.tree.reached ≡ e.account.tree.reached = ap (λ (y : Seated). y.account.tree.reached) r.after in
    let rest : rest_of f.account ≡ rest_of e.account = ap (λ (y : Seated). rest_of y.account) r.after in
    let goes_f : Goes 0 e f = record {
      table = ap (λ (y : Seated). y.table) r.after;
      shape = ap (λ (y : Seated). y.shape) r.after;
      rest = rest;
      grows = epoch_grows e.account f.account r.epoch (ap (λ (y : Seated). lists_of y.account) r.after);
      longer = (let same = ap length reached in omega arith);
      stays = λ j less. absurd (omega arith);
    } in
    let counts : f.account.counts ≡ more_linked (length (take need pages)) d.account.counts = ap (λ (y : Seated). y.account.counts) r.after ∙ (ap (λ (y : Seated). y.account.counts) won ∙ counts_link a x.stop.number x.index code first false) in record {
      linked = (let after = ap (λ (y : Counts). y.linked) counts in let before = ap (λ (y : Counts). y.linked) m.takes.linked in let most = take_most need pages in let few = m.few in omega arith);
      goes = goes_on 0 0 c e f (omega arith) (goes_on 0 0 c d e (omega arith) (goes_less 0 (length c.account.tree.reached) c d (omega arith) m.takes.goes) goes_e) goes_f;
      number = (let now : next.number ≡ s.number + 1 = ap (λ (y : Stop). y.number) is in omega arith);
      low = h.low;
      down = down_same k e.account f.account next (depth + 1) t reached rest down_e;
    }

-- ---- lost

pub lost_taken : (k : Shape) (c d e : Seated) (x : Slot) (s : Stop) (depth need code found : ℕ) (t : Target) (pages : List ℕ) → IsMade k c d x s depth t pages need → e ≡ with_account d (after_link d.account x.stop.number x.index code found false) → AreTaken e pages need
lost_taken k c d e x s depth need code found t pages m lost =
    let pool : (after_link d.account x.stop.number x.index code found false).pool ≡ d.account.pool = link_pool d.account x.stop.number x.index code found false in
    let taken = m.takes.taken in
    subst (λ (y : Seated). AreTaken y pages need) (sym lost) record {
      own = λ q mine. taken.own q (subst (λ (p : PoolAccount). 0 < owns q p.own) pool mine);
      mine = λ i less. let (page, mine, out) = taken.mine i less in (page, subst (λ (p : PoolAccount). 0 < owns (get_or pages i 0) p.own) (sym pool) mine, out);
      apart = taken.apart;
      few = (let own : length (after_link d.account x.stop.number x.index code found false).pool.own ≡ length d.account.pool.own = ap (λ (p : PoolAccount). length p.own) pool in let few = taken.few in omega arith);
      size = taken.size;
      clean = ap (λ (p : PoolAccount). p.parted) pool ∙ taken.clean;
    }

pub lost_comes : (k : Shape) (c d e f : Seated) (x : Slot) (s next : Stop) (depth need found : ℕ) (t : Target) (pages : List ℕ) → IsBehindFull k c.account x s depth t → IsMade k c d x s depth t pages need
    → e ≡ with_account d (after_link d.account x.stop.number x.index (get_or t.codes depth 0) found false) → f ≡ with_stock e f.stock → IsPage k found → next ≡ record { page = found; number = s.number + 1 } → ComesIn k c f s next (depth + 1) t
lost_comes k c d e f x s next depth need found t pages h m lost kept inside is =
    let code : ℕ = get_or t.codes depth 0 in
    let b : Account = after_link d.account x.stop.number x.index code found false in
    let some_found : found ≢ 0 = (let above = inside.0 in λ z. omega arith) in
    let at_d : IsBehindFull k d.account x s depth t = full_same k c.account d.account x s depth t m.takes.reached m.takes.goes.rest h in
    let down_e : IsDown k e.account next (depth + 1) t = down_link k d.account e.account x s next depth found t at_d (ap (λ (y : Seated). y.account) lost) some_found inside is in
    let g : Grown d.account b (led (here d.account x.stop) x.index code found false) = grown_link d.account x.stop x.index code found false at_d.pair.reached some_found in
    let goes_e : Goes 0 d e = grown_goes 0 d e b (led (here d.account x.stop) x.index code found false) (omega arith) lost (rest_link d.account x.stop.number x.index code found false) (lists_link d.account x.stop.number x.index code found false) g in
    let goes : Goes 0 c e = goes_on 0 0 c d e (omega arith) (goes_less 0 (length c.account.tree.reached) c d (omega arith) m.takes.goes) goes_e in
    let counts : e.account.counts ≡ d.account.counts = ap (λ (y : Seated). y.account.counts) lost ∙ counts_link d.account x.stop.number x.index code found false in
    subst (λ (y : Seated). ComesIn k c y s next (depth + 1) t) (sym kept) record {
      linked = (let after = ap (λ (y : Counts). y.linked) counts in let before = ap (λ (y : Counts). y.linked) m.takes.linked in omega arith);
      goes = record { table = goes.table; shape = goes.shape; rest = goes.rest; grows = goes.grows; longer = goes.longer; stays = goes.stays };
      number = (let now : next.number ≡ s.number + 1 = ap (λ (y : Stop). y.number) is in omega arith);
      low = h.low;
      down = down_e;
    }

-- ---- the pages and the caller

pub first_page : (b : Place) (c d : Seated) (x : Slot) (s : Stop) (depth need : ℕ) (t : Target) (pages : List ℕ) → IsOf b d → IsMade b.shape c d x s depth t pages need → (get_or pages 0 0 ≢ 0) × IsPage b.shape (get_or pages 0 0)
first_page b c d x s depth need t pages of m =
    let (page, mine, out) = m.takes.taken.mine 0 m.some in
    let inside : IsPage b.shape (get_or pages 0 0) = subst (λ (z : Shape). IsPage z (get_or pages 0 0)) of.shape page in
    ((let above = inside.0 in λ z. omega arith), inside)

pub won_loader : (k : Shape) (c d e f : Seated) (x : Slot) (s : Stop) (depth need code first leaf : ℕ) (t : Target) (pages : List ℕ) → IsMade k c d x s depth t pages need
    → e ≡ with_account d (after_link (after_split d.account (take need pages) leaf) x.stop.number x.index code first false) → IsRetired e f leaf → IsLoader c → IsLoader f
won_loader k c d e f x s depth need code first leaf t pages m won r loader =
    let rest : rest_of f.account ≡ rest_of c.account = ap (λ (y : Seated). rest_of y.account) r.after ∙ (ap (λ (y : Seated). rest_of y.account) won ∙ (rest_link (after_split d.account (take need pages) leaf) x.stop.number x.index code first false ∙ m.takes.goes.rest)) in
    subst (λ (w : Who). w ≡ Loader (number_in w)) (sym (ap (λ (q : Rest). q.who) rest)) loader

pub lost_loader : (k : Shape) (c d e f : Seated) (x : Slot) (s : Stop) (depth need code found : ℕ) (t : Target) (pages : List ℕ) → IsMade k c d x s depth t pages need
    → e ≡ with_account d (after_link d.account x.stop.number x.index code found false) → f ≡ with_stock e f.stock → IsLoader c → IsLoader f
lost_loader k c d e f x s depth need code found t pages m lost kept loader =
    let rest : rest_of f.account ≡ rest_of c.account = ap (λ (y : Seated). rest_of y.account) kept ∙ (ap (λ (y : Seated). rest_of y.account) lost ∙ (rest_link d.account x.stop.number x.index code found false ∙ m.takes.goes.rest)) in
    subst (λ (w : Who). w ≡ Loader (number_in w)) (sym (ap (λ (q : Rest). q.who) rest)) loader
