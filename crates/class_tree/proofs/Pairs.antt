-- A pair of an inner page, of which a walk follows the link.
use Rattle.std.proofs.Common.{◌≡◌, ◌≢◌, ℕ, zero, suc, ◌+◌, ◌<◌, ◌≤◌, Bool, true, false, List, [], ◌∷◌, ◌++◌, length, get_or, set, take, refl, sym, ap, ◌∙◌, subst, arith, take-suc, get_or-set_same, length-set}
use lib.ListN.{get_elem?}
use Rattle.htss_defs.specs.declared.shape.Shape.{Shape}
use Rattle.board_core.specs.declared.account.Account.{Account}
use Rattle.board_core.specs.declared.tree.Link.{Link}
use Rattle.board_core.specs.declared.tree.Link.TheVariants.{To}
use Rattle.board_core.specs.declared.tree.Reached.{Reached}
use Rattle.board_core.specs.Loaded.{IsPage}
use Rattle.board_core.specs.Steps.{MayLoadLink}
use Rattle.board_core.specs.After.{root, visited, with_link, after_link, led}
use Rattle.class_tree.specs.declared.walks.Stop.{Stop}
use Rattle.class_tree.specs.declared.walks.Slot.{Slot}
use Rattle.class_tree.specs.declared.walks.Target.{Target}
use Rattle.class_tree.specs.Linking.{IsPair}
use Rattle.class_tree.specs.Walking.{here, Rest, AreHigh, IsFresh, IsAt, IsTarget, HasCode}
use Rattle.class_tree.proofs.Pages.{target_kept, within, visited_before}
use Rattle.class_tree.proofs.Grown.{Grown, grown_link, grown_fresh, grown_high, grown_at, rest_link}
use Rattle.class_tree.proofs.Chain.{depth_is}

pub pair_of : (k : Shape) (a : Account) (x : Slot) (depth : ℕ) (t : Target) → HasCode k a x depth t → IsPair k a x depth t
pair_of k a x depth t h = record {
  pinned = h.at.pinned;
  inside = h.at.inside;
  reached = within k a x.stop (take depth t.codes) h.rank h.known false h.at;
  there = h.at.there;
  on = h.at.on;
  kind = h.at.kind;
  unread = h.at.unread;
  not_zero = h.at.not_zero;
  room = h.room;
  code = h.there;
}

pub pair_load : (k : Shape) (a : Account) (x : Slot) (depth : ℕ) (t : Target) → IsPair k a x depth t → MayLoadLink k a x.stop.number x.index (get_or t.codes depth 0)
pair_load k a x depth t h = record {
  visit = record { reached = h.reached; inside = subst (IsPage k) (sym h.there) h.inside };
  pinned = h.pinned;
  inner = h.kind;
  code = h.code;
  not_zero = h.not_zero;
  unread = h.unread;
}

-- what a pair needs of its page
abbrev Face : Type 0
Face = ℕ × List ℕ × Bool × Link × Bool × List ℕ

abbrev pub face_of : Reached → Face
face_of y = (y.page, y.path, y.leaf, y.more, y.zero, y.slots)

pub pair_kept : (k : Shape) (a b : Account) (x : Slot) (depth : ℕ) (t : Target) → IsPair k a x depth t → b.pool.announced ≡ a.pool.announced → length a.tree.reached ≤ length b.tree.reached → face_of (here b x.stop) ≡ face_of (here a x.stop) → IsPair k b x depth t
pair_kept k a b x depth t h pin longer e = record {
  pinned = (let old = h.pinned in omega arith);
  inside = h.inside;
  reached = (let old = h.reached in omega arith);
  there = ap (λ (f : Face). f.0) e ∙ h.there;
  on = ap (λ (f : Face). f.1) e ∙ h.on;
  kind = ap (λ (f : Face). f.2) e ∙ h.kind;
  unread = ap (λ (f : Face). f.3) e ∙ h.unread;
  not_zero = ap (λ (f : Face). f.4) e ∙ h.not_zero;
  room = h.room;
  code = ap (λ (f : Face). get_elem? f.5 x.index) e ∙ h.code;
}

pub pair_same : (k : Shape) (a b : Account) (x : Slot) (depth : ℕ) (t : Target) → b.tree.reached ≡ a.tree.reached → b.pool.announced ≡ a.pool.announced → IsPair k a x depth t → IsPair k b x depth t
pair_same k a b x depth t e pin h = pair_kept k a b x depth t h pin (let same = ap length e in omega arith) (ap (λ (l : List Reached). face_of (visited l x.stop.number)) e)

link_face : (a : Account) (j i c n : ℕ) (leaf : Bool) → j < length a.tree.reached → n ≢ 0 → face_of (visited (after_link a j i c n leaf).tree.reached j) ≡ face_of (visited a.tree.reached j)
link_face a j i c zero leaf less some_n = absurd (some_n refl)
link_face a j i c (suc n) leaf less some_n =
    let y : Reached = visited a.tree.reached j in
    let long : length (set a.tree.reached j (with_link i (To (suc n)) y)) ≡ length a.tree.reached = length-set a.tree.reached j (with_link i (To (suc n)) y) in
    ap face_of (visited_before (set a.tree.reached j (with_link i (To (suc n)) y)) (led y i c (suc n) leaf) j (omega arith) ∙ get_or-set_same a.tree.reached j (with_link i (To (suc n)) y) root less)

-- ---- the page behind the link

-- the path goes on with the code
pub longer_path : (l : List ℕ) (depth : ℕ) → depth < length l → take depth l ++ get_or l depth 0 ∷ [] ≡ take (depth + 1) l
longer_path l depth less = sym (take-suc l depth 0 less) ∙ (let e : suc depth ≡ depth + 1 = omega arith in ap (λ (n : ℕ). take n l) e)

pub codes_long : (k : Shape) (a : Account) (t : Target) → IsTarget k a t → length t.codes ≡ 5
codes_long k a t h = ap length h.codes_are

-- no page of a deeper chain was reached yet
none_deeper : (a : Account) (path : List ℕ) (depth code : ℕ) → length path ≡ depth + 1 → AreHigh a depth → IsFresh a path code
none_deeper a path depth code long high j less inner on seen = let most = high j less inner in let same : length (visited a.tree.reached j).path ≡ length path = ap length on in absurd (omega arith)

-- a page behind the link is the newest that was reached
pub record IsReachedBehind (k : Shape) (b : Account) (x : Slot) (next : Stop) (depth : ℕ) (leaf : Bool) (t : Target) : Type 0 where
  pub at : IsAt k b next (take (depth + 1) t.codes) 0 leaf 0
  pub target : IsTarget k b t
  pub fresh : (code : ℕ) → IsFresh b (take (depth + 1) t.codes) code
  pub high : AreHigh b (depth + 1)
  pub above : leaf ≡ true → AreHigh b depth
  pub pair : IsPair k b x depth t

pub behind_link : (k : Shape) (a b : Account) (x : Slot) (next : Stop) (depth n : ℕ) (leaf : Bool) (t : Target) → IsPair k a x depth t → depth < 5 → IsTarget k a t → AreHigh a depth → next.number ≡ length a.tree.reached → b ≡ after_link a x.stop.number x.index (get_or t.codes depth 0) n leaf → n ≢ 0 → IsPage k n → next.page ≡ n → IsReachedBehind k b x next depth leaf t
behind_link k a b x next depth n leaf t h deep target high number e some_n inside page =
    let s : Stop = x.stop in
    let code : ℕ = get_or t.codes depth 0 in
    let after : Account = after_link a s.number x.index code n leaf in
    let z : Reached = led (here a s) x.index code n leaf in
    let g : Grown a after z = grown_link a s x.index code n leaf h.reached some_n in
    let size = codes_long k a t target in
    let path : z.path ≡ take (depth + 1) t.codes = (λ i. h.on i ++ code ∷ []) ∙ longer_path t.codes depth (omega arith) in
    let long : length (take (depth + 1) t.codes) ≡ depth + 1 = depth_is k a t (depth + 1) (omega arith) target in
    let pin : after.pool.announced ≡ a.pool.announced = ap (λ (r : Rest). r.announced) (rest_link a s.number x.index code n leaf) in
    let path_long : length z.path ≡ depth + 1 = ap length path ∙ long in
    subst (λ (y : Account). IsReachedBehind k y x next depth leaf t) (sym e) record {
      at = subst (λ (p : List ℕ). IsAt k after next p 0 leaf 0) path (grown_at k a after next z g (let old = h.pinned in omega arith) (subst (IsPage k) (sym page) inside) number (sym page) refl refl refl);
      target = target_kept k a after t (rest_link a s.number x.index code n leaf) target;
      fresh = λ c. grown_fresh a after z (take (depth + 1) t.codes) c g refl (none_deeper a (take (depth + 1) t.codes) depth c long high);
      high = grown_high a after z (depth + 1) g (λ _. omega arith) (λ j before inner. let most = high j before inner in omega arith);
      above = λ is. grown_high a after z depth g (λ inner. let bad : true ≡ false = sym is ∙ inner in absurd cc) high;
      pair = pair_kept k a after x depth t h pin (let size_now = g.size in omega arith) (link_face a s.number x.index code n leaf h.reached some_n);
    }
