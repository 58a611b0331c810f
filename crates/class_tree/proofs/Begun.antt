-- A row is begun, and the walk goes down depth by depth.
use Rattle.std.proofs.Common.{◌≡◌, ◌≢◌, ℕ, zero, suc, ◌+◌, ◌*◌, ◌<◌, ◌≤◌, ◌^◌, List, [], ◌∷◌, ◌++◌, length, get_or, refl, sym, ap, ◌∙◌, subst, arith, ◌-◌}
use mathlib.Core.Option.{some-ne-none}
use lib.ListN.{get_elem?}
use Rattle.htss_defs.specs.declared.shape.Shape.{Shape}
use Rattle.htss_defs.specs.declared.shape.Field.TheVariants.{Loaders, Searchers, Pages, Room, Log}
use Rattle.htss_defs.specs.Shapes.{IsShape}
use Rattle.board_core.specs.Words.{total_of}
use Rattle.std.specs.Prelude.{Result, Ok, Err, MatchResult}
use Rattle.board_core.specs.declared.account.Who.{Who}
use Rattle.board_core.specs.declared.entry.Entry.{Entry}
use Rattle.board_core.specs.declared.entry.Entry.TheVariants.{NoPage as PageWanted, ChainFull as ChainWasFull}
use Rattle.board_core.specs.declared.entry.Noted.{Noted}
use Rattle.board_core.specs.declared.account.Account.{Account}
use Rattle.board_core.specs.declared.loads.Loads.{Loads}
use Rattle.board_core.specs.declared.room.Row.{Row}
use Rattle.board_core.specs.declared.tree.Reached.{Reached}
use Rattle.board_core.specs.declared.tree.TreeAccount.{TreeAccount}
use Rattle.board_core.specs.Each.{In}
use Rattle.board_core.specs.Loaded.{IsPage}
use Rattle.board_core.specs.Rows.{entry_word, code_of, codes_of, words_of, own_codes, HasRow}
use Rattle.board_core.specs.After.{root, visited, noted, after_code, after_begun, after_unpin}
use Rattle.board_core.proofs.Lists.{at_last, at_longer}
use Rattle.board.specs.Seated.{Place, Seated, IsOf, with_account, with_stock}
use Rattle.page_pool.specs.Taking.{IsPinned}
use Rattle.class_tree.specs.declared.insert.InsertError.{InsertError}
use Rattle.class_tree.specs.declared.insert.InsertError.TheVariants.{NoPage, ChainFull}
use Rattle.class_tree.specs.Inserting.{HasAnswered, HasBegun, HasFullChain, IsNeeded, HasPlaced, IsRefusal}
use Rattle.class_tree.specs.Refusing.{Answers, Stops}
use Rattle.class_tree.specs.declared.walks.Stop.{Stop}
use Rattle.class_tree.specs.declared.walks.Slot.{Slot}
use Rattle.class_tree.specs.declared.walks.Target.{Target}
use Rattle.class_tree.specs.Loading.{LoadsOn, code_loads}
use Rattle.class_tree.specs.declared.link.Step.{Step}
use Rattle.class_tree.specs.declared.link.Step.TheVariants.{Down}
use Rattle.class_tree.specs.Linking.{ComesDown, FollowsTo}
use Rattle.class_tree.specs.Walking.{Rest, rest_of, IsTarget, IsDown, Goes, IsFound, Places, Begins, left_at}
use Rattle.class_tree.proofs.Grown.{goes_same, goes_on}
use Rattle.class_tree.proofs.Loadings.{lists_of, grows_on, grows_equal, pinned_grows}
use Rattle.board_core.specs.Steps.{MayLink}
use Rattle.board_core.specs.CountRule.{most_linked, insertions_of}
use Rattle.class_tree.proofs.Counting.{may_less}

-- a board has fewer words than that
pub block_fits : (k : Shape) (block : ℕ) → IsShape k → block < total_of k → block < 2 ^ 40
block_fits k block h inside =
    let loaders = (h Loaders).1 in let searchers = (h Searchers).1 in let pages = (h Pages).1 in let log = (h Log).1 in let room = (h Room).1 in
    let rooms = rooms_most k.loaders k.room 16 loaders in omega arith
  where
    rooms_most : (n room most : ℕ) → n ≤ most → n * room ≤ most * room
    rooms_most zero room most less = omega arith
    rooms_most (suc n) room zero less = absurd (omega arith)
    rooms_most (suc n) room (suc most) less = let rest = rooms_most n room most (omega arith) in omega arith

-- ---- depth by depth

pub record IsAtDepth (k : Shape) (c d : Seated) (s : Stop) (depth : ℕ) (t : Target) : Type 0 where
  pub down : IsDown k d.account s depth t
  pub goes : Goes 0 c d
  pub number : s.number ≤ 65537 * depth
  pub low : depth < 5

pub first_depth : (k : Shape) (c : Seated) (s : Stop) (t : Target) → IsDown k c.account s 0 t → s.number ≡ 0 → IsAtDepth k c c s 0 t
first_depth k c s t h first = record { down = h; goes = goes_same 0 c; number = omega arith; low = omega arith }

pub found_goes : (k : Shape) (c d e : Seated) (s : Stop) (x : Slot) (depth : ℕ) (t : Target) → IsAtDepth k c d s depth t → IsFound k d e x depth t → Goes 0 c e
found_goes k c d e s x depth t h found = goes_on 0 0 c d e (omega arith) h.goes found.goes

pub next_depth : (k : Shape) (c d e f : Seated) (s next : Stop) (x : Slot) (depth : ℕ) (t : Target) → IsAtDepth k c d s depth t → IsFound k d e x depth t → ComesDown k e f x.stop next depth t → IsAtDepth k c f next (depth + 1) t
next_depth k c d e f s next x depth t h found down = record {
  down = down.down;
  goes = goes_on 0 0 c e f (omega arith) (goes_on 0 0 c d e (omega arith) h.goes found.goes) down.goes;
  number = (let now = down.number in let before = found.number in omega arith);
  low = down.low;
}

pub comes_down : (k : Shape) (c d : Seated) (x : Slot) (next : Stop) (depth : ℕ) (t : Target) (s : Step) → s ≡ Down next → FollowsTo k c d x depth t s → ComesDown k c d x.stop next depth t
comes_down k c d x next depth t s e g = subst (FollowsTo k c d x depth t) e g

-- ---- the row

-- what its codes are read from
abbrev Source : Type 0
Source = Shape × Who × List ℕ

source_of : Seated → Source
source_of c = (c.shape, c.account.who, c.account.room.used)

abbrev code_in : Source → Row → ℕ → ℕ
code_in s row i = code_of (words_of s.0 s.1 s.2 row.block) row.atom i

-- the codes that are loaded then link nothing
pub begun_few : (n : ℕ) (d e f g l : Seated) (row : Row) (w x y z : ℕ) → l ≡ with_account g (after_code g.account row 4 z) → g ≡ with_account f (after_code f.account row 3 y) → f ≡ with_account e (after_code e.account row 2 x) → e ≡ with_account d (after_code d.account row 1 w)
    → MayLink d.account n → MayLink l.account n
begun_few n d e f g l row w x y z fifth fourth third second may =
    let may_e : MayLink e.account n = subst (λ (q : Seated). MayLink q.account n) (sym second) may in
    let may_f : MayLink f.account n = subst (λ (q : Seated). MayLink q.account n) (sym third) may_e in
    let may_g : MayLink g.account n = subst (λ (q : Seated). MayLink q.account n) (sym fourth) may_f in
    subst (λ (q : Seated). MayLink q.account n) (sym fifth) may_g

pub pinned_few : (n : ℕ) (d e : Seated) → IsPinned d e → MayLink d.account n → MayLink e.account n
pinned_few n d e p may = subst (λ (q : Seated). MayLink q.account n) (sym p.after) may

-- ---- how many pages it may link

pub found_may : (k : Shape) (d e : Seated) (x : Slot) (depth : ℕ) (t : Target) → IsFound k d e x depth t → depth < 5 → MayLink d.account (left_at depth) → MayLink e.account 1
found_may k d e x depth t found low may = may_less 1 1 d.account e.account found.goes.rest found.linked (omega arith)

pub found_may_split : (k : Shape) (d e : Seated) (x : Slot) (depth : ℕ) (t : Target) → IsFound k d e x depth t → MayLink d.account (left_at depth) → depth < 4 → MayLink e.account 16
found_may_split k d e x depth t found may low = may_less 16 1 d.account e.account found.goes.rest found.linked (omega arith)

pub next_may : (k : Shape) (d e f : Seated) (x : Slot) (next : Stop) (depth : ℕ) (t : Target) → IsFound k d e x depth t → ComesDown k e f x.stop next depth t → MayLink d.account (left_at depth) → MayLink f.account (left_at (depth + 1))
next_may k d e f x next depth t found down may =
    let low = down.low in let one = found.linked in let more = down.linked in
    may_less (left_at (depth + 1)) 17 d.account f.account (down.goes.rest ∙ found.goes.rest) (omega arith) (omega arith)

pub is_target : (b : Place) (c h d e f g l : Seated) (row : Row) (entry v w x y z : ℕ) → IsOf b c → h ≡ c → l ≡ with_account g (after_code g.account row 4 z) → g ≡ with_account f (after_code f.account row 3 y) → f ≡ with_account e (after_code e.account row 2 x) → e ≡ with_account d (after_code d.account row 1 w)
    → d ≡ with_account h (after_begun (after_code h.account row 0 v) row) → v ≡ code_in (h.shape, h.account.who, h.account.room.used) row 0 → w ≡ code_in (d.shape, d.account.who, d.account.room.used) row 1 → x ≡ code_in (e.shape, e.account.who, e.account.room.used) row 2
    → y ≡ code_in (f.shape, f.account.who, f.account.room.used) row 3 → z ≡ code_in (g.shape, g.account.who, g.account.room.used) row 4 → v ≢ 0 → w ≢ 0 → x ≢ 0 → y ≢ 0 → z ≢ 0
    → (HasRow (entry_word row) h.account.tree.placed → In row h.account.tree.placed) → (In row c.account.tree.placed → ⊥) → entry ≡ entry_word row → IsTarget b.shape l.account (record { row = row; entry = entry; codes = v ∷ w ∷ x ∷ y ∷ z ∷ [] })
is_target b c h d e f g l row entry v w x y z of first fifth fourth third second begun s0 s1 s2 s3 s4 n0 n1 n2 n3 n4 alone fresh is =
    let start : Source = (b.shape, c.account.who, c.account.room.used) in
    let h_is : (h.shape, h.account.who, h.account.room.used) ≡ start = ap (λ (q : Seated). (q.shape, q.account.who, q.account.room.used)) first ∙ (λ i. (of.shape i, c.account.who, c.account.room.used)) in
    let d_is : (d.shape, d.account.who, d.account.room.used) ≡ start = ap (λ (q : Seated). (q.shape, q.account.who, q.account.room.used)) begun ∙ h_is in
    let e_is : (e.shape, e.account.who, e.account.room.used) ≡ start = ap (λ (q : Seated). (q.shape, q.account.who, q.account.room.used)) second ∙ d_is in
    let f_is : (f.shape, f.account.who, f.account.room.used) ≡ start = ap (λ (q : Seated). (q.shape, q.account.who, q.account.room.used)) third ∙ e_is in
    let g_is : (g.shape, g.account.who, g.account.room.used) ≡ start = ap (λ (q : Seated). (q.shape, q.account.who, q.account.room.used)) fourth ∙ f_is in
    let l_is : (l.shape, l.account.who, l.account.room.used) ≡ start = ap (λ (q : Seated). (q.shape, q.account.who, q.account.room.used)) fifth ∙ g_is in
    let same0 : v ≡ code_in start row 0 = s0 ∙ ap (λ (q : Source). code_in q row 0) h_is in
    let same1 : w ≡ code_in start row 1 = s1 ∙ ap (λ (q : Source). code_in q row 1) d_is in
    let same2 : x ≡ code_in start row 2 = s2 ∙ ap (λ (q : Source). code_in q row 2) e_is in
    let same3 : y ≡ code_in start row 3 = s3 ∙ ap (λ (q : Source). code_in q row 3) f_is in
    let same4 : z ≡ code_in start row 4 = s4 ∙ ap (λ (q : Source). code_in q row 4) g_is in
    let tree : l.account.tree ≡ (after_begun h.account row).tree = ap (λ (q : Seated). q.account.tree) fifth ∙ (ap (λ (q : Seated). q.account.tree) fourth ∙ (ap (λ (q : Seated). q.account.tree) third ∙ (ap (λ (q : Seated). q.account.tree) second ∙ ap (λ (q : Seated). q.account.tree) begun))) in
    let codes : v ∷ w ∷ x ∷ y ∷ z ∷ [] ≡ own_codes b.shape l.account row = (λ i. same0 i ∷ same1 i ∷ same2 i ∷ same3 i ∷ same4 i ∷ []) ∙ ap (λ (q : Who × List ℕ). codes_of (words_of b.shape q.0 q.1 row.block) row.atom) (sym (ap (λ (q : Source). (q.1, q.2)) l_is)) in record {
      entry = sym is;
      codes_are = codes;
      some_code = each_code v w x y z n0 n1 n2 n3 n4;
      place = record {
        begun = subst (λ (q : TreeAccount). In row q.begun) (sym tree) (length h.account.tree.begun, at_last h.account.tree.begun row (length h.account.tree.begun) refl);
        fresh = subst (λ (q : TreeAccount). HasRow (entry_word row) q.placed → ⊥) (sym tree) (λ there. fresh (subst (λ (q : Seated). In row q.account.tree.placed) first (alone there)));
        below = (own_codes b.shape l.account row, refl);
      };
    }
  where
    each_code : (v w x y z : ℕ) → v ≢ 0 → w ≢ 0 → x ≢ 0 → y ≢ 0 → z ≢ 0 → (i : ℕ) → i < 5 → get_or (v ∷ w ∷ x ∷ y ∷ z ∷ []) i 0 ≢ 0
    each_code v w x y z a b c d e zero less = a
    each_code v w x y z a b c d e (suc zero) less = b
    each_code v w x y z a b c d e (suc (suc zero)) less = c
    each_code v w x y z a b c d e (suc (suc (suc zero))) less = d
    each_code v w x y z a b c d e (suc (suc (suc (suc zero)))) less = e
    each_code v w x y z a b c d e (suc (suc (suc (suc (suc i))))) less = absurd (omega arith)

-- ---- the pin

only_root : (j : ℕ) → visited (root ∷ []) j ≡ root
only_root zero = refl
only_root (suc j) = refl

pub pinned_down : (k : Shape) (c d : Seated) (s : Stop) (t : Target) → IsTarget k c.account t → IsPinned c d → IsPage k 1 → s ≡ record { page = 1; number = 0 } → IsDown k d.account s 0 t
pinned_down k c d s t h p inside is = subst (λ (x : Seated × Stop). IsDown k x.0.account x.1 0 t) (λ i. (sym p.after i, sym is i)) record {
  at = record { pinned = p.above; inside = inside; last = refl; there = refl; on = refl; at = refl; kind = refl; size = refl; unread = refl; not_zero = refl };
  target = record { entry = h.entry; codes_are = h.codes_are; some_code = h.some_code; place = record { begun = h.place.begun; fresh = h.place.fresh; below = h.place.below } };
  fresh = λ code j less inner on seen. let (i, there) = subst (λ (x : Reached). In code x.slots) (only_root j) seen in absurd (some-ne-none code (sym there));
  high = λ j less inner. let same : length (visited (root ∷ []) j).path ≡ 0 = ap (λ (x : Reached). length x.path) (only_root j) in omega arith;
}

-- ---- the answer

answered : (k : Shape) (c d e f g : Seated) (row : Row) (x : Entry) → Begins k c d row → IsPinned d e → Answers e f x → g ≡ with_account f (after_unpin f.account) → HasAnswered c g x
answered k c d e f g row x b p a unpin = record {
  placed = ap (λ (q : Seated). q.account.tree.placed) unpin ∙ (ap (λ (q : Rest). q.placed) a.rest ∙ (ap (λ (q : Seated). q.account.tree.placed) p.after ∙ ap (λ (q : Rest). q.placed) b.rest));
  loads = a.loads;
  entries = ap (λ (q : Seated). q.account.entries) unpin ∙ (ap (λ (q : Rest). q.entries) a.rest ∙ ap (λ (l : List Noted). l ++ noted a.loads (x ∷ [])) (ap (λ (q : Seated). q.account.entries) p.after ∙ ap (λ (q : Rest). q.entries) b.rest));
}

pub inserted : (k : Shape) (c d e f g : Seated) (row : Row) (t : Target) (r : Result (Unit {0}) InsertError) → Begins k c d row → t.row ≡ row → IsPinned d e → MatchResult r (λ _. Places e f t.row) (λ x. Stops k e f t.row x) → g ≡ with_account f (after_unpin f.account) → MatchResult r (λ _. HasPlaced c g row) (λ x. IsRefusal k c g row x)
inserted k c d e f g row t (Ok u) b is p placed unpin = record {
  placed = ap (λ (q : Seated). q.account.tree.placed) unpin ∙ (ap (λ (q : Rest). q.placed) placed.rest ∙ (λ i. (ap (λ (q : Seated). q.account.tree.placed) p.after ∙ ap (λ (q : Rest). q.placed) b.rest) i ++ is i ∷ []));
  entries = ap (λ (q : Seated). q.account.entries) unpin ∙ (ap (λ (q : Rest). q.entries) placed.rest ∙ (ap (λ (q : Seated). q.account.entries) p.after ∙ ap (λ (q : Rest). q.entries) b.rest));
}
inserted k c d e f g row t (Err NoPage) b is p s unpin = record {
  answered = answered k c d e f g row PageWanted b p s.refused.answers unpin;
  before = s.refused.before;
  empty = s.refused.empty;
  after = s.refused.after;
  refused = s.refused.refused;
  end = unpin ∙ (ap (λ (q : Seated). with_account q (after_unpin q.account)) s.refused.end
      ∙ (λ i. with_account (with_stock s.refused.after (ap (λ (q : Seated). q.stock) (sym unpin) i)) (after_unpin s.refused.after.account)));
  need = s.need;
  needed = subst (λ (r : Row). IsNeeded k s.refused.after.account r s.need) is (subst (λ (q : Seated). IsNeeded k q.account t.row s.need) s.refused.end s.needed);
  short = (let same = ap (λ (q : Seated). length q.stock) unpin in let short = s.refused.short in omega arith);
}
inserted k c d e f g row t (Err (ChainFull pages)) b is p s unpin = record {
  answered = answered k c d e f g row (ChainWasFull pages) b p s.answers unpin;
  all = s.all;
  middle = s.middle;
  chain = subst (HasFullChain k s.middle.account) is s.chain;
  end = unpin ∙ ap (λ (q : Seated). with_account q (after_unpin q.account)) s.after;
}

-- ---- whatever is answered

placed_grows : (k : Shape) (e f : Seated) (row : Row) (r : Result (Unit {0}) InsertError) → MatchResult r (λ _. Places e f row) (λ x. Stops k e f row x) → LoadsOn e.account f.account
placed_grows k e f row (Ok u) p = p.grows
placed_grows k e f row (Err NoPage) s = s.refused.answers.grows
placed_grows k e f row (Err (ChainFull pages)) s = s.answers.grows

-- what is the same after each answer
abbrev kept_of : Account → Rest
kept_of a = record (rest_of a) { announced = 0; placed = []; entries = [] }

placed_kept : (k : Shape) (e f : Seated) (row : Row) (r : Result (Unit {0}) InsertError) → MatchResult r (λ _. Places e f row) (λ x. Stops k e f row x) → kept_of f.account ≡ kept_of e.account
placed_kept k e f row (Ok u) p = ap (λ (x : Rest). record x { announced = 0; placed = []; entries = [] }) p.rest
placed_kept k e f row (Err NoPage) s = ap (λ (x : Rest). record x { announced = 0; placed = []; entries = [] }) s.refused.answers.rest
placed_kept k e f row (Err (ChainFull pages)) s = ap (λ (x : Rest). record x { announced = 0; placed = []; entries = [] }) s.answers.rest

-- after the row was begun
after_grows : (k : Shape) (d e f g : Seated) (row : Row) (t : Target) (r : Result (Unit {0}) InsertError) → IsPinned d e → MatchResult r (λ _. Places e f t.row) (λ x. Stops k e f t.row x) → g ≡ with_account f (after_unpin f.account) → LoadsOn d.account g.account
after_grows k d e f g row t r p placed unpin = grows_on d.account e.account g.account (pinned_grows d e p)
    (grows_on e.account f.account g.account (placed_grows k e f t.row r placed) (grows_equal f.account g.account (ap (λ (x : Seated). lists_of x.account) unpin)))

begun_grows : (k : Shape) (c d : Seated) (row : Row) → Begins k c d row → LoadsOn c.account d.account
begun_grows k c d row b = record {
  epochs = λ j x h. ap (λ (l : Loads). get_elem? l.epochs j) b.loads ∙ h;
  announcements = λ j x h. ap (λ (l : Loads). get_elem? l.announcements j) b.loads ∙ h;
  states = λ j x h. ap (λ (l : Loads). get_elem? l.states j) b.loads ∙ h;
  lost = λ j x h. ap (λ (l : Loads). get_elem? l.lost j) b.loads ∙ h;
  codes = λ j x h. ap (λ (l : Loads). get_elem? l.codes j) b.loads ∙ at_longer c.account.loads.codes (code_loads row 0 (own_codes k c.account row)) j x h;
  heads = λ j x h. ap (λ (l : Loads). get_elem? l.heads j) b.loads ∙ h;
}

pub has_begun : (k : Shape) (c d e f g : Seated) (row : Row) (t : Target) (r : Result (Unit {0}) InsertError) → Begins k c d row → IsPinned d e → MatchResult r (λ _. Places e f t.row) (λ x. Stops k e f t.row x) → g ≡ with_account f (after_unpin f.account) → HasBegun k c g row
has_begun k c d e f g row t r b p placed unpin =
    let after = after_grows k d e f g row t r p placed unpin in
    let kept : kept_of g.account ≡ record (kept_of c.account) { begun = c.account.tree.begun ++ row ∷ [] } =
    ap (λ (x : Seated). kept_of x.account) unpin ∙ (placed_kept k e f t.row r placed ∙ (ap (λ (x : Seated). kept_of x.account) p.after ∙ ap (λ (x : Rest). record x { announced = 0; placed = []; entries = [] }) b.rest)) in record {
      who = ap (λ (x : Rest). x.who) kept;
      unpinned = ap (λ (x : Seated). x.account.pool.announced) unpin;
      begun = ap (λ (x : Rest). x.begun) kept;
      codes = λ j x h. after.codes j x (ap (λ (l : Loads). get_elem? l.codes j) b.loads ∙ h);
      log = ap (λ (x : Rest). x.log) kept;
      room = ap (λ (x : Rest). x.room) kept;
      fronts = ap (λ (x : Rest). x.fronts) kept;
      shown = ap (λ (x : Rest). x.shown) kept;
      marks = ap (λ (x : Rest). x.marks) kept;
      facts = ap (λ (x : Rest). x.facts) kept;
      grows = grows_on c.account d.account g.account (begun_grows k c d row b) after;
    }
