-- The link beside a code that covers, and the chain that it leads to.
use Rattle.std.proofs.Common.{◌≡◌, ◌≢◌, ℕ, suc, ◌+◌, ◌*◌, ◌%◌, ◌<◌, ◌≤◌, ◌^◌, ◌⊎◌, Bool, true, false, List, [], ◌∷◌, ◌++◌, length, set, sym, refl, ap, ◌∙◌, subst, arith, inl, inr, length-append, Some, None, nat_eq, eq-eqb, ne_eqb, Result, Ok, Err, IfOk}
use mathlib.Core.Option.{some-injective}
use mathlib.Core.Logic.{dite}
use native.Mathlib.Decide.{ℕ_discrete}
use Rattle.board_core.specs.declared.tree.Link.TheVariants.{Absent, To}
use Rattle.board_core.specs.declared.tree.Reached.{Reached}
use Rattle.board_core.specs.ClassTree.{Place, kind_of, header_of, IsBelow}
use Rattle.board_core.specs.declared.room.Row.{Row}
use Rattle.descent.specs.Sweep.{AllCover, IsWhole}
use Rattle.descent.specs.declared.loads.Visit.{Visit}
use Rattle.htss_defs.specs.declared.out_of_memory.OutOfMemory.{OutOfMemory}
use Rattle.descent.specs.Seats.{Seat}
use Rattle.descent.specs.Visits.{visited, IsVisit, with_link, led, MayLink, AfterLink}
use Rattle.board_core.specs.Rows.{IsPlaced}
use Rattle.descent.specs.Moment.{SomeMoment}
use Rattle.descent.specs.Walks.{Met, rows_of, Parts, Stay, ChainRead, IsBegun, LeafAt, Followed, Below, ChainTried, FollowTried}
use Rattle.descent.proofs.Lists.{at_none, at_visit, set_visit, length_set, length_snoc, left_visit, last_visit, fewer_than}
use Rattle.descent.proofs.Told.{shallow}
use Rattle.descent.proofs.Covers.{cover_snoc, below_less}
use Rattle.descent.proofs.Staying.{set_stays, set_then, parts_none, parts_before}

-- rows that differ are numbers of 64 bits, so their count is one
pub count_fits : (covers : ℕ → ℕ → Type 0) (a b : Seat) (gs hs : List Row) (p : Parts covers a b gs hs) (count : ℕ) → count ≡ length (rows_of p.mets) → count < 2 ^ 64
count_fits covers a b gs hs p count e = let few = fewer_than (2 ^ 64) (rows_of p.mets) p.gained.different p.gained.numbers (omega arith) in omega arith

-- the header tells the kind
by_kind : (leaf : Bool) (n : ℕ) → nat_eq ((kind_of leaf + 4 * n) % 4) 1 ≡ leaf
by_kind true n = eq-eqb ((1 + 4 * n) % 4) 1 (omega arith)
by_kind false n = ne_eqb ((2 + 4 * n) % 4) 1 (λ e. absurd (omega arith))

pub header_kind : (p : Place) → nat_eq (header_of p % 4) 1 ≡ p.leaf
header_kind p = ap (λ n. nat_eq (n % 4) 1) (let e : header_of p ≡ kind_of p.leaf + 4 * (length p.path + 8 * p.rank) = omega arith in e) ∙ by_kind p.leaf (length p.path + 8 * p.rank)

module _ (chain : ℕ) (covers : ℕ → ℕ → Type 0) (n page place depth : ℕ) (a : Seat) (gs : List Row) (at : LeafAt covers a.reached n page place depth) where
  pub may_link : MayLink (visited a.reached n) place
  may_link = let last = at.last in record { inner = at.kind; code = omega arith; as_many = at.as_many ∙ sym at.last; unread = at.unread; not_zero = at.not_zero; no_more = at.no_more }

  pub follow_none : (b : Seat) → AfterLink a n place None b → SomeMoment chain b.reached → Followed chain covers n place a b gs gs 0
  follow_none b after m =
      let reached : b.reached ≡ set a.reached n (with_link place Absent (visited a.reached n)) = ap (λ (s : Seat). s.reached) after in
      let size : length b.reached ≡ length a.reached = ap length reached ∙ length_set a.reached n (with_link place Absent (visited a.reached n)) in record {
        moment = m;
        stay = set_stays a.reached b.reached n (with_link place Absent (visited a.reached n)) reached;
        link = Absent;
        now = ap (λ rs. visited rs n) reached ∙ set_visit a.reached n (with_link place Absent (visited a.reached n)) at.inside;
        code = at.code;
        there = at.there;
        way = inl refl;
        parts = parts_none covers a b gs gs (ap (λ (s : Seat). s.loads) after) refl;
        come = λ i r e. absurd (at_none i r e);
        done = λ i h less. absurd (omega arith);
        counts = refl;
      }

  module _ (b : Seat) (v : Visit) (after : AfterLink a n place (Some v) b) (m : SomeMoment chain b.reached) where
    code : ℕ
    code = after.1.0

    kind : Bool
    kind = after.1.1

    changed : Reached
    changed = with_link place (To v.page) (visited a.reached n)

    reached : b.reached ≡ set a.reached n (with_link place (To v.page) (visited a.reached n)) ++ led (visited a.reached n) place after.1.0 v.page after.1.1 ∷ []
    reached = ap (λ (s : Seat). s.reached) after.1.3

    set_size : length (set a.reached n (with_link place (To v.page) (visited a.reached n))) ≡ length a.reached
    set_size = length_set a.reached n (with_link place (To v.page) (visited a.reached n))

    size : length b.reached ≡ suc (length a.reached)
    size = ap length reached ∙ (length_snoc (set a.reached n (with_link place (To v.page) (visited a.reached n))) (led (visited a.reached n) place after.1.0 v.page after.1.1) ∙ ap suc set_size)

    now : visited b.reached n ≡ with_link place (To v.page) (visited a.reached n)
    now =
        let within = at.inside in
        let same = set_size in
        ap (λ rs. visited rs n) reached ∙ (left_visit (set a.reached n (with_link place (To v.page) (visited a.reached n))) (led (visited a.reached n) place after.1.0 v.page after.1.1 ∷ []) n (omega arith)
        ∙ set_visit a.reached n (with_link place (To v.page) (visited a.reached n)) at.inside)

    is : visited b.reached v.number ≡ led (visited a.reached n) place after.1.0 v.page after.1.1
    is = ap (visited b.reached) (after.0 ∙ sym set_size) ∙ (ap (λ rs. visited rs (length (set a.reached n (with_link place (To v.page) (visited a.reached n))))) reached
        ∙ last_visit (set a.reached n (with_link place (To v.page) (visited a.reached n))) (led (visited a.reached n) place after.1.0 v.page after.1.1))

    stay : Stay n a.reached b.reached
    stay = set_then a.reached b.reached n (with_link place (To v.page) (visited a.reached n)) (led (visited a.reached n) place after.1.0 v.page after.1.1) reached

    inside : v.number < length b.reached
    inside = let s = size in let e = after.0 in omega arith

    same_code : at.code ≡ after.1.0
    same_code = some-injective at.code after.1.0 (sym at.there ∙ after.1.2)

    path : (visited b.reached v.number).path ≡ (visited a.reached n).path ++ at.code ∷ []
    path = ap (λ (x : Reached). x.path) is ∙ ap (λ c. (visited a.reached n).path ++ c ∷ []) (sym same_code)

    pub follow_visit : IsVisit b.reached v
    follow_visit = record { inside = inside; page = ap (λ (x : Reached). x.page) is }

    pub follow_begun : (leaf : Bool) → leaf ≡ (visited b.reached v.number).leaf → IsBegun covers b.reached v.number v.page leaf (depth + 1)
    follow_begun leaf e = record {
      inside = inside;
      is_page = ap (λ (x : Reached). x.page) is;
      fresh = record { slots = ap (λ (x : Reached). x.slots) is; links = ap (λ (x : Reached). x.links) is; zero = ap (λ (x : Reached). x.zero) is; more = ap (λ (x : Reached). x.more) is };
      kind = sym e;
      is_depth = ap length path ∙ (length-append (visited a.reached n).path (at.code ∷ []) ∙ ap (λ k. k + 1) at.is_depth);
      cover = subst (λ (l : List ℕ). AllCover covers 0 l) (sym path) (cover_snoc covers (visited a.reached n).path at.code at.cover (subst (λ (d : ℕ). covers d at.code) (sym at.is_depth) at.covers_it));
    }

    -- an inner page is no deeper than 4
    pub follow_shallow : (leaf : Bool) → leaf ≡ (visited b.reached v.number).leaf → leaf ≡ false → depth + 1 < 5
    follow_shallow leaf e inner =
        let low = shallow chain m.0 (IsPlaced m.1) (λ r. ⊥) b.reached m.2 (visited b.reached v.number) (v.number, at_visit b.reached v.number inside) (sym e ∙ inner) in
        let long : length (visited b.reached v.number).path ≡ depth + 1 = ap length path ∙ (length-append (visited a.reached n).path (at.code ∷ []) ∙ ap (λ k. k + 1) at.is_depth) in
        omega arith

    all_below : (leaf : Bool) (on : List ℕ) (k : Met) → Below covers leaf on k → IsBelow on k.path
    all_below true on k h = h
    all_below false on k h = below_less on k.path h.0 h.2

    pub follow_some : (leaf : Bool) (c : Seat) (hs : List Row) (count : ℕ) → ChainRead chain covers v.number leaf b c gs hs count → Followed chain covers n place a c gs hs count
    follow_some leaf c hs count q =
        let s = size in
        let e = after.0 in
        let within = at.inside in
        let other : n ≢ v.number = λ t. absurd (omega arith) in
        let la = stay.long in
        let lb = q.stay.long in record {
          moment = q.moment;
          stay = record { long = omega arith; others = λ i h apart. q.stay.others i (omega arith) (let t : i ≢ v.number = λ u. absurd (omega arith) in t) ∙ stay.others i h apart };
          link = To v.page;
          now = q.stay.others n (omega arith) other ∙ now;
          code = at.code;
          there = at.there;
          way = inr (leaf, q.end.0, subst (λ (l : List ℕ). IsWhole c.reached l leaf q.end.0) path q.end.1);
          parts = parts_before covers a b c gs hs (ap (λ (z : Seat). z.loads) after.1.3) q.parts;
          come = λ i r t. subst (λ (l : List ℕ). IsBelow l r.path) path (all_below leaf (visited b.reached v.number).path r (q.come i r t));
          done = λ i h less. q.done i (let t : (i ≡ v.number) ⊎ (length b.reached ≤ i) = dite (ℕ_discrete i v.number) (λ u. inl u) (λ u. inr (omega arith)) in t) less;
          counts = q.counts;
        }

    pub follow_tried : (leaf : Bool) (c : Seat) (hs : List Row) → ChainTried chain covers v.number leaf b c gs hs → FollowTried chain covers n place a c gs hs
    follow_tried leaf c hs q =
        let s = size in
        let e = after.0 in
        let within = at.inside in
        let other : n ≢ v.number = λ t. absurd (omega arith) in
        let la = stay.long in
        let lb = q.stay.long in record {
          moment = q.moment;
          stay = record { long = omega arith; others = λ i h apart. q.stay.others i (omega arith) (let t : i ≢ v.number = λ u. absurd (omega arith) in t) ∙ stay.others i h apart };
          link = To v.page;
          now = q.stay.others n (omega arith) other ∙ now;
          code = at.code;
          there = at.there;
          so_far = record {
            mets = q.so_far.mets;
            loads = q.so_far.loads;
            loads_are = q.so_far.loads_are ∙ ap (λ (z : Seat). z.loads ++ q.so_far.loads) after.1.3;
            given_are = q.so_far.given_are;
            good = q.so_far.good;
            differ = q.so_far.differ;
            are_met = q.so_far.are_met;
          };
          come = λ i r t. subst (λ (l : List ℕ). IsBelow l r.path) path (all_below leaf (visited b.reached v.number).path r (q.come i r t));
        }

pub ok_map : (r : Result ℕ OutOfMemory) (F G : ℕ → Type 0) → ((n : ℕ) → F n → G n) → IfOk r F → IfOk r G
ok_map (Ok n) F G f h = f n h
ok_map (Err e) F G f h = h
