-- Where more pages were reached than can be counted, nothing more is read.
use Rattle.std.proofs.Common.{◌≡◌, ℕ, Bool, List, [], length, set, sym, refl, ap, ◌∙◌, subst, arith}
use Rattle.std.proofs.lemmas.List.{append-nil}
use Rattle.board_core.specs.declared.room.Row.{Row}
use Rattle.board_core.specs.declared.tree.Link.TheVariants.{Unread}
use Rattle.board_core.specs.Each.{In}
use Rattle.descent.specs.Seats.{Seat, with_reached}
use Rattle.descent.specs.Visits.{visited, with_slot}
use Rattle.descent.specs.Moment.{SomeMoment}
use Rattle.descent.specs.Walks.{Below, LeafAt, ChainTried, FollowTried}
use Rattle.descent.proofs.Lists.{at_none, length_set, set_again}
use Rattle.descent.proofs.Chains.{Chained, comes_below}
use Rattle.descent.proofs.Tried.{SoFar, of_parts}

pub chain_full : (chain : ℕ) (covers : ℕ → ℕ → Type 0) (m : ℕ) (leaf : Bool) (depth : ℕ) (a b : Seat) (gs hs : List Row) (n page count : ℕ) (ended : Bool) → Chained chain covers m leaf depth a b gs hs n page count ended → ChainTried chain covers m leaf a b gs hs
chain_full chain covers m leaf depth a b gs hs n page count ended k =
    let so_far : SoFar covers a b gs hs (λ r. In r k.parts.mets) = of_parts covers a b b gs hs hs k.parts [] (sym (append-nil b.loads)) refl (λ r h. h) in record {
      moment = k.moment;
      stay = k.stay;
      so_far = so_far.so_far;
      come = λ i r e. let t = so_far.each r (i, e) in let v = k.come t.0 r t.1 in subst (λ (l : List ℕ). Below covers leaf l r) v.on_path (comes_below covers leaf (visited b.reached v.number) r v.comes);
    }

pub follow_full : (chain : ℕ) (covers : ℕ → ℕ → Type 0) (n page place depth : ℕ) (a : Seat) (gs : List Row) → LeafAt covers a.reached n page place depth → SomeMoment chain a.reached → FollowTried chain covers n place a a gs gs
follow_full chain covers n page place depth a gs at m = record {
  moment = m;
  stay = record { long = omega arith; others = λ i h other. refl };
  link = Unread;
  now = ap (λ ls. record (visited a.reached n) { links = ls }) (sym (set_again (visited a.reached n).links place Unread at.unread));
  code = at.code;
  there = at.there;
  so_far = record {
    mets = [];
    loads = [];
    loads_are = sym (append-nil a.loads);
    given_are = sym (append-nil gs);
    good = λ i r e. absurd (at_none i r e);
    differ = tt;
    are_met = λ i r e. absurd (at_none i r e);
  };
  come = λ i r e. absurd (at_none i r e);
}

-- a slot that is loaded reaches no page
pub slot_pages : (b c : Seat) (n word : ℕ) → c ≡ with_reached b (set b.reached n (with_slot word (visited b.reached n))) → length c.reached ≡ length b.reached
slot_pages b c n word after = ap (λ (s : Seat). length s.reached) after ∙ length_set b.reached n (with_slot word (visited b.reached n))
