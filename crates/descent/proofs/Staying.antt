-- What a part of a descent leaves as it was.
use Rattle.std.proofs.Common.{◌≡◌, ◌≢◌, ℕ, suc, ◌+◌, ◌<◌, ◌⊎◌, Bool, true, false, List, [], ◌∷◌, ◌++◌, length, set, sym, ap, ◌∙◌, subst, ⊎_elim, arith, inl, inr, append_assoc, length-append}
use Rattle.std.proofs.lemmas.List.{append-nil}
use mathlib.Core.Option.{some}
use mathlib.Core.Logic.{dite}
use native.Mathlib.Decide.{ℕ_discrete}
use lib.ListN.{get_elem?}
use Rattle.board_core.specs.declared.tree.Link.TheVariants.{Absent}
use Rattle.board_core.specs.declared.tree.Reached.{Reached}
use Rattle.board_core.specs.Each.{Each, In}
use Rattle.board_core.specs.ClassTree.{chained, Place, page_room, IsBelow}
use Rattle.board_core.specs.KnownPages.{place_of, IsEnd}
use Rattle.board_core.specs.declared.room.Row.{Row}
use Rattle.descent.specs.Sweep.{IsWhole}
use Rattle.board_core.proofs.Lists.{inside, each_append}
use Rattle.descent.specs.Seats.{CodeLoad, Seat, named}
use Rattle.descent.specs.Visits.{visited, IsFresh}
use Rattle.board_core.specs.Rows.{IsPlaced}
use Rattle.descent.specs.Moment.{Moment, SomeMoment}
use Rattle.descent.specs.Walks.{Met, rows_of, IsMet, IsDone, Stay, Parts, Gained}
use Rattle.descent.proofs.Lists.{named_append, at_none, in_left, in_right, at_visit, visit_at, set_other, length_set, left_visit, length_snoc}
use Rattle.descent.proofs.Told.{row_below}
use Rattle.descent.proofs.Covers.{one_code}
use Rattle.descent.proofs.Gains.{rows_append, gained_none, gained_append, few_none, few_append}

-- chains that were read to their end still are
abbrev pub KeepsWhole : List Reached → List Reached → Type 0
KeepsWhole rs ss = (path : List ℕ) (leaf : Bool) (e : Reached) → IsWhole rs path leaf e → (f : Reached) × IsWhole ss path leaf f

pub whole_trans : (rs ss ts : List Reached) → KeepsWhole rs ss → KeepsWhole ss ts → KeepsWhole rs ts
whole_trans rs ss ts a b path leaf e w = let f = a path leaf e w in b path leaf f.0 f.1

pub stay_trans : (n : ℕ) (rs ss ts : List Reached) → Stay n rs ss → Stay n ss ts → Stay n rs ts
stay_trans n rs ss ts a b = let la = a.long in let lb = b.long in record { long = omega arith; others = λ i h other. b.others i (omega arith) other ∙ a.others i h other }

-- other pages stay, and where the end of a chain was read at this one, it still was
pub stay_whole : (n : ℕ) (rs ss : List Reached) → n < length rs → Stay n rs ss → place_of (visited ss n) ≡ place_of (visited rs n) → ((b : Bool) → IsEnd b (visited rs n) → IsEnd b (visited ss n)) → KeepsWhole rs ss
stay_whole n rs ss within stay place end path leaf e w =
    let i : ℕ = w.mate.there.0 in
    let small = inside rs i e w.mate.there.1 in
    let long = stay.long in
    let is : visited rs i ≡ e = visit_at rs i e w.mate.there.1 in
    dite (ℕ_discrete i n)
    (λ (same : i ≡ n).
    let here : visited rs n ≡ e = ap (visited rs) (sym same) ∙ is in (
      visited ss n,
      record {
        mate = record {
          there = (n, at_visit ss n (omega arith));
          path = ap (λ (p : Place). p.path) place ∙ (ap (λ (x : Reached). x.path) here ∙ w.mate.path);
          kind = ap (λ (p : Place). p.leaf) place ∙ (ap (λ (x : Reached). x.leaf) here ∙ w.mate.kind);
        };
        end = end leaf (subst (λ (x : Reached). IsEnd leaf x) (sym here) w.end);
      },
    ))
    (λ (other : i ≢ n). (
      e,
      record {
        mate = record { there = (i, at_visit ss i (omega arith) ∙ ap some (stay.others i small other ∙ is)); path = w.mate.path; kind = w.mate.kind };
        end = w.end;
      },
    ))

-- the end of a chain is not read at a page of which a slot is left
pub no_end : (b : Bool) (x : Reached) → x.zero ≡ false → length x.slots < page_room b → IsEnd b x → ⊥
unfolding chained
no_end true x z h e = ⊎_elim (λ (u : x.zero ≡ true). let clash : false ≡ true = sym z ∙ u in absurd cc) (λ (u : (length x.slots ≡ 14) × ((length x.path < 5) ⊎ (x.more ≡ Absent))). let f : length x.slots ≡ 14 = u.0 in absurd (omega arith)) e
no_end false x z h e = ⊎_elim (λ (u : x.zero ≡ true). let clash : false ≡ true = sym z ∙ u in absurd cc) (λ (u : (length x.slots ≡ 7) × (x.more ≡ Absent)). let f : length x.slots ≡ 7 = u.0 in absurd (omega arith)) e

pub fresh_end : (b : Bool) (x : Reached) → IsFresh x → IsEnd b x → ⊥
fresh_end b x f = no_end b x f.zero (let none : length x.slots ≡ 0 = ap length f.slots in let room = some_room b in omega arith)
  where
    some_room : (c : Bool) → 0 < page_room c
    some_room true = omega arith
    some_room false = omega arith

-- the page before the last is read on
pub set_stays : (rs ss : List Reached) (n : ℕ) (x : Reached) → ss ≡ set rs n x → Stay n rs ss
set_stays rs ss n x e = let size : length ss ≡ length rs = ap length e ∙ length_set rs n x in record { long = omega arith; others = λ i h other. ap (λ l. visited l i) e ∙ set_other rs n i x other }

pub set_then : (rs ss : List Reached) (n : ℕ) (x z : Reached) → ss ≡ set rs n x ++ z ∷ [] → Stay n rs ss
set_then rs ss n x z e =
    let one : length (set rs n x) ≡ length rs = length_set rs n x in
    let size : length ss ≡ suc (length (set rs n x)) = ap length e ∙ length_snoc (set rs n x) z in record {
      long = omega arith;
      others = λ i h other. ap (λ l. visited l i) e ∙ (left_visit (set rs n x) (z ∷ []) i (omega arith) ∙ set_other rs n i x other);
    }

pub done_kept : (covers : ℕ → ℕ → Type 0) (rs ss : List Reached) (rows rows2 : List ℕ) (y : Reached) → KeepsWhole rs ss → ((r : ℕ) → In r rows → In r rows2) → IsDone covers rs rows y → IsDone covers ss rows2 y
done_kept covers rs ss rows rows2 y whole more d = record {
  followed = λ inner i c at cover. ⊎_elim (λ (h : get_elem? y.links i ≡ some Absent). inl h)
      (λ (h : (leaf : Bool) × (x : Reached) × IsWhole rs (y.path ++ c ∷ []) leaf x). let f = whole (y.path ++ c ∷ []) h.0 h.1 h.2 in inr (h.0, f.0, f.1))
      (d.followed inner i c at cover);
  read = λ leaf j r at. more r (d.read leaf j r at);
}

-- rows that were met are still known
pub stay_met : (covers : ℕ → ℕ → Type 0) (n : ℕ) (rs ss : List Reached) → Stay n rs ss → place_of (visited ss n) ≡ place_of (visited rs n) → ((r : ℕ) → In r (visited rs n).slots → In r (visited ss n).slots)
    → (m : Met) → IsMet covers rs m → IsMet covers ss m
stay_met covers n rs ss stay place slots m h =
    let long = stay.long in
    let inside = h.inside in
    dite (ℕ_discrete h.number n)
    (λ (e : h.number ≡ n). record {
      number = h.number;
      inside = omega arith;
      kind = ap (λ i. (visited ss i).leaf) e ∙ (ap (λ (p : Place). p.leaf) place ∙ (ap (λ i. (visited rs i).leaf) (sym e) ∙ h.kind));
      path = ap (λ i. (visited ss i).path) e ∙ (ap (λ (p : Place). p.path) place ∙ (ap (λ i. (visited rs i).path) (sym e) ∙ h.path));
      there = subst (λ (i : ℕ). In m.row (visited ss i).slots) (sym e) (slots m.row (subst (λ (i : ℕ). In m.row (visited rs i).slots) e h.there));
      cover = h.cover;
    })
    (λ (e : h.number ≢ n). let same = stay.others h.number h.inside e in record {
      number = h.number;
      inside = omega arith;
      kind = ap (λ (x : Reached). x.leaf) same ∙ h.kind;
      path = ap (λ (x : Reached). x.path) same ∙ h.path;
      there = subst (λ (x : Reached). In m.row x.slots) (sym same) h.there;
      cover = h.cover;
    })

-- ---- rows, loads and rows given, of two parts one after the other

pub rows_left : (ms ns : List Met) (r : ℕ) → In r (rows_of ms) → In r (rows_of (ms ++ ns))
rows_left ms ns r h = subst (λ (l : List ℕ). In r l) (sym (rows_append ms ns)) (in_left (rows_of ms) (rows_of ns) r h)

pub rows_right : (ms ns : List Met) (r : ℕ) → In r (rows_of ns) → In r (rows_of (ms ++ ns))
rows_right ms ns r h = subst (λ (l : List ℕ). In r l) (sym (rows_append ms ns)) (in_right (rows_of ms) (rows_of ns) r h)

pub rows_count : (ms ns : List Met) → length (rows_of (ms ++ ns)) ≡ length (rows_of ms) + length (rows_of ns)
rows_count ms ns = ap length (rows_append ms ns) ∙ length-append (rows_of ms) (rows_of ns)

pub gained_both : (covers : ℕ → ℕ → Type 0) (ms ns : List Met) (ks ls : List CodeLoad) (gs hs : List ℕ) → Gained covers (rows_of ms) ks gs → Gained covers (rows_of ns) ls hs → ((r : ℕ) → In r (rows_of ms) → In r (rows_of ns) → ⊥)
    → Gained covers (rows_of (ms ++ ns)) (ks ++ ls) (gs ++ hs)
gained_both covers ms ns ks ls gs hs g h apart = subst (λ (l : List ℕ). Gained covers l (ks ++ ls) (gs ++ hs)) (sym (rows_append ms ns)) (gained_append covers (rows_of ms) (rows_of ns) ks ls gs hs g h apart)

pub met_both : (covers : ℕ → ℕ → Type 0) (rs ss : List Reached) (ms ns : List Met) → ((m : Met) → IsMet covers rs m → IsMet covers ss m) → Each (IsMet covers rs) ms → Each (IsMet covers ss) ns → Each (IsMet covers ss) (ms ++ ns)
met_both covers rs ss ms ns stays a b = each_append (IsMet covers ss) ms ns (λ i m e. stays m (a i m e)) b

module _ (covers : ℕ → ℕ → Type 0) where
  abbrev pub parts_none : (a b : Seat) (gs hs : List Row) → b.loads ≡ a.loads → hs ≡ gs → Parts covers a b gs hs
  parts_none a b gs hs loads given = record {
    mets = [];
    loads = [];
    given = [];
    loads_are = loads ∙ sym (append-nil a.loads);
    given_are = given ∙ sym (append-nil gs);
    gained = gained_none covers;
    few = few_none;
    are_met = λ i m e. absurd (at_none i m e);
  }

  abbrev pub parts_append : (a b c : Seat) (gs hs is : List Row) (p : Parts covers a b gs hs) (q : Parts covers b c hs is)
      → ((m : Met) → IsMet covers b.reached m → IsMet covers c.reached m)
      → ((r : ℕ) → In r (rows_of p.mets) → In r (rows_of q.mets) → ⊥)
      → ((path : List ℕ) → length path < 5 → (m n : Met) → In m p.mets → In n q.mets → IsBelow m.path path → IsBelow n.path path → ⊥)
      → Parts covers a c gs is
  parts_append a b c gs hs is p q stays apart clash = record {
    mets = p.mets ++ q.mets;
    loads = p.loads ++ q.loads;
    given = p.given ++ q.given;
    loads_are = q.loads_are ∙ (ap (λ l. l ++ q.loads) p.loads_are ∙ append_assoc a.loads p.loads q.loads);
    given_are = q.given_are ∙ (ap (λ l. l ++ named q.given) p.given_are ∙ (append_assoc gs (named p.given) (named q.given) ∙ ap (λ l. gs ++ l) (sym (named_append p.given q.given))));
    gained = gained_both covers p.mets q.mets p.loads q.loads p.given q.given p.gained q.gained apart;
    few = few_append p.mets q.mets p.few q.few clash;
    are_met = met_both covers b.reached c.reached p.mets q.mets stays p.are_met q.are_met;
  }

  -- the same parts, after a step that loads no code and gives no row
  abbrev pub parts_after : (a b c : Seat) (gs hs : List Row) → c.loads ≡ b.loads → ((m : Met) → IsMet covers b.reached m → IsMet covers c.reached m) → (p : Parts covers a b gs hs) → Parts covers a c gs hs
  parts_after a b c gs hs same stays p = record { mets = p.mets; loads = p.loads; given = p.given; loads_are = same ∙ p.loads_are; given_are = p.given_are; gained = p.gained; few = p.few; are_met = λ i m e. stays m (p.are_met i m e) }

  -- and before one
  abbrev pub parts_before : (a b c : Seat) (gs hs : List Row) → b.loads ≡ a.loads → (p : Parts covers b c gs hs) → Parts covers a c gs hs
  parts_before a b c gs hs same p = record { mets = p.mets; loads = p.loads; given = p.given; loads_are = p.loads_are ∙ ap (λ l. l ++ p.loads) same; given_are = p.given_are; gained = p.gained; few = p.few; are_met = p.are_met }

-- ---- what a row that was met is

pub below_trans : (p q cs : List ℕ) → IsBelow p q → IsBelow q cs → IsBelow p cs
below_trans p q cs a b = (a.0 ++ b.0, b.1 ∙ (ap (λ l. l ++ b.0) a.1 ∙ append_assoc p a.0 b.0))

pub met_below : (chain : ℕ) (codes : ℕ → List ℕ) (put old : ℕ → Type 0) (covers : ℕ → ℕ → Type 0) (rs : List Reached) (mo : Moment chain codes put old rs) (m : Met) → IsMet covers rs m → IsBelow m.path (codes m.row) × (length (codes m.row) ≡ 5) × put m.row
met_below chain codes put old covers rs mo m h =
    let t = row_below chain codes put old rs mo (visited rs h.number) (h.number, at_visit rs h.number h.inside) h.kind h.there.0 m.row h.there.1 in
    (subst (λ (l : List ℕ). IsBelow l (codes m.row)) h.path t.0, t.1, t.3)

-- two rows below two codes of a page differ
pub met_apart : (chain : ℕ) (covers : ℕ → ℕ → Type 0) (rs : List Reached) (mo : SomeMoment chain rs) (m n : Met) (path : List ℕ) (c d : ℕ) → IsMet covers rs m → IsMet covers rs n → m.row ≡ n.row → IsBelow (path ++ c ∷ []) m.path → IsBelow (path ++ d ∷ []) n.path → c ≡ d
met_apart chain covers rs mo m n path c d a b same x y =
    let s = (met_below chain mo.0 (IsPlaced mo.1) (λ r. ⊥) covers rs mo.2 m a).0 in
    let t = (met_below chain mo.0 (IsPlaced mo.1) (λ r. ⊥) covers rs mo.2 n b).0 in
    one_code path (mo.0 n.row) c d (subst (λ (r : ℕ). IsBelow (path ++ c ∷ []) (mo.0 r)) same (below_trans (path ++ c ∷ []) m.path (mo.0 m.row) x s)) (below_trans (path ++ d ∷ []) n.path (mo.0 n.row) y t)
