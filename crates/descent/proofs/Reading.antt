-- The loop over the entries of a leaf.
use Rattle.std.proofs.Common.{◌≡◌, ◌≢◌, ℕ, zero, suc, ◌+◌, ◌<◌, ◌≤◌, ◌^◌, Bool, true, false, List, [], ◌∷◌, ◌++◌, length, set, sym, refl, ap, ◌∙◌, subst, ⊎_elim, arith, append_assoc}
use Rattle.std.proofs.lemmas.List.{append-nil}
use mathlib.Core.Option.{some, some-injective, some-ne-none}
use lib.ListN.{get_elem?}
use Rattle.board_core.specs.declared.tree.Link.TheVariants.{Unread}
use Rattle.board_core.specs.declared.tree.Reached.{Reached}
use Rattle.board_core.specs.Each.{In}
use Rattle.board_core.specs.ClassTree.{Place}
use Rattle.board_core.specs.KnownPages.{place_of}
use Rattle.board_core.specs.declared.room.Row.{Row}
use Rattle.descent.specs.Sweep.{AllCover}
use Rattle.board_core.proofs.Lists.{inside}
use Rattle.board_core.specs.Met.{row_named}
use Rattle.descent.specs.Seats.{CodeLoad, Seat, with_reached, named}
use Rattle.descent.specs.Visits.{visited, IsEntry, with_slot}
use Rattle.board_core.specs.Rows.{IsPlaced}
use Rattle.descent.specs.Moment.{SomeMoment}
use Rattle.descent.specs.Walks.{Met, met, rows_of, Gained, PageRead, IsBegun, IsDone, Offered, Sifts, OfferFailed, PageTried, Parts, Stay}
use Rattle.descent.proofs.Lists.{named_append, at_left, at_last, at_visit, set_visit, set_other, length_set, length_snoc, set_on, in_one, in_left}
use Rattle.descent.proofs.Staying.{stay_met}
use Rattle.descent.proofs.Tried.{of_parts}
use Rattle.descent.proofs.Told.{rows_apart}
use Rattle.descent.proofs.Gains.{gained_none, gained_append, gained_given, gained_dropped, few_leaf}

pub slot_zero : (n : ℕ) (x : Reached) → n ≡ 0 → with_slot n x ≡ record x { zero = true }
slot_zero zero x e = refl
slot_zero (suc n) x e = absurd (omega arith)

pub slot_some : (n : ℕ) (x : Reached) → n ≢ 0 → x.zero ≡ false → with_slot n x ≡ record x { slots = x.slots ++ n ∷ []; links = x.links ++ Unread ∷ [] }
slot_some zero x e z = absurd (e refl)
slot_some (suc n) x e z = λ i. record x { zero = sym z i; slots = x.slots ++ suc n ∷ []; links = x.links ++ Unread ∷ [] }

-- the entries of a leaf as rows that were met
mets_of : List ℕ → List ℕ → List Met
mets_of path [] = []
mets_of path (r ∷ rs) = met r path ∷ mets_of path rs

rows_are : (path rs : List ℕ) → rows_of (mets_of path rs) ≡ rs
unfolding mets_of
rows_are path [] = refl
rows_are path (r ∷ rs) = ap (λ l. r ∷ l) (rows_are path rs)

met_at : (path rs : List ℕ) (i : ℕ) (m : Met) → get_elem? (mets_of path rs) i ≡ some m → (m.path ≡ path) × In m.row rs
unfolding mets_of
met_at path [] i m e = absurd (some-ne-none m (sym e))
met_at path (r ∷ rs) zero m e = let same : met r path ≡ m = some-injective (met r path) m e in (ap (λ (x : Met). x.path) (sym same), (0, ap (λ (x : Met). some x.row) same))
met_at path (r ∷ rs) (suc i) m e = let t = met_at path rs i m e in (t.0, (suc t.1.0, t.1.1))

-- so many entries were read, and their rows offered
pub record LeafReading (chain : ℕ) (covers : ℕ → ℕ → Type 0) (n : ℕ) (a b : Seat) (gs hs : List Row) (count : ℕ) : Type 0 where
  pub now : Reached
  pub reached : b.reached ≡ set a.reached n now
  pub place : place_of now ≡ place_of (visited a.reached n)
  pub page : now.page ≡ (visited a.reached n).page
  pub unread : now.more ≡ Unread
  pub zero : now.zero ≡ false
  pub size : length now.slots ≡ count
  pub loads : List CodeLoad
  pub given : List ℕ
  pub loads_are : b.loads ≡ a.loads ++ loads
  pub given_are : hs ≡ gs ++ named given
  pub gained : Gained covers now.slots loads given
  pub moment : 0 < count → SomeMoment chain b.reached

module _ (chain : ℕ) (covers : ℕ → ℕ → Type 0) (n page depth : ℕ) (a : Seat) (gs : List Row) (begun : IsBegun covers a.reached n page true depth) where
  same_set : (rs : List Reached) (i : ℕ) → i < length rs → rs ≡ set rs i (visited rs i)
  same_set [] i h = absurd (omega arith)
  same_set (x ∷ rs) zero h = refl
  same_set (x ∷ rs) (suc i) h = ap (λ l. x ∷ l) (same_set rs i (omega arith))

  pub leaf_start : LeafReading chain covers n a a gs gs 0
  leaf_start = record {
    now = visited a.reached n;
    reached = same_set a.reached n begun.inside;
    place = refl;
    page = refl;
    unread = begun.fresh.more;
    zero = begun.fresh.zero;
    size = ap length begun.fresh.slots;
    loads = [];
    given = [];
    loads_are = sym (append-nil a.loads);
    given_are = sym (append-nil gs);
    gained = subst (λ (l : List ℕ). Gained covers l [] []) (sym begun.fresh.slots) (gained_none covers);
    moment = λ h. absurd (omega arith);
  }

  module _ (b : Seat) (hs : List Row) (count : ℕ) (r : LeafReading chain covers n a b gs hs count) (within_leaf : count ≤ 14) where
    pub leaf_now : visited b.reached n ≡ r.now
    leaf_now = ap (λ rs. visited rs n) r.reached ∙ set_visit a.reached n r.now begun.inside

    pub leaf_inside : n < length b.reached
    leaf_inside = let same : length b.reached ≡ length a.reached = ap length r.reached ∙ length_set a.reached n r.now in let h = begun.inside in omega arith

    pub leaf_kind : r.now.leaf ≡ true
    leaf_kind = ap (λ (p : Place). p.leaf) r.place ∙ begun.kind

    -- what was read so far
    parts_so_far : (p : Parts covers a b gs hs) × ((k : Met) → In k p.mets → (k.path ≡ r.now.path) × In k.row r.now.slots)
    parts_so_far = (
      record {
        mets = mets_of r.now.path r.now.slots;
        loads = r.loads;
        given = r.given;
        loads_are = r.loads_are;
        given_are = r.given_are;
        gained = subst (λ (l : List ℕ). Gained covers l r.loads r.given) (sym (rows_are r.now.path r.now.slots)) r.gained;
        few = few_leaf (mets_of r.now.path r.now.slots) (let same = ap length (rows_are r.now.path r.now.slots) in let size = r.size in omega arith);
        are_met = λ i k e. let t = met_at r.now.path r.now.slots i k e in record {
          number = n;
          inside = leaf_inside;
          kind = ap (λ (y : Reached). y.leaf) leaf_now ∙ leaf_kind;
          path = ap (λ (y : Reached). y.path) leaf_now ∙ sym t.0;
          there = subst (λ (y : Reached). In k.row y.slots) (sym leaf_now) t.1;
          cover = subst (λ (l : List ℕ). AllCover covers 0 l) (sym (t.0 ∙ ap (λ (p : Place). p.path) r.place)) begun.cover;
        };
      },
      (λ k h. met_at r.now.path r.now.slots h.0 k h.1),
    )

    -- a page read as far as this
    read : (c : Seat) (x : Reached) (ended : Bool) → c.loads ≡ b.loads → c.reached ≡ set a.reached n x → SomeMoment chain c.reached → place_of x ≡ place_of r.now → x.page ≡ r.now.page → x.more ≡ Unread → x.slots ≡ r.now.slots
        → (ended ≡ true → x.zero ≡ true) → (ended ≡ false → x.zero ≡ false) → (ended ≡ false → count ≡ 14) → count ≤ 14 → PageRead chain covers n true a c gs hs count ended
    read c x ended loads reached m place same_page unread slots found_zero not_zero full most =
        let now : visited c.reached n ≡ x = ap (λ rs. visited rs n) reached ∙ set_visit a.reached n x begun.inside in
        let long : length c.reached ≡ length a.reached = ap length reached ∙ length_set a.reached n x in
        let size = r.size in record {
          moment = m;
          stay = record { long = omega arith; others = λ i h other. ap (λ rs. visited rs i) reached ∙ set_other a.reached n i x other };
          place = ap place_of now ∙ (place ∙ r.place);
          page = ap (λ (y : Reached). y.page) now ∙ (same_page ∙ r.page);
          unread = ap (λ (y : Reached). y.more) now ∙ unread;
          zero = λ e. ap (λ (y : Reached). y.zero) now ∙ found_zero e;
          not_zero = λ e. ap (λ (y : Reached). y.zero) now ∙ not_zero e;
          full = λ e. ap (λ (y : Reached). length y.slots) now ∙ (ap length slots ∙ (r.size ∙ full e));
          parts = record {
            mets = mets_of r.now.path r.now.slots;
            loads = r.loads;
            given = r.given;
            loads_are = loads ∙ r.loads_are;
            given_are = r.given_are;
            gained = subst (λ (l : List ℕ). Gained covers l r.loads r.given) (sym (rows_are r.now.path r.now.slots)) r.gained;
            few = few_leaf (mets_of r.now.path r.now.slots) (let same = ap length (rows_are r.now.path r.now.slots) in omega arith);
            are_met = λ i m e. let t = met_at r.now.path r.now.slots i m e in record {
              number = n;
              inside = (let h = begun.inside in omega arith);
              kind = ap (λ (y : Reached). y.leaf) now ∙ (ap (λ (p : Place). p.leaf) place ∙ leaf_kind);
              path = ap (λ (y : Reached). y.path) now ∙ (ap (λ (p : Place). p.path) place ∙ sym t.0);
              there = subst (λ (l : List ℕ). In m.row l) (sym (ap (λ (z : Reached). z.slots) now ∙ slots)) t.1;
              cover = subst (λ (l : List ℕ). AllCover covers 0 l) (sym (t.0 ∙ ap (λ (p : Place). p.path) r.place)) begun.cover;
            };
          };
          come = λ i m e. let t = met_at r.now.path r.now.slots i m e in (
            t.0 ∙ sym (ap (λ (y : Reached). y.path) now ∙ ap (λ (p : Place). p.path) place),
            subst (λ (l : List ℕ). In m.row l) (sym (ap (λ (z : Reached). z.slots) now ∙ slots)) t.1,
          );
          done = λ i where_i within. ⊎_elim
              (λ (e : i ≡ n).
              let here : visited c.reached i ≡ x = ap (λ j. visited c.reached j) e ∙ now in
              subst (λ (z : Reached). IsDone covers c.reached (rows_of (mets_of r.now.path r.now.slots)) z) (sym here) record {
                followed = λ inner. let clash : true ≡ false = sym leaf_kind ∙ (sym (ap (λ (p : Place). p.leaf) place) ∙ inner) in absurd cc;
                read = λ _ j y at. (j, ap (λ (l : List ℕ). get_elem? l j) (rows_are r.now.path r.now.slots ∙ sym slots) ∙ at);
              })
              (λ (e : length a.reached ≤ i). absurd (omega arith))
              where_i;
          counts = sym r.size ∙ sym (ap length (rows_are r.now.path r.now.slots));
        }

    module _ (c : Seat) (row : ℕ) (after : c ≡ with_reached b (set b.reached n (with_slot row (visited b.reached n)))) (m : SomeMoment chain c.reached) where
      slot_reached : c.reached ≡ set a.reached n (with_slot row r.now)
      slot_reached = ap (λ (s : Seat). s.reached) after ∙ set_on a.reached b.reached n r.now (with_slot row) begun.inside r.reached

      pub leaf_zero : row ≡ 0 → count ≤ 14 → PageRead chain covers n true a c gs hs count true
      leaf_zero e most = read c (record r.now { zero = true }) true (ap (λ (s : Seat). s.loads) after) (slot_reached ∙ ap (λ x. set a.reached n x) (slot_zero row r.now e)) m refl refl r.unread refl (λ _. refl) (λ t. absurd (let clash : true ≡ false = t in cc)) (λ t. absurd (let clash : true ≡ false = t in cc)) most

      module _ (some_row : row ≢ 0) where
        more : Reached
        more = record r.now { slots = r.now.slots ++ row ∷ []; links = r.now.links ++ Unread ∷ [] }

        more_reached : c.reached ≡ set a.reached n (record r.now { slots = r.now.slots ++ row ∷ []; links = r.now.links ++ Unread ∷ [] })
        more_reached = slot_reached ∙ ap (λ x. set a.reached n x) (slot_some row r.now some_row r.zero)

        more_now : visited c.reached n ≡ record r.now { slots = r.now.slots ++ row ∷ []; links = r.now.links ++ Unread ∷ [] }
        more_now = ap (λ rs. visited rs n) more_reached ∙ set_visit a.reached n (record r.now { slots = r.now.slots ++ row ∷ []; links = r.now.links ++ Unread ∷ [] }) begun.inside

        more_inside : n < length c.reached
        more_inside = let same : length c.reached ≡ length a.reached = ap length slot_reached ∙ length_set a.reached n (with_slot row r.now) in let h = begun.inside in omega arith

        pub leaf_entry : IsEntry c.reached n count row
        leaf_entry = record {
          inside = more_inside;
          leaf = ap (λ (x : Reached). x.leaf) more_now ∙ leaf_kind;
          there = subst (λ (x : Reached × ℕ). get_elem? x.0.slots x.1 ≡ some row) (λ t. (sym more_now t, r.size t)) (at_last r.now.slots row);
        }

        in_now : In (record r.now { slots = r.now.slots ++ row ∷ []; links = r.now.links ++ Unread ∷ [] }) c.reached
        in_now = (n, at_visit c.reached n more_inside ∙ ap some more_now)

        new_row : In row r.now.slots → ⊥
        new_row h =
            let same = rows_apart chain m.0 (IsPlaced m.1) (λ r. ⊥) c.reached m.2 (record r.now { slots = r.now.slots ++ row ∷ []; links = r.now.links ++ Unread ∷ [] }) in_now leaf_kind h.0 (length r.now.slots) row
            (at_left r.now.slots (row ∷ []) h.0 row h.1) (at_last r.now.slots row) in
            let within = inside r.now.slots h.0 row h.1 in
            absurd (omega arith)

        -- the sink took no more at this row
        pub leaf_tried : (d : Seat) (is : List Row) → OfferFailed c d hs is → PageTried chain covers n true a d gs is
        leaf_tried d is o =
            let x : Reached = record r.now { slots = r.now.slots ++ row ∷ []; links = r.now.links ++ Unread ∷ [] } in
            let reached : d.reached ≡ set a.reached n (record r.now { slots = r.now.slots ++ row ∷ []; links = r.now.links ++ Unread ∷ [] }) = o.reached ∙ more_reached in
            let now_d : visited d.reached n ≡ record r.now { slots = r.now.slots ++ row ∷ []; links = r.now.links ++ Unread ∷ [] } = ap (λ rs. visited rs n) o.reached ∙ more_now in
            let size_b : length b.reached ≡ length a.reached = ap length r.reached ∙ length_set a.reached n r.now in
            let size_d : length d.reached ≡ length a.reached = ap length reached ∙ length_set a.reached n (record r.now { slots = r.now.slots ++ row ∷ []; links = r.now.links ++ Unread ∷ [] }) in
            let stays : Stay n b.reached d.reached = record { long = omega arith; others = λ i h other. (ap (λ rs. visited rs i) reached ∙ set_other a.reached n i x other) ∙ sym (ap (λ rs. visited rs i) r.reached ∙ set_other a.reached n i r.now other) } in
            let grows_slots : (z : ℕ) → In z (visited b.reached n).slots → In z (visited d.reached n).slots =
            λ z h. subst (λ (y : Reached). In z y.slots) (sym now_d) (in_left r.now.slots (row ∷ []) z (subst (λ (y : Reached). In z y.slots) leaf_now h)) in
            let kept = stay_met covers n b.reached d.reached stays (ap place_of now_d ∙ sym (ap place_of leaf_now)) grows_slots in
            let p = parts_so_far in
            let s = of_parts covers a b d gs hs is p.0 o.loads (o.loads_are ∙ ap (λ (z : Seat). z.loads ++ o.loads) after) o.given_are kept in record {
              moment = subst (λ (rs : List Reached). SomeMoment chain rs) (sym o.reached) m;
              stay = record { long = omega arith; others = λ i h other. ap (λ rs. visited rs i) reached ∙ set_other a.reached n i x other };
              place = ap place_of now_d ∙ r.place;
              so_far = s.so_far;
              come = λ i k e. let t = p.1 k (s.each k (i, e)) in (
                t.0 ∙ sym (ap (λ (y : Reached). y.path) now_d),
                subst (λ (y : Reached). In k.row y.slots) (sym now_d) (in_left r.now.slots (row ∷ []) k.row t.1),
              );
            }

        module _ (d : Seat) (is : List Row) (small : row < 2 ^ 64) (o : Offered covers row c d hs is) where
          grows : (loads2 : List CodeLoad) (given2 : List ℕ) → d.loads ≡ c.loads ++ loads2 → is ≡ hs ++ named given2 → Gained covers (row ∷ []) loads2 given2 → LeafReading chain covers n a d gs is (count + 1)
          grows loads2 given2 loads_are given_are gained =
              let size = r.size in
              let one_more = length_snoc r.now.slots row in record {
                now = record r.now { slots = r.now.slots ++ row ∷ []; links = r.now.links ++ Unread ∷ [] };
                reached = o.sifts.reached ∙ more_reached;
                place = r.place;
                page = r.page;
                unread = r.unread;
                zero = r.zero;
                size = omega arith;
                loads = r.loads ++ loads2;
                given = r.given ++ given2;
                loads_are = loads_are ∙ (ap (λ (s : Seat). s.loads ++ loads2) after ∙ (ap (λ l. l ++ loads2) r.loads_are ∙ append_assoc a.loads r.loads loads2));
                given_are = given_are ∙ (ap (λ l. l ++ named given2) r.given_are ∙ (append_assoc gs (named r.given) (named given2) ∙ ap (λ l. gs ++ l) (sym (named_append r.given given2))));
                gained = gained_append covers r.now.slots (row ∷ []) r.loads loads2 r.given given2 r.gained gained (λ x h k. new_row (subst (λ (y : ℕ). In y r.now.slots) (in_one x row k) h));
                moment = λ _. subst (λ (rs : List Reached). SomeMoment chain rs) (sym o.sifts.reached) m;
              }

          by_all : (all : Bool) → (s : Sifts covers row c d all) → (all ≡ true → is ≡ hs ++ row_named row ∷ []) × (all ≡ false → is ≡ hs) → LeafReading chain covers n a d gs is (count + 1)
          by_all true s gives = grows s.loads (row ∷ []) s.loads_are (gives.0 refl) (gained_given covers row c d (omega arith, small) s)
          by_all false s gives = grows s.loads [] s.loads_are (gives.1 refl ∙ sym (append-nil hs)) (gained_dropped covers row c d (omega arith, small) s)

          pub leaf_more : LeafReading chain covers n a d gs is (count + 1)
          leaf_more = by_all o.all o.sifts o.gives

    pub leaf_full : count ≡ 14 → PageRead chain covers n true a b gs hs 14 false
    leaf_full e = subst (λ (z : ℕ). PageRead chain covers n true a b gs hs z false) e
        (read b r.now false refl r.reached (r.moment (omega arith)) refl refl r.unread refl (λ t. absurd (let clash : false ≡ true = t in cc)) (λ _. r.zero) (λ _. e) (omega arith))
