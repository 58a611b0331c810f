-- The loop over the codes of an inner page.
use Rattle.std.proofs.Common.{◌≡◌, ◌≢◌, ℕ, zero, suc, ◌+◌, ◌-◌, ◌<◌, ◌≤◌, ◌⊎◌, Bool, true, false, List, [], ◌∷◌, ◌++◌, length, set, sym, refl, ap, ◌∙◌, subst, ⊎_elim, arith, inl, inr}
use Rattle.std.proofs.lemmas.List.{append-nil}
use mathlib.Core.Option.{some, some-injective, some-ne-none}
use mathlib.Core.Logic.{dite}
use native.Mathlib.Decide.{ℕ_discrete}
use lib.ListN.{get_elem?}
use Rattle.board_core.specs.declared.tree.Link.{Link}
use Rattle.board_core.specs.declared.tree.Link.TheVariants.{Unread, Absent}
use Rattle.board_core.specs.declared.tree.Reached.{Reached}
use Rattle.board_core.specs.Each.{Each, In}
use Rattle.board_core.specs.ClassTree.{Place, IsBelow}
use Rattle.board_core.specs.KnownPages.{place_of, IsEnd}
use Rattle.board_core.specs.declared.room.Row.{Row}
use Rattle.descent.specs.Sweep.{AllCover, IsWhole}
use Rattle.board_core.proofs.Lists.{inside, at_end, each_append}
use Rattle.descent.specs.Seats.{Seat, with_reached}
use Rattle.descent.specs.Visits.{visited, with_slot, with_link}
use Rattle.board_core.specs.Rows.{IsPlaced}
use Rattle.descent.specs.Moment.{SomeMoment}
use Rattle.descent.specs.Walks.{Met, rows_of, IsMet, Parts, Stay, PageRead, IsBegun, IsDone, IsFollowed, Comes, LeafAt, Followed, PageTried, FollowTried}
use Rattle.descent.proofs.Tried.{SoFar, of_parts, of_both}
use Rattle.descent.proofs.Lists.{at_left, at_last, at_none, in_left, in_right, at_visit, set_visit, length_set, length_snoc, set_here, set_else}
use Rattle.descent.proofs.Told.{codes_apart}
use Rattle.descent.proofs.Covers.{one_code}
use Rattle.descent.proofs.Gains.{met_of}
use Rattle.descent.proofs.Reading.{slot_zero, slot_some}
use Rattle.descent.proofs.Staying.{KeepsWhole, stay_trans, stay_whole, no_end, set_stays, done_kept, stay_met, rows_left, rows_right, rows_count, below_trans, met_apart, parts_none, parts_append, parts_after}

-- so many codes were read, and those that cover followed
pub record InnerReading (chain : ℕ) (covers : ℕ → ℕ → Type 0) (n : ℕ) (a b : Seat) (gs hs : List Row) (place count : ℕ) : Type 0 where
  pub stay : Stay n a.reached b.reached
  pub same_place : place_of (visited b.reached n) ≡ place_of (visited a.reached n)
  pub same_page : (visited b.reached n).page ≡ (visited a.reached n).page
  pub unread : (visited b.reached n).more ≡ Unread
  pub not_zero : (visited b.reached n).zero ≡ false
  pub size : length (visited b.reached n).slots ≡ place
  pub as_many : length (visited b.reached n).links ≡ place
  pub parts : Parts covers a b gs hs
  pub come : Each (Comes covers false (visited b.reached n)) parts.mets
  pub followed : IsFollowed covers b.reached (visited b.reached n)
  pub done : (i : ℕ) → length a.reached ≤ i → i < length b.reached → IsDone covers b.reached (rows_of parts.mets) (visited b.reached i)
  pub counts : count ≡ length (rows_of parts.mets)
  pub moment : 0 < place → SomeMoment chain b.reached

module _ (chain : ℕ) (covers : ℕ → ℕ → Type 0) (n page depth : ℕ) (a : Seat) (gs : List Row) (begun : IsBegun covers a.reached n page false depth) where
  pub inner_start : InnerReading chain covers n a a gs gs 0 0
  inner_start = record {
    stay = record { long = omega arith; others = λ i h other. refl };
    same_place = refl;
    same_page = refl;
    unread = begun.fresh.more;
    not_zero = begun.fresh.zero;
    size = ap length begun.fresh.slots;
    as_many = ap length begun.fresh.links;
    parts = parts_none covers a a gs gs refl refl;
    come = λ i x e. absurd (at_none i x e);
    followed = λ i c at cover. absurd (some-ne-none c (sym at ∙ ap (λ (l : List ℕ). get_elem? l i) begun.fresh.slots));
    done = λ i h more. absurd (omega arith);
    counts = refl;
    moment = λ h. absurd (omega arith);
  }

  module _ (b : Seat) (hs : List Row) (place count : ℕ) (r : InnerReading chain covers n a b gs hs place count) where
    within : n < length b.reached
    within = let h = begun.inside in let long = r.stay.long in omega arith

    pub inner_inside : n < length b.reached
    inner_inside = within

    pub inner_kind : (visited b.reached n).leaf ≡ false
    inner_kind = ap (λ (p : Place). p.leaf) r.same_place ∙ begun.kind

    path : (visited b.reached n).path ≡ (visited a.reached n).path
    path = ap (λ (p : Place). p.path) r.same_place

    -- the page as it is known after one more load
    module _ (c : Seat) (x : Reached) (loads : c.loads ≡ b.loads) (reached : c.reached ≡ set b.reached n x) (same : place_of x ≡ place_of (visited b.reached n))
        (same_page : x.page ≡ (visited b.reached n).page) (room : place < 7) where
      now : visited c.reached n ≡ x
      now = ap (λ rs. visited rs n) reached ∙ set_visit b.reached n x within

      long : length c.reached ≡ length b.reached
      long = ap length reached ∙ length_set b.reached n x

      stays : Stay n b.reached c.reached
      stays = set_stays b.reached c.reached n x reached

      keeps : KeepsWhole b.reached c.reached
      keeps = stay_whole n b.reached c.reached within stays (ap place_of now ∙ same) (λ k e. absurd (none k e))
        where
          none : (k : Bool) → IsEnd k (visited b.reached n) → ⊥
          none true e = no_end true (visited b.reached n) r.not_zero (let size = r.size in omega arith) e
          none false e = no_end false (visited b.reached n) r.not_zero (let size = r.size in omega arith) e

      met_on : ((r : ℕ) → In r (visited b.reached n).slots → In r x.slots) → (m : Met) → IsMet covers b.reached m → IsMet covers c.reached m
      met_on slots = stay_met covers n b.reached c.reached stays (ap place_of now ∙ same) (λ z h. subst (λ (y : Reached). In z y.slots) (sym now) (slots z h))

      done_on : (i : ℕ) → length a.reached ≤ i → i < length c.reached → IsDone covers c.reached (rows_of r.parts.mets) (visited c.reached i)
      done_on i h less =
          let apart : i ≢ n = λ e. let at = begun.inside in absurd (omega arith) in
          let size = long in
          subst (λ (y : Reached). IsDone covers c.reached (rows_of r.parts.mets) y) (sym (stays.others i (omega arith) apart))
          (done_kept covers b.reached c.reached (rows_of r.parts.mets) (rows_of r.parts.mets) (visited b.reached i) keeps (λ z t. t) (r.done i h (omega arith)))

    module _ (c : Seat) (code : ℕ) (after : c ≡ with_reached b (set b.reached n (with_slot code (visited b.reached n)))) (m : SomeMoment chain c.reached) (room : place < 7) where
      loads : c.loads ≡ b.loads
      loads = ap (λ (s : Seat). s.loads) after

      x0 : Reached
      x0 = record (visited b.reached n) { zero = true }

      pub inner_zero : code ≡ 0 → PageRead chain covers n false a c gs hs count true
      inner_zero e =
          let x : Reached = record (visited b.reached n) { zero = true } in
          let reached : c.reached ≡ set b.reached n (record (visited b.reached n) { zero = true }) = ap (λ (s : Seat). s.reached) after ∙ ap (λ y. set b.reached n y) (slot_zero code (visited b.reached n) e) in
          let is : visited c.reached n ≡ record (visited b.reached n) { zero = true } = now c x loads reached refl refl room in
          let size = long c x loads reached refl refl room in
          let whole = keeps c x loads reached refl refl room in record {
            moment = m;
            stay = stay_trans n a.reached b.reached c.reached r.stay (stays c x loads reached refl refl room);
            place = ap place_of is ∙ r.same_place;
            page = ap (λ (y : Reached). y.page) is ∙ r.same_page;
            unread = ap (λ (y : Reached). y.more) is ∙ r.unread;
            zero = λ _. ap (λ (y : Reached). y.zero) is;
            not_zero = λ t. absurd (let clash : true ≡ false = t in cc);
            full = λ t. absurd (let clash : true ≡ false = t in cc);
            parts = parts_after covers a b c gs hs loads (met_on c x loads reached refl refl room (λ z h. h)) r.parts;
            come = λ i y t. subst (λ (z : Reached). Comes covers false z y) (sym is) (r.come i y t);
            done = λ i where_i less. ⊎_elim
                (λ (t : i ≡ n). subst (λ (z : Reached). IsDone covers c.reached (rows_of r.parts.mets) z) (sym (ap (visited c.reached) t ∙ is)) record {
                  followed = λ inner j d at cover. ⊎_elim (λ (h : get_elem? (visited b.reached n).links j ≡ some Absent). inl h)
                      (λ (h : (leaf : Bool) × (y : Reached) × IsWhole b.reached ((visited b.reached n).path ++ d ∷ []) leaf y). let f = whole ((visited b.reached n).path ++ d ∷ []) h.0 h.1 h.2 in inr (h.0, f.0, f.1))
                      (r.followed j d at cover);
                  read = λ leaf. let clash : false ≡ true = sym inner_kind ∙ leaf in absurd cc;
                })
                (λ (t : length a.reached ≤ i). done_on c x loads reached refl refl room i t less)
                where_i;
            counts = r.counts;
          }

      module _ (some_code : code ≢ 0) where
        x1 : Reached
        x1 = record (visited b.reached n) { slots = (visited b.reached n).slots ++ code ∷ []; links = (visited b.reached n).links ++ Unread ∷ [] }

        reached1 : c.reached ≡ set b.reached n (record (visited b.reached n) { slots = (visited b.reached n).slots ++ code ∷ []; links = (visited b.reached n).links ++ Unread ∷ [] })
        reached1 = ap (λ (s : Seat). s.reached) after ∙ ap (λ y. set b.reached n y) (slot_some code (visited b.reached n) some_code r.not_zero)

        is1 : visited c.reached n ≡ record (visited b.reached n) { slots = (visited b.reached n).slots ++ code ∷ []; links = (visited b.reached n).links ++ Unread ∷ [] }
        is1 = ap (λ rs. visited rs n) reached1 ∙ set_visit b.reached n (record (visited b.reached n) { slots = (visited b.reached n).slots ++ code ∷ []; links = (visited b.reached n).links ++ Unread ∷ [] }) within

        slots1 : (visited c.reached n).slots ≡ (visited b.reached n).slots ++ code ∷ []
        slots1 = ap (λ (y : Reached). y.slots) is1

        links1 : (visited c.reached n).links ≡ (visited b.reached n).links ++ Unread ∷ []
        links1 = ap (λ (y : Reached). y.links) is1

        place1 : place_of (visited c.reached n) ≡ place_of (visited b.reached n)
        place1 = ap place_of is1

        stay1 : Stay n b.reached c.reached
        stay1 = set_stays b.reached c.reached n (record (visited b.reached n) { slots = (visited b.reached n).slots ++ code ∷ []; links = (visited b.reached n).links ++ Unread ∷ [] }) reached1

        keeps1 : KeepsWhole b.reached c.reached
        keeps1 = stay_whole n b.reached c.reached within stay1 place1 (λ k e. absurd (none k e))
          where
            none : (k : Bool) → IsEnd k (visited b.reached n) → ⊥
            none true e = no_end true (visited b.reached n) r.not_zero (let size = r.size in omega arith) e
            none false e = no_end false (visited b.reached n) r.not_zero (let size = r.size in omega arith) e

        met1 : (k : Met) → IsMet covers b.reached k → IsMet covers c.reached k
        met1 = stay_met covers n b.reached c.reached stay1 place1 (λ z h. subst (λ (l : List ℕ). In z l) (sym slots1) (in_left (visited b.reached n).slots (code ∷ []) z h))

        long1 : length c.reached ≡ length b.reached
        long1 = ap length reached1 ∙ length_set b.reached n (record (visited b.reached n) { slots = (visited b.reached n).slots ++ code ∷ []; links = (visited b.reached n).links ++ Unread ∷ [] })

        within1 : n < length c.reached
        within1 = let size = long1 in let h = within in omega arith

        kind1 : (visited c.reached n).leaf ≡ false
        kind1 = ap (λ (p : Place). p.leaf) place1 ∙ inner_kind

        size1 : length (visited c.reached n).slots ≡ place + 1
        size1 = let e = ap length slots1 in let s = length_snoc (visited b.reached n).slots code in let size = r.size in omega arith

        many1 : length (visited c.reached n).links ≡ place + 1
        many1 = let e = ap length links1 in let s = length_snoc (visited b.reached n).links Unread in let size = r.as_many in omega arith

        pub there1 : get_elem? (visited c.reached n).slots place ≡ some code
        there1 = (λ k. get_elem? (slots1 k) (sym r.size k)) ∙ at_last (visited b.reached n).slots code

        unread1 : get_elem? (visited c.reached n).links place ≡ some Unread
        unread1 = (λ k. get_elem? (links1 k) (sym r.as_many k)) ∙ at_last (visited b.reached n).links Unread

        -- the code is none that was read in this page before
        new_code : In code (visited b.reached n).slots → ⊥
        new_code h =
            let here : In (visited c.reached n) c.reached = (n, at_visit c.reached n within1) in
            let early : get_elem? (visited c.reached n).slots h.0 ≡ some code = ap (λ (l : List ℕ). get_elem? l h.0) slots1 ∙ at_left (visited b.reached n).slots (code ∷ []) h.0 code h.1 in
            let same = (codes_apart chain m.0 (IsPlaced m.1) (λ r. ⊥) c.reached m.2 (visited c.reached n) (visited c.reached n) here here kind1 kind1 refl h.0 place code early there1).1 in
            let less = inside (visited b.reached n).slots h.0 code h.1 in
            let size = r.size in
            absurd (omega arith)

        pub inner_leaf_at : covers depth code → LeafAt covers c.reached n page place depth
        inner_leaf_at cover = record {
          inside = within1;
          is_page = ap (λ (y : Reached). y.page) is1 ∙ (r.same_page ∙ begun.is_page);
          kind = kind1;
          is_depth = ap (λ (p : Place). length p.path) place1 ∙ (ap length path ∙ begun.is_depth);
          cover = subst (λ (l : List ℕ). AllCover covers 0 l) (sym (ap (λ (p : Place). p.path) place1 ∙ path)) begun.cover;
          code = code;
          there = there1;
          covers_it = cover;
          last = size1 ∙ omega arith;
          as_many = many1 ∙ omega arith;
          unread = unread1;
          not_zero = ap (λ (y : Reached). y.zero) is1 ∙ r.not_zero;
          no_more = ap (λ (y : Reached). y.more) is1 ∙ r.unread;
        }

        done1 : (i : ℕ) → length a.reached ≤ i → i < length c.reached → IsDone covers c.reached (rows_of r.parts.mets) (visited c.reached i)
        done1 i h less =
            let apart : i ≢ n = λ e. let at = begun.inside in absurd (omega arith) in
            let size = long1 in
            subst (λ (y : Reached). IsDone covers c.reached (rows_of r.parts.mets) y) (sym (stay1.others i (omega arith) apart))
            (done_kept covers b.reached c.reached (rows_of r.parts.mets) (rows_of r.parts.mets) (visited b.reached i) keeps1 (λ z t. t) (r.done i h (omega arith)))

        come1 : Each (Comes covers false (visited c.reached n)) r.parts.mets
        come1 i y t = let v = r.come i y t in
            subst (λ (z : Reached). Comes covers false z y) (sym is1) (v.0, in_left (visited b.reached n).slots (code ∷ []) v.0 v.1, v.2, v.3)

        -- codes before this one were followed
        followed1 : (i d : ℕ) → get_elem? (visited b.reached n).slots i ≡ some d → covers (length (visited b.reached n).path) d
            → (get_elem? ((visited b.reached n).links ++ Unread ∷ []) i ≡ some Absent) ⊎ ((leaf : Bool) × (y : Reached) × IsWhole c.reached ((visited b.reached n).path ++ d ∷ []) leaf y)
        followed1 i d at cover = ⊎_elim (λ (h : get_elem? (visited b.reached n).links i ≡ some Absent). inl (at_left (visited b.reached n).links (Unread ∷ []) i Absent h))
            (λ (h : (leaf : Bool) × (y : Reached) × IsWhole b.reached ((visited b.reached n).path ++ d ∷ []) leaf y). let f = keeps1 ((visited b.reached n).path ++ d ∷ []) h.0 h.1 h.2 in inr (h.0, f.0, f.1))
            (r.followed i d at cover)

        -- a code that does not cover is passed over
        pub inner_pass : (covers depth code → ⊥) → InnerReading chain covers n a c gs hs (place + 1) count
        inner_pass bad = record {
          stay = stay_trans n a.reached b.reached c.reached r.stay stay1;
          same_place = place1 ∙ r.same_place;
          same_page = ap (λ (y : Reached). y.page) is1 ∙ r.same_page;
          unread = ap (λ (y : Reached). y.more) is1 ∙ r.unread;
          not_zero = ap (λ (y : Reached). y.zero) is1 ∙ r.not_zero;
          size = size1;
          as_many = many1;
          parts = parts_after covers a b c gs hs loads met1 r.parts;
          come = come1;
          followed = subst (λ (z : Reached). IsFollowed covers c.reached z) (sym is1)
              (λ i d at cover. ⊎_elim (λ (t : get_elem? (visited b.reached n).slots i ≡ some d). followed1 i d t cover)
              (λ (t : (i ≡ length (visited b.reached n).slots) × (code ≡ d)). absurd (bad (subst (λ (z : ℕ × ℕ). covers z.0 z.1) (λ k. ((ap length path ∙ begun.is_depth) k, sym t.1 k)) cover)))
              (at_end (visited b.reached n).slots code d i at));
          done = done1;
          counts = r.counts;
          moment = λ _. m;
        }

        -- one that covers was followed
        module _ (d : Seat) (is : List Row) (more : ℕ) (cover : covers depth code) (f : Followed chain covers n place c d hs is more) where
          same_code : f.code ≡ code
          same_code = some-injective f.code code (sym f.there ∙ there1)

          place2 : place_of (visited d.reached n) ≡ place_of (visited c.reached n)
          place2 = ap place_of f.now

          keeps2 : KeepsWhole c.reached d.reached
          keeps2 = stay_whole n c.reached d.reached within1 f.stay place2 (λ k e. subst (λ (z : Reached). IsEnd k z) (sym f.now) (still k (visited c.reached n) e))
            where
              still : (k : Bool) (z : Reached) → IsEnd k z → IsEnd k (with_link place f.link z)
              still true z e = e
              still false z e = e

          path2 : (visited c.reached n).path ≡ (visited a.reached n).path
          path2 = ap (λ (p : Place). p.path) place1 ∙ path

          met2 : (k : Met) → IsMet covers c.reached k → IsMet covers d.reached k
          met2 = stay_met covers n c.reached d.reached f.stay place2 (λ z h. subst (λ (x : Reached). In z x.slots) (sym f.now) h)

          old_met : (x : Met) → In x r.parts.mets → (e : ℕ) × In e (visited b.reached n).slots × covers (length (visited b.reached n).path) e × IsBelow ((visited b.reached n).path ++ e ∷ []) x.path
          old_met x h = r.come h.0 x h.1

          new_met : (x : Met) → In x f.parts.mets → IsBelow ((visited b.reached n).path ++ code ∷ []) x.path
          new_met x h = subst (λ (l : List ℕ). IsBelow l x.path) (λ k. (ap (λ (p : Place). p.path) place1 k) ++ same_code k ∷ []) (f.come h.0 x h.1)

          apart : (x : ℕ) → In x (rows_of r.parts.mets) → In x (rows_of f.parts.mets) → ⊥
          apart x h k =
              let u = met_of r.parts.mets x h in
              let v = met_of f.parts.mets x k in
              let o = old_met u.0 u.1 in
              let same = met_apart chain covers d.reached f.moment u.0 v.0 (visited b.reached n).path o.0 code (met2 u.0 (met1 u.0 (r.parts.are_met u.1.0 u.0 u.1.1))) (f.parts.are_met v.1.0 v.0 v.1.1) (u.2 ∙ sym v.2) o.3 (new_met v.0 v.1) in
              new_code (subst (λ (z : ℕ). In z (visited b.reached n).slots) same o.1)

          clash : (q : List ℕ) → length q < 5 → (x y : Met) → In x r.parts.mets → In y f.parts.mets → IsBelow x.path q → IsBelow y.path q → ⊥
          clash q short x y h k bx by =
              let o = old_met x h in
              let same = one_code (visited b.reached n).path q o.0 code (below_trans ((visited b.reached n).path ++ o.0 ∷ []) x.path q o.3 bx) (below_trans ((visited b.reached n).path ++ code ∷ []) y.path q (new_met y k) by) in
              new_code (subst (λ (z : ℕ). In z (visited b.reached n).slots) same o.1)

          abbrev all_parts : Parts covers a d gs is
          all_parts = parts_append covers a c d gs hs is (parts_after covers a b c gs hs loads met1 r.parts) f.parts met2 apart clash

          now2 : visited d.reached n ≡ with_link place f.link (record (visited b.reached n) { slots = (visited b.reached n).slots ++ code ∷ []; links = (visited b.reached n).links ++ Unread ∷ [] })
          now2 = f.now ∙ ap (with_link place f.link) is1

          come2 : Each (Comes covers false (visited d.reached n)) (r.parts.mets ++ f.parts.mets)
          come2 = each_append (Comes covers false (visited d.reached n)) r.parts.mets f.parts.mets
              (λ i y t. subst (λ (z : Reached). Comes covers false z y) (sym f.now) (come1 i y t))
              (λ i y t. subst (λ (z : Reached). Comes covers false z y) (sym now2)
              (code, in_right (visited b.reached n).slots (code ∷ []) code (0, refl), subst (λ (z : ℕ). covers z code) (sym (ap length path ∙ begun.is_depth)) cover, new_met y (i, t)))

          size_links : place < length ((visited b.reached n).links ++ Unread ∷ [])
          size_links = let s = length_snoc (visited b.reached n).links Unread in let size = r.as_many in omega arith

          followed2 : (i e : ℕ) → get_elem? ((visited b.reached n).slots ++ code ∷ []) i ≡ some e → covers (length (visited b.reached n).path) e
              → (get_elem? (set ((visited b.reached n).links ++ Unread ∷ []) place f.link) i ≡ some Absent) ⊎ ((leaf : Bool) × (y : Reached) × IsWhole d.reached ((visited b.reached n).path ++ e ∷ []) leaf y)
          followed2 i e at cov = ⊎_elim
              (λ (t : get_elem? (visited b.reached n).slots i ≡ some e). ⊎_elim
              (λ (h : get_elem? ((visited b.reached n).links ++ Unread ∷ []) i ≡ some Absent).
              let less = inside (visited b.reached n).slots i e t in
              let size = r.size in
              let other : i ≢ place = λ u. absurd (omega arith) in
              inl (set_else ((visited b.reached n).links ++ Unread ∷ []) place i f.link other ∙ h))
              (λ (h : (leaf : Bool) × (y : Reached) × IsWhole c.reached ((visited b.reached n).path ++ e ∷ []) leaf y). let g = keeps2 ((visited b.reached n).path ++ e ∷ []) h.0 h.1 h.2 in inr (h.0, g.0, g.1))
              (followed1 i e t cov))
              (λ (t : (i ≡ length (visited b.reached n).slots) × (code ≡ e)). ⊎_elim
              (λ (h : f.link ≡ Absent).
              let same : i ≡ place = t.0 ∙ r.size in
              inl (ap (λ j. get_elem? (set ((visited b.reached n).links ++ Unread ∷ []) place f.link) j) same ∙ (set_here ((visited b.reached n).links ++ Unread ∷ []) place f.link size_links ∙ ap some h)))
              (λ (h : (leaf : Bool) × (y : Reached) × IsWhole d.reached ((visited c.reached n).path ++ f.code ∷ []) leaf y).
              inr (h.0, h.1, subst (λ (l : List ℕ). IsWhole d.reached l h.0 h.1) (λ k. (ap (λ (p : Place). p.path) place1 k) ++ (same_code ∙ t.1) k ∷ []) h.2))
              f.way)
              (at_end (visited b.reached n).slots code e i at)

          pub inner_more : InnerReading chain covers n a d gs is (place + 1) (count + more)
          inner_more =
              let rows = rows_count r.parts.mets f.parts.mets in
              let own = r.counts in
              let theirs = f.counts in
              let set_size : length (set ((visited b.reached n).links ++ Unread ∷ []) place f.link) ≡ length ((visited b.reached n).links ++ Unread ∷ []) = length_links ((visited b.reached n).links ++ Unread ∷ []) place f.link in
              let one_more = length_snoc (visited b.reached n).links Unread in
              let one_slot = length_snoc (visited b.reached n).slots code in
              let old_size = r.size in
              let old_many = r.as_many in record {
                stay = stay_trans n a.reached c.reached d.reached (stay_trans n a.reached b.reached c.reached r.stay stay1) f.stay;
                same_place = place2 ∙ (place1 ∙ r.same_place);
                same_page = ap (λ (y : Reached). y.page) now2 ∙ r.same_page;
                unread = ap (λ (y : Reached). y.more) now2 ∙ r.unread;
                not_zero = ap (λ (y : Reached). y.zero) now2 ∙ r.not_zero;
                size = ap (λ (y : Reached). length y.slots) now2 ∙ omega arith;
                as_many = ap (λ (y : Reached). length y.links) now2 ∙ (set_size ∙ omega arith);
                parts = all_parts;
                come = come2;
                followed = subst (λ (z : Reached). IsFollowed covers d.reached z) (sym now2) followed2;
                done = λ i h less. dite (ℕ_discrete (length c.reached - i) 0)
                    (λ (e : length c.reached - i ≡ 0). done_kept covers d.reached d.reached (rows_of f.parts.mets) (rows_of (r.parts.mets ++ f.parts.mets)) (visited d.reached i) (λ p l y w. (y, w)) (λ z t. rows_right r.parts.mets f.parts.mets z t) (f.done i (omega arith) less))
                    (λ (e : length c.reached - i ≢ 0).
                    let apart_i : i ≢ n = λ u. let at = begun.inside in absurd (omega arith) in
                    subst (λ (y : Reached). IsDone covers d.reached (rows_of (r.parts.mets ++ f.parts.mets)) y) (sym (f.stay.others i (omega arith) apart_i))
                    (done_kept covers c.reached d.reached (rows_of r.parts.mets) (rows_of (r.parts.mets ++ f.parts.mets)) (visited c.reached i) keeps2 (λ z t. rows_left r.parts.mets f.parts.mets z t) (done1 i h (omega arith))));
                counts = omega arith;
                moment = λ _. f.moment;
              }
            where
              length_links : (ls : List Link) (j : ℕ) (l : Link) → length (set ls j l) ≡ length ls
              length_links [] j l = refl
              length_links (x ∷ ls) zero l = refl
              length_links (x ∷ ls) (suc j) l = ap suc (length_links ls j l)

        -- one that covers was followed, until the sink could take no more
        module _ (d : Seat) (is : List Row) (cover : covers depth code) (f : FollowTried chain covers n place c d hs is) where
          tried_code : f.code ≡ code
          tried_code = some-injective f.code code (sym f.there ∙ there1)

          tried_place : place_of (visited d.reached n) ≡ place_of (visited c.reached n)
          tried_place = ap place_of f.now

          tried_met : (k : Met) → IsMet covers c.reached k → IsMet covers d.reached k
          tried_met = stay_met covers n c.reached d.reached f.stay tried_place (λ z h. subst (λ (x : Reached). In z x.slots) (sym f.now) h)

          tried_new : (x : Met) → In x f.so_far.mets → IsBelow ((visited b.reached n).path ++ code ∷ []) x.path
          tried_new x h = subst (λ (l : List ℕ). IsBelow l x.path) (λ k. (ap (λ (p : Place). p.path) place1 k) ++ tried_code k ∷ []) (f.come h.0 x h.1)

          before : SoFar covers a c gs hs (λ x. In x r.parts.mets)
          before = of_parts covers a b c gs hs hs r.parts [] (loads ∙ sym (append-nil b.loads)) refl met1

          both : SoFar covers a d gs is (λ x. In x before.so_far.mets ⊎ In x f.so_far.mets)
          both = of_both covers a c d gs hs is before.so_far f.so_far tried_met (λ u v hu hv same.
              let h = before.each u hu in
              let o = r.come h.0 u h.1 in
              let one = met_apart chain covers d.reached f.moment u v (visited b.reached n).path o.0 code (tried_met u (met1 u (r.parts.are_met h.0 u h.1))) (f.so_far.are_met hv.0 v hv.1) same o.3 (tried_new v hv) in
              new_code (subst (λ (z : ℕ). In z (visited b.reached n).slots) one o.1))

          pub inner_tried : PageTried chain covers n false a d gs is
          inner_tried = record {
            moment = f.moment;
            stay = stay_trans n a.reached c.reached d.reached (stay_trans n a.reached b.reached c.reached r.stay stay1) f.stay;
            place = tried_place ∙ (place1 ∙ r.same_place);
            so_far = both.so_far;
            come = λ i x e. ⊎_elim
                (λ (h : In x before.so_far.mets). let t = before.each x h in subst (λ (z : Reached). Comes covers false z x) (sym f.now) (come1 t.0 x t.1))
                (λ (h : In x f.so_far.mets). subst (λ (z : Reached). Comes covers false z x) (sym (f.now ∙ ap (with_link place f.link) is1))
                (code, in_right (visited b.reached n).slots (code ∷ []) code (0, refl), subst (λ (z : ℕ). covers z code) (sym (ap length path ∙ begun.is_depth)) cover, tried_new x h))
                (both.each x (i, e));
          }

    pub inner_full : place ≡ 7 → PageRead chain covers n false a b gs hs count false
    inner_full e = record {
      moment = r.moment (omega arith);
      stay = r.stay;
      place = r.same_place;
      page = r.same_page;
      unread = r.unread;
      zero = λ t. absurd (let clash : false ≡ true = t in cc);
      not_zero = λ _. r.not_zero;
      full = λ _. r.size ∙ e;
      parts = r.parts;
      come = r.come;
      done = λ i where_i less. ⊎_elim
          (λ (t : i ≡ n). subst (λ (z : Reached). IsDone covers b.reached (rows_of r.parts.mets) z) (sym (ap (visited b.reached) t)) record {
            followed = λ inner. r.followed;
            read = λ leaf. let clash : false ≡ true = sym inner_kind ∙ leaf in absurd cc;
          })
          (λ (t : length a.reached ≤ i). r.done i t less)
          where_i;
      counts = r.counts;
    }
