-- A `more` that was 0 comes to show a new page of the chain.
use Rattle.std.proofs.Common.{◌≡◌, ◌≢◌, ℕ, ◌+◌, ◌*◌, ◌<◌, ◌⊎◌, Bool, true, false, List, sym, refl, ap, ◌∙◌, subst, arith, inl, inr, ⊎_elim}
use mathlib.Core.Logic.{dite}
use native.Mathlib.Decide.{ℕ_discrete}
use Rattle.board_core.specs.declared.tree.Way.{Way}
use Rattle.board_core.specs.declared.tree.Way.TheVariants.{More, Branch}
use Rattle.board_core.specs.Sheets.{Sheet, IsLinked}
use Rattle.board_core.specs.ClassTree.{Place, at_way, slot_at, page_room, Follows, PageStands, IsNamed, HasSlot, IsBelow, Tree}
use Rattle.board_core.specs.Turns.{IsPut, Turns}
use Rattle.board_core.specs.NextPage.{after, MayChain, MayRow}
use Rattle.board_core.proofs.Walk.{chain_back}
use Rattle.board_core.proofs.Graft.{Grafts, grafted}

slot_above : (b : Bool) (i : ℕ) → 1 < slot_at b i
slot_above true i = omega arith
slot_above false i = omega arith

slot_first : (b : Bool) (i : ℕ) → slot_at b i ≡ 2 → i ≡ 0
slot_first true i e = omega arith
slot_first false i e = omega arith

first_slot : (b : Bool) → slot_at b 0 ≡ 2
first_slot true = refl
first_slot false = refl

room_above : (b : Bool) → 0 < page_room b
room_above true = omega arith
room_above false = omega arith

module _ (w u : ℕ → ℕ → ℕ) (s z : Sheet) (m v : ℕ → Place) (codes : ℕ → List ℕ) (put puts : ℕ → Type 0) (New : ℕ → Type 0) (q p n : ℕ)
    (t : Tree w s m codes put) (c : MayChain w s m q p n) (e : IsPut w u q 1 p) (turn : Turns s z New 0) (one : (x : ℕ) → New x → x ≡ p) (new : New p)
    (same : (x : ℕ) → IsLinked s x → v x ≡ m x) (place : v p ≡ after m q)
    (plus : (x : ℕ) → put x → puts x) (row : (m q).leaf ≡ true → MayRow m codes put q n × puts n) (all : (x : ℕ) → puts x → put x ⊎ (((m q).leaf ≡ true) × (x ≡ n))) where
  not_linked : IsLinked s p → ⊥
  not_linked l = let own = turn.own p new in let none = l.owned in absurd (omega arith)

  kept_word : (i : ℕ) → u p i ≡ w p i
  kept_word i = e.others p i (inl (λ y. not_linked (subst (λ (x : ℕ). IsLinked s x) (sym y) c.linked)))

  -- a slot of the new page
  only_first : (b : Bool) (i : ℕ) → w p (slot_at b i) ≢ 0 → (i ≡ 0) × (w p (slot_at b i) ≡ n)
  only_first b i some_i = dite (ℕ_discrete (slot_at b i) 2)
      (λ y. (slot_first b i y, ap (w p) y ∙ c.first))
      (λ y. let far = slot_above b i in absurd (some_i (c.rest (slot_at b i) (omega arith) y)))

  page_new : PageStands (u p) (v p)
  page_new = subst (λ (P : Place). PageStands (u p) P) (sym place)
      (subst (λ (g : ℕ → ℕ). PageStands g (after m q)) (λ j i. sym (kept_word i) j) record {
        header = c.header;
        front = λ i j le room none. dite (ℕ_discrete (w p (slot_at (m q).leaf j)) 0) (λ y. y)
            (λ y. let far = (only_first (m q).leaf j y).0 in
            let near : i ≡ 0 = omega arith in
            absurd (c.some_n (sym c.first ∙ (ap (w p) (sym (ap (slot_at (m q).leaf) near ∙ first_slot (m q).leaf)) ∙ none))));
        bare = λ _ i room none. c.rest (3 + 2 * i) (omega arith) (omega arith);
        full = λ h. absurd (h (c.rest 1 (omega arith) (omega arith)));
        low = λ _ _. c.rest 1 (omega arith) (omega arith);
        shallow = (t.pages q c.linked).shallow;
      })

  -- the chain ends at q
  no_next : (o : ℕ) → IsLinked s o → (m o).path ≡ (m q).path → (m o).rank ≡ (m q).rank + 1 → ⊥
  no_next o l path rank =
      let a = chain_back w s m codes put t (m o).rank o l refl (m q).rank (omega arith) in let h = a.1 in
      let there : a.0 ≡ q = t.alone a.0 q h.linked c.linked (h.path ∙ path) h.rank in
      h.more (omega arith) (ap (λ x. w x 1) there ∙ c.empty)

  parent : PageStands (u q) (m q)
  parent =
      let old = t.pages q c.linked in
      let word : (i : ℕ) → 1 < i → u q i ≡ w q i = λ i h. e.others q i (inr (omega arith)) in
      let slots : (i : ℕ) → u q (slot_at (m q).leaf i) ≡ w q (slot_at (m q).leaf i) = λ i. word (slot_at (m q).leaf i) (slot_above (m q).leaf i) in record {
        header = e.others q 0 (inr (omega arith)) ∙ old.header;
        front = λ i j le room none. slots j ∙ old.front i j le room (sym (slots i) ∙ none);
        bare = λ inner i room none. word (3 + 2 * i) (omega arith) ∙ old.bare inner i room (sym (word (2 + 2 * i) (omega arith)) ∙ none);
        full = λ h i room none. c.full i room (sym (slots i) ∙ none);
        low = λ leaf short. let deep = c.deep leaf in absurd (omega arith);
        shallow = old.shallow;
      }

  shows_new : (b : Bool) (x o i : ℕ) → New o → HasSlot u z v b x o i → (x ≡ n) × (i ≡ 0)
  shows_new b x o i h a =
      let word : w p (slot_at b i) ≡ x = sym (kept_word (slot_at b i)) ∙ (ap (λ y. u y (slot_at b i)) (sym (one o h)) ∙ a.there) in
      let f = only_first b i (λ y. a.some_n (sym word ∙ y)) in (sym word ∙ f.1, f.0)

  kind_new : (b : Bool) (x o i : ℕ) → New o → HasSlot u z v b x o i → (m q).leaf ≡ b
  kind_new b x o i h a = (λ j. (sym place j).leaf) ∙ ((λ j. (v (sym (one o h) j)).leaf) ∙ a.kind)

  -- what an old page shows now, it showed before
  old_shows : (b : Bool) (x o i : ℕ) → IsLinked s o → HasSlot u z v b x o i → HasSlot w s m b x o i
  old_shows b x o i l a = record {
    linked = l;
    kind = (λ j. (sym (same o l) j).leaf) ∙ a.kind;
    room = a.room;
    some_n = a.some_n;
    there = let far = slot_above b i in sym (e.others o (slot_at b i) (inr (omega arith))) ∙ a.there;
  }

  new_path : (o : ℕ) → New o → (v o).path ≡ (m q).path
  new_path o h = (λ i. (v (one o h i)).path) ∙ (λ i. (place i).path)

  old_path : (o : ℕ) → IsLinked s o → (m o).path ≡ (v o).path
  old_path o l i = (sym (same o l) i).path

  named_new : IsNamed u z v p
  named_new =
      let linked : IsLinked z q = turn.stays q c.linked (λ y. t.numbered q c.linked y) in
      let eq = same q c.linked in
      let f : Follows (u q) (v q) More (after m q) = ((λ i. (sym eq i).path), (λ i. (sym eq i).rank + 1), (λ i. (sym eq i).leaf)) in record {
        linked = subst (λ (P : Place). IsLinked z P.from) (sym place) linked;
        there = ap (λ (P : Place). u P.from (at_way P.way)) place ∙ e.here;
        follows = subst (λ (P : Place). Follows (u P.from) (v P.from) P.way P) (sym place) f;
      }

  no_ways : (to : Way) → u p (at_way to) ≡ 0
  no_ways More = kept_word 1 ∙ c.rest 1 (omega arith) (omega arith)
  no_ways (Branch i) = kept_word (3 + 2 * i) ∙ c.rest (3 + 2 * i) (omega arith) (omega arith)

  chain_grafts : Grafts w u s z m v codes put puts q More 0 New
  chain_grafts = record {
    linked = c.linked;
    is_way = tt;
    was = c.empty;
    new = subst New (sym e.here) new;
    words = λ x i l o. e.others x i o;
    stays = turn.stays;
    comes = λ x h. (turn.comes x h, λ y. c.numbered.0 (sym (one x h) ∙ y), λ y. c.numbered.1 (sym (one x h) ∙ y));
    either = turn.either;
    places = same;
    last = λ x l below y. t.numbered (m x).from (t.named x l below).linked y;
    inner = λ y. t.numbered q c.linked (sym y);
    root = omega arith;
    page = parent;
    pages = λ x h. subst (λ (y : ℕ). PageStands (u y) (v y)) (sym (one x h)) page_new;
    first = ((λ i. (v (e.here i)).from) ∙ (λ i. (place i).from), (λ i. (v (e.here i)).way) ∙ (λ i. (place i).way));
    named = λ x h. subst (λ (y : ℕ). IsNamed u z v y) (sym (one x h)) named_new;
    leads = λ x to h way some_n. absurd (some_n ((λ i. u (one x h i) (at_way to)) ∙ no_ways to));
    alone = λ x o h l path rank. ⊎_elim
        (λ (a : IsLinked s o × (o ≢ 0)). absurd (no_next o a.0 (old_path o a.0 ∙ (sym path ∙ new_path x h)) ((λ i. (sym (same o a.0) i).rank) ∙ (sym rank ∙ ((λ i. (v (one x h i)).rank) ∙ (λ i. (place i).rank))))))
        (λ (a : New o). one x h ∙ sym (one o a)) (turn.either o l);
    apart = λ x a b i j h f g path. let d = shows_new false x a i h f in ⊎_elim
        (λ (o : IsLinked s b × (b ≢ 0)). absurd (c.code (kind_new false x a i h f) b j (subst (λ (y : ℕ). HasSlot w s m false y b j) d.0 (old_shows false x b j o.0 g)) (old_path b o.0 ∙ (sym path ∙ new_path a h))))
        (λ (o : New b). let d2 = shows_new false x b j o g in (one a h ∙ sym (one b o), d.1 ∙ sym d2.1)) (turn.either b g.linked);
    rows = λ x a b i j h f g. let d = shows_new true x a i h f in ⊎_elim
        (λ (o : IsLinked s b × (b ≢ 0)). absurd ((row (kind_new true x a i h f)).0.other (subst put d.0 (t.entries x b j (old_shows true x b j o.0 g)).0)))
        (λ (o : New b). let d2 = shows_new true x b j o g in (one a h ∙ sym (one b o), d.1 ∙ sym d2.1)) (turn.either b g.linked);
    entries = λ x a i h f. let d = shows_new true x a i h f in let r = row (kind_new true x a i h f) in
        (subst puts (sym d.0) r.1, subst (λ (y : List ℕ × ℕ). IsBelow y.0 (codes y.1)) (λ k. (sym (new_path a h) k, sym d.0 k)) r.0.below);
    more = plus;
    placed = λ x h. (
      λ o i a. inl (t.numbered o a.linked),
      ⊎_elim (λ (y : put x). inl y)
          (λ (y : ((m q).leaf ≡ true) × (x ≡ n)). inr (p, 0, record { linked = turn.comes p new; kind = (λ i. (place i).leaf) ∙ y.0; room = omega arith; some_n = λ o. c.some_n (sym y.1 ∙ o); there = kept_word 2 ∙ (c.first ∙ sym y.1) })) (all x h),
    );
  }

  pub chains : Tree u z v codes puts
  chains = grafted w u s z m v codes put puts q More 0 New t chain_grafts
