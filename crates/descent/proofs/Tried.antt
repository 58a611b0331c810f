-- Where the sink could take no more: the rows given so far.
use Rattle.std.proofs.Common.{◌≡◌, ◌≢◌, ℕ, zero, suc, ◌+◌, ◌-◌, ◌<◌, ◌≤◌, ◌⊎◌, Bool, true, false, List, [], ◌∷◌, ◌++◌, length, sym, refl, ap, ◌∙◌, subst, ⊎_elim, arith, append_assoc, Result, Ok, Err, IfErr}
use Rattle.std.proofs.lemmas.List.{append-nil}
use mathlib.Core.Option.{some, some-injective}
use mathlib.Core.Logic.{dite}
use native.Mathlib.Decide.{ℕ_discrete}
use lib.ListN.{get_elem?}
use Rattle.board_core.specs.declared.tree.Reached.{Reached}
use Rattle.board_core.specs.Each.{Each, In}
use Rattle.board_core.specs.ClassTree.{Place, IsBelow}
use Rattle.board_core.proofs.Lists.{inside, each_append}
use Rattle.htss_defs.specs.declared.out_of_memory.OutOfMemory.{OutOfMemory}
use Rattle.board_core.specs.declared.room.Row.{Row}
use Rattle.descent.specs.Seats.{CodeLoad, Seat, load, named}
use Rattle.descent.specs.Visits.{visited}
use Rattle.descent.specs.Different.{AreDifferent}
use Rattle.descent.specs.Sweep.{AllCover}
use Rattle.descent.specs.Descended.{MayBe}
use Rattle.descent.specs.Walks.{Met, rows_of, IsMet, IsGood, IsTold, Parts, Comes, Below, GivenSoFar, PageTried, ChainTried}
use Rattle.descent.proofs.Lists.{named_append, at_none, in_right, in_split, at_visit, different_append}
use Rattle.descent.proofs.Covers.{cover_all}
use Rattle.descent.proofs.Gains.{rows_append, met_of, good_left, good_right}
use Rattle.descent.proofs.Staying.{stay_met, met_below}
use Rattle.descent.proofs.Chains.{Earlier, Chaining, two_pages}

-- what holds whatever the error is
pub err_any : {A : Type 0} {E : Type 0} (r : Result A E) (F : Type 0) → F → IfErr r (λ e. F)
err_any (Ok x) F h = tt
err_any (Err e) F h = h

pub err_map : (r : Result ℕ OutOfMemory) (F G : Type 0) → (F → G) → IfErr r (λ e. F) → IfErr r (λ e. G)
err_map (Ok n) F G f h = h
err_map (Err e) F G f h = f h

-- the rows given, as rows that were met
record Chosen (ms : List Met) (given : List ℕ) : Type 0 where
  mets : List Met
  are : rows_of mets ≡ given
  among : (m : Met) → In m mets → In m ms

choose : (ms : List Met) (given : List ℕ) → ((r : ℕ) → In r given → In r (rows_of ms)) → Chosen ms given
choose ms [] each = record { mets = []; are = refl; among = λ m h. absurd (at_none h.0 m h.1) }
choose ms (r ∷ given) each =
    let t = met_of ms r (each r (0, refl)) in
    let rest = choose ms given (λ x h. each x (suc h.0, h.1)) in record {
      mets = t.0 ∷ rest.mets;
      are = λ k. t.2 k ∷ rest.are k;
      among = λ m h. in_cons m t.0 rest.mets ms t.1 rest.among h.0 h.1;
    }
  where
    in_cons : (m x : Met) (xs ys : List Met) → In x ys → ((n : Met) → In n xs → In n ys) → (j : ℕ) → get_elem? (x ∷ xs) j ≡ some m → In m ys
    in_cons m x xs ys h more zero e = subst (λ (n : Met). In n ys) (some-injective x m e) h
    in_cons m x xs ys h more (suc j) e = more m (j, e)

-- the rows given so far, all of them among these
pub record SoFar (covers : ℕ → ℕ → Type 0) (a b : Seat) (gs hs : List Row) (Is : Met → Type 0) : Type 0 where
  pub so_far : GivenSoFar covers a b gs hs
  pub each : (m : Met) → In m so_far.mets → Is m

-- of a part that was done, and of loads after it
pub of_parts : (covers : ℕ → ℕ → Type 0) (a b c : Seat) (gs hs is : List Row) (p : Parts covers a b gs hs) (ls : List CodeLoad) → c.loads ≡ b.loads ++ ls → is ≡ hs → ((m : Met) → IsMet covers b.reached m → IsMet covers c.reached m)
    → SoFar covers a c gs is (λ m. In m p.mets)
of_parts covers a b c gs hs is p ls loads_are given_are stays =
    let t = choose p.mets p.given (λ r h. (p.gained.picked h.0 r h.1).0) in record {
      so_far = record {
        mets = t.mets;
        loads = p.loads ++ ls;
        loads_are = loads_are ∙ (ap (λ l. l ++ ls) p.loads_are ∙ append_assoc a.loads p.loads ls);
        given_are = given_are ∙ (p.given_are ∙ ap (λ l. gs ++ named l) (sym t.are));
        good = subst (Each (IsGood covers (p.loads ++ ls))) (sym t.are) (λ i r e. good_left covers p.loads ls r (p.gained.picked i r e).1);
        differ = subst AreDifferent (sym t.are) p.gained.differ;
        are_met = λ i m e. let h = t.among m (i, e) in stays m (p.are_met h.0 m h.1);
      };
      each = t.among;
    }

-- of two parts one after the other
pub of_both : (covers : ℕ → ℕ → Type 0) (a b c : Seat) (gs hs is : List Row) (g : GivenSoFar covers a b gs hs) (h : GivenSoFar covers b c hs is) → ((m : Met) → IsMet covers b.reached m → IsMet covers c.reached m)
    → ((m n : Met) → In m g.mets → In n h.mets → m.row ≡ n.row → ⊥) → SoFar covers a c gs is (λ m. In m g.mets ⊎ In m h.mets)
of_both covers a b c gs hs is g h stays apart = record {
  so_far = record {
    mets = g.mets ++ h.mets;
    loads = g.loads ++ h.loads;
    loads_are = h.loads_are ∙ (ap (λ l. l ++ h.loads) g.loads_are ∙ append_assoc a.loads g.loads h.loads);
    given_are = h.given_are ∙ (ap (λ l. l ++ named (rows_of h.mets)) g.given_are ∙ (append_assoc gs (named (rows_of g.mets)) (named (rows_of h.mets)) ∙ ap (λ l. gs ++ l) (sym (named_append (rows_of g.mets) (rows_of h.mets)) ∙ ap named (sym (rows_append g.mets h.mets)))));
    good = subst (Each (IsGood covers (g.loads ++ h.loads))) (sym (rows_append g.mets h.mets))
        (each_append (IsGood covers (g.loads ++ h.loads)) (rows_of g.mets) (rows_of h.mets) (λ i r e. good_left covers g.loads h.loads r (g.good i r e)) (λ i r e. good_right covers g.loads h.loads r (h.good i r e)));
    differ = subst AreDifferent (sym (rows_append g.mets h.mets))
        (different_append (rows_of g.mets) (rows_of h.mets) g.differ h.differ (λ x s t. let u = met_of g.mets x s in let v = met_of h.mets x t in apart u.0 v.0 u.1 v.1 (u.2 ∙ sym v.2)));
    are_met = each_append (IsMet covers c.reached) g.mets h.mets (λ i m e. stays m (g.are_met i m e)) h.are_met;
  };
  each = λ m t. in_split g.mets h.mets m t;
}

-- ---- a chain whose page was not read to its end

module _ (chain : ℕ) (covers : ℕ → ℕ → Type 0) (m : ℕ) (leaf : Bool) (depth : ℕ) (a : Seat) (gs : List Row) (b : Seat) (hs : List Row) (n page count : ℕ) (k : Chaining covers m leaf depth a b gs hs n page count)
    (c : Seat) (is : List Row) (q : PageTried chain covers n leaf b c hs is) where
  inside_c : n < length c.reached
  inside_c = let long = q.stay.long in let h = k.now.inside in omega arith

  kind_c : (visited c.reached n).leaf ≡ leaf
  kind_c = ap (λ (p : Place). p.leaf) q.place ∙ k.now.kind

  path_c : (visited c.reached n).path ≡ (visited b.reached n).path
  path_c = ap (λ (p : Place). p.path) q.place

  kept : (r : Met) → IsMet covers b.reached r → IsMet covers c.reached r
  kept = stay_met covers n b.reached c.reached q.stay q.place (λ z h. let none : In z [] = subst (λ (l : List ℕ). In z l) k.now.fresh.slots h in absurd (at_none none.0 z none.1))

  early : (r : Met) → In r k.parts.mets → Earlier covers leaf (visited a.reached m).path c.reached (visited c.reached n).rank r
  early r h =
      let e = k.come h.0 r h.1 in
      let less = e.rank in
      let rank : (visited c.reached n).rank ≡ (visited b.reached n).rank = ap (λ (p : Place). p.rank) q.place in
      let other : e.number ≢ n = λ same. let t : (visited b.reached e.number).rank ≡ (visited b.reached n).rank = ap (λ i. (visited b.reached i).rank) same in absurd (omega arith) in
      let is_kept : visited c.reached e.number ≡ visited b.reached e.number = q.stay.others e.number e.inside other in
      let kept_rank : (visited c.reached e.number).rank ≡ (visited b.reached e.number).rank = ap (λ (x : Reached). x.rank) is_kept in
      let long = q.stay.long in
      let inside = e.inside in record {
        number = e.number;
        inside = omega arith;
        on_path = ap (λ (x : Reached). x.path) is_kept ∙ e.on_path;
        kind = ap (λ (x : Reached). x.leaf) is_kept ∙ e.kind;
        rank = omega arith;
        comes = subst (λ (x : Reached). Comes covers leaf x r) (sym is_kept) e.comes;
      }

  deep_or : (r : Met) → In r k.parts.mets → leaf ≡ true → 5 ≤ length (visited c.reached n).path
  deep_or r h is_leaf =
      let size : length (visited c.reached n).path ≡ depth = ap length path_c ∙ k.now.is_depth in
      dite (ℕ_discrete (5 - depth) 0) (λ (e : 5 - depth ≡ 0). omega arith)
      (λ (e : 5 - depth ≢ 0). let none = k.single is_leaf (omega arith) in let there : In r [] = subst (λ (l : List Met). In r l) none h in absurd (at_none there.0 r there.1))

  old : SoFar covers a b gs hs (λ r. In r k.parts.mets)
  old = of_parts covers a b b gs hs hs k.parts [] (sym (append-nil b.loads)) refl (λ r h. h)

  both : SoFar covers a c gs is (λ r. In r old.so_far.mets ⊎ In r q.so_far.mets)
  both = of_both covers a b c gs hs is old.so_far q.so_far kept (λ u v hu hv same.
      let e = early u (old.each u hu) in
      two_pages chain covers c.reached q.moment leaf (visited c.reached e.number) (visited c.reached n) (e.number, at_visit c.reached e.number e.inside) (n, at_visit c.reached n inside_c) e.kind kind_c (e.on_path ∙ sym (path_c ∙ k.path)) e.rank
      (deep_or u (old.each u hu)) u v (kept u (let t = old.each u hu in k.parts.are_met t.0 u t.1)) (q.so_far.are_met hv.0 v hv.1) same e.comes (q.come hv.0 v hv.1))

  below : (l : Bool) (x : Reached) (path : List ℕ) (r : Met) → x.path ≡ path → Comes covers l x r → Below covers l path r
  below true x path r on h = ([], h.0 ∙ (on ∙ sym (append-nil path)))
  below false x path r on h = subst (λ (p : List ℕ). (c : ℕ) × covers (length p) c × IsBelow (p ++ c ∷ []) r.path) on (h.0, h.2, h.3)

  pub chain_tried : ChainTried chain covers m leaf a c gs is
  chain_tried = let la = k.stay.long in let lb = q.stay.long in record {
    moment = q.moment;
    stay = record {
      long = omega arith;
      others = λ i h other.
          let not_n : i ≢ n = λ e. ⊎_elim (λ (u : n ≡ m). absurd (other (e ∙ u))) (λ (u : length a.reached ≤ n). absurd (omega arith)) k.mine in
          q.stay.others i (omega arith) not_n ∙ k.stay.others i h other;
    };
    so_far = both.so_far;
    come = λ i r e. ⊎_elim
        (λ (h : In r old.so_far.mets). let v = early r (old.each r h) in below leaf (visited c.reached v.number) (visited a.reached m).path r v.on_path v.comes)
        (λ (h : In r q.so_far.mets). below leaf (visited c.reached n) (visited a.reached m).path r (path_c ∙ k.path) (q.come h.0 r h.1))
        (both.each r (i, e));
  }

-- ---- what it means for a board

module _ (chain : ℕ) (codes : ℕ → List ℕ) (put old : ℕ → Type 0) (covers : ℕ → ℕ → Type 0) (a b : Seat) (gs hs : List Row) (q : ChainTried chain covers 0 false a b gs hs) (may : MayBe chain codes put old b) where
  told : Each (IsTold codes) q.so_far.loads
  told i l e = let h = subst (λ (ls : List CodeLoad). In l ls) (sym q.so_far.loads_are) (in_right a.loads q.so_far.loads l (i, e)) in may.told h.0 l h.1

  pub covering : Each (λ r. AllCover covers 0 (codes r)) (rows_of q.so_far.mets)
  covering i r e = cover_all covers (codes r) 0 (λ j c at.
      let t = met_of q.so_far.mets r (i, e) in
      let w = met_below chain codes put old covers b.reached may.moment t.0 (q.so_far.are_met t.1.0 t.0 t.1.1) in
      let five : length (codes r) ≡ 5 = subst (λ (x : ℕ). length (codes x) ≡ 5) t.2 w.1 in
      let within = inside (codes r) j c at in
      let g = q.so_far.good i r e j (omega arith) in
      let same : g.0 ≡ c = some-injective g.0 c (sym (told g.1.0 (load r j g.0) g.1.1) ∙ at) in
      subst (λ (z : ℕ × ℕ). covers z.0 z.1) (λ k. ((let n : j ≡ 0 + j = omega arith in n) k, same k)) g.2)
