-- Shortcuts over marked bonds: what halving one, marking one more bond, and rising by one bond keep.
use Rattle.std.proofs.Common.{◌≡◌, ◌≢◌, ℕ, zero, suc, ◌+◌, ◌-◌, ◌<◌, ◌≤◌, Bool, true, false, List, length, get_or, set, refl, sym, subst, ap, ◌∙◌, inl, inr, arith}
use Rattle.std.specs.Prelude.{slice_get, Some}
use Rattle.std.proofs.lemmas.Bool.{cases_eq}
use Rattle.std.proofs.lemmas.List.{get_or-set_same, get_or-set_other}
use Rattle.std.proofs.lemmas.Option.{slice_get_within}
use Rattle.htss_defs.specs.declared.graph.Ends.{Ends}
use Rattle.htss_defs.specs.Graph.{Graph, IsRingBond}
use Rattle.htss_defs.specs.Adjacency.{JoinsAt, IsGraph}
use Rattle.ring_bonds.specs.declared.forest.Forest.{Forest}
use Rattle.ring_bonds.specs.declared.marking.Marking.{Marking}
use Rattle.ring_bonds.specs.Forest.{parent_of, above_of, depth_of, tree_of, IsStep, IsRoot, AreTrees, IsForest, IsTreeBond, Climbs, IsOnWay, IsRise, AreRises}
use Rattle.ring_bonds.specs.Marking.{flag_of, IsUp, Leads, IsRest, IsClimb, IsTop, AreTops, AreSound, Grows, Meets, IsClosed, IsDone, AreDone, IsMarking}
use Rattle.ring_bonds.specs.Visits.{IsUnseen}
use Rattle.ring_bonds.proofs.Walks.{JoinsAt-sym, joins-ends}
use Rattle.ring_bonds.proofs.Climbs.{Leads-stay, Leads-up, Leads-trans, Leads-grow, IsOnWay-Leads, IsOnWay-lower, IsOnWay-tree, IsOnWay-through}
use Rattle.ring_bonds.proofs.Rings.{IsRingBond-above, IsRingBond-beside}
use Rattle.ring_bonds.proofs.Visits.{JoinsAt-within, straight}

-- ---- one more flag

pub flag-set_same : (flags : List Bool) (k : ℕ) → k < length flags → flag_of (set flags k true) k ≡ true
flag-set_same flags k within = get_or-set_same flags k true false within

flag-set_other : (flags : List Bool) (k j : ℕ) → j ≢ k → flag_of (set flags k true) j ≡ flag_of flags j
flag-set_other flags k j other = get_or-set_other flags k j true false other

pub Grows-stay : (flags : List Bool) → Grows flags flags
Grows-stay flags = record { kept = λ k up. up }

pub Grows-trans : (a b c : List Bool) → Grows a b → Grows b c → Grows a c
Grows-trans a b c one two = record { kept = λ k up. two.kept k (one.kept k up) }

pub Grows-set : (flags : List Bool) (k : ℕ) → k < length flags → Grows flags (set flags k true)
Grows-set flags k within = record {
  kept = λ j up. elim (cases_eq j k) [
    | inl same ↦ ap (flag_of (set flags k true)) same ∙ flag-set_same flags k within
    | inr other ↦ flag-set_other flags k j other ∙ up
  ];
}

AreSound-set : (g : Graph) (flags : List Bool) (k : ℕ) → AreSound g flags → IsRingBond g k → AreSound g (set flags k true)
AreSound-set g flags k sound ring = record {
  rings = λ j up. elim (cases_eq j k) [
    | inl same ↦ subst (λ (n : ℕ). IsRingBond g n) (sym same) ring
    | inr other ↦ sound.rings j (sym (flag-set_other flags k j other) ∙ up)
  ];
}

IsRest-set : (f : Forest) (flags : List Bool) (k x : ℕ) → (0 < above_of f x → (above_of f x - 1) ≢ k) → IsRest f flags x → IsRest f (set flags k true) x
IsRest-set f flags k x other rest = record { free = λ has. flag-set_other flags k (above_of f x - 1) (other has) ∙ rest.free has }

IsClimb-grow : (f : Forest) (before after : List Bool) (x y : ℕ) → Grows before after → IsClimb f before x y → IsClimb f after x y
IsClimb-grow f before after x y grows c = record { leads = Leads-grow f before after x y grows c.leads; within = c.within; lower = c.lower }

IsClimb-trans : (f : Forest) (flags : List Bool) (x y z : ℕ) → IsClimb f flags x y → IsClimb f flags y z → IsClimb f flags x z
IsClimb-trans f flags x y z c d = record { leads = Leads-trans f flags x y z c.leads d.leads; within = d.within; lower = omega (arith, c.lower, d.lower) }

-- ---- shortcuts

pub AreTops-start : (f : Forest) (flags : List Bool) (tops : List ℕ) → ((k : ℕ) → flag_of flags k ≡ false) → ((x : ℕ) → x < 1000 → get_or tops x 0 ≡ x) → AreTops f flags tops
AreTops-start f flags tops down own = record {
  climbs = λ x within. subst (λ (y : ℕ). IsClimb f flags x y) (sym (own x within)) (record { leads = Leads-stay f flags x; within = within; lower = omega arith });
  lower = λ x within other. absurd (other (own x within));
  rests = λ x within same. record { free = λ has. down (above_of f x - 1) };
}

climbs-none : (f : Forest) (flags : List Bool) (n x y : ℕ) → above_of f x ≡ 0 → Climbs (IsUp f flags) f.parent n x y → y ≡ x
climbs-none f flags zero x y none w = sym w
climbs-none f flags (suc n) x y none w = absurd (omega (arith, w.0.0))

-- a place that the search has not seen is its own top
pub AreTops-unseen : (f : Forest) (flags : List Bool) (tops : List ℕ) (x : ℕ) → AreTops f flags tops → x < 1000 → IsUnseen f x → get_or tops x 0 ≡ x
AreTops-unseen f flags tops x a within unseen =
    let up : Leads f flags x (get_or tops x 0) = (a.climbs x within).leads in
    climbs-none f flags up.steps x (get_or tops x 0) unseen.above up.climbs

pub AreTops-halve : (f : Forest) (flags : List Bool) (tops : List ℕ) (x : ℕ) → AreTops f flags tops → x < 1000 → get_or tops x 0 ≢ x → length tops ≡ 1000 → AreTops f flags (set tops x (get_or tops (get_or tops x 0) 0))
AreTops-halve f flags tops x a within moves size =
    let t : ℕ = get_or tops x 0 in
    let u : ℕ = get_or tops t 0 in
    let here : get_or (set tops x u) x 0 ≡ u = get_or-set_same tops x u 0 (omega arith) in
    let one : IsClimb f flags x t = a.climbs x within in
    let two : IsClimb f flags t u = a.climbs t one.within in
    let low : depth_of f u < depth_of f x = omega (arith, two.lower, a.lower x within moves) in
    record {
      climbs = λ y w. elim (cases_eq y x) [
        | inl same ↦ subst (λ (z : ℕ). IsClimb f flags z (get_or (set tops x u) z 0)) (sym same) (subst (λ (z : ℕ). IsClimb f flags x z) (sym here) (IsClimb-trans f flags x t u one two))
        | inr other ↦ subst (λ (z : ℕ). IsClimb f flags y z) (sym (get_or-set_other tops x y u 0 other)) (a.climbs y w)
      ];
      lower = λ y w not_own. elim (cases_eq y x) [
        | inl same ↦ subst (λ (z : ℕ). depth_of f (get_or (set tops x u) z 0) < depth_of f z) (sym same) (subst (λ (z : ℕ). depth_of f z < depth_of f x) (sym here) low)
        | inr other ↦
            let e : get_or (set tops x u) y 0 ≡ get_or tops y 0 = get_or-set_other tops x y u 0 other in
            subst (λ (z : ℕ). depth_of f z < depth_of f y) (sym e) (a.lower y w (λ is. not_own (e ∙ is)))
      ];
      rests = λ y w own. elim (cases_eq y x) [
        | inl same ↦
            let is : u ≡ x = sym here ∙ subst (λ (z : ℕ). get_or (set tops x u) z 0 ≡ z) same own in
            let e : depth_of f u ≡ depth_of f x = ap (depth_of f) is in
            absurd (omega arith)
        | inr other ↦ a.rests y w (sym (get_or-set_other tops x y u 0 other) ∙ own)
      ];
    }

-- marking a bond that is not in the forest
pub AreTops-beside : (f : Forest) (flags : List Bool) (tops : List ℕ) (k : ℕ) → AreTops f flags tops → k < length flags → (IsTreeBond f k → ⊥) → AreTops f (set flags k true) tops
AreTops-beside f flags tops k a within beside = record {
  climbs = λ x w. IsClimb-grow f flags (set flags k true) x (get_or tops x 0) (Grows-set flags k within) (a.climbs x w);
  lower = a.lower;
  rests = λ x w own. IsRest-set f flags k x (λ has is. beside (record { place = x; is = omega arith })) (a.rests x w own);
}

-- the bonds above two places are two bonds
apart : (f : Forest) (x y : ℕ) → AreRises f → 0 < above_of f x → y ≢ x → 0 < above_of f y → (above_of f y - 1) ≢ (above_of f x - 1)
apart f x y r has other has_y same =
    let e : above_of f y ≡ above_of f x = omega arith in
    other ((r.rises x has).alone y e)

-- marking the bond above a place
pub AreTops-rise : (f : Forest) (flags : List Bool) (tops : List ℕ) (x : ℕ) → AreRises f → AreTops f flags tops → x < 1000 → 0 < above_of f x → length flags ≡ 999 → length tops ≡ 1000 → AreTops f (set flags (above_of f x - 1) true) (set tops x (parent_of f x))
AreTops-rise f flags tops x r a within has size_flags size_tops =
    let k : ℕ = above_of f x - 1 in
    let p : ℕ = parent_of f x in
    let after : List Bool = set flags k true in
    let rise : IsRise f x = r.rises x has in
    let in_flags : k < length flags = omega (arith, rise.bond) in
    let here : get_or (set tops x p) x 0 ≡ p = get_or-set_same tops x p 0 (omega arith) in
    let low : depth_of f p < depth_of f x = rise.lower in
    let up : IsClimb f after x p = record { leads = Leads-up f after x (has, flag-set_same flags k in_flags); within = rise.within; lower = omega arith } in
    record {
      climbs = λ y w. elim (cases_eq y x) [
        | inl same ↦ subst (λ (z : ℕ). IsClimb f after z (get_or (set tops x p) z 0)) (sym same) (subst (λ (z : ℕ). IsClimb f after x z) (sym here) up)
        | inr other ↦ subst (λ (z : ℕ). IsClimb f after y z) (sym (get_or-set_other tops x y p 0 other)) (IsClimb-grow f flags after y (get_or tops y 0) (Grows-set flags k in_flags) (a.climbs y w))
      ];
      lower = λ y w not_own. elim (cases_eq y x) [
        | inl same ↦ subst (λ (z : ℕ). depth_of f (get_or (set tops x p) z 0) < depth_of f z) (sym same) (subst (λ (z : ℕ). depth_of f z < depth_of f x) (sym here) low)
        | inr other ↦
            let e : get_or (set tops x p) y 0 ≡ get_or tops y 0 = get_or-set_other tops x y p 0 other in
            subst (λ (z : ℕ). depth_of f z < depth_of f y) (sym e) (a.lower y w (λ is. not_own (e ∙ is)))
      ];
      rests = λ y w own. elim (cases_eq y x) [
        | inl same ↦
            let is : p ≡ x = sym here ∙ subst (λ (z : ℕ). get_or (set tops x p) z 0 ≡ z) same own in
            let e : depth_of f p ≡ depth_of f x = ap (depth_of f) is in
            absurd (omega arith)
        | inr other ↦ IsRest-set f flags k y (apart f x y r has other) (a.rests y w (sym (get_or-set_other tops x y p 0 other) ∙ own))
      ];
    }

-- the way of one call of top_of, one halving further
pub IsClimb-halve : (f : Forest) (flags : List Bool) (tops : List ℕ) (x y : ℕ) → AreTops f flags tops → IsClimb f flags x y → IsClimb f flags x (get_or tops (get_or tops y 0) 0)
IsClimb-halve f flags tops x y a c =
    let one : IsClimb f flags y (get_or tops y 0) = a.climbs y c.within in
    IsClimb-trans f flags x y (get_or tops (get_or tops y 0) 0) c (IsClimb-trans f flags y (get_or tops y 0) (get_or tops (get_or tops y 0) 0) one (a.climbs (get_or tops y 0) one.within))

pub IsTop-of : (f : Forest) (flags : List Bool) (tops : List ℕ) (x y : ℕ) → AreTops f flags tops → IsClimb f flags x y → get_or tops y 0 ≡ y → IsTop f flags x y
IsTop-of f flags tops x y a c own = record { climb = c; rest = a.rests y c.within own }

IsTop-same : (f h : Forest) (flags after : List Bool) (x y : ℕ) → h ≡ f → after ≡ flags → IsTop f flags x y → IsTop h after x y
IsTop-same f h flags after x y forest same t = subst (λ (i : Forest). IsTop i after x y) (sym forest) (subst (λ (bs : List Bool). IsTop f bs x y) (sym same) t)

-- ---- the forest of a graph

pub AreRises-of : (g : Graph) (f : Forest) → IsGraph g → AreTrees g f → AreRises f
AreRises-of g f graph t = record {
  rises = λ x has.
      let s : IsStep g f x = t.steps x has in
      record {
        within = omega (arith, (JoinsAt-within g (above_of f x - 1) x (parent_of f x) graph s.joined).1);
        lower = s.lower;
        bond = omega (arith, graph.bonds, slice_get_within g.bonds (above_of f x - 1) s.joined.ends s.joined.here);
        alone = λ y same.
            let has_y : 0 < above_of f y = omega arith in
            let d : IsStep g f y = t.steps y has_y in
            let bond : above_of f y - 1 ≡ above_of f x - 1 = omega arith in
            let ends : d.joined.ends ≡ s.joined.ends = cc (d.joined.here, s.joined.here, bond) in
            let cross : y ≡ parent_of f x → parent_of f y ≡ x → ⊥ = λ one two.
            let e : depth_of f y ≡ depth_of f (parent_of f x) = ap (depth_of f) one in
            let h : depth_of f (parent_of f y) ≡ depth_of f x = ap (depth_of f) two in
            omega (arith, s.lower, d.lower) in
            elim (joins-ends s.joined.ends x (parent_of f x) s.joined.joined) [
              | inl a ↦ elim (joins-ends d.joined.ends y (parent_of f y) d.joined.joined) [
                | inl b ↦ cc
                | inr b ↦ absurd (let one : y ≡ parent_of f x = cc in let two : parent_of f y ≡ x = cc in cross one two)
              ]
              | inr a ↦ elim (joins-ends d.joined.ends y (parent_of f y) d.joined.joined) [
                | inl b ↦ absurd (let one : y ≡ parent_of f x = cc in let two : parent_of f y ≡ x = cc in cross one two)
                | inr b ↦ cc
              ]
            ];
      };
}

-- two places of one tree: the deeper one is no root
deeper_has_parent : (g : Graph) (f : Forest) (a b : ℕ) → AreTrees g f → a ≢ b → depth_of f b ≤ depth_of f a → tree_of f a ≡ tree_of f b → 0 < tree_of f a → 0 < above_of f a
deeper_has_parent g f a b t other deep same seen = elim (cases_eq (above_of f a) 0) [
  | inl root ↦
      let r : IsRoot f a = t.roots a seen root in
      elim (cases_eq (above_of f b) 0) [
        | inl root_b ↦
            let s : IsRoot f b = t.roots b (subst (λ (n : ℕ). 0 < n) same seen) root_b in
            absurd (other (sym r.tree ∙ same ∙ s.tree))
        | inr some ↦
            let has : 0 < above_of f b = omega arith in
            absurd (omega (arith, r.depth, (t.steps b has).lower))
      ]
  | inr some ↦ omega arith
]

-- ---- closing a ring

-- the bond joins x and y and is not in the forest, and marked bonds lead up from x to a and from y to b
pub record IsClosing (g : Graph) (f : Forest) (flags : List Bool) (k x y a b : ℕ) : Type 0 where
  pub joined : JoinsAt g k x y
  pub beside : IsTreeBond f k → ⊥
  pub seen : 0 < tree_of f x
  pub tree : tree_of f x ≡ tree_of f y
  pub here : IsTop f flags x a
  pub there : IsTop f flags y b

pub IsClosing-sym : (g : Graph) (f : Forest) (flags : List Bool) (k x y a b : ℕ) → IsClosing g f flags k x y a b → IsClosing g f flags k y x b a
IsClosing-sym g f flags k x y a b c = record {
  joined = JoinsAt-sym g k x y c.joined;
  beside = c.beside;
  seen = subst (λ (n : ℕ). 0 < n) c.tree c.seen;
  tree = sym c.tree;
  here = c.there;
  there = c.here;
}

pub IsClosing-above : (g : Graph) (f : Forest) (flags : List Bool) (k x y a b : ℕ) → AreTrees g f → IsClosing g f flags k x y a b → a ≢ b → depth_of f b ≤ depth_of f a → 0 < above_of f a
IsClosing-above g f flags k x y a b t c other deep =
    let up_a : tree_of f x ≡ tree_of f a = IsOnWay-tree g f a x t (IsOnWay-Leads f flags x a c.here.climb.leads) in
    let up_b : tree_of f y ≡ tree_of f b = IsOnWay-tree g f b y t (IsOnWay-Leads f flags y b c.there.climb.leads) in
    deeper_has_parent g f a b t other deep (sym up_a ∙ c.tree ∙ up_b) (subst (λ (n : ℕ). 0 < n) up_a c.seen)

-- the deeper of the two goes up by one bond, which so is a ring bond
pub IsClosing-ring : (g : Graph) (f : Forest) (flags : List Bool) (k x y a b : ℕ) → AreTrees g f → AreRises f → IsClosing g f flags k x y a b → a ≢ b → depth_of f b ≤ depth_of f a → IsRingBond g (above_of f a - 1)
IsClosing-ring g f flags k x y a b t r c other deep =
    let has : 0 < above_of f a = IsClosing-above g f flags k x y a b t c other deep in
    let free : IsUp f flags a → ⊥ = λ up. (let yes : flag_of flags (above_of f a - 1) ≡ true = up.1 in let no : flag_of flags (above_of f a - 1) ≡ false = c.here.rest.free has in cc) in
    let below : IsOnWay f a x = IsOnWay-Leads f flags x a c.here.climb.leads in
    let elsewhere : IsOnWay f a y → ⊥ = λ w. elim (IsOnWay-lower f a b r (IsOnWay-through f flags a y b free c.there.climb.leads w)) [
      | inl same ↦ other (sym same)
      | inr less ↦ omega arith
    ] in
    IsRingBond-above g f a k x y t r has c.joined (λ is. c.beside (record { place = a; is = omega arith })) (subst (λ (n : ℕ). 0 < n) c.tree c.seen) c.tree below elsewhere

-- what rising from a to r does
pub record IsRisen (g : Graph) (m w : Marking) (k x y a b r : ℕ) : Type 0 where
  pub valid : IsMarking g w
  pub grows : Grows m.flags w.flags
  pub closing : IsClosing g w.visits.forest w.flags k x y r b
  pub lower : depth_of w.visits.forest r < depth_of m.visits.forest a
  pub other : depth_of w.visits.forest b ≡ depth_of m.visits.forest b

risen : (g : Graph) (m w : Marking) (k x y a b r : ℕ) → IsGraph g → IsMarking g m → IsClosing g m.visits.forest m.flags k x y a b → a ≢ b → depth_of m.visits.forest b ≤ depth_of m.visits.forest a → length m.flags ≡ 999
    → w.flags ≡ set m.flags (above_of m.visits.forest a - 1) true → AreTops m.visits.forest w.flags w.tops → IsTop m.visits.forest w.flags (parent_of m.visits.forest a) r → IsRisen g m (record { visits = record w.visits { forest = m.visits.forest }; tops = w.tops; flags = w.flags }) k x y a b r
risen g m w k x y a b r graph valid c other deep size marked tops top =
    let f : Forest = m.visits.forest in
    let t : AreTrees g f = valid.forest.trees in
    let rises : AreRises f = AreRises-of g f graph t in
    let has : 0 < above_of f a = IsClosing-above g f m.flags k x y a b t c other deep in
    let rise : IsRise f a = rises.rises a has in
    let j : ℕ = above_of f a - 1 in
    let in_flags : j < length m.flags = omega (arith, rise.bond) in
    let grows : Grows m.flags w.flags = subst (λ (bs : List Bool). Grows m.flags bs) (sym marked) (Grows-set m.flags j in_flags) in
    let up : Leads f w.flags a (parent_of f a) = Leads-up f w.flags a (has, ap (λ (bs : List Bool). flag_of bs j) marked ∙ flag-set_same m.flags j in_flags) in
    let way : Leads f w.flags x a = Leads-grow f m.flags w.flags x a grows c.here.climb.leads in
    let low : depth_of f r < depth_of f a = omega (arith, top.climb.lower, rise.lower) in
    record {
      valid = record {
        forest = valid.forest;
        tops = tops;
        sound = subst (λ (bs : List Bool). AreSound g bs) (sym marked) (AreSound-set g m.flags j valid.sound (IsClosing-ring g f m.flags k x y a b t rises c other deep));
      };
      grows = grows;
      closing = record {
        joined = c.joined;
        beside = c.beside;
        seen = c.seen;
        tree = c.tree;
        here = record {
          climb = record { leads = Leads-trans f w.flags x (parent_of f a) r (Leads-trans f w.flags x a (parent_of f a) way up) top.climb.leads; within = top.climb.within; lower = omega (arith, c.here.climb.lower) };
          rest = top.rest;
        };
        there = record {
          climb = IsClimb-grow f m.flags w.flags y b grows c.there.climb;
          rest = subst (λ (bs : List Bool). IsRest f bs b) (sym marked) (IsRest-set f m.flags j b (apart f a b rises has (λ is. other (sym is))) c.there.rest);
        };
      };
      lower = low;
      other = refl;
    }

pub IsRisen-of : (g : Graph) (m w : Marking) (k x y a b r : ℕ) → IsGraph g → IsMarking g m → IsClosing g m.visits.forest m.flags k x y a b → a ≢ b → depth_of m.visits.forest b ≤ depth_of m.visits.forest a → length m.flags ≡ 999
    → w.visits.forest ≡ m.visits.forest → w.flags ≡ set m.flags (above_of m.visits.forest a - 1) true → AreTops w.visits.forest w.flags w.tops → IsTop w.visits.forest w.flags (parent_of w.visits.forest a) r → IsRisen g m w k x y a b r
IsRisen-of g m w k x y a b r graph valid c other deep size forest marked tops top =
    let tops_then : AreTops m.visits.forest w.flags w.tops = subst (λ (h : Forest). AreTops h w.flags w.tops) forest tops in
    let top_then : IsTop m.visits.forest w.flags (parent_of m.visits.forest a) r = subst (λ (h : Forest). IsTop h w.flags (parent_of h a) r) forest top in
    subst (λ (h : Forest). IsRisen g m (record { visits = record w.visits { forest = h }; tops = w.tops; flags = w.flags }) k x y a b r) (sym forest)
    (risen g m w k x y a b r graph valid c other deep size marked tops_then top_then)

-- before the first rise: the bond itself is marked
pub record IsBegun (g : Graph) (m w : Marking) (k x y a b : ℕ) : Type 0 where
  pub valid : IsMarking g w
  pub forest : w.visits.forest ≡ m.visits.forest
  pub flags : w.flags ≡ set m.flags k true
  pub closing : IsClosing g w.visits.forest w.flags k x y a b

pub IsBegun-of : (g : Graph) (m v w : Marking) (k a b : ℕ) (e : Ends) → IsMarking g m → (IsTreeBond m.visits.forest k → ⊥) → slice_get g.bonds k ≡ Some e → v.visits.forest ≡ m.visits.forest → v.flags ≡ set m.flags k true → IsTop v.visits.forest v.flags e.first a
    → w.visits.forest ≡ v.visits.forest → w.flags ≡ v.flags → AreTops w.visits.forest w.flags w.tops → IsTop w.visits.forest w.flags e.second b → IsBegun g m w k e.first e.second a b
IsBegun-of g m v w k a b e valid beside here forest_v flags_v first forest_w flags_w tops second =
    let forest : w.visits.forest ≡ m.visits.forest = forest_w ∙ forest_v in
    let flags : w.flags ≡ set m.flags k true = flags_w ∙ flags_v in
    let joined : JoinsAt g k e.first e.second = record { ends = e; here = here; joined = straight e } in
    let spans : IsForest g w.visits.forest = subst (λ (h : Forest). IsForest g h) (sym forest) valid.forest in
    let ring : IsRingBond g k = IsRingBond-beside g m.visits.forest k e valid.forest here joined beside in
    record {
      valid = record { forest = spans; tops = tops; sound = subst (λ (bs : List Bool). AreSound g bs) (sym flags) (AreSound-set g m.flags k valid.sound ring) };
      forest = forest;
      flags = flags;
      closing = record {
        joined = joined;
        beside = λ tree. beside (subst (λ (h : Forest). IsTreeBond h k) forest tree);
        seen = (spans.spans k e here).seen;
        tree = (spans.spans k e here).same;
        here = IsTop-same v.visits.forest w.visits.forest v.flags w.flags e.first a forest_w flags_w first;
        there = second;
      };
    }

-- where both have come to one place
pub IsClosed-of : (g : Graph) (f : Forest) (flags : List Bool) (k a b : ℕ) (e : Ends) → slice_get g.bonds k ≡ Some e → flag_of flags k ≡ true → IsClosing g f flags k e.first e.second a b → a ≡ b → IsClosed g f flags k
IsClosed-of g f flags k a b e here marked c met = record {
  marked = marked;
  meets = λ d there.
      let same : e ≡ d = cc (here, there) in
      let meets : Meets f flags e = record { top = a; first = c.here.climb.leads; second = subst (λ (z : ℕ). Leads f flags e.second z) (sym met) c.there.climb.leads } in
      subst (λ (i : Ends). Meets f flags i) same meets;
}

-- ---- one bond after the other

IsClosed-grow : (g : Graph) (f : Forest) (before after : List Bool) (k : ℕ) → Grows before after → IsClosed g f before k → IsClosed g f after k
IsClosed-grow g f before after k grows c = record {
  marked = grows.kept k c.marked;
  meets = λ e here.
      let m : Meets f before e = c.meets e here in
      record { top = m.top; first = Leads-grow f before after e.first m.top grows m.first; second = Leads-grow f before after e.second m.top grows m.second };
}

done_more : (g : Graph) (f : Forest) (before after : List Bool) (n k : ℕ) → AreDone g f before n → Grows before after → IsDone g f after n → k < n + 1 → IsDone g f after k
done_more g f before after n k done grows now within = elim (cases_eq k n) [
  | inl last ↦ subst (λ (j : ℕ). IsDone g f after j) (sym last) now
  | inr earlier ↦ elim (done.each k (omega arith)) [
    | inl tree ↦ inl tree
    | inr closed ↦ inr (IsClosed-grow g f before after k grows closed)
  ]
]

pub AreDone-more : (g : Graph) (m w : Marking) (n : ℕ) → AreDone g m.visits.forest m.flags n → w.visits.forest ≡ m.visits.forest → Grows m.flags w.flags → IsDone g w.visits.forest w.flags n → AreDone g w.visits.forest w.flags (n + 1)
AreDone-more g m w n done forest grows now =
    let then : AreDone g w.visits.forest m.flags n = subst (λ (h : Forest). AreDone g h m.flags n) (sym forest) done in
    record { each = λ k within. done_more g w.visits.forest m.flags w.flags n k then grows now within }
