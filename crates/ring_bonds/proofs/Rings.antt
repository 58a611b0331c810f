-- Which bonds are ring bonds: what a marked bond needs, and what an unmarked one tells.
use Rattle.std.proofs.Common.{◌≡◌, ◌≢◌, ℕ, zero, suc, ◌+◌, ◌-◌, ◌<◌, ◌≤◌, ◌⊎◌, Bool, true, false, List, length, sym, subst, ap, ◌∙◌, inl, inr, arith}
use Rattle.std.specs.Prelude.{slice_get, Some}
use Rattle.std.proofs.lemmas.Bool.{cases_eq, cases_Bool}
use Rattle.std.proofs.lemmas.Option.{slice_get_within}
use Rattle.htss_defs.specs.declared.graph.Ends.{Ends}
use Rattle.htss_defs.specs.Graph.{Graph, WalksWithout, IsRingBond}
use Rattle.htss_defs.specs.Adjacency.{JoinsAt}
use Rattle.ring_bonds.specs.declared.forest.Forest.{Forest}
use Rattle.ring_bonds.specs.Forest.{parent_of, above_of, depth_of, tree_of, IsStep, AreTrees, IsInTree, IsForest, IsTreeBond, Climbs, HasParent, IsOnWay, AreRises}
use Rattle.ring_bonds.specs.Marking.{flag_of, IsUp, Meets, IsDone, AreDone}
use Rattle.ring_bonds.proofs.Walks.{Reach, Reach-stay, Reach-step, Reach-trans, Reach-sym, joins-ends, IsRingBond-of, Reach-ring}
use Rattle.ring_bonds.proofs.Climbs.{IsOnWay-stay, IsOnWay-up, IsOnWay-parent, IsOnWay-not_parent, IsOnWay-tree, IsOnWay-through, IsOnWay-back}

-- ---- walks in the forest

-- up to the root, where Q keeps the way off bond k
to_root : (g : Graph) (f : Forest) (k : ℕ) (Q : ℕ → Type 0) → AreTrees g f → ((x : ℕ) → Q x → 0 < above_of f x → ((above_of f x - 1) ≢ k) × Q (parent_of f x))
    → (n x : ℕ) → depth_of f x ≤ n → 0 < tree_of f x → Q x → Reach g k x (tree_of f x)
to_root g f k Q t on zero x deep seen q = elim (cases_eq (above_of f x) 0) [
  | inl root ↦ subst (λ (v : ℕ). Reach g k x v) (sym (t.roots x seen root).tree) (Reach-stay g k x)
  | inr some ↦
      let has : 0 < above_of f x = omega arith in
      let low : depth_of f (parent_of f x) < depth_of f x = (t.steps x has).lower in
      absurd (omega arith)
]
to_root g f k Q t on (suc n) x deep seen q = elim (cases_eq (above_of f x) 0) [
  | inl root ↦ subst (λ (v : ℕ). Reach g k x v) (sym (t.roots x seen root).tree) (Reach-stay g k x)
  | inr some ↦
      let has : 0 < above_of f x = omega arith in
      let s : IsStep g f x = t.steps x has in
      let low : depth_of f (parent_of f x) < depth_of f x = s.lower in
      let next : ((above_of f x - 1) ≢ k) × Q (parent_of f x) = on x q has in
      let rest : Reach g k (parent_of f x) (tree_of f (parent_of f x)) = to_root g f k Q t on n (parent_of f x) (omega arith) (subst (λ (v : ℕ). 0 < v) (sym s.tree) seen) next.1 in
      Reach-trans g k x (parent_of f x) (tree_of f x) (Reach-step g k x x (parent_of f x) (above_of f x - 1) (Reach-stay g k x) s.joined next.0)
      (subst (λ (v : ℕ). Reach g k (parent_of f x) v) s.tree rest)
]

Reach-root : (g : Graph) (f : Forest) (k : ℕ) (Q : ℕ → Type 0) → AreTrees g f → ((x : ℕ) → Q x → 0 < above_of f x → ((above_of f x - 1) ≢ k) × Q (parent_of f x)) → (x : ℕ) → 0 < tree_of f x → Q x → Reach g k x (tree_of f x)
Reach-root g f k Q t on x seen q = to_root g f k Q t on (depth_of f x) x (omega arith) seen q

-- two places have two bonds above them
apart_above : (f : Forest) (a x : ℕ) → AreRises f → 0 < above_of f a → 0 < above_of f x → x ≢ a → (above_of f x - 1) ≢ (above_of f a - 1)
apart_above f a x r has_a has_x other same =
    let e : above_of f x ≡ above_of f a = omega arith in
    other ((r.rises a has_a).alone x e)

up_to : (g : Graph) (f : Forest) (a n x : ℕ) → AreTrees g f → AreRises f → 0 < above_of f a → Climbs (HasParent f) f.parent n x a → Reach g (above_of f a - 1) x a
up_to g f a zero x t r has w = subst (λ (v : ℕ). Reach g (above_of f a - 1) x v) w (Reach-stay g (above_of f a - 1) x)
up_to g f a (suc n) x t r has w =
    let k : ℕ = above_of f a - 1 in
    let below : IsOnWay f a (parent_of f x) = record { steps = n; climbs = w.1 } in
    let other : x ≢ a = λ same. IsOnWay-not_parent f a r has (subst (λ (v : ℕ). IsOnWay f a (parent_of f v)) same below) in
    let one : Reach g k x (parent_of f x) = Reach-step g k x x (parent_of f x) (above_of f x - 1) (Reach-stay g k x) (t.steps x w.0).joined (apart_above f a x r has w.0 other) in
    Reach-trans g k x (parent_of f x) a one (up_to g f a n (parent_of f x) t r has w.1)

-- ---- a bond that leads from below a place to elsewhere in its tree makes the bond above it a ring bond

pub IsRingBond-above : (g : Graph) (f : Forest) (a j x y : ℕ) → AreTrees g f → AreRises f → 0 < above_of f a → JoinsAt g j x y → j ≢ (above_of f a - 1) → 0 < tree_of f y → tree_of f x ≡ tree_of f y → IsOnWay f a x → (IsOnWay f a y → ⊥)
    → IsRingBond g (above_of f a - 1)
IsRingBond-above g f a j x y t r has joined other seen same below beside =
    let k : ℕ = above_of f a - 1 in
    let p : ℕ = parent_of f a in
    let s : IsStep g f a = t.steps a has in
    let Q : ℕ → Type 0 = λ z. IsOnWay f a z → ⊥ in
    let on : (z : ℕ) → Q z → 0 < above_of f z → ((above_of f z - 1) ≢ k) × Q (parent_of f z) =
    λ z q has_z. (apart_above f a z r has has_z (λ is. q (subst (λ (v : ℕ). IsOnWay f a v) (sym is) (IsOnWay-stay f a))), λ w. q (IsOnWay-up f a z has_z w)) in
    let down : Reach g k a x = Reach-sym g k x a (up_to g f a below.steps x t r has below.climbs) in
    let over : Reach g k a y = Reach-step g k a x y j down joined other in
    let root : Reach g k a (tree_of f y) = Reach-trans g k a y (tree_of f y) over (Reach-root g f k Q t on y seen beside) in
    let up : Reach g k p (tree_of f p) = Reach-root g f k Q t on p (subst (λ (v : ℕ). 0 < v) (sym s.tree) s.seen) (IsOnWay-not_parent f a r has) in
    let one : tree_of f p ≡ tree_of f y = s.tree ∙ sym (IsOnWay-tree g f a x t below) ∙ same in
    IsRingBond-of g k a p s.joined (Reach-trans g k a (tree_of f y) p root (Reach-sym g k p (tree_of f y) (subst (λ (v : ℕ). Reach g k p v) one up)))

-- ---- a bond that is not in the forest is a ring bond

pub IsRingBond-beside : (g : Graph) (f : Forest) (k : ℕ) (e : Ends) → IsForest g f → slice_get g.bonds k ≡ Some e → JoinsAt g k e.first e.second → (IsTreeBond f k → ⊥) → IsRingBond g k
IsRingBond-beside g f k e forest here joined beside =
    let spans : IsInTree f e = forest.spans k e here in
    let Q : ℕ → Type 0 = λ z. Unit {0} in
    let on : (z : ℕ) → Q z → 0 < above_of f z → ((above_of f z - 1) ≢ k) × Q (parent_of f z) = λ z q has. (λ is. beside (record { place = z; is = omega arith }), tt) in
    let first : Reach g k e.first (tree_of f e.first) = Reach-root g f k Q forest.trees on e.first spans.seen tt in
    let second : Reach g k e.second (tree_of f e.second) = Reach-root g f k Q forest.trees on e.second (subst (λ (v : ℕ). 0 < v) spans.same spans.seen) tt in
    IsRingBond-of g k e.first e.second joined
    (Reach-trans g k e.first (tree_of f e.first) e.second first (Reach-sym g k e.second (tree_of f e.first) (subst (λ (v : ℕ). Reach g k e.second v) (sym spans.same) second)))

-- ---- an unmarked bond is no ring bond, once all others are closed

-- a bond other than that above c joins places below c or places elsewhere
stays : (g : Graph) (f : Forest) (flags : List Bool) (c j x y : ℕ) → AreTrees g f → (IsUp f flags c → ⊥) → 0 < above_of f c → IsDone g f flags j → j ≢ (above_of f c - 1) → JoinsAt g j x y → IsOnWay f c x → IsOnWay f c y
stays g f flags c j x y t free has (inl tree) other joined w =
    let z : ℕ = tree.place in
    let there : above_of f z ≡ j + 1 = tree.is in
    let has_z : 0 < above_of f z = omega arith in
    let k : above_of f z - 1 ≡ j = omega arith in
    let s : IsStep g f z = t.steps z has_z in
    let not_c : z ≢ c = λ is. let e : above_of f z ≡ above_of f c = ap (above_of f) is in other (omega arith) in
    let same : joined.ends ≡ s.joined.ends = cc (joined.here, s.joined.here, k) in
    let p : ℕ = parent_of f z in
    let moves : ((z ≡ x) × (p ≡ y)) ⊎ ((z ≡ y) × (p ≡ x)) = elim (joins-ends joined.ends x y joined.joined) [
      | inl d ↦ elim (joins-ends s.joined.ends z p s.joined.joined) [
        | inl e ↦ inl (cc, cc)
        | inr e ↦ inr (cc, cc)
      ]
      | inr d ↦ elim (joins-ends s.joined.ends z p s.joined.joined) [
        | inl e ↦ inr (cc, cc)
        | inr e ↦ inl (cc, cc)
      ]
    ] in
    elim moves [
      | inl e ↦ subst (λ (v : ℕ). IsOnWay f c v) e.1 (IsOnWay-parent f c z (subst (λ (v : ℕ). IsOnWay f c v) (sym e.0) w) not_c)
      | inr e ↦ subst (λ (v : ℕ). IsOnWay f c v) e.0 (IsOnWay-up f c z has_z (subst (λ (v : ℕ). IsOnWay f c v) (sym e.1) w))
    ]
stays g f flags c j x y t free has (inr closed) other joined w =
    let m : Meets f flags joined.ends = closed.meets joined.ends joined.here in
    elim (joins-ends joined.ends x y joined.joined) [
      | inl e ↦
          let start : IsOnWay f c joined.ends.first = subst (λ (v : ℕ). IsOnWay f c v) (sym e.0) w in
          subst (λ (v : ℕ). IsOnWay f c v) e.1 (IsOnWay-back f flags c joined.ends.second m.top m.second (IsOnWay-through f flags c joined.ends.first m.top free m.first start))
      | inr e ↦
          let start : IsOnWay f c joined.ends.second = subst (λ (v : ℕ). IsOnWay f c v) (sym e.1) w in
          subst (λ (v : ℕ). IsOnWay f c v) e.0 (IsOnWay-back f flags c joined.ends.first m.top m.first (IsOnWay-through f flags c joined.ends.second m.top free m.second start))
    ]

walk_stays : (g : Graph) (f : Forest) (flags : List Bool) (c x n y : ℕ) → AreTrees g f → (IsUp f flags c → ⊥) → 0 < above_of f c → AreDone g f flags (length g.bonds) → IsOnWay f c x → WalksWithout g (above_of f c - 1) x y n → IsOnWay f c y
walk_stays g f flags c x zero y t free has done w walk = subst (λ (v : ℕ). IsOnWay f c v) walk w
walk_stays g f flags c x (suc n) y t free has done w walk =
    let before : IsOnWay f c walk.0 = walk_stays g f flags c x n walk.0 t free has done w walk.1 in
    stays g f flags c walk.2 walk.0 y t free has (done.each walk.2 (slice_get_within g.bonds walk.2 walk.3 walk.5)) walk.4 (record { ends = walk.3; here = walk.5; joined = walk.6 }) before

not_ring : (g : Graph) (f : Forest) (flags : List Bool) (c : ℕ) → AreTrees g f → AreRises f → 0 < above_of f c → flag_of flags (above_of f c - 1) ≡ false → AreDone g f flags (length g.bonds) → IsRingBond g (above_of f c - 1) → ⊥
not_ring g f flags c t r has unmarked done ring =
    let free : IsUp f flags c → ⊥ = λ up. (let e : flag_of flags (above_of f c - 1) ≡ true = up.1 in cc) in
    let round : Reach g (above_of f c - 1) c (parent_of f c) = Reach-ring g (above_of f c - 1) c (parent_of f c) ring (t.steps c has).joined in
    IsOnWay-not_parent f c r has (walk_stays g f flags c c round.bonds (parent_of f c) t free has done (IsOnWay-stay f c) round.walk)

pub marked-ring : (g : Graph) (f : Forest) (flags : List Bool) (k : ℕ) → AreTrees g f → AreRises f → AreDone g f flags (length g.bonds) → IsRingBond g k → flag_of flags k ≡ true
marked-ring g f flags k t r done ring = elim (cases_Bool (flag_of flags k)) [
  | inl set ↦ set
  | inr unset ↦ elim (done.each k (slice_get_within g.bonds k ring.ends ring.bond)) [
    | inl tree ↦
        let there : above_of f tree.place ≡ k + 1 = tree.is in
        let has : 0 < above_of f tree.place = omega arith in
        let same : above_of f tree.place - 1 ≡ k = omega arith in
        absurd (not_ring g f flags tree.place t r has (ap (flag_of flags) same ∙ unset) done (subst (λ (v : ℕ). IsRingBond g v) (sym same) ring))
    | inr closed ↦ closed.marked
  ]
]
