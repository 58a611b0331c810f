-- The search in breadth: what one more visit keeps, and what is known when all is explored.
use Rattle.std.proofs.Common.{◌≡◌, ◌≢◌, ℕ, zero, suc, ◌+◌, ◌-◌, ◌/◌, ◌%◌, ◌<◌, ◌≤◌, ◌⊎◌, true, eqb, List, [], ◌∷◌, length, get_or, set, refl, sym, subst, ap, ◌∙◌, inl, inr, arith}
use Rattle.std.specs.Prelude.{slice_get, Some}
use Rattle.std.proofs.lemmas.Bool.{cases_eq, cases_lt, cond-true, cond-false, eq-eqb, ne_eqb, or_left, or_right, and_from}
use Rattle.std.proofs.lemmas.List.{length-set, length-replicate, get_or-replicate, get_or_past, get_or-set_same, get_or-set_other}
use Rattle.std.proofs.lemmas.Option.{slice_get-get_or, slice_get_within, get_or_from_slice_get}
use lib.ListN.{replicate}
use Rattle.htss_defs.specs.declared.graph.Ends.{Ends}
use Rattle.htss_defs.specs.Graph.{Graph, AreEnds, joins}
use Rattle.htss_defs.specs.Adjacency.{IsGraph, JoinsAt, no_ends, place_of_end}
use Rattle.htss_defs.proofs.Chains.{Walked, Walked-all}
use Rattle.ring_bonds.specs.declared.forest.Forest.{Forest}
use Rattle.ring_bonds.specs.declared.forest.Found.{Found}
use Rattle.ring_bonds.specs.declared.forest.Visits.{Visits}
use Rattle.ring_bonds.specs.Forest.{parent_of, above_of, depth_of, tree_of, IsStep, IsRoot, AreTrees, IsInTree, IsForest, IsTreeBond}
use Rattle.ring_bonds.specs.Visits.{count_seen, with_place, with_visit, AreBlankVisits, IsUnseen, HasEndAt, IsSettled, IsExplored, IsQueued, StandsAt, AreVisits, AreDoneVisits, IsLater, IsFirstFound, IsNextFound}
use Rattle.ring_bonds.proofs.Walks.{JoinsAt-sym, joins-ends}

-- ---- lists of numbers

pub get_or-all : {X : Type 0} (n x : ℕ) (d : X) → get_or (replicate n d) x d ≡ d
get_or-all n x d = elim (cases_lt x n) [
  | inl within ↦ get_or-replicate n x d d within
  | inr past ↦ get_or_past (replicate n d) x d (omega (arith, length-replicate n d))
]

pub get_or-cleared : {X : Type 0} (xs : List X) (x y : ℕ) (d : X) → (y ≢ x → get_or xs y d ≡ d) → get_or (set xs x d) y d ≡ d
get_or-cleared {X = X} xs x y d other = elim (cases_eq y x) [
  | inl same ↦ elim (cases_lt x (length xs)) [
    | inl within ↦ subst (λ (z : ℕ). get_or (set xs x d) z d ≡ d) (sym same) (get_or-set_same xs x d d within)
    | inr past ↦ get_or_past (set xs x d) y d (omega (arith, length-set xs x d))
  ]
  | inr apart ↦ get_or-set_other xs x y d d apart ∙ other apart
]

pub count_seen-none : (xs : List ℕ) → ((x : ℕ) → get_or xs x 0 ≡ 0) → count_seen xs ≡ 0
unfolding count_seen
count_seen-none [] none = refl
count_seen-none (zero ∷ xs) none = count_seen-none xs (λ x. none (suc x))
count_seen-none (suc y ∷ xs) none = absurd (let e : suc y ≡ 0 = none 0 in omega arith)

count_seen-le : (xs : List ℕ) → count_seen xs ≤ length xs
unfolding count_seen
count_seen-le [] = omega arith
count_seen-le (zero ∷ xs) = omega (arith, count_seen-le xs)
count_seen-le (suc y ∷ xs) = omega (arith, count_seen-le xs)

count_seen-set : (xs : List ℕ) (i v : ℕ) → i < length xs → get_or xs i 0 ≡ 0 → 0 < v → count_seen (set xs i v) ≡ count_seen xs + 1
unfolding count_seen
count_seen-set [] i v within none some = absurd (omega arith)
count_seen-set (x ∷ xs) zero zero within none some = absurd (omega arith)
count_seen-set (zero ∷ xs) zero (suc v) within none some = refl
count_seen-set (suc y ∷ xs) zero (suc v) within none some = absurd (omega arith)
count_seen-set (zero ∷ xs) (suc i) v within none some = count_seen-set xs i v (omega arith) none some
count_seen-set (suc y ∷ xs) (suc i) v within none some = ap (λ (n : ℕ). n + 1) (count_seen-set xs i v (omega arith) none some)

-- ---- sizes

pub record IsSized (v : Visits) : Type 0 where
  pub parent : length v.forest.parent ≡ 1000
  pub above : length v.forest.above ≡ 1000
  pub depth : length v.forest.depth ≡ 1000
  pub tree : length v.forest.tree ≡ 1000
  pub queue : length v.queue ≡ 1000

pub AreVisits-room : (g : Graph) (v : Visits) (head root x : ℕ) → AreVisits g v head root → IsSized v → x < 1000 → tree_of v.forest x ≡ 0 → v.seen < 1000
AreVisits-room g v head root x a s within unseen =
    let one : count_seen (set v.forest.tree x 1) ≡ count_seen v.forest.tree + 1 = count_seen-set v.forest.tree x 1 (omega (arith, s.tree)) unseen (omega arith) in
    omega (arith, a.counted, s.tree, count_seen-le (set v.forest.tree x 1), length-set v.forest.tree x 1)

-- ---- what stays at other places

record IsSameAt (f h : Forest) (x : ℕ) : Type 0 where
  parent : parent_of h x ≡ parent_of f x
  above : above_of h x ≡ above_of f x
  depth : depth_of h x ≡ depth_of f x
  tree : tree_of h x ≡ tree_of f x

IsSameAt-other : (f : Forest) (x y : ℕ) (found : Found) → y ≢ x → IsSameAt f (with_place f x found) y
IsSameAt-other f x y found other = record {
  parent = get_or-set_other f.parent x y found.parent 0 other;
  above = get_or-set_other f.above x y found.above 0 other;
  depth = get_or-set_other f.depth x y found.depth 0 other;
  tree = get_or-set_other f.tree x y found.tree 0 other;
}

IsStep-same : (g : Graph) (f h : Forest) (x : ℕ) → IsStep g f x → IsSameAt f h x → IsSameAt f h (parent_of f x) → IsStep g h x
IsStep-same g f h x s here there =
    let deep : depth_of h (parent_of h x) ≡ depth_of f (parent_of f x) = ap (depth_of h) here.parent ∙ there.depth in
    record {
      joined = subst (λ (a : ℕ). JoinsAt g (a - 1) x (parent_of h x)) (sym here.above) (subst (λ (p : ℕ). JoinsAt g (above_of f x - 1) x p) (sym here.parent) s.joined);
      lower = omega (arith, deep, here.depth, s.lower);
      tree = ap (tree_of h) here.parent ∙ there.tree ∙ s.tree ∙ sym here.tree;
      seen = subst (λ (t : ℕ). 0 < t) (sym here.tree) s.seen;
    }

pub IsLater-visit : (v : Visits) (x : ℕ) (found : Found) → tree_of v.forest x ≡ 0 → IsLater v (with_visit v x found)
IsLater-visit v x found unseen = record {
  more = omega arith;
  trees = λ y seen. get_or-set_other v.forest.tree x y found.tree 0 (λ same. (let e : tree_of v.forest y ≡ tree_of v.forest x = ap (tree_of v.forest) same in omega arith));
  queue = λ i within. get_or-set_other v.queue v.seen i x 0 (λ same. omega arith);
}

pub IsLater-stay : (v : Visits) → IsLater v v
IsLater-stay v = record { more = omega arith; trees = λ x seen. refl; queue = λ i within. refl }

pub IsLater-trans : (u v w : Visits) → IsLater u v → IsLater v w → IsLater u w
IsLater-trans u v w l m = record {
  more = omega (arith, l.more, m.more);
  trees = λ x seen. m.trees x (subst (λ (t : ℕ). 0 < t) (sym (l.trees x seen)) seen) ∙ l.trees x seen;
  queue = λ i within. m.queue i (omega (arith, l.more)) ∙ l.queue i within;
}

IsInTree-later : (v w : Visits) (e : Ends) → IsLater v w → IsInTree v.forest e → IsInTree w.forest e
IsInTree-later v w e l t =
    let first : tree_of w.forest e.first ≡ tree_of v.forest e.first = l.trees e.first t.seen in
    let second : tree_of w.forest e.second ≡ tree_of v.forest e.second = l.trees e.second (subst (λ (n : ℕ). 0 < n) t.same t.seen) in
    record { seen = omega (arith, t.seen); same = first ∙ t.same ∙ sym second }

IsExplored-later : (g : Graph) (v w : Visits) (x : ℕ) → IsLater v w → IsExplored g v.forest x → IsExplored g w.forest x
IsExplored-later g v w x l explored = record { bonds = λ k e here at. IsInTree-later v w e l (explored.bonds k e here at) }

pub IsSettled-later : (g : Graph) (v w : Visits) (k : ℕ) → IsLater v w → IsSettled g v.forest k → IsSettled g w.forest k
IsSettled-later g v w k l settled = record { tree = λ e here. IsInTree-later v w e l (settled.tree e here) }

-- ---- a visit

pub AreVisits-visit : (g : Graph) (v : Visits) (head root x : ℕ) (found : Found) → AreVisits g v head root → IsSized v → x < 1000 → v.seen < 1000 → x ≤ g.atoms → head ≤ v.seen → 0 < root → found.tree ≡ root → tree_of v.forest x ≡ 0
    → (IsFirstFound x root found ⊎ IsNextFound g v x root found) → AreVisits g (with_visit v x found) head root
AreVisits-visit g v head root x found a s within room atoms in_front some tree unseen how =
    let f : Forest = v.forest in
    let w : Visits = with_visit v x found in
    let h : Forest = w.forest in
    let later : IsLater v w = IsLater-visit v x found unseen in
    let parent_here : parent_of h x ≡ found.parent = get_or-set_same f.parent x found.parent 0 (omega (arith, s.parent)) in
    let above_here : above_of h x ≡ found.above = get_or-set_same f.above x found.above 0 (omega (arith, s.above)) in
    let depth_here : depth_of h x ≡ found.depth = get_or-set_same f.depth x found.depth 0 (omega (arith, s.depth)) in
    let tree_here : tree_of h x ≡ root = get_or-set_same f.tree x found.tree 0 (omega (arith, s.tree)) ∙ tree in
    let queue_here : get_or w.queue v.seen 0 ≡ x = get_or-set_same v.queue v.seen x 0 (omega (arith, s.queue)) in
    let same_at : (y : ℕ) → y ≢ x → IsSameAt f h y = λ y other. IsSameAt-other f x y found other in
    let seen_is_other : (y : ℕ) → 0 < tree_of f y → y ≢ x = λ y seen same. (let e : tree_of f y ≡ tree_of f x = ap (tree_of f) same in omega arith) in
    record {
      trees = record {
        steps = λ y has. elim (cases_eq y x) [
          | inl same ↦
              let has_x : 0 < above_of h x = subst (λ (z : ℕ). 0 < above_of h z) same has in
              let step : IsStep g h x = elim how [
                | inl first ↦ absurd (omega (arith, above_here, first.above))
                | inr next ↦
                    let p : ℕ = found.parent in
                    let seen_p : 0 < tree_of f p = omega (arith, next.parent) in
                    let p_same : IsSameAt f h p = same_at p (seen_is_other p seen_p) in
                    let deep : depth_of h (parent_of h x) ≡ depth_of f p = ap (depth_of h) parent_here ∙ p_same.depth in
                    record {
                      joined = subst (λ (b : ℕ). JoinsAt g (b - 1) x (parent_of h x)) (sym above_here) (subst (λ (z : ℕ). JoinsAt g (found.above - 1) x z) (sym parent_here) next.joined);
                      lower = omega (arith, deep, depth_here, next.depth);
                      tree = ap (tree_of h) parent_here ∙ p_same.tree ∙ next.parent ∙ sym tree_here;
                      seen = omega (arith, tree_here);
                    }
              ] in
              subst (λ (z : ℕ). IsStep g h z) (sym same) step
          | inr other ↦
              let here : IsSameAt f h y = same_at y other in
              let step : IsStep g f y = a.trees.steps y (omega (arith, here.above)) in
              let seen_p : 0 < tree_of f (parent_of f y) = omega (arith, step.tree, step.seen) in
              IsStep-same g f h y step here (same_at (parent_of f y) (seen_is_other (parent_of f y) seen_p))
        ];
        roots = λ y seen root_y. elim (cases_eq y x) [
          | inl same ↦ elim how [
            | inl first ↦ subst (λ (z : ℕ). IsRoot h z) (sym same) (record { tree = tree_here ∙ sym first.place; depth = depth_here ∙ first.depth })
            | inr next ↦ absurd (let e : above_of h y ≡ above_of h x = ap (above_of h) same in omega (arith, above_here, next.above))
          ]
          | inr other ↦
              let here : IsSameAt f h y = same_at y other in
              let was : IsRoot f y = a.trees.roots y (omega (arith, here.tree)) (sym here.above ∙ root_y) in
              record { tree = here.tree ∙ was.tree; depth = here.depth ∙ was.depth }
        ];
      };
      few = omega arith;
      counted = count_seen-set f.tree x found.tree (omega (arith, s.tree)) unseen (omega (arith, tree)) ∙ ap (λ (n : ℕ). n + 1) a.counted;
      shallow = λ y. elim (cases_eq y x) [
        | inl same ↦
            let e : depth_of h y ≡ found.depth = ap (depth_of h) same ∙ depth_here in
            elim how [
              | inl first ↦ omega (arith, e, first.depth)
              | inr next ↦ omega (arith, e, next.depth, a.shallow found.parent)
            ]
        | inr other ↦ let e : depth_of h y ≡ depth_of f y = (same_at y other).depth in omega (arith, a.shallow y)
      ];
      unseen = λ y none. elim (cases_eq y x) [
        | inl same ↦ absurd (let e : tree_of h y ≡ root = ap (tree_of h) same ∙ tree_here in omega arith)
        | inr other ↦ (same_at y other).depth ∙ a.unseen y (sym (same_at y other).tree ∙ none)
      ];
      queued = λ i lt. elim (cases_eq i v.seen) [
        | inl last ↦
            let e : get_or w.queue i 0 ≡ x = ap (λ (n : ℕ). get_or w.queue n 0) last ∙ queue_here in
            subst (λ (z : ℕ). IsQueued g h z) (sym e) (record { seen = omega (arith, tree_here); within = atoms })
        | inr earlier ↦
            let old : i < v.seen = omega arith in
            let was : IsQueued g f (get_or v.queue i 0) = a.queued i old in
            subst (λ (z : ℕ). IsQueued g h z) (sym (later.queue i old)) (record { seen = omega (arith, later.trees (get_or v.queue i 0) was.seen, was.seen); within = was.within })
      ];
      stands = λ y seen. elim (cases_eq y x) [
        | inl same ↦ record { index = v.seen; within = omega arith; is = queue_here ∙ sym same }
        | inr other ↦
            let was : StandsAt v y = a.stands y (omega (arith, (same_at y other).tree)) in
            record { index = was.index; within = omega (arith, was.within); is = later.queue was.index was.within ∙ was.is }
      ];
      explored = λ i lt.
          let old : i < v.seen = omega arith in
          subst (λ (z : ℕ). IsExplored g h z) (sym (later.queue i old)) (IsExplored-later g v w (get_or v.queue i 0) later (a.explored i lt));
      fresh = λ i le lt. elim (cases_eq i v.seen) [
        | inl last ↦ ap (λ (n : ℕ). tree_of h (get_or w.queue n 0)) last ∙ ap (tree_of h) queue_here ∙ tree_here
        | inr earlier ↦
            let old : i < v.seen = omega arith in
            ap (tree_of h) (later.queue i old) ∙ later.trees (get_or v.queue i 0) (a.queued i old).seen ∙ a.fresh i le old
      ];
    }

-- ---- the bonds of a place

-- the bond of an end at the place
pub HasEndAt-link : (g : Graph) (x link : ℕ) (P : ℕ → Type 0) → Walked g.bonds x link P → 0 < link → HasEndAt g ((link - 1) / 2) x
unfolding place_of_end
HasEndAt-link g x link P w some =
    let h : ℕ = link - 1 in
    let e : Ends = get_or g.bonds (h / 2) no_ends in
    let at : place_of_end g.bonds h ≡ x = w.here some in
    record {
      ends = e;
      here = slice_get-get_or g.bonds (h / 2) no_ends (omega (arith, w.within));
      at = elim (cases_eq (h % 2) 0) [
        | inl even ↦ inl (sym (cond-true (eqb (h % 2) 0) e.first e.second (eq-eqb (h % 2) 0 even)) ∙ at)
        | inr odd ↦ inr (sym (cond-false (eqb (h % 2) 0) e.first e.second (ne_eqb (h % 2) 0 odd)) ∙ at)
      ];
    }

pub straight : (e : Ends) → joins e e.first e.second ≡ true
straight e = or_left _ _ (and_from _ _ (eq-eqb e.first e.first refl) (eq-eqb e.second e.second refl))

crossed : (e : Ends) → joins e e.second e.first ≡ true
crossed e = or_right _ _ (and_from _ _ (eq-eqb e.first e.first refl) (eq-eqb e.second e.second refl))

-- the bond joins the place and its other end
pub JoinsAt-other : (g : Graph) (k x next : ℕ) (e : Ends) → HasEndAt g k x → slice_get g.bonds k ≡ Some e → (e.first ≡ x → next ≡ e.second) → (e.first ≢ x → next ≡ e.first) → JoinsAt g k x next
JoinsAt-other g k x next e end here first second =
    let same : end.ends ≡ e = cc (end.here, here) in
    elim (cases_eq e.first x) [
      | inl is ↦ subst (λ (y : ℕ). JoinsAt g k y next) is (subst (λ (y : ℕ). JoinsAt g k e.first y) (sym (first is)) (record { ends = e; here = here; joined = straight e }))
      | inr other ↦
          let is : e.second ≡ x = elim end.at [
            | inl wrong ↦ absurd (other (ap (λ (d : Ends). d.first) (sym same) ∙ wrong))
            | inr at ↦ ap (λ (d : Ends). d.second) (sym same) ∙ at
          ] in
          subst (λ (y : ℕ). JoinsAt g k y next) is (subst (λ (y : ℕ). JoinsAt g k e.second y) (sym (second other)) (record { ends = e; here = here; joined = crossed e }))
    ]

-- both ends are in the tree of the root, or the other one has been explored
pub IsSettled-of : (g : Graph) (v : Visits) (head root k x next : ℕ) → AreVisits g v head root → JoinsAt g k x next → 0 < root → tree_of v.forest x ≡ root → 0 < tree_of v.forest next → IsSettled g v.forest k
IsSettled-of g v head root k x next a joined some tree seen =
    let f : Forest = v.forest in
    let e : Ends = joined.ends in
    let place : StandsAt v next = a.stands next seen in
    let both : IsInTree f e = elim (cases_lt place.index head) [
      | inl before ↦
          let explored : IsExplored g f next = subst (λ (z : ℕ). IsExplored g f z) place.is (a.explored place.index before) in
          elim (joins-ends e x next joined.joined) [
            | inl d ↦ explored.bonds k e joined.here (inr d.1)
            | inr d ↦ explored.bonds k e joined.here (inl d.0)
          ]
      | inr after ↦
          let other : tree_of f next ≡ root = ap (tree_of f) (sym place.is) ∙ a.fresh place.index after place.within in
          elim (joins-ends e x next joined.joined) [
            | inl d ↦
                let first : tree_of f e.first ≡ root = ap (tree_of f) d.0 ∙ tree in
                record { seen = omega arith; same = first ∙ sym (ap (tree_of f) d.1 ∙ other) }
            | inr d ↦
                let first : tree_of f e.first ≡ root = ap (tree_of f) d.0 ∙ other in
                record { seen = omega arith; same = first ∙ sym (ap (tree_of f) d.1 ∙ tree) }
          ]
    ] in
    record { tree = λ d here. (let same : e ≡ d = cc (joined.here, here) in subst (λ (b : Ends). IsInTree f b) same both) }

-- the chain of the place at `head` is walked to its end
pub AreVisits-explored : (g : Graph) (v : Visits) (head root x link : ℕ) → AreVisits g v head root → x ≡ get_or v.queue head 0 → Walked g.bonds x link (IsSettled g v.forest) → link ≡ 0 → AreVisits g v (head + 1) root
AreVisits-explored g v head root x link a is w end =
    let here : IsExplored g v.forest x = record {
      bonds = λ k e there at.
          let same : get_or g.bonds k no_ends ≡ e = get_or_from_slice_get g.bonds k e no_ends there in
          let ends : ((get_or g.bonds k no_ends).first ≡ x) ⊎ ((get_or g.bonds k no_ends).second ≡ x) = subst (λ (d : Ends). (d.first ≡ x) ⊎ (d.second ≡ x)) (sym same) at in
          let settled : IsSettled g v.forest k = Walked-all g.bonds x link k no_ends (IsSettled g v.forest) w end (slice_get_within g.bonds k e there) ends in
          settled.tree e there;
    } in
    record {
      trees = a.trees;
      few = a.few;
      counted = a.counted;
      shallow = a.shallow;
      unseen = a.unseen;
      queued = a.queued;
      stands = a.stands;
      explored = λ i lt. elim (cases_eq i head) [
        | inl last ↦ subst (λ (n : ℕ). IsExplored g v.forest (get_or v.queue n 0)) (sym last) (subst (λ (z : ℕ). IsExplored g v.forest z) is here)
        | inr earlier ↦ a.explored i (omega arith)
      ];
      fresh = λ i le lt. a.fresh i (omega arith) lt;
    }

-- ---- from one root to the next

-- where all is explored, any root may be the next
pub AreVisits-next : (g : Graph) (v : Visits) (head root next : ℕ) → AreVisits g v head root → v.seen ≤ head → AreVisits g v v.seen next
AreVisits-next g v head root next a all = record {
  trees = a.trees;
  few = a.few;
  counted = a.counted;
  shallow = a.shallow;
  unseen = a.unseen;
  queued = a.queued;
  stands = a.stands;
  explored = λ i lt. a.explored i (omega arith);
  fresh = λ i le lt. absurd (omega arith);
}

pub AreVisits-none : (g : Graph) (v : Visits) → AreBlankVisits v → AreDoneVisits g v
AreVisits-none g v blank = record {
  trees = record {
    steps = λ x has. absurd (omega (arith, (blank.places x).above));
    roots = λ x seen root. absurd (omega (arith, (blank.places x).tree));
  };
  few = omega (arith, blank.seen);
  counted = count_seen-none v.forest.tree (λ x. (blank.places x).tree) ∙ sym blank.seen;
  shallow = λ x. omega (arith, (blank.places x).depth);
  unseen = λ x none. (blank.places x).depth;
  queued = λ i lt. absurd (omega (arith, blank.seen));
  stands = λ x seen. absurd (omega (arith, (blank.places x).tree));
  explored = λ i lt. absurd (omega (arith, blank.seen));
  fresh = λ i le lt. absurd (omega (arith, blank.seen));
}

-- the search has not been past the places of the graph
pub IsUnseen-past : (g : Graph) (v : Visits) (x : ℕ) → AreDoneVisits g v → g.atoms < x → IsUnseen v.forest x
IsUnseen-past g v x a past =
    let none : tree_of v.forest x ≡ 0 = elim (cases_eq (tree_of v.forest x) 0) [
      | inl is ↦ is
      | inr some ↦
          let place : StandsAt v x = a.stands x (omega arith) in
          let queued : IsQueued g v.forest x = subst (λ (z : ℕ). IsQueued g v.forest z) place.is (a.queued place.index place.within) in
          absurd (omega (arith, queued.within))
    ] in
    record {
      above = elim (cases_eq (above_of v.forest x) 0) [
        | inl is ↦ is
        | inr some ↦ absurd (omega (arith, (a.trees.steps x (omega arith)).seen))
      ];
      depth = a.unseen x none;
      tree = none;
    }

-- forgetting one place
pub IsUnseen-cleared : (f : Forest) (x y : ℕ) → (y ≢ x → IsUnseen f y) → IsUnseen (record f { above = set f.above x 0; depth = set f.depth x 0; tree = set f.tree x 0 }) y
IsUnseen-cleared f x y other = record {
  above = get_or-cleared f.above x y 0 (λ is. (other is).above);
  depth = get_or-cleared f.depth x y 0 (λ is. (other is).depth);
  tree = get_or-cleared f.tree x y 0 (λ is. (other is).tree);
}

pub IsForest-of : (g : Graph) (v : Visits) → IsGraph g → AreDoneVisits g v → ((x : ℕ) → 1 ≤ x → x ≤ g.atoms → 0 < tree_of v.forest x) → IsForest g v.forest
IsForest-of g v graph a seen = record {
  trees = a.trees;
  spans = λ k e here.
      let within : k < length g.bonds = slice_get_within g.bonds k e here in
      let ends : AreEnds g.atoms e = subst (λ (d : Ends). AreEnds g.atoms d) (get_or_from_slice_get g.bonds k e no_ends here) (graph.each_bond k no_ends within) in
      let place : StandsAt v e.first = a.stands e.first (seen e.first ends.first.0 ends.first.1) in
      let explored : IsExplored g v.forest e.first = subst (λ (z : ℕ). IsExplored g v.forest z) place.is (a.explored place.index place.within) in
      explored.bonds k e here (inl refl);
}

-- ---- what the functions of the search need

pub JoinsAt-within : (g : Graph) (k x y : ℕ) → IsGraph g → JoinsAt g k x y → (1 ≤ y) × (y ≤ 999) × (y ≤ g.atoms)
JoinsAt-within g k x y graph j =
    let within : k < length g.bonds = slice_get_within g.bonds k j.ends j.here in
    let ends : AreEnds g.atoms j.ends = subst (λ (d : Ends). AreEnds g.atoms d) (get_or_from_slice_get g.bonds k j.ends no_ends j.here) (graph.each_bond k no_ends within) in
    elim (joins-ends j.ends x y j.joined) [
      | inl d ↦ (omega (arith, d.1, ends.second.0), omega (arith, d.1, ends.second.1, graph.atoms), omega (arith, d.1, ends.second.1))
      | inr d ↦ (omega (arith, d.0, ends.first.0), omega (arith, d.0, ends.first.1, graph.atoms), omega (arith, d.0, ends.first.1))
    ]

-- a bond as the code reads it
pub bond-read : (g : Graph) (bonds : List Ends) (k : ℕ) → bonds ≡ g.bonds → k < length g.bonds → slice_get g.bonds k ≡ Some (get_or bonds k no_ends)
bond-read g bonds k same within = slice_get-get_or g.bonds k no_ends within ∙ ap (λ (bs : List Ends). Some (get_or bs k no_ends)) (sym same)

pub JoinsAt-next : (g : Graph) (bonds : List Ends) (k x next : ℕ) → bonds ≡ g.bonds → HasEndAt g k x → ((get_or bonds k no_ends).first ≡ x → next ≡ (get_or bonds k no_ends).second) → ((get_or bonds k no_ends).first ≢ x → next ≡ (get_or bonds k no_ends).first)
    → JoinsAt g k x next
JoinsAt-next g bonds k x next same end first second =
    let here : slice_get g.bonds k ≡ Some (get_or bonds k no_ends) = bond-read g bonds k same (slice_get_within g.bonds k end.ends end.here) in
    JoinsAt-other g k x next (get_or bonds k no_ends) end here first second

pub tree-at_head : (g : Graph) (v : Visits) (head root : ℕ) → AreVisits g v head root → head < v.seen → tree_of v.forest (get_or v.queue head 0) ≡ root
tree-at_head g v head root a within = a.fresh head (omega arith) within

pub visited : (g : Graph) (v w : Visits) (head root k next : ℕ) → IsGraph g → AreVisits g v head root → IsSized v → head < v.seen → 0 < root → JoinsAt g k (get_or v.queue head 0) next → tree_of v.forest next ≡ 0
    → w ≡ with_visit v next (record { parent = get_or v.queue head 0; above = k + 1; depth = depth_of v.forest (get_or v.queue head 0) + 1; tree = root }) → AreVisits g w head root × IsSettled g w.forest k
visited g v w head root k next graph a s within some joined unseen is =
    let place : ℕ = get_or v.queue head 0 in
    let found : Found = record { parent = place; above = k + 1; depth = depth_of v.forest place + 1; tree = root } in
    let x : Visits = with_visit v next found in
    let low = JoinsAt-within g k place next graph joined in
    let less : next < 1000 = omega (arith, low.1) in
    let k_same : k ≡ k + 1 - 1 = omega arith in
    let how : IsNextFound g v next root found = record {
      above = omega arith;
      joined = subst (λ (n : ℕ). JoinsAt g n next place) k_same (JoinsAt-sym g k place next joined);
      parent = tree-at_head g v head root a within;
      depth = refl;
    } in
    let after : AreVisits g x head root = AreVisits-visit g v head root next found a s less (AreVisits-room g v head root next a s less unseen) low.2 (omega arith) some refl unseen (inr how) in
    let later : IsLater v x = IsLater-visit v next found unseen in
    let place_tree : tree_of x.forest place ≡ root = later.trees place (omega (arith, tree-at_head g v head root a within)) ∙ tree-at_head g v head root a within in
    let next_tree : tree_of x.forest next ≡ root = get_or-set_same v.forest.tree next root 0 (omega (arith, s.tree)) in
    let settled : IsSettled g x.forest k = IsSettled-of g x head root k place next after joined some place_tree (omega (arith, next_tree)) in
    subst (λ (z : Visits). AreVisits g z head root × IsSettled g z.forest k) (sym is) (after, settled)

pub started : (g : Graph) (v w : Visits) (root : ℕ) → IsGraph g → AreDoneVisits g v → IsSized v → 0 < root → root ≤ g.atoms → tree_of v.forest root ≡ 0 → w ≡ with_visit v root (record { parent = 0; above = 0; depth = 0; tree = root })
    → AreVisits g w v.seen root × IsLater v w × (0 < tree_of w.forest root)
started g v w root graph a s some within unseen is =
    let found : Found = record { parent = 0; above = 0; depth = 0; tree = root } in
    let x : Visits = with_visit v root found in
    let less : root < 1000 = omega (arith, graph.atoms) in
    let b : AreVisits g v v.seen root = AreVisits-next g v v.seen 0 root a (omega arith) in
    let after : AreVisits g x v.seen root = AreVisits-visit g v v.seen root root found b s less (AreVisits-room g v v.seen root root b s less unseen) within (omega arith) some refl unseen (inl (record { place = refl; above = refl; depth = refl })) in
    let here : tree_of x.forest root ≡ root = get_or-set_same v.forest.tree root root 0 (omega (arith, s.tree)) in
    let seen : 0 < tree_of x.forest root = omega (arith, here) in
    subst (λ (z : Visits). AreVisits g z v.seen root × IsLater v z × (0 < tree_of z.forest root)) (sym is) (after, IsLater-visit v root found unseen, seen)

pub Walked-later : (g : Graph) (v w : Visits) (x link : ℕ) → IsLater v w → Walked g.bonds x link (IsSettled g v.forest) → Walked g.bonds x link (IsSettled g w.forest)
Walked-later g v w x link later walked = record {
  within = walked.within;
  here = walked.here;
  known = λ h le lt at. IsSettled-later g v w (h / 2) later (walked.known h le lt at);
}

pub HasEndAt-within : (g : Graph) (k x : ℕ) → HasEndAt g k x → k < length g.bonds
HasEndAt-within g k x end = slice_get_within g.bonds k end.ends end.here

-- a bond of the forest is above one of its ends
pub IsTreeBond-end : (g : Graph) (f : Forest) (k : ℕ) (e : Ends) → AreTrees g f → slice_get g.bonds k ≡ Some e → IsTreeBond f k → (above_of f e.first ≡ k + 1) ⊎ (above_of f e.second ≡ k + 1)
IsTreeBond-end g f k e t here tree =
    let x : ℕ = tree.place in
    let is : above_of f x ≡ k + 1 = tree.is in
    let s : IsStep g f x = t.steps x (omega arith) in
    let bond : above_of f x - 1 ≡ k = omega arith in
    let same : s.joined.ends ≡ e = cc (s.joined.here, here, bond) in
    elim (joins-ends s.joined.ends x (parent_of f x) s.joined.joined) [
      | inl d ↦ inl (ap (above_of f) (let first : e.first ≡ x = cc in first) ∙ is)
      | inr d ↦ inr (ap (above_of f) (let second : e.second ≡ x = cc in second) ∙ is)
    ]
