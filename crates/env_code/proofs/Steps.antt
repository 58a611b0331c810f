-- The steps of a walk.
use Rattle.std.proofs.Common.{◌≡◌, ◌≢◌, ◌⊎◌, ℕ, ◌+◌, ◌-◌, ◌*◌, ◌/◌, ◌%◌, ◌<◌, ◌≤◌, Bool, true, false, ◌&&◌, eqb, min, List, [], ◌∷◌, length, get_or, set, refl, sym, ap, subst, ◌∙◌, inl, inr, arith}
use Rattle.std.proofs.lemmas.Bool.{cases_eq, cases_lt, cases_Bool, cond-true, cond-false, eq-eqb, eqb-true, and_from, and_parts, and_left, and_right, or_left, or_right, or_cases, false_from_ne_true, both_ways}
use Rattle.std.proofs.lemmas.List.Folds.{list_any_at}
use Rattle.std.proofs.lemmas.List.{length-set, get_or-set_same, get_or-set_other}
use Rattle.htss_defs.specs.declared.graph.Ends.{Ends}
use Rattle.htss_defs.specs.Graph.{Graph, AreEnds, joins}
use Rattle.htss_defs.specs.Adjacency.{IsGraph, IsLastLink, no_ends, place_of_end}
use Rattle.htss_defs.specs.Distances.{are_bonded, is_within, count_within}
use Rattle.std.specs.Int.{from_le_bytes, w64}
use Rattle.htss_defs.proofs.Chains.{Walked, Walked-start, Walked-more, Walked-all, joins-at}
use Rattle.env_code.specs.declared.walk.Walk.{Walk}
use Rattle.env_code.specs.Near.{is_in, near_word}
use Rattle.env_code.specs.Walks.{seen_at, IsSized, IsEmptyWalk, IsVisit, IsReach, StandsAt, IsQueued, IsWalk, IsLater, IsReached, IsExplored, IsSpread, IsLevel}
use Rattle.env_code.proofs.Counts.{list_any-at, one, count, count-congr, count-mark, count-le, count-none}
use Rattle.env_code.proofs.Within.{within-none, within-itself, within-more, within-step, within-cases}
use Rattle.env_code.proofs.Words.{word_of-bytes}

-- ---- later in a walk

pub IsLater-itself : (v : Walk) → IsLater v v
IsLater-itself v = record { more = omega arith; seen = λ y s. s; queue = λ j less. refl }

pub IsLater-trans : (u v w : Walk) → IsLater u v → IsLater v w → IsLater u w
IsLater-trans u v w a b = record {
  more = omega (arith, a.more, b.more);
  seen = λ y s. b.seen y (a.seen y s);
  queue = λ j less. b.queue j (omega (arith, a.more)) ∙ a.queue j less;
}

-- ---- one more place is seen

seen-same : (v w : Walk) (x : ℕ) → length v.seen ≡ 1000 → x < 1000 → w.seen ≡ set v.seen x true → seen_at w x ≡ true
unfolding seen_at
seen-same v w x size within is = ap (λ (bs : List Bool). get_or bs x false) is ∙ get_or-set_same v.seen x true false (omega arith)

seen-other : (v w : Walk) (x y : ℕ) → w.seen ≡ set v.seen x true → y ≢ x → seen_at w y ≡ seen_at v y
unfolding seen_at
seen-other v w x y is other = ap (λ (bs : List Bool). get_or bs y false) is ∙ get_or-set_other v.seen x y true false other

pub IsWalk-few : (g : Graph) (lanes : List (List Bool)) (w : Walk) → IsWalk g lanes w → w.found ≤ g.atoms
IsWalk-few g lanes w walk = omega (arith, walk.number, count-le (seen_at w) 1 g.atoms)

IsReached-visit : (lanes : List (List Bool)) (x : ℕ) (v w : Walk) → IsSized v → x < 1000 → v.found < 1000 → seen_at v x ≡ false → IsVisit lanes x v w → IsReached x v w
IsReached-visit lanes x v w size within few unseen visit = record {
  later = record {
    more = omega (arith, visit.found);
    seen = λ y seen. seen-other v w x y visit.seen (λ is. both_ways (seen_at v x) unseen (ap (seen_at v) (sym is) ∙ seen)) ∙ seen;
    queue = λ j less. ap (λ (ys : List ℕ). get_or ys j 0) visit.queue ∙ get_or-set_other v.queue v.found j x 0 (λ is. omega arith);
  };
  seen = seen-same v w x size.seen within visit.seen;
  only = λ y seen. elim (cases_eq y x) [ inl is ↦ inr is | inr other ↦ inl (sym (seen-other v w x y visit.seen other) ∙ seen) ];
}

-- the counts of a lane with one more place
lane-visit : (g : Graph) (lanes : List (List Bool)) (x : ℕ) (v w : Walk) (i now : ℕ) → 1 ≤ x → x ≤ g.atoms → seen_at v x ≡ false → seen_at w x ≡ true → ((y : ℕ) → y ≢ x → seen_at w y ≡ seen_at v y)
    → now ≡ min (min (count (λ y. seen_at v y && is_in lanes i y) 1 g.atoms) 255 + one (is_in lanes i x)) 255
    → now ≡ min (count (λ y. seen_at w y && is_in lanes i y) 1 g.atoms) 255
lane-visit g lanes x v w i now low high before after others is =
    let p : ℕ → Bool = λ y. seen_at v y && is_in lanes i y in
    let q : ℕ → Bool = λ y. seen_at w y && is_in lanes i y in
    let not_p : p x ≡ false = and_left (seen_at v x) (is_in lanes i x) before in
    let same : (y : ℕ) → y ≢ x → q y ≡ p y = λ y other. ap (λ b. b && is_in lanes i y) (others y other) in
    elim (cases_Bool (is_in lanes i x)) [
      | inl passed ↦
          let more : count q 1 g.atoms ≡ count p 1 g.atoms + 1 = count-mark p q 1 g.atoms x low (omega arith) not_p (and_from (seen_at w x) (is_in lanes i x) after passed) same in
          let here : one (is_in lanes i x) ≡ 1 = ap one passed in
          omega (arith, is, more, here)
      | inr failed ↦
          let not_q : q x ≡ false = and_right (seen_at w x) (is_in lanes i x) failed in
          let all : (y : ℕ) → 1 ≤ y → y < 1 + g.atoms → q y ≡ p y = λ y le lt. elim (cases_eq y x) [
            | inl at ↦ ap q at ∙ not_q ∙ sym (ap p at ∙ not_p)
            | inr other ↦ same y other
          ] in
          let kept : count q 1 g.atoms ≡ count p 1 g.atoms = count-congr q p 1 g.atoms all in
          let here : one (is_in lanes i x) ≡ 0 = ap one failed in
          omega (arith, is, kept, here)
    ]

pub IsWalk-visit : (g : Graph) (lanes : List (List Bool)) (x : ℕ) (v w : Walk) → g.atoms ≤ 999 → IsWalk g lanes v → 1 ≤ x → x ≤ g.atoms → seen_at v x ≡ false → IsVisit lanes x v w → IsWalk g lanes w × IsReached x v w
IsWalk-visit g lanes x v w small walk low high unseen visit =
    let size : IsSized v = walk.sized in
    let room : v.found < 1000 = omega (arith, IsWalk-few g lanes v walk) in
    let r : IsReached x v w = IsReached-visit lanes x v w size (omega arith) room unseen visit in
    let others : (y : ℕ) → y ≢ x → seen_at w y ≡ seen_at v y = λ y other. seen-other v w x y visit.seen other in
    let here : get_or w.queue v.found 0 ≡ x = ap (λ (ys : List ℕ). get_or ys v.found 0) visit.queue ∙ get_or-set_same v.queue v.found x 0 (omega (arith, size.queue)) in (
      record {
        sized = record {
          seen = ap (λ (bs : List Bool). length bs) visit.seen ∙ length-set v.seen x true ∙ size.seen;
          queue = ap (λ (ys : List ℕ). length ys) visit.queue ∙ length-set v.queue v.found x ∙ size.queue;
        };
        number = omega (arith, count-mark (seen_at v) (seen_at w) 1 g.atoms x low (omega arith) unseen r.seen others, walk.number, visit.found);
        counts = λ i lt. lane-visit g lanes x v w i (get_or w.counts i 0) low high unseen r.seen others
            (visit.counts i lt ∙ ap (λ n. min (n + one (is_in lanes i x)) 255) (walk.counts i lt));
        queued = λ j lt. elim (cases_eq j v.found) [
          | inl last ↦
              let is : get_or w.queue j 0 ≡ x = ap (λ n. get_or w.queue n 0) last ∙ here in
              subst (λ (y : ℕ). IsQueued g w y) (sym is) (record { place = (low, high); seen = r.seen })
          | inr earlier ↦
              let less : j < v.found = omega (arith, visit.found) in
              let was : IsQueued g v (get_or v.queue j 0) = walk.queued j less in
              subst (λ (y : ℕ). IsQueued g w y) (sym (r.later.queue j less)) (record { place = was.place; seen = r.later.seen (get_or v.queue j 0) was.seen })
        ];
        stands = λ y one_up all seen. elim (r.only y seen) [
          | inl before ↦
              let was : StandsAt v y = walk.stands y one_up all before in
              record { index = was.index; within = omega (arith, was.within, visit.found); is = r.later.queue was.index was.within ∙ was.is }
          | inr last ↦ record { index = v.found; within = omega (arith, visit.found); is = here ∙ sym last }
        ];
      },
      r,
    )

pub IsWalk-reach : (g : Graph) (lanes : List (List Bool)) (x : ℕ) (v w : Walk) → g.atoms ≤ 999 → IsWalk g lanes v → 1 ≤ x → x ≤ g.atoms → IsReach lanes x v w → IsWalk g lanes w × IsReached x v w
IsWalk-reach g lanes x v w small walk low high reach = elim (cases_Bool (seen_at v x)) [
  | inr unseen ↦ IsWalk-visit g lanes x v w small walk low high unseen (reach.unseen unseen)
  | inl seen ↦
      let again : IsReached x v v = record {
        later = IsLater-itself v;
        seen = seen;
        only = λ y s. inl s;
      } in
      subst (λ (u : Walk). IsWalk g lanes u × IsReached x v u) (sym (reach.seen seen)) (walk, again)
]

-- tests that hold together
bools : (a b : Bool) → (a ≡ true → b ≡ true) → (b ≡ true → a ≡ true) → a ≡ b
bools true b to from = sym (to refl)
bools false b to from = elim (cases_Bool b) [ inl t ↦ from t ∙ sym t | inr f ↦ sym f ]

-- ---- the start

pub IsWalk-empty : (g : Graph) (lanes : List (List Bool)) (w : Walk) → IsEmptyWalk w → IsWalk g lanes w
IsWalk-empty g lanes w empty =
    record {
      sized = empty.sized;
      number = count-none (seen_at w) 1 g.atoms empty.seen ∙ sym empty.found;
      counts = λ i lt.
          let zero_all : count (λ y. seen_at w y && is_in lanes i y) 1 g.atoms ≡ 0 = count-none (λ y. seen_at w y && is_in lanes i y) 1 g.atoms (λ y. and_left (seen_at w y) (is_in lanes i y) (empty.seen y)) in
          omega (arith, empty.counts i, zero_all);
      queued = λ j lt. absurd (omega (arith, empty.found));
      stands = λ y low high seen. absurd (both_ways (seen_at w y) (empty.seen y) seen);
    }

pub IsLevel-start : (g : Graph) (x : ℕ) (v w : Walk) → IsEmptyWalk v → IsReached x v w → IsLevel g w x 0 0
IsLevel-start g x v w empty r = record {
  seen = λ y low high. elim (cases_eq y x) [
    | inl is ↦ ap (seen_at w) is ∙ r.seen ∙ sym (within-itself g 0 x) ∙ ap (is_within g 0 x) (sym is)
    | inr other ↦
        let not_seen : seen_at w y ≡ false = false_from_ne_true (seen_at w y) (λ seen. elim (r.only y seen) [
          | inl before ↦ both_ways (seen_at v y) (empty.seen y) before
          | inr is ↦ other is
        ]) in
        let far : is_within g 0 x y ≡ false = false_from_ne_true (is_within g 0 x y) (λ near. other (sym (within-none g x y near))) in
        not_seen ∙ sym far
  ];
  explored = λ j less. absurd (omega arith);
}

-- ---- a place is explored

-- the neighbours by bond k are seen
abbrev pub IsPassed : Graph → Walk → ℕ → ℕ → Type 0
IsPassed g w x k = (y : ℕ) → joins (get_or g.bonds k no_ends) x y ≡ true → seen_at w y ≡ true

IsExplored-walked : (g : Graph) (w : Walk) (x link : ℕ) → Walked g.bonds x link (IsPassed g w x) → link ≡ 0 → IsExplored g w x
IsExplored-walked g w x link walked end = record {
  neighbours = λ y bonded.
      let at = list_any-at (λ e. joins e x y) g.bonds no_ends bonded in
      Walked-all g.bonds x link at.0 no_ends (IsPassed g w x) walked end at.1 (joins-at (get_or g.bonds at.0 no_ends) x y at.2) y at.2;
}

-- the link of a chain names an end at its place
end-at : (bonds : List Ends) (x link : ℕ) (P : ℕ → Type 0) → Walked bonds x link P → 0 < link
    → ((get_or bonds ((link - 1) / 2) no_ends).first ≡ x) ⊎ ((get_or bonds ((link - 1) / 2) no_ends).second ≡ x)
unfolding place_of_end
end-at bonds x link P w some = elim (cases_Bool (eqb ((link - 1) % 2) 0)) [
  | inl even ↦ inl (sym (cond-true (eqb ((link - 1) % 2) 0) (get_or bonds ((link - 1) / 2) no_ends).first (get_or bonds ((link - 1) / 2) no_ends).second even) ∙ w.here some)
  | inr odd ↦ inr (sym (cond-false (eqb ((link - 1) % 2) 0) (get_or bonds ((link - 1) / 2) no_ends).first (get_or bonds ((link - 1) / 2) no_ends).second odd) ∙ w.here some)
]

-- next is the other end of a bond at x
pub record IsOtherEnd (e : Ends) (x next : ℕ) : Type 0 where
  pub first : e.first ≡ x → next ≡ e.second
  pub second : (e.first ≡ x → ⊥) → next ≡ e.first

-- as the code reads the bonds
pub IsOtherEnd-read : (bonds all : List Ends) (k x next : ℕ) → bonds ≡ all → ((get_or bonds k no_ends).first ≡ x → next ≡ (get_or bonds k no_ends).second) → (((get_or bonds k no_ends).first ≡ x → ⊥) → next ≡ (get_or bonds k no_ends).first) → IsOtherEnd (get_or all k no_ends) x next
IsOtherEnd-read bonds all k x next same first second =
    subst (λ (es : List Ends). IsOtherEnd (get_or es k no_ends) x next) same (record { first = first; second = second })

other-joined : (e : Ends) (x next : ℕ) → (e.first ≡ x) ⊎ (e.second ≡ x) → IsOtherEnd e x next → joins e x next ≡ true
other-joined e x next at o = elim (cases_eq e.first x) [
  | inl is ↦ or_left (eqb e.first x && eqb e.second next) (eqb e.first next && eqb e.second x) (and_from (eqb e.first x) (eqb e.second next) (eq-eqb e.first x is) (eq-eqb e.second next (sym (o.first is))))
  | inr other ↦
      let second : e.second ≡ x = elim at [ inl is ↦ absurd (other is) | inr is ↦ is ] in
      or_right (eqb e.first x && eqb e.second next) (eqb e.first next && eqb e.second x) (and_from (eqb e.first next) (eqb e.second x) (eq-eqb e.first next (sym (o.second other))) (eq-eqb e.second x second))
]

other-only : (e : Ends) (x next y : ℕ) → IsOtherEnd e x next → joins e x y ≡ true → y ≡ next
other-only e x next y o joined = elim (or_cases (eqb e.first x && eqb e.second y) (eqb e.first y && eqb e.second x) joined) [
  | inl straight ↦
      let p = and_parts (eqb e.first x) (eqb e.second y) straight in
      sym (eqb-true e.second y p.1) ∙ sym (o.first (eqb-true e.first x p.0))
  | inr crossed ↦
      let p = and_parts (eqb e.first y) (eqb e.second x) crossed in
      let first : e.first ≡ y = eqb-true e.first y p.0 in
      let second : e.second ≡ x = eqb-true e.second x p.1 in
      elim (cases_eq e.first x) [
        | inl is ↦ sym first ∙ is ∙ sym second ∙ sym (o.first is)
        | inr other ↦ sym first ∙ sym (o.second other)
      ]
]

-- the chain of x is walked as far as the link, and what it leads to is seen
pub record IsExploring (g : Graph) (lanes : List (List Bool)) (v w : Walk) (x link : ℕ) : Type 0 where
  pub walk : IsWalk g lanes w
  pub later : IsLater v w
  pub spread : IsSpread g x v w
  pub passed : Walked g.bonds x link (IsPassed g w x)

pub IsExploring-start : (g : Graph) (lanes : List (List Bool)) (v : Walk) (x link : ℕ) → IsWalk g lanes v → IsLastLink g.bonds x (2 * length g.bonds) link → IsExploring g lanes v v x link
IsExploring-start g lanes v x link walk l = record {
  walk = walk;
  later = IsLater-itself v;
  spread = record { only = λ y seen. inl seen };
  passed = Walked-start g.bonds x link (IsPassed g v x) l;
}

-- the bond of the link leads to next
pub next-joined : (g : Graph) (lanes : List (List Bool)) (v w : Walk) (x link next : ℕ) → IsExploring g lanes v w x link → 0 < link → IsOtherEnd (get_or g.bonds ((link - 1) / 2) no_ends) x next → joins (get_or g.bonds ((link - 1) / 2) no_ends) x next ≡ true
next-joined g lanes v w x link next e some o = other-joined (get_or g.bonds ((link - 1) / 2) no_ends) x next (end-at g.bonds x link (IsPassed g w x) e.passed some) o

joined-within : (g : Graph) (k x y : ℕ) → IsGraph g → k < length g.bonds → joins (get_or g.bonds k no_ends) x y ≡ true → (1 ≤ y) × (y ≤ g.atoms)
joined-within g k x y graph within joined =
    let e : Ends = get_or g.bonds k no_ends in
    let ends : AreEnds g.atoms e = graph.each_bond k no_ends within in
    elim (or_cases (eqb e.first x && eqb e.second y) (eqb e.first y && eqb e.second x) joined) [
      | inl straight ↦ (let is : e.second ≡ y = eqb-true e.second y (and_parts (eqb e.first x) (eqb e.second y) straight).1 in (omega (arith, ends.second.0), omega (arith, ends.second.1)))
      | inr crossed ↦ (let is : e.first ≡ y = eqb-true e.first y (and_parts (eqb e.first y) (eqb e.second x) crossed).0 in (omega (arith, ends.first.0), omega (arith, ends.first.1)))
    ]

pub next-within : (g : Graph) (lanes : List (List Bool)) (v w : Walk) (x link next : ℕ) → IsGraph g → IsExploring g lanes v w x link → 0 < link → IsOtherEnd (get_or g.bonds ((link - 1) / 2) no_ends) x next → (1 ≤ next) × (next ≤ g.atoms)
next-within g lanes v w x link next graph e some o =
    joined-within g ((link - 1) / 2) x next graph (omega (arith, e.passed.within)) (next-joined g lanes v w x link next e some o)

pub IsExploring-more : (g : Graph) (lanes : List (List Bool)) (v w u : Walk) (x link next before : ℕ) → IsGraph g → IsExploring g lanes v w x link → 0 < link → IsOtherEnd (get_or g.bonds ((link - 1) / 2) no_ends) x next
    → IsReach lanes next w u → IsLastLink g.bonds (place_of_end g.bonds (link - 1)) (link - 1) before → IsExploring g lanes v u x before
IsExploring-more g lanes v w u x link next before graph e some o reach l =
    let k : ℕ = (link - 1) / 2 in
    let joined : joins (get_or g.bonds k no_ends) x next ≡ true = next-joined g lanes v w x link next e some o in
    let in_g = next-within g lanes v w x link next graph e some o in
    let bonded : are_bonded g x next ≡ true = list_any_at (λ d. joins d x next) g.bonds k no_ends (omega (arith, e.passed.within)) joined in
    let after = IsWalk-reach g lanes next w u graph.atoms e.walk in_g.0 in_g.1 reach in
    let now : IsReached next w u = after.1 in
    record {
      walk = after.0;
      later = IsLater-trans v w u e.later now.later;
      spread = record {
        only = λ y seen. elim (now.only y seen) [
          | inl old ↦ e.spread.only y old
          | inr is ↦ inr (ap (are_bonded g x) is ∙ bonded)
        ];
      };
      passed = Walked-more g.bonds x link before (IsPassed g u x)
          (record { within = e.passed.within; here = e.passed.here; known = λ h le lt at y there. now.later.seen y (e.passed.known h le lt at y there) })
          some (λ y there. ap (seen_at u) (other-only (get_or g.bonds k no_ends) x next y o there) ∙ now.seen) l;
    }

pub IsExploring-end : (g : Graph) (lanes : List (List Bool)) (v w : Walk) (x link : ℕ) → IsExploring g lanes v w x link → link ≡ 0 → IsExplored g w x
IsExploring-end g lanes v w x link e end = IsExplored-walked g w x link e.passed end

-- ---- a level

-- y is a neighbour of one of the places from `head` on in the queue
pub record IsNextTo (g : Graph) (v : Walk) (head y : ℕ) : Type 0 where
  pub index : ℕ
  pub after : head ≤ index
  pub within : index < v.found
  pub bonded : are_bonded g (get_or v.queue index 0) y ≡ true

-- the neighbours of the places from `head` to `index` in the queue of v are seen, and no others are new
pub record IsWidened (g : Graph) (v w : Walk) (head index : ℕ) : Type 0 where
  pub explored : (j : ℕ) → head ≤ j → j < index → IsExplored g w (get_or v.queue j 0)
  pub only : (y : ℕ) → seen_at w y ≡ true → (seen_at v y ≡ true) ⊎ IsNextTo g v head y

pub IsWidened-start : (g : Graph) (v : Walk) (head : ℕ) → IsWidened g v v head head
IsWidened-start g v head = record { explored = λ j low less. absurd (omega arith); only = λ y seen. inl seen }

IsExplored-later : (g : Graph) (v w : Walk) (x : ℕ) → IsLater v w → IsExplored g v x → IsExplored g w x
IsExplored-later g v w x later e = record { neighbours = λ y bonded. later.seen y (e.neighbours y bonded) }

pub IsWidened-more : (g : Graph) (u v w : Walk) (head index : ℕ) → IsLater u v → IsWidened g u v head index → head ≤ index → index < u.found → IsLater v w
    → IsExplored g w (get_or v.queue index 0) → IsSpread g (get_or v.queue index 0) v w → IsWidened g u w head (index + 1)
IsWidened-more g u v w head index before wide low less later e s =
    let here : get_or v.queue index 0 ≡ get_or u.queue index 0 = before.queue index less in
    record {
      explored = λ j le lt. elim (cases_eq j index) [
        | inl last ↦ subst (λ (y : ℕ). IsExplored g w y) (here ∙ ap (λ n. get_or u.queue n 0) (sym last)) e
        | inr earlier ↦ IsExplored-later g v w (get_or u.queue j 0) later (wide.explored j le (omega arith))
      ];
      only = λ y seen. elim (s.only y seen) [
        | inl old ↦ wide.only y old
        | inr next ↦ inr (record { index = index; after = low; within = less; bonded = ap (λ z. are_bonded g z y) (sym here) ∙ next })
      ];
    }

pub IsLevel-more : (g : Graph) (lanes : List (List Bool)) (v w : Walk) (x k head : ℕ) → IsWalk g lanes v → IsLater v w → IsWidened g v w head v.found → IsLevel g v x k head → IsLevel g w x (k + 1) v.found
IsLevel-more g lanes v w x k head walk later wide level =
    let near : (y : ℕ) → 1 ≤ y → y ≤ g.atoms → seen_at w y ≡ true → is_within g (k + 1) x y ≡ true = λ y low high seen. elim (wide.only y seen) [
      | inl old ↦ within-more g k x y (sym (level.seen y low high) ∙ old)
      | inr next ↦
          let z : ℕ = get_or v.queue next.index 0 in
          let q : IsQueued g v z = walk.queued next.index next.within in
          within-step g k x z y (sym (level.seen z q.place.0 q.place.1) ∙ q.seen) next.bonded q.place.0 q.place.1
    ] in
    let explored : (j : ℕ) → j < v.found → IsExplored g w (get_or v.queue j 0) = λ j less. elim (cases_lt j head) [
      | inl before ↦ IsExplored-later g v w (get_or v.queue j 0) later (level.explored j before)
      | inr after ↦ wide.explored j after less
    ] in
    let found : (y : ℕ) → 1 ≤ y → y ≤ g.atoms → is_within g (k + 1) x y ≡ true → seen_at w y ≡ true = λ y low high within. elim (within-cases g k x y within) [
      | inl nearer ↦ later.seen y (level.seen y low high ∙ nearer)
      | inr b ↦
          let at : StandsAt v b.place = walk.stands b.place b.low b.high (level.seen b.place b.low b.high ∙ b.within) in
          let e : IsExplored g w b.place = subst (λ (z : ℕ). IsExplored g w z) at.is (explored at.index at.within) in
          e.neighbours y b.bonded
    ] in
    record {
      seen = λ y low high. bools (seen_at w y) (is_within g (k + 1) x y) (near y low high) (found y low high);
      explored = λ j less. subst (λ (z : ℕ). IsExplored g w z) (sym (later.queue j less)) (explored j less);
    }

-- ---- the word of a level

pub near_word-level : (g : Graph) (lanes : List (List Bool)) (w : Walk) (x k head word : ℕ) → IsWalk g lanes w → IsLevel g w x k head → word ≡ from_le_bytes w64 w.counts → word ≡ near_word g lanes x k
unfolding near_word count_within
near_word-level g lanes w x k head word walk level is = is ∙ word_of-bytes w.counts (λ i. count (λ y. is_within g k x y && is_in lanes i y) 1 g.atoms)
    (λ i lt.
    let same : count (λ y. seen_at w y && is_in lanes i y) 1 g.atoms ≡ count (λ y. is_within g k x y && is_in lanes i y) 1 g.atoms = count-congr (λ y. seen_at w y && is_in lanes i y) (λ y. is_within g k x y && is_in lanes i y) 1 g.atoms
    (λ y low high. ap (λ b. b && is_in lanes i y) (level.seen y low (omega arith))) in
    omega (arith, walk.counts i lt, same))

-- ---- the words of a walk

-- the words of the first k levels are known
pub record IsCounted (g : Graph) (lanes : List (List Bool)) (w : Walk) (got : List ℕ) (x k head : ℕ) : Type 0 where
  pub walk : IsWalk g lanes w
  pub level : IsLevel g w x k head
  pub within : head ≤ w.found
  pub size : length got ≡ 4
  pub words : (j : ℕ) → j < k → get_or got j 0 ≡ near_word g lanes x (j + 1)

pub IsCounted-start : (g : Graph) (lanes : List (List Bool)) (v w : Walk) (words : List ℕ) (x : ℕ) → IsGraph g → IsEmptyWalk v → 1 ≤ x → x ≤ g.atoms → IsVisit lanes x v w → length words ≡ 4 → IsCounted g lanes w words x 0 0
IsCounted-start g lanes v w words x graph empty low high visit four =
    let start = IsWalk-visit g lanes x v w graph.atoms (IsWalk-empty g lanes v empty) low high (empty.seen x) visit in
    record {
      walk = start.0;
      level = IsLevel-start g x v w empty start.1;
      within = omega arith;
      size = four;
      words = λ j less. absurd (omega arith);
    }

pub IsCounted-more : (g : Graph) (lanes : List (List Bool)) (v w : Walk) (words : List ℕ) (x k head word : ℕ) → IsCounted g lanes v words x k head → k < 4 → IsWalk g lanes w → IsLater v w
    → (IsLevel g v x k head → IsLevel g w x (k + 1) v.found) → word ≡ from_le_bytes w64 w.counts → IsCounted g lanes w (set words k word) x (k + 1) v.found
IsCounted-more g lanes v w words x k head word c few walk later wider is =
    let level : IsLevel g w x (k + 1) v.found = wider c.level in
    record {
      walk = walk;
      level = level;
      within = later.more;
      size = length-set words k word ∙ c.size;
      words = λ j less. elim (cases_eq j k) [
        | inl last ↦
            let now : word ≡ near_word g lanes x (k + 1) = near_word-level g lanes w x (k + 1) v.found word walk level is in
            let here : get_or (set words k word) k 0 ≡ near_word g lanes x (k + 1) = get_or-set_same words k word 0 (omega (arith, c.size)) ∙ now in
            subst (λ (n : ℕ). get_or (set words k word) n 0 ≡ near_word g lanes x (n + 1)) (sym last) here
        | inr earlier ↦ get_or-set_other words k j word 0 earlier ∙ c.words j (omega arith)
      ];
    }

pub four-words : (words : List ℕ) (f : ℕ → ℕ) → length words ≡ 4 → ((j : ℕ) → j < 4 → get_or words j 0 ≡ f (j + 1)) → words ≡ f 1 ∷ f 2 ∷ f 3 ∷ f 4 ∷ []
four-words [] f size at = absurd cc
four-words (a ∷ []) f size at = absurd cc
four-words (a ∷ b ∷ []) f size at = absurd cc
four-words (a ∷ b ∷ c ∷ []) f size at = absurd cc
four-words (a ∷ b ∷ c ∷ d ∷ e ∷ rest) f size at = absurd (omega arith)
four-words (a ∷ b ∷ c ∷ d ∷ []) f size at =
    let first : a ≡ f 1 = at 0 (omega arith) in
    let second : b ≡ f 2 = at 1 (omega arith) in
    let third : c ≡ f 3 = at 2 (omega arith) in
    let fourth : d ≡ f 4 = at 3 (omega arith) in
    cc

-- explored as far as the end of the queue
pub IsWidened-all : (g : Graph) (v w : Walk) (head index end : ℕ) → IsWidened g v w head index → end ≤ index → IsWidened g v w head end
IsWidened-all g v w head index end wide le = record { explored = λ j low less. wide.explored j low (omega arith); only = wide.only }
