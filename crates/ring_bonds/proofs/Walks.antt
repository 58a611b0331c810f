-- Walks that avoid one bond.
use Rattle.std.proofs.Common.{◌≡◌, ◌≢◌, ℕ, zero, suc, ◌⊎◌, true, ◌&&◌, eqb, refl, sym, subst, ◌∙◌, inl, inr}
use Rattle.std.proofs.lemmas.Bool.{eqb-true, and_parts, or_cases}
use Rattle.htss_defs.specs.declared.graph.Ends.{Ends}
use Rattle.htss_defs.specs.Graph.{Graph, WalksWithout, IsRingBond, joins}
use Rattle.htss_defs.specs.Adjacency.{JoinsAt}
use Rattle.htss_defs.proofs.Chains.{joins-sym}

-- a walk of some number of bonds from x to y that does not use bond k
pub record Reach (g : Graph) (k x y : ℕ) : Type 0 where
  pub bonds : ℕ
  pub walk : WalksWithout g k x y bonds

pub Reach-stay : (g : Graph) (k x : ℕ) → Reach g k x x
Reach-stay g k x = record { bonds = 0; walk = refl }

pub Reach-step : (g : Graph) (k x z y j : ℕ) → Reach g k x z → JoinsAt g j z y → j ≢ k → Reach g k x y
Reach-step g k x z y j r joined other = record { bonds = suc r.bonds; walk = (z, r.walk, j, joined.ends, other, joined.here, joined.joined) }

walk-trans : (g : Graph) (k x y z n : ℕ) → Reach g k x y → WalksWithout g k y z n → Reach g k x z
walk-trans g k x y z zero r w = subst (λ (v : ℕ). Reach g k x v) w r
walk-trans g k x y z (suc n) r w = Reach-step g k x w.0 z w.2 (walk-trans g k x y w.0 n r w.1) (record { ends = w.3; here = w.5; joined = w.6 }) w.4

pub Reach-trans : (g : Graph) (k x y z : ℕ) → Reach g k x y → Reach g k y z → Reach g k x z
Reach-trans g k x y z r s = walk-trans g k x y z s.bonds r s.walk

pub JoinsAt-sym : (g : Graph) (k x y : ℕ) → JoinsAt g k x y → JoinsAt g k y x
JoinsAt-sym g k x y j = record { ends = j.ends; here = j.here; joined = joins-sym j.ends y x ∙ j.joined }

walk-sym : (g : Graph) (k x y n : ℕ) → WalksWithout g k x y n → Reach g k y x
walk-sym g k x y zero w = subst (λ (v : ℕ). Reach g k v x) w (Reach-stay g k x)
walk-sym g k x y (suc n) w =
    let back : Reach g k y w.0 = Reach-step g k y y w.0 w.2 (Reach-stay g k y) (JoinsAt-sym g w.2 w.0 y (record { ends = w.3; here = w.5; joined = w.6 })) w.4 in
    Reach-trans g k y w.0 x back (walk-sym g k x w.0 n w.1)

pub Reach-sym : (g : Graph) (k x y : ℕ) → Reach g k x y → Reach g k y x
Reach-sym g k x y r = walk-sym g k x y r.bonds r.walk

-- the two places are the ends, in one order or the other
pub joins-ends : (e : Ends) (x y : ℕ) → joins e x y ≡ true → ((e.first ≡ x) × (e.second ≡ y)) ⊎ ((e.first ≡ y) × (e.second ≡ x))
joins-ends e x y joined = elim (or_cases (eqb e.first x && eqb e.second y) (eqb e.first y && eqb e.second x) joined) [
  | inl straight ↦ inl (let p = and_parts _ _ straight in (eqb-true _ _ p.0, eqb-true _ _ p.1))
  | inr crossed ↦ inr (let p = and_parts _ _ crossed in (eqb-true _ _ p.0, eqb-true _ _ p.1))
]

pub IsRingBond-of : (g : Graph) (k x y : ℕ) → JoinsAt g k x y → Reach g k x y → IsRingBond g k
IsRingBond-of g k x y j r =
    let between : Reach g k j.ends.first j.ends.second = elim (joins-ends j.ends x y j.joined) [
      | inl s ↦ subst (λ (v : ℕ). Reach g k v j.ends.second) (sym s.0) (subst (λ (v : ℕ). Reach g k x v) (sym s.1) r)
      | inr s ↦ subst (λ (v : ℕ). Reach g k v j.ends.second) (sym s.0) (subst (λ (v : ℕ). Reach g k y v) (sym s.1) (Reach-sym g k x y r))
    ] in
    record { ends = j.ends; bond = j.here; bonds = between.bonds; walk = between.walk }

-- the walk round the ring of a bond
pub Reach-ring : (g : Graph) (k x y : ℕ) → IsRingBond g k → JoinsAt g k x y → Reach g k x y
Reach-ring g k x y ring j =
    let between : Reach g k ring.ends.first ring.ends.second = record { bonds = ring.bonds; walk = ring.walk } in
    let same : ring.ends ≡ j.ends = cc (ring.bond, j.here) in
    let there : Reach g k j.ends.first j.ends.second = subst (λ (e : Ends). Reach g k e.first e.second) same between in
    elim (joins-ends j.ends x y j.joined) [
      | inl s ↦ subst (λ (v : ℕ). Reach g k v y) s.0 (subst (λ (v : ℕ). Reach g k j.ends.first v) s.1 there)
      | inr s ↦ Reach-sym g k y x (subst (λ (v : ℕ). Reach g k v x) s.0 (subst (λ (v : ℕ). Reach g k j.ends.first v) s.1 there))
    ]
