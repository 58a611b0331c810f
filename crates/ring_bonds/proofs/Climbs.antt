-- Ways up in a forest, and those over marked bonds alone.
use Rattle.std.proofs.Common.{◌≡◌, ◌≢◌, ℕ, zero, suc, ◌-◌, ◌<◌, ◌⊎◌, Bool, List, get_or, refl, sym, subst, ap, ◌∙◌, inl, inr, arith}
use Rattle.htss_defs.specs.Graph.{Graph}
use Rattle.ring_bonds.specs.declared.forest.Forest.{Forest}
use Rattle.ring_bonds.specs.Forest.{parent_of, above_of, depth_of, tree_of, AreTrees, Climbs, HasParent, IsOnWay, AreRises}
use Rattle.ring_bonds.specs.Marking.{IsUp, Leads, Grows}

climbs-map : (P Q : ℕ → Type 0) (parents : List ℕ) (n x y : ℕ) → ((z : ℕ) → P z → Q z) → Climbs P parents n x y → Climbs Q parents n x y
climbs-map P Q parents zero x y m c = c
climbs-map P Q parents (suc n) x y m c = (m x c.0, climbs-map P Q parents n (get_or parents x 0) y m c.1)

climbs-trans : (P : ℕ → Type 0) (parents : List ℕ) (n x y m z : ℕ) → Climbs P parents n x y → Climbs P parents m y z → (k : ℕ) × Climbs P parents k x z
climbs-trans P parents zero x y m z c d = (m, subst (λ (v : ℕ). Climbs P parents m v z) (sym c) d)
climbs-trans P parents (suc n) x y m z c d =
    let rest = climbs-trans P parents n (get_or parents x 0) y m z c.1 d in
    (suc rest.0, (c.0, rest.1))

-- ---- marked ways

pub Leads-stay : (f : Forest) (flags : List Bool) (x : ℕ) → Leads f flags x x
Leads-stay f flags x = record { steps = 0; climbs = refl }

pub Leads-up : (f : Forest) (flags : List Bool) (x : ℕ) → IsUp f flags x → Leads f flags x (parent_of f x)
Leads-up f flags x up = record { steps = suc zero; climbs = (up, refl) }

pub Leads-trans : (f : Forest) (flags : List Bool) (x y z : ℕ) → Leads f flags x y → Leads f flags y z → Leads f flags x z
Leads-trans f flags x y z l m =
    let c = climbs-trans (IsUp f flags) f.parent l.steps x y m.steps z l.climbs m.climbs in
    record { steps = c.0; climbs = c.1 }

pub Leads-grow : (f : Forest) (before after : List Bool) (x y : ℕ) → Grows before after → Leads f before x y → Leads f after x y
Leads-grow f before after x y grows l = record {
  steps = l.steps;
  climbs = climbs-map (IsUp f before) (IsUp f after) f.parent l.steps x y (λ z up. (up.0, grows.kept (above_of f z - 1) up.1)) l.climbs;
}

pub IsOnWay-Leads : (f : Forest) (flags : List Bool) (x y : ℕ) → Leads f flags x y → IsOnWay f y x
IsOnWay-Leads f flags x y l = record { steps = l.steps; climbs = climbs-map (IsUp f flags) (HasParent f) f.parent l.steps x y (λ z up. up.0) l.climbs }

-- ---- what stands on the way up

pub IsOnWay-stay : (f : Forest) (x : ℕ) → IsOnWay f x x
IsOnWay-stay f x = record { steps = 0; climbs = refl }

pub IsOnWay-up : (f : Forest) (c x : ℕ) → 0 < above_of f x → IsOnWay f c (parent_of f x) → IsOnWay f c x
IsOnWay-up f c x has w = record { steps = suc w.steps; climbs = (has, w.climbs) }

onway-parent : (f : Forest) (c x n : ℕ) → Climbs (HasParent f) f.parent n x c → x ≢ c → IsOnWay f c (parent_of f x)
onway-parent f c x zero w other = absurd (other w)
onway-parent f c x (suc n) w other = record { steps = n; climbs = w.1 }

-- what stands on the way up from another place stands on that from its parent
pub IsOnWay-parent : (f : Forest) (c x : ℕ) → IsOnWay f c x → x ≢ c → IsOnWay f c (parent_of f x)
IsOnWay-parent f c x w other = onway-parent f c x w.steps w.climbs other

climbs-lower : (f : Forest) (c n x : ℕ) → AreRises f → Climbs (HasParent f) f.parent n x c → (x ≡ c) ⊎ (depth_of f c < depth_of f x)
climbs-lower f c zero x r w = inl w
climbs-lower f c (suc n) x r w =
    let low : depth_of f (parent_of f x) < depth_of f x = (r.rises x w.0).lower in
    elim (climbs-lower f c n (parent_of f x) r w.1) [
      | inl same ↦ inr (subst (λ (v : ℕ). depth_of f v < depth_of f x) same low)
      | inr less ↦ inr (omega arith)
    ]

pub IsOnWay-lower : (f : Forest) (c x : ℕ) → AreRises f → IsOnWay f c x → (x ≡ c) ⊎ (depth_of f c < depth_of f x)
IsOnWay-lower f c x r w = climbs-lower f c w.steps x r w.climbs

-- no place stands on the way up from its parent
pub IsOnWay-not_parent : (f : Forest) (c : ℕ) → AreRises f → 0 < above_of f c → IsOnWay f c (parent_of f c) → ⊥
IsOnWay-not_parent f c r has w =
    let low : depth_of f (parent_of f c) < depth_of f c = (r.rises c has).lower in
    elim (IsOnWay-lower f c (parent_of f c) r w) [
      | inl same ↦ let e : depth_of f (parent_of f c) ≡ depth_of f c = ap (depth_of f) same in omega arith
      | inr less ↦ omega arith
    ]

climbs-tree : (g : Graph) (f : Forest) (c n x : ℕ) → AreTrees g f → Climbs (HasParent f) f.parent n x c → tree_of f x ≡ tree_of f c
climbs-tree g f c zero x t w = ap (tree_of f) w
climbs-tree g f c (suc n) x t w = sym (t.steps x w.0).tree ∙ climbs-tree g f c n (parent_of f x) t w.1

pub IsOnWay-tree : (g : Graph) (f : Forest) (c x : ℕ) → AreTrees g f → IsOnWay f c x → tree_of f x ≡ tree_of f c
IsOnWay-tree g f c x t w = climbs-tree g f c w.steps x t w.climbs

-- ---- a place whose bond is not marked stands on the ways up from both ends of a marked way, or on neither

through : (f : Forest) (flags : List Bool) (c n x y : ℕ) → (IsUp f flags c → ⊥) → Climbs (IsUp f flags) f.parent n x y → IsOnWay f c x → IsOnWay f c y
through f flags c zero x y free l w = subst (λ (v : ℕ). IsOnWay f c v) l w
through f flags c (suc n) x y free l w =
    through f flags c n (parent_of f x) y free l.1 (IsOnWay-parent f c x w (λ same. free (subst (λ (v : ℕ). IsUp f flags v) same l.0)))

pub IsOnWay-through : (f : Forest) (flags : List Bool) (c x y : ℕ) → (IsUp f flags c → ⊥) → Leads f flags x y → IsOnWay f c x → IsOnWay f c y
IsOnWay-through f flags c x y free l w = through f flags c l.steps x y free l.climbs w

back : (f : Forest) (flags : List Bool) (c n x y : ℕ) → Climbs (IsUp f flags) f.parent n x y → IsOnWay f c y → IsOnWay f c x
back f flags c zero x y l w = subst (λ (v : ℕ). IsOnWay f c v) (sym l) w
back f flags c (suc n) x y l w = IsOnWay-up f c x l.0.0 (back f flags c n (parent_of f x) y l.1 w)

pub IsOnWay-back : (f : Forest) (flags : List Bool) (c x y : ℕ) → Leads f flags x y → IsOnWay f c y → IsOnWay f c x
IsOnWay-back f flags c x y l w = back f flags c l.steps x y l.climbs w
