-- The ring of six carbons is a query.
use Rattle.std.proofs.Common.{◌≡◌, ◌≢◌, ℕ, ◌+◌, ◌≤◌, List, [], ◌∷◌, All, refl, arith}
use Rattle.std.specs.List.{AllPairs}
use Rattle.std.specs.Int.Signed.{le_z_yes}
use Rattle.std.proofs.lemmas.List.Elements.{All-nil, All-cons}
use Rattle.std.proofs.lemmas.List.Kept.{AllPairs-cons}
use Rattle.htss_defs.specs.QueryGraph.{AreQueryBondsApart, IsQuery, IsQueryAtom, IsQueryBond}
use Rattle.command_ends.specs.MakeText.{carbon, plain_ring, ring_bond}

-- P holds of the elements, one by one
abbrev Each : {X : Type 0} → (X → Type 0) → List X → Type 0
Each P [] = Unit {0}
Each P (x ∷ xs) = P x × Each P xs

All-each : {X : Type 0} (P : X → Type 0) (xs : List X) → Each P xs → All P xs
All-each P [] each = All-nil P
All-each P (x ∷ xs) each = All-cons P x xs each.0 (All-each P xs each.1)

-- R holds of the pairs, one by one
abbrev EachPair : {X : Type 0} → (X → X → Type 0) → List X → Type 0
EachPair R [] = Unit {0}
EachPair R (x ∷ xs) = Each (R x) xs × EachPair R xs

AllPairs-each : {X : Type 0} (R : X → X → Type 0) (xs : List X) → EachPair R xs → AllPairs R xs
AllPairs-each R [] each = λ i j d less within. absurd (omega (arith, within))
AllPairs-each R (x ∷ xs) each = AllPairs-cons R x xs (All-each (R x) xs each.0) (AllPairs-each R xs each.1)

is_atom : IsQueryAtom carbon
is_atom = record { test = (omega arith, omega arith); charge = (le_z_yes tt, le_z_yes tt); mass = omega arith }

is_bond : (first second kind : ℕ) → 1 ≤ first → first ≤ 6 → 1 ≤ second → second ≤ 6 → first ≢ second → 1 ≤ kind → kind ≤ 2 → IsQueryBond 6 (ring_bond first second kind)
is_bond first second kind first-low first-high second-low second-high differ kind-low kind-high = record {
  ends = record { first = (first-low, first-high); second = (second-low, second-high); differ = differ };
  kind = (kind-low, omega (arith, kind-high));
  topology = omega arith;
}

-- to the next place of the ring
is_next : (first second kind : ℕ) → 1 ≤ first → first ≤ 5 → second ≡ first + 1 → 1 ≤ kind → kind ≤ 2 → IsQueryBond 6 (ring_bond first second kind)
is_next first second kind low high next kind-low kind-high =
    is_bond first second kind low (omega (arith, high)) (omega (arith, next)) (omega (arith, high, next)) (λ e. absurd (omega (arith, e, next))) kind-low kind-high

pub plain_ring-is : IsQuery plain_ring
plain_ring-is = record {
  atoms = (omega arith, omega arith);
  bonds = omega arith;
  each_atom = All-each IsQueryAtom plain_ring.atoms (is_atom, (is_atom, (is_atom, (is_atom, (is_atom, (is_atom, tt))))));
  each_bond = All-each (IsQueryBond 6) plain_ring.bonds (
    is_next 1 2 1 (omega arith) (omega arith) refl (omega arith) (omega arith),
    (
      is_next 2 3 2 (omega arith) (omega arith) refl (omega arith) (omega arith),
      (
        is_next 3 4 1 (omega arith) (omega arith) refl (omega arith) (omega arith),
        (
          is_next 4 5 2 (omega arith) (omega arith) refl (omega arith) (omega arith),
          (
            is_next 5 6 1 (omega arith) (omega arith) refl (omega arith) (omega arith),
            (is_bond 6 1 2 (omega arith) (omega arith) (omega arith) (omega arith) (λ e. absurd (omega (arith, e))) (omega arith) (omega arith), tt),
          ),
        ),
      ),
    ),
  );
  no_pair_twice = AllPairs-each AreQueryBondsApart plain_ring.bonds
      ((refl, (refl, (refl, (refl, (refl, tt))))), ((refl, (refl, (refl, (refl, tt)))), ((refl, (refl, (refl, tt))), ((refl, (refl, tt)), ((refl, tt), (tt, tt))))));
}
