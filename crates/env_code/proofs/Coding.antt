-- The codes of a molecule, from the counts of its bonds and the words of its neighbourhoods.
use Rattle.std.proofs.Common.{◌≡◌, ℕ, zero, suc, ◌+◌, ◌-◌, ◌<◌, Bool, true, false, leb, min, List, [], ◌∷◌, length, get_or, refl, sym, ap, ◌∙◌, arith, cond, eqb}
use Rattle.std.proofs.lemmas.List.{length-map}
use Rattle.std.proofs.lemmas.List.Elements.{All-map}
use Rattle.htss_defs.specs.declared.mol.Atom.{Atom}
use Rattle.htss_defs.specs.Graph.{Graph, AreEnds}
use Rattle.htss_defs.specs.Adjacency.{IsGraph}
use Rattle.htss_defs.specs.Molecule.{Molecule, IsMolecule, bond_ends, molecule_graph}
use Rattle.htss_defs.specs.Distances.{degree}
use Rattle.htss_defs.specs.Codes.{word_of, is_of_kind, element_at, no_atom, bonds_at, own_lane, counts_in, near_lane, code_at, codes_at}
use Rattle.env_code.specs.declared.bond_counts.BondCounts.{BondCounts}
use Rattle.env_code.specs.BondCounts.{AreBondCounts, count_at, own_count}
use Rattle.env_code.specs.Near.{near_word, near_list, HasLanes, lane_row}
use Rattle.env_code.proofs.Counts.{ends-map}
use Rattle.env_code.proofs.Lanes.{lane_row-at, leb-min, near_word-counted}
use Rattle.env_code.proofs.Words.{word_of-congr}

-- the graph of a molecule is one that an adjacency takes
pub IsGraph-molecule : (m : Molecule) → IsMolecule m → IsGraph (molecule_graph m)
IsGraph-molecule m valid = record {
  atoms = valid.atoms.1;
  bonds = simp length-map valid.bonds;
  each_bond = All-map (AreEnds (length m.atoms)) bond_ends m.bonds (λ k d within. (valid.each_bond k d within).ends);
}

-- ---- code 0

degree-count_at : (m : Molecule) (x : ℕ) → degree (molecule_graph m) x ≡ count_at m.bonds x (λ b. true)
unfolding degree count_at
degree-count_at m x = ends-map bond_ends m.bonds x

own-lane : (m : Molecule) (x lowest : ℕ) → lowest ≡ element_at m x → (i : ℕ) → i < 8 → min (own_count m.bonds x lowest i) 255 ≡ min (own_lane m x i) 255
unfolding count_at bonds_at
own-lane m x lowest is zero lt = ap (λ n. min n 255) is
own-lane m x lowest is (suc zero) lt = ap (λ n. min n 255) (sym (degree-count_at m x))
own-lane m x lowest is (suc (suc zero)) lt = refl
own-lane m x lowest is (suc (suc (suc zero))) lt = refl
own-lane m x lowest is (suc (suc (suc (suc zero)))) lt = refl
own-lane m x lowest is (suc (suc (suc (suc (suc zero))))) lt = refl
own-lane m x lowest is (suc (suc (suc (suc (suc (suc zero)))))) lt = refl
own-lane m x lowest is (suc (suc (suc (suc (suc (suc (suc zero))))))) lt = refl
own-lane m x lowest is (suc (suc (suc (suc (suc (suc (suc (suc n)))))))) lt = absurd (omega arith)

pub own-code : (m : Molecule) (x lowest word : ℕ) → lowest ≡ element_at m x → word ≡ word_of (own_count m.bonds x lowest) → word ≡ code_at m 0 x
unfolding code_at
own-code m x lowest word is w = w ∙ word_of-congr (own_count m.bonds x lowest) (own_lane m x) (own-lane m x lowest is)

-- ---- codes 1 to 4

code-is : (m : Molecule) (x : ℕ) → (word_of (near_lane m 1 x) ≡ code_at m 1 x) × (word_of (near_lane m 2 x) ≡ code_at m 2 x) × (word_of (near_lane m 3 x) ≡ code_at m 3 x) × (word_of (near_lane m 4 x) ≡ code_at m 4 x)
unfolding code_at
code-is m x = (refl, refl, refl, refl)

near-read : (m : Molecule) (g : Graph) (lanes : List (List Bool)) (near : List ℕ) (x i k : ℕ) → g ≡ molecule_graph m → HasLanes (counts_in m) (length m.atoms) lanes → get_or near i 0 ≡ near_word g lanes x k → get_or near i 0 ≡ word_of (near_lane m k x)
near-read m g lanes near x i k is has at = at ∙ ap (λ (h : Graph). near_word h lanes x k) is ∙ near_word-counted (molecule_graph m) (counts_in m) lanes x k has

pub codes-are : (m : Molecule) (g : Graph) (lanes : List (List Bool)) (x own : ℕ) (near : List ℕ) → g ≡ molecule_graph m → HasLanes (counts_in m) (length m.atoms) lanes → own ≡ code_at m 0 x → near ≡ near_list g lanes x
    → own ∷ get_or near 0 0 ∷ get_or near 1 0 ∷ get_or near 2 0 ∷ get_or near 3 0 ∷ [] ≡ (codes_at m x).words
codes-are m g lanes x own near is has zeroth all =
    let first : get_or near 0 0 ≡ code_at m 1 x = near-read m g lanes near x 0 1 is has (ap (λ (ws : List ℕ). get_or ws 0 0) all) ∙ (code-is m x).0 in
    let second : get_or near 1 0 ≡ code_at m 2 x = near-read m g lanes near x 1 2 is has (ap (λ (ws : List ℕ). get_or ws 1 0) all) ∙ (code-is m x).1 in
    let third : get_or near 2 0 ≡ code_at m 3 x = near-read m g lanes near x 2 3 is has (ap (λ (ws : List ℕ). get_or ws 2 0) all) ∙ (code-is m x).2 in
    let fourth : get_or near 3 0 ≡ code_at m 4 x = near-read m g lanes near x 3 4 is has (ap (λ (ws : List ℕ). get_or ws 3 0) all) ∙ (code-is m x).3 in
    cc

-- ---- the lanes of the atoms

pub atom-row : (m : Molecule) (c : BondCounts) (x element degree_here : ℕ) (row : List Bool) → AreBondCounts m.bonds c → x < 1000 → element ≡ element_at m x → degree_here ≡ get_or c.degree x 0
    → row ≡ lane_row (λ i. is_of_kind i element) (leb 3 degree_here) → (i : ℕ) → i < 8 → get_or row i false ≡ counts_in m i x
atom-row m c x element degree_here row counted small e d is i lt =
    let deg : degree_here ≡ min (degree (molecule_graph m) x) 255 = d ∙ counted.degree.at x small ∙ ap (λ k. min k 255) (sym (degree-count_at m x)) in
    let branched : leb 3 degree_here ≡ leb 3 (degree (molecule_graph m) x) = ap (leb 3) deg ∙ leb-min (degree (molecule_graph m) x) in
    ap (λ (r : List Bool). get_or r i false) is ∙ lane_row-at (λ k. is_of_kind k element) (leb 3 degree_here) i lt ∙ ap (λ b. cond (eqb i 0) true (cond (eqb i 7) b (is_of_kind i element))) branched
    ∙ ap (λ n. cond (eqb i 0) true (cond (eqb i 7) (leb 3 (degree (molecule_graph m) x)) (is_of_kind i n))) e

-- the element of an atom, as the code reads it
pub element-read : (m : Molecule) (atoms : List Atom) (n : ℕ) → atoms ≡ m.atoms → n < length atoms → (get_or atoms n no_atom).element ≡ element_at m (n + 1)
element-read m atoms n is within =
    let place : n ≡ n + 1 - 1 = omega arith in
    ap (λ (xs : List Atom). (get_or xs n no_atom).element) is ∙ ap (λ k. (get_or m.atoms k no_atom).element) place
