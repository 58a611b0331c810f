-- The needs of a query, from the counts of its bonds and the words of its neighbourhoods.
use Rattle.std.proofs.Common.{◌≡◌, ℕ, zero, suc, ◌+◌, ◌-◌, ◌<◌, ◌≤◌, Bool, true, false, ◌&&◌, cond, eqb, leb, min, List, [], ◌∷◌, length, get_or, map, refl, sym, ap, ◌∙◌, arith}
use Rattle.std.specs.List.{count_by}
use Rattle.std.proofs.lemmas.List.{length-map, get_or_default}
use Rattle.std.proofs.lemmas.List.Elements.{All-map}
use Rattle.std.proofs.lemmas.List.Folds.{fold-map}
use Rattle.htss_defs.specs.declared.mol.Bond.{Bond}
use Rattle.htss_defs.specs.declared.query.AtomTest.{AtomTest}
use Rattle.htss_defs.specs.declared.query.QueryAtom.{QueryAtom}
use Rattle.htss_defs.specs.Graph.{Graph, AreEnds}
use Rattle.htss_defs.specs.Adjacency.{IsGraph}
use Rattle.htss_defs.specs.Molecule.{bond_ends}
use Rattle.htss_defs.specs.QueryGraph.{QueryGraph, IsQuery, query_bond_ends, query_shape}
use Rattle.htss_defs.specs.Distances.{degree, is_end}
use Rattle.htss_defs.specs.Codes.{word_of}
use Rattle.htss_defs.specs.Needs.{no_query_atom, test_at, surely_of_kind, query_bonds_at, own_need, surely_in, near_need, need_word, need_at}
use Rattle.env_code.specs.declared.bond_counts.BondCounts.{BondCounts}
use Rattle.env_code.specs.BondCounts.{AreBondCounts, count_at, own_count}
use Rattle.env_code.specs.Near.{HasLanes, lane_row, near_word, near_list}
use Rattle.env_code.proofs.Counts.{one, ends-map}
use Rattle.env_code.proofs.Lanes.{lane_row-at, leb-min, near_word-counted}
use Rattle.env_code.proofs.Words.{word_of-congr}
use Rattle.env_cover.specs.Sure.{sure_bond}

pub IsGraph-query : (q : QueryGraph) → IsQuery q → IsGraph (query_shape q)
IsGraph-query q query = record {
  atoms = omega (arith, query.atoms.1);
  bonds = simp length-map query.bonds;
  each_bond = All-map (AreEnds (length q.atoms)) query_bond_ends q.bonds (λ k d within. (query.each_bond k d within).ends);
}

-- ---- code 0

sure-count : (q : QueryGraph) (u : ℕ) (test : Bond → Bool) → count_at (map sure_bond q.bonds) u test ≡ count_by (λ b. is_end (query_bond_ends b) u && test (sure_bond b)) q.bonds
unfolding count_at
sure-count q u test = fold-map (λ n b. n + one (is_end (bond_ends b) u && test b)) sure_bond 0 q.bonds

degree-sure : (q : QueryGraph) (u : ℕ) → count_at (map sure_bond q.bonds) u (λ b. true) ≡ degree (query_shape q) u
unfolding degree
degree-sure q u = sure-count q u (λ b. true) ∙ sym (ends-map query_bond_ends q.bonds u)

own-lane : (q : QueryGraph) (u : ℕ) → (i : ℕ) → i < 8 → min (own_count (map sure_bond q.bonds) u 0 i) 255 ≡ min (own_need q u i) 255
unfolding query_bonds_at
own-lane q u zero lt = refl
own-lane q u (suc zero) lt = ap (λ n. min n 255) (degree-sure q u)
own-lane q u (suc (suc zero)) lt = ap (λ n. min n 255) (sure-count q u (λ b. eqb b.kind 2))
own-lane q u (suc (suc (suc zero))) lt = ap (λ n. min n 255) (sure-count q u (λ b. eqb b.kind 3))
own-lane q u (suc (suc (suc (suc zero)))) lt = ap (λ n. min n 255) (sure-count q u (λ b. eqb b.kind 4))
own-lane q u (suc (suc (suc (suc (suc zero))))) lt = ap (λ n. min n 255) (sure-count q u (λ b. b.ring))
own-lane q u (suc (suc (suc (suc (suc (suc zero)))))) lt = refl
own-lane q u (suc (suc (suc (suc (suc (suc (suc zero))))))) lt = refl
own-lane q u (suc (suc (suc (suc (suc (suc (suc (suc n)))))))) lt = absurd (omega arith)

own-need : (q : QueryGraph) (u word : ℕ) → word ≡ word_of (own_count (map sure_bond q.bonds) u 0) → word ≡ need_word q 0 u
unfolding need_word
own-need q u word w = w ∙ word_of-congr (own_count (map sure_bond q.bonds) u 0) (own_need q u) (own-lane q u)

-- ---- codes 1 to 4

need-is : (q : QueryGraph) (u : ℕ) → (word_of (near_need q 1 u) ≡ need_word q 1 u) × (word_of (near_need q 2 u) ≡ need_word q 2 u) × (word_of (near_need q 3 u) ≡ need_word q 3 u) × (word_of (near_need q 4 u) ≡ need_word q 4 u)
unfolding need_word
need-is q u = (refl, refl, refl, refl)

near-read : (q : QueryGraph) (g : Graph) (lanes : List (List Bool)) (near : List ℕ) (u i k : ℕ) → g ≡ query_shape q → HasLanes (surely_in q) (length q.atoms) lanes → get_or near i 0 ≡ near_word g lanes u k → get_or near i 0 ≡ word_of (near_need q k u)
near-read q g lanes near u i k is has at = at ∙ ap (λ (h : Graph). near_word h lanes u k) is ∙ near_word-counted (query_shape q) (surely_in q) lanes u k has

pub needs-are : (q : QueryGraph) (g : Graph) (lanes : List (List Bool)) (u own : ℕ) (near : List ℕ) → g ≡ query_shape q → HasLanes (surely_in q) (length q.atoms) lanes → own ≡ word_of (own_count (map sure_bond q.bonds) u 0) → near ≡ near_list g lanes u
    → own ∷ get_or near 0 0 ∷ get_or near 1 0 ∷ get_or near 2 0 ∷ get_or near 3 0 ∷ [] ≡ (need_at q u).words
needs-are q g lanes u own near is has word all =
    let zeroth : own ≡ need_word q 0 u = own-need q u own word in
    let first : get_or near 0 0 ≡ need_word q 1 u = near-read q g lanes near u 0 1 is has (ap (λ (ws : List ℕ). get_or ws 0 0) all) ∙ (need-is q u).0 in
    let second : get_or near 1 0 ≡ need_word q 2 u = near-read q g lanes near u 1 2 is has (ap (λ (ws : List ℕ). get_or ws 1 0) all) ∙ (need-is q u).1 in
    let third : get_or near 2 0 ≡ need_word q 3 u = near-read q g lanes near u 2 3 is has (ap (λ (ws : List ℕ). get_or ws 2 0) all) ∙ (need-is q u).2 in
    let fourth : get_or near 3 0 ≡ need_word q 4 u = near-read q g lanes near u 3 4 is has (ap (λ (ws : List ℕ). get_or ws 3 0) all) ∙ (need-is q u).3 in
    cc

-- ---- the lanes of the atoms

pub atom-row : (q : QueryGraph) (c : BondCounts) (u : ℕ) (test : AtomTest) (degree_here : ℕ) (row : List Bool) → AreBondCounts (map sure_bond q.bonds) c → u < 1000 → test ≡ test_at q u → degree_here ≡ get_or c.degree u 0
    → row ≡ lane_row (surely_of_kind test) (leb 3 degree_here) → (i : ℕ) → i < 8 → get_or row i false ≡ surely_in q i u
atom-row q c u test degree_here row counted small t d is i lt =
    let deg : degree_here ≡ min (degree (query_shape q) u) 255 = d ∙ counted.degree.at u small ∙ ap (λ k. min k 255) (degree-sure q u) in
    let branched : leb 3 degree_here ≡ leb 3 (degree (query_shape q) u) = ap (leb 3) deg ∙ leb-min (degree (query_shape q) u) in
    ap (λ (r : List Bool). get_or r i false) is ∙ lane_row-at (surely_of_kind test) (leb 3 degree_here) i lt ∙ ap (λ b. cond (eqb i 0) true (cond (eqb i 7) b (surely_of_kind test i))) branched
    ∙ ap (λ (s : AtomTest). cond (eqb i 0) true (cond (eqb i 7) (leb 3 (degree (query_shape q) u)) (surely_of_kind s i))) t

-- the test of an atom, as the code reads it
pub test-read : (q : QueryGraph) (atoms : List QueryAtom) (n : ℕ) (d : QueryAtom) → atoms ≡ q.atoms → n < length atoms → (get_or atoms n d).test ≡ test_at q (n + 1)
test-read q atoms n d is within =
    let place : n ≡ n + 1 - 1 = omega arith in
    let inside : n < length q.atoms = omega (arith, ap length is) in
    ap (λ (xs : List QueryAtom). (get_or xs n d).test) is ∙ ap (λ (a : QueryAtom). a.test) (get_or_default q.atoms n d no_query_atom inside) ∙ ap (λ k. (get_or q.atoms k no_query_atom).test) place

pub test-at : (q : QueryGraph) (atoms : List QueryAtom) (u : ℕ) (d : QueryAtom) → atoms ≡ q.atoms → 1 ≤ u → u ≤ length q.atoms → (get_or atoms (u - 1) d).test ≡ test_at q u
test-at q atoms u d is low high = ap (λ (xs : List QueryAtom). (get_or xs (u - 1) d).test) is ∙ ap (λ (a : QueryAtom). a.test) (get_or_default q.atoms (u - 1) d no_query_atom (omega arith))
