-- No code of an atom is 0: code 0 has the element in its lowest lane, and the others count the atom itself there.
use Rattle.std.proofs.Common.{◌≡◌, ◌≢◌, ℕ, zero, suc, cond, ◌+◌, ◌-◌, ◌*◌, ◌^◌, ◌<◌, ◌≤◌, ◌&&◌, Bool, true, ◌∷◌, length, get_or, min, refl, sym, ap, ◌∙◌, arith, eq-eqb, ne_eqb}
use Rattle.std.specs.List.{count_by, range_with_len}
use Rattle.std.specs.Prelude.{sum_by}
use Rattle.std.proofs.lemmas.List.Elements.{All-get_or}
use Rattle.std.proofs.lemmas.List.Sums.{sum_by-cons}
use Rattle.std.proofs.lemmas.List.FromFn.{length-range_with_len, get_or-range_with_len}
use Rattle.std.proofs.lemmas.List.Folds.{list_any_at}
use mathlib.Core.Logic.{dite}
use native.Mathlib.Decide.{ℕ_discrete}
use Rattle.htss_defs.specs.Graph.{Graph}
use Rattle.htss_defs.specs.Distances.{has_walk, is_within, count_within}
use Rattle.htss_defs.specs.Molecule.{Molecule, IsAtom, IsMolecule, molecule_graph}
use Rattle.board_core.specs.Blocks.{atoms_in, atom_words_at, atom_of, molecule_in}
use Rattle.board_core.specs.Records.{IsRecord}
use Rattle.board_core.specs.Rows.{code_of}
use Rattle.board_core.proofs.Shown.{length_first}
use Rattle.htss_defs.specs.Codes.{word_of, no_atom, element_at, own_lane, counts_in, near_lane, code_at}

some_word : (count : ℕ → ℕ) → count 0 ≢ 0 → word_of count ≢ 0
unfolding word_of
some_word count some_c z =
    let lane : ℕ → ℕ = λ i. min (count i) 255 * 256 ^ i in
    let cut : sum_by lane (range_with_len 0 8) ≡ lane 0 + sum_by lane (range_with_len 1 7) = sum_by-cons lane 0 (range_with_len 1 7) in
    let all : sum_by lane (range_with_len 0 8) ≡ 0 = z in
    let least : min (count 0) 255 * 1 ≡ 0 = omega arith in some_c (omega arith)

near_self : (g : Graph) (k x : ℕ) → is_within g k x x ≡ true
unfolding has_walk is_within
near_self g k x =
    let long = length-range_with_len 0 (k + 1) in
    list_any_at (λ n. has_walk g n x x) (range_with_len 0 (k + 1)) 0 0 (omega arith) (ap (λ n. has_walk g n x x) (get_or-range_with_len 0 (k + 1) 0 0 (omega arith)) ∙ eq-eqb x x refl)

abbrev one : Bool → ℕ
one b = cond b 1 0

count_in : (p : ℕ → Bool) (a n x : ℕ) → a ≤ x → x < a + n → p x ≡ true → count_by p (range_with_len a n) ≢ 0
count_in p a zero x low high pass z = absurd (omega arith)
count_in p a (suc n) x low high pass z =
    let cut : count_by p (a ∷ range_with_len (a + 1) n) ≡ one (p a) + count_by p (range_with_len (a + 1) n) = sum_by-cons (λ y. one (p y)) a (range_with_len (a + 1) n) in
    let all : count_by p (a ∷ range_with_len (a + 1) n) ≡ 0 = z in
    dite (ℕ_discrete a x)
    (λ is. let here : one (p a) ≡ 1 = ap (λ y. one (p y)) is ∙ ap one pass in let sum : one (p a) + count_by p (range_with_len (a + 1) n) ≡ 0 = sym cut ∙ all in absurd (omega (arith, here, sum)))
    (λ other. count_in p (a + 1) n x (omega arith) (omega arith) pass (let sum : one (p a) + count_by p (range_with_len (a + 1) n) ≡ 0 = sym cut ∙ all in omega (arith, sum)))

some_near : (g : Graph) (k x : ℕ) (test : ℕ → Bool) → 1 ≤ x → x ≤ g.atoms → test x ≡ true → count_within g k x test ≢ 0
unfolding count_within
some_near g k x test low high pass = count_in (λ y. is_within g k x y && test y) 1 g.atoms x low (omega arith) (ap (λ b. b && test x) (near_self g k x) ∙ pass)

pub some_code : (m : Molecule) (k x : ℕ) → IsMolecule m → 1 ≤ x → x ≤ length m.atoms → code_at m k x ≢ 0
unfolding code_at
some_code m k x h low high z = dite (ℕ_discrete k 0)
    (λ is.
    let atom : IsAtom (get_or m.atoms (x - 1) no_atom) = All-get_or IsAtom m.atoms (x - 1) no_atom (omega arith) h.each_atom in
    let element : 1 ≤ element_at m x = atom.element.0 in
    some_word (own_lane m x) (λ none. let e : element_at m x ≡ 0 = none in omega arith) (ap (λ b. word_of (cond b (own_lane m x) (near_lane m k x))) (sym (eq-eqb k 0 is)) ∙ z))
    (λ other. some_word (near_lane m k x) (some_near (molecule_graph m) k x (counts_in m 0) low high refl) (ap (λ b. word_of (cond b (own_lane m x) (near_lane m k x))) (sym (ne_eqb k 0 other)) ∙ z))

-- and so none of the codes in a block that shows a record
pub record_code : (block : ℕ → ℕ) (atom code : ℕ) → IsRecord block → 0 < atom → atom ≤ atoms_in (block 0) → code < 5 → code_of block atom code ≢ 0
record_code block atom code shows above most few z =
    let same : atom - 1 + 1 ≡ atom = omega arith in
    let is : code_of block atom code ≡ code_at (molecule_in block) code atom = shows.codes (atom - 1) code (omega arith) few ∙ ap (code_at (molecule_in block) code) same in
    let size : length (molecule_in block).atoms ≡ atoms_in (block 0) = length_first (λ i. atom_of (block (atom_words_at (block 0) + i))) (atoms_in (block 0)) in
    some_code (molecule_in block) code atom shows.molecule above (omega arith) (sym is ∙ z)
