-- How many bytes a made file has at most.
use Rattle.std.proofs.Common.{◌≡◌, ℕ, zero, suc, ◌+◌, ◌-◌, ◌*◌, ◌^◌, ◌%◌, ◌<◌, ◌≤◌, Bool, true, false, List, ◌∷◌, ◌++◌, length, refl, arith}
use Rattle.std.specs.Prelude.{◌==◌, nat_lt, if◌then◌else◌, decimal}
use Rattle.std.specs.List.{flat_map}
use Rattle.std.proofs.lemmas.List.{length-append}
use Rattle.std.proofs.lemmas.Fmt.{length-decimal-le}
use lib.Chars.{codes}
use Rattle.script_text.specs.declared.growing.Grown.{Grown}
use Rattle.script_text.specs.Generator.{after_tree, atom_line, bond_line, drawn, drawn_parent, grown, grown_state, made_file, next_state, padded, record_text, records_from, ring_atoms, ring_bonds, tree_from, tree_of}

-- what holds of both holds of the one that is chosen
chosen : {X : Type 0} (P : X → Type 0) (b : Bool) (x y : X) → P x → P y → P (if b then x else y)
chosen P true x y first second = first
chosen P false x y first second = second

two_digits : (n : ℕ) → n < 100 → length (decimal n) ≤ 2
two_digits n less = length-decimal-le 2 n (omega arith) (omega (arith, less)) (omega (arith, less))

padded-short : (n : ℕ) → n < 100 → length (padded n) ≤ 4
unfolding padded
padded-short n less =
    let digits = two_digits n less in
    chosen (λ (x : List ℕ). length x ≤ 4) (nat_lt n 10) (32 ∷ 32 ∷ decimal n) (32 ∷ decimal n) (omega (arith, digits)) (omega (arith, digits))

record IsSmall (atom : Grown) : Type 0 where
  number : atom.number < 100
  parent : atom.parent < 100

grown-small : (i state : ℕ) → i < 26 → IsSmall (grown i state)
grown-small i state less =
    let drew = drawn (next_state (next_state state)) in
    let parent : drawn_parent i drew < 100 = chosen (λ (p : ℕ). p < 100) (drew % 2 == 0) (i - 1) (i - 2) (omega (arith, less)) (omega (arith, less)) in
    chosen IsSmall (nat_lt i 9) _ _ (record { number = omega (arith, less); parent = omega (arith, less) }) (record { number = omega (arith, less); parent = parent })

line-short : (atom : Grown) → IsSmall atom → length (bond_line atom) ≤ 40
unfolding bond_line
line-short atom small =
    let end = codes "  1  0\n" in
    let all : length (bond_line atom) ≡ length (padded atom.parent ++ padded atom.number) + length end = length-append (padded atom.parent ++ padded atom.number) end in
    omega (arith, all, length-append (padded atom.parent) (padded atom.number), padded-short atom.parent small.parent, padded-short atom.number small.number, end_is)
  where
    end_is : length (codes "  1  0\n") ≡ 7
    end_is = refl

bond_line-short : (i state : ℕ) → i < 26 → length (bond_line (grown i state)) ≤ 40
bond_line-short i state less = line-short (grown i state) (grown-small i state less)

atom_line-short : (i state : ℕ) → i < 26 → length (atom_line (grown i state)) ≤ 40
unfolding atom_line
atom_line-short i state less =
    let atom = grown i state in
    omega (arith, length-append (codes "    0.0000    0.0000    0.0000 ") (atom.letter ∷ codes "   0  0\n"), start, end)
  where
    start : length (codes "    0.0000    0.0000    0.0000 ") ≡ 31
    start = refl

    end : length (codes "   0  0\n") ≡ 8
    end = refl

tree-short : (f : Grown → List ℕ) → ((i state : ℕ) → i < 26 → length (f (grown i state)) ≤ 40) → (n i state : ℕ) → i + n ≤ 26 → length (flat_map f (tree_from n i state)) ≤ n * 40
tree-short f each zero i state fits = omega arith
tree-short f each (suc n) i state fits =
    omega (
      arith,
      length-append (f (grown i state)) (flat_map f (tree_from n (i + 1) (grown_state i state))),
      each i state (omega (arith, fits)),
      tree-short f each n (i + 1) (grown_state i state) (omega (arith, fits)),
    )

record_text-short : (number state : ℕ) → number ≤ 100000 → length (record_text number (tree_of state)) ≤ 2000
unfolding record_text tree_of
record_text-short number state few =
    let digits : length (decimal number) ≤ 6 = length-decimal-le 6 number (omega arith) (omega (arith, few)) (omega (arith, few)) in
    let tree = tree_from 19 7 state in
    let atoms = flat_map atom_line tree in
    let bonds = flat_map bond_line tree in
    let end = codes "M  END\n$$$$\n" in
    let counts = codes "\n\n\n 25 25  0  0  0  0  0  0  0  0999 V2000\n" in
    let numbered = codes "made " ++ decimal number in
    let with_atoms = numbered ++ counts ++ ring_atoms ++ atoms in
    let with_bonds = with_atoms ++ ring_bonds ++ bonds in
    let all : length (record_text number (tree_of state)) ≡ length with_bonds + length end = length-append with_bonds end in
    omega (
      arith,
      all,
      length-append (codes "made ") (decimal number),
      length-append numbered counts,
      length-append (numbered ++ counts) ring_atoms,
      length-append (numbered ++ counts ++ ring_atoms) atoms,
      length-append with_atoms ring_bonds,
      length-append (with_atoms ++ ring_bonds) bonds,
      digits,
      tree-short atom_line atom_line-short 19 7 state (omega arith),
      tree-short bond_line bond_line-short 19 7 state (omega arith),
      made_is,
      counts_is,
      atoms_is,
      bonds_is,
      end_is,
    )
  where
    made_is : length (codes "made ") ≡ 5
    made_is = refl

    counts_is : length (codes "\n\n\n 25 25  0  0  0  0  0  0  0  0999 V2000\n") ≡ 43
    counts_is = refl

    atoms_is : length ring_atoms ≡ 240
    atoms_is = refl

    bonds_is : length ring_bonds ≡ 78
    bonds_is = refl

    end_is : length (codes "M  END\n$$$$\n") ≡ 12
    end_is = refl

records-short : (n number state : ℕ) → number + n ≤ 100001 → length (records_from n number state) ≤ n * 2000
records-short zero number state fits = omega arith
records-short (suc n) number state fits =
    omega (
      arith,
      length-append (record_text number (tree_of state)) (records_from n (number + 1) (after_tree state)),
      record_text-short number state (omega (arith, fits)),
      records-short n (number + 1) (after_tree state) (omega (arith, fits)),
    )

pub made_file-short : (count seed : ℕ) → count ≤ 100000 → length (made_file count seed) < 2 ^ 32
unfolding made_file
made_file-short count seed few = omega (arith, few, records-short count 1 seed (omega (arith, few)))
