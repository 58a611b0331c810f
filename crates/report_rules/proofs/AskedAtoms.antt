-- A query that was read has 1 to 64 atoms.
use Rattle.std.proofs.Common.{◌≡◌, ◌⊎◌, inl, inr, ℕ, zero, suc, ◌+◌, ◌<◌, ◌≤◌, Bool, true, false, cond, List, [], ◌∷◌, ◌++◌, length, map, take, drop, replicate, refl, sym, ap, subst, ◌∙◌, arith}
use Rattle.std.specs.Prelude.{All, Option, Some, None, Ok, is_some, not, slice_get, nat_lt, unwrap_or, ◌==◌, ◌&&◌, ◌||◌, if◌then◌else◌}
use Rattle.std.specs.Str.{bytes_eq}
use Rattle.std.specs.List.{zip, range_with_len, filter_map}
use Rattle.std.proofs.lemmas.Bool.{cases_lt, false≢true, lt-ltb}
use Rattle.std.proofs.lemmas.List.{length-map, drop_all, take_all}
use Rattle.std.proofs.lemmas.List.Elements.{All-append, All-cons, All-head, All-nil, All-replicate, All-tail, All-take}
use lib.Chars.{codes}
use Rattle.htss_defs.specs.QueryGraph.{QueryGraph}
use Rattle.mol_section.specs.Fields.{begins, field}
use Rattle.mol_section.specs.SectionLines.{Kind, header, counts, atom, bond, atom_list, property, passed_over, end_mark, after_end, passes_next, kinds_after, block_kinds, kinds_of, line_at}
use Rattle.mol_section.specs.SectionLines.{atoms_field, atom_count, bond_count, list_count, bonds_field, lists_field, stext_field, counts_refusal, first_code}
use Rattle.mol_section.specs.SectionRecord.{kind_is, lines_of_kind, HasEnd}
use Rattle.query_mol.specs.QueryRecord.{query_of, query_atom_of, query_counts_refusal, query_refusal, QueryLineRefusal, IsAcceptedQuery}
use Rattle.query_mol.specs.QueryOutcome.{IsFirstQueryOutcome}

-- how many of the kinds are an atom's
abbrev one_more : Bool → ℕ → ℕ
one_more true n = suc n
one_more false n = n

abbrev atoms_in : List Kind → ℕ
atoms_in [] = zero
atoms_in (kind ∷ kinds) = one_more (kind_is atom kind) (atoms_in kinds)

atoms_both : (first second : List Kind) → atoms_in (first ++ second) ≡ atoms_in first + atoms_in second
atoms_both [] second = omega arith
atoms_both (kind ∷ first) second = go (kind_is atom kind) (atoms_both first second)
  where
    go : (b : Bool) → atoms_in (first ++ second) ≡ atoms_in first + atoms_in second → one_more b (atoms_in (first ++ second)) ≡ one_more b (atoms_in first) + atoms_in second
    go true rest = omega (arith, rest)
    go false rest = rest

atoms_repeated : (n : ℕ) → atoms_in (replicate n atom) ≡ n
atoms_repeated zero = refl
atoms_repeated (suc n) = ap suc (atoms_repeated n)

none_repeated : (kind : Kind) → kind_is atom kind ≡ false → (n : ℕ) → atoms_in (replicate n kind) ≡ 0
none_repeated kind is zero = refl
none_repeated kind is (suc n) = rw is (none_repeated kind is n)

none_after_end : (rest : List (List ℕ)) → atoms_in (map (λ _. after_end) rest) ≡ 0
none_after_end [] = refl
none_after_end (line ∷ rest) = none_after_end rest

none_after : (passed : Bool) (lines : List (List ℕ)) → atoms_in (kinds_after passed lines) ≡ 0
none_after passed [] = refl
none_after true (line ∷ rest) = none_after false rest
none_after false (line ∷ rest) =
    let over = none_after true rest in
    let on = none_after false rest in
    let ends = none_after_end rest in
    elim (begins line (codes "M  END")) as (λ v. atoms_in (cond v (end_mark ∷ map (λ _. after_end) rest) (cond (passes_next line) (passed_over ∷ kinds_after true rest) (property ∷ kinds_after false rest))) ≡ 0) [
      | true ↦ ends
      | false ↦ elim (passes_next line) as (λ v. atoms_in (cond v (passed_over ∷ kinds_after true rest) (property ∷ kinds_after false rest)) ≡ 0) [ true ↦ over | false ↦ on ]
    ]

atoms_in_block : (a b l : ℕ) → atoms_in (replicate 3 header ++ counts ∷ replicate a atom ++ replicate b bond ++ replicate l atom_list) ≡ a
atoms_in_block a b l =
    let first = atoms_both (replicate a atom) (replicate b bond) in
    let both = atoms_both (replicate a atom ++ replicate b bond) (replicate l atom_list) in
    both ∙ omega (arith, first, atoms_repeated a, none_repeated bond refl b, none_repeated atom_list refl l)

-- ---- the end mark comes after the blocks

abbrev is_end : Kind → Bool
is_end end_mark = true
is_end kind = false

abbrev NoEnd : Kind → Type 0
NoEnd kind = is_end kind ≡ false

no_end_at : (kinds : List Kind) (i : ℕ) → All NoEnd kinds → slice_get kinds i ≡ Some end_mark → ⊥
no_end_at [] i none is = absurd cc
no_end_at (kind ∷ kinds) zero none is = let same : kind ≡ end_mark = cc is in false≢true (sym (All-head NoEnd kind kinds none) ∙ ap is_end same)
no_end_at (kind ∷ kinds) (suc i) none is = no_end_at kinds i (All-tail NoEnd kind kinds none) is

no_end_in_block : (a b l : ℕ) → All NoEnd (replicate 3 header ++ counts ∷ replicate a atom ++ replicate b bond ++ replicate l atom_list)
no_end_in_block a b l =
    All-append NoEnd (replicate 3 header) (counts ∷ replicate a atom ++ replicate b bond ++ replicate l atom_list) (All-replicate NoEnd 3 header refl)
    (All-cons NoEnd counts (replicate a atom ++ replicate b bond ++ replicate l atom_list) refl
    (All-append NoEnd (replicate a atom ++ replicate b bond) (replicate l atom_list)
    (All-append NoEnd (replicate a atom) (replicate b bond) (All-replicate NoEnd a atom refl) (All-replicate NoEnd b bond refl)) (All-replicate NoEnd l atom_list refl)))

ends_later : (lines : List (List ℕ)) → HasEnd lines → length (block_kinds lines) < length lines
ends_later lines (i, at) = elim (cases_lt (length (block_kinds lines)) (length lines)) [
  | inl less ↦ less
  | inr over ↦
      let last : kinds_of lines ≡ take (length lines) (block_kinds lines) ++ [] =
      ap (λ (l : List (List ℕ)). take (length lines) (block_kinds lines) ++ kinds_after false l) (drop_all (length (block_kinds lines)) lines over) in
      let none : All NoEnd (take (length lines) (block_kinds lines) ++ []) =
      All-append NoEnd (take (length lines) (block_kinds lines)) [] (All-take NoEnd (length lines) (block_kinds lines) (no_end_in_block (atom_count lines) (bond_count lines) (list_count lines))) (All-nil NoEnd) in
      absurd (no_end_at (take (length lines) (block_kinds lines) ++ []) i none (subst (λ (k : List Kind). slice_get k i ≡ Some end_mark) last at))
]

-- all kinds of the blocks are there
kinds_are : (lines : List (List ℕ)) → HasEnd lines → kinds_of lines ≡ block_kinds lines ++ kinds_after false (drop (length (block_kinds lines)) lines)
kinds_are lines end =
    let later = ends_later lines end in
    ap (λ (k : List Kind). k ++ kinds_after false (drop (length (block_kinds lines)) lines)) (take_all (length lines) (block_kinds lines) (omega (arith, later)))

-- ---- the lines of atoms

abbrev picked : List (List ℕ) → List Kind → List (List ℕ)
picked lines kinds = filter_map (λ (line, is). if kind_is atom is then Some line else None) (zip lines kinds)

none_picked : (lines : List (List ℕ)) (kinds : List Kind) → atoms_in kinds ≡ 0 → length (picked lines kinds) ≡ 0
none_picked [] kinds none = refl
none_picked (line ∷ lines) [] none = refl
none_picked (line ∷ lines) (kind ∷ kinds) none = go (kind_is atom kind) refl none (λ rest. none_picked lines kinds rest)
  where
    go : (b : Bool) → kind_is atom kind ≡ b → one_more b (atoms_in kinds) ≡ 0 → (atoms_in kinds ≡ 0 → length (picked lines kinds) ≡ 0) → length (picked (line ∷ lines) (kind ∷ kinds)) ≡ 0
    go true is none rest = absurd (omega (arith, none))
    go false is none rest = rw is (rest none)

-- a line for each atom among the first kinds
all_picked : (lines : List (List ℕ)) (first rest : List Kind) → length first ≤ length lines → atoms_in rest ≡ 0 → length (picked lines (first ++ rest)) ≡ atoms_in first
all_picked lines [] rest few none = none_picked lines rest none
all_picked [] (kind ∷ first) rest few none = absurd (omega (arith, few))
all_picked (line ∷ lines) (kind ∷ first) rest few none = go (kind_is atom kind) refl (all_picked lines first rest (omega (arith, few)) none)
  where
    go : (b : Bool) → kind_is atom kind ≡ b → length (picked lines (first ++ rest)) ≡ atoms_in first → length (picked (line ∷ lines) (kind ∷ first ++ rest)) ≡ one_more b (atoms_in first)
    go true is more = rw is (ap suc more)
    go false is more = rw is more

atoms_are : (lines : List (List ℕ)) → HasEnd lines → length (lines_of_kind atom lines) ≡ atom_count lines
atoms_are lines end =
    let later = ends_later lines end in
    let after = none_after false (drop (length (block_kinds lines)) lines) in
    ap (λ (k : List Kind). length (picked lines k)) (kinds_are lines end)
    ∙ all_picked lines (block_kinds lines) (kinds_after false (drop (length (block_kinds lines)) lines)) (omega (arith, later)) after
    ∙ atoms_in_block (atom_count lines) (bond_count lines) (list_count lines)

numbered_long : (k : ℕ) (lines : List (List ℕ)) → length (zip (range_with_len k (length lines)) lines) ≡ length lines
numbered_long k [] = refl
numbered_long k (line ∷ lines) = ap suc (numbered_long (k + 1) lines)

-- ---- the counts line

some_atoms : (line : List ℕ) → counts_refusal line ≡ None → 1 ≤ unwrap_or (atoms_field line) 0
some_atoms line none =
    go (is_some (atoms_field line) && is_some (bonds_field line) && is_some (lists_field line) && is_some (stext_field line)) (length (field 34 39 line) == 0 || bytes_eq (field 34 39 line) (codes "V2000"))
    (unwrap_or (stext_field line) 0 == 0) (unwrap_or (atoms_field line) 0) none
  where
    go : (a b c : Bool) (n : ℕ) → first_code ((a, 1) ∷ (b, 2) ∷ (c, 3) ∷ (not (n == 0), 14) ∷ []) ≡ None → 1 ≤ n
    go false b c n is = absurd cc
    go true false c n is = absurd cc
    go true true false n is = absurd cc
    go true true true zero is = absurd cc
    go true true true (suc n) is = omega arith

not_some : (b : Bool) (code : ℕ) → b ≡ true → (if b then Some code else None) ≡ None → ⊥
not_some true code t is = absurd cc
not_some false code t is = false≢true t

few_atoms : (lines : List (List ℕ)) (line : List ℕ) → query_counts_refusal lines line ≡ None → (counts_refusal line ≡ None) × (atom_count lines ≤ 64)
few_atoms lines line none = go (counts_refusal line) (cases_lt 64 (atom_count lines)) none
  where
    go : (counted : Option ℕ) → (64 < atom_count lines) ⊎ (atom_count lines ≤ 64) → (if is_some counted then counted else (if nat_lt 64 (atom_count lines) then Some 20 else None)) ≡ None → (counted ≡ None) × (atom_count lines ≤ 64)
    go (Some code) which is = absurd cc
    go None (inl more) is = let test : nat_lt 64 (atom_count lines) ≡ true = lt-ltb 64 (atom_count lines) more in absurd (not_some (nat_lt 64 (atom_count lines)) 20 test is)
    go None (inr few) is = (refl, few)

not_long : (long : Bool) (rest : Option ℕ) → (if long then Some 13 else rest) ≡ None → rest ≡ None
not_long true rest is = absurd cc
not_long false rest is = is

counted : (lines : List (List ℕ)) → HasEnd lines → QueryLineRefusal lines 3 None → (1 ≤ atom_count lines) × (atom_count lines ≤ 64)
counted lines end (kind, at, none) =
    let here : Some kind ≡ Some counts = sym at ∙ ap (λ (k : List Kind). slice_get k 3) (kinds_are lines end) in
    let same : kind ≡ counts = cc here in
    let read : query_counts_refusal lines (line_at lines 3) ≡ None = not_long _ _ (subst (λ (k : Kind). query_refusal lines 3 k ≡ None) same none) in
    let both = few_atoms lines (line_at lines 3) read in
    (some_atoms (line_at lines 3) both.0, both.1)

accepted_atoms : (lines : List (List ℕ)) (q : QueryGraph) → IsAcceptedQuery lines q → (1 ≤ length q.atoms) × (length q.atoms ≤ 64)
accepted_atoms lines q is =
    let later = ends_later lines is.ends in
    let fourth : 3 < length lines = omega (arith, later) in
    let count = counted lines is.ends (is.passes 3 fourth) in
    let made : length (query_of lines).atoms ≡ length (lines_of_kind atom lines) =
    length-map (zip (range_with_len 1 (length (lines_of_kind atom lines))) (lines_of_kind atom lines)) (query_atom_of lines) ∙ numbered_long 1 (lines_of_kind atom lines) in
    let long : length q.atoms ≡ atom_count lines = ap (λ (x : QueryGraph). length x.atoms) is.query_is ∙ made ∙ atoms_are lines is.ends in
    (omega (arith, count.0, long), omega (arith, count.1, long))

pub read_atoms : (bytes : List ℕ) (q : QueryGraph) → IsFirstQueryOutcome bytes (Ok q) → (1 ≤ length q.atoms) × (length q.atoms ≤ 64)
read_atoms bytes q is = accepted_atoms is.section q is.is
