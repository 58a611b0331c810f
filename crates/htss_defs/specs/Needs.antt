-- The need of an atom of a query: what the codes of an atom of a molecule have to reach, so that it may stand there
-- (this project's own).
use Rattle.std.specs.Prelude.{ℕ, ◌-◌, ◌<◌, ◌≤◌, [], ◌∷◌, leb, slice_index, slice_index_or, if◌then◌else◌, Bool, true}
use Rattle.std.specs.Prelude.{not, ◌==◌, ◌&&◌, ◌||◌, IsTrue, pos}
use Rattle.std.specs.List.{count_by, list_all, range_with_len}
use Rattle.htss_defs.specs.declared.query.AtomTest.{AtomTest}
use Rattle.htss_defs.specs.declared.query.AtomTest.TheVariants.{Any}
use Rattle.htss_defs.specs.declared.query.QueryAtom.{QueryAtom}
use Rattle.htss_defs.specs.declared.query.QueryBond.{QueryBond}
use Rattle.htss_defs.specs.declared.codes.Codes.{Codes}
use Rattle.htss_defs.specs.declared.needs.Need.{Need}
use Rattle.htss_defs.specs.QueryGraph.{QueryGraph, query_shape, query_bond_ends}
use Rattle.htss_defs.specs.Passes.{allows}
use Rattle.htss_defs.specs.Distances.{count_within, is_end, degree}
use Rattle.htss_defs.specs.Codes.{lane, word_of, is_of_kind}

-- each element that the test allows is one that the lane, of 1 to 6, counts
unfoldable pub surely_of_kind : AtomTest → ℕ → Bool
surely_of_kind test i = list_all (λ element. not (allows test element) || is_of_kind i element) (range_with_len 1 118)

abbrev pub no_query_atom : QueryAtom
no_query_atom = record { test = Any; charge = pos 0; mass = 0 }

abbrev pub test_at : QueryGraph → ℕ → AtomTest
test_at q u = (slice_index_or q.atoms (u - 1) no_query_atom).test

-- the number of bonds at u that pass a test
unfoldable pub query_bonds_at : QueryGraph → ℕ → (QueryBond → Bool) → ℕ
query_bonds_at q u test = count_by (λ b. is_end (query_bond_ends b) u && test b) q.bonds

-- lanes of code 0: the degree, the numbers of bonds of exactly type 2, 3 and 4, and of those that are asked to be or
-- are ring bonds; the test stands for lane 0
abbrev pub own_need : QueryGraph → ℕ → ℕ → ℕ
own_need q u i =
    if i == 0 then 0
    else (if i == 1 then degree (query_shape q) u
    else (if i == 5 then query_bonds_at q u (λ b. b.topology == 1 || b.ring)
    else (if leb i 4 then query_bonds_at q u (λ b. b.kind == i)
    else 0)))

-- whatever stands for the atom v counts in lane i of the codes 1 to 4
abbrev pub surely_in : QueryGraph → ℕ → ℕ → Bool
surely_in q i v =
    if i == 0 then true
    else (if i == 7 then leb 3 (degree (query_shape q) v)
    else surely_of_kind (test_at q v) i)

-- lanes of code k, for k = 1 to 4: the atoms within distance k that surely count
abbrev pub near_need : QueryGraph → ℕ → ℕ → ℕ → ℕ
near_need q k u i = count_within (query_shape q) k u (surely_in q i)

unfoldable pub need_word : QueryGraph → ℕ → ℕ → ℕ
need_word q k u = word_of (if k == 0 then own_need q u else near_need q k u)

-- the need of the atom u
abbrev pub need_at : QueryGraph → ℕ → Need
need_at q u = record {
  test = test_at q u;
  words = need_word q 0 u ∷ need_word q 1 u ∷ need_word q 2 u ∷ need_word q 3 u ∷ need_word q 4 u ∷ [];
}

-- the test allows the element of the codes, and each lane of the codes is at least the need's
pub record Covers (need : Need) (codes : Codes) : Type 0 where
  pub element : IsTrue (allows need.test (lane (slice_index codes.words 0) 0))
  pub lanes : (k i : ℕ) → k < 5 → i < 8 → lane (slice_index need.words k) i ≤ lane (slice_index codes.words k) i
