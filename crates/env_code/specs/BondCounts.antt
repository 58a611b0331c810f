-- The bonds at each place, counted by type: counts that stop at 255.
use Rattle.std.specs.Prelude.{◌≡◌, ℕ, ◌+◌, ◌<◌, List, min, leb, slice_index, if◌then◌else◌, Bool, true, ◌==◌, ◌&&◌}
use Rattle.std.specs.List.{count_by}
use Rattle.htss_defs.specs.declared.graph.Ends.{Ends}
use Rattle.htss_defs.specs.declared.mol.Bond.{Bond}
use Rattle.htss_defs.specs.Molecule.{bond_ends}
use Rattle.htss_defs.specs.Distances.{is_end}
use Rattle.env_code.specs.declared.bond_counts.BondCounts.{BondCounts}

-- how many bonds at x pass a test
unfoldable pub count_at : List Bond → ℕ → (Bond → Bool) → ℕ
count_at bonds x test = count_by (λ b. is_end (bond_ends b) x && test b) bonds

-- each place has its count of the bonds that pass a test
pub record HasCounts (bonds : List Bond) (test : Bond → Bool) (counts : List ℕ) : Type 0 where
  pub at : (x : ℕ) → x < 1000 → slice_index counts x ≡ min (count_at bonds x test) 255

pub record AreBondCounts (bonds : List Bond) (c : BondCounts) : Type 0 where
  pub degree : HasCounts bonds (λ b. true) c.degree
  pub double : HasCounts bonds (λ b. b.kind == 2) c.double
  pub triple : HasCounts bonds (λ b. b.kind == 3) c.triple
  pub aromatic : HasCounts bonds (λ b. b.kind == 4) c.aromatic
  pub ring : HasCounts bonds (λ b. b.ring) c.ring

-- one more at both ends
pub record IsOneMore (ends : Ends) (counts after : List ℕ) : Type 0 where
  pub at : (x : ℕ) → x < 1000 → slice_index after x ≡ min (slice_index counts x + (if is_end ends x then 1 else 0)) 255

-- lanes of the word of a place: all bonds, those of type 2, 3 and 4, and ring bonds
abbrev pub own_count : List Bond → ℕ → ℕ → ℕ → ℕ
own_count bonds x lowest i =
    if i == 0 then lowest
    else (if i == 1 then count_at bonds x (λ b. true)
    else (if i == 5 then count_at bonds x (λ b. b.ring)
    else (if leb i 4 then count_at bonds x (λ b. b.kind == i)
    else 0)))
