-- When a fault may be answered: only where a count of the outside has risen (this project's own).
use Rattle.std.specs.Prelude.{◌≡◌, ℕ, ◌+◌, ◌-◌, ◌^◌, ◌≤◌, min, List, Option, None, Result, MatchOption, IsErrOf}
use Rattle.outside.specs.declared.shelf.ShelfError.{ShelfError}
use Rattle.outside.specs.declared.shelf.ShelfError.TheVariants.{Absent, Failed}
use Rattle.outside.specs.Files.{File, bytes_of}

-- the count has risen, or stands at its last value
abbrev pub Rose : ℕ → ℕ → Type 0
Rose before now = min (before + 1) (2 ^ 64 - 1) ≤ now

-- the name is on no told shelf; where the shelf does not tell, the count of absent names rose
abbrev pub IsAbsent : Option (List File) → List ℕ → ℕ → ℕ → Type 0
IsAbsent told name before now =
    MatchOption told (Rose before now) (λ files. bytes_of files name ≡ None)

-- what a read leaves of the counts, and when it may answer a fault
pub record ReadCauses (told : Option (List File)) (name : List ℕ)
    (absent_before absent_now faults_before faults_now : ℕ)
    (result : Result ℕ ShelfError) : Type 0 where
  pub absent_later : absent_before ≤ absent_now
  pub faults_later : faults_before ≤ faults_now
  pub absent : IsErrOf result Absent → IsAbsent told name absent_before absent_now
  pub failed : IsErrOf result Failed → Rose faults_before faults_now
