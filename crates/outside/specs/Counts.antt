-- What each answer leaves of the counts of absent names and of faults.
use Rattle.std.specs.Prelude.{ℕ, ◌+◌, ◌-◌, ◌^◌, ◌==◌, ◌&&◌, not, min, if◌then◌else◌, List, length, Result, Ok, Err}
use Rattle.outside.specs.declared.shelf.ShelfError.{ShelfError}
use Rattle.outside.specs.declared.shelf.ShelfError.TheVariants.{Absent, Failed}

-- a count that rises by one, and stands still at its last value
abbrev pub risen : ℕ → ℕ
risen count = min (count + 1) (2 ^ 64 - 1)

-- the count of absent names after this answer of a read
abbrev pub absent_after : Result ℕ ShelfError → ℕ → ℕ
absent_after (Ok n) before = before
absent_after (Err Absent) before = risen before
absent_after (Err Failed) before = before

-- the count of faults after this answer of a read
abbrev pub faults_after : Result ℕ ShelfError → ℕ → ℕ
faults_after (Ok n) before = before
faults_after (Err Absent) before = before
faults_after (Err Failed) before = risen before

-- the count of faults after this answer of a write; to take nothing of a piece with bytes is one
abbrev pub write_faults_after : {E : Type 0} → Result ℕ E → List ℕ → ℕ → ℕ
write_faults_after (Ok n) piece before =
    if n == 0 && not (length piece == 0) then risen before else before
write_faults_after (Err e) piece before = risen before
