-- The files of a script's jobs, as they are read.
use Rattle.std.specs.Prelude.{◌≡◌, ◌⊎◌, ℕ, ◌+◌, ◌<◌, ◌≤◌, List, [], ◌∷◌, ◌++◌, length, map, All, Contains, Option, Some}
use Rattle.script_text.specs.declared.script.Job.{Job}
use Rattle.script_text.specs.FilesByLine.{bytes_at}
use Rattle.outside.specs.Files.{File, file_limit}
use Rattle.command_words.specs.Tasks.{Task, audit_of, run_of}
use Rattle.command_ends.specs.Outcomes.{Why}
use Rattle.command_ends.specs.Ends.{ShelfSeen}
use Rattle.command_ends.specs.Stops.{IsStopOfFile}
use Rattle.command_ends.specs.RunText.{AreFilesOf, CanBeRead, files_named}

-- the numbers rise, from this one on
abbrev pub RisesFrom : ℕ → List ℕ → Type 0
RisesFrom first [] = Unit {0}
RisesFrom first (n ∷ ns) = (first ≤ n) × RisesFrom (n + 1) ns

abbrev pub lines_of_jobs : List Job → List ℕ
lines_of_jobs jobs = map (λ job. job.line) jobs

abbrev pub AreRising : List Job → Type 0
AreRising jobs = RisesFrom 1 (lines_of_jobs jobs)

-- the line comes after those of these jobs
abbrev pub IsAfter : List Job → ℕ → Type 0
IsAfter jobs line = All (λ job. job.line < line) jobs

-- files stand for lines of these jobs alone
abbrev pub AreOnlyFor : List (ℕ × List ℕ) → List Job → Type 0
AreOnlyFor files jobs = (line : ℕ) (bytes : List ℕ) → bytes_at files line ≡ Some bytes
    → Contains (lines_of_jobs jobs) line

-- none of the files has more bytes than a file may have
abbrev pub AreWithin : List (ℕ × List ℕ) → Type 0
AreWithin files = (line : ℕ) (bytes : List ℕ) → bytes_at files line ≡ Some bytes → length bytes ≤ file_limit

-- the files of these jobs were read, and no others are there
pub record HaveFiles (told : Option (List File)) (files : List (ℕ × List ℕ)) (jobs : List Job) : Type 0 where
  pub are : AreFilesOf told files jobs
  pub only : AreOnlyFor files jobs
  pub within : AreWithin files

-- a file of these jobs could not be read, and those before it were
pub record StopsAmong (before now : ShelfSeen) (jobs : List Job) (why : Why) : Type 0 where
  pub earlier : List (List ℕ)
  pub name : List ℕ
  pub later : List (List ℕ)
  pub named : files_named jobs ≡ earlier ++ name ∷ later
  pub were_read : All (CanBeRead before.told) earlier
  pub stop : IsStopOfFile before now name why

-- the task has the script of this name
abbrev pub HasScript : Task → List ℕ → Type 0
HasScript (run_of script shape budget) name = name ≡ script
HasScript (audit_of script report) name = name ≡ script
HasScript _ name = ⊥
