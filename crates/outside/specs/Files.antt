-- Files by name, and what a read gives of them (this project's own).
use Rattle.std.specs.Prelude.{◌≡◌, ◌⊎◌, ℕ, ◌<◌, ◌≤◌, List, [], ◌∷◌, length, take, drop, ◌++◌, if◌then◌else◌, Option}
use Rattle.std.specs.Prelude.{None, Some, Result, IfSome, IfOk, IsSomeAnd, MatchOption}
use Rattle.std.specs.Str.{bytes_eq}

pub record File : Type 0 where
  pub name : List ℕ
  pub bytes : List ℕ

-- the most bytes that a file may have
abbrev pub file_limit : ℕ
file_limit = 268435456

-- the bytes of the file with this name
abbrev pub bytes_of : List File → List ℕ → Option (List ℕ)
bytes_of [] name = None
bytes_of (file ∷ files) name =
    if bytes_eq file.name name then Some file.bytes else bytes_of files name

-- n bytes of these from the offset on, none only where none can be given
pub record Gives (bytes : List ℕ) (offset : ℕ) (into : List ℕ) (n : ℕ) : Type 0 where
  pub within : n ≤ length (drop offset bytes)
  pub same : take n into ≡ take n (drop offset bytes)
  pub progress : n ≡ 0 → (length into ≡ 0) ⊎ (length bytes ≤ offset)

-- what a read gives where the files are told: a told shelf gives nothing of a name that it lacks
abbrev pub GivesOfFile : {E : Type 0} → Option (List File) → List ℕ → ℕ → List ℕ → Result ℕ E
    → Type 0
GivesOfFile told name offset into result =
    IfOk result (λ n.
    IfSome told (λ files. IsSomeAnd (bytes_of files name) (λ bytes. Gives bytes offset into n)))

-- a whole reading of the file may give these bytes: those that are told, or any where none are
abbrev pub MayRead : Option (List File) → List ℕ → List ℕ → Type 0
MayRead told name bytes = IfSome told (λ files. bytes_of files name ≡ Some bytes)

-- the file was read whole: these are its bytes, and no more than a file may have
pub record WasRead (told : Option (List File)) (name bytes : List ℕ) : Type 0 where
  pub may : MayRead told name bytes
  pub within : length bytes ≤ file_limit

-- the file has more bytes than a file may have
pub record IsLarge (told : Option (List File)) (name : List ℕ) : Type 0 where
  pub bytes : List ℕ
  pub may : MayRead told name bytes
  pub more : file_limit < length bytes

-- these are the first bytes of the file
pub record IsFront (bytes front : List ℕ) : Type 0 where
  pub parts : front ++ drop (length front) bytes ≡ bytes

-- a reading of the file from its front may have given these bytes so far
abbrev pub HasFront : Option (List File) → List ℕ → List ℕ → Type 0
HasFront told name front =
    IfSome told (λ files. MatchOption (bytes_of files name) (front ≡ []) (λ bytes. IsFront bytes front))
