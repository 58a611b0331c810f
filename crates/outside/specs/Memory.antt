-- What the shelf and the sink in memory hold, and what each call answers and leaves.
use Rattle.std.specs.Prelude.{◌≡◌, ◌≢◌, ℕ, ◌-◌, ◌==◌, min, if◌then◌else◌, List, ◌++◌, length, take, map, AllPairs}
use Rattle.std.specs.Prelude.{Option, None, Some, Result, Ok, Err, Bool}
use Rattle.std.specs.List.{list_any}
use Rattle.std.specs.Result.{result_unwrap_or}
use Rattle.outside.specs.declared.named_bytes.NamedBytes.{NamedBytes}
use Rattle.outside.specs.declared.shelf.ShelfError.{ShelfError}
use Rattle.outside.specs.declared.shelf.ShelfError.TheVariants.{Absent, Failed}
use Rattle.outside.specs.declared.sink.Failed.{Failed as WriteFailed}
use Rattle.outside.specs.Files.{File, bytes_of}
pub use Rattle.outside.specs.Counts.{risen, absent_after, faults_after, write_faults_after}

abbrev pub file_of : NamedBytes → File
file_of file = record { name = file.name; bytes = file.bytes }

abbrev pub files_of : List NamedBytes → List File
files_of files = map file_of files

-- no two files have one name
abbrev pub HaveOwnNames : List NamedBytes → Type 0
HaveOwnNames files = AllPairs (λ a b. a.name ≢ b.name) files

-- the call stands in the list
abbrev pub is_listed : List ℕ → ℕ → Bool
is_listed calls call = list_any (λ listed. listed == call) calls

-- what contracts see of a `MemShelf`
pub record ShelfState : Type 0 where
  pub files : List File
  pub failing : List ℕ
  pub calls : ℕ
  pub absent : ℕ
  pub faults : ℕ

-- the count of bytes from the offset on, as many as there are and fit
abbrev pub count_or_absent : Option (List ℕ) → ℕ → ℕ → Result ℕ ShelfError
count_or_absent None offset room = Err Absent
count_or_absent (Some bytes) offset room = Ok (min room (length bytes - offset))

-- what this call of a `MemShelf` answers
abbrev pub read_answer : ShelfState → ℕ → List ℕ → ℕ → ℕ → Result ℕ ShelfError
read_answer shelf call name offset room =
    if is_listed shelf.failing call
    then Err Failed
    else count_or_absent (bytes_of shelf.files name) offset room

-- what a read of a `MemShelf` answers and leaves
pub record ReadsFrom (old new : ShelfState) (name : List ℕ) (offset : ℕ) (into : List ℕ)
    (result : Result ℕ ShelfError) : Type 0 where
  pub answer : result ≡ read_answer old new.calls name offset (length into)
  pub calls : new.calls ≡ risen old.calls
  pub absent : new.absent ≡ absent_after result old.absent
  pub faults : new.faults ≡ faults_after result old.faults
  pub files : new.files ≡ old.files
  pub failing : new.failing ≡ old.failing

-- what contracts see of a `MemSink`
pub record SinkState : Type 0 where
  pub bytes : List ℕ
  pub room : ℕ
  pub most : ℕ
  pub failing : List ℕ
  pub zero : List ℕ
  pub calls : ℕ
  pub faults : ℕ

-- how many bytes of a piece this call of a `MemSink` takes, if it does not fail
abbrev pub count_taken : SinkState → ℕ → List ℕ → ℕ
count_taken sink call piece =
    if is_listed sink.zero call
    then 0
    else min (min (length piece) sink.most) (sink.room - length sink.bytes)

-- what this call of a `MemSink` answers
abbrev pub write_answer : SinkState → ℕ → List ℕ → Result ℕ WriteFailed
write_answer sink call piece =
    if is_listed sink.failing call
    then Err (record {})
    else Ok (count_taken sink call piece)

-- what a write to a `MemSink` answers and leaves
pub record WritesTo (old new : SinkState) (piece : List ℕ)
    (result : Result ℕ WriteFailed) : Type 0 where
  pub answer : result ≡ write_answer old new.calls piece
  pub calls : new.calls ≡ risen old.calls
  pub bytes : new.bytes ≡ old.bytes ++ take (result_unwrap_or result 0) piece
  pub faults : new.faults ≡ write_faults_after result piece old.faults
  pub room : new.room ≡ old.room
  pub most : new.most ≡ old.most
  pub failing : new.failing ≡ old.failing
  pub zero : new.zero ≡ old.zero
