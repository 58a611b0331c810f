-- A command that nothing hinders comes to its end.
use Rattle.std.proofs.Common.{◌≡◌, ◌⊎◌, ℕ, List, length, refl, sym, ap, subst, ◌∙◌, inl, inr, arith}
use Rattle.std.specs.Prelude.{Option, Some, None}
use Rattle.outside.specs.Files.{File, IsLarge}
use Rattle.outside.specs.Causes.{Rose, IsAbsent}
use Rattle.command_words.specs.Tasks.{Task, audit_of, check_of, codes_of, find_in, make_of, run_of}
use Rattle.command_ends.specs.Outcomes.{CommandEnd, differs, done, stopped, status_of}
use Rattle.command_ends.specs.Outcomes.{not_a_command, out_of_memory, script_faulty, read_failed, file_absent, file_too_large}
use Rattle.command_ends.specs.RunText.{CanBeRead}
use Rattle.command_ends.specs.Ends.{EndsAs, IsWritten, MayComeOut, MayDiffer, ShelfSeen, SinkSeen}
use Rattle.command_ends.specs.Completeness.{Completes, IsEndOf, IsUnhindered}

-- ---- a file that can be read

same_bytes : {a b : List ℕ} → Some a ≡ Some b → a ≡ b
same_bytes same = cc

not_absent : (told : Option (List File)) (files : List File) (name : List ℕ) (before now : ℕ) → told ≡ Some files → CanBeRead told name → IsAbsent told name before now → ⊥
not_absent None files name before now told can absent = cc
not_absent (Some kept) files name before now told (bytes, read) absent =
    let there = read.may in
    cc

not_large : (told : Option (List File)) (files : List File) (name : List ℕ) → told ≡ Some files → CanBeRead told name → IsLarge told name → ⊥
not_large None files name told can large = cc
not_large (Some kept) files name told (bytes, read) large =
    let there = read.may in
    let also = large.may in
    let more = large.more in
    let within = read.within in
    let same : bytes ≡ large.bytes = cc in
    omega (arith, more, within, ap length same)

-- ---- how it comes out

whole_end : (task : Task) → IsEndOf task 0
whole_end (find_in sdf query budget) = refl
whole_end (check_of sdf) = refl
whole_end (codes_of mol) = refl
whole_end (make_of count seed summary) = refl
whole_end (run_of script shape budget) = refl
whole_end (audit_of script report) = inl refl

different_end : (told : Option (List File)) (task : Task) (line : ℕ) → MayDiffer told task line → IsEndOf task 1
different_end told (find_in sdf query budget) line may = absurd may
different_end told (check_of sdf) line may = absurd may
different_end told (codes_of mol) line may = absurd may
different_end told (make_of count seed summary) line may = absurd may
different_end told (run_of script shape budget) line may = absurd may
different_end told (audit_of script report) line may = inr refl

module _ (task : Task) (shelf shelf_now : ShelfSeen) (out out_now : SinkSeen) (free : IsUnhindered task shelf shelf_now out out_now) where
  comes_out : (outcome : CommandEnd) → MayComeOut (Some task) shelf shelf_now outcome → IsEndOf task (status_of outcome) ⊎ (status_of outcome ≡ 6)
  comes_out (done text) may = inl (whole_end task)
  comes_out (differs line) may = inl (different_end shelf.told task line may)
  comes_out (stopped front not_a_command) may = absurd may
  comes_out (stopped front out_of_memory) may = inr refl
  comes_out (stopped front (script_faulty line)) may = absurd (free.script line may.1)
  comes_out (stopped front (read_failed name)) may = absurd (free.reads may.1)
  comes_out (stopped front (file_absent name)) may = absurd (not_absent shelf.told free.files name shelf.absent shelf_now.absent free.told (free.there front name may.0) may.1)
  comes_out (stopped front (file_too_large name)) may = absurd (not_large shelf.told free.files name free.told (free.there front name may.0) may.1)

refused_as : (shelf shelf_now : ShelfSeen) (outcome : CommandEnd) → MayComeOut None shelf shelf_now outcome → (status_of outcome ≡ 2) ⊎ (status_of outcome ≡ 6)
refused_as shelf shelf_now (done text) may = absurd may
refused_as shelf shelf_now (differs line) may = absurd may
refused_as shelf shelf_now (stopped front not_a_command) may = inl refl
refused_as shelf shelf_now (stopped front out_of_memory) may = inr refl
refused_as shelf shelf_now (stopped front (script_faulty line)) may = absurd may
refused_as shelf shelf_now (stopped front (read_failed name)) may = absurd may
refused_as shelf shelf_now (stopped front (file_absent name)) may = absurd may
refused_as shelf shelf_now (stopped front (file_too_large name)) may = absurd may

-- what was written tells the outcome
written_as : (Is : ℕ → Type 0) (out out_now : SinkSeen) (outcome : CommandEnd) (status : ℕ) → (Rose out.faults out_now.faults → ⊥) → IsWritten out out_now outcome status → Is (status_of outcome) ⊎ (status_of outcome ≡ 6)
    → Is status ⊎ (status ≡ 6)
written_as Is out out_now outcome status sound (inl whole) (inl is) = inl (subst Is (sym whole.0) is)
written_as Is out out_now outcome status sound (inl whole) (inr is) = inr (whole.0 ∙ is)
written_as Is out out_now outcome status sound (inr failed) either = absurd (sound failed.1)

pub Completes-ends : (task : Option Task) (shelf shelf_now : ShelfSeen) (out out_now : SinkSeen) (status : ℕ) → EndsAs task shelf shelf_now out out_now status → Completes task shelf shelf_now out out_now status
Completes-ends None shelf shelf_now out out_now status ends = λ sound. written_as (λ n. n ≡ 2) out out_now ends.outcome status sound ends.written (refused_as shelf shelf_now ends.outcome ends.may)
Completes-ends (Some task) shelf shelf_now out out_now status ends = λ free. written_as (IsEndOf task) out out_now ends.outcome status free.writes ends.written (comes_out task shelf shelf_now out out_now free ends.outcome ends.may)
