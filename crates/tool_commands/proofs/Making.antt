-- How `make` ends, by how the writing of its file did.
use Rattle.std.proofs.Common.{◌≡◌, ℕ, ◌≤◌, false, [], take, drop, refl, sym, ap, ◌∙◌, inl, inr, arith}
use Rattle.std.specs.Io.KnownBytes.{append_known}
use Rattle.std.proofs.lemmas.List.{take-append-drop}
use Rattle.outside.specs.Causes.{Rose}
use Rattle.outside.specs.Written.{GrewByFront}
use Rattle.script_text.specs.Generator.{made_file}
use Rattle.command_words.specs.Tasks.{make_of}
use Rattle.command_ends.specs.Outcomes.{done, fault_line, out_of_memory, stopped}
use Rattle.command_ends.specs.Ends.{IsWritten, SinkSeen}
use Rattle.command_ends.specs.Stops.{EndsUnread}
use Rattle.command_ends.proofs.Writing.{GrewByFront-after, append_known-twice}

pub made_whole : (count seed : ℕ) (old now : SinkSeen) → now.written ≡ append_known old.written (made_file count seed) → EndsUnread (make_of count seed false) old now 0
made_whole count seed old now written = record {
  outcome = done (made_file count seed);
  may = λ shelf shelf_now. refl;
  written = inl (refl, written);
}

pub made_cut : (count seed : ℕ) (old now : SinkSeen) → Rose old.faults now.faults → GrewByFront old.written now.written (made_file count seed) → EndsUnread (make_of count seed false) old now 5
made_cut count seed old now rose grew = record {
  outcome = done (made_file count seed);
  may = λ shelf shelf_now. refl;
  written = inr (refl, rose, grew);
}

-- memory ran out after a front of the file, and the line that says so was written behind it
pub made_stopped : (count seed : ℕ) (old middle now : SinkSeen) (status : ℕ) → GrewByFront old.written middle.written (made_file count seed) → old.faults ≤ middle.faults → IsWritten middle now (stopped [] out_of_memory) status
    → EndsUnread (make_of count seed false) old now status
made_stopped count seed old middle now status grew later ends =
    let front = take grew.count (made_file count seed) in
    record {
      outcome = stopped front out_of_memory;
      may = λ shelf shelf_now. (drop grew.count (made_file count seed), sym (take-append-drop grew.count (made_file count seed)));
      written = elim ends [
        | inl whole ↦ inl (whole.0, whole.1 ∙ ap (λ k. append_known k (fault_line out_of_memory)) grew.front ∙ append_known-twice old.written front (fault_line out_of_memory))
        | inr cut ↦ inr (cut.0, omega (arith, later, cut.1), GrewByFront-after old.written middle.written now.written front (fault_line out_of_memory) grew.front cut.2)
      ];
    }
