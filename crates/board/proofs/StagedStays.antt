-- A staged record stays staged while its caller goes on, until an event shows it.
use Rattle.std.proofs.Common.{◌≡◌, ℕ, ◌+◌, ◌-◌, ◌<◌, ◌≤◌, List, [], length, sym, ap, ◌∙◌, subst, arith, length-append}
use Rattle.std.proofs.lemmas.List.{get_or_append_left}
use Rattle.htss_defs.specs.declared.shape.Shape.{Shape}
use Rattle.board_core.specs.declared.account.Account.{Account}
use Rattle.board_core.specs.Blocks.{atoms_in, block_size}
use Rattle.board_core.specs.MarkRule.{IsAmong}
use Rattle.board_core.specs.RoomRule.{IsSealed, own_block, region_of, store_of}
use Rattle.board_core.proofs.BlockWords.{ShowSame, same_name, same_molecule}
use Rattle.board_core.specs.declared.room.RoomAccount.{RoomAccount}
use Rattle.board_core.specs.declared.room.Row.{Row}
use Rattle.board_core.specs.Each.{In}
use Rattle.std.proofs.lemmas.List.{append-nil}
use Rattle.board.specs.Staging.{Staging, IsWritten, IsStaged, StayStaged, KeepsRoom}

-- the words of a record's block are as they were
module _ (k : Shape) (a b : Account) (s : Staging) (h : IsWritten k a s) (keeps : KeepsRoom a b) where
  same_region : region_of k b.who ≡ region_of k a.who
  same_region = ap (region_of k) keeps.who

  word_same : (i : ℕ) → i < block_size (own_block k (store_of a) s.block 0) → own_block k (store_of b) s.block i ≡ own_block k (store_of a) s.block i
  word_same i less =
      let from = h.from in
      let until = h.until in
      let off : ℕ = s.block - region_of k a.who in
      (λ t. own_block k (record { who = keeps.who t; room = record b.room { used = keeps.used t }; pending = b.log.pending }) s.block i)
      ∙ get_or_append_left a.room.used keeps.more 0 (off + i) (omega arith)

  some_words : (n : ℕ) → 3 ≤ block_size n
  some_words n = omega arith

  same_block : ShowSame (own_block k (store_of a) s.block) (own_block k (store_of b) s.block)
  same_block = record {
    head = let some = some_words (own_block k (store_of a) s.block 0) in word_same 0 (omega arith);
    words = λ i past less. word_same i less;
  }

  pub written_stays : ¬ (IsAmong b.room.published s.block) → IsWritten k b s
  written_stays fresh =
      let from = h.from in
      let until = h.until in
      let size : length b.room.used ≡ length a.room.used + length keeps.more = ap length keeps.used ∙ length-append a.room.used keeps.more in
      let region = same_region in record {
        sealed = keeps.sealed s.block h.sealed;
        fresh = fresh;
        place = h.place;
        from = omega arith;
        until = subst (λ (n : ℕ). s.block + block_size n ≤ region_of k b.who + length b.room.used) (sym same_block.head) (omega arith);
        name_is = same_name (own_block k (store_of a) s.block) (own_block k (store_of b) s.block) same_block ∙ h.name_is;
        mol_is = same_molecule (own_block k (store_of a) s.block) (own_block k (store_of b) s.block) same_block ∙ h.mol_is;
      }

pub staged_stays : (k : Shape) (a b : Account) (s : Staging) → IsStaged k a s → KeepsRoom a b → ¬ (IsAmong b.room.published s.block) → IsStaged k b s
staged_stays k a b s h keeps fresh = record {
  written = written_stays k a b s h.written keeps fresh;
  placed = λ atom above most. keeps.placed _ (h.placed atom above (subst (λ (n : ℕ). atom ≤ atoms_in n) (same_block k a b s h.written keeps).head most));
}

-- a step that leaves the region and what is placed leaves all staged records
pub room_same : (k : Shape) (a b : Account) → b.who ≡ a.who → b.room ≡ a.room → b.tree.placed ≡ a.tree.placed → StayStaged k a b
room_same k a b who room placed s h = staged_stays k a b s h
    record {
      who = who;
      more = [];
      used = ap (λ (x : RoomAccount). x.used) room ∙ sym (append-nil a.room.used);
      sealed = λ block is. subst (λ (x : RoomAccount). IsSealed x.sealed block) (sym room) is;
      placed = λ row is. subst (λ (l : List Row). In row l) (sym placed) is;
    }
    (λ among. h.written.fresh (subst (λ (x : RoomAccount). IsAmong x.published s.block) room among))
