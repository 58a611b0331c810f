-- A block that is written, with all its rows placed, is a staged record; what was staged before stays so.
use Rattle.std.proofs.Common.{◌≡◌, ℕ, suc, ◌+◌, ◌<◌, ◌≤◌, List, [], ◌∷◌, ◌++◌, length, refl, sym, ap, ◌∙◌, subst, arith, append-nil}
use Rattle.htss_defs.specs.declared.shape.Shape.{Shape}
use Rattle.htss_defs.specs.Molecule.{Molecule}
use Rattle.board_core.specs.declared.account.Account.{Account}
use Rattle.board_core.specs.declared.account.Who.{Who}
use Rattle.board_core.specs.declared.entry.Entry.{Entry}
use Rattle.board_core.specs.declared.room.RoomAccount.{RoomAccount}
use Rattle.board_core.specs.declared.room.Row.{Row}
use Rattle.board_core.specs.Each.{Each, In}
use Rattle.board_core.specs.Blocks.{atoms_in, atom_of, atom_words_at, first_of}
use Rattle.board_core.specs.MarkRule.{IsAmong}
use Rattle.board_core.specs.RoomRule.{IsSealed, own_block, store_of}
use Rattle.board_core.specs.Rows.{words_of}
use Rattle.board_core.specs.After.{after_answer}
use Rattle.board_core.proofs.Lists.{at_longer}
use Rattle.board_core.proofs.PageLoads.{in_left}
use Rattle.board_core.proofs.Shown.{length_first}
use Rattle.block_words.specs.Writing.{size_of, written}
use Rattle.board.specs.Seated.{Seated, with_account}
use Rattle.board.specs.Staging.{Staging, IsWritten, IsStaged, StayStaged, KeepsRoom}
use Rattle.board.proofs.StagedStays.{written_stays, staged_stays, room_same}
use Rattle.loader.specs.Stages.{next_block, after_block, rows_of, HasRows}
use Rattle.loader.proofs.BlockRows.{rows_in}

-- ---- what is kept

keeps_block : (a : Account) (s : Staging) → KeepsRoom a (after_block a s)
keeps_block a s = record {
  who = refl;
  more = first_of (written s.name s.mol) (size_of s.name s.mol);
  used = refl;
  sealed = λ block is. (is.0, is.1, at_longer a.room.sealed (record { place = s.block; size = size_of s.name s.mol } ∷ []) is.0 is.1 is.2, is.3);
  placed = λ row is. is;
}

keeps_rows : (a b : Account) (block begun placed : ℕ) (es : List Entry) → HasRows a b block begun placed es → KeepsRoom a b
keeps_rows a b block begun placed es rows = record {
  who = rows.who;
  more = [];
  used = ap (λ (x : RoomAccount). x.used) rows.room ∙ sym (append-nil a.room.used);
  sealed = λ place is. subst (λ (x : RoomAccount). IsSealed x.sealed place) (sym rows.room) is;
  placed = λ row is. subst (λ (l : List Row). In row l) (sym rows.rows_placed) (in_left a.tree.placed (rows_of block placed) row is);
}

-- ---- records that were staged before

others_kept : (k : Shape) (a b : Account) (s : Staging) (block begun placed : ℕ) (es : List Entry) → HasRows (after_block a s) b block begun placed es → StayStaged k a b
others_kept k a b s block begun placed es rows t h =
    let first : IsStaged k (after_block a s) t = staged_stays k a (after_block a s) t h (keeps_block a s) h.written.fresh in
    staged_stays k (after_block a s) b t first (keeps_rows (after_block a s) b block begun placed es rows)
    (λ among. h.written.fresh (subst (λ (x : RoomAccount). IsAmong x.published t.block) rows.room among))

pub others_after : (k : Shape) (c d : Seated) (b : Account) (s : Staging) (block begun placed : ℕ) (es : List Entry) → d ≡ with_account c (after_block c.account s) → HasRows d.account b block begun placed es → StayStaged k c.account b
others_after k c d b s block begun placed es is rows = others_kept k c.account b s block begun placed es (subst (λ (x : Seated). HasRows x.account b block begun placed es) is rows)

pub others_answered : (k : Shape) (c d : Seated) (es : List Entry) → d ≡ with_account c (after_answer c.account es) → StayStaged k c.account d.account
others_answered k c d es is = subst (λ (x : Seated). StayStaged k c.account x.account) (sym is) (room_same k c.account (after_answer c.account es) refl refl refl)

-- ---- the rows of the block

-- no row of the next block was placed before
pub rows_new : (k : Shape) (c d : Seated) (s : Staging) (place : ℕ) → place ≡ next_block k c.account → d ≡ with_account c (after_block c.account s) → Each (λ r. IsSealed c.account.room.sealed r.block) c.account.tree.placed
    → Each (λ t. t.place < next_block k c.account) c.account.room.sealed → (atom : ℕ) → In (record { block = place; atom = atom }) d.account.tree.placed → ⊥
rows_new k c d s place is same sealed before atom there =
    let here : In (record { block = place; atom = atom }) c.account.tree.placed = subst (λ (x : Seated). In (record { block = place; atom = atom }) x.account.tree.placed) same there in
    let block = sealed here.0 (record { block = place; atom = atom }) here.1 in
    let less = before block.0 block.1 block.2 in let at = block.3 in absurd (omega arith)

-- the block has so many atoms
atoms_same : (k : Shape) (a : Account) (s : Staging) → IsWritten k a s → atoms_in (words_of k a.who a.room.used s.block 0) ≡ length s.mol.atoms
atoms_same k a s h =
    let f : ℕ → ℕ = own_block k (store_of a) s.block in
    sym (length_first (λ i. atom_of (f (atom_words_at (f 0) + i))) (atoms_in (f 0))) ∙ ap (λ (m : Molecule). length m.atoms) h.mol_is

pub atoms_enough : (k : Shape) (d : Seated) (s : Staging) (atoms : ℕ) → IsWritten k d.account s → atoms ≡ length s.mol.atoms → atoms ≤ atoms_in (words_of k d.account.who d.account.room.used s.block 0)
atoms_enough k d s atoms h is = let same = atoms_same k d.account s h in omega arith

all_staged : (k : Shape) (a b : Account) (s : Staging) (es : List Entry) → IsWritten k a s → HasRows a b s.block (length s.mol.atoms) (length s.mol.atoms) es → IsStaged k b s
all_staged k a b s es h rows = record {
  written = written_stays k a b s h (keeps_rows a b s.block (length s.mol.atoms) (length s.mol.atoms) es rows) (λ among. h.fresh (subst (λ (x : RoomAccount). IsAmong x.published s.block) rows.room among));
  placed = λ atom above most. subst (λ (l : List Row). In (record { block = s.block; atom = atom }) l) (sym rows.rows_placed)
      (in_right a.tree.placed (rows_of s.block (length s.mol.atoms)) (record { block = s.block; atom = atom })
      (rows_in s.block (length s.mol.atoms) atom above
      (let most_before : atom ≤ atoms_in (words_of k a.who a.room.used s.block 0) = subst (λ (x : Who × RoomAccount). atom ≤ atoms_in (words_of k x.0 x.1.used s.block 0)) (λ t. (rows.who t, rows.room t)) most in
      let same = atoms_same k a s h in omega arith)));
}
  where
    in_right : (xs ys : List Row) (r : Row) → In r ys → In r (xs ++ ys)
    in_right [] ys r h = h
    in_right (x ∷ xs) ys r h = let t = in_right xs ys r h in (suc t.0, t.1)

pub staged_now : (k : Shape) (d e : Seated) (s t : Staging) (place atoms : ℕ) → IsWritten k d.account s → HasRows d.account e.account place atoms atoms [] → place ≡ s.block → atoms ≡ length s.mol.atoms → t ≡ s → IsStaged k e.account t
staged_now k d e s t place atoms h rows here all is = subst (IsStaged k e.account) (sym is)
    (all_staged k d.account e.account s [] h (subst (λ (x : ℕ × ℕ). HasRows d.account e.account x.0 x.1 x.1 []) (λ i. (here i, all i)) rows))
