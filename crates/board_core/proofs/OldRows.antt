-- Old rows are placed: their blocks are published, so sealed, and all rows of a published block are placed.
use Rattle.std.proofs.Common.{◌≡◌, ◌≢◌, ℕ, ◌+◌, ◌*◌, ◌^◌, ◌<◌, ◌≤◌, List, sym, subst, arith}
use Rattle.htss_defs.specs.declared.shape.Shape.{Shape}
use Rattle.htss_defs.specs.declared.history.Event.{Event}
use Rattle.board_core.specs.declared.account.View.{View}
use Rattle.board_core.specs.Words.{Parts}
use Rattle.board_core.specs.LogWord.{target_in}
use Rattle.board_core.specs.Blocks.{atoms_in}
use Rattle.board_core.specs.Histories.{block_at}
use Rattle.board_core.specs.RoomRule.{store_of}
use Rattle.board_core.specs.MarkRule.{ShowsAt, IsAmong}
use Rattle.board_core.specs.Sheets.{sheet_of}
use Rattle.board_core.specs.Rows.{words_of, codes_in, IsPlaced}
use Rattle.board_core.specs.RowWalk.{IsFound}
use Rattle.board_core.specs.OldRows.{IsOldRow}
use Rattle.board_core.specs.Holds.{Rule}
use Rattle.board_core.proofs.RoomFrame.{block_stands}
use Rattle.board_core.proofs.MarkKnown.{shows_here}
use Rattle.board_core.proofs.RowWalk.{found}

pub old_placed : (k : Shape) (p : Parts) (h : List Event) (vs : List View) (f n : ℕ) → Rule k p h vs → f ≤ p.log.front → IsOldRow k p.regions p.log.slots f n → IsPlaced vs n × (n ≢ 0)
old_placed k p h vs f n r most old =
    let i : ℕ = old.index in
    let before = old.before in
    let behind : i < p.log.front = omega arith in
    let block : ℕ = target_in (p.log.slots i) in
    let (j, v, at, t, a, there, shown) = r.rooms.named i behind old.kind in
    let (b, s, in_list, place) = shown.1 in
    let shows : ShowsAt p.log.front p.log.slots s.place (i + 1) = subst (λ (z : ℕ). ShowsAt p.log.front p.log.slots z (i + 1)) (sym place) (shows_here p i behind old.kind) in
    let among : IsAmong a.room.published block = subst (IsAmong a.room.published) place ((r.marks.marks j v at t a there b s in_list).noted (i + 1) shows) in
    let head : block_at k p.regions block 0 ≡ words_of k a.who a.room.used block 0 =
    subst (λ (z : ℕ). block_at k p.regions z 0 ≡ words_of k a.who a.room.used z 0) place (block_stands k p.regions (store_of a) b s (r.rooms.rooms j v at t a there) in_list).head in
    let placed = (r.published j v at t a there).published block among old.atom old.above (subst (λ (z : ℕ). old.atom ≤ atoms_in z) head old.most) in
    let above = old.above in
    let names : block * 2 ^ 10 + old.atom ≡ n = old.names in
    ((j, v, at, t, a, there, (record { block = block; atom = old.atom }, placed, old.names)), λ e. omega arith)

-- and so their walks find them
pub found_old : (k : Shape) (p : Parts) (h : List Event) (vs : List View) (n : ℕ) → Rule k p h vs → IsOldRow k p.regions p.log.slots p.log.front n → IsFound p.pages (codes_in k p.regions n) n
found_old k p h vs n r old = found p.pages (sheet_of p.pool.states vs) r.tree.place (codes_in k p.regions) (IsPlaced vs) r.tree.tree n
    (r.tree.tree.placed n (old_placed k p h vs p.log.front n r (omega arith) old).0)
