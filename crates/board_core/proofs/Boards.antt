-- Each step tells that there is a board that has the caller. What that says of an entry that was read, and of what the caller has stored.
use Rattle.std.proofs.Common.{◌≡◌, ℕ, ◌≤◌, length, sym, refl, subst, arith}
use Rattle.atomic_table.specs.Table.{Step, Allows}
use Rattle.atomic_table.proofs.Lists.{set_here}
use Rattle.htss_defs.specs.declared.shape.Shape.{Shape}
use Rattle.board_core.specs.declared.account.Account.{Account}
use Rattle.board_core.specs.declared.account.Who.{Who}
use Rattle.board_core.specs.declared.account.Who.TheVariants.{Opener, Loader, Searcher, Note, Gone}
use Rattle.board_core.specs.Words.{parts_of}
use Rattle.board_core.specs.Histories.{history_of}
use Rattle.board_core.specs.Holds.{Holds}
use Rattle.board_core.specs.RoomRule.{store_of, room_of, RoomFits}
use Rattle.board_core.specs.Rows.{block_named}
use Rattle.board_core.specs.Loaded.{IsInTable}
use Rattle.board_core.specs.Steps.{Mine}
use Rattle.board_core.specs.Met.{HasMet}
use Rattle.board_core.specs.Boards.{SomeBoard, OnBoard}
use Rattle.board_core.proofs.Everyone.{mine}
use Rattle.board_core.proofs.Lists.{inside}
use Rattle.board_core.proofs.LoadSealed.{sealed_in_table}
use Rattle.board_core.proofs.LoadMet.{met_row}

pub on_board : (k : Shape) (slots id i : ℕ) (m : Mine) (f : ℕ → ℕ) (s : Step (Unit {0})) (Loads : Step (Unit {0}) → Mine → ℕ → Mine → Type 0) → m.0.shape ≡ k → Allows (Holds k) slots id m i f (Loads s m) → Allows (Holds k) slots id m i f (OnBoard Loads s m)
on_board k slots id i m f s Loads shape allows t h homes at small =
    let (w, act, valid, holds, told) = allows t h homes at small in
    (w, act, valid, holds, record { told = told; before = subst (λ (z : Shape). SomeBoard z m.0.me) (sym shape) (parts_of k t.words, t.views, record { rule = h.rule; id = id; view = m.0; at = at; me = refl }); board = subst (λ (z : Shape). SomeBoard z w.me) (sym shape) (_, _, record { rule = holds.rule; id = id; view = w; at = set_here t.views id w (inside t.views id m.0 at); me = refl }) })

-- the block that an entry names is in the table
pub met_in_table : (k : Shape) (a : Account) (j i n : ℕ) → SomeBoard k a → HasMet a j i n → IsInTable k (block_named n)
met_in_table k a j i n (p, vs, b) met =
    let row = met_row k p (history_of k p) vs b.id b.view b.rule b.at j i n (subst (λ (x : Account). HasMet x j i n) (sym b.me) met) in
    (sealed_in_table k p.regions vs (block_named n) b.rule.seats b.rule.rooms.rooms row.sealed).0

room_at_most : (k : Shape) (who : Who) → room_of k who ≤ k.room
room_at_most k (Loader n) = omega arith
room_at_most k (Searcher n) = omega arith
room_at_most k (Opener n) = omega arith
room_at_most k Note = omega arith
room_at_most k Gone = omega arith

-- what the caller has stored lies within a region
pub room_within : (k : Shape) (a : Account) → SomeBoard k a → length a.room.used ≤ k.room
room_within k a (p, vs, b) =
    let fits = mine (λ x. RoomFits k p.regions (store_of x)) vs b.id b.view b.at b.rule.rooms.rooms in
    let within = fits.within in
    let most = room_at_most k b.view.me.who in
    subst (λ (x : Account). length x.room.used ≤ k.room) b.me (omega arith)
