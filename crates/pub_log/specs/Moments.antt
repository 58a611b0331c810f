-- Each kind of step leads to a later moment (this project's own).
use Rattle.std.specs.Prelude.{◌≡◌, ℕ, List, [], ◌∷◌, ◌++◌, set}
use mathlib.Core.Option.{some}
use lib.ListN.{get_elem?}
use Rattle.atomic_table.specs.Table.{Step}
use Rattle.board_core.specs.declared.account.View.{View}
use Rattle.board_core.specs.declared.account.Who.TheVariants.{Opener, Note}
use Rattle.board_core.specs.declared.entry.Entry.{Entry}
use Rattle.board_core.specs.declared.log.Ending.{Ending}
use Rattle.board_core.specs.declared.room.Row.{Row}
use Rattle.board_core.specs.declared.room.Sealed.{Sealed}
use Rattle.htss_defs.specs.declared.history.Event.{Event}
use Rattle.htss_defs.specs.declared.shape.Shape.{Shape}
use Rattle.board_core.specs.Accounts.{account, view, with_me, keeping, gone, made_by}
use Rattle.board_core.specs.After.{after_made, after_hear}
use Rattle.board_core.specs.Steps.{Mine, Exchange, Claim, Takes, Frees, Answers, LoadsFront, Stores, Shows, Ends, Logs}
use Rattle.board_core.specs.Steps.{ShowsEvent, LoadsLog, LoadsHead, LoadsMark, LoadsCode, LoadsFact, LoadsEpoch}
use Rattle.board_core.specs.Steps.{Advances, Pins, Unpins, Passes, LoadsState, TakesPage, Retires, StoresOwn}
use Rattle.board_core.specs.Steps.{BeginsWalk, LoadsHeader, LoadsSlot, LoadsLink, LoadsMore, ClaimsWord, ExchangesLeaf}
use Rattle.board_core.specs.Steps.{LoadsOwnCode, BeginsRow, LoadsOwnHead}
use Rattle.board_core.specs.Passing.{PassesLeaf}
use Rattle.board_core.specs.Met.{LoadsEntry, LoadsMetHead, LoadsMetCode}
use Rattle.pub_log.specs.Later.{IsLater}

-- wherever a seat makes a step of this kind, the accounts afterwards are later
abbrev pub GoesLater : (Step (Unit {0}) → Mine → ℕ → Mine → Type 0) → Type 0
GoesLater then = (vs : List View) (id : ℕ) (s : Step (Unit {0})) (m : Mine) (found : ℕ) (n : Mine)
    → get_elem? vs id ≡ some m.0 → then s m found n → IsLater vs (set vs id n.0)

-- the steps on the log and on the blocks
pub record LogStepsGoLater : Type 0 where
  pub take_lock : GoesLater Takes
  pub free_lock : (answers : List Entry) → GoesLater (Frees answers)
  pub answer : (answers : List Entry) → GoesLater (Answers answers)
  pub load_front : GoesLater LoadsFront
  pub load_log_word : GoesLater LoadsLog
  pub store_word : (blocks : List Sealed) → GoesLater (Stores blocks)
  pub store_shown : (block : ℕ) → GoesLater (Shows block)
  pub store_ended : (ending : Ending) → GoesLater (Ends ending)
  pub store_log_word : GoesLater Logs
  pub show_event : (event : Event) → GoesLater (ShowsEvent event)
  pub load_head : GoesLater LoadsHead
  pub load_mark : GoesLater LoadsMark
  pub load_fact : GoesLater LoadsFact
  pub load_code : (row : Row) (code : ℕ) → GoesLater (LoadsCode row code)

-- the steps on epochs, pages and the tree
pub record PageStepsGoLater : Type 0 where
  pub load_epoch : GoesLater LoadsEpoch
  pub advance_epoch : GoesLater Advances
  pub pin : GoesLater Pins
  pub unpin : GoesLater Unpins
  pub load_announcement : GoesLater Passes
  pub load_state : (page : ℕ) → GoesLater (LoadsState page)
  pub take_page : (page : ℕ) → GoesLater (TakesPage page)
  pub retire : (page : ℕ) → GoesLater (Retires page)
  pub store_own : (page place : ℕ) → GoesLater (StoresOwn page place)
  pub begin_walk : GoesLater BeginsWalk
  pub load_header : (reached : ℕ) → GoesLater (LoadsHeader reached)
  pub load_slot : (reached : ℕ) → GoesLater (LoadsSlot reached)
  pub load_link : (reached index code : ℕ) → GoesLater (LoadsLink reached index code)
  pub load_more : (reached : ℕ) → GoesLater (LoadsMore reached)
  pub pass_leaf : (reached : ℕ) → GoesLater (PassesLeaf reached)
  pub claim : (claim : Claim) → GoesLater (ClaimsWord claim)
  pub exchange_leaf : (exchange : Exchange) → GoesLater (ExchangesLeaf exchange)
  pub load_own_code : (row : Row) (code : ℕ) → GoesLater (LoadsOwnCode row code)
  pub begin_row : (row : Row) (code : ℕ) → GoesLater (BeginsRow row code)
  pub load_own_head : (block : ℕ) → GoesLater (LoadsOwnHead block)
  pub load_entry : (reached index : ℕ) → GoesLater (LoadsEntry reached index)
  pub load_met_head : (entry : ℕ) → GoesLater (LoadsMetHead entry)
  pub load_met_code : (entry code : ℕ) → GoesLater (LoadsMetCode entry code)

-- seats that are made, that hear, and that gather others
pub record SeatsGoLater : Type 0 where
  pub made : (vs : List View) (id : ℕ) (v w : View) → get_elem? vs id ≡ some v → v.me.who ≡ Opener (made_by v.me.who)
      → IsLater vs (set vs id (with_me v (after_made v.me)) ++ w ∷ [])
  pub noted : (vs : List View) (w : View) → IsLater vs (vs ++ w ∷ [])
  pub heard : (vs : List View) (id other seen : ℕ) (v : View) (k : Shape) → get_elem? vs id ≡ some v → ¬ (other ≡ id)
      → get_elem? vs other ≡ some (view k (account Note seen))
      → IsLater vs (set (set vs id (with_me v (after_hear v.me seen))) other gone)
  pub gathered : (vs : List View) (id other : ℕ) (v w : View) → get_elem? vs id ≡ some v → ¬ (other ≡ id)
      → get_elem? vs other ≡ some w
      → IsLater vs (set (set vs id (keeping v w)) other gone)

-- and a moment that is later than a later one is later
pub record LawOfMoments : Type 0 where
  pub log : LogStepsGoLater
  pub pages : PageStepsGoLater
  pub seats : SeatsGoLater
  pub again : (vs ws us : List View) → IsLater vs ws → IsLater ws us → IsLater vs us
