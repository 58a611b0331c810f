-- The log: who has the lock, which words stand in the log, and what the holder has stored (this project's own).
use Rattle.std.specs.Prelude.{◌≡◌, ℕ, ◌<◌, ◌≤◌, ◌==◌, List, length, Option, Some, None, if◌then◌else◌}
use Rattle.htss_defs.specs.declared.shape.Shape.{Shape}
use Rattle.htss_defs.specs.declared.history.Event.{Event}
use Rattle.htss_defs.specs.History.{IsLegal}
use Rattle.board_core.specs.declared.account.Who.{Who}
use Rattle.board_core.specs.declared.account.Who.TheVariants.{Loader}
use Rattle.board_core.specs.declared.account.Account.{Account}
use Rattle.board_core.specs.declared.account.View.{View}
use Rattle.board_core.specs.declared.log.Holding.{Holding}
use Rattle.board_core.specs.declared.log.Holding.TheVariants.{Away, Taken, Fronted}
use Rattle.board_core.specs.declared.log.Ending.{Ending}
use Rattle.board_core.specs.declared.log.LogAccount.{LogAccount}
use Rattle.board_core.specs.Each.{Each}
use Rattle.board_core.specs.Words.{LogWords}
use Rattle.board_core.specs.LogWord.{loader_in}
use Rattle.board_core.specs.Histories.{IsOpen, MayShow, caller_of}
use Rattle.board_core.specs.Accounts.{nothing, EachAccount, total}

-- facet: all that this part reads of an account
pub record Hand : Type 0 where
  pub who : Who
  pub log : LogAccount

abbrev pub hand_of : Account → Hand
hand_of a = record { who = a.who; log = a.log }

abbrev pub is_held : Holding → ℕ
is_held Away = 0
is_held Taken = 1
is_held Fronted = 1

-- 1 where somebody has the lock
abbrev pub is_taken : ℕ → ℕ
is_taken lock = if lock == 0 then 0 else 1

-- the log word that is stored and not shown, or 0
abbrev pub word_or_0 : Option ℕ → ℕ
word_or_0 (Some word) = word
word_or_0 None = 0

-- the holder is the loader whose number the lock has. Only a holder that has loaded the front has something pending
abbrev pub Holds : LogWords → Hand → Holding → Type 0
Holds w h Away = h.log.pending ≡ nothing
Holds w h Taken = (h.who ≡ Loader w.lock) × (h.log.pending ≡ nothing)
Holds w h Fronted = (h.who ≡ Loader w.lock) × (h.log.seen ≡ w.front)

-- the log word that is stored is the holder's, and may be shown
pub record IsNext (k : Shape) (w : LogWords) (history : List Event) (word : ℕ) : Type 0 where
  pub room : w.front < k.log
  pub there : w.slots w.front ≡ word
  pub own : loader_in word ≡ w.lock
  pub may : MayShow history word

pub record HandFits (k : Shape) (w : LogWords) (history : List Event) (h : Hand) : Type 0 where
  pub seen : h.log.seen ≤ w.front
  pub holds : Holds w h h.log.holding
  pub shows : (block : ℕ) → h.log.pending.shows ≡ Some block → w.front < k.log
  pub ends : (e : Ending) → h.log.pending.ends ≡ Some e → (w.front < k.log) × IsOpen history e.target
  pub logged : (word : ℕ) → h.log.pending.logged ≡ Some word → IsNext k w history word

-- events are by loaders of the board
abbrev pub IsByLoader : Shape → Event → Type 0
IsByLoader k e = (0 < caller_of e) × (caller_of e ≤ k.loaders)

pub record LogRule (k : Shape) (w : LogWords) (history : List Event) (vs : List View) : Type 0 where
  pub front : w.front ≤ k.log
  pub counted : length history ≡ w.front
  pub legal : IsLegal history
  pub callers : Each (IsByLoader k) history
  pub blank : (i : ℕ) → w.front < i → w.slots i ≡ 0
  pub next : w.slots w.front ≡ total (λ a. word_or_0 a.log.pending.logged) vs
  pub lock : total (λ a. is_held a.log.holding) vs ≡ is_taken w.lock
  pub hands : EachAccount (λ a. HandFits k w history (hand_of a)) vs
