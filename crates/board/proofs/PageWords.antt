-- The places of announcements and of states of pages, and the steps on them as the calls ask for them.
use Rattle.std.proofs.Common.{◌≡◌, ℕ, Bool, true, false, suc, ◌+◌, ◌*◌, ◌-◌, ◌<◌, ◌≤◌, ◌==◌, sym, ◌∙◌, subst, arith}
use mathlib.Core.Option.{none}
use prog.Atomic.{either}
use Rattle.atomic_table.specs.Table.{step, Allows}
use Rattle.htss_defs.specs.declared.shape.Shape.{Shape}
use Rattle.board_core.specs.declared.account.Who.{Who}
use Rattle.board_core.specs.Words.{states_at}
use Rattle.board_core.specs.Accounts.{seat_of}
use Rattle.board_core.specs.SeatRule.{WhoFits}
use Rattle.board_core.specs.Loaded.{IsPage}
use Rattle.board_core.specs.Holds.{Holds}
use Rattle.board_core.specs.Steps.{Mine, MayTakePage, MayRetire, LoadsState, TakesPage, Retires}
use Rattle.board_core.proofs.Pooled.{seat_within}
use Rattle.board_core.proofs.LoadState.{state_allowed}
use Rattle.board_core.proofs.TakePage.{page_allowed}
use Rattle.board_core.proofs.RetirePage.{retire_allowed}
use Rattle.board.specs.Seated.{who_of}

-- ---- places

above_seat : (k l : Shape) (loader : Bool) (n : ℕ) → WhoFits l (who_of loader n) → 0 < seat_of k (who_of loader n)
above_seat k l true n f = f.0
above_seat k l false n f = let above = f.0 in omega arith

-- a caller's announcement
pub announce_at : (k key l : Shape) (loader : Bool) (n at : ℕ) (w : Who) → key ≡ k → l ≡ key → w ≡ who_of loader n → at ≡ 2 + seat_of k (who_of loader n) → WhoFits l w
    → (at ≡ 3 + (seat_of key w - 1)) × (seat_of key w ≡ suc (seat_of key w - 1)) × (seat_of key w ≤ k.loaders + k.searchers)
announce_at k key l loader n at w e f is place fits =
    let same : seat_of key w ≡ seat_of k (who_of loader n) = λ i. seat_of (e i) (is i) in
    let above : 0 < seat_of k (who_of loader n) = above_seat k l loader n (subst (WhoFits l) is fits) in
    let within : seat_of k (who_of loader n) ≤ k.loaders + k.searchers = seat_within k (who_of loader n) (subst (λ (x : Shape × Who). WhoFits x.0 x.1) (λ i. ((f ∙ e) i, is i)) fits) in
    (omega arith, omega arith, omega arith)

pub announce_word : (words l s p log rest at seat : ℕ) → words ≡ 3 + l + s + p + 16 * p + log + rest → at ≡ 3 + (seat - 1) → seat ≡ suc (seat - 1) → seat ≤ l + s → at < words
announce_word words l s p log rest at seat e is above within = omega arith

pub pass_word : (words l s p log rest i : ℕ) → words ≡ 3 + l + s + p + 16 * p + log + rest → i < l + s → 3 + i < words
pass_word words l s p log rest i e within = omega arith

pub state_word : (words l s p log rest at page : ℕ) → words ≡ 3 + l + s + p + 16 * p + log + rest → at ≡ 3 + l + s + (page - 1) → 0 < page → page ≤ p → at < words
state_word words l s p log rest at page e is above within = omega arith

-- ---- steps at a page that the call picks

pub state_asked : (k : Shape) (slots id q page at_word : ℕ) (m : Mine) → q ≡ page → at_word ≡ states_at k + (page - 1) → IsPage k page → Allows (Holds k) slots id m at_word (λ n. n) (LoadsState q (step slots at_word 0 0 none) m)
state_asked k slots id q page at_word m is place within = subst (λ (z : ℕ). Allows (Holds k) slots id m at_word (λ n. n) (LoadsState z (step slots at_word 0 0 none) m)) (sym is) (state_allowed k slots id page at_word m place within)

pub page_asked : (k : Shape) (slots id loader q page x at_word : ℕ) (m : Mine) → q ≡ page → at_word ≡ states_at k + (page - 1) → MayTakePage k m.0.me loader page x → Allows (Holds k) slots id m at_word (λ n. either (n == x) 1 n) (TakesPage q (step slots at_word x 1 none) m)
page_asked k slots id loader q page x at_word m is place may = subst (λ (z : ℕ). Allows (Holds k) slots id m at_word (λ n. either (n == x) 1 n) (TakesPage z (step slots at_word x 1 none) m)) (sym is) (page_allowed k slots id loader page x at_word m place may)

pub retire_asked : (k : Shape) (slots id q page n at_word : ℕ) (m : Mine) → q ≡ page → at_word ≡ states_at k + (page - 1) → MayRetire k m.0.me page n → Allows (Holds k) slots id m at_word (λ _. n + 1) (λ _. Retires q (step slots at_word (n + 1) 0 none) m 0)
retire_asked k slots id q page n at_word m is place may = subst (λ (z : ℕ). Allows (Holds k) slots id m at_word (λ _. n + 1) (λ _. Retires z (step slots at_word (n + 1) 0 none) m 0)) (sym is) (retire_allowed k slots id page n at_word m place may)
