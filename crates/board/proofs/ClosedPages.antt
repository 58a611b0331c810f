-- What is read of the pages of a board that was closed.
use Rattle.std.proofs.Common.{◌≡◌, ℕ, zero, suc, ◌+◌, ◌*◌, ◌-◌, ◌≤◌, ◌<◌, Bool, cond, List, get_or, sym, ap, ◌∙◌, subst, arith, lt-ltb}
use mathlib.Core.Option.{some}
use lib.ListN.{get_elem?}
use Rattle.htss_defs.specs.declared.shape.Shape.{Shape}
use Rattle.board_core.specs.declared.account.View.{View}
use Rattle.board_core.specs.Words.{part, states_at, pages_at}
use Rattle.board_core.specs.Loaded.{IsPage, page_word}
use Rattle.board_core.proofs.Stored.{part_at}
use Rattle.board.specs.Closed.{Closing, closing, state_in, pages_in}
use Rattle.board.proofs.Endings.{at_get}

-- what a part has at a place within it, where the word of the table is known
read_at : (from size : ℕ) (ws : List ℕ) (i at word : ℕ) → i < size → at ≡ from + i → get_elem? ws at ≡ some word → word ≡ part from size ws i
read_at from size ws i at word inside is here = sym (part_at from size ws i inside ∙ (ap (λ (z : ℕ). get_or ws z 0) (sym is) ∙ at_get ws at word here))

in_shape : (k : Shape) (ws : List ℕ) (v : View) (c : Closing) (p : ℕ) → closing k ws v ≡ c → IsPage c.shape p → IsPage k p
in_shape k ws v c p e page = subst (λ (x : Closing). IsPage x.shape p) (sym e) page

state_there : (k : Shape) (ws : List ℕ) (v : View) (p at word : ℕ) → IsPage k p → at ≡ states_at k + (p - 1) → get_elem? ws at ≡ some word → word ≡ state_in (closing k ws v).states p
state_there k ws v zero at word page is here = let none : 0 < 0 = page.0 in absurd (omega arith)
state_there k ws v (suc p) at word page is here = let within : suc p ≤ k.pages = page.1 in let back : suc p - 1 ≡ p = omega arith in
    read_at (states_at k) k.pages ws p at word (omega arith) (is ∙ ap (λ (z : ℕ). states_at k + z) back) here

pub state_read : (k : Shape) (ws : List ℕ) (v : View) (c : Closing) (p at word : ℕ) → closing k ws v ≡ c → IsPage c.shape p → at ≡ states_at k + (p - 1) → get_elem? ws at ≡ some word → word ≡ state_in c.states p
state_read k ws v c p at word e page is here = state_there k ws v p at word (in_shape k ws v c p e page) is here ∙ ap (λ (x : Closing). state_in x.states p) e

word_there : (k : Shape) (ws : List ℕ) (v : View) (p i at word : ℕ) → IsPage k p → i < 16 → at ≡ page_word k p i → get_elem? ws at ≡ some word → word ≡ pages_in (closing k ws v).pages p i
word_there k ws v zero i at word page small is here = let none : 0 < 0 = page.0 in absurd (omega arith)
word_there k ws v (suc p) i at word page small is here = let within : suc p ≤ k.pages = page.1 in let back : suc p - 1 ≡ p = omega arith in
    read_at (pages_at k) (16 * k.pages) ws (16 * p + i) at word (omega arith) (is ∙ ap (λ (z : ℕ). pages_at k + (16 * z + i)) back) here
    ∙ ap (λ (b : Bool). cond b (part (pages_at k) (16 * k.pages) ws (16 * p + i)) 0) (sym (lt-ltb i 16 small))

pub page_read : (k : Shape) (ws : List ℕ) (v : View) (c : Closing) (p i at word : ℕ) → closing k ws v ≡ c → IsPage c.shape p → i < 16 → at ≡ page_word k p i → get_elem? ws at ≡ some word → word ≡ pages_in c.pages p i
page_read k ws v c p i at word e page small is here = word_there k ws v p i at word (in_shape k ws v c p e page) small is here ∙ ap (λ (x : Closing). pages_in x.pages p i) e
