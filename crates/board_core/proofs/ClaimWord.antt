-- The five exchanges of a page word that is 0, as one: the step as the table asks, and what it leaves of the account.
use Rattle.std.proofs.Common.{◌≡◌, ℕ, zero, suc, ◌<◌, ◌==◌, sym, refl, ◌∙◌, subst, arith, length}
use mathlib.Core.Option.{none}
use prog.Atomic.{either}
use Rattle.atomic_table.specs.Table.{step, Allows}
use Rattle.htss_defs.specs.declared.shape.Shape.{Shape}
use Rattle.board_core.specs.declared.account.Account.{Account}
use Rattle.board_core.specs.Loaded.{IsPage, page_word}
use Rattle.board_core.specs.Holds.{Holds}
use Rattle.board_core.specs.After.{visited, after_more, after_inner, after_slot}
use Rattle.board_core.specs.Steps.{Mine, Claim, LeafBelow, EntryOf, CodeOf, LeafBehind, InnerBehind, IsClaimAt, MayClaim, after_claim, ClaimsWord}
use Rattle.board_core.proofs.LinkLeaf.{leaf_allowed}
use Rattle.board_core.proofs.ClaimEntry.{entry_allowed}
use Rattle.board_core.proofs.ClaimCode.{code_allowed}
use Rattle.board_core.proofs.LinkNext.{more_leaf_allowed, inner_allowed}

abbrev Asked : Shape → ℕ → ℕ → Mine → ℕ → Claim → ℕ → Type 0
Asked k slots id m at_word claim word = Allows (Holds k) slots id m at_word (λ f. either (f == 0) word f) (ClaimsWord claim (step slots at_word 0 word none) m)

claimed_at : (k : Shape) (a : Account) (j at n page place word at_word : ℕ) → IsClaimAt a j at n page place word → at_word ≡ page_word k page place → at_word ≡ page_word k (visited a.tree.reached j).page at
claimed_at k a j at n page place word at_word c is = is ∙ (λ i. page_word k (c.page_is i) (c.place_is i))

pub claim_word_allowed : (k : Shape) (slots id page place word at_word : ℕ) (m : Mine) (claim : Claim) → at_word ≡ page_word k page place → m.0.shape ≡ k → MayClaim k m.0.me page place word claim → Asked k slots id m at_word claim word
claim_word_allowed k slots id page place word at_word m (LeafBelow j i c n q) is shape (may, small, at) = subst (Asked k slots id m at_word (LeafBelow j i c n q)) (sym at.word_is)
    (leaf_allowed k slots id j i c n at_word q m (claimed_at k m.0.me j _ n page place word at_word at is) small shape may)
claim_word_allowed k slots id page place word at_word m (EntryOf j q) is shape (may, at) = subst (Asked k slots id m at_word (EntryOf j q)) (sym at.word_is)
    (entry_allowed k slots id j at_word q m (claimed_at k m.0.me j _ _ page place word at_word at is) may)
claim_word_allowed k slots id page place word at_word m (CodeOf j c) is shape (may, at) = subst (Asked k slots id m at_word (CodeOf j c)) (sym at.word_is)
    (code_allowed k slots id j c at_word m (claimed_at k m.0.me j _ c page place word at_word at is) may)
claim_word_allowed k slots id page place word at_word m (LeafBehind j n q) is shape (may, at) = subst (Asked k slots id m at_word (LeafBehind j n q)) (sym at.word_is)
    (more_leaf_allowed k slots id j n at_word q m (claimed_at k m.0.me j _ n page place word at_word at is) shape may)
claim_word_allowed k slots id page place word at_word m (InnerBehind j n c) is shape (may, at) = subst (Asked k slots id m at_word (InnerBehind j n c)) (sym at.word_is)
    (inner_allowed k slots id j n c at_word m (claimed_at k m.0.me j _ n page place word at_word at is) shape may)

-- the page is one of the table, and the place one of its sixteen
inside_at : (k : Shape) (a : Account) (j at n page place word : ℕ) → IsClaimAt a j at n page place word → IsPage k (visited a.tree.reached j).page → at < 16 → IsPage k page × (place < 16)
inside_at k a j at n page place word c in_table small = let is = c.place_is in (subst (IsPage k) (sym c.page_is) in_table, omega arith)

pub claim_inside : (k : Shape) (a : Account) (page place word : ℕ) (claim : Claim) → MayClaim k a page place word claim → IsPage k page × (place < 16)
claim_inside k a page place word (LeafBelow j i c n q) (may, small, at) = inside_at k a j _ n page place word at may.load.visit.inside (omega arith)
claim_inside k a page place word (EntryOf j q) (may, at) = let room = may.room in inside_at k a j _ _ page place word at may.visit.inside (omega arith)
claim_inside k a page place word (CodeOf j c) (may, at) = let room = may.room in inside_at k a j _ c page place word at may.visit.inside (omega arith)
claim_inside k a page place word (LeafBehind j n q) (may, at) = inside_at k a j _ n page place word at may.may.load.visit.inside (omega arith)
claim_inside k a page place word (InnerBehind j n c) (may, at) = inside_at k a j _ n page place word at may.may.load.visit.inside (omega arith)

-- log, room and whose it is stay
pub record KeepsCaller (a b : Account) : Type 0 where
  pub who : b.who ≡ a.who
  pub log : b.log ≡ a.log
  pub room : b.room ≡ a.room
  pub lasting : b.tree.lasting ≡ a.tree.lasting

more_keeps : (a : Account) (j n : ℕ) → KeepsCaller a (after_more a j n)
more_keeps a j zero = record { who = refl; log = refl; room = refl; lasting = refl }
more_keeps a j (suc n) = record { who = refl; log = refl; room = refl; lasting = refl }

slot_keeps : (a : Account) (j n : ℕ) → KeepsCaller a (after_slot a j n)
slot_keeps a j zero = record { who = refl; log = refl; room = refl; lasting = refl }
slot_keeps a j (suc n) = record { who = refl; log = refl; room = refl; lasting = refl }

pub claim_keeps : (a : Account) (claim : Claim) → KeepsCaller a (after_claim a claim)
claim_keeps a (LeafBelow j i c n q) = record { who = refl; log = refl; room = refl; lasting = refl }
claim_keeps a (EntryOf j q) = record { who = refl; log = refl; room = refl; lasting = refl }
claim_keeps a (CodeOf j c) = record { who = refl; log = refl; room = refl; lasting = refl }
claim_keeps a (LeafBehind j n q) = record { who = refl; log = refl; room = refl; lasting = refl }
claim_keeps a (InnerBehind j n c) = let m = more_keeps (after_inner a n) j n in let s = slot_keeps (after_more (after_inner a n) j n) (length a.tree.reached) c in record { who = s.who ∙ m.who; log = s.log ∙ m.log; room = s.room ∙ m.room; lasting = s.lasting ∙ m.lasting }
