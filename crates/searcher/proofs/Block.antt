-- The words of a block, loaded one after the other.
use Rattle.std.proofs.Common.{◌≡◌, ℕ, ◌+◌, ◌*◌, ◌/◌, ◌<◌, ◌≤◌, ◌⊎◌, ⊎_elim, List, length, set, slice_index, sym, ◌∙◌, subst, arith, length-set, lt_of_not-le, inl, inr}
use mathlib.Core.Logic.{dite}
use native.Mathlib.Decide.{dec_le}
use lib.Seq.{get_or-set_same, get_or-set_other}
use Rattle.htss_defs.specs.declared.shape.Shape.{Shape}
use Rattle.board_core.specs.declared.account.Account.{Account}
use Rattle.board_core.specs.Blocks.{bytes_in, atoms_in, bonds_in, code_words_at, bond_words_at, block_size}
use Rattle.board_core.specs.After.{after_fact, after_head}
use Rattle.board_core.specs.Loaded.{KnowsBlock, KnowsHead, HasFact, HasBlock, Grows}
use Rattle.board.specs.Seated.{Seated, with_account}
use Rattle.board_core.proofs.Grown.{has_head, has_fact, fact_stays}
use Rattle.searcher.specs.Walking.{Reads, HasFacts}

-- ---- one word

pub head_known : (k : Shape) (c n : Seated) (block word : ℕ) → n ≡ with_account c (after_head c.account block word) → KnowsBlock k c.account block → KnowsHead k n.account block word
head_known k c n block word is known = subst (λ (x : Seated). KnowsHead k x.account block word) (sym is) (has_head k c.account block word known)

fact_word : (c n : Seated) (block i word : ℕ) → n ≡ with_account c (after_fact c.account (block + i) word) → HasFact n.account block i word
fact_word c n block i word is = subst (λ (x : Seated). HasFact x.account block i word) (sym is) (has_fact c.account block i word)

-- ---- the words up to a place

pub facts_none : (a : Account) (block from : ℕ) (words : List ℕ) → HasFacts a block words from from
facts_none a block from words i past below = absurd (omega arith)

pub facts_more : (k : Shape) (c n : Seated) (block from index word : ℕ) (words : List ℕ) → length words ≡ 7200 → index < 7200 → HasFacts c.account block words from index → Grows c.account n.account → n ≡ with_account c (after_fact c.account (block + index) word)
    → HasFacts n.account block (set words index word) from (index + 1)
facts_more k c n block from index word words size room has grown is i past below = dite (dec_le index i)
    (λ here. let at : index ≡ i = omega arith in
    subst (λ (z : ℕ). HasFact n.account block z (slice_index (set words index word) z)) at (subst (HasFact n.account block index) (sym (get_or-set_same words index word 0 (omega arith))) (fact_word c n block index word is)))
    (λ not_here. subst (HasFact n.account block i) (sym (get_or-set_other words index i word 0 (λ e. not_here (omega arith)))) (fact_stays k c.account n.account grown block i (slice_index words i) (has i past (lt_of_not-le not_here))))

pub others_more : (words old : List ℕ) (from until index word : ℕ) → from ≤ index → index < until → ((i : ℕ) → (i < from) ⊎ (until ≤ i) → slice_index words i ≡ slice_index old i) → (i : ℕ) → (i < from) ⊎ (until ≤ i) → slice_index (set words index word) i ≡ slice_index old i
others_more words old from until index word past below same i outside = get_or-set_other words index i word 0 (apart i outside) ∙ same i outside
  where
    apart : (i : ℕ) → (i < from) ⊎ (until ≤ i) → ¬ (i ≡ index)
    apart i out e = ⊎_elim (λ (l : i < from). absurd (omega arith)) (λ (r : until ≤ i). absurd (omega arith)) out

-- ---- the places of a block

-- the places of the codes and of the bonds
record AreInOrder (codes bonds size : ℕ) : Type 0 where
  low : 3 ≤ codes
  mid : codes ≤ bonds
  high : bonds ≤ size

in_order : (head : ℕ) → AreInOrder (code_words_at head) (bond_words_at head) (block_size head)
in_order head = ordered ((bytes_in head + 7) / 8) (atoms_in head) (bonds_in head)
  where
    ordered : (names atoms bonds : ℕ) → AreInOrder (3 + names + atoms) (3 + names + atoms + 5 * atoms) (3 + names + atoms + 5 * atoms + bonds)
    ordered names atoms bonds = record { low = omega arith; mid = omega arith; high = omega arith }

pub first_range : (head codes : ℕ) → codes ≡ code_words_at head → (3 ≤ 3) × (3 ≤ codes) × (codes ≤ block_size head)
first_range head codes is = let o = in_order head in let low = o.low in let mid = o.mid in let high = o.high in (omega arith, omega arith, omega arith)

pub last_range : (head bonds size : ℕ) → bonds ≡ bond_words_at head → size ≡ block_size head → (3 ≤ bonds) × (bonds ≤ size) × (size ≤ block_size head)
last_range head bonds size is all = let o = in_order head in let low = o.low in let mid = o.mid in let high = o.high in (omega arith, omega arith, omega arith)

-- ---- the whole block

pub block_whole : (k : Shape) (a b : Account) (block head codes bonds size : ℕ) (first words : List ℕ) → codes ≡ code_words_at head → bonds ≡ bond_words_at head → size ≡ block_size head → KnowsHead k b block head → slice_index first 0 ≡ head
    → HasFacts a block first 3 codes → Grows a b → HasFacts b block words bonds size → ((i : ℕ) → (i < bonds) ⊎ (size ≤ i) → slice_index words i ≡ slice_index first i) → HasBlock k b block (slice_index words)
block_whole k a b block head codes bonds size first words codes_are bonds_are size_is known is low grown high same =
    let o = in_order head in
    let least = o.low in
    let mid = o.mid in
    let zero_is : slice_index words 0 ≡ head = same 0 (inl (omega arith)) ∙ is in record {
      head = subst (KnowsHead k b block) (sym zero_is) known;
      facts = λ i past within.
          let below : i < codes = subst (λ (z : ℕ). i < z) (sym codes_are) (subst (λ (h : ℕ). i < code_words_at h) zero_is within) in
          subst (HasFact b block i) (sym (same i (inl (omega arith)))) (fact_stays k a b grown block i (slice_index first i) (low i past below));
      bonds = λ i past within. high i
          (subst (λ (z : ℕ). z ≤ i) (sym bonds_are) (subst (λ (h : ℕ). bond_words_at h ≤ i) zero_is past))
          (subst (λ (z : ℕ). i < z) (sym size_is) (subst (λ (h : ℕ). i < block_size h) zero_is within));
    }
