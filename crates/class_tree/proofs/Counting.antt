-- How many pages a walk has linked, and how many it may still link.
use Rattle.std.proofs.Common.{◌≡◌, ℕ, zero, suc, ◌+◌, ◌*◌, ◌≤◌, Bool, List, [], ◌∷◌, length, take, refl, ap, arith}
use Rattle.board_core.specs.declared.account.Account.{Account}
use Rattle.board_core.specs.declared.tree.Counts.{Counts}
use Rattle.board_core.specs.After.{after_link, after_more}
use Rattle.board_core.specs.CountRule.{most_linked, insertions_of}
use Rattle.board_core.specs.Steps.{MayLink}
use Rattle.board.specs.Seated.{Seated}
use Rattle.class_tree.specs.Walking.{Rest, rest_of, Reads}

-- loads link nothing
pub counts_more : (a : Account) (j n : ℕ) → (after_more a j n).counts ≡ a.counts
counts_more a j zero = refl
counts_more a j (suc n) = refl

pub counts_link : (a : Account) (j i c n : ℕ) (leaf : Bool) → (after_link a j i c n leaf).counts ≡ a.counts
counts_link a j i c zero leaf = refl
counts_link a j i c (suc n) leaf = refl

pub reads_counts : (n : ℕ) (c d : Seated) → Reads c d n → d.account.counts ≡ c.account.counts
reads_counts n c d r = ap (λ (x : Seated). x.account.counts) r.only

-- where at most m more were linked
pub may_less : (n m : ℕ) (a b : Account) → rest_of b ≡ rest_of a → b.counts.linked ≤ a.counts.linked + m → MayLink a (m + n) → MayLink b n
may_less n m a b rest less may = let begun : insertions_of b ≡ insertions_of a = ap (λ (x : Rest). length x.begun) rest in omega arith

pub may_on : (n : ℕ) (a b : Account) → rest_of b ≡ rest_of a → b.counts ≡ a.counts → MayLink a n → MayLink b n
may_on n a b rest same may = let linked : b.counts.linked ≡ a.counts.linked = ap (λ (x : Counts). x.linked) same in let begun : insertions_of b ≡ insertions_of a = ap (λ (x : Rest). length x.begun) rest in omega arith

pub take_most : {A : Type 0} (n : ℕ) (l : List A) → length (take n l) ≤ n
take_most zero l = omega arith
take_most (suc n) [] = omega arith
take_most (suc n) (x ∷ l) = let rest = take_most n l in omega arith
