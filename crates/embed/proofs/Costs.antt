-- The cost of the places that were tried, and what is paid for them.
use Rattle.std.proofs.Common.{◌≡◌, ℕ, zero, suc, ◌+◌, ◌-◌, ◌<◌, ◌≤◌, true, List, [], ◌∷◌, ◌++◌, length, sum_by, cond, refl, sym, ap, ◌∙◌, inl, inr, arith}
use Rattle.std.specs.List.{range_with_len}
use Rattle.std.proofs.lemmas.Bool.{cond-true, cases_lt}
use Rattle.std.proofs.lemmas.List.{length_push, map-id}
use Rattle.std.proofs.lemmas.List.FromFn.{map-range_with_len_more}
use Rattle.std.proofs.lemmas.List.Sums.{sum_by-append, sum_by-cons}
use Rattle.htss_defs.specs.Molecule.{Molecule}
use Rattle.htss_defs.specs.QueryGraph.{QueryGraph}
use Rattle.htss_defs.specs.Cost.{cost, cost_left, keeps_tests, places}
use Rattle.embed.specs.Paid.{Paid, IsSpent}

-- the cost below one place
unfoldable pub branch : QueryGraph → Molecule → List ℕ → ℕ → ℕ
branch q m f p = cond (keeps_tests q m (f ++ p ∷ [])) (cost q m (f ++ p ∷ [])) 0

-- the cost below the first n places
unfoldable pub tried : QueryGraph → Molecule → List ℕ → ℕ → ℕ
tried q m f zero = 0
tried q m f (suc n) = tried q m f n + branch q m f (suc n)

pub tried-none : (q : QueryGraph) (m : Molecule) (f : List ℕ) → tried q m f 0 ≡ 0
unfolding tried
tried-none q m f = refl

pub tried-le : (q : QueryGraph) (m : Molecule) (f : List ℕ) (i n : ℕ) → i ≤ n → tried q m f i ≤ tried q m f n
unfolding tried
tried-le q m f i zero le = let e : i ≡ 0 = omega arith in rw e (omega arith)
tried-le q m f i (suc n) le = elim (cases_lt n i) [
  | inl last ↦ let e : i ≡ suc n = omega arith in rw e (omega arith)
  | inr before ↦ omega (arith, tried-le q m f i n before)
]

-- a later place that keeps the tests adds the cost below it
tried-more : (q : QueryGraph) (m : Molecule) (f : List ℕ) (n p : ℕ) → n < p
    → keeps_tests q m (f ++ p ∷ []) ≡ true → tried q m f n + cost q m (f ++ p ∷ []) ≤ tried q m f p
unfolding tried branch
tried-more q m f n zero lt keeps = absurd (omega arith)
tried-more q m f n (suc p) lt keeps = omega (
  arith,
  tried-le q m f n p (omega arith),
  cond-true (keeps_tests q m (f ++ suc p ∷ [])) (cost q m (f ++ suc p ∷ [])) 0 keeps,
)

-- ---- the cost is that of all places

range-push : (n : ℕ) → range_with_len 1 (suc n) ≡ range_with_len 1 n ++ suc n ∷ []
range-push n =
    let more = map-range_with_len_more (λ (x : ℕ). x) 1 n (suc n) (omega arith) in
    let e : n + 1 ≡ suc n = omega arith in
    sym (map-id (range_with_len 1 (suc n))) ∙ (rw e at more)
    ∙ ap (λ (xs : List ℕ). xs ++ suc n ∷ []) (map-id (range_with_len 1 n))

tried-sum : (q : QueryGraph) (m : Molecule) (f : List ℕ) (n : ℕ)
    → sum_by (branch q m f) (range_with_len 1 n) ≡ tried q m f n
unfolding tried
tried-sum q m f zero = refl
tried-sum q m f (suc n) =
    ap (sum_by (branch q m f)) (range-push n) ∙ sum_by-append (branch q m f) (range_with_len 1 n) (suc n ∷ [])
    ∙ ap (λ (x : ℕ). x + sum_by (branch q m f) (suc n ∷ [])) (tried-sum q m f n) ∙ omega arith

sum_by-same : (g h : ℕ → ℕ) → ((x : ℕ) → g x ≡ h x) → (xs : List ℕ) → sum_by g xs ≡ sum_by h xs
sum_by-same g h same [] = refl
sum_by-same g h same (x ∷ xs) =
    sum_by-cons g x xs ∙ omega (arith, same x, sum_by-same g h same xs) ∙ sym (sum_by-cons h x xs)

left-next : (q : QueryGraph) (m : Molecule) (f : List ℕ) (p : ℕ)
    → cost_left (length q.atoms - suc (length f)) q m (f ++ p ∷ []) ≡ cost q m (f ++ p ∷ [])
left-next q m f p =
    let e : length q.atoms - suc (length f) ≡ length q.atoms - length (f ++ p ∷ []) = omega
    (arith, length_push f p) in
    ap (λ (k : ℕ). cost_left k q m (f ++ p ∷ [])) e

pub cost-is : (q : QueryGraph) (m : Molecule) (f : List ℕ) → length f < length q.atoms
    → cost q m f ≡ length m.atoms + tried q m f (length m.atoms)
unfolding cost_left branch
cost-is q m f more =
    let e : length q.atoms - length f ≡ suc (length q.atoms - suc (length f)) = omega arith in
    ap (λ (k : ℕ). cost_left k q m f) e
    ∙ ap (λ (x : ℕ). length m.atoms + x)
    (sum_by-same _ (branch q m f)
    (λ p. ap (λ (x : ℕ). cond (keeps_tests q m (f ++ p ∷ [])) x 0) (left-next q m f p)) (places m)
    ∙ tried-sum q m f (length m.atoms))

-- ---- what is paid

-- the budget after the places up to n, at a price for the map
pub record Ledger (q : QueryGraph) (m : Molecule) (f : List ℕ) (price n entry now : ℕ) : Type 0 where
  pub more : length f < length q.atoms
  pub low : price ≤ length m.atoms
  pub within : n ≤ length m.atoms
  pub least : now + price ≤ entry
  pub most : entry ≤ now + price + tried q m f n

pub Ledger-start : (q : QueryGraph) (m : Molecule) (f : List ℕ) (price entry now : ℕ)
    → length f < length q.atoms → price ≤ length m.atoms → now + price ≡ entry → Ledger q m f price 0 entry now
Ledger-start q m f price entry now more low paid = record {
  more = more;
  low = low;
  within = omega arith;
  least = omega arith;
  most = omega (arith, tried-none q m f);
}

pub Ledger-paid : (q : QueryGraph) (m : Molecule) (f longer : List ℕ) (price n p entry before now : ℕ)
    → Ledger q m f price n entry before → n < p → p ≤ length m.atoms → keeps_tests q m (f ++ p ∷ []) ≡ true
    → longer ≡ f ++ p ∷ [] → Paid 0 (cost q m longer) before now → Ledger q m f price p entry now
Ledger-paid q m f longer price n p entry before now l lt within keeps pushed paid = record {
  more = l.more;
  low = l.low;
  within = within;
  least = omega (arith, l.least, paid.least);
  most = omega (arith, l.most, paid.most, ap (cost q m) pushed, tried-more q m f n p lt keeps);
}

pub Ledger-spent : (q : QueryGraph) (m : Molecule) (f longer : List ℕ) (price n p entry before now : ℕ)
    → Ledger q m f price n entry before → n < p → p ≤ length m.atoms → keeps_tests q m (f ++ p ∷ []) ≡ true
    → longer ≡ f ++ p ∷ [] → IsSpent price (cost q m longer) before now → IsSpent price (cost q m f) entry now
Ledger-spent q m f longer price n p entry before now l lt within keeps pushed spent = record {
  priced = spent.priced;
  short = omega (
    arith,
    l.most,
    l.low,
    spent.short,
    ap (cost q m) pushed,
    tried-more q m f n p lt keeps,
    tried-le q m f p (length m.atoms) within,
    cost-is q m f l.more,
  );
  left = spent.left;
}

-- the price of the map itself is not there
pub IsSpent-at : (q : QueryGraph) (m : Molecule) (f : List ℕ) (price entry : ℕ)
    → length f < length q.atoms → price ≤ length m.atoms → entry < price → IsSpent price (cost q m f) entry 0
IsSpent-at q m f price entry more low short =
    record { priced = omega arith; short = omega (arith, cost-is q m f more); left = refl }

pub Ledger-end : (q : QueryGraph) (m : Molecule) (f : List ℕ) (price n entry now : ℕ)
    → Ledger q m f price n entry now → Paid 0 (cost q m f) entry now
Ledger-end q m f price n entry now l = record {
  least = omega (arith, l.least);
  most = omega (
    arith,
    l.most,
    l.low,
    tried-le q m f n (length m.atoms) l.within,
    cost-is q m f l.more,
  );
}
