-- The places that were counted, and what was taken for them.
use Rattle.std.proofs.Common.{◌≡◌, ℕ, zero, suc, ◌+◌, ◌-◌, ◌<◌, ◌≤◌, true, false, List, [], ◌∷◌, ◌++◌, length, take, refl, ap, ◌∙◌, subst, sym, inl, inr, arith}
use Rattle.std.proofs.lemmas.Bool.{cond-true, cond-false, cases_lt}
use Rattle.std.proofs.lemmas.List.{length_push, take_at}
use Rattle.htss_defs.specs.Molecule.{Molecule}
use Rattle.htss_defs.specs.QueryGraph.{QueryGraph, IsQuery}
use Rattle.htss_defs.specs.Cost.{cost, cost_left, keeps_tests}
use Rattle.embed.specs.Tests.{may_extend}
use Rattle.embed.specs.Partial.{IsPartial}
use Rattle.embed.specs.Candidates.{IsNextPlace, IsLastPlace}
use Rattle.embed.proofs.Maps.{may-within, IsPartial-push}
use Rattle.embed.proofs.Law.{keeps_tests-push}
use Rattle.embed.proofs.Costs.{tried, branch, tried-none, tried-le, cost-is}

-- places that fail a test add nothing
tried-same : (q : QueryGraph) (m : Molecule) (f : List ℕ) (i n : ℕ) → i ≤ n
    → ((p : ℕ) → i < p → p ≤ n → keeps_tests q m (f ++ p ∷ []) ≡ false) → tried q m f n ≡ tried q m f i
unfolding tried branch
tried-same q m f i zero le fails = let e : i ≡ 0 = omega arith in rw e refl
tried-same q m f i (suc n) le fails = elim (cases_lt n i) [
  | inl last ↦ let e : i ≡ suc n = omega arith in rw e refl
  | inr before ↦ omega (
    arith,
    tried-same q m f i n (omega arith) (λ p low high. fails p low (omega arith)),
    cond-false (keeps_tests q m (f ++ suc n ∷ [])) (cost q m (f ++ suc n ∷ [])) 0 (fails (suc n) (omega arith) (omega arith)),
  )
]

-- a place that keeps them adds the cost below it
tried-step : (q : QueryGraph) (m : Molecule) (f : List ℕ) (n : ℕ) → keeps_tests q m (f ++ suc n ∷ []) ≡ true
    → tried q m f (suc n) ≡ tried q m f n + cost q m (f ++ suc n ∷ [])
unfolding tried branch
tried-step q m f n keeps = omega (arith, cond-true (keeps_tests q m (f ++ suc n ∷ [])) (cost q m (f ++ suc n ∷ [])) 0 keeps)

-- the places up to n are counted, and the map is again as it was
pub record Counted (q : QueryGraph) (m : Molecule) (f here : List ℕ) (price n entry now : ℕ) : Type 0 where
  pub same : here ≡ f
  pub partial : IsPartial q m f
  pub more : length f < length q.atoms
  pub price_is : price ≡ length m.atoms
  pub within : n ≤ length m.atoms
  pub paid : entry ≡ now + price + tried q m f n

pub Counted-start : (q : QueryGraph) (m : Molecule) (f : List ℕ) (price entry now : ℕ) → IsPartial q m f
    → length f < length q.atoms → price ≡ length m.atoms → now + price ≡ entry → Counted q m f f price 0 entry now
Counted-start q m f price entry now partial more is paid = record {
  same = refl;
  partial = partial;
  more = more;
  price_is = is;
  within = omega arith;
  paid = omega (arith, tried-none q m f);
}

-- a place that is passed over fails a test
fails-over : (q : QueryGraph) (m : Molecule) (f : List ℕ) (p : ℕ) → IsQuery q → IsPartial q m f → length f < length q.atoms
    → may_extend q m f p ≡ false → keeps_tests q m (f ++ p ∷ []) ≡ false
fails-over q m f p query partial more not = keeps_tests-push q m f p query partial more ∙ not

-- the next atom may stand at p, and the longer map has it there
pub record Longer (q : QueryGraph) (m : Molecule) (f longer : List ℕ) (price n p entry now : ℕ) : Type 0 where
  pub within : p ≤ length m.atoms
  pub pushed : longer ≡ f ++ p ∷ []
  pub len : length longer ≡ length f + 1
  pub partial : IsPartial q m longer
  pub price_is : price ≡ length m.atoms
  pub more : length f < length q.atoms
  pub due : entry + cost q m longer ≡ now + price + tried q m f p

step-due : (q : QueryGraph) (m : Molecule) (f here : List ℕ) (price n p entry now : ℕ) → IsQuery q → Counted q m f here price n entry now
    → IsNextPlace q m f n p → keeps_tests q m (f ++ p ∷ []) ≡ true → entry + cost q m (f ++ p ∷ []) ≡ now + price + tried q m f p
step-due q m f here price n zero entry now query t next keeps = absurd (omega (arith, next.above))
step-due q m f here price n (suc k) entry now query t next keeps =
    let before : tried q m f k ≡ tried q m f n = tried-same q m f n k (omega (arith, next.above))
    (λ p low high. fails-over q m f p query t.partial t.more (next.between p low (omega (arith, high)))) in
    omega (arith, t.paid, before, tried-step q m f k keeps)

pub Longer-at : (q : QueryGraph) (m : Molecule) (f here slice longer : List ℕ) (price n p entry now : ℕ) → IsQuery q
    → Counted q m f here price n entry now → slice ≡ here → IsNextPlace q m slice n p → longer ≡ here ++ p ∷ [] → Longer q m f longer price n p entry now
Longer-at q m f here slice longer price n p entry now query t slice-is next-here pushed =
    let next : IsNextPlace q m f n p = subst (λ (g : List ℕ). IsNextPlace q m g n p) (slice-is ∙ t.same) next-here in
    let longer-is : longer ≡ f ++ p ∷ [] = pushed ∙ ap (λ (y : List ℕ). y ++ p ∷ []) t.same in
    let keeps : keeps_tests q m (f ++ p ∷ []) ≡ true = keeps_tests-push q m f p query t.partial t.more ∙ next.may in
    record {
      within = may-within q m f p next.may;
      pushed = longer-is;
      len = ap length longer-is ∙ length_push f p;
      partial = subst (λ (y : List ℕ). IsPartial q m y) (sym longer-is) (IsPartial-push q m f p query t.partial t.more next.may);
      price_is = t.price_is;
      more = t.more;
      due = ap (λ (y : List ℕ). entry + cost q m y) longer-is ∙ step-due q m f here price n p entry now query t next keeps;
    }

-- the map is popped where the places below were counted
pub Counted-below : (q : QueryGraph) (m : Molecule) (f here longer back shorter : List ℕ) (price n p entry before now : ℕ)
    → Longer q m f longer price n p entry before → Counted q m f here price n entry before
    → before ≡ now + cost q m longer → back ≡ longer → shorter ≡ take (length back - 1) back
    → Counted q m f shorter price p entry now
Counted-below q m f here longer back shorter price n p entry before now s t paid back-is rest =
    let whole : back ≡ f ++ p ∷ [] = back-is ∙ s.pushed in
    record {
      same = rest ∙ ap (λ (g : List ℕ). take (length g - 1) g) whole
          ∙ take_at f (p ∷ []) (length (f ++ p ∷ []) - 1) (omega (arith, length_push f p));
      partial = t.partial;
      more = t.more;
      price_is = t.price_is;
      within = s.within;
      paid = omega (arith, s.due, paid);
    }

-- what is left is below the cost of the places below
pub short-below : (q : QueryGraph) (m : Molecule) (f longer : List ℕ) (price n p entry before : ℕ)
    → Longer q m f longer price n p entry before → before < cost q m longer → entry < cost q m f
short-below q m f longer price n p entry before s short = omega (
  arith,
  s.due,
  short,
  s.price_is,
  tried-le q m f p (length m.atoms) s.within,
  cost-is q m f s.more,
)

pub short-at : (q : QueryGraph) (m : Molecule) (f : List ℕ) (price entry : ℕ)
    → length f < length q.atoms → price ≡ length m.atoms → entry < price → entry < cost q m f
short-at q m f price entry more is short = omega (arith, cost-is q m f more)

pub Counted-end : (q : QueryGraph) (m : Molecule) (f here slice : List ℕ) (price n entry now : ℕ) → IsQuery q
    → Counted q m f here price n entry now → slice ≡ here → IsLastPlace q m slice n → entry ≡ now + cost q m f
Counted-end q m f here slice price n entry now query t slice-is last-here =
    let last : IsLastPlace q m f n = subst (λ (g : List ℕ). IsLastPlace q m g n) (slice-is ∙ t.same) last-here in
    let all : tried q m f (length m.atoms) ≡ tried q m f n = tried-same q m f n (length m.atoms) t.within
    (λ p low high. fails-over q m f p query t.partial t.more (last p low high)) in
    omega (arith, t.paid, all, t.price_is, cost-is q m f t.more)

-- a whole map costs nothing more
pub free-whole : (q : QueryGraph) (m : Molecule) (f : List ℕ) → length f ≡ length q.atoms → cost q m f ≡ 0
unfolding cost_left
free-whole q m f is = let e : length q.atoms - length f ≡ 0 = omega arith in ap (λ (k : ℕ). cost_left k q m f) e
