-- The search's loop over the places of the next atom, at the values of its code.
use Rattle.std.proofs.Common.{◌≡◌, ℕ, ◌+◌, ◌-◌, ◌<◌, ◌≤◌, true, List, [], ◌∷◌, ◌++◌, length, take, refl, sym, ap, ◌∙◌, subst, arith}
use Rattle.std.specs.Prelude.{Option}
use Rattle.std.proofs.lemmas.List.{length_push, take_at}
use Rattle.htss_defs.specs.Molecule.{Molecule}
use Rattle.htss_defs.specs.QueryGraph.{QueryGraph, IsQuery}
use Rattle.htss_defs.specs.Cost.{cost, keeps_tests}
use Rattle.embed.specs.Partial.{IsPartial, IsFirstFrom, IsStuck, NoneBelow}
use Rattle.embed.specs.Candidates.{IsChoice, IsNextPlace, IsLastPlace}
use Rattle.embed.specs.Paid.{Paid, IsSpent}
use Rattle.embed.proofs.Maps.{may-within, IsPartial-push, IsFirstFrom-next, IsStuck-from, NoneBelow-start, NoneBelow-stuck}
use Rattle.embed.proofs.Law.{keeps_tests-push}
use Rattle.embed.proofs.Costs.{Ledger, Ledger-start, Ledger-paid, Ledger-spent}
use Rattle.embed.proofs.Anchors.{NoneBelow-next, NoneBelow-last}

-- the places up to n are tried, and the map is again as it was
pub record Tries (q : QueryGraph) (m : Molecule) (f here : List ℕ) (price n entry now : ℕ) : Type 0 where
  pub same : here ≡ f
  pub none : NoneBelow q m f (n + 1)
  pub ledger : Ledger q m f price n entry now

pub Tries-start : (q : QueryGraph) (m : Molecule) (f : List ℕ) (price entry now : ℕ) → IsQuery q
    → length f < length q.atoms → price ≤ length m.atoms → now + price ≡ entry → Tries q m f f price 0 entry now
Tries-start q m f price entry now query more low paid = record {
  same = refl;
  none = NoneBelow-start q m f query more;
  ledger = Ledger-start q m f price entry now more low paid;
}

-- the choice was made at the map as it was
pub IsChoice-here : (q : QueryGraph) (m : Molecule) (f first here slice words : List ℕ) (chosen : Option ℕ)
    → first ≡ f → here ≡ f → slice ≡ here → IsChoice q m first chosen words → IsChoice q m slice chosen words
IsChoice-here q m f first here slice words chosen first-is same slice-is of =
    subst (λ (g : List ℕ). IsChoice q m g chosen words) (first-is ∙ sym (slice-is ∙ same)) of

pub Tries-end : (q : QueryGraph) (m : Molecule) (f here slice : List ℕ) (price n entry now : ℕ) → IsQuery q
    → Tries q m f here price n entry now → slice ≡ here → IsLastPlace q m slice n → IsStuck q m f
Tries-end q m f here slice price n entry now query t slice-is last = IsStuck-from q m f t.ledger.more
    (NoneBelow-last q m f n query t.ledger.more t.none
    (subst (λ (g : List ℕ). IsLastPlace q m g n) (slice-is ∙ t.same) last))

-- ---- the search below one place

-- the next atom may stand at p, and the longer map has it there
pub record Step (q : QueryGraph) (m : Molecule) (f longer : List ℕ) (n p : ℕ) : Type 0 where
  pub more : length f < length q.atoms
  pub above : n < p
  pub within : p ≤ length m.atoms
  pub none : NoneBelow q m f p
  pub pushed : longer ≡ f ++ p ∷ []
  pub len : length longer ≡ length f + 1
  pub partial : IsPartial q m (f ++ p ∷ [])
  pub keeps : keeps_tests q m (f ++ p ∷ []) ≡ true

pub Step-at : (q : QueryGraph) (m : Molecule) (f here slice longer : List ℕ) (price n p entry now : ℕ)
    → IsQuery q → IsPartial q m f → Tries q m f here price n entry now → slice ≡ here
    → IsNextPlace q m slice n p → longer ≡ here ++ p ∷ [] → Step q m f longer n p
Step-at q m f here slice longer price n p entry now query partial t slice-is next-here pushed =
    let more = t.ledger.more in
    let next : IsNextPlace q m f n p = subst (λ (g : List ℕ). IsNextPlace q m g n p) (slice-is ∙ t.same) next-here in
    let longer-is : longer ≡ f ++ p ∷ [] = pushed ∙ ap (λ (y : List ℕ). y ++ p ∷ []) t.same in
    record {
      more = more;
      above = next.above;
      within = may-within q m f p next.may;
      none = NoneBelow-next q m f n p query more t.none next;
      pushed = longer-is;
      len = ap length longer-is ∙ length_push f p;
      partial = IsPartial-push q m f p query partial more next.may;
      keeps = keeps_tests-push q m f p query partial more ∙ next.may;
    }

pub Step-partial : (q : QueryGraph) (m : Molecule) (f longer : List ℕ) (n p : ℕ) → Step q m f longer n p
    → IsPartial q m longer
Step-partial q m f longer n p s = subst (λ (g : List ℕ). IsPartial q m g) (sym s.pushed) s.partial

pub Step-found : (q : QueryGraph) (m : Molecule) (f longer whole : List ℕ) (n p : ℕ) → Step q m f longer n p
    → IsFirstFrom q m longer whole → IsFirstFrom q m f whole
Step-found q m f longer whole n p s found = IsFirstFrom-next q m f longer whole p s.more s.none s.pushed found

pub Step-paid : (q : QueryGraph) (m : Molecule) (f longer : List ℕ) (price n p entry before now : ℕ)
    → Step q m f longer n p → Ledger q m f price n entry before → Paid 0 (cost q m longer) before now
    → Ledger q m f price p entry now
Step-paid q m f longer price n p entry before now s ledger paid =
    Ledger-paid q m f longer price n p entry before now ledger s.above s.within s.keeps s.pushed paid

pub Step-spent : (q : QueryGraph) (m : Molecule) (f longer : List ℕ) (price n p entry before now : ℕ)
    → Step q m f longer n p → Ledger q m f price n entry before → IsSpent price (cost q m longer) before now
    → IsSpent price (cost q m f) entry now
Step-spent q m f longer price n p entry before now s ledger spent =
    Ledger-spent q m f longer price n p entry before now ledger s.above s.within s.keeps s.pushed spent

-- the map is popped where the search below found nothing
pub Step-stuck : (q : QueryGraph) (m : Molecule) (f here longer back shorter : List ℕ) (price n p entry before now : ℕ)
    → Step q m f longer n p → Tries q m f here price n entry before → IsStuck q m longer
    → Paid 0 (cost q m longer) before now → back ≡ longer → shorter ≡ take (length back - 1) back
    → Tries q m f shorter price p entry now
Step-stuck q m f here longer back shorter price n p entry before now s t stuck paid back-is rest =
    let whole : back ≡ f ++ p ∷ [] = back-is ∙ s.pushed in
    record {
      same = rest ∙ ap (λ (g : List ℕ). take (length g - 1) g) whole
          ∙ take_at f (p ∷ []) (length (f ++ p ∷ []) - 1) (omega (arith, length_push f p));
      none = NoneBelow-stuck q m f longer p s.more s.none s.pushed stuck;
      ledger = Step-paid q m f longer price n p entry before now s t.ledger paid;
    }
