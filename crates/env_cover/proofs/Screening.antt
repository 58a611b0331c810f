-- Which molecules are screened for a query.
use Rattle.std.proofs.Common.{◌≡◌, ℕ, sym, ap, subst, ◌∙◌, inl, inr, arith}
use Rattle.std.proofs.lemmas.Bool.{cases_lt}
use Rattle.htss_defs.specs.declared.needs.Need.{Need}
use Rattle.htss_defs.specs.Molecule.{Molecule}
use Rattle.htss_defs.specs.QueryGraph.{QueryGraph, IsQuery}
use Rattle.htss_defs.specs.Marked.{IsMarkedQuery}
use Rattle.htss_defs.specs.Codes.{codes_at}
use Rattle.htss_defs.specs.Needs.{Covers, need_at}
use Rattle.htss_defs.specs.Screened.{IsPivot, IsScreened}
use Rattle.env_cover.specs.Law.{LawOfScreening}
use Rattle.env_cover.specs.Screening.{HasCover, Screens}
use Rattle.env_cover.proofs.Deciding.{Decision, decide_cover}

pivot_unique : (q : QueryGraph) (u v : ℕ) → IsPivot q u → IsPivot q v → u ≡ v
pivot_unique q u v first second = elim (cases_lt u v) [
  | inl less ↦ absurd (omega (arith, second.first u first.place.0 less, first.greatest v second.place.0 second.place.1))
  | inr le ↦ elim (cases_lt v u) [
    | inl less ↦ absurd (omega (arith, first.first v second.place.0 less, second.greatest u first.place.0 first.place.1))
    | inr ge ↦ omega (arith, le, ge)
  ]
]

pub screens-made : (q : QueryGraph) (pivot : ℕ) (need : Need) → LawOfScreening → IsQuery q → IsMarkedQuery q → IsPivot q pivot → need ≡ need_at q pivot → Screens q pivot need
screens-made q pivot need law query marked_query is_pivot need_is = record {
  is_pivot = is_pivot;
  need_is = need_is;
  none = λ m molecule marked unscreened map embedding.
      unscreened (law q m map pivot (record { query = query; marked_query = marked_query; molecule = molecule; marked = marked; embedding = embedding }) is_pivot);
}

pub screened-covered : (q : QueryGraph) (pivot : ℕ) (need : Need) (m : Molecule) → Screens q pivot need → HasCover need m → IsScreened q m
screened-covered q pivot need m screens has = record {
  pivot = pivot;
  is_pivot = screens.is_pivot;
  place = has.place;
  within = has.within;
  covers = subst (λ (n : Need). Covers n (codes_at m has.place)) screens.need_is has.covers;
}

covered-screened : (q : QueryGraph) (pivot : ℕ) (need : Need) (m : Molecule) → Screens q pivot need → IsScreened q m → HasCover need m
covered-screened q pivot need m screens is = record {
  place = is.place;
  within = is.within;
  covers = subst (λ (n : Need). Covers n (codes_at m is.place)) (ap (need_at q) (pivot_unique q is.pivot pivot is.is_pivot screens.is_pivot) ∙ sym screens.need_is) is.covers;
}

pub screened-uncovered : (q : QueryGraph) (pivot : ℕ) (need : Need) (m : Molecule) → Screens q pivot need → (HasCover need m → ⊥) → IsScreened q m → ⊥
screened-uncovered q pivot need m screens none is = none (covered-screened q pivot need m screens is)

pub decide_screened : (q : QueryGraph) (pivot : ℕ) (need : Need) (m : Molecule) → Screens q pivot need → Decision (IsScreened q m)
decide_screened q pivot need m screens = elim (decide_cover need m) [
  | inl has ↦ inl (screened-covered q pivot need m screens has)
  | inr none ↦ inr (screened-uncovered q pivot need m screens none)
]
