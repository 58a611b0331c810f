-- A survey of the events that a report tells, held against the hits that it prints.
use Rattle.std.proofs.Common.{◌≡◌, ◌≢◌, ◌⊎◌, inl, inr, ℕ, zero, suc, ◌+◌, ◌*◌, ◌<◌, ◌≤◌, List, [], ◌∷◌, ◌++◌, length, take, refl, sym, ap, subst, ◌∙◌, arith}
use Rattle.std.specs.Prelude.{Some, slice_get}
use Rattle.std.proofs.lemmas.List.{length-take-le, take_all}
use Rattle.htss_defs.specs.declared.history.Event.{Event}
use Rattle.htss_defs.specs.declared.history.Hit.{Hit}
use Rattle.htss_defs.specs.Molecule.{Molecule}
use Rattle.htss_defs.specs.QueryGraph.{IsQuery, QueryGraph}
use Rattle.htss_defs.specs.HitLists.{HitsKept}
use Rattle.htss_defs.specs.History.{IsLive}
use Rattle.htss_defs.specs.Hits.{AreHits}
use Rattle.htss_defs.specs.Reply.{IsReply, Numbered, atoms_of, found}
use Rattle.reg_model.specs.Searches.{Counts}
use Rattle.reg_model.specs.Surveys.{HasSurveyed}
use Rattle.reg_model.proofs.Prefixes.{screened_to-all}
use Rattle.reg_model.proofs.Surveying.{surveyed-counts, surveyed-hits, surveyed-none, surveyed-none_live, surveyed-passed}
use Rattle.report_rules.specs.Faults.{IsHitFault, no_molecule}
use Rattle.report_rules.proofs.Pushed.{no_embedding, unscreened}
use Rattle.report_rules.proofs.OneHits.{one_hits}
use Rattle.told_history.specs.declared.told.Told.{Told}
use Rattle.told_history.specs.Telling.{Tells}
use Rattle.told_history.proofs.LiveTold.{same_length}
use Rattle.told_history.proofs.OneScreened.{one_screened}

-- no record gives its molecule
pub surveyed-no_molecule : (q : QueryGraph) (history : List Event) (n k count atoms : ℕ) (hits : List Hit) (name : List ℕ) → IsQuery q → n ≡ k + 1 → HasSurveyed q history k count atoms hits → IsLive history n name no_molecule
    → HasSurveyed q history n count atoms hits
surveyed-no_molecule q history n k count atoms hits name query next has live = surveyed-passed q history n k count atoms hits name no_molecule next has live (unscreened q) (no_embedding q query)

-- ---- over the events

-- what a survey has after the first `index` of the events
pub record Surveys (told : Told) (q : QueryGraph) (front index : ℕ) (asked : QueryGraph) (count atoms : ℕ) (hits : HitsKept) : Type 0 where
  pub asked_is : asked ≡ q
  pub room : count ≤ index
  pub low : atoms ≤ 999 * index
  pub has : (history : List Event) → Tells told history → HasSurveyed q (take front history) index count atoms hits.hits

pub surveys-none : (told : Told) (q : QueryGraph) (front : ℕ) (asked : QueryGraph) (count atoms : ℕ) (hits : HitsKept) → asked ≡ q → count ≡ 0 → atoms ≡ 0 → hits.hits ≡ [] → Surveys told q front 0 asked count atoms hits
surveys-none told q front asked count atoms hits asked_is no_count no_atoms empty = record {
  asked_is = asked_is;
  room = omega (arith, no_count);
  low = omega (arith, no_atoms);
  has = λ history tells. rw (no_count, no_atoms, empty) (surveyed-none q (take front history));
}

abbrev pub Takes : Told → QueryGraph → ℕ → ℕ → ℕ → ℕ → List Hit → ℕ → ℕ → List Hit → Type 0
Takes told asked front number count atoms hits count' atoms' hits' =
    (history : List Event) (k : ℕ) → number ≡ k + 1 → IsQuery asked → Tells told history → HasSurveyed asked (take front history) k count atoms hits → HasSurveyed asked (take front history) number count' atoms' hits'

pub surveys-next : (told : Told) (q : QueryGraph) (front index : ℕ) (asked asked' : QueryGraph) (count count' atoms atoms' : ℕ) (hits hits' : HitsKept) → IsQuery q → Surveys told q front index asked count atoms hits
    → asked' ≡ asked → count' ≤ index + 1 → atoms' ≤ 999 * (index + 1) → Takes told asked front (index + 1) count atoms hits.hits count' atoms' hits'.hits → Surveys told q front (index + 1) asked' count' atoms' hits'
surveys-next told q front index asked asked' count count' atoms atoms' hits hits' query s same room low takes = record {
  asked_is = same ∙ s.asked_is;
  room = room;
  low = low;
  has = λ history tells.
      let before = subst (λ (g : QueryGraph). HasSurveyed g (take front history) index count atoms hits.hits) (sym s.asked_is) (s.has history tells) in
      let valid = subst IsQuery (sym s.asked_is) query in
      subst (λ (g : QueryGraph). HasSurveyed g (take front history) (index + 1) count' atoms' hits'.hits) s.asked_is (takes history index refl valid tells before);
}

-- ---- held against the hits that are printed

take_more : {X : Type 0} (xs : List X) (n : ℕ) (x : X) → slice_get xs n ≡ Some x → take (n + 1) xs ≡ take n xs ++ x ∷ []
take_more [] n x at = absurd cc
take_more (y ∷ xs) zero x at =
    let here : y ≡ x = cc in
    ap (λ l. l ∷ []) here
take_more (y ∷ xs) (suc n) x at =
    let e : suc n + 1 ≡ suc (n + 1) = omega arith in
    ap (λ k. take k (y ∷ xs)) e ∙ ap (λ l. y ∷ l) (take_more xs n x at)

-- one more hit is the same
pub alike_more : {X : Type 0} (xs ys : List X) (n : ℕ) (x : X) → take n xs ≡ take n ys → slice_get xs n ≡ Some x → slice_get ys n ≡ Some x → take (n + 1) xs ≡ take (n + 1) ys
alike_more xs ys n x alike here there = take_more xs n x here ∙ ap (λ l. l ++ x ∷ []) alike ∙ sym (take_more ys n x there)

module _ (told : Told) (q : QueryGraph) (budget front count atoms : ℕ) (printed all : List Hit) (records : ℕ) (few : front ≤ length told.lines.now)
    (surveyed : (history : List Event) → Tells told history → HasSurveyed q (take front history) front count atoms all) where
  within : (history : List Event) → Tells told history → front ≤ length history
  within history tells = let long = same_length tells.named history told.lines.now tells.history_is in omega (arith, long, few)

  are_all : (history : List Event) → Tells told history → AreHits q (take front history) all
  are_all history tells = surveyed-hits q history front count atoms all (within history tells) (surveyed history tells)

  -- a hit is another one
  pub other_hit : (index : ℕ) → index < length printed → take index printed ≡ take index all → slice_get printed index ≢ slice_get all index
      → (history : List Event) → Tells told history → IsHitFault q budget (take front history) printed records (index + 1)
  other_hit index lt alike other history tells =
      record { all = all; are = are_all history tells; before = index; offset_is = refl; alike = alike; here = inl (lt, other) }

  last_line : take (length printed) printed ≡ take (length printed) all
      → ((history : List Event) → Tells told history → IsReply q budget (take front history) (found printed) → Counts q (take front history) records → ⊥)
      → (history : List Event) → Tells told history → IsHitFault q budget (take front history) printed records (length printed + 1)
  last_line alike here history tells =
      record { all = all; are = are_all history tells; before = length printed; offset_is = refl; alike = alike; here = inr (refl, here history tells) }

  same_screened : (history : List Event) (tells : Tells told history) (r : Counts q (take front history) records) → r.screened ≡ (surveyed history tells).screened
  same_screened history tells r =
      let has = surveyed history tells in
      let short = within history tells in
      one_screened q (take front history) r.screened has.screened r.are_screened (screened_to-all q (take front history) front has.screened (omega (arith, length-take-le front history short)) has.are_screened)

  -- there are more hits
  pub too_few : take (length printed) printed ≡ take (length printed) all → length printed < length all
      → (history : List Event) → Tells told history → IsHitFault q budget (take front history) printed records (length printed + 1)
  too_few alike less = last_line alike (λ history tells reply counts.
      let same = one_hits q (take front history) printed all reply.0 (are_all history tells) in
      let long : length printed ≡ length all = ap (λ (l : List Hit). length l) same in
      absurd (omega (arith, long, less)))

  -- other records are screened
  pub other_count : take (length printed) printed ≡ take (length printed) all → count ≢ records
      → (history : List Event) → Tells told history → IsHitFault q budget (take front history) printed records (length printed + 1)
  other_count alike other = last_line alike (λ history tells reply counts.
      let same : length counts.screened ≡ length (surveyed history tells).screened = ap (λ (l : List Numbered). length l) (same_screened history tells counts) in
      let ours = (surveyed history tells).count_is in
      absurd (other (ours ∙ sym same ∙ sym counts.count_is)))

  -- the budget does not allow the answer
  pub too_dear : take (length printed) printed ≡ take (length printed) all → budget < atoms
      → (history : List Event) → Tells told history → IsHitFault q budget (take front history) printed records (length printed + 1)
  too_dear alike less = last_line alike (λ history tells reply counts.
      let has = surveyed history tells in
      let short = within history tells in
      let same = one_screened q (take front history) reply.1 has.screened reply.2 (screened_to-all q (take front history) front has.screened (omega (arith, length-take-le front history short)) has.are_screened) in
      let also : atoms_of reply.1 ≡ atoms_of has.screened = ap (λ (l : List Numbered). atoms_of l) same in
      absurd (omega (arith, also, has.atoms_is, less, reply.3)))

  -- all hold
  pub all_hold : take (length printed) printed ≡ take (length printed) all → length all ≤ length printed → count ≡ records → atoms ≤ budget
      → (history : List Event) → Tells told history → IsReply q budget (take front history) (found printed) × Counts q (take front history) records
  all_hold alike long counted cheap history tells =
      let has = surveyed history tells in
      let short = within history tells in
      let same : all ≡ printed = sym (take_all (length printed) all long) ∙ sym alike ∙ take_all (length printed) printed (omega arith) in
      let screened = screened_to-all q (take front history) front has.screened (omega (arith, length-take-le front history short)) has.are_screened in
      let counts = surveyed-counts q history front count atoms all short has in (
        (subst (AreHits q (take front history)) same (are_all history tells), has.screened, screened, omega (arith, cheap, has.atoms_is)),
        subst (Counts q (take front history)) counted counts,
      )
