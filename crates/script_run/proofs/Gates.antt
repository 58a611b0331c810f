-- The gates of all workers, by the workers' places.
use Rattle.std.proofs.Common.{◌≡◌, ℕ, zero, suc, Bool, true, false, List, [], ◌∷◌, length, map, All, refl, sym, ap, subst, ◌∙◌, arith, append-nil}
use Rattle.std.proofs.lemmas.List.{length-map}
use Rattle.std.specs.Prelude.{Option}
use mathlib.Core.Option.{some, some-injective, some-ne-none}
use lib.ListN.{get_elem?}
use Rattle.htss_defs.specs.declared.shape.Shape.{Shape}
use Rattle.script_text.specs.declared.script.Job.{Job}
use Rattle.board.specs.Seated.{Place as OfBoard}
use Rattle.board_core.specs.declared.account.Who.{Who}
use Rattle.board_core.proofs.Lists.{inside}
use Rattle.board_jobs.proofs.Places.{at_map}
use Rattle.board_jobs.specs.Ends.{caller_at}
use Rattle.script_run.specs.declared.gate.Place.{Place}
use Rattle.script_run.specs.declared.gate.Worker.{Worker}
use Rattle.script_run.specs.declared.walk.Outcome.{Outcome}
use Rattle.script_run.specs.Passing.{own_places, PassedOwn, PassedFront, Passed, AllPassed, GatesPassed, GatesPassedFront}
use Rattle.script_run.specs.Walking.{DidAll}
use Rattle.script_run.specs.Workers.{callers_of}
use Rattle.script_run.specs.Working.{AreCallers}
use Rattle.script_run.proofs.Callers.{who_there}
use Rattle.script_run.proofs.Groups.{at_whole, did_count}
use Rattle.script_run.proofs.Passing.{more_none}
use Rattle.script_run.proofs.Places.{one_there, or_there, there}

-- all of the places are a front of them
front_of : (k : Shape) (jobs : List Job) (who : Who) (before after : Option (List Place)) (whole : Bool) → Passed k jobs who before after whole → PassedFront k jobs who before after
front_of k jobs who before after true passed = λ c mine. let own : List Place = own_places k jobs c in (own, [], append-nil own, passed c mine)
front_of k jobs who before after false passed = passed

module _ {G : Type 0} (tells : G → Option (List Place)) where
  passed_at : (k : Shape) (jobs : List Job) (ws vs : List (Worker G)) (os : List Outcome) → AllPassed tells k jobs ws vs os
      → (i : ℕ) (w v : Worker G) (o : Outcome) → get_elem? ws i ≡ some w → get_elem? vs i ≡ some v → get_elem? os i ≡ some o
      → Passed k jobs w.caller.account.who (tells w.gate) (tells v.gate) o.whole
  passed_at k jobs [] vs os all i w v o ew ev eo = absurd (some-ne-none w (sym ew))
  passed_at k jobs (x ∷ xs) [] os all i w v o ew ev eo = absurd (some-ne-none v (sym ev))
  passed_at k jobs (x ∷ xs) (y ∷ ys) [] all i w v o ew ev eo = absurd (some-ne-none o (sym eo))
  passed_at k jobs (x ∷ xs) (y ∷ ys) (p ∷ ps) all zero w v o ew ev eo =
      subst (λ (z : Outcome). Passed k jobs w.caller.account.who (tells w.gate) (tells v.gate) z.whole) (some-injective p o eo)
      (subst (λ (z : Worker G). Passed k jobs w.caller.account.who (tells w.gate) (tells z.gate) p.whole) (some-injective y v ev)
      (subst (λ (z : Worker G). Passed k jobs z.caller.account.who (tells z.gate) (tells y.gate) p.whole) (some-injective x w ew) all.0))
  passed_at k jobs (x ∷ xs) (y ∷ ys) (p ∷ ps) all (suc i) w v o ew ev eo = passed_at k jobs xs ys ps all.1 i w v o ew ev eo

  -- what is told of the worker at a place, and its outcome
  told_at : (b : OfBoard) (files : List (ℕ × List ℕ)) (budget : ℕ) (jobs : List Job) (ws vs : List (Worker G)) (os : List Outcome)
      → DidAll b files budget jobs (callers_of ws) (callers_of vs) os → AllPassed tells b.shape jobs ws vs os
      → (i : ℕ) (w v : Worker G) → get_elem? ws i ≡ some w → get_elem? vs i ≡ some v
      → (o : Outcome) × (get_elem? os i ≡ some o) × Passed b.shape jobs w.caller.account.who (tells w.gate) (tells v.gate) o.whole
  told_at b files budget jobs ws vs os did all i w v ew ev =
      let count = did_count b files budget jobs (callers_of ws) (callers_of vs) os did in
      let o = there os i (omega (arith, inside ws i w ew, count.1, length-map ws (λ (z : Worker G). z.caller))) in
      (o.0, o.1, passed_at b.shape jobs ws vs os all i w v o.0 ew ev o.1)

  -- nothing was done
  pub gates_before : (k : Shape) (jobs : List Job) (ws : List (Worker G)) → GatesPassedFront tells k jobs ws ws
  gates_before k jobs ws = λ i w v ew ev.
      ([], own_places k jobs (caller_at k i), refl, ap (λ (z : Worker G). tells z.gate) (one_there ws i v w ev ew) ∙ sym (more_none (tells w.gate)))

  -- some was done
  pub gates_front : (b : OfBoard) (files : List (ℕ × List ℕ)) (budget : ℕ) (jobs : List Job) (ws vs : List (Worker G)) (os : List Outcome)
      → AreCallers b (callers_of ws) → DidAll b files budget jobs (callers_of ws) (callers_of vs) os → AllPassed tells b.shape jobs ws vs os → GatesPassedFront tells b.shape jobs ws vs
  gates_front b files budget jobs ws vs os are did all = λ i w v ew ev.
      let told = told_at b files budget jobs ws vs os did all i w v ew ev in
      front_of b.shape jobs w.caller.account.who (tells w.gate) (tells v.gate) told.0.whole told.2 (caller_at b.shape i)
      (who_there b (callers_of ws) are i w.caller (at_map (λ (z : Worker G). z.caller) ws i w ew))

  -- all was done, and the gates stayed as they were when the callers met
  pub gates_whole : (b : OfBoard) (files : List (ℕ × List ℕ)) (budget : ℕ) (jobs : List Job) (ws xs ys : List (Worker G)) (os : List Outcome)
      → AreCallers b (callers_of ws) → DidAll b files budget jobs (callers_of ws) (callers_of xs) os → AllPassed tells b.shape jobs ws xs os
      → All (λ (o : Outcome). o.whole ≡ true) os → map (λ (z : Worker G). z.gate) ys ≡ map (λ (z : Worker G). z.gate) xs → GatesPassed tells b.shape jobs ws ys
  gates_whole b files budget jobs ws xs ys os are did all whole met = λ i w y ew ey.
      let gate : Worker G → G = λ z. z.gate in
      let x = there xs i (omega (arith, inside ys i y ey, length-map xs gate, length-map ys gate, ap length met)) in
      let same : y.gate ≡ x.0.gate =
      one_there (map gate xs) i y.gate x.0.gate (subst (λ (l : List G). get_elem? l i ≡ some y.gate) met (at_map gate ys i y ey)) (at_map gate xs i x.0 x.1) in
      let told = told_at b files budget jobs ws xs os did all i w x.0 ew x.1 in
      let full : told.0.whole ≡ true = subst (λ (z : Outcome). z.whole ≡ true) (or_there os i told.0 told.0 told.1) (whole i told.0 (inside os i told.0 told.1)) in
      let who = w.caller.account.who in
      ap tells same
      ∙ at_whole (PassedOwn b.shape jobs who (tells w.gate) (tells x.0.gate)) (PassedFront b.shape jobs who (tells w.gate) (tells x.0.gate)) told.0.whole full told.2
      (caller_at b.shape i) (who_there b (callers_of ws) are i w.caller (at_map (λ (z : Worker G). z.caller) ws i w ew))
