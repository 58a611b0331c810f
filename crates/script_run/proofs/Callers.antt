-- The callers of a board: before they work, after it, and when they have met.
use Rattle.std.proofs.Common.{◌≡◌, ◌⊎◌, ℕ, ◌≤◌, List, [], ◌∷◌, length, map, get_or, All, refl, sym, ap, subst, ◌∙◌, arith}
use Rattle.std.specs.Prelude.{Contains}
use Rattle.std.proofs.lemmas.List.{length-map}
use mathlib.Core.Option.{some}
use lib.ListN.{get_elem?}
use Rattle.board.specs.Seated.{Place, Seated, IsOf, account_of}
use Rattle.board_core.specs.declared.account.Account.{Account}
use Rattle.board_core.proofs.Lists.{inside}
use Rattle.board_jobs.proofs.Places.{at_map, map_back}
use Rattle.board_jobs.specs.Answering.{who_of}
use Rattle.board_jobs.specs.Ends.{caller_at}
use Rattle.board_jobs.specs.Groups.{HaveMet, with_seen}
use Rattle.board_jobs.proofs.Chained.{stocked_after}
use Rattle.script_run.specs.declared.gate.Worker.{Worker}
use Rattle.script_run.specs.Meeting.{SawMost, seen_at}
use Rattle.script_run.specs.Walking.{CanWork, IsWorker}
use Rattle.script_run.specs.Workers.{accounts_of, callers_of}
use Rattle.script_run.specs.Working.{AreCallers}
use Rattle.script_run.proofs.Places.{one_there, or_there, there, who_at}

-- ---- before they work

-- the one at a place is the caller that stands there
pub who_there : (b : Place) (cs : List Seated) → AreCallers b cs → (i : ℕ) (c : Seated) → get_elem? cs i ≡ some c → who_of (caller_at b.shape i) ≡ c.account.who
who_there b cs all i c here = who_at b.shape i ∙ sym (all.each i c here).1

-- each is a loader or a searcher
pub all_workers : (b : Place) (cs : List Seated) → AreCallers b cs → All (λ (c : Seated). IsWorker b c) cs
all_workers b cs all = λ i d below.
    let c = there cs i below in
    let here = all.each i c.0 c.1 in
    let one : IsWorker b c.0 = record {
      can = record { of = here.0; ready = here.2 };
      caller = caller_at b.shape i;
      who = who_there b cs all i c.0 c.1;
    } in
    subst (λ (x : Seated). IsWorker b x) (sym (or_there cs i c.0 d c.1)) one

pub all_of : (b : Place) (cs : List Seated) → AreCallers b cs → All (λ (c : Seated). IsOf b c) cs
all_of b cs all = λ i d below.
    let c = there cs i below in
    subst (λ (x : Seated). IsOf b x) (sym (or_there cs i c.0 d c.1)) (all.each i c.0 c.1).0

-- ---- after it

-- each stands at its place as before
pub still_callers : (b : Place) (cs ds : List Seated) → AreCallers b cs → length ds ≡ length cs
    → ((i : ℕ) (c d : Seated) → get_elem? cs i ≡ some c → get_elem? ds i ≡ some d → CanWork b d × (d.account.who ≡ c.account.who)) → AreCallers b ds
still_callers b cs ds all count same = record {
  count = count ∙ all.count;
  each = λ i d e.
      let c = there cs i (omega (arith, inside ds i d e, count)) in
      let now = same i c.0 d c.1 e in
      (now.0.of, now.1 ∙ (all.each i c.0 c.1).1, now.0.ready);
}

-- ---- when they have met

seen_callers : (b : Place) (front : ℕ) (cs : List Seated) → AreCallers b cs → AreCallers b (map (seen_at front) cs)
seen_callers b front cs all =
    still_callers b cs (map (seen_at front) cs) all (length-map cs (seen_at front))
    (λ i c d here now.
    let old = map_back (seen_at front) cs i d now in
    let same : old.0 ≡ c = one_there cs i old.0 c old.1 here in
    let before = all.each i c here in
    let can : CanWork b (seen_at front c) = record {
      of = record { table = before.0.table; shape = before.0.shape };
      ready = record { free = before.2.free; unpinned = before.2.unpinned; stocked = stocked_after c (seen_at front c) refl refl before.2.stocked };
    } in
    let has : Seated → Type 0 = λ x. CanWork b x × (x.account.who ≡ c.account.who) in
    subst has old.2 (subst (λ (x : Seated). has (seen_at front x)) (sym same) (can, refl)))

pub met_callers : (b : Place) (cs ds : List Seated) → AreCallers b cs → SawMost cs ds → AreCallers b ds
met_callers b cs ds all met = subst (λ (l : List Seated). AreCallers b l) (sym met.after_is) (seen_callers b met.most cs all)

module _ {G : Type 0} where
  accounts_by : (ws : List (Worker G)) → accounts_of ws ≡ map account_of (callers_of ws)
  accounts_by [] = refl
  accounts_by (w ∷ ws) = ap (λ (l : List Account). w.caller.account ∷ l) (accounts_by ws)

  seen_by : (ws : List (Worker G)) → map (λ c. c.account.log.seen) (callers_of ws) ≡ map (λ (a : Account). a.log.seen) (accounts_of ws)
  seen_by [] = refl
  seen_by (w ∷ ws) = ap (λ (l : List ℕ). w.caller.account.log.seen ∷ l) (seen_by ws)

seen_accounts : (front : ℕ) (cs : List Seated) → map account_of (map (seen_at front) cs) ≡ map (with_seen front) (map account_of cs)
seen_accounts front [] = refl
seen_accounts front (c ∷ cs) = ap (λ (l : List Account). with_seen front c.account ∷ l) (seen_accounts front cs)

module _ {G : Type 0} where
  pub have_met : (ws vs : List (Worker G)) → (met : SawMost (callers_of ws) (callers_of vs)) → HaveMet (accounts_of ws) (accounts_of vs) met.most
  have_met ws vs met =
      let cs : List Seated = callers_of ws in
      let front : ℕ = met.most in
      record {
        most = λ i a here.
            let w = map_back (λ (x : Worker G). x.caller.account) ws i a here in
            let at : get_elem? cs i ≡ some w.0.caller = at_map (λ (x : Worker G). x.caller) ws i w.0 w.1 in
            let less : (get_or cs i w.0.caller).account.log.seen ≤ front = met.is_most.seen_within i w.0.caller (inside cs i w.0.caller at) in
            let now : w.0.caller.account.log.seen ≤ front = subst (λ (x : Seated). x.account.log.seen ≤ front) (or_there cs i w.0.caller w.0.caller at) less in
            subst (λ (x : Account). x.log.seen ≤ front) w.2 now;
        reached = subst (λ (l : List ℕ). (front ≡ 0) ⊎ Contains l front) (seen_by ws) met.is_most.one_of_them;
        after_is = accounts_by vs ∙ ap (λ (l : List Seated). map account_of l) met.after_is ∙ seen_accounts front cs
            ∙ ap (λ (l : List Account). map (with_seen front) l) (sym (accounts_by ws));
      }
