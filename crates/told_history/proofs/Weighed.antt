-- A weighing takes one more record.
use Rattle.std.proofs.Common.{◌≡◌, ℕ, ◌+◌, ◌<◌, ◌≤◌, List, [], ◌∷◌, ◌++◌, length, take, refl, sym, ap, subst, ◌∙◌, arith}
use Rattle.std.proofs.lemmas.List.{length-take-le}
use Rattle.htss_defs.specs.declared.history.Event.{Event}
use Rattle.htss_defs.specs.Molecule.{Molecule}
use Rattle.htss_defs.specs.QueryGraph.{QueryGraph}
use Rattle.htss_defs.specs.Cost.{cost}
use Rattle.htss_defs.specs.Screened.{IsScreened}
use Rattle.htss_defs.specs.History.{IsLive}
use Rattle.htss_defs.specs.Reply.{Numbered, IsReply, over_budget, work}
use Rattle.reg_model.specs.Searches.{IsOverTo}
use Rattle.reg_model.proofs.Searching.{live-one, over-reply, work_push}
use Rattle.reg_model.proofs.Prefixes.{screened_to-all, screened_to-more, screened_to-none, screened_to-passed}
use Rattle.report_rules.specs.Faults.{no_molecule}
use Rattle.report_rules.proofs.Pushed.{unscreened}
use Rattle.told_history.specs.declared.told.Told.{Told}
use Rattle.told_history.specs.Telling.{Tells}
use Rattle.told_history.specs.Weighing.{HasWeighed}
use Rattle.told_history.proofs.LiveTold.{same_length}
use Rattle.told_history.proofs.OneScreened.{one_screened}

pub weighed-none : (q : QueryGraph) (history : List Event) (budget : ℕ) → HasWeighed q history budget budget 0
weighed-none q history budget = record { screened = []; are_screened = screened_to-none q history; paid = omega arith }

-- no record of this number is live
pub weighed-none_live : (q : QueryGraph) (history : List Event) (budget left n k : ℕ) → n ≡ k + 1 → HasWeighed q history budget left k → ((name : List ℕ) (mol : Molecule) → IsLive history n name mol → ⊥)
    → HasWeighed q history budget left n
weighed-none_live q history budget left n k next has none = record {
  screened = has.screened;
  are_screened = screened_to-passed q history n k has.screened next has.are_screened (λ name mol live is. none name mol live);
  paid = has.paid;
}

-- it is not screened
pub weighed-passed : (q : QueryGraph) (history : List Event) (budget left n k : ℕ) (name : List ℕ) (mol : Molecule) → n ≡ k + 1 → HasWeighed q history budget left k → IsLive history n name mol → (IsScreened q mol → ⊥)
    → HasWeighed q history budget left n
weighed-passed q history budget left n k name mol next has live passed = record {
  screened = has.screened;
  are_screened = screened_to-passed q history n k has.screened next has.are_screened (λ other mol' other_live is. passed (subst (λ (m : Molecule). IsScreened q m) (sym (live-one history n name other mol mol' live other_live)) is));
  paid = has.paid;
}

-- no record gives its molecule
pub weighed-no_molecule : (q : QueryGraph) (history : List Event) (budget left n k : ℕ) (name : List ℕ) → n ≡ k + 1 → HasWeighed q history budget left k → IsLive history n name no_molecule → HasWeighed q history budget left n
weighed-no_molecule q history budget left n k name next has live = weighed-passed q history budget left n k name no_molecule next has live (unscreened q)

-- it is screened, and its work is paid
pub weighed-more : (q : QueryGraph) (history : List Event) (budget left left' n k : ℕ) (name : List ℕ) (mol : Molecule) → n ≡ k + 1 → HasWeighed q history budget left k → IsLive history n name mol → IsScreened q mol
    → left ≡ left' + cost q mol [] → HasWeighed q history budget left' n
weighed-more q history budget left left' n k name mol next has live is pays =
    let one : Numbered = record { number = n; mol = mol } in
    record {
      screened = has.screened ++ one ∷ [];
      are_screened = screened_to-more q history n k has.screened one next has.are_screened refl (record { name = name; live = live; screened = is });
      paid = omega (arith, has.paid, pays, work_push q has.screened one);
    }

-- what is left does not pay for it
pub weighed-spent : (q : QueryGraph) (history : List Event) (budget left n k : ℕ) (name : List ℕ) (mol : Molecule) → n ≡ k + 1 → HasWeighed q history budget left k → IsLive history n name mol → IsScreened q mol
    → left < cost q mol [] → IsOverTo q history budget n
weighed-spent q history budget left n k name mol next has live is spent =
    let one : Numbered = record { number = n; mol = mol } in
    record {
      screened = has.screened ++ one ∷ [];
      are_screened = screened_to-more q history n k has.screened one next has.are_screened refl (record { name = name; live = live; screened = is });
      over = omega (arith, has.paid, spent, work_push q has.screened one);
    }

-- ---- over the events

-- what a weighing has after the first `index` of the events
pub record Weighs (told : Told) (q : QueryGraph) (front budget index : ℕ) (asked : QueryGraph) (left : ℕ) : Type 0 where
  pub asked_is : asked ≡ q
  pub has : (history : List Event) → Tells told history → HasWeighed q (take front history) budget left index

abbrev pub Pays : Told → QueryGraph → ℕ → ℕ → ℕ → ℕ → Type 0
Pays told asked front number left left' =
    (history : List Event) (budget k : ℕ) → number ≡ k + 1 → Tells told history → HasWeighed asked (take front history) budget left k → HasWeighed asked (take front history) budget left' number

abbrev pub Spends : Told → QueryGraph → ℕ → ℕ → ℕ → Type 0
Spends told asked front number left =
    (history : List Event) (budget k : ℕ) → number ≡ k + 1 → Tells told history → HasWeighed asked (take front history) budget left k → IsOverTo asked (take front history) budget number

pub weighs-next : (told : Told) (q : QueryGraph) (front budget index : ℕ) (asked asked' : QueryGraph) (left left' : ℕ) → Weighs told q front budget index asked left → asked' ≡ asked → Pays told asked front (index + 1) left left'
    → Weighs told q front budget (index + 1) asked' left'
weighs-next told q front budget index asked asked' left left' w same pays = record {
  asked_is = same ∙ w.asked_is;
  has = λ history tells.
      let before = subst (λ (g : QueryGraph). HasWeighed g (take front history) budget left index) (sym w.asked_is) (w.has history tells) in
      subst (λ (g : QueryGraph). HasWeighed g (take front history) budget left' (index + 1)) w.asked_is (pays history budget index refl tells before);
}

pub weighs-over : (told : Told) (q : QueryGraph) (front budget index : ℕ) (asked : QueryGraph) (left : ℕ) → Weighs told q front budget index asked left → front ≤ length told.lines.now → index < front
    → Spends told asked front (index + 1) left → (history : List Event) → Tells told history → IsReply q budget (take front history) over_budget
weighs-over told q front budget index asked left w few within spends history tells =
    let long = same_length tells.named history told.lines.now tells.history_is in
    let less : front ≤ length history = omega (arith, long, few) in
    let before = subst (λ (g : QueryGraph). HasWeighed g (take front history) budget left index) (sym w.asked_is) (w.has history tells) in
    let over = subst (λ (g : QueryGraph). IsOverTo g (take front history) budget (index + 1)) w.asked_is (spends history budget index refl tells before) in
    over-reply q (take front history) budget (index + 1) (omega (arith, within, length-take-le front history less)) over

pub weighs-within : (told : Told) (q : QueryGraph) (front budget index : ℕ) (asked : QueryGraph) (left : ℕ) → Weighs told q front budget index asked left → front ≤ length told.lines.now → front ≤ index
    → (history : List Event) → Tells told history → IsReply q budget (take front history) over_budget → ⊥
weighs-within told q front budget index asked left w few all history tells (records, are, over) =
    let long = same_length tells.named history told.lines.now tells.history_is in
    let less : front ≤ length history = omega (arith, long, few) in
    let has = w.has history tells in
    let ours = screened_to-all q (take front history) index has.screened (omega (arith, all, length-take-le front history less)) has.are_screened in
    let same = one_screened q (take front history) records has.screened are ours in
    let works : work q records ≡ work q has.screened = ap (λ (r : List Numbered). work q r) same in
    absurd (omega (arith, over, works, has.paid))
