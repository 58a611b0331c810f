use Rattle.std.proofs.Common.{◌≡◌, ◌∷◌, [], ◌++◌, take, All, true, sym, ap, subst, ◌∙◌}
use Rattle.std.proofs.lemmas.List.{take_all, take_more}
use Rattle.std.proofs.lemmas.List.Elements.{All-nil, All-push}
use Rattle.script_run.specs.declared.walk.Outcome.{Outcome}
use Rattle.script_run.proofs.group.are_whole.Goals as goal

pub loop-outcome-init : goal.loop-outcome-init
loop-outcome-init c = All-nil (λ (o : Outcome). o.whole ≡ true)

pub loop-outcome-preserved : goal.loop-outcome-preserved
loop-outcome-preserved c =
    let all = c.args.outcomes.now in
    let i = c.loop-outcome.outcome-index in
    let one = c.outcome-item.result in
    subst (λ l. All (λ (o : Outcome). o.whole ≡ true) l)
    (ap (λ (o : Outcome). take i all ++ o ∷ []) c.outcome-item.is ∙ sym (take_more all i one c.loop-outcome-test.true))
    (All-push (λ (o : Outcome). o.whole ≡ true) (take i all) one c.loop-outcome.invariant c.if-not-outcome.false)

pub returns : goal.returns
returns c = λ _. subst (λ l. All (λ (o : Outcome). o.whole ≡ true) l) (take_all c.loop-outcome.outcome-index c.args.outcomes.now c.loop-outcome-test.false) c.loop-outcome.invariant
