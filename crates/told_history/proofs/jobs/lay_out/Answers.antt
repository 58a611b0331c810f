use Rattle.std.proofs.Common.{◌≡◌, ℕ, ◌+◌, List, [], ◌∷◌, ◌++◌, length, take, sym, ap, ◌∙◌, arith}
use Rattle.std.proofs.lemmas.List.{length-take-le, take_more}
use Rattle.script_text.specs.declared.script.Group.{Group}
use Rattle.script_text.specs.declared.script.Job.{Job}
use Rattle.report_rules.specs.Dealing.{Dealt, dealt, dealt_from, dealt_group}
use Rattle.told_history.proofs.Laying.{groups_push}
use Rattle.told_history.proofs.jobs.lay_out.Goals as goal

pub loop-group-preserved : goal.loop-group-preserved
loop-group-preserved c =
    let groups = c.args.groups.now in
    let i = c.loop-group.group-index in
    let group = c.group-item.result in
    let so_far = c.loop-group.invariant in
    let more : take (i + 1) groups ≡ take i groups ++ group ∷ [] = take_more groups i group c.loop-group-test.true ∙ ap (λ (g : Group). take i groups ++ g ∷ []) (sym c.group-item.is) in
    let number : c.loop-group.number + 1 ≡ 1 + length (take i groups) = omega (arith, so_far.number, length-take-le i groups (omega (arith, c.loop-group-test.true))) in
    record {
      number = omega (arith, so_far.number);
      laid = λ shape.
          c.in_ok-lay_group.ensures shape
          ∙ ap (λ (l : List Dealt). l ++ dealt_from shape (c.loop-group.number + 1) 0 0 c.as_slice.result.now) (so_far.laid shape)
          ∙ ap (λ (js : List Job). dealt shape 1 (take i groups) ++ dealt_from shape (c.loop-group.number + 1) 0 0 js) c.as_slice.ensures
          ∙ ap (λ (n : ℕ). dealt shape 1 (take i groups) ++ dealt_group shape n group) number
          ∙ sym (ap (dealt shape 1) more ∙ groups_push shape 1 (take i groups) group);
    }
