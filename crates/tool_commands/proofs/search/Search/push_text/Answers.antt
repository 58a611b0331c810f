use Rattle.std.proofs.Common.{◌++◌, ap, ◌∙◌}
use Rattle.std.proofs.lemmas.Result.{on_ok_weaker}
use Rattle.tool_commands.proofs.Searching.{found-reply, over-reply, holds-left, holds-spent}
use Rattle.tool_commands.proofs.search.Search.push_text.Goals as goal

pub returns-in-Some : goal.returns-in-Some
returns-in-Some c = λ records holds.
    let t = c.args.self in
    found-reply t.matcher t.budget c.in-Some.field-0 t.lines.items c.push_count.new.text.items c.args.text.now.items _ t.count records
    (holds-left t.matcher t.budget t.left c.in-Some.field-0 t.lines.items t.count records c.in-Some.is holds) c.in_ok-push_count-in-Some.ensures.ok
    (c.in_ok-extend_from_slice-in-Some.ensures.items ∙ ap (λ x. c.args.text.now.items ++ x) c.deref.ensures.value)

pub returns : goal.returns
returns c =
    let t = c.args.self in
    on_ok_weaker c.push_overbudget.result
    (λ grown. λ records holds. over-reply t.matcher t.budget c.args.text.now.items _ records (holds-spent t.matcher t.budget t.left t.lines.items t.count records c.in-None.is holds) grown)
    c.push_overbudget.ensures.ok
