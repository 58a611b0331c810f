use Rattle.std.proofs.Common.{◌+◌, ◌++◌, ◌∷◌, [], sym, ap, subst, ◌∙◌}
use Rattle.std.proofs.lemmas.Result.{on_ok_weaker}
use Rattle.ctfile.proofs.Marks.{IsMolecule-marked}
use Rattle.screen.proofs.Deciding.{decide_screened}
use Rattle.tool_commands.specs.Searches.{HitsHold, SearchHolds}
use Rattle.tool_commands.proofs.Searching.{HitsHold-passed, IsOver-more, holds-left, holds-over, holds-spent, holds-under}
use Rattle.tool_commands.proofs.Unmarked.{one_marked}
use Rattle.tool_commands.proofs.search.Search.take.Goals as goal

pub returns-in_default-clause-holds : goal.returns-in_default-clause-holds
returns-in_default-clause-holds c = λ records at marked is same holds.
    let t = c.args.self.now in
    let over = holds-spent t.matcher t.budget t.left t.lines.items t.count records c.in_default.is holds in
    holds-over t.matcher t.budget t.left t.lines.items t.count _ c.in_default.is
    (IsOver-more t.matcher t.budget records (record { name = c.args.name.now; mol = marked }) over (decide_screened t.matcher marked))

pub returns-then-not-allows-clause-holds : goal.returns-then-not-allows-clause-holds
returns-then-not-allows-clause-holds c = λ records at marked is same holds.
    let t = c.args.self.now in
    let valid = IsMolecule-marked c.args.mol marked is same c.atoms-atoms.ensures.valid in
    let none = c.allows.ensures.none c.if-not-allows.true marked valid is same in
    holds-under t.matcher t.budget t.left c.in-Some.left t.lines.items t.count _ c.in-Some.is
    (HitsHold-passed t.matcher t.budget c.in-Some.left t.lines.items t.count records (record { name = c.args.name.now; mol = marked })
    (holds-left t.matcher t.budget t.left c.in-Some.left t.lines.items t.count records c.in-Some.is holds) none.0 none.1)

pub returns-then-not-screens-clause-holds : goal.returns-then-not-screens-clause-holds
returns-then-not-screens-clause-holds c = λ records at marked is same holds.
    let t = c.args.self.now in
    let mol = c.mark.new.mol in
    let one = one_marked c.args.mol mol marked c.mark.ensures.marked c.mark.ensures.atoms c.mark.ensures.bonds is same in
    let unscreened = c.screens.ensures.unscreened c.if-not-screens.true in
    let none = c.screens.ensures.none c.if-not-screens.true in
    holds-under t.matcher t.budget t.left c.in-Some.left t.lines.items t.count _ c.in-Some.is
    (subst (λ m. HitsHold t.matcher t.budget c.in-Some.left t.lines.items t.count (records ++ record { name = c.args.name.now; mol = m } ∷ [])) one
    (HitsHold-passed t.matcher t.budget c.in-Some.left t.lines.items t.count records (record { name = c.args.name.now; mol = mol })
    (holds-left t.matcher t.budget t.left c.in-Some.left t.lines.items t.count records c.in-Some.is holds) unscreened none))

pub returns-clause-holds : goal.returns-clause-holds
returns-clause-holds c =
    let t = c.args.self.now in
    let n = c.search.new.self in
    on_ok_weaker c.search.result
    (λ more. λ records at marked is same holds.
    let one = one_marked c.args.mol c.mark.new.mol marked c.mark.ensures.marked c.mark.ensures.atoms c.mark.ensures.bonds is same in
    subst (λ m. SearchHolds t.matcher t.budget n.left n.lines.items n.count (records ++ record { name = c.args.name.now; mol = m } ∷ [])) one
    ((rw c.screens.ensures.same at more) records (ap (λ n. n + 1) (sym at)) (holds-left t.matcher t.budget t.left c.in-Some.left t.lines.items t.count records c.in-Some.is holds)))
    c.search.ensures.holds
