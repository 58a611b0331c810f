use Rattle.std.proofs.Common.{refl, ap, ◌∙◌}
use Rattle.std.proofs.lemmas.Result.{on_ok_weaker, IfErr-weaker}
use Rattle.std.specs.Prelude.{Some, None, is_some, if◌then◌else◌}
use Rattle.std.specs.List.{list_all}
use Rattle.query_mol.proofs.Drafts.{few_atoms, few_tests, end_code}
use Rattle.query_mol.proofs.draft.QueryDraftDraft.take.Goals as goal

pub take_list-requires : goal.take_list-requires
take_list-requires c = let due = rw c.in-List.is at c.requires.due in
    record { few = few_tests due.3 due.4.due.0 }

pub take_property-requires-clause-few : goal.take_property-requires-clause-few
take_property-requires-clause-few c = let due = rw c.in-Property.is at c.requires.due in
    few_atoms due.3 due.4.due

pub take_property-requires-clause-few_tests : goal.take_property-requires-clause-few_tests
take_property-requires-clause-few_tests c = let due = rw c.in-Property.is at c.requires.due in
    few_tests due.3 due.4.due

pub returns-in-Atom-clause-taken : goal.returns-in-Atom-clause-taken
returns-in-Atom-clause-taken c = rw c.in-Atom.is (on_ok_weaker c.take_atom.result (λ takes. takes c.args.graph.now) c.take_atom.ensures.taken)

pub returns-in-Atom-clause-stop : goal.returns-in-Atom-clause-stop
returns-in-Atom-clause-stop c = rw c.in-Atom.is (IfErr-weaker c.take_atom.result _ _ (λ stop stops. stops c.args.graph.now) c.take_atom.ensures.stop)

pub returns-in-Bond-clause-taken : goal.returns-in-Bond-clause-taken
returns-in-Bond-clause-taken c = rw c.in-Bond.is c.take_bond.ensures.taken

pub returns-in-List-clause-taken : goal.returns-in-List-clause-taken
returns-in-List-clause-taken c = rw c.in-List.is (on_ok_weaker c.take_list.result (λ takes. takes c.args.graph.now) c.take_list.ensures.taken)

pub returns-in-List-clause-stop : goal.returns-in-List-clause-stop
returns-in-List-clause-stop c = rw c.in-List.is (IfErr-weaker c.take_list.result _ _ (λ stop stops. stops c.args.graph.now) c.take_list.ensures.stop)

pub returns-in-Property-clause-taken : goal.returns-in-Property-clause-taken
returns-in-Property-clause-taken c = rw c.in-Property.is (on_ok_weaker c.take_property.result (λ takes. takes c.args.graph.now) c.take_property.ensures.taken)

pub returns-in-Property-clause-stop : goal.returns-in-Property-clause-stop
returns-in-Property-clause-stop c = rw c.in-Property.is (IfErr-weaker c.take_property.result _ _ (λ stop stops. stops c.args.graph.now) c.take_property.ensures.stop)

pub returns-then-are_told-clause-taken : goal.returns-then-are_told-clause-taken
returns-then-are_told-clause-taken c = rw c.in-End.is (λ lines n parts keeps here.
    (end_code lines keeps here.due n c.are_told.result (c.are_told.ensures ∙ ap (list_all (λ t. is_some t)) c.deref.ensures.value) ∙ ap (λ b. if b then None else Some 21) c.if-are_told.true, keeps, here.graph_is))

pub returns-else-are_told-clause-stop : goal.returns-else-are_told-clause-stop
returns-else-are_told-clause-stop c = rw c.in-End.is (λ lines n parts keeps here.
    (refl, end_code lines keeps here.due n c.are_told.result (c.are_told.ensures ∙ ap (list_all (λ t. is_some t)) c.deref.ensures.value) ∙ ap (λ b. if b then None else Some 21) c.if-are_told.false))
