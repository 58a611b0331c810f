use Rattle.std.proofs.Common.{refl, sym}
use Rattle.query_mol.proofs.Drafts.{property_refused, new_list_refused, property_taken}
use Rattle.query_mol.proofs.Told.{written}
use Rattle.query_mol.proofs.draft.QueryDraft.take_property.Goals as goal

pub returns-in-None-clause-stop : goal.returns-in-None-clause-stop
returns-in-None-clause-stop c = λ graph lines n parts keeps here. (refl, property_refused keeps c.deref_mut.result.now c.deref_mut.ensures.value here c.in-None.ensures.refused)

pub returns-then-take_new_list-clause-taken : goal.returns-then-take_new_list-clause-taken
returns-then-take_new_list-clause-taken c =
    let back = written c.take_property.new.atoms c.args.self.now.atoms.items c.deref_mut.result.now c.args.self.now.atoms.len c.deref_mut.ensures.value c.take_property.auto.atoms (sym c.args.self.now.atoms.ok.0) in
    let back_tests = written c.take_new_list.new.tests c.args.self.now.tests.items c.deref_mut-in-Some.result.now c.args.self.now.tests.len c.deref_mut-in-Some.ensures.value c.take_new_list.auto.tests (sym c.args.self.now.tests.ok.0) in
    let ok = c.in-Some.ensures in
    λ graph lines n parts keeps here. rw (back, back_tests)
    (property_taken keeps c.deref_mut.result.now c.deref_mut.ensures.value here c.deref_mut-in-Some.result.now c.take_new_list.result c.deref_mut-in-Some.ensures.value c.take_new_list.ensures.passes ok.accepted
    c.take_property.new.atoms c.take_new_list.new.tests c.in-Some.aside c.if-take_new_list.true ok.atoms ok.aside ok.valid (c.take_new_list.ensures.tests c.if-take_new_list.true))

pub returns-else-take_new_list-clause-stop : goal.returns-else-take_new_list-clause-stop
returns-else-take_new_list-clause-stop c = λ graph lines n parts keeps here.
    (refl, new_list_refused keeps c.deref_mut.result.now c.deref_mut.ensures.value here c.deref_mut-in-Some.result.now c.take_new_list.result c.deref_mut-in-Some.ensures.value c.take_new_list.ensures.passes c.in-Some.ensures.accepted c.if-take_new_list.false)
