use Rattle.std.proofs.Common.{refl, sym}
use Rattle.query_mol.proofs.Drafts.{list_taken, list_refused}
use Rattle.query_mol.proofs.Told.{written}
use Rattle.query_mol.proofs.draft.QueryDraft.take_list.Goals as goal

pub returns-then-take_old_list-clause-taken : goal.returns-then-take_old_list-clause-taken
returns-then-take_old_list-clause-taken c =
    let back = written c.take_old_list.new.tests c.args.self.now.tests.items c.deref_mut.result.now c.args.self.now.tests.len c.deref_mut.ensures.value c.take_old_list.auto.tests (sym c.args.self.now.tests.ok.0) in
    λ graph lines n parts keeps here. rw back (list_taken keeps c.deref_mut.result.now _ c.take_old_list.result c.deref_mut.ensures.value c.take_old_list.ensures.passes c.if-take_old_list.true (c.take_old_list.ensures.tests c.if-take_old_list.true) here)

pub returns-else-take_old_list-clause-stop : goal.returns-else-take_old_list-clause-stop
returns-else-take_old_list-clause-stop c = λ graph lines n parts keeps here.
    (refl, list_refused keeps c.deref_mut.result.now c.take_old_list.result c.deref_mut.ensures.value c.take_old_list.ensures.passes c.if-take_old_list.false here)
