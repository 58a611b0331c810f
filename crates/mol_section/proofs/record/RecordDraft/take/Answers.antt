use Rattle.std.proofs.lemmas.Result.{on_ok_weaker, IfErr-weaker}
use Rattle.mol_section.proofs.Records.{few_atoms}
use Rattle.mol_section.proofs.record.RecordDraft.take.Goals as goal

pub take_property-requires : goal.take_property-requires
take_property-requires c =
    let due = rw c.in-Property.is at c.requires.due in
    record { few = few_atoms due.3 due.4 }

pub returns-in-Atom-clause-taken : goal.returns-in-Atom-clause-taken
returns-in-Atom-clause-taken c = rw c.in-Atom.is (on_ok_weaker c.take_atom.result (λ takes. takes c.args.graph.now) c.take_atom.ensures.taken)

pub returns-in-Atom-clause-stop : goal.returns-in-Atom-clause-stop
returns-in-Atom-clause-stop c = rw c.in-Atom.is (IfErr-weaker c.take_atom.result _ _ (λ stop stops. stops c.args.graph.now) c.take_atom.ensures.stop)

pub returns-in-Bond-clause-taken : goal.returns-in-Bond-clause-taken
returns-in-Bond-clause-taken c = rw c.in-Bond.is c.take_bond.ensures.taken

pub returns-in-Property-clause-taken : goal.returns-in-Property-clause-taken
returns-in-Property-clause-taken c = rw c.in-Property.is (on_ok_weaker c.take_property.result (λ takes. takes c.args.graph.now) c.take_property.ensures.taken)

pub returns-in-Property-clause-stop : goal.returns-in-Property-clause-stop
returns-in-Property-clause-stop c = rw c.in-Property.is (IfErr-weaker c.take_property.result _ _ (λ stop stops. stops c.args.graph.now) c.take_property.ensures.stop)
