use Rattle.std.proofs.Common.{refl, sym}
use Rattle.mol_section.proofs.Records.{property_refused, property_taken, written}
use Rattle.mol_section.proofs.record.Record.take_property.Goals as goal

pub returns-in-None-clause-stop : goal.returns-in-None-clause-stop
returns-in-None-clause-stop c = λ graph lines n parts keeps here. (refl, property_refused _ c.deref_mut.ensures.value keeps here c.in-None.ensures.refused)

pub returns-in-Some-clause-taken : goal.returns-in-Some-clause-taken
returns-in-Some-clause-taken c =
    let back = written c.take_property.new.atoms c.args.self.now.atoms.items c.deref_mut.result.now c.args.self.now.atoms.len c.deref_mut.ensures.value c.take_property.auto.atoms (sym c.args.self.now.atoms.ok.0) in
    let ok = c.in-Some.ensures in
    λ graph lines n parts keeps here. rw back (property_taken c.deref_mut.result.now c.take_property.new.atoms c.in-Some.aside c.deref_mut.ensures.value ok.accepted ok.atoms ok.aside ok.valid keeps here)
