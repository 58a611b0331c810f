use Rattle.mol_section.proofs.properties.take_property.Goals as goal
use Rattle.mol_section.proofs.properties.take_property.Goals.{else-take_charges-via-then-take_charges+else-take_masses, else-take_charges-via-else-take_charges}

pub returns-then-take_masses-clause-valid : goal.returns-then-take_masses-clause-valid
returns-then-take_masses-clause-valid c = λ least all.
    c.take_masses.ensures.valid least (c.take_charges.ensures.valid least (c.take_aside-now.ensures.valid least all))

pub returns-else-take_charges-clause-valid : goal.returns-else-take_charges-clause-valid
returns-else-take_charges-clause-valid c = λ least all.
    let before = c.take_charges.ensures.valid least (c.take_aside-now.ensures.valid least all) in
    elim c.else-take_charges.branch [
      | else-take_charges-via-then-take_charges+else-take_masses w ↦ rw w.atoms-is (w.take_masses.ensures.valid least before)
      | else-take_charges-via-else-take_charges w ↦ rw w.atoms-is before
    ]
