use Rattle.std.proofs.Common.{length, sym, ap, arith}
use Rattle.std.specs.Prelude.{fold}
use Rattle.std.specs.Option.{option_map}
use Rattle.mol_section.specs.SectionLines.{listed_mass}
use Rattle.mol_section.specs.PropertyLines.{put_mass}
use Rattle.mol_section.proofs.Entries.{goes_on, ends, no_count, starts}
use Rattle.mol_section.proofs.AtomSets.{weighed}
use Rattle.mol_section.proofs.properties.list_masses.Goals as goal

pub returns-in_default-clause-read : goal.returns-in_default-clause-read
returns-in_default-clause-read c = sym (ap (option_map (fold put_mass c.args.atoms.now)) (no_count listed_mass put_mass _ _ c.in_default.ensures))

pub loop-init : goal.loop-init
loop-init c = record {
  read = ap (option_map (fold put_mass c.args.atoms.now)) (starts listed_mass put_mass (length c.args.atoms.now) c.in-Some.count _ _ c.in-Some.ensures);
  valid = λ least all. all;
}

pub returns-in_default-mass_at-clause-read : goal.returns-in_default-mass_at-clause-read
returns-in_default-mass_at-clause-read c = ends listed_mass put_mass c.loop.atoms _ c.in-Some.count c.loop.counter _ _ c.loop-test.true c.in_default-mass_at.ensures.entry c.loop.invariant.read

pub loop-preserved : goal.loop-preserved
loop-preserved c = record {
  read = rw c.with_mass.ensures (goes_on listed_mass put_mass c.loop.atoms _ c.in-Some.count c.loop.counter _ _ c.in-Some-mass_at.entry.place c.in-Some-mass_at.entry.mass _ c.loop-test.true c.in-Some-mass_at.ensures.entry c.loop.invariant.read);
  valid = λ least all. weighed least c.loop.atoms _ c.in-Some-mass_at.entry.mass _ (omega (arith, c.in-Some-mass_at.ensures.place)) c.in-Some-mass_at.ensures.mass c.with_mass.ensures (c.loop.invariant.valid least all);
}
