use Rattle.std.proofs.Common.{ℤ, ◌≡◌, length, sym, ap, ◌∙◌, arith}
use Rattle.std.specs.Prelude.{fold}
use Rattle.htss_defs.specs.declared.mol.Atom.{Atom}
use Rattle.std.specs.Option.{option_map}
use Rattle.mol_section.specs.SectionLines.{listed_charge}
use Rattle.mol_section.specs.PropertyLines.{put_charge, atom_at}
use Rattle.mol_section.proofs.Entries.{goes_on, ends, no_count, starts}
use Rattle.mol_section.proofs.AtomSets.{charged, passed}
use Rattle.mol_section.proofs.properties.list_charges.Goals as goal

pub returns-in_default-clause-read : goal.returns-in_default-clause-read
returns-in_default-clause-read c = sym (ap (option_map (fold put_charge c.args.atoms.now)) (no_count listed_charge put_charge _ _ c.in_default.ensures))

pub loop-init : goal.loop-init
loop-init c = record {
  read = ap (option_map (fold put_charge c.args.atoms.now)) (starts listed_charge put_charge (length c.args.atoms.now) c.in-Some.count _ _ c.in-Some.ensures);
  valid = λ least all. all;
}

pub returns-in_default-charge_at-clause-read : goal.returns-in_default-charge_at-clause-read
returns-in_default-charge_at-clause-read c = ends listed_charge put_charge c.loop.atoms _ c.in-Some.count c.loop.counter _ _ c.loop-test.true c.in_default-charge_at.ensures.entry c.loop.invariant.read

pub loop-preserved : goal.loop-preserved
loop-preserved c =
    let range = c.in-Some-charge_at.ensures.charge in
    let old : Atom = atom_at c.loop.atoms c.in-Some-charge_at.entry.place in
    let is : c.with_charge.result ≡ record old { charge = c.in-Some-charge_at.entry.charge } =
    c.with_charge.ensures ∙ ap (λ (z : ℤ). record old { charge = z }) (passed c.in-Some-charge_at.entry.charge range.0 range.1) in
    record {
      read = rw is (goes_on listed_charge put_charge c.loop.atoms _ c.in-Some.count c.loop.counter _ _ c.in-Some-charge_at.entry.place c.in-Some-charge_at.entry.charge _ c.loop-test.true c.in-Some-charge_at.ensures.entry c.loop.invariant.read);
      valid = λ least all. charged least c.loop.atoms _ c.in-Some-charge_at.entry.charge c.with_charge.result (omega (arith, c.in-Some-charge_at.ensures.place)) range.0 range.1 is (c.loop.invariant.valid least all);
    }
