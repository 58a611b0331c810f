use Rattle.std.proofs.Common.{List, ◌≡◌, subst, sym, arith}
use Rattle.htss_defs.specs.declared.query.QueryAtom.{QueryAtom}
use Rattle.htss_defs.specs.QueryGraph.{IsQuery}
use Rattle.mol_section.specs.Lines.{lines_of}
use Rattle.mol_section.proofs.Outcomes.{length-lines_of}
use Rattle.query_mol.specs.QueryAtoms.{told_atoms}
use Rattle.query_mol.proofs.Joined.{is_query, is_accepted, is_refused}
use Rattle.query_mol.proofs.query.section_query.Goals as goal

pub overflow_add-result : goal.overflow_add-result
overflow_add-result c =
    let stop = rw c.in-Err-Refused.field-0-is at c.in-Err-Refused.ensures.stop in
    record { fits = omega (arith, stop.within, length-lines_of c.args.bytes.now) }

pub unwrap-requires : goal.unwrap-requires
unwrap-requires c =
    let told : c.in_ok-atoms-in-Ok.atoms.items ≡ told_atoms c.in-Ok.read.atoms.items c.in-Ok.read.tests.items = rw (sym c.deref.ensures.value, sym c.deref-in-Ok.ensures.value) c.in_ok-atoms-in-Ok.ensures in
    c.marked_query.ensures.some.1 (subst (λ (a : List QueryAtom). IsQuery (record { atoms = a; bonds = c.in-Ok.read.bonds.items })) (sym told) (is_query c.in-Ok.ensures.read))

pub returns-in_ok-atoms-in-Ok : goal.returns-in_ok-atoms-in-Ok
returns-in_ok-atoms-in-Ok c =
    let told : c.in_ok-atoms-in-Ok.atoms.items ≡ told_atoms c.in-Ok.read.atoms.items c.in-Ok.read.tests.items = rw (sym c.deref.ensures.value, sym c.deref-in-Ok.ensures.value) c.in_ok-atoms-in-Ok.ensures in
    is_accepted c.in-Ok.ensures.read _ _ told (rw c.unwrap.ensures at c.marked_query.ensures.value) (rw c.unwrap.ensures at c.marked_query.ensures.marked)

pub returns-in-Err-Refused : goal.returns-in-Err-Refused
returns-in-Err-Refused c =
    let stop = rw c.in-Err-Refused.field-0-is at c.in-Err-Refused.ensures.stop in
    rw (c.in-Err-Refused.line-is, c.in-Err-Refused.code-is) (is_refused (lines_of c.args.bytes.now) c.in-Err-Refused.line c.in-Err-Refused.code stop)
