use Rattle.std.proofs.Common.{map, sym, ap, ◌∙◌, arith}
use Rattle.htss_defs.specs.Molecule.{Molecule, molecule_graph}
use Rattle.htss_defs.specs.Marked.{unmarked}
use Rattle.mol_section.proofs.Outcomes.{length-lines_of}
use Rattle.mol_section.proofs.Records.{is_molecule, graph_is, is_accepted, is_refused}
use Rattle.mol_section.proofs.section.read_unmarked.Goals as goal

pub overflow_add-result : goal.overflow_add-result
overflow_add-result c = let stop = rw c.in-Err-Refused.field-0-is at c.in-Err-Refused.ensures.stop in
    record { fits = omega (arith, stop.within, length-lines_of c.args.bytes.now, c.requires) }

pub of_valid-requires : goal.of_valid-requires
of_valid-requires c = is_molecule c.in-Ok.ensures.read

pub returns-in-Ok-clause-told : goal.returns-in-Ok-clause-told
returns-in-Ok-clause-told c = λ marked is same.
    is_accepted c.in-Ok.ensures.read _ _ marked c.first_line.ensures c.name_of.ensures
    (ap (λ (m : Molecule). m.atoms) same ∙ ap (λ (m : Molecule). m.atoms) c.of_valid.ensures)
    (ap (λ (m : Molecule). m.bonds) same ∙ ap (λ (m : Molecule). map unmarked m.bonds) c.of_valid.ensures) is

pub returns-in-Ok-clause-graph : goal.returns-in-Ok-clause-graph
returns-in-Ok-clause-graph c = graph_is c.in-Ok.ensures.read ∙ sym (ap molecule_graph c.of_valid.ensures)

pub returns-in-Err-Refused-clause-told : goal.returns-in-Err-Refused-clause-told
returns-in-Err-Refused-clause-told c = is_refused _ c.args.first _ _ (rw c.in-Err-Refused.field-0-is at c.in-Err-Refused.ensures.stop)
