use Rattle.std.proofs.Common.{[], ◌∷◌, ap, sym, ◌∙◌}
use Rattle.report_rules.specs.Faults.{first_molecule}
use Rattle.told_history.specs.declared.records.RecordRead.{RecordRead}
use Rattle.told_history.specs.Reads.{outcome_of}
use Rattle.told_history.proofs.Naming.{there}
use Rattle.told_history.proofs.names.molecule_at.Goals as goal

pub returns-then-index-records : goal.returns-then-index-records
returns-then-index-records c =
    c.molecule_of.ensures ∙ ap (λ (r : RecordRead). first_molecule (outcome_of r ∷ [])) c.index-records-index.is
    ∙ sym (there c.args.records.now c.args.index _ c.if-index-records.true)
