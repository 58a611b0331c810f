use Rattle.std.proofs.Common.{◌≡◌, ℕ, List, [], ◌++◌, append-nil, inl, inr, map, refl, sym, subst, arith}
use Rattle.std.specs.Prelude.{Option}
use Rattle.std.proofs.lemmas.Option.{slice_get_past, slice_get_read}
use Rattle.htss_defs.specs.Molecule.{Molecule}
use Rattle.script_text.specs.FilesByLine.{bytes_at}
use Rattle.report_text.specs.declared.report.Block.{Block}
use Rattle.report_rules.specs.Faults.{namings}
use Rattle.told_history.specs.declared.reads.JobRead.{JobRead}
use Rattle.told_history.specs.declared.records.RecordRead.{RecordRead}
use Rattle.told_history.specs.Named.{IsNamedAt, IsTable, records_in}
use Rattle.told_history.specs.Reads.{IsReadFor, outcome_of}
use Rattle.told_history.proofs.Namings.{named_in}
use Rattle.told_history.proofs.names.name_job.Goals as goal

pub returns-then-index-blocks : goal.returns-then-index-blocks
returns-then-index-blocks c = λ files one same is within named table.
    let read = c.index-reads-index.result in
    let here = c.index-blocks-index.result in
    let lines = c.lines_for-lines.result.now in
    let names = namings (map outcome_of (records_in read)) lines in
    let read_is = subst (λ (r : JobRead). IsReadFor (bytes_at files c.args.job.now.line) c.args.job.now.order r) (sym c.index-reads-index.is) (is read) in
    let at = slice_get_read c.args.blocks.now _ c.args.index here refl (omega (arith, c.if-index-blocks.true)) c.index-blocks-index.is in (
      names,
      subst (λ (o : Option Block). IsNamedAt files one o names) (sym at) (named_in files one c.args.job.now read here lines same read_is c.lines_for-lines.ensures),
      subst (λ (rs : List RecordRead). IsTable (named ++ namings (map outcome_of rs) lines) c.name_lines.new.table) c.records_of.ensures (c.name_lines.ensures named table),
    )

pub returns-else-index-reads : goal.returns-else-index-reads
returns-else-index-reads c = λ files one same is within named table. elim c.else-index-reads.either [
  | inl past ↦ (
    [],
    subst (λ (o : Option Block). IsNamedAt files one o []) (sym (slice_get_past c.args.blocks.now c.args.index (omega (arith, past.1)))) refl,
    subst (λ (n : List (ℕ × Molecule)). IsTable n c.args.table.now) (sym (append-nil named)) table,
  )
  | inr none ↦ absurd (omega (arith, within, none))
]
