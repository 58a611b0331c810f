use Rattle.std.proofs.Common.{ℕ, List, [], sym, subst}
use Rattle.std.proofs.lemmas.Result.{err_from_is_err_and}
use Rattle.command_ends.specs.RunText.{AreFilesOf, jobs_of}
use Rattle.command_ends.specs.Ends.{seen}
use Rattle.audit_command.specs.Findings.{IsJudged}
use Rattle.audit_command.proofs.Finding.{finding, stops_at_report, stops_in_files}
use Rattle.audit_command.proofs.Judging.{have_files}
use Rattle.audit_command.proofs.command.find.Goals as goal

pub returns-in_err-bytes-clause-stop : goal.returns-in_err-bytes-clause-stop
returns-in_err-bytes-clause-stop g c =
    let p = err_from_is_err_and c.from_residual.result c.from_residual.ensures.1 in
    let before = seen g.F.Shelf.told g.F.Shelf.absent g.F.Shelf.faults c.args.shelf.now in
    let now = seen g.F.Shelf.told g.F.Shelf.absent g.F.Shelf.faults c.read_file.new.shelf in
    rw (p.1, p.2) (λ name read. stops_at_report name c.args.report.now c.args.script.now.groups before now _ read c.in_err-bytes.ensures.stop)

pub returns-in_err-files-clause-stop : goal.returns-in_err-files-clause-stop
returns-in_err-files-clause-stop g c =
    let p = err_from_is_err_and c.from_residual-in_err-files.result c.from_residual-in_err-files.ensures.1 in
    let before = seen g.F.Shelf.told g.F.Shelf.absent g.F.Shelf.faults c.args.shelf.now in
    let middle = seen g.F.Shelf.told g.F.Shelf.absent g.F.Shelf.faults c.read_file.new.shelf in
    let now = seen g.F.Shelf.told g.F.Shelf.absent g.F.Shelf.faults c.read_all_files.new.shelf in
    let stops = rw c.as_slice.ensures at c.in_err-files.ensures.stop in
    rw (p.1, p.2)
    (λ name read. stops_in_files name c.args.report.now c.args.script.now.groups before middle now _ read (c.in_ok-bytes.bytes.items, c.in_ok-bytes.ensures.read) c.in_ok-bytes.ensures.goes_on stops)

pub judge-requires-clause-files : goal.judge-requires-clause-files
judge-requires-clause-files g c =
    let have = rw c.as_slice.ensures at c.in_ok-files.ensures.have in
    have_files (g.F.Shelf.told c.read_file.new.shelf) c.in_ok-files.files (jobs_of c.args.script.now.groups) have.are

pub returns-in-Ok-clause-finding : goal.returns-in-Ok-clause-finding
returns-in-Ok-clause-finding g c = λ name read.
    let told = g.F.Shelf.told c.args.shelf.now in
    let groups = c.args.script.now.groups in
    let files = c.in_ok-files.files in
    let have = rw c.as_slice.ensures at c.in_ok-files.ensures.have in
    finding told name c.args.report.now groups c.in_ok-bytes.bytes.items files c.in-Ok.verdict read c.in_ok-bytes.ensures.read
    (subst (λ t. AreFilesOf t files (jobs_of groups)) c.in_ok-bytes.ensures.goes_on.told have.are)
    (subst (λ (b : List ℕ). IsJudged groups files b c.in-Ok.verdict) c.deref.ensures.value c.in-Ok.ensures)
