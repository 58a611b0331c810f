use Rattle.std.proofs.Common.{[]}
use Rattle.script_files.proofs.JobFiles.{no_files}
use Rattle.script_files.proofs.files.read_files.Goals as goal

pub returns-clause-have : goal.returns-clause-have
returns-clause-have g c = c.in_ok-add_files.ensures.have [] c.requires (no_files (g.F.Shelf.told c.args.shelf.now) c.new-files.result c.new-files.ensures)
