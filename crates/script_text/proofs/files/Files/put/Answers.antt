use Rattle.std.proofs.Common.{◌≤◌, length, sym}
use Rattle.std.specs.Ordering.{nat_cmp}
use Rattle.std.proofs.lemmas.Map.Views.{All-values-insert_entry}
use Rattle.outside.specs.Files.{file_limit}
use Rattle.script_text.proofs.Lookups.{put_at}
use Rattle.script_text.proofs.files.Files.put.Goals as goal

pub returns-clause-ok : goal.returns-clause-ok
returns-clause-ok c =
    rw (sym c.self.view_is, sym c.new.ensures) (put_at c.self.inside.files.entries c.insert.new.self.entries c.args.line c.new.result c.in_ok-insert.ensures.updates.0)

pub invariant_of-self-2 : goal.invariant_of-self-2
invariant_of-self-2 c =
    rw c.in_ok-insert.ensures.entries
    (All-values-insert_entry nat_cmp c.args.line c.new.result (λ bytes. length bytes ≤ file_limit) c.self.inside.files.entries c.self.invariant (rw c.new.ensures c.requires))
