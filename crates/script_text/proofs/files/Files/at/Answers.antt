use Rattle.std.proofs.Common.{sym, ap, ◌∙◌}
use Rattle.std.specs.Prelude.{Some}
use Rattle.std.specs.Option.{option_copied}
use Rattle.script_text.specs.FilesByLine.{bytes_at}
use Rattle.script_text.proofs.Lookups.{found, looked_up}
use Rattle.script_text.proofs.files.Files.at.Goals as goal

pub unwrap-requires : goal.unwrap-requires
unwrap-requires c = found c.self.inside.files.entries c.args.line c.get.result c.get.ensures.value (rw c.self.view_is c.requires)

pub returns-clause-bytes : goal.returns-clause-bytes
returns-clause-bytes c =
    ap (λ files. bytes_at files c.args.line) (sym c.self.view_is) ∙ sym (looked_up c.self.inside.files.entries c.args.line) ∙ sym c.get.ensures.value
    ∙ ap option_copied c.unwrap.ensures ∙ ap Some (sym c.as_slice.ensures)
