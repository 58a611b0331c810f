use Rattle.std.proofs.Common.{◌-◌, ◌++◌, ap, ◌∙◌, arith}
use Rattle.hit_report.specs.CodesLines.{codes_line}
use Rattle.tool_commands.proofs.CodesLines.{first_lines, lines_more}
use Rattle.tool_commands.proofs.codes.push_lines.Goals as goal

pub loop-atom-preserved : goal.loop-atom-preserved
loop-atom-preserved c =
    let mol = c.args.mol.now in
    let atom = c.loop-atom.atom in record {
      loaded = c.codes.ensures.loaded;
      lines =
          lines_more mol (atom - 1) atom c.args.text.now.items c.loop-atom.text.items c.push_codes.new.text.items c.loop-atom.invariant.lines (omega (arith, c.loop-atom.auto.atom))
          (c.in_ok-push_codes.ensures.ok ∙ ap (λ codes. c.loop-atom.text.items ++ codes_line atom codes) c.codes.ensures.codes)
          ∙ ap (λ n. c.args.text.now.items ++ first_lines mol n) (omega arith);
    }
