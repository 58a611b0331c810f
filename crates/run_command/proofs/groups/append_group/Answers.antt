use Rattle.std.proofs.Common.{◌++◌, All, List, ℕ, ap, subst, ◌∙◌}
use Rattle.std.specs.List.{flat_map}
use Rattle.std.proofs.lemmas.Result.{on_ok_weaker}
use Rattle.report_text.specs.ReportText.{block_text}
use Rattle.report_text.specs.declared.report.Block.{Block}
use Rattle.report_text.specs.Typed.{IsTypedBlock}
use Rattle.htss_defs.specs.declared.shape.Shape.{Shape}
use Rattle.script_run.specs.Workers.{accounts_of}
use Rattle.run_command.specs.Runs.{with_header}
use Rattle.board_jobs.proofs.Chained.{on_err}
use Rattle.run_command.proofs.Gone.{gone_only, heard_done}
use Rattle.run_command.proofs.groups.append_group.Goals as goal

pub returns-in_err-blocks-clause-broken : goal.returns-in_err-blocks-clause-broken
returns-in_err-blocks-clause-broken g c =
    on_err c.from_residual-in_err-blocks.result
    (gone_only c.args.board.now.shape (accounts_of c.args.workers.now) (accounts_of c.run_group.new.workers) c.in_err-blocks.ensures.broken)

pub returns-clause-done : goal.returns-clause-done
returns-clause-done g c =
    on_ok_weaker c.append_blocks.result
    (λ text. (
      c.in_ok-blocks.blocks.items,
      c.in_ok-blocks.ensures.done,
      text
          ∙ ap (λ (bs : List Block). c.append_header.new.text.items ++ flat_map block_text bs) c.deref-2.ensures.value
          ∙ ap (λ (t : List ℕ). t ++ flat_map block_text c.in_ok-blocks.blocks.items) (c.in_ok-append_header.ensures.ok ∙ ap (λ (k : Shape). with_header c.args.text.now.items k c.args.budget) c.shape.ensures.value),
      subst (All IsTypedBlock) c.deref.ensures.value c.are_typed.ensures,
    ))
    c.append_blocks.ensures.ok

pub returns-clause-broken : goal.returns-clause-broken
returns-clause-broken g c =
    on_err c.append_blocks.result
    (heard_done c.args.board.now.shape c.args.files.now c.args.budget c.args.group.now (accounts_of c.args.workers.now) (accounts_of c.run_group.new.workers) c.in_ok-blocks.blocks.items
    c.requires.shape c.in_ok-blocks.ensures.done)
