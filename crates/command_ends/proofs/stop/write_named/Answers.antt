use Rattle.std.proofs.Common.{[], ◌∷◌, ◌++◌, ap, ◌∙◌}
use Rattle.std.proofs.lemmas.Result.{on_err_weaker}
use Rattle.std.specs.Io.KnownBytes.{append_known}
use Rattle.command_ends.proofs.Writing.{GrewByFront-longer, GrewByFront-after, append_known-twice}
use Rattle.command_ends.proofs.stop.write_named.Goals as goal

pub returns-in-Err-clause-err : goal.returns-in-Err-clause-err
returns-in-Err-clause-err g c =
    GrewByFront-longer _ _ (c.args.lead.now ++ c.args.name.now) (10 ∷ []) (GrewByFront-longer _ _ c.args.lead.now c.args.name.now c.in-Err.ensures.err)

pub returns-in-Err-write_whole-clause-err : goal.returns-in-Err-write_whole-clause-err
returns-in-Err-write_whole-clause-err g c =
    let grew = rw c.as_bytes.ensures.value at c.in-Err-write_whole.ensures.err in
    GrewByFront-longer _ _ (c.args.lead.now ++ c.args.name.now) (10 ∷ []) (GrewByFront-after _ _ _ c.args.lead.now c.args.name.now c.in-Ok.ensures.ok grew)

pub returns-clause-err : goal.returns-clause-err
returns-clause-err g c =
    let named = c.in-Ok-write_whole.ensures.ok
    ∙ ap (append_known (g.K.Sink.written c.write_whole.new.out)) c.as_bytes.ensures.value
    ∙ ap (λ k. append_known k c.args.name.now) c.in-Ok.ensures.ok
    ∙ append_known-twice (g.K.Sink.written c.args.out.now) c.args.lead.now c.args.name.now in
    on_err_weaker c.write_whole-3.result (GrewByFront-after _ _ _ (c.args.lead.now ++ c.args.name.now) (10 ∷ []) named) c.write_whole-3.ensures.err
