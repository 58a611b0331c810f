use Rattle.std.proofs.Common.{ap, sym, ◌∙◌, ◌∷◌, []}
use Rattle.std.proofs.lemmas.Result.{IfErr-weaker, on_ok_weaker}
use Rattle.command_ends.specs.RunText.{file_named}
use Rattle.command_ends.specs.Outcomes.{stop_why}
use Rattle.script_files.proofs.JobFiles.{have_more, have_none, stops_at_one}
use Rattle.script_files.proofs.files.read_file_of.Goals as goal

pub returns-in-Load-clause-have : goal.returns-in-Load-clause-have
returns-in-Load-clause-have g c =
    let named = ap (λ j. file_named j) c.in-Load.is ∙ ap (λ n. n ∷ []) (sym c.text.ensures.items) in
    on_ok_weaker c.read_into.result (λ put jobs after have. have_more _ _ _ jobs c.args.job.now _ put.0 named put.1 (record { at = put.2 }) after have) c.read_into.ensures.put

pub returns-in-Load-clause-stop : goal.returns-in-Load-clause-stop
returns-in-Load-clause-stop g c =
    let named = ap (λ j. file_named j) c.in-Load.is ∙ ap (λ n. n ∷ []) (sym c.text.ensures.items) in
    IfErr-weaker c.read_into.result _ _ (λ stop was. stops_at_one _ _ c.args.job.now _ (stop_why stop) named was) c.read_into.ensures.stop

pub returns-in-Withdraw-clause-have : goal.returns-in-Withdraw-clause-have
returns-in-Withdraw-clause-have g c jobs after have = have_none _ _ jobs c.args.job.now (ap (λ j. file_named j) c.in-Withdraw.is) have

pub returns-in-Search-clause-have : goal.returns-in-Search-clause-have
returns-in-Search-clause-have g c =
    let named = ap (λ j. file_named j) c.in-Search.is ∙ ap (λ n. n ∷ []) (sym c.text-in-Search.ensures.items) in
    on_ok_weaker c.read_into-in-Search.result (λ put jobs after have. have_more _ _ _ jobs c.args.job.now _ put.0 named put.1 (record { at = put.2 }) after have) c.read_into-in-Search.ensures.put

pub returns-in-Search-clause-stop : goal.returns-in-Search-clause-stop
returns-in-Search-clause-stop g c =
    let named = ap (λ j. file_named j) c.in-Search.is ∙ ap (λ n. n ∷ []) (sym c.text-in-Search.ensures.items) in
    IfErr-weaker c.read_into-in-Search.result _ _ (λ stop was. stops_at_one _ _ c.args.job.now _ (stop_why stop) named was) c.read_into-in-Search.ensures.stop
